-- The parts of a line.
use Rattle.std.specs.Prelude.{◌≡◌, ℕ, List, ◌++◌}
use Rattle.std.specs.Fmt.{decimal}
use Rattle.rss_base.specs.declared.piece.Piece.{Piece}
use Rattle.rss_base.specs.declared.piece.Piece.TheVariants.{Bytes, Number, Hex2, Hex8}
use Rattle.rss_base.specs.Hex.{hex_text}

-- the bytes of a part
abbrev pub piece_text : Piece → List ℕ
piece_text (Bytes bytes) = bytes.now
piece_text (Number value) = decimal value
piece_text (Hex2 value) = hex_text 2 value
piece_text (Hex8 value) = hex_text 8 value

-- a front of the whole was appended
abbrev pub GrowsByFront : List ℕ → List ℕ → List ℕ → Type 0
GrowsByFront old new whole = (front rest : List ℕ) × (whole ≡ front ++ rest) × (new ≡ old ++ front)
