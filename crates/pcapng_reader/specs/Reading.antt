-- The reading of a pcapng capture as a relation on whole lists of bytes.
use Rattle.std.specs.Prelude.{◌≡◌, ◌<◌, ℕ, ◌+◌, List, [], ◌∷◌, ◌++◌, length, Option, None, Some}
use Rattle.pcapng_reader.specs.declared.fault.NgBreak.{NgBreak}
use Rattle.pcapng_reader.specs.Scope.{Scope}
use Rattle.pcapng_reader.specs.Breaks.{first_break}
use Rattle.pcapng_reader.specs.Blocks.{Packet, extent, block_packets, scope_after, at_first}

-- block n stands whole at the front of these bytes, and nothing breaks it
pub record IsBlock (scope : Scope) (n : ℕ) (bytes block : List ℕ) : Type 0 where
  pub some : 0 < length block
  pub whole : length block ≡ extent scope.order bytes
  pub sound : first_break scope n bytes ≡ None

-- these blocks stand one behind the other, each read in the scope of those before it, and hold these packets. Behind them the scope is `last`, and the tail is left
abbrev pub Begins : Scope → ℕ → List ℕ → List (List ℕ) → List Packet → Scope → List ℕ → Type 0
Begins scope n bytes [] packets last tail = (packets ≡ []) × (last ≡ scope) × (tail ≡ bytes)
Begins scope n bytes (block ∷ blocks) packets last tail =
    (rest : List ℕ) × (later : List Packet) × (bytes ≡ block ++ rest) × IsBlock scope n bytes block × (packets ≡ block_packets scope bytes ++ later)
    × Begins (scope_after scope bytes) (n + 1) rest blocks later last tail

-- block n doesn't stand in the tail: nothing is there, or it breaks so
abbrev pub TailEnds : Scope → ℕ → List ℕ → Option NgBreak → Type 0
TailEnds scope n tail None = tail ≡ []
TailEnds scope n tail (Some e) = (0 < length tail) × (first_break scope n tail ≡ Some e)

-- the packets of a list of bytes, and the end or the first break behind them
abbrev pub Reads : List ℕ → List Packet → Option NgBreak → Type 0
Reads bytes packets ending =
    (blocks : List (List ℕ)) × (last : Scope) × (tail : List ℕ) × Begins at_first 0 bytes blocks packets last tail × TailEnds last (length blocks) tail ending
