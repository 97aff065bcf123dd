-- The hashes of single bytes, place by place.
use Rattle.std.specs.Prelude.{◌≡◌, ◌<◌, ℕ, ◌+◌, ◌*◌, List, [], ◌∷◌, length, drop, slice_index}
use Rattle.toeplitz.specs.Toeplitz.{toeplitz}

-- for each of so many places the hash of each byte by the key from that place on, in the order of the places and then of the bytes
pub record AreHashes (places : ℕ) (key : List ℕ) (hashes : List ℕ) : Type 0 where
  pub count : length hashes ≡ places * 256
  pub each : (place byte : ℕ) → place < places → byte < 256 → slice_index hashes (place * 256 + byte) ≡ toeplitz (drop place key) (byte ∷ [])
