-- What is true of every table.
use Rattle.std.specs.Prelude.{◌≤◌, ◌*◌, ℕ, Bool, List, length, unwrap_or}
use Rattle.std.specs.List.{AllByRecursion}
use Rattle.std.specs.Map.{lookup}

-- a state can stand for a number of packets that were done
abbrev pub StandsWithin : {S : Type 0} → (S → ℕ → Type 0) → ℕ → S → Type 0
StandsWithin stands_for done state = (k : ℕ) × (k ≤ done) × stands_for state k

-- each state can
abbrev pub AllWithin : {K S : Type 0} → (S → ℕ → Type 0) → ℕ → List (K × S) → Type 0
AllWithin stands_for done entries = AllByRecursion (λ e. StandsWithin stands_for done e.1) entries

-- each flow has packets, and each packet is below 2 ^ 32 bytes long
pub record IsSoundTable {K S : Type 0} (stands_for : S → ℕ → Type 0) (flows : List (K × S)) (done sum : ℕ) : Type 0 where
  pub states : AllWithin stands_for done flows
  pub few : length flows ≤ done
  pub bytes : sum ≤ done * 4294967295

-- the state at a key, or the opening where it has none
abbrev pub state_at : {K S : Type 0} → (K → K → Bool) → S → List (K × S) → K → S
state_at eq opening entries key = unwrap_or (lookup (eq key) entries) opening
