-- The best of some pairs of a bucket and one core.
use Rattle.std.specs.Prelude.{ℕ, ◌*◌, ◌/◌, ◌<◌, ◌≤◌, ◌≡◌, ◌⊎◌, List, slice_index, if◌then◌else◌, ◌==◌, nat_lt, Bool, false, ◌&&◌, ◌||◌, Option, Some, None}
use Rattle.indirection.specs.declared.proposal.Proposal.{Proposal}
use Rattle.balancer.specs.Greedy.{RoundState, IsAllowed, gain, proposal}

-- as a test: q gains more than p, or as much with a lower bucket
abbrev pub is_ahead : Proposal → Proposal → Bool
is_ahead p q = nat_lt p.gain q.gain || (p.gain == q.gain && nat_lt q.bucket p.bucket)

-- the first, unless there is none or the second is ahead of it
abbrev pub leading : Option Proposal → Option Proposal → Option Proposal
leading None o = o
leading (Some p) None = Some p
leading (Some p) (Some q) = if is_ahead p q then Some q else Some p

-- as a test: the proposal gains more than half of the difference could
abbrev pub is_beyond : Option Proposal → ℕ → Bool
is_beyond None apart = false
is_beyond (Some p) apart = nat_lt (apart * apart / 4) p.gain

-- the proposal is an allowed pair with core d; of the pairs of such a bucket with d, no allowed one gains more, or as much with a lower bucket
abbrev pub IsLeading : RoundState → ℕ → (ℕ → Type 0) → Option Proposal → Type 0
IsLeading s d Q None = (b : ℕ) → Q b → ¬ (IsAllowed s b d)
IsLeading s d Q (Some p) =
    IsAllowed s p.bucket d × (p ≡ proposal s p.bucket d)
    × ((b : ℕ) → Q b → IsAllowed s b d → (gain s b d < p.gain) ⊎ ((gain s b d ≡ p.gain) × (p.bucket ≤ b)))

-- of the first n cores this is the lowest of those that carry the least
pub record IsLeast (carried : List ℕ) (n core : ℕ) : Type 0 where
  pub inside : core < n
  pub least : (c : ℕ) → c < n → slice_index carried core ≤ slice_index carried c
  pub lowest : (c : ℕ) → c < n → slice_index carried c ≡ slice_index carried core → core ≤ c
