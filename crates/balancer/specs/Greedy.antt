-- The greedy round: all pairs each time.
use Rattle.std.specs.Prelude.{ℕ, zero, suc, ◌+◌, ◌-◌, ◌*◌, ◌<◌, ◌≤◌, ◌≡◌, ◌⊎◌, List, [], ◌∷◌, ◌++◌, map, filter, flat_map, sum, length, slice_index, slice_set, if◌then◌else◌, ◌==◌, nat_lt, nat_le, Bool, false, not, ◌&&◌, Option, Some, None}
use Rattle.std.specs.List.{list_any}
use Rattle.indirection.specs.declared.proposal.Proposal.{Proposal}
use Rattle.indirection.specs.Views.{LoadsView}
use Rattle.indirection.specs.Tries.{upto}
use Rattle.balancer.specs.Imbalance.{load, core_loads, imbalance}

-- a round under way: so many cores, what was measured, the owners so far, and the buckets proposed so far
pub record RoundState : Type 0 where
  pub cores : ℕ
  pub loads : LoadsView
  pub owners : List ℕ
  pub taken : List ℕ

-- what a core carries
abbrev pub load_in : RoundState → ℕ → ℕ
load_in s c = load s.loads s.owners c

-- what all cores carry together
abbrev pub total_load : RoundState → ℕ
total_load s = sum (core_loads s.cores s.loads s.owners)

-- bucket b may be proposed to core d
pub record IsAllowed (s : RoundState) (b d : ℕ) : Type 0 where
  pub bucket : b < length s.owners
  pub owner : slice_index s.owners b < s.cores
  pub core : d < s.cores
  pub above : total_load s < s.cores * load_in s (slice_index s.owners b)
  pub below : s.cores * load_in s d < total_load s
  pub some : 0 < slice_index s.loads.bucket b
  pub fits : slice_index s.loads.bucket b < load_in s (slice_index s.owners b) - load_in s d
  pub once : list_any (λ x. x == b) s.taken ≡ false

-- as a test: whether the bucket may leave its core
abbrev pub may_leave : RoundState → ℕ → Bool
may_leave s b =
    nat_lt b (length s.owners) && (nat_lt (slice_index s.owners b) s.cores
    && (nat_lt (total_load s) (s.cores * load_in s (slice_index s.owners b)) && (nat_lt 0 (slice_index s.loads.bucket b)
    && not (list_any (λ x. x == b) s.taken))))

-- as a test: whether the core may take the bucket
abbrev pub may_take : RoundState → ℕ → ℕ → Bool
may_take s b d =
    nat_lt d s.cores && (nat_lt (s.cores * load_in s d) (total_load s)
    && nat_lt (slice_index s.loads.bucket b) (load_in s (slice_index s.owners b) - load_in s d))

-- as a test: whether the pair is allowed
abbrev pub allowed : RoundState → ℕ → ℕ → Bool
allowed s b d = may_leave s b && may_take s b d

-- what the move of the bucket gains
abbrev pub gain : RoundState → ℕ → ℕ → ℕ
gain s b d = slice_index s.loads.bucket b * (load_in s (slice_index s.owners b) - load_in s d - slice_index s.loads.bucket b)

-- the move as it is proposed
abbrev pub proposal : RoundState → ℕ → ℕ → Proposal
proposal s b d = record { bucket = b; from = slice_index s.owners b; to = d; gain = gain s b d }

-- a bucket's allowed proposals, by core
abbrev pub choices_of : RoundState → ℕ → List Proposal
choices_of s b = map (λ d. proposal s b d) (filter (λ d. allowed s b d) (upto s.cores))

-- all allowed proposals, by bucket and then by core
abbrev pub choices : RoundState → List Proposal
choices s = flat_map (choices_of s) (upto (length s.owners))

-- a proposal, unless one behind it gains more
abbrev pub ahead : Proposal → Option Proposal → Option Proposal
ahead p None = Some p
ahead p (Some q) = if nat_le q.gain p.gain then Some p else Some q

-- the first of greatest gain
abbrev pub greatest : List Proposal → Option Proposal
greatest [] = None
greatest (p ∷ ps) = ahead p (greatest ps)

-- the bucket is the other core's, and was proposed
abbrev pub moved : RoundState → Proposal → RoundState
moved s p = record s { owners = slice_set s.owners p.bucket p.to; taken = s.taken ++ p.bucket ∷ [] }

-- a proposal and those behind it, where there is one
abbrev pub led : (RoundState → List Proposal) → RoundState → Option Proposal → List Proposal
led rest s None = []
led rest s (Some p) = p ∷ rest (moved s p)

-- up to so many proposals, the best first
abbrev pub greedy : ℕ → RoundState → List Proposal
greedy zero s = []
greedy (suc limit) s = led (greedy limit) s (greatest (choices s))

-- a round before its first proposal
abbrev pub opening : ℕ → LoadsView → List ℕ → RoundState
opening cores loads owners = record { cores = cores; loads = loads; owners = owners; taken = [] }

-- the greedy round: its proposals, for so many cores, up to the limit, by the loads and the owners before it
abbrev pub greedy_round : ℕ → ℕ → LoadsView → List ℕ → List Proposal
greedy_round cores limit loads owners = greedy limit (opening cores loads owners)

-- the proposal is an allowed pair with its gain; no allowed pair gains more, or comes before it with the same gain
pub record IsBest (s : RoundState) (p : Proposal) : Type 0 where
  pub allowed : IsAllowed s p.bucket p.to
  pub is : p ≡ proposal s p.bucket p.to
  pub best : (b d : ℕ) → IsAllowed s b d → gain s b d ≤ p.gain
  pub first : (b d : ℕ) → IsAllowed s b d → gain s b d ≡ p.gain → (p.bucket < b) ⊎ ((p.bucket ≡ b) × (p.to ≤ d))

-- each proposal is the best when it is made
abbrev pub AreBest : RoundState → List Proposal → Type 0
AreBest s [] = Unit {0}
AreBest s (p ∷ ps) = IsBest s p × AreBest (moved s p) ps

-- each proposal lowers the imbalance by twice the square of the number of cores times its gain, which is at least 1
abbrev pub Lowers : RoundState → List Proposal → Type 0
Lowers s [] = Unit {0}
Lowers s (p ∷ ps) =
    (imbalance (core_loads s.cores s.loads s.owners) ≡ imbalance (core_loads s.cores s.loads (moved s p).owners) + 2 * (s.cores * s.cores) * p.gain) × (1 ≤ p.gain) × Lowers (moved s p) ps
