-- Lawful journals.
use Rattle.std.specs.Prelude.{ℕ, ◌-◌, ◌<◌, ◌≤◌, ◌≡◌, List, map, filter, drop, length, sum_by, slice_index, ◌==◌}
use Rattle.indirection.specs.Outcomes.{IsOutcome}
use Rattle.indirection.specs.JournalView.{JournalView}
use Rattle.indirection.specs.Each.{Each}
use Rattle.indirection.specs.Rounds.{ArePaired}
use Rattle.indirection.specs.Tries.{ask_bucket, ask_to, owners_after, upto}
use Rattle.indirection.specs.Story.{AtMost, Parcel, RoundHead, Step, Rounds, Tries, Sends, told, parcels_of, tries_of, sent_to, worked_by}
use Rattle.indirection.specs.Story.{owner_then, start_then, sent_then}
use Rattle.indirection.specs.Due.{Rules, RoundDue, TryDue, PacketDue, due, position}

-- the costs of a bucket's packets
abbrev pub cost_in : List Parcel → ℕ → ℕ
cost_in xs b = sum_by (λ (p : Parcel). p.cost) (filter (λ (p : Parcel). p.bucket == b) xs)

-- the packets of the last round length
abbrev pub recent : Rules → List Step → List Parcel
recent rules before = drop (position before - rules.round) (parcels_of before)

-- the round may stand behind the steps
pub record IsRound (rules : Rules) (before : List Step) (h : RoundHead) : Type 0 where
  pub at : h.at ≡ position before
  pub loads : h.loads.bucket ≡ map (cost_in (recent rules before)) (upto (length rules.start))
  pub bases : length h.loads.base ≡ rules.cores
  pub base : (c : ℕ) → c < rules.cores → slice_index h.loads.base c ≤ sent_to c rules.start before
  pub worked : (c : ℕ) → c < rules.cores → worked_by c rules.start before ≤ sent_to c rules.start before - slice_index h.loads.base c
  pub proposals : h.proposals ≡ rules.propose h.loads (owners_after rules.start (tries_of before))

-- the step is the one that is due behind these, and is answered by its rule
abbrev pub Fits : Rules → List Step → Step → Type 0
Fits rules before (Rounds h) = (due rules before ≡ RoundDue) × IsRound rules before h
Fits rules before (Tries a o) = (due rules before ≡ TryDue a)
    × IsOutcome (owner_then rules.start before (ask_bucket a)) (ask_to a) (sent_then before (ask_bucket a)) (start_then before (ask_bucket a)) o
Fits rules before (Sends p) = due rules before ≡ PacketDue

-- lawful for the packets sent so far; the round, outcomes and orders of the present position may still be due
pub record IsLawfulSoFar (rules : Rules) (xs : List Parcel) (j : JournalView) : Type 0 where
  pub start : j.start ≡ rules.start
  pub paired : ArePaired j.entries
  pub within : AtMost (length xs) j.entries
  pub steps : Each (Fits rules) (told 0 xs j.entries)

-- lawful for all packets of a run: nothing is still due
pub record IsLawful (rules : Rules) (xs : List Parcel) (j : JournalView) : Type 0 where
  pub so_far : IsLawfulSoFar rules xs j
  pub whole : due rules (told 0 xs j.entries) ≡ PacketDue
