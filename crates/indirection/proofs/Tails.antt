-- In a lawful story the tails of a bucket rise, up to its packets.
use Rattle.std.proofs.Common.{ℕ, ◌≤◌, Bool, List, [], ◌∷◌, ◌++◌, if◌then◌else◌, ◌==◌, subst, arith}
use Rattle.std.specs.Prelude.{slice_index}
use Rattle.std.proofs.lemmas.List.{append-nil}
use Rattle.indirection.specs.declared.outcome.Outcome.{Outcome}
use Rattle.indirection.specs.declared.outcome.Outcome.TheVariants.{Moved, Placed, Same, InPassage}
use Rattle.indirection.specs.Outcomes.{IsOutcome}
use Rattle.indirection.specs.JournalView.{JournalView}
use Rattle.indirection.specs.Each.{Each}
use Rattle.indirection.specs.Tries.{Ask, Try, ask_bucket, ask_to, tries, tail_by, tail_from, tail_list, tails}
use Rattle.indirection.specs.Stints.{Rises, Joins, stints}
use Rattle.indirection.specs.Story.{Parcel, Step, Rounds, Tries, Sends, parcels_of, tries_of, count_in, try_of, told, owner_then}
use Rattle.indirection.specs.Due.{Rules}
use Rattle.indirection.specs.Lawful.{Fits, IsLawfulSoFar}
use Rattle.indirection.proofs.Each.{Each-keeps}
use Rattle.indirection.proofs.Steps.{tries_of-append, parcels_of-append, tries_of-round, tries_of-send, parcels_of-round, parcels_of-try, tail_from-append, tails-append, count_in-append}
use Rattle.indirection.proofs.Stints.{Rises-push, Rises-more, Joins-stints}
use Rattle.indirection.proofs.Told.{parcels_of-told, tries_of-told}
use Rattle.indirection.proofs.Tests.{by_test}

-- the tails among the tries rise up to the newest, and that is at most the packets
pub record HaveRisen (ts : List Try) (ps : List Parcel) (b : ℕ) : Type 0 where
  pub tails_rise : Rises 0 (tails b ts) (tail_from b 0 ts)
  pub newest : tail_from b 0 ts ≤ count_in b ps

-- an outcome with k packets sent and the newest tail at s
outcome_rises : (owner to k s : ℕ) (o : Outcome) (list : List ℕ) → IsOutcome owner to k s o → s ≤ k → Rises 0 list s → Rises 0 (list ++ tail_list o) (tail_by s o) × (tail_by s o ≤ k)
outcome_rises owner to k s (Moved tail) list is below rise =
    let h2 = is.2 in let h3 = is.3 in (Rises-push 0 list s tail rise (omega arith), omega arith)
outcome_rises owner to k s Placed list is below rise = (rw append-nil rise, below)
outcome_rises owner to k s Same list is below rise = (rw append-nil rise, below)
outcome_rises owner to k s (InPassage tail sent word) list is below rise = (rw append-nil rise, below)

-- what a try adds, of this bucket or of another one
abbrev TryRises : List Try → List Parcel → ℕ → Outcome → Bool → Type 0
TryRises ts ps b o ours =
    Rises 0 (tails b ts ++ ((if ours then tail_list o else []) ++ [])) (if ours then tail_by (tail_from b 0 ts) o else tail_from b 0 ts)
    × ((if ours then tail_by (tail_from b 0 ts) o else tail_from b 0 ts) ≤ count_in b ps)

try_rises : (ts : List Try) (ps : List Parcel) (owner b : ℕ) (a : Ask) (o : Outcome) → IsOutcome owner (ask_to a) (count_in (ask_bucket a) ps) (tail_from (ask_bucket a) 0 ts) o → HaveRisen ts ps b → HaveRisen (ts ++ try_of a o ∷ []) ps b
try_rises ts ps owner b a o is risen = record {
  tails_rise = rw (tails-append b ts (try_of a o ∷ []), tail_from-append b 0 ts (try_of a o ∷ [])) cases.0;
  newest = rw (tail_from-append b 0 ts (try_of a o ∷ [])) cases.1;
} where
  cases : TryRises ts ps b o (ask_bucket a == b)
  cases = by_test (ask_bucket a) b (TryRises ts ps b o)
      (λ ours. let ended = outcome_rises owner (ask_to a) (count_in b ps) (tail_from b 0 ts) o (tails b ts) (subst (λ (x : ℕ). IsOutcome owner (ask_to a) (count_in x ps) (tail_from x 0 ts) o) ours is) risen.newest risen.tails_rise in
      (rw append-nil ended.0, ended.1))
      (λ other. (rw append-nil risen.tails_rise, risen.newest))

send_rises : (ts : List Try) (ps : List Parcel) (b : ℕ) (p : Parcel) → HaveRisen ts ps b → HaveRisen ts (ps ++ p ∷ []) b
send_rises ts ps b p risen = record {
  tails_rise = risen.tails_rise;
  newest = let n = risen.newest in omega (arith, count_in-append b ps (p ∷ []));
}

-- so in each story that fits
abbrev pub AllRisen : List Step → Type 0
AllRisen ss = (b : ℕ) → HaveRisen (tries_of ss) (parcels_of ss) b

step_rises : (rules : Rules) (ss : List Step) (x : Step) → AllRisen ss → Fits rules ss x → AllRisen (ss ++ x ∷ [])
step_rises rules ss (Rounds h) risen fits b = rw (tries_of-round ss h, parcels_of-round ss h) (risen b)
step_rises rules ss (Tries a o) risen fits b =
    rw (tries_of-append ss (Tries a o ∷ []), parcels_of-try ss a o) (try_rises (tries_of ss) (parcels_of ss) (owner_then rules.start ss (ask_bucket a)) b a o fits.1 (risen b))
step_rises rules ss (Sends p) risen fits b =
    rw (tries_of-send ss p, parcels_of-append ss (Sends p ∷ [])) (send_rises (tries_of ss) (parcels_of ss) b p (risen b))

pub story_rises : (rules : Rules) (ss : List Step) → Each (Fits rules) ss → AllRisen ss
story_rises rules ss each = Each-keeps (Fits rules) AllRisen (λ b. record { tails_rise = omega arith; newest = omega arith }) (step_rises rules) ss each

-- the tails of a bucket rise strictly, up to its packets at most
pub lawful_tails : (rules : Rules) (xs : List Parcel) (j : JournalView) (b : ℕ) → IsLawfulSoFar rules xs j → Rises 0 (tails b (tries j.entries)) (count_in b xs)
lawful_tails rules xs j b lawful =
    let risen : HaveRisen (tries j.entries) xs b =
    subst (λ (ps : List Parcel). HaveRisen (tries j.entries) ps b) (parcels_of-told j.entries 0 xs)
    (subst (λ (ts : List Try). HaveRisen ts (parcels_of (told 0 xs j.entries)) b) (tries_of-told j.entries 0 xs) (story_rises rules (told 0 xs j.entries) lawful.steps b)) in
    Rises-more 0 (tails b (tries j.entries)) (tail_from b 0 (tries j.entries)) (count_in b xs) risen.tails_rise risen.newest

-- the stints of a bucket join 0 to its packets
pub lawful_stints : (rules : Rules) (xs : List Parcel) (j : JournalView) (b : ℕ) → IsLawfulSoFar rules xs j → Joins 0 (stints j xs b) (count_in b xs)
lawful_stints rules xs j b lawful = Joins-stints b (count_in b xs) (tries j.entries) (slice_index j.start b) 0 (lawful_tails rules xs j b lawful)
