-- The last round among the entries of a journal.
use Rattle.std.proofs.Common.{◌≡◌, ◌<◌, ◌≤◌, ℕ, suc, take, drop, List, [], ◌∷◌, ◌++◌, length, length-append, get_or, slice_set, Option, Some, None, refl, sym, ap, ◌∙◌, arith}
use Rattle.std.proofs.Math.Seq.{get_or-append_seam, set-append_seam, take-append_seam}
use Rattle.std.specs.Prelude.{unwrap_or, IsSomeAnd}
use Rattle.indirection.specs.declared.outcome.Outcome.{Outcome}
use Rattle.indirection.specs.declared.order_entry.OrderEntry.{OrderEntry}
use Rattle.indirection.specs.declared.entry.Entry.{Entry}
use Rattle.indirection.specs.declared.entry.Entry.TheVariants.{Round, Order}
use Rattle.indirection.specs.Views.{RoundView}
use Rattle.indirection.specs.Rounds.{ArePaired, AwaitOutcome, IsLastRoundAt, last_round, round_with, round_or_later, entries_with}

pub ArePaired-append : (xs ys : List Entry) → ArePaired xs → ArePaired ys → ArePaired (xs ++ ys)
ArePaired-append [] ys first second = second
ArePaired-append (Round r ∷ xs) ys first second = (first.0, ArePaired-append xs ys first.1 second)
ArePaired-append (Order e ∷ xs) ys first second = ArePaired-append xs ys first second

-- one more round that has no outcome yet
pub ArePaired-round : (es : List Entry) (r : RoundView) → ArePaired es → length r.outcomes ≤ length r.proposals → ArePaired (es ++ Round r ∷ [])
ArePaired-round es r paired fits = ArePaired-append es (Round r ∷ []) paired (fits, tt)

pub ArePaired-order : (es : List Entry) (e : OrderEntry) → ArePaired es → ArePaired (es ++ Order e ∷ [])
ArePaired-order es e paired = ArePaired-append es (Order e ∷ []) paired tt

-- the last round is the one behind which there is none
pub last_round-at : (front : List Entry) (r : RoundView) (behind : List Entry) → last_round behind ≡ None → last_round (front ++ Round r ∷ behind) ≡ Some r
last_round-at [] r behind none = ap (λ (o : Option RoundView). Some (unwrap_or o r)) none
last_round-at (Round q ∷ front) r behind none = ap (λ (o : Option RoundView). Some (unwrap_or o q)) (last_round-at front r behind none)
last_round-at (Order e ∷ front) r behind none = last_round-at front r behind none

-- it is this one that gains the outcome
pub entries_with-at : (front : List Entry) (r : RoundView) (behind : List Entry) (outcome : Outcome) → last_round behind ≡ None → entries_with (front ++ Round r ∷ behind) outcome ≡ front ++ Round (round_with r outcome) ∷ behind
entries_with-at [] r behind outcome none = ap (λ (o : Option RoundView). round_or_later r outcome o behind (entries_with behind outcome)) none
entries_with-at (Round q ∷ front) r behind outcome none =
    ap (λ (o : Option RoundView). round_or_later q outcome o (front ++ Round r ∷ behind) (entries_with (front ++ Round r ∷ behind) outcome)) (last_round-at front r behind none)
    ∙ ap (λ (es : List Entry). Round q ∷ es) (entries_with-at front r behind outcome none)
entries_with-at (Order e ∷ front) r behind outcome none = ap (λ (es : List Entry). Order e ∷ es) (entries_with-at front r behind outcome none)

-- what is read at its place is the round
pub read_last_round : (es : List Entry) (place : ℕ) (r : RoundView) (d : Entry) (at : IsLastRoundAt es place) → get_or es place d ≡ Round r → at.round ≡ r
read_last_round es place r d at read =
    let here : get_or es place d ≡ Round at.round =
    ap (λ (zs : List Entry). get_or zs place d) at.parts
    ∙ (ap (λ (n : ℕ). get_or (at.front ++ Round at.round ∷ at.behind) n d) (sym at.before)
    ∙ get_or-append_seam at.front (Round at.round) at.behind d) in
    cc

-- it is the round that awaits an outcome
pub awaits_last_round : (es : List Entry) (place : ℕ) (at : IsLastRoundAt es place) → AwaitOutcome es → length at.round.outcomes < length at.round.proposals
awaits_last_round es place at awaits =
    let found : last_round es ≡ Some at.round = ap last_round at.parts ∙ last_round-at at.front at.round at.behind at.last in
    rw found at awaits

-- and the one that is written
pub write_last_round : (es : List Entry) (place : ℕ) (outcome : Outcome) (at : IsLastRoundAt es place) → slice_set es place (Round (round_with at.round outcome)) ≡ entries_with es outcome
write_last_round es place outcome at =
    ap (λ (zs : List Entry). slice_set zs place (Round (round_with at.round outcome))) at.parts
    ∙ (ap (λ (n : ℕ). slice_set (at.front ++ Round at.round ∷ at.behind) n (Round (round_with at.round outcome))) (sym at.before)
    ∙ (set-append_seam at.front (Round at.round) at.behind (Round (round_with at.round outcome))
    ∙ (sym (entries_with-at at.front at.round at.behind outcome at.last)
    ∙ ap (λ (zs : List Entry). entries_with zs outcome) (sym at.parts))))

paired_or_later : (r : RoundView) (outcome : Outcome) (later : Option RoundView) (es changed : List Entry) →
    length r.outcomes ≤ length r.proposals → length (unwrap_or later r).outcomes < length (unwrap_or later r).proposals →
    ArePaired es → (IsSomeAnd later (λ q. length q.outcomes < length q.proposals) → ArePaired changed) → ArePaired (round_or_later r outcome later es changed)
paired_or_later r outcome None es changed fits awaits paired rest = (omega (arith, length-append r.outcomes (outcome ∷ [])), paired)
paired_or_later r outcome (Some q) es changed fits awaits paired rest = (fits, rest awaits)

-- one more outcome, where one is awaited
pub ArePaired-outcome : (es : List Entry) (outcome : Outcome) → ArePaired es → AwaitOutcome es → ArePaired (entries_with es outcome)
ArePaired-outcome [] outcome paired awaits = tt
ArePaired-outcome (Round r ∷ es) outcome paired awaits =
    paired_or_later r outcome (last_round es) es (entries_with es outcome) paired.0 awaits paired.1 (λ wait. ArePaired-outcome es outcome paired.1 wait)
ArePaired-outcome (Order e ∷ es) outcome paired awaits = ArePaired-outcome es outcome paired awaits

length-or_later : (r : RoundView) (outcome : Outcome) (later : Option RoundView) (es changed : List Entry) → length changed ≡ length es → length (round_or_later r outcome later es changed) ≡ length (Round r ∷ es)
length-or_later r outcome None es changed same = refl
length-or_later r outcome (Some q) es changed same = ap suc same

pub length-entries_with : (es : List Entry) (outcome : Outcome) → length (entries_with es outcome) ≡ length es
length-entries_with [] outcome = refl
length-entries_with (Round r ∷ es) outcome = length-or_later r outcome (last_round es) es (entries_with es outcome) (length-entries_with es outcome)
length-entries_with (Order e ∷ es) outcome = ap suc (length-entries_with es outcome)

-- written back over all entries
pub ArePaired-back : (es new : List Entry) (n : ℕ) (outcome : Outcome) → new ≡ entries_with es outcome → length es ≡ n → ArePaired es → AwaitOutcome es → ArePaired (take n (new ++ drop (length new) es))
ArePaired-back es new n outcome is same paired awaits =
    let count : n ≡ length new = sym same ∙ (sym (length-entries_with es outcome) ∙ ap (λ (zs : List Entry). length zs) (sym is)) in
    let all : take n (new ++ drop (length new) es) ≡ entries_with es outcome =
    ap (λ (k : ℕ). take k (new ++ drop (length new) es)) count ∙ (take-append_seam new (drop (length new) es) ∙ is) in
    rw all (ArePaired-outcome es outcome paired awaits)
