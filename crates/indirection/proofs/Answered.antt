-- In a journal that is lawful so far each try is answered by its case.
use Rattle.std.proofs.Common.{◌≡◌, ℕ, List, [], ◌∷◌, ◌++◌, take, sym, ap, ◌∙◌, subst}
use Rattle.indirection.specs.JournalView.{JournalView}
use Rattle.indirection.specs.Each.{Each}
use Rattle.indirection.specs.Outcomes.{IsOutcome}
use Rattle.indirection.specs.Tries.{Try, ask_at, ask_bucket, ask_to, owner_after, tail_from, tries}
use Rattle.indirection.specs.Story.{Parcel, Step, Tries, told, parcels_of, tries_of, count_in}
use Rattle.indirection.specs.Due.{Rules, position}
use Rattle.indirection.specs.Lawful.{Fits, IsLawfulSoFar}
use Rattle.indirection.specs.JournalFacts.{IsAnswered}
use Rattle.indirection.proofs.Each.{EachFrom-front, EachFrom-at}
use Rattle.indirection.proofs.Steps.{parcels_of-append}
use Rattle.indirection.proofs.Told.{parcels_of-told, tries_of-told}
use Rattle.indirection.proofs.Positions.{asked_here, story_in_place}
use Rattle.indirection.proofs.Splits.{IsTryCut, try_cut, taken}

pub lawful_answers : (rules : Rules) (xs : List Parcel) (j : JournalView) (before behind : List Try) (t : Try) → IsLawfulSoFar rules xs j → tries j.entries ≡ before ++ t ∷ behind → IsAnswered xs j before t
lawful_answers rules xs j before behind t lawful is =
    subst (λ (start : List ℕ). IsOutcome (owner_after start before b) (ask_to t.ask) (count_in b (take (ask_at t.ask) xs)) (tail_from b 0 before) t.outcome) (sym lawful.start)
    (subst (λ (ts : List Try). IsOutcome (owner_after rules.start ts b) (ask_to t.ask) (count_in b (take (ask_at t.ask) xs)) (tail_from b 0 ts) t.outcome) c.tries_are
    (subst (λ (ps : List Parcel). IsOutcome (owner_after rules.start (tries_of c.front) b) (ask_to t.ask) (count_in b ps) (tail_from b 0 (tries_of c.front)) t.outcome) sent fits.1)) where
      b : ℕ
      b = ask_bucket t.ask

      c : IsTryCut (told 0 xs j.entries) before t
      c = try_cut (told 0 xs j.entries) before t behind (tries_of-told j.entries 0 xs ∙ is)

      each : Each (Fits rules) (c.front ++ Tries t.ask t.outcome ∷ c.after)
      each = subst (λ (ss : List Step). Each (Fits rules) ss) c.parts lawful.steps

      fits : Fits rules c.front (Tries t.ask t.outcome)
      fits = EachFrom-at (Fits rules) [] c.front (Tries t.ask t.outcome) c.after each

      here : ask_at t.ask ≡ position c.front
      here = asked_here rules c.front t.ask (story_in_place rules c.front (EachFrom-front (Fits rules) [] c.front (Tries t.ask t.outcome ∷ c.after) each)).rounds fits.0

      sent : parcels_of c.front ≡ take (ask_at t.ask) xs
      sent = taken (parcels_of c.front) (parcels_of (Tries t.ask t.outcome ∷ c.after)) xs (ask_at t.ask)
          (sym (parcels_of-append c.front (Tries t.ask t.outcome ∷ c.after)) ∙ (ap parcels_of (sym c.parts) ∙ parcels_of-told j.entries 0 xs)) here
