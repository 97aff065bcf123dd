-- At one position the round of a lawful journal stands before the orders.
use Rattle.std.proofs.Common.{◌≡◌, ◌<◌, ◌≤◌, true, false, List, [], ◌∷◌, ◌++◌, length, append_assoc, ⊎_elim, refl, sym, ap, ◌∙◌, subst, arith}
use Rattle.std.proofs.lemmas.List.{append-nil, length-append}
use Rattle.std.proofs.lemmas.Bool.{cases_lt}
use Rattle.indirection.specs.declared.outcome.Outcome.{Outcome}
use Rattle.indirection.specs.declared.order_entry.OrderEntry.{OrderEntry}
use Rattle.indirection.specs.declared.entry.Entry.{Entry}
use Rattle.indirection.specs.declared.entry.Entry.TheVariants.{Round, Order}
use Rattle.indirection.specs.Views.{RoundView}
use Rattle.indirection.specs.JournalView.{JournalView}
use Rattle.indirection.specs.Each.{Each}
use Rattle.indirection.specs.Tries.{Ask, Ordered, Try}
use Rattle.indirection.specs.Story.{Parcel, Step, Rounds, Tries, Sends, entry_steps, told, parcels_of, tries_of, try_of, here_from}
use Rattle.indirection.specs.Due.{Rules, position, is_round_at, has_round}
use Rattle.indirection.specs.Lawful.{Fits, IsLawfulSoFar}
use Rattle.indirection.proofs.Each.{EachFrom-front, EachFrom-at}
use Rattle.indirection.proofs.Steps.{tries_of-append}
use Rattle.indirection.proofs.EntryPlaces.{entry_here, position-append}
use Rattle.indirection.proofs.Splits.{IsCut, cut}
use Rattle.indirection.proofs.RoundFacts.{head_of, tries_in}
use Rattle.indirection.proofs.AskedInTurn.{here, InTurn, in_turn, round_due, round_open}
use Rattle.indirection.proofs.WholeRounds.{here_from-append}

-- steps without a packet stay with those before them
here_from-still : (held ss : List Step) → parcels_of ss ≡ [] → here_from held ss ≡ held ++ ss
here_from-still held [] none = sym (append-nil held)
here_from-still held (Rounds h ∷ ss) none = here_from-still (held ++ Rounds h ∷ []) ss none ∙ append_assoc held (Rounds h ∷ []) ss
here_from-still held (Tries a o ∷ ss) none = here_from-still (held ++ Tries a o ∷ []) ss none ∙ append_assoc held (Tries a o ∷ []) ss
here_from-still held (Sends p ∷ ss) none = absurd (cc)

some_try : (ss zs : List Step) (a : Ask) (o : Outcome) → 0 < length (tries_of (ss ++ Tries a o ∷ zs))
some_try ss zs a o = omega (arith, ap (λ (ts : List Try). length ts) (tries_of-append ss (Tries a o ∷ zs)), length-append (tries_of ss) (try_of a o ∷ tries_of zs))

nothing : (ps : List Parcel) → length ps ≤ 0 → ps ≡ []
nothing [] none = refl
nothing (p ∷ ps) none = absurd (omega arith)

-- behind a try, nothing else than a packet lets a round be due
sent_between : (rules : Rules) (before between : List Step) (a : Ask) (o : Outcome) → tries_of (here (before ++ Tries a o ∷ between)) ≡ [] → 0 < position between
sent_between rules before between a o unasked =
    ⊎_elim (λ (l : 0 < position between). l)
    (λ (l : position between ≤ 0).
    let still : here (before ++ Tries a o ∷ between) ≡ here before ++ Tries a o ∷ between =
    here_from-append [] before (Tries a o ∷ between) ∙ here_from-still (here before) (Tries a o ∷ between) (nothing (parcels_of between) l) in
    absurd (omega (arith, some_try (here before) between a o, ap (λ (ss : List Step). length (tries_of ss)) still, ap (λ (ts : List Try). length ts) unasked)))
    (cases_lt 0 (position between))

pub lawful_first : (rules : Rules) (xs : List Parcel) (j : JournalView) (front middle behind : List Entry) (e : OrderEntry) (r : RoundView) → IsLawfulSoFar rules xs j → j.entries ≡ front ++ Order e ∷ (middle ++ Round r ∷ behind) → e.order.at < r.at
lawful_first rules xs j front middle behind e r lawful parts = omega (arith, order_at, round_at, position-append a.before (try ∷ b.before), more) where
  try : Step
  try = Tries (Ordered e.order) e.outcome

  a : IsCut 0 xs front (Order e) (middle ++ Round r ∷ behind)
  a = cut front 0 xs (Order e) (middle ++ Round r ∷ behind)

  b : IsCut a.later a.rest middle (Round r) behind
  b = cut middle a.later a.rest (Round r) behind

  rest : List Step
  rest = told b.later b.rest behind

  before : List Step
  before = a.before ++ try ∷ b.before

  each_order : Each (Fits rules) (a.before ++ (entry_steps (Order e) ++ told a.later a.rest (middle ++ Round r ∷ behind)))
  each_order = subst (λ (ss : List Step). Each (Fits rules) ss) (ap (λ (es : List Entry). told 0 xs es) parts ∙ a.parts) lawful.steps

  each : Each (Fits rules) (before ++ (entry_steps (Round r) ++ rest))
  each = subst (λ (ss : List Step). Each (Fits rules) ss) (ap (λ (ss : List Step). a.before ++ try ∷ ss) b.parts ∙ sym (append_assoc a.before (try ∷ b.before) (entry_steps (Round r) ++ rest))) each_order

  order_at : e.order.at ≡ position a.before
  order_at = entry_here rules a.before (Order e) (told a.later a.rest (middle ++ Round r ∷ behind)) each_order

  round_at : r.at ≡ position before
  round_at = entry_here rules before (Round r) rest each

  turn : InTurn rules (position before) (here before)
  turn = in_turn rules before (EachFrom-front (Fits rules) [] before (entry_steps (Round r) ++ rest) each)

  opens : (is_round_at rules (position before) ≡ true) × (has_round (here before) ≡ false)
  opens = round_open (is_round_at rules (position before)) (has_round (here before)) (round_due _ _ (EachFrom-at (Fits rules) [] before (Rounds (head_of r)) (tries_in r ++ rest) each).0)

  more : 0 < position b.before
  more = sent_between rules a.before b.before (Ordered e.order) e.outcome (turn.unasked opens.0 opens.1)
