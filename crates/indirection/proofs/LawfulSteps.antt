-- A lawful journal with one more packet, order, round or outcome.
use Rattle.std.proofs.Common.{◌≡◌, ℕ, ◌+◌, ◌≤◌, List, [], ◌∷◌, ◌++◌, length, append_assoc, map, refl, Some, sym, ap, ◌∙◌, subst, arith}
use Rattle.std.specs.Prelude.{slice_get}
use Rattle.std.proofs.lemmas.List.{length-append}
use Rattle.std.proofs.lemmas.Option.{slice_get_within}
use Rattle.indirection.proofs.Each.{EachFrom-push}
use Rattle.indirection.proofs.Told.{told-send, told-entry, entry_steps-push, parcels_of-told}
use Rattle.indirection.proofs.RoundTries.{round_tries-none}
use Rattle.indirection.specs.declared.proposal.Proposal.{Proposal}
use Rattle.indirection.specs.declared.outcome.Outcome.{Outcome}
use Rattle.indirection.specs.declared.entry.Entry.{Entry}
use Rattle.indirection.specs.declared.entry.Entry.TheVariants.{Round, Order}
use Rattle.indirection.specs.Views.{RoundView}
use Rattle.indirection.specs.JournalView.{JournalView}
use Rattle.indirection.specs.Each.{Each}
use Rattle.indirection.specs.Tries.{Proposed, Ordered, Try}
use Rattle.indirection.specs.Story.{Parcel, RoundHead, Step, Rounds, Tries, Sends, told, AtMost, entry_at, entry_steps}
use Rattle.indirection.specs.Due.{Rules, due, PacketDue}
use Rattle.indirection.specs.Rounds.{ArePaired, opened_round}
use Rattle.indirection.specs.declared.move_order.MoveOrder.{MoveOrder}
use Rattle.indirection.specs.Lawful.{Fits, IsLawfulSoFar}

AtMost-more : (n m : ℕ) (es : List Entry) → n ≤ m → AtMost n es → AtMost m es
AtMost-more n m [] h a = tt
AtMost-more n m (e ∷ es) h a = (let l = a.0 in omega arith, AtMost-more n m es h a.1)

AtMost-push : (n : ℕ) (es : List Entry) (e : Entry) → AtMost n es → entry_at e ≤ n → AtMost n (es ++ e ∷ [])
AtMost-push n [] e a h = (h, tt)
AtMost-push n (d ∷ es) e a h = (a.0, AtMost-push n es e a.1 h)

ArePaired-push : (es : List Entry) (e : Entry) → ArePaired es → ArePaired (e ∷ []) → ArePaired (es ++ e ∷ [])
ArePaired-push [] e a b = b
ArePaired-push (Round r ∷ es) e a b = (a.0, ArePaired-push es e a.1 b)
ArePaired-push (Order o ∷ es) e a b = ArePaired-push es e a b

-- a packet, where nothing else is due
pub IsLawfulSoFar-send : (rules : Rules) (xs : List Parcel) (j : JournalView) (p : Parcel) → IsLawfulSoFar rules xs j → due rules (told 0 xs j.entries) ≡ PacketDue → IsLawfulSoFar rules (xs ++ p ∷ []) j
IsLawfulSoFar-send rules xs j p l d = record {
  start = l.start;
  paired = l.paired;
  within = AtMost-more (length xs) (length (xs ++ p ∷ [])) j.entries (omega (arith, length-append xs (p ∷ []))) l.within;
  steps = subst (λ (z : List Step). Each (Fits rules) z) (sym (told-send j.entries 0 xs p (subst (λ (n : ℕ). AtMost n j.entries) (omega arith) l.within))) (EachFrom-push (Fits rules) [] (told 0 xs j.entries) (Sends p) l.steps d);
}

-- an entry of one step: an order, or a round with no outcome yet
pub IsLawfulSoFar-entry : (rules : Rules) (xs : List Parcel) (j : JournalView) (e : Entry) (x : Step) → IsLawfulSoFar rules xs j → ArePaired (e ∷ []) → entry_at e ≡ length xs → entry_steps e ≡ x ∷ [] → Fits rules (told 0 xs j.entries) x
    → IsLawfulSoFar rules xs (record j { entries = j.entries ++ e ∷ [] })
IsLawfulSoFar-entry rules xs j e x l paired at one f = record {
  start = l.start;
  paired = ArePaired-push j.entries e l.paired paired;
  within = AtMost-push (length xs) j.entries e l.within (omega arith);
  steps = subst (λ (z : List Step). Each (Fits rules) z) (sym (told-entry j.entries 0 xs e (subst (λ (n : ℕ). AtMost n j.entries) (omega arith) l.within) (at ∙ omega arith) ∙ ap (λ (z : List Step). told 0 xs j.entries ++ z) one)) (EachFrom-push (Fits rules) [] (told 0 xs j.entries) x l.steps f);
}

pub IsLawfulSoFar-order : (rules : Rules) (xs : List Parcel) (j : JournalView) (m : MoveOrder) (o : Outcome) → IsLawfulSoFar rules xs j → m.at ≡ length xs → Fits rules (told 0 xs j.entries) (Tries (Ordered m) o)
    → IsLawfulSoFar rules xs (record j { entries = j.entries ++ Order (record { order = m; outcome = o }) ∷ [] })
IsLawfulSoFar-order rules xs j m o lawful at fits = IsLawfulSoFar-entry rules xs j (Order (record { order = m; outcome = o })) (Tries (Ordered m) o) lawful tt at refl fits

pub IsLawfulSoFar-round : (rules : Rules) (xs : List Parcel) (j : JournalView) (h : RoundHead) → IsLawfulSoFar rules xs j → Fits rules (told 0 xs j.entries) (Rounds h)
    → IsLawfulSoFar rules xs (record j { entries = j.entries ++ Round (opened_round h.at h.loads h.proposals) ∷ [] })
IsLawfulSoFar-round rules xs j h lawful fits =
    let at : h.at ≡ length xs = fits.1.at ∙ ap (λ (ps : List Parcel). length ps) (parcels_of-told j.entries 0 xs) in
    let one : entry_steps (Round (opened_round h.at h.loads h.proposals)) ≡ Rounds h ∷ [] =
    ap (λ (ts : List Try). Rounds h ∷ map (λ (t : Try). Tries t.ask t.outcome) ts) (round_tries-none h.at h.proposals) in
    IsLawfulSoFar-entry rules xs j (Round (opened_round h.at h.loads h.proposals)) (Rounds h) lawful (omega arith, tt) at one fits

ArePaired-last : (es : List Entry) (d e : Entry) → ArePaired (es ++ d ∷ []) → ArePaired (e ∷ []) → ArePaired (es ++ e ∷ [])
ArePaired-last [] d e a b = b
ArePaired-last (Round r ∷ es) d e a b = (a.0, ArePaired-last es d e a.1 b)
ArePaired-last (Order o ∷ es) d e a b = ArePaired-last es d e a b

AtMost-front : (n : ℕ) (es fs : List Entry) → AtMost n (es ++ fs) → AtMost n es
AtMost-front n [] fs a = tt
AtMost-front n (e ∷ es) fs a = (a.0, AtMost-front n es fs a.1)

-- an outcome of the last round
pub IsLawfulSoFar-outcome : (rules : Rules) (xs : List Parcel) (start : List ℕ) (es : List Entry) (r : RoundView) (p : Proposal) (o : Outcome)
    → IsLawfulSoFar rules xs (record { start = start; entries = es ++ Round r ∷ [] }) → r.at ≡ length xs
    → slice_get r.proposals (length r.outcomes) ≡ Some p → Fits rules (told 0 xs (es ++ Round r ∷ [])) (Tries (Proposed r.at p) o)
    → IsLawfulSoFar rules xs (record { start = start; entries = es ++ Round (record r { outcomes = r.outcomes ++ o ∷ [] }) ∷ [] })
IsLawfulSoFar-outcome rules xs start es r p o l at is f = record {
  start = l.start;
  paired = ArePaired-last es (Round r) (Round after) l.paired (let inside = slice_get_within r.proposals (length r.outcomes) p is in omega (arith, length-append r.outcomes (o ∷ [])), tt);
  within = AtMost-push (length xs) es (Round after) front (omega arith);
  steps = subst (λ (z : List Step). Each (Fits rules) z) (sym whole) (EachFrom-push (Fits rules) [] (told 0 xs (es ++ Round r ∷ [])) (Tries (Proposed r.at p) o) l.steps f);
} where
  after : RoundView
  after = record r { outcomes = r.outcomes ++ o ∷ [] }

  front : AtMost (length xs) es
  front = AtMost-front (length xs) es (Round r ∷ []) l.within

  front_at : AtMost (0 + length xs) es
  front_at = subst (λ (n : ℕ). AtMost n es) (omega arith) front

  whole : told 0 xs (es ++ Round after ∷ []) ≡ told 0 xs (es ++ Round r ∷ []) ++ Tries (Proposed r.at p) o ∷ []
  whole = told-entry es 0 xs (Round after) front_at (at ∙ omega arith)
      ∙ (ap (λ (z : List Step). told 0 xs es ++ z) (entry_steps-push r p o is)
      ∙ (sym (append_assoc (told 0 xs es) (entry_steps (Round r)) (Tries (Proposed r.at p) o ∷ []))
      ∙ ap (λ (z : List Step). z ++ Tries (Proposed r.at p) o ∷ []) (sym (told-entry es 0 xs (Round r) front_at (at ∙ omega arith)))))
