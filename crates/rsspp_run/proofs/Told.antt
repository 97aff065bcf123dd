-- A journal is what its own story tells.
use Rattle.std.proofs.Common.{◌≡◌, ℕ, ◌-◌, ◌≤◌, max, List, [], ◌∷◌, ◌++◌, map, length, take, drop, refl, ap, ◌∙◌, arith}
use Rattle.indirection.specs.declared.entry.Entry.{Entry}
use Rattle.indirection.specs.declared.entry.Entry.TheVariants.{Round, Order}
use Rattle.indirection.specs.declared.outcome.Outcome.{Outcome}
use Rattle.indirection.specs.declared.proposal.Proposal.{Proposal}
use Rattle.indirection.specs.Tries.{Try, round_tries}
use Rattle.indirection.specs.Story.{Parcel, Step, Tries, Sends, entry_steps, told, outcomes_behind, entries_of}
use Rattle.indirection.specs.Rounds.{ArePaired}

abbrev step_of : Try → Step
step_of t = Tries t.ask t.outcome

behind_sends : (ys : List Parcel) (ss : List Step) → outcomes_behind ss ≡ [] → outcomes_behind (map Sends ys ++ ss) ≡ []
behind_sends [] ss e = e
behind_sends (y ∷ ys) ss e = refl

behind_told : (at : ℕ) (xs : List Parcel) (es : List Entry) → outcomes_behind (told at xs es) ≡ []
behind_told at [] [] = refl
behind_told at (x ∷ xs) [] = refl
behind_told at xs (Round r ∷ es) = behind_sends (take (r.at - at) xs) (entry_steps (Round r) ++ told (max at r.at) (drop (r.at - at) xs) es) refl
behind_told at xs (Order o ∷ es) = behind_sends (take (o.order.at - at) xs) (entry_steps (Order o) ++ told (max at o.order.at) (drop (o.order.at - at) xs) es) refl

entries_sends : (ys : List Parcel) (ss : List Step) → entries_of (map Sends ys ++ ss) ≡ entries_of ss
entries_sends [] ss = refl
entries_sends (y ∷ ys) ss = entries_sends ys ss

only_sends : (ys : List Parcel) → entries_of (map Sends ys) ≡ []
only_sends [] = refl
only_sends (y ∷ ys) = only_sends ys

entries_tries : (at : ℕ) (ps : List Proposal) (os : List Outcome) (ss : List Step) → entries_of (map step_of (round_tries at ps os) ++ ss) ≡ entries_of ss
entries_tries at [] os ss = refl
entries_tries at (p ∷ ps) [] ss = refl
entries_tries at (p ∷ ps) (o ∷ os) ss = entries_tries at ps os ss

behind_tries : (at : ℕ) (ps : List Proposal) (os : List Outcome) (ss : List Step) → length os ≤ length ps → outcomes_behind ss ≡ [] → outcomes_behind (map step_of (round_tries at ps os) ++ ss) ≡ os
behind_tries at [] [] ss few e = e
behind_tries at [] (o ∷ os) ss few e = absurd (omega arith)
behind_tries at (p ∷ ps) [] ss few e = e
behind_tries at (p ∷ ps) (o ∷ os) ss few e = ap (λ (z : List Outcome). o ∷ z) (behind_tries at ps os ss (omega arith) e)

pub entries_told : (at : ℕ) (xs : List Parcel) (es : List Entry) → ArePaired es → entries_of (told at xs es) ≡ es
entries_told at xs [] h = only_sends xs
entries_told at xs (Round r ∷ es) h =
    let rest = told (max at r.at) (drop (r.at - at) xs) es in
    entries_sends (take (r.at - at) xs) (entry_steps (Round r) ++ rest)
    ∙ ((λ i. Round (record { at = r.at; loads = r.loads; proposals = r.proposals; outcomes = behind_tries r.at r.proposals r.outcomes rest h.0 (behind_told (max at r.at) (drop (r.at - at) xs) es) i }) ∷ entries_of (map step_of (round_tries r.at r.proposals r.outcomes) ++ rest))
    ∙ ap (λ (z : List Entry). Round r ∷ z) (entries_tries r.at r.proposals r.outcomes rest ∙ entries_told (max at r.at) (drop (r.at - at) xs) es h.1))
entries_told at xs (Order o ∷ es) h =
    entries_sends (take (o.order.at - at) xs) (entry_steps (Order o) ++ told (max at o.order.at) (drop (o.order.at - at) xs) es)
    ∙ ap (λ (z : List Entry). Order o ∷ z) (entries_told (max at o.order.at) (drop (o.order.at - at) xs) es h)
