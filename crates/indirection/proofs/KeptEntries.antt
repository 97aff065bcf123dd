-- A story keeps the entries that it was told of.
use Rattle.std.proofs.Common.{◌≡◌, ℕ, ◌-◌, ◌≤◌, max, List, [], ◌∷◌, ◌++◌, map, take, drop, length, refl, ap, ◌∙◌, arith}
use Rattle.indirection.specs.declared.proposal.Proposal.{Proposal}
use Rattle.indirection.specs.declared.outcome.Outcome.{Outcome}
use Rattle.indirection.specs.declared.entry.Entry.{Entry}
use Rattle.indirection.specs.declared.entry.Entry.TheVariants.{Round, Order}
use Rattle.indirection.specs.Rounds.{ArePaired}
use Rattle.indirection.specs.Tries.{Try, round_tries}
use Rattle.indirection.specs.Story.{Parcel, Step, Tries, Sends, entry_steps, told, entries_of, outcomes_behind}

-- the tries as steps
abbrev pub steps_of : List Try → List Step
steps_of ts = map (λ (t : Try). Tries t.ask t.outcome) ts

-- packets tell no entry
entries_of-sends : (xs : List Parcel) (ss : List Step) → entries_of (map Sends xs ++ ss) ≡ entries_of ss
entries_of-sends [] ss = refl
entries_of-sends (x ∷ xs) ss = entries_of-sends xs ss

entries_of-packets : (xs : List Parcel) → entries_of (map Sends xs) ≡ []
entries_of-packets [] = refl
entries_of-packets (x ∷ xs) = entries_of-packets xs

-- nor do the tries of a round
entries_of-tries : (at : ℕ) (ps : List Proposal) (os : List Outcome) (ss : List Step) → entries_of (steps_of (round_tries at ps os) ++ ss) ≡ entries_of ss
entries_of-tries at [] os ss = refl
entries_of-tries at (p ∷ ps) [] ss = refl
entries_of-tries at (p ∷ ps) (o ∷ os) ss = entries_of-tries at ps os ss

-- but they tell its outcomes
outcomes_behind-tries : (at : ℕ) (ps : List Proposal) (os : List Outcome) (ss : List Step) → length os ≤ length ps → outcomes_behind ss ≡ [] → outcomes_behind (steps_of (round_tries at ps os) ++ ss) ≡ os
outcomes_behind-tries at [] [] ss few none = none
outcomes_behind-tries at [] (o ∷ os) ss few none = absurd (omega arith)
outcomes_behind-tries at (p ∷ ps) [] ss few none = none
outcomes_behind-tries at (p ∷ ps) (o ∷ os) ss few none = ap (λ (zs : List Outcome). o ∷ zs) (outcomes_behind-tries at ps os ss (omega arith) none)

outcomes_behind-sends : (xs : List Parcel) (ss : List Step) → outcomes_behind ss ≡ [] → outcomes_behind (map Sends xs ++ ss) ≡ []
outcomes_behind-sends [] ss none = none
outcomes_behind-sends (x ∷ xs) ss none = refl

-- no story begins with an outcome
outcomes_behind-told : (es : List Entry) (at : ℕ) (xs : List Parcel) → outcomes_behind (told at xs es) ≡ []
outcomes_behind-told [] at [] = refl
outcomes_behind-told [] at (x ∷ xs) = refl
outcomes_behind-told (Round r ∷ es) at xs = outcomes_behind-sends (take (r.at - at) xs) (entry_steps (Round r) ++ told (max at r.at) (drop (r.at - at) xs) es) refl
outcomes_behind-told (Order e ∷ es) at xs = outcomes_behind-sends (take (e.order.at - at) xs) (entry_steps (Order e) ++ told (max at e.order.at) (drop (e.order.at - at) xs) es) refl

entries_of-entry : (e : Entry) (ss : List Step) → ArePaired (e ∷ []) → outcomes_behind ss ≡ [] → entries_of (entry_steps e ++ ss) ≡ e ∷ entries_of ss
entries_of-entry (Round r) ss paired none =
    ap (λ (os : List Outcome). Round (record { at = r.at; loads = r.loads; proposals = r.proposals; outcomes = os }) ∷ entries_of (steps_of (round_tries r.at r.proposals r.outcomes) ++ ss)) (outcomes_behind-tries r.at r.proposals r.outcomes ss paired.0 none)
    ∙ ap (λ (es : List Entry). Round r ∷ es) (entries_of-tries r.at r.proposals r.outcomes ss)
entries_of-entry (Order e) ss paired none = refl

pub entries_of-told : (es : List Entry) (at : ℕ) (xs : List Parcel) → ArePaired es → entries_of (told at xs es) ≡ es
entries_of-told [] at xs paired = entries_of-packets xs
entries_of-told (Round r ∷ es) at xs paired =
    let rest : List Step = told (max at r.at) (drop (r.at - at) xs) es in
    entries_of-sends (take (r.at - at) xs) (entry_steps (Round r) ++ rest)
    ∙ (entries_of-entry (Round r) rest (paired.0, tt) (outcomes_behind-told es (max at r.at) (drop (r.at - at) xs))
    ∙ ap (λ (zs : List Entry). Round r ∷ zs) (entries_of-told es (max at r.at) (drop (r.at - at) xs) paired.1))
entries_of-told (Order e ∷ es) at xs paired =
    let rest : List Step = told (max at e.order.at) (drop (e.order.at - at) xs) es in
    entries_of-sends (take (e.order.at - at) xs) (entry_steps (Order e) ++ rest)
    ∙ (entries_of-entry (Order e) rest tt (outcomes_behind-told es (max at e.order.at) (drop (e.order.at - at) xs))
    ∙ ap (λ (zs : List Entry). Order e ∷ zs) (entries_of-told es (max at e.order.at) (drop (e.order.at - at) xs) paired))
