-- The orders of a lawful journal are those that were given for its positions.
use Rattle.std.proofs.Common.{◌≡◌, ℕ, suc, ◌+◌, ◌<◌, ◌≤◌, Bool, true, false, List, [], ◌∷◌, ◌++◌, map, filter, length, get_or, append_assoc, ⊎_elim, if◌then◌else◌, ◌==◌, refl, sym, ap, ◌∙◌, arith, le-ltb, lt-ltb, eq-eqb, ne_eqb, le-leb}
use Rattle.std.specs.Prelude.{nat_lt, nat_le}
use Rattle.std.specs.List.Sorted.{IsNonDecreasing}
use Rattle.std.proofs.lemmas.List.{append-nil, map-append}
use Rattle.std.proofs.lemmas.Bool.{cases_lt, lt-leb}
use Rattle.indirection.specs.declared.proposal.Proposal.{Proposal}
use Rattle.indirection.specs.declared.outcome.Outcome.{Outcome}
use Rattle.indirection.specs.declared.move_order.MoveOrder.{MoveOrder}
use Rattle.indirection.specs.declared.entry.Entry.{Entry}
use Rattle.indirection.specs.declared.entry.Entry.TheVariants.{Round, Order}
use Rattle.indirection.specs.JournalView.{JournalView}
use Rattle.indirection.specs.Each.{Each}
use Rattle.indirection.specs.Tries.{Ask, Proposed, Ordered, Try, round_tries, tries}
use Rattle.indirection.specs.Story.{Parcel, Step, Rounds, Tries, Sends, told, tries_of, try_of}
use Rattle.indirection.specs.Due.{Rules, position, proposed_in, orders_at}
use Rattle.indirection.specs.Lawful.{Fits, IsLawful}
use Rattle.indirection.specs.JournalFacts.{orders_in, orders_up_to}
use Rattle.indirection.proofs.Each.{Each-keeps}
use Rattle.indirection.proofs.Steps.{tries_of-append, tries_of-round, tries_of-send, parcels_of-round, parcels_of-try}
use Rattle.indirection.proofs.Told.{tries_of-told, parcels_of-told}
use Rattle.indirection.proofs.Positions.{here_from-push, position-send}
use Rattle.indirection.proofs.AskedInTurn.{asks, here, InTurn, step_in_turn, AllAsked, all_asked}

-- ---- the orders among what is asked

orders_asked : List Ask → List MoveOrder
orders_asked [] = []
orders_asked (Proposed at p ∷ qs) = orders_asked qs
orders_asked (Ordered m ∷ qs) = m ∷ orders_asked qs

orders_asked-append : (qs bs : List Ask) → orders_asked (qs ++ bs) ≡ orders_asked qs ++ orders_asked bs
unfolding orders_asked
orders_asked-append [] bs = refl
orders_asked-append (Proposed at p ∷ qs) bs = orders_asked-append qs bs
orders_asked-append (Ordered m ∷ qs) bs = ap (λ (ms : List MoveOrder). m ∷ ms) (orders_asked-append qs bs)

orders_asked-proposed : (at : ℕ) (ps : List Proposal) → orders_asked (map (Proposed at) ps) ≡ []
unfolding orders_asked
orders_asked-proposed at [] = refl
orders_asked-proposed at (p ∷ ps) = orders_asked-proposed at ps

orders_asked-rounds : (ss : List Step) → orders_asked (proposed_in ss) ≡ []
unfolding orders_asked
orders_asked-rounds [] = refl
orders_asked-rounds (Rounds h ∷ ss) =
    orders_asked-append (map (Proposed h.at) h.proposals) (proposed_in ss)
    ∙ (ap (λ (ms : List MoveOrder). ms ++ orders_asked (proposed_in ss)) (orders_asked-proposed h.at h.proposals) ∙ orders_asked-rounds ss)
orders_asked-rounds (Tries a o ∷ ss) = orders_asked-rounds ss
orders_asked-rounds (Sends p ∷ ss) = orders_asked-rounds ss

orders_asked-ordered : (ms : List MoveOrder) → orders_asked (map Ordered ms) ≡ ms
unfolding orders_asked
orders_asked-ordered [] = refl
orders_asked-ordered (m ∷ ms) = ap (λ (zs : List MoveOrder). m ∷ zs) (orders_asked-ordered ms)

ordered : List Try → List MoveOrder
ordered ts = orders_asked (asks ts)

ordered-append : (ts us : List Try) → ordered (ts ++ us) ≡ ordered ts ++ ordered us
unfolding ordered
ordered-append ts us = ap orders_asked (map-append (λ (t : Try). t.ask) ts us) ∙ orders_asked-append (asks ts) (asks us)

ordered-round : (at : ℕ) (ps : List Proposal) (os : List Outcome) → ordered (round_tries at ps os) ≡ []
unfolding ordered orders_asked
ordered-round at [] os = refl
ordered-round at (p ∷ ps) [] = refl
ordered-round at (p ∷ ps) (o ∷ os) = ordered-round at ps os

ordered-entries : (es : List Entry) → ordered (tries es) ≡ orders_in es
unfolding ordered orders_asked
ordered-entries [] = refl
ordered-entries (Round r ∷ es) =
    ordered-append (round_tries r.at r.proposals r.outcomes) (tries es)
    ∙ (ap (λ (ms : List MoveOrder). ms ++ ordered (tries es)) (ordered-round r.at r.proposals r.outcomes) ∙ ordered-entries es)
ordered-entries (Order e ∷ es) = ap (λ (ms : List MoveOrder). e.order ∷ ms) (ordered-entries es)

-- ---- orders whose positions don't fall

abbrev Climb : ℕ → List MoveOrder → Type 0
Climb low [] = Unit {0}
Climb low (m ∷ ms) = (low ≤ m.at) × Climb m.at ms

abbrev places : List MoveOrder → List ℕ
places ms = map (λ (m : MoveOrder). m.at) ms

climb : (low : ℕ) (ms : List MoveOrder) → ((j d : ℕ) → j < length (places ms) → low ≤ get_or (places ms) j d) → IsNonDecreasing (places ms) → Climb low ms
climb low [] bound sorted = tt
climb low (m ∷ ms) bound sorted = (
  bound 0 0 (omega arith),
  climb m.at ms (λ j d lt. sorted 0 (suc j) d (omega arith) (omega arith)) (λ i j d le lt. sorted (suc i) (suc j) d (omega arith) (omega arith)),
)

abbrev below : ℕ → List MoveOrder → List MoveOrder
below n ms = filter (λ (m : MoveOrder). nat_lt m.at n) ms

abbrev at_place : ℕ → List MoveOrder → List MoveOrder
at_place n ms = filter (λ (m : MoveOrder). m.at == n) ms

none_below : (n low : ℕ) (ms : List MoveOrder) → n ≤ low → Climb low ms → below n ms ≡ []
none_below n low [] h c = refl
none_below n low (m ∷ ms) h c =
    let from = c.0 in
    ap (λ (t : Bool). if t then m ∷ below n ms else below n ms) (le-ltb m.at n (omega arith)) ∙ none_below n m.at ms (omega arith) c.1

-- those below a position, and then those at it, are those up to it
next_orders : (q : ℕ → Bool) (n : ℕ) → ((x : ℕ) → x ≤ n → q x ≡ true) → ((x : ℕ) → n < x → q x ≡ false) → (low : ℕ) (ms : List MoveOrder) → Climb low ms → below n ms ++ at_place n ms ≡ filter (λ (m : MoveOrder). q m.at) ms
next_orders q n upto_it past_it low [] c = refl
next_orders q n upto_it past_it low (m ∷ ms) c =
    let later = next_orders q n upto_it past_it m.at ms c.1 in
    ⊎_elim
    (λ (l : m.at < n). head true false true (lt-ltb m.at n l) (ne_eqb m.at n (λ e. absurd (omega arith))) (upto_it m.at (omega arith)) (ap (λ (zs : List MoveOrder). m ∷ zs) later))
    (λ (l : n ≤ m.at). ⊎_elim
    (λ (k : n < m.at). head false false false (le-ltb m.at n l) (ne_eqb m.at n (λ e. absurd (omega arith))) (past_it m.at k) later)
    (λ (k : m.at ≤ n).
    let none = none_below n m.at ms l c.1 in
    head false true true (le-ltb m.at n l) (eq-eqb m.at n (omega arith)) (upto_it m.at k)
    (ap (λ (zs : List MoveOrder). zs ++ m ∷ at_place n ms) none ∙ ap (λ (zs : List MoveOrder). m ∷ zs) (sym (ap (λ (zs : List MoveOrder). zs ++ at_place n ms) none) ∙ later)))
    (cases_lt n m.at))
    (cases_lt m.at n) where
      head : (a b z : Bool) → nat_lt m.at n ≡ a → (m.at == n) ≡ b → q m.at ≡ z
          → (if a then m ∷ below n ms else below n ms) ++ (if b then m ∷ at_place n ms else at_place n ms) ≡ (if z then m ∷ filter (λ (m : MoveOrder). q m.at) ms else filter (λ (m : MoveOrder). q m.at) ms)
          → below n (m ∷ ms) ++ at_place n (m ∷ ms) ≡ filter (λ (m : MoveOrder). q m.at) (m ∷ ms)
      head a b z ea eb ez is =
          ap (λ (t : Bool). (if t then m ∷ below n ms else below n ms) ++ at_place n (m ∷ ms)) ea
          ∙ (ap (λ (t : Bool). (if a then m ∷ below n ms else below n ms) ++ (if t then m ∷ at_place n ms else at_place n ms)) eb
          ∙ (is
          ∙ sym (ap (λ (t : Bool). if t then m ∷ filter (λ (m : MoveOrder). q m.at) ms else filter (λ (m : MoveOrder). q m.at) ms) ez)))

-- ---- along a story

-- the orders so far are those below the position, and those since the last packet
abbrev AreOrders : Rules → List Step → Type 0
AreOrders rules ss = ordered (tries_of ss) ≡ below (position ss) rules.moves ++ ordered (tries_of (here ss))

-- where all was asked, those since the last packet are those at the position
orders_here : (rules : Rules) (n : ℕ) (steps : List Step) → AllAsked rules n steps → ordered (tries_of steps) ≡ at_place n rules.moves
unfolding ordered
orders_here rules n steps all =
    ap orders_asked all.asked
    ∙ (orders_asked-append (proposed_in steps) (orders_at rules n)
    ∙ (ap (λ (ms : List MoveOrder). ms ++ orders_asked (orders_at rules n)) (orders_asked-rounds steps)
    ∙ orders_asked-ordered (at_place n rules.moves)))

abbrev Told : Rules → List Step → Type 0
Told rules ss = InTurn rules (position ss) (here ss) × AreOrders rules ss

step_orders : (rules : Rules) → Climb 0 rules.moves → (ss : List Step) (x : Step) → Told rules ss → Fits rules ss x → AreOrders rules (ss ++ x ∷ [])
unfolding ordered orders_asked
step_orders rules climbs ss (Rounds h) t fits =
    rw (tries_of-round ss h, parcels_of-round ss h, here_from-push [] ss (Rounds h), tries_of-round (here ss) h) t.1
step_orders rules climbs ss (Tries a o) t fits =
    rw (tries_of-append ss (Tries a o ∷ []), parcels_of-try ss a o, here_from-push [] ss (Tries a o), tries_of-append (here ss) (Tries a o ∷ []))
    (ordered-append (tries_of ss) (try_of a o ∷ [])
    ∙ (ap (λ (ms : List MoveOrder). ms ++ ordered (try_of a o ∷ [])) t.1
    ∙ (append_assoc (below (position ss) rules.moves) (ordered (tries_of (here ss))) (ordered (try_of a o ∷ []))
    ∙ ap (λ (ms : List MoveOrder). below (position ss) rules.moves ++ ms) (sym (ordered-append (tries_of (here ss)) (try_of a o ∷ []))))))
step_orders rules climbs ss (Sends p) t fits =
    let n = position ss in
    rw (tries_of-send ss p, here_from-push [] ss (Sends p), position-send ss p)
    (t.1
    ∙ (ap (λ (ms : List MoveOrder). below n rules.moves ++ ms) (orders_here rules n (here ss) (all_asked rules ss t.0 fits))
    ∙ (next_orders (λ x. nat_lt x (n + 1)) n (λ x l. lt-ltb x (n + 1) (omega arith)) (λ x l. le-ltb x (n + 1) (omega arith)) 0 rules.moves climbs
    ∙ sym (append-nil (below (n + 1) rules.moves)))))

told_orders : (rules : Rules) → Climb 0 rules.moves → (ss : List Step) → Each (Fits rules) ss → Told rules ss
unfolding ordered orders_asked
told_orders rules climbs ss each =
    Each-keeps (Fits rules) (Told rules)
    (record { asked = refl; proposed = λ _. refl; unasked = λ _ _. refl; only = λ made. absurd (cc) }, sym (append-nil (below 0 rules.moves) ∙ none_below 0 0 rules.moves (omega arith) climbs))
    (λ ss x t fits. (step_in_turn rules ss x t.0 fits, step_orders rules climbs ss x t fits)) ss each

pub lawful_orders : (rules : Rules) (xs : List Parcel) (j : JournalView) → IsNonDecreasing (map (λ (m : MoveOrder). m.at) rules.moves) → IsLawful rules xs j → orders_in j.entries ≡ orders_up_to rules (length xs)
lawful_orders rules xs j sorted lawful =
    let climbs = climb 0 rules.moves (λ _ _ _. omega arith) sorted in
    let ss : List Step = told 0 xs j.entries in
    let t = told_orders rules climbs ss lawful.so_far.steps in
    let n = position ss in
    sym (ordered-entries j.entries)
    ∙ (ap ordered (sym (tries_of-told j.entries 0 xs))
    ∙ (t.1
    ∙ (ap (λ (ms : List MoveOrder). below n rules.moves ++ ms) (orders_here rules n (here ss) (all_asked rules ss t.0 lawful.whole))
    ∙ (next_orders (λ x. nat_le x n) n (λ x l. le-leb x n l) (λ x l. lt-leb x n l) 0 rules.moves climbs
    ∙ ap (λ (ps : List Parcel). orders_up_to rules (length ps)) (parcels_of-told j.entries 0 xs)))))
