-- Whatever a lawful journal asks for are cores.
use Rattle.std.proofs.Common.{suc, ◌≡◌, ℕ, ◌<◌, Bool, true, false, cond, List, [], ◌∷◌, ◌++◌, length, filter, refl, sym, ◌∙◌, subst, arith, All, append_assoc}
use Rattle.std.specs.Prelude.{nat_le}
use Rattle.indirection.specs.declared.entry.Entry.{Entry}
use Rattle.indirection.specs.declared.entry.Entry.TheVariants.{Round, Order}
use Rattle.indirection.specs.declared.move_order.MoveOrder.{MoveOrder}
use Rattle.indirection.specs.declared.outcome.Outcome.{Outcome}
use Rattle.indirection.specs.declared.proposal.Proposal.{Proposal}
use Rattle.indirection.specs.JournalFacts.{orders_in}
use Rattle.indirection.specs.JournalView.{JournalView}
use Rattle.indirection.specs.Lawful.{IsLawful}
use Rattle.indirection.specs.Story.{Parcel}
use Rattle.indirection.specs.Tries.{Try, owners_after, round_tries, tries}
use Rattle.indirection.proofs.OrdersIn.{lawful_orders}
use Rattle.indirection.proofs.RoundFacts.{lawful_weighing}
use Rattle.balancer.specs.Greedy.{opening}
use Rattle.balancer.specs.Moves.{AreMoves}
use Rattle.balancer.proofs.Proposed.{named_proposals}
use Rattle.dispatch_loop.specs.Accepted.{IsOrderFor}
use Rattle.dispatch_loop.specs.Terms.{Terms, IsSound, cores_of, rules_of}
use Rattle.rsspp_run.specs.Custody.{AreTo}

-- the orders go to the first n cores
abbrev GoTo : ℕ → List MoveOrder → Type 0
GoTo n [] = Unit {0}
GoTo n (m ∷ ms) = (m.to < n) × GoTo n ms

go_to : (t : Terms) (ms : List MoveOrder) → All (IsOrderFor t.start) ms → GoTo (cores_of t) ms
go_to t [] h = tt
go_to t (m ∷ ms) h = ((h 0 m (omega arith)).to, go_to t ms (λ k d lt. h (suc k) d (omega arith)))

go_if : (n : ℕ) (m : MoveOrder) (ms : List MoveOrder) (b : Bool) → m.to < n → GoTo n ms → GoTo n (cond b (m ∷ ms) ms)
go_if n m ms true near h = (near, h)
go_if n m ms false near h = h

go_filter : (n : ℕ) (q : MoveOrder → Bool) (ms : List MoveOrder) → GoTo n ms → GoTo n (filter q ms)
go_filter n q [] h = tt
go_filter n q (m ∷ ms) h = go_if n m (filter q ms) (q m) h.0 (go_filter n q ms h.1)

both_to : (n : ℕ) (ts us : List Try) → AreTo n ts → AreTo n us → AreTo n (ts ++ us)
both_to n [] us h k = k
both_to n (t ∷ ts) us h k = (h.0, both_to n ts us h.1 k)

round_to : (n buckets at : ℕ) (ps : List Proposal) (os : List Outcome) → AreMoves n buckets ps → AreTo n (round_tries at ps os)
round_to n buckets at [] os h = tt
round_to n buckets at (p ∷ ps) [] h = tt
round_to n buckets at (p ∷ ps) (o ∷ os) h = ((h 0 p (omega arith)).to, round_to n buckets at ps os (λ k d lt. h (suc k) d (omega arith)))

module _ (t : Terms) (xs : List Parcel) (j : JournalView) (sound : IsSound t) (lawful : IsLawful (rules_of t) xs j) where
  entries_to : (front es : List Entry) → j.entries ≡ front ++ es → GoTo (cores_of t) (orders_in es) → AreTo (cores_of t) (tries es)
  entries_to front [] is go = tt
  entries_to front (Round r ∷ es) is go =
      let behind = lawful_weighing (rules_of t) xs j front es r lawful.so_far is in
      let moves = subst (λ (ps : List Proposal). AreMoves (cores_of t) (length (owners_after j.start (tries front))) ps) (sym behind.proposals) (named_proposals t.policy (cores_of t) t.limit r.loads (owners_after j.start (tries front))).moves in
      both_to (cores_of t) (round_tries r.at r.proposals r.outcomes) (tries es) (round_to (cores_of t) (length (owners_after j.start (tries front))) r.at r.proposals r.outcomes moves)
      (entries_to (front ++ Round r ∷ []) es (is ∙ sym (append_assoc front (Round r ∷ []) es)) go)
  entries_to front (Order e ∷ es) is go = (go.0, entries_to (front ++ Order e ∷ []) es (is ∙ sym (append_assoc front (Order e ∷ []) es)) go.1)

  pub tries_to : AreTo (cores_of t) (tries j.entries)
  tries_to = entries_to [] j.entries refl
      (subst (GoTo (cores_of t)) (sym (lawful_orders (rules_of t) xs j sound.rising lawful)) (go_filter (cores_of t) (λ (m : MoveOrder). nat_le m.at (length xs)) t.moves (go_to t t.moves sound.orders)))
