-- A turn of a dispatcher claims no table and puts none back.
use Rattle.std.proofs.Common.{◌≡◌, ◌+◌, ◌*◌, ℕ, ap, ◌∙◌, Option, None, Some, inl, inr}
use Rattle.indirection.specs.declared.outcome.Outcome.{Outcome}
use Rattle.indirection.specs.declared.outcome.Outcome.TheVariants.{Moved, Placed, Same, InPassage}
use Rattle.indirection.specs.Tries.{Ask, ask_bucket}
use Rattle.handover_words.specs.declared.history.ShelfHistory.{ShelfHistory}
use Rattle.handover_words.specs.ShelfHistory.{saw}
use Rattle.handover_words.specs.Stock.{Stock}
use Rattle.dispatch_loop.specs.declared.dispatcher_turn.DispatcherTurn.{DispatcherTurn}
use Rattle.dispatch_loop.specs.declared.dispatcher_turn.DispatcherTurn.TheVariants as turn
use Rattle.dispatch_loop.specs.DispatcherState.{DispatcherState}
use Rattle.dispatch_loop.specs.Asks.{start_at}
use Rattle.dispatch_loop.specs.DispatcherSnapshot.{Outs, DispatcherSnapshot}
use Rattle.dispatch_loop.specs.Does.{RestsOn}
use Rattle.dispatch_loop.specs.Rules.{OnlyMeets, Acts, IsNext, Tries}

same-custody : (v v' : ShelfHistory) → v' ≡ v → OnlyMeets v v'
same-custody v v' e = record {
  key = ap (λ (z : ShelfHistory). z.key) e;
  buckets = ap (λ (z : ShelfHistory). z.buckets) e;
  shares = ap (λ (z : ShelfHistory). z.shares) e;
  held = ap (λ (z : ShelfHistory). z.held) e;
  ended = ap (λ (z : ShelfHistory). z.ended) e;
}

saw-only : (b word : ℕ) (v v' : ShelfHistory) → v' ≡ saw b word v → OnlyMeets v v'
saw-only b word v v' e = record {
  key = ap (λ (z : ShelfHistory). z.key) e;
  buckets = ap (λ (z : ShelfHistory). z.buckets) e;
  shares = ap (λ (z : ShelfHistory). z.shares) e;
  held = ap (λ (z : ShelfHistory). z.held) e;
  ended = ap (λ (z : ShelfHistory). z.ended) e;
}

both : (v w x : ShelfHistory) → OnlyMeets v w → OnlyMeets w x → OnlyMeets v x
both v w x a b = record { key = b.key ∙ a.key; buckets = b.buckets ∙ a.buckets; shares = b.shares ∙ a.shares; held = b.held ∙ a.held; ended = b.ended ∙ a.ended }

rests-leave : {T : Type 0} (f : DispatcherState) (b : ℕ) (outcome : Outcome) (o : Outs) (v : ShelfHistory) (n : Option (Stock T)) (o' : Outs) (v' : ShelfHistory) (n' : Option (Stock T)) → RestsOn f b outcome o v n o' v' n' → OnlyMeets v v'
rests-leave f b (Moved tail) o v n o' v' n' h = saw-only b (2 * start_at f b + 2) v v' h.0.0
rests-leave f b (InPassage tail sent (Some word)) o v n o' v' n' h = saw-only b word v v' h.0.0
rests-leave f b (InPassage tail sent None) o v n o' v' n' h = same-custody v v' h.1
rests-leave f b Placed o v n o' v' n' h = same-custody v v' h.1
rests-leave f b Same o v n o' v' n' h = same-custody v v' h.1

tries-leave : {T : Type 0} (answer : DispatcherTurn) (a : Ask) (f f' : DispatcherState) (o : Outs) (v : ShelfHistory) (n : Option (Stock T)) (o' : Outs) (v' : ShelfHistory) (n' : Option (Stock T)) → Tries answer a f f' o v n o' v' n' → OnlyMeets v v'
tries-leave turn.Ordered a f f' o v n o' v' n' h = rests-leave f (ask_bucket a) h.outcome o v n o' v' n' h.rests
tries-leave turn.NoCell a f f' o v n o' v' n' h = saw-only (ask_bucket a) (2 * start_at f (ask_bucket a) + 2) v v' h.move.looks.0
tries-leave (turn.LaneFull c) a f f' o v n o' v' n' h = saw-only (ask_bucket a) (2 * start_at f (ask_bucket a) + 2) v v' h.move.looks.0
tries-leave turn.Sent a f f' o v n o' v' n' h = absurd h
tries-leave turn.Round a f f' o v n o' v' n' h = absurd h
tries-leave turn.EndSent a f f' o v n o' v' n' h = absurd h
tries-leave (turn.Finished e) a f f' o v n o' v' n' h = absurd h

next-leaves : {T : Type 0} (answer : DispatcherTurn) (m t : DispatcherSnapshot T) → IsNext answer m t → OnlyMeets m.shelf t.shelf
next-leaves answer m t (inl k) = same-custody m.shelf t.shelf k.1.shelf.0
next-leaves answer m t (inr k) = same-custody m.shelf t.shelf k.shelf.0

pub acts-leave : {T : Type 0} (answer : DispatcherTurn) (s t : DispatcherSnapshot T) → Acts answer s t → OnlyMeets s.shelf t.shelf
acts-leave answer s t (inl k) = tries-leave answer k.ask s.dispatcher t.dispatcher s.outs s.shelf s.shelf_now t.outs t.shelf t.shelf_now k.tries
acts-leave answer s t (inr k) = both s.shelf k.0.shelf t.shelf (same-custody s.shelf k.0.shelf k.1.shelf.0) (next-leaves answer k.0 t k.2)
