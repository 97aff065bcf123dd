use Rattle.std.proofs.Common.{rules, ◌≡◌, ◌∙◌, length, sym, ap, subst, map, List, drop, Some}
use Rattle.std.specs.Vec.{with_items}
use Rattle.std.proofs.lemmas.List.{with_items_is}
use Rattle.core_queue.specs.RuledLane.{AtLane}
use Rattle.dispatch_loop.specs.DispatcherState.{dispatcher_state_by}
use Rattle.dispatch_loop.specs.Past.{past}
use Rattle.dispatch_loop.specs.Tied.{Tied}
use Rattle.sweep_tests.proofs.Lanes.{same_length}
use Rattle.sweep_tests.proofs.dispatcher_party.DispatcherParty.turn.Goals as goal

pub invariant_of-self : goal.invariant_of-self
invariant_of-self g c =
    let v = c.self.inside.lanes in
    let same : c.deref_mut.result.now ≡ v.items = search rules in
    let long : length c.turn.new.lanes ≡ length c.deref_mut.result.now = same_length _ _ _ c.turn.ensures.homes.0 in
    let all : v.len ≡ length v.items = v.ok.0 in
    let after : c.turn.new.lanes ≡ (with_items v c.turn.new.lanes).items = sym (with_items_is v c.turn.new.lanes (long ∙ (ap length same ∙ sym all))) in
    let p = c.self.invariant.tied in
    let k = c.turn.ensures.tied.stays p.0 (subst (λ (l : List AtLane). Tied g.N.RunName.packets p.0 (dispatcher_state_by g.W.FlowWork.cost_of c.self.inside.dispatcher) (map (λ (a : AtLane). a.history) l) c.self.inside.shelf.history c.self.inside.meter.history c.self.inside.reader (Some (drop c.self.inside.source.given c.self.inside.source.all))) (sym same) p.1) in
    record { tied = (past p.0.bytes k.0, subst (λ (l : List AtLane). Tied g.N.RunName.packets (past p.0.bytes k.0) (dispatcher_state_by g.W.FlowWork.cost_of c.turn.new.self) (map (λ (a : AtLane). a.history) l) c.turn.new.shelf.history c.turn.new.meter.history c.turn.new.reader (Some (drop c.turn.new.source.given c.turn.new.source.all))) after k.2) }
