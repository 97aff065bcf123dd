use Rattle.std.proofs.Common.{rules, ◌≡◌, ◌∙◌, length, sym, ap}
use Rattle.std.specs.Vec.{with_items}
use Rattle.std.proofs.lemmas.List.{with_items_is}
use Rattle.dispatch_loop.specs.DispatcherState.{dispatcher_state_by}
use Rattle.run_shifts.specs.Parties.{DispatcherPartyState, party_state_by}
use Rattle.run_shifts.proofs.Leading.{leads_from, leads_to, same_length}
use Rattle.run_shifts.proofs.dispatcher_party.dispatch_shift.Goals as goal

pub returns-clause-leads : goal.returns-clause-leads
returns-clause-leads g c =
    let v = c.dispatcher_party.inside.lanes in
    let same : c.deref_mut.result.now ≡ v.items = search rules in
    let long : length c.dispatch_turns.new.lanes ≡ length c.deref_mut.result.now = same_length _ _ _ c.dispatch_turns.ensures.homes.0 in
    let all : v.len ≡ length v.items = v.ok.0 in
    let after : c.dispatch_turns.new.lanes ≡ (with_items v c.dispatch_turns.new.lanes).items = sym (with_items_is v c.dispatch_turns.new.lanes (long ∙ (ap length same ∙ sym all))) in
    let d : DispatcherPartyState = record { state = dispatcher_state_by g.W.FlowWork.cost_of c.dispatch_turns.new.dispatcher; reader = c.dispatch_turns.new.reader; lanes = (with_items v c.dispatch_turns.new.lanes).items; shelf = c.dispatch_turns.new.shelf; pool = c.dispatch_turns.new.pool; meter = c.dispatch_turns.new.meter } in
    leads_from g.N.RunName.packets _ _ _ _ _ _ (ap (party_state_by g.W.FlowWork.cost_of) c.dispatcher_party.view_is) same (leads_to g.N.RunName.packets _ d _ _ _ after c.dispatch_turns.ensures.leads)
