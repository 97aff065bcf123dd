use Rattle.std.proofs.Common.{◌≡◌, [], List, length, map, Some, rules, refl, sym, ap, ◌∙◌, subst, arith}
use Rattle.core_queue.specs.RuledLane.{SharedLane, AtLane}
use Rattle.handover_words.specs.WordShelf.{AtShelf}
use Rattle.load_meter.specs.Meter.{AtMeter}
use Rattle.worker_loop.specs.Workload.{workload}
use Rattle.dispatch_loop.specs.DispatcherState.{DispatcherState, dispatcher_state_by}
use Rattle.dispatch_loop.specs.Past.{past}
use Rattle.dispatch_loop.specs.Terms.{terms_of, buckets_of}
use Rattle.dispatch_loop.specs.Tied.{Tied}
use Rattle.rsspp_run.proofs.Folds.{refused_at_start}
use Rattle.run_shifts.specs.Parties.{SharedView, DispatcherPartyState, party_state_by}
use Rattle.threaded_run.specs.Parties.{IsBack, HasRun}
use Rattle.threaded_run.specs.PartyLists.{AreOfLanes, IsFreeSeat}
use Rattle.threaded_run.proofs.Lists.{same_long}
use Rattle.threaded_run.proofs.Starting.{first_homes, first_tied, back, has_run, has_blamed}
use Rattle.threaded_run.proofs.parties.run_parties.Goals as goal

pub ends_of-requires-clause-lanes : goal.ends_of-requires-clause-lanes
ends_of-requires-clause-lanes g c =
    let k = c.requires.parties in let place = c.args.shared.now in let t = terms_of g.W.FlowWork.cost_of k.0 in
    let same : c.deref.result.now ≡ c.args.shared.now.lanes = c.deref.ensures.value ∙ ap (λ (o : SharedView). o.lanes) c.shared.view_is in
    subst (λ (ls : List SharedLane). AreOfLanes ls c.args.parties.senders.items) (sym same) (first_homes t.key (buckets_of t) place.lanes c.args.parties.senders.items k.2.senders_are)

pub returns-in_err-reader-clause-refused : goal.returns-in_err-reader-clause-refused
returns-in_err-reader-clause-refused g c =
    let k = refused_at_start (dispatcher_state_by g.W.FlowWork.cost_of c.args.parties.dispatcher).terms.packets (g.S.Source.left c.args.source.now) (g.S.Source.left c.start.new.source) c.in_err-reader.field-0.0 c.in_err-reader.ensures.refused c.in_err-reader.ensures.stops in
    let from = c.from_residual-in_err-reader.ensures in
    search (rules, k, from)

pub run_shifts-worker_parties-requires-clause-tied : goal.run_shifts-worker_parties-requires-clause-tied
run_shifts-worker_parties-requires-clause-tied g c κs within =
    let k = c.requires.parties in let w = c.args.parties in let left = g.S.Source.left in let j = workload g.W.FlowWork.opening g.W.FlowWork.after g.W.FlowWork.cost_of g.N.RunName.packets in
    let first = first_tied j g.N.RunName.packets k.0 k.1 (λ p. ((g.met.W.FlowWork g.world.𝓛 g.world.𝓜 g.world.𝓡 ((λ s x. x), (λ x. x), (λ x. x), λ x. x)).costs p).1) c.args.shared.now (dispatcher_state_by g.W.FlowWork.cost_of w.dispatcher) w.senders.items w.seat w.load w.cells w.worker_parties.items k.2 (left c.args.source.now) (left c.start.new.source) c.in_ok-reader.reader k.3 c.in_ok-reader.ensures.header c.in_ok-reader.ensures.first in
    let ends = c.ends_of.ensures in let seat = c.end.ensures in let load = c.end-3.ensures in (
      past (left c.args.source.now) [],
      subst (λ (z : List AtLane × AtShelf × AtMeter). Tied g.N.RunName.packets (past (left c.args.source.now) []) (dispatcher_state_by g.W.FlowWork.cost_of w.dispatcher) (map (λ (e : AtLane). e.history) z.0) z.1.history z.2.history c.in_ok-reader.reader (left c.start.new.source)) (λ i. (sym ends i, sym seat i, sym load i)) first,
    )

pub leave-dispatcher-requires-clause-room : goal.leave-dispatcher-requires-clause-room
leave-dispatcher-requires-clause-room g c κs within =
    let same = same_long (λ (a : AtLane). Some a.home) (λ (a : AtLane). Some a.home) (party_state_by g.W.FlowWork.cost_of c.run_shifts-worker_parties.new.dispatcher_party).lanes c.ends_of.new.ends.items c.run_shifts-worker_parties.ensures.ends.lanes in
    let many = ap length c.ends_of.ensures in let room = c.requires.passes.1 in omega arith

pub returns-clause-back : goal.returns-clause-back
returns-clause-back g c =
    let k = c.requires.parties in let w = c.args.parties in let place = c.args.shared.now in let t = terms_of g.W.FlowWork.cost_of k.0 in let left = g.S.Source.left in let faults = g.S.Source.faults in
    let d : DispatcherPartyState = record { state = (dispatcher_state_by g.W.FlowWork.cost_of w.dispatcher); reader = c.in_ok-reader.reader; lanes = c.ends_of.new.ends.items; shelf = c.end.result; pool = c.end-2.result; meter = c.end-3.result } in
    let ends = c.ends_of.ensures in let seat = c.end.ensures in let passes = c.leave-dispatcher.ensures.passes in let own = c.leave-dispatcher.ensures.seat in
    let came = back place t.key (buckets_of t) d (party_state_by g.W.FlowWork.cost_of c.run_shifts-worker_parties.new.dispatcher_party) (ends ∙ k.2.senders_are) (subst (λ (a : AtShelf). IsFreeSeat place.shelf a) (sym seat) k.2.seat_is)
    g.N.RunName.packets (left c.start.new.source) (left c.run_shifts-worker_parties.new.source) (faults c.start.new.source) (faults c.run_shifts-worker_parties.new.source) c.run_shifts-worker_parties.ensures.leads c.run_shifts-worker_parties.ensures.ends in
    subst (λ (z : List AtLane × AtShelf × List AtLane × AtShelf). IsBack place z.0 z.1 z.2 z.3) (λ i. (ends i, seat i, sym passes i, sym own i)) came

pub returns-clause-run : goal.returns-clause-run
returns-clause-run g c =
    let k = c.requires.parties in let w = c.args.parties in let left = g.S.Source.left in let faults = g.S.Source.faults in let j = workload g.W.FlowWork.opening g.W.FlowWork.after g.W.FlowWork.cost_of g.N.RunName.packets in
    let d : DispatcherPartyState = record { state = (dispatcher_state_by g.W.FlowWork.cost_of w.dispatcher); reader = c.in_ok-reader.reader; lanes = c.ends_of.new.ends.items; shelf = c.end.result; pool = c.end-2.result; meter = c.end-3.result } in
    let first = first_tied j g.N.RunName.packets k.0 k.1 (λ p. ((g.met.W.FlowWork g.world.𝓛 g.world.𝓜 g.world.𝓡 ((λ s x. x), (λ x. x), (λ x. x), λ x. x)).costs p).1) c.args.shared.now (dispatcher_state_by g.W.FlowWork.cost_of w.dispatcher) w.senders.items w.seat w.load w.cells w.worker_parties.items k.2 (left c.args.source.now) (left c.start.new.source) c.in_ok-reader.reader k.3 c.in_ok-reader.ensures.header c.in_ok-reader.ensures.first in
    let ends = c.ends_of.ensures in let seat = c.end.ensures in let load = c.end-3.ensures in let passes = c.leave-dispatcher.ensures.passes in let own = c.leave-dispatcher.ensures.dispatcher in
    let tied = subst (λ (z : List AtLane × AtShelf × AtMeter). Tied g.N.RunName.packets (past (left c.args.source.now) []) (dispatcher_state_by g.W.FlowWork.cost_of w.dispatcher) (map (λ (e : AtLane). e.history) z.0) z.1.history z.2.history c.in_ok-reader.reader (left c.start.new.source)) (λ i. (sym ends i, sym seat i, sym load i)) first in
    let ran = has_run g.N.RunName.packets (dispatcher_state_by g.W.FlowWork.cost_of w.dispatcher).terms (left c.args.source.now) c.run_shifts-worker_parties.result.1 d (party_state_by g.W.FlowWork.cost_of c.run_shifts-worker_parties.new.dispatcher_party) (left c.start.new.source) (left c.run_shifts-worker_parties.new.source) (faults c.start.new.source) (faults c.run_shifts-worker_parties.new.source)
    refl tied c.run_shifts-worker_parties.ensures.leads c.run_shifts-worker_parties.ensures.finished in
    subst (λ (z : DispatcherState × List AtLane). HasRun g.N.RunName.packets (dispatcher_state_by g.W.FlowWork.cost_of w.dispatcher).terms (left c.args.source.now) c.run_shifts-worker_parties.result.1 z.0 (map (λ (p : AtLane). p.history) z.1) (left c.run_shifts-worker_parties.new.source)) (λ i. (dispatcher_state_by g.W.FlowWork.cost_of (sym own i), sym passes i)) ran

pub returns-clause-blames : goal.returns-clause-blames
returns-clause-blames g c =
    let k = c.requires.parties in let w = c.args.parties in let left = g.S.Source.left in let faults = g.S.Source.faults in
    let d : DispatcherPartyState = record { state = (dispatcher_state_by g.W.FlowWork.cost_of w.dispatcher); reader = c.in_ok-reader.reader; lanes = c.ends_of.new.ends.items; shelf = c.end.result; pool = c.end-2.result; meter = c.end-3.result } in
    has_blamed g.N.RunName.packets (terms_of g.W.FlowWork.cost_of k.0) c.run_shifts-worker_parties.result.1 d (party_state_by g.W.FlowWork.cost_of c.run_shifts-worker_parties.new.dispatcher_party) (left c.start.new.source) (left c.run_shifts-worker_parties.new.source) (faults c.args.source.now) (faults c.start.new.source) (faults c.run_shifts-worker_parties.new.source)
    k.2.fresh c.in_ok-reader.ensures.cause.answer c.run_shifts-worker_parties.ensures.leads c.run_shifts-worker_parties.ensures.finished
