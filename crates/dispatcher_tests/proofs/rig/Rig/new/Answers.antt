use Rattle.std.proofs.Common.{◌∙◌, length, ap, Some, drop}
use Rattle.dispatch_loop.specs.OptionsView.{OptionsView}
use Rattle.flow_work.specs.Costs.{one}
use Rattle.dispatch_loop.specs.DispatcherState.{dispatcher_state_by}
use Rattle.dispatcher_tests.proofs.Begins.{rig_begins}
use Rattle.dispatcher_tests.proofs.rig.Rig.new.Goals as goal

pub invariant_of-result : goal.invariant_of-result
invariant_of-result c =
    rig_begins c.args.options.now c.requires.accepted c.requires.cores c.options.inside.key c.buckets-buckets.result c.args.room
    (ap (λ (o : OptionsView). o.key) c.options.view_is) (c.buckets-buckets.ensures.value ∙ ap (λ (o : OptionsView). length o.start.owners) c.options.view_is)
    (dispatcher_state_by one c.in_ok-dispatcher.dispatcher) c.in_ok-dispatcher.ensures.fresh c.in_ok-first.first c.in_ok-second.second c.in_ok-first.ensures c.in_ok-second.ensures
    c.in_ok-shelf.shelf c.in_ok-shelf.ensures.history c.in_ok-meter.meter c.in_ok-meter.ensures c.in_ok-reader.reader c.start.new.source (Some (drop c.new-source.result.given c.new-source.result.all)) c.in_ok-reader.ensures.header c.in_ok-reader.ensures.first
