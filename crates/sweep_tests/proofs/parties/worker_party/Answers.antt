use Rattle.std.proofs.Common.{rules, ◌≡◌, ◌∙◌, length, ap}
use Rattle.dispatch_loop.specs.OptionsView.{OptionsView}
use Rattle.sweep_tests.proofs.Begins.{ends_fresh}
use Rattle.sweep_tests.proofs.parties.worker_party.Goals as goal

pub invariant_of-result : goal.invariant_of-result
invariant_of-result g c =
    let o = c.args.options.now in
    let l : c.taker-2.result ≡ c.args.passes.taker = search rules in
    let s : c.end.result ≡ c.args.passes.seat = search rules in
    let m : c.end-3.result ≡ c.args.passes.load = search rules in
    c.in_ok-worker.ensures.tied g.N.RunName.packets c.taker-2.result.history c.end.result.history c.end-3.result.history
    (ends_fresh c.args.core c.options.inside.key o.key c.buckets.result (length o.start.owners) (ap (λ (v : OptionsView). v.key) c.options.view_is) (c.buckets.ensures.value ∙ ap (λ (v : OptionsView). length v.start.owners) c.options.view_is)
    c.taker-2.result c.args.passes.taker l c.end.result c.args.passes.seat s c.end-3.result c.args.passes.load m c.requires.fresh)
