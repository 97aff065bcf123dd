use Rattle.std.proofs.Common.{◌≡◌, ◌∙◌, ◌+◌, ◌++◌, ◌∷◌, [], rules, length, ap}
use Rattle.dispatch_loop.specs.OptionsView.{OptionsView}
use Rattle.threaded_run.proofs.Opened.{shared_is}
use Rattle.threaded_run.proofs.opening.open_shared.Goals as goal

pub returns : goal.returns
returns g c =
    let o = c.args.options.now in let is = c.options.view_is in
    let split : c.in_ok-pool.cells.items ≡ c.pop.new.self.items ++ c.in-Some.own_cells ∷ [] = search rules in
    shared_is o c.options.inside.key c.buckets-buckets.result (c.options.inside.cores + 1) c.in_ok-lanes.field-0.lanes.items c.in_ok-shelf.shelf c.in_ok-pool.pool c.in_ok-meter.meter c.in_ok-lanes.field-0.senders.items c.in_ok-lanes.field-0.takers.items
    c.in_ok-pool.cells.items c.pop.new.self.items c.in-Some.own_cells c.in_ok-shelf.seat c.in_ok-meter.load
    (ap (λ (v : OptionsView). v.key) is) (c.buckets-buckets.ensures.value ∙ ap (λ (v : OptionsView). length v.start.owners) is) (ap (λ (v : OptionsView). v.cores + 1) is)
    (c.in_ok-lanes.ensures.count ∙ ap (λ (v : OptionsView). v.cores) is) c.in_ok-lanes.ensures.senders c.in_ok-lanes.ensures.takers c.in_ok-shelf.ensures (search rules) split (search rules)
