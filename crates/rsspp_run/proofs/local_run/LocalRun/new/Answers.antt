use Rattle.std.proofs.Common.{refl}
use Rattle.rsspp_run.proofs.Opening.{new_for}
use Rattle.rsspp_run.proofs.local_run.LocalRun.new.Goals as goal

pub returns : goal.returns
returns g c =
    let shelf = c.in_ok-shelf.ensures in
    new_for _ c.args.options.now c.buckets-buckets.result _ c.options.view_is c.buckets-buckets.ensures.value refl c.in_ok-workers.ensures c.in_ok-lanes.ensures (λ i. record { words = shelf.words i; homes = shelf.homes i; history = shelf.history i }) c.in_ok-pool.ensures c.in_ok-meter.ensures
