use Rattle.std.proofs.lemmas.Option.{slice_get-get_or}
use Rattle.shared_ends.proofs.Packets.{packet_in}
use Rattle.shared_ends.proofs.in_turn.every_other.Goals as goal

pub work_at-requires-clause-packet : goal.work_at-requires-clause-packet
work_at-requires-clause-packet g c κs within =
    let place = c.loop-place.place in let packets = c.args.packets.now in let inv = c.loop-place.invariant in let run = c.args.shelf.now.run in
    packet_in g.N.RunName.packets run.key _ run.buckets _ c.args.bucket place _ inv.key inv.buckets (c.requires.packets place _ (slice_get-get_or packets place _ c.loop-place-test.true))
