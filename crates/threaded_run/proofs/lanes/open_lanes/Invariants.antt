use Rattle.std.proofs.Common.{◌≡◌, vec_len, vec_capacity}
use Rattle.threaded_run.specs.PartyLists.{new_passes}
use Rattle.threaded_run.proofs.lanes.open_lanes.Given as goal

abbrev pub invariant-loop-core : goal.invariant-loop-core
invariant-loop-core g l =
    record {
      lanes : (vec_len l.lanes ≡ l._core) × (vec_capacity l.lanes ≡ l.cores);
      senders : (l.senders.items ≡ new_passes l.key l.buckets l.lanes.items) × (vec_capacity l.senders ≡ l.cores);
      takers : (l.takers.items ≡ new_passes l.key l.buckets l.lanes.items) × (vec_capacity l.takers ≡ l.cores);
    }
