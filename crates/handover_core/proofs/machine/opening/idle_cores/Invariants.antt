use Rattle.std.proofs.Common.{◌≡◌, [], map}
use Rattle.std.specs.Prelude.{replicate}
use Rattle.handover_core.specs.State.{Away, CoreState}
use Rattle.handover_core.specs.Cores.{core_state, HaveRoom}
use Rattle.handover_core.proofs.machine.opening.idle_cores.Given as goal

abbrev pub invariant-loop : goal.invariant-loop
invariant-loop l = record {
  state : map core_state l.cores.items ≡ replicate l.counter (let s : CoreState = record { queue = []; taken = []; hands = replicate l.buckets Away } in s);
  room : HaveRoom l.queued l.taken l.cores.items;
}
