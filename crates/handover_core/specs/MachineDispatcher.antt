-- The dispatcher's side of the machine.
use Rattle.handover_core.specs.State.{MachineView, bucket_at, sent_of}
use Rattle.handover_core.specs.Stands.{IsDispatcherSide}

-- while no End was sent
abbrev pub IsMachineDispatcher : MachineView → Type 0
IsMachineDispatcher m = IsDispatcherSide (λ b. (bucket_at m b).owner) (sent_of m) (λ b. (bucket_at m b).start) m.dispatched
