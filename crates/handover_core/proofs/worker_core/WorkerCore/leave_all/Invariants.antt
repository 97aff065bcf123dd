use Rattle.std.proofs.Common.{◌≡◌, ◌<◌, ◌≤◌, ℕ, length, get_or}
use Rattle.handover_core.specs.declared.duty.Duty.TheVariants.{Nothing}
use Rattle.handover_core.specs.Machine.{leave}
use Rattle.handover_core.specs.Cores.{hand_of_duty}
use Rattle.handover_core.proofs.worker_core.WorkerCore.leave_all.Given as goal

abbrev pub invariant-loop-bucket : goal.invariant-loop-bucket
invariant-loop-bucket l = record {
  queue : l.self.queue ≡ l.initial.self.queue;
  taken : l.self.taken ≡ l.initial.self.taken;
  took_end : l.self.took_end ≡ l.initial.self.took_end;
  same : length l.self.duties.items ≡ length l.initial.self.duties.items;
  done : (k : ℕ) → k < l.bucket → hand_of_duty (get_or l.self.duties.items k Nothing) ≡ leave (hand_of_duty (get_or l.initial.self.duties.items k Nothing));
  rest : (k : ℕ) → l.bucket ≤ k → get_or l.self.duties.items k Nothing ≡ get_or l.initial.self.duties.items k Nothing;
}
