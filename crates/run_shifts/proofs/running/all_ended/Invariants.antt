use Rattle.std.proofs.Common.{◌≡◌, ℕ, ◌<◌}
use Rattle.std.specs.Prelude.{slice_get, Some, true}
use Rattle.run_shifts.specs.declared.worker_party.WorkerParty.{WorkerParty}
use Rattle.run_shifts.proofs.running.all_ended.Given as goal

abbrev pub invariant-loop-worker_party : goal.invariant-loop-worker_party
invariant-loop-worker_party g l = (c : ℕ) (p : WorkerParty _ _) → c < l.worker_party-index → slice_get l.fn.worker_parties.items c ≡ Some p → p.ended ≡ true
