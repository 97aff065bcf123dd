use Rattle.std.proofs.Common.{◌≡◌, ℕ, None, IsSome}
use Rattle.toeplitz.specs.declared.key.Key.{Key}
use Rattle.flow_work.specs.Count.{no_packets, counted}
use Rattle.handover_words.specs.Stands.{Stands}
use Rattle.dispatcher_tests.proofs.hand.work_until.Given as goal

abbrev pub invariant-loop-place : goal.invariant-loop-place
invariant-loop-place l = record {
  done_is : l.table.done ≡ l.place;
  open_still : IsSome l.table.custody;
  stands : (key : Key) (buckets : ℕ) → Stands no_packets counted None key buckets 0 l.fn.table → Stands no_packets counted None key buckets 0 l.table;
}
