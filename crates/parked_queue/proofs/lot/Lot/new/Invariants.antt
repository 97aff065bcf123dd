use Rattle.std.proofs.Common.{◌≡◌, ◌≤◌, [], vec_len, replicate, map}
use Rattle.std.specs.Vec.{vec_capacity}
use Rattle.parked_queue.specs.Chained.{cells_in}
use Rattle.parked_queue.proofs.lot.Lot.new.Given as goal

abbrev pub invariant-loop-bucket : goal.invariant-loop-bucket
invariant-loop-bucket l = record { count : vec_len l.chains ≡ l._bucket; room : l.buckets ≤ vec_capacity l.chains; empty : map cells_in l.chains.items ≡ replicate l._bucket [] }
