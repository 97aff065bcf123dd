use Rattle.std.proofs.Common.{◌≡◌, length}
use Rattle.bucket_table.specs.FlowHash as hash
use Rattle.bucket_table.proofs.flow_hasher.FlowHasherHasher.write.Given as goal

-- what is left leads to what the whole does
abbrev pub invariant-loop-rest : goal.invariant-loop-rest
invariant-loop-rest l = hash.write l.self l.rest ≡ hash.write l.initial.self l.initial.rest

abbrev pub decreases-loop-rest : goal.decreases-loop-rest
decreases-loop-rest l = length l.rest
