-- Loads that are set one by one are loads.
use Rattle.std.proofs.Common.{ℕ, ◌≤◌, set, ◌∙◌, arith}
use Rattle.std.specs.Prelude.{replicate}
use Rattle.std.proofs.lemmas.List.{length-replicate, length-set}
use Rattle.std.proofs.lemmas.List.Elements.{All-replicate, All-set}
use Rattle.indirection.specs.Views.{LoadsView}
use Rattle.balancer.specs.declared.limits.TheConstants.{MOST_LOAD}
use Rattle.balancer.specs.Standing.{AreLoads}

pub no_loads : (cores buckets : ℕ) → AreLoads cores buckets (record { bucket = replicate buckets 0; base = replicate cores 0 })
no_loads cores buckets = record {
  buckets_are = length-replicate buckets 0;
  cores_are = length-replicate cores 0;
  load = All-replicate (λ load. load ≤ MOST_LOAD) buckets 0 (omega arith);
  base = All-replicate (λ base. base ≤ MOST_LOAD) cores 0 (omega arith);
}

pub one_load : (cores buckets b load : ℕ) (loads : LoadsView) → AreLoads cores buckets loads → load ≤ MOST_LOAD → AreLoads cores buckets (record { bucket = set loads.bucket b load; base = loads.base })
one_load cores buckets b load loads are h = record {
  buckets_are = length-set loads.bucket b load ∙ are.buckets_are;
  cores_are = are.cores_are;
  load = All-set (λ load. load ≤ MOST_LOAD) loads.bucket b load h are.load;
  base = are.base;
}
