-- A plan text in the words of its lines.
use Rattle.std.specs.Prelude.{ℕ, ◌≡◌, ◌≤◌, List, [], ◌∷◌, length, Some}
use Rattle.indirection.specs.declared.limits.TheConstants.{MOST_BUCKETS}
use Rattle.balancer.specs.Lines.{lines}
use Rattle.balancer.specs.PlanForm.{cores_line, limit_line, base_line, bucket_line, Instance}

-- each line spells a bucket of this owner and this load
abbrev pub AreBucketLines : ℕ → List (List ℕ) → List ℕ → List ℕ → Type 0
AreBucketLines cores [] [] [] = Unit {0}
AreBucketLines cores (l ∷ ls) (o ∷ os) (w ∷ ws) = (bucket_line cores l ≡ Some (record { owner = o; load = w })) × AreBucketLines cores ls os ws
AreBucketLines cores _ _ _ = ⊥

-- the text has a line of cores, one of the limit, one of bases, and 1 to 2,048 lines of buckets, which spell the instance
pub record HasLines (text : List ℕ) (p : Instance) : Type 0 where
  pub first : List ℕ
  pub second : List ℕ
  pub third : List ℕ
  pub others : List (List ℕ)
  pub lines_are : lines text ≡ first ∷ second ∷ third ∷ others
  pub cores : cores_line first ≡ Some p.cores
  pub limit : limit_line second ≡ Some p.limit
  pub base : base_line p.cores third ≡ Some p.loads.base
  pub some : 1 ≤ length others
  pub most : length others ≤ MOST_BUCKETS
  pub buckets : AreBucketLines p.cores others p.owners p.loads.bucket
