use Rattle.std.proofs.Common.{◌≡◌, ◌<◌, ◌≤◌, ◌+◌, ◌^◌, All, ℕ, List, length, get_or, take, subst, sym, ap, ◌∙◌, arith}
use Rattle.std.proofs.lemmas.List.{take_all}
use Rattle.std.proofs.lemmas.List.Elements.{All-get_or}
use Rattle.balancer.specs.Imbalance.{owned, core_loads}
use Rattle.balancer.proofs.Carried.{weighed-more, weighed-fits, core_loads_from, small_loads}
use Rattle.balancer.proofs.weigh.weigh.Goals as goal

pub overflow_add-carried : goal.overflow_add-carried
overflow_add-carried c =
    let long : length c.loop-bucket.carried ≡ length c.args.loads.now.base = omega (arith, c.loop-bucket.auto.carried, c.copy_from_slice.ensures.len, c.requires.loads.cores_are) in
    let owner = All-get_or (λ o. o < length c.args.carried.now) c.args.owners.now c.loop-bucket.bucket 0 c.loop-bucket-test.true c.requires.owners in
    let h = weighed-fits c.args.loads.now.base c.loop-bucket.carried c.args.owners.now c.args.loads.now.bucket c.loop-bucket.bucket c.loop-bucket-test.true c.requires.buckets (sym c.requires.loads.buckets_are) c.requires.loads.load c.requires.loads.base
    long (omega (arith, owner, long, c.requires.loads.cores_are)) c.loop-bucket.invariant in
    rw c.bucket.ensures (omega (arith, h))

pub loop-bucket-preserved : goal.loop-bucket-preserved
loop-bucket-preserved c =
    let owner = All-get_or (λ o. o < length c.args.carried.now) c.args.owners.now c.loop-bucket.bucket 0 c.loop-bucket-test.true c.requires.owners in
    rw c.bucket.ensures (weighed-more (λ k. get_or c.args.loads.now.base k 0) c.loop-bucket.carried c.args.owners.now c.args.loads.now.bucket c.loop-bucket.bucket c.loop-bucket-test.true (sym c.requires.loads.buckets_are)
    (omega (arith, owner, c.loop-bucket.auto.carried, c.copy_from_slice.ensures.len)) c.loop-bucket.invariant)

value : (c : goal.After-loop-bucket) → c.loop-bucket.carried ≡ core_loads (length c.args.carried.now) c.args.loads.now c.args.owners.now
value c =
    let long : length c.loop-bucket.carried ≡ length c.args.carried.now = omega (arith, c.loop-bucket.auto.carried, c.copy_from_slice.ensures.len) in
    core_loads_from (length c.args.carried.now) c.args.loads.now c.args.owners.now c.loop-bucket.carried long
    (λ k h. c.loop-bucket.invariant k (omega (arith, long, h))
    ∙ ap (λ (x : ℕ). get_or c.args.loads.now.base k 0 + x) (whole k))
  where
    whole : (k : ℕ) → owned k (take c.loop-bucket.bucket c.args.owners.now) (take c.loop-bucket.bucket c.args.loads.now.bucket) ≡ owned k c.args.owners.now c.args.loads.now.bucket
    whole k = let a = take_all c.loop-bucket.bucket c.args.owners.now c.loop-bucket-test.false in
        let b = take_all c.loop-bucket.bucket c.args.loads.now.bucket (omega (arith, c.loop-bucket-test.false, c.requires.loads.buckets_are)) in
        ap (λ (x : List ℕ). owned k x (take c.loop-bucket.bucket c.args.loads.now.bucket)) a ∙ ap (λ (x : List ℕ). owned k c.args.owners.now x) b

pub returns : goal.returns
returns c = record { value = value c; small = subst (λ (z : List ℕ). All (λ load. load ≤ 2 ^ 52) z) (sym (value c)) (small_loads (length c.args.carried.now) c.args.loads.now c.args.owners.now c.requires.loads c.requires.buckets) }
