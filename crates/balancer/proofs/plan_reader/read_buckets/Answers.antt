use Rattle.std.proofs.Common.{◌≤◌, ◌<◌, ◌∷◌, [], ℕ, List, length, length-append, ap, ◌∙◌, refl, arith}
use Rattle.std.specs.Io.KnownBytes.{prepend_known}
use Rattle.std.proofs.lemmas.List.Elements.{All-push}
use Rattle.balancer.specs.declared.limits.TheConstants.{MOST_LOAD}
use Rattle.balancer.proofs.BucketLines.{buckets-start, buckets-more, buckets-all}
use Rattle.balancer.proofs.plan_reader.read_buckets.Goals as goal

pub buckets-init : goal.buckets-init
buckets-init g c =
    let os = ap (λ (z : List ℕ). length z) c.requires.no_owner in
    let ws = ap (λ (z : List ℕ). length z) c.requires.no_load in
    record {
      so_far = rw (c.requires.no_owner, c.requires.no_load) (buckets-start c.args.cores (prepend_known c.args.window.now (g.S.Source.left c.args.source.now)));
      owners = omega (arith, os);
      loads = omega (arith, ws);
      cores = λ k d h. absurd (omega (arith, os, h));
      light = λ k d h. absurd (omega (arith, ws, h));
      room = refl;
      quiet = refl;
      origin = refl;
    }

pub buckets-preserved : goal.buckets-preserved
buckets-preserved g c =
    let came = rw c.in-Ok-Some.field-0-is at c.in-Ok-Some.ensures.comes in
    let os = c.in-Ok.ensures.0 in
    let ws = c.in-Ok.ensures.1 in
    let n = ap (λ (z : List ℕ). length z) os in
    let m = ap (λ (z : List ℕ). length z) ws in
    let n' = length-append c.buckets.owners.items (c.in-Ok-Some.owner ∷ []) in
    let m' = length-append c.buckets.loads.items (c.in-Ok-Some.load ∷ []) in
    record {
      so_far = rw (os, ws) (buckets-more c.args.cores c.buckets.line _ _ _ c.buckets.owners.items c.buckets.loads.items (record { owner = c.in-Ok-Some.owner; load = c.in-Ok-Some.load }) (omega (arith, c.buckets-test.true, c.from-behind.ensures)) c.buckets.invariant.so_far came.0);
      owners = omega (arith, n, n', c.buckets.invariant.owners);
      loads = omega (arith, m, m', c.buckets.invariant.loads);
      cores = rw os (All-push (λ o. o < c.args.cores) c.buckets.owners.items c.in-Ok-Some.owner c.buckets.invariant.cores came.1);
      light = rw ws (All-push (λ w. w ≤ MOST_LOAD) c.buckets.loads.items c.in-Ok-Some.load c.buckets.invariant.light came.2);
      room = c.read_bucket.ensures.room ∙ c.buckets.invariant.room;
      quiet = c.in-Ok-Some.ensures.cause.answer ∙ c.buckets.invariant.quiet;
      origin = c.read_bucket.ensures.origin ∙ c.buckets.invariant.origin;
    }

pub returns-in-Ok-None-clause-comes : goal.returns-in-Ok-None-clause-comes
returns-in-Ok-None-clause-comes g c =
    let came = rw c.in-Ok-None.field-0-is at c.in-Ok-None.ensures.comes in
    (buckets-all c.args.cores c.buckets.line _ _ c.buckets.owners.items c.buckets.loads.items c.if-line-eq-FIRST_BUCKET_LINE.false c.buckets.invariant.so_far came.0, came.1)

pub returns-in-Ok-End-clause-comes : goal.returns-in-Ok-End-clause-comes
returns-in-Ok-End-clause-comes g c =
    let came = rw c.in-Ok-End.field-0-is at c.in-Ok-End.ensures.comes in
    (buckets-all c.args.cores c.buckets.line _ _ c.buckets.owners.items c.buckets.loads.items (λ e. absurd (omega (arith, e, c.buckets-test.false, c.from-behind.ensures))) c.buckets.invariant.so_far came.0, came.1)
