use Rattle.std.proofs.Common.{◌+◌, ◌-◌, ◌<◌, ◌≤◌, true, false, refl, sym, ◌∙◌, ⊎_elim, arith}
use Rattle.std.proofs.lemmas.Bool.{cases_lt}
use Rattle.balancer.specs.Standing.{round_state_at}
use Rattle.balancer.proofs.Ranks.{none_ranked, tested, last_none, last_other, last_found}
use Rattle.balancer.proofs.free.last_free.Goals as goal

pub returns-then-below-core : goal.returns-then-below-core
returns-then-below-core c = last_other (round_state_at c.args.s.now) c.args.core c.args.load c.place_of-place.result (c.place_of-place.result - 1 - c.loop-passed.passed) c.args.ranking.now none_ranked c.requires.ranking (record { below = c.place_of-place.ensures.below; behind = c.place_of-place.ensures.behind }) (let h = c.loop-passed-test.true in omega arith) (let h = c.loop-passed-test.true in let p = c.place_of-place.ensures.place in omega arith) (tested c.args.s.now.proposals.now c.args.ranking.now (c.place_of-place.result - 1 - c.loop-passed.passed) (c.place_of-place.result - 1 - c.loop-passed.passed) none_ranked none_ranked false (let h = c.loop-passed-test.true in let p = c.place_of-place.ensures.place in omega arith) refl (sym c.is_proposed.ensures ∙ c.if-not-is_proposed.true)) (λ k l h. c.loop-passed.invariant k none_ranked (omega arith) h) c.if-below-core.true

pub returns-then-not-is_proposed : goal.returns-then-not-is_proposed
returns-then-not-is_proposed c = last_found (round_state_at c.args.s.now) c.args.core c.args.load c.place_of-place.result (c.place_of-place.result - 1 - c.loop-passed.passed) c.args.ranking.now none_ranked c.requires.ranking (record { below = c.place_of-place.ensures.below; behind = c.place_of-place.ensures.behind }) (let h = c.loop-passed-test.true in omega arith) (let h = c.loop-passed-test.true in let p = c.place_of-place.ensures.place in omega arith) (tested c.args.s.now.proposals.now c.args.ranking.now (c.place_of-place.result - 1 - c.loop-passed.passed) (c.place_of-place.result - 1 - c.loop-passed.passed) none_ranked none_ranked false (let h = c.loop-passed-test.true in let p = c.place_of-place.ensures.place in omega arith) refl (sym c.is_proposed.ensures ∙ c.if-not-is_proposed.true)) (λ k l h. c.loop-passed.invariant k none_ranked (omega arith) h) c.if-below-core.false

pub loop-passed-preserved : goal.loop-passed-preserved
loop-passed-preserved c = λ k d l h. ⊎_elim
    (λ (m : k + c.loop-passed.passed < c.place_of-place.result). tested c.args.s.now.proposals.now c.args.ranking.now (c.place_of-place.result - 1 - c.loop-passed.passed) k none_ranked d true (let h = c.loop-passed-test.true in let p = c.place_of-place.ensures.place in omega arith) (omega arith) (sym c.is_proposed.ensures ∙ c.if-not-is_proposed.false))
    (λ (m : c.place_of-place.result ≤ k + c.loop-passed.passed). c.loop-passed.invariant k d m h)
    (cases_lt (k + c.loop-passed.passed) c.place_of-place.result)

pub returns : goal.returns
returns c = last_none (round_state_at c.args.s.now) c.args.core c.args.load c.place_of-place.result c.args.ranking.now none_ranked c.requires.ranking (record { below = c.place_of-place.ensures.below; behind = c.place_of-place.ensures.behind }) (λ k h. c.loop-passed.invariant k none_ranked (let t = c.loop-passed-test.false in omega arith) h)
