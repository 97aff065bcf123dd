use Rattle.std.proofs.Common.{◌<◌, ◌≤◌, true, false, refl, sym, ◌∙◌, ⊎_elim, arith}
use Rattle.std.proofs.lemmas.Bool.{cases_lt}
use Rattle.balancer.specs.Standing.{round_state_at}
use Rattle.balancer.proofs.Ranks.{none_ranked, tested, first_none, first_other, first_found}
use Rattle.balancer.proofs.free.first_free.Goals as goal

pub returns-then-ranked-core : goal.returns-then-ranked-core
returns-then-ranked-core c = first_other (round_state_at c.args.s.now) c.args.core c.args.load c.place_of-place.result (c.loop-rank.rank) c.args.ranking.now none_ranked c.requires.ranking (record { below = c.place_of-place.ensures.below; behind = c.place_of-place.ensures.behind }) (let h = c.loop-rank.auto.rank in omega arith) (let h = c.loop-rank-test.true in omega arith) (tested c.args.s.now.proposals.now c.args.ranking.now (c.loop-rank.rank) (c.loop-rank.rank) none_ranked none_ranked false (let h = c.loop-rank-test.true in omega arith) refl (sym c.is_proposed.ensures ∙ c.if-not-is_proposed.true)) (λ k l h. c.loop-rank.invariant k none_ranked l h) c.if-ranked-core.true

pub returns-then-not-is_proposed : goal.returns-then-not-is_proposed
returns-then-not-is_proposed c = first_found (round_state_at c.args.s.now) c.args.core c.args.load c.place_of-place.result (c.loop-rank.rank) c.args.ranking.now none_ranked c.requires.ranking (record { below = c.place_of-place.ensures.below; behind = c.place_of-place.ensures.behind }) (let h = c.loop-rank.auto.rank in omega arith) (let h = c.loop-rank-test.true in omega arith) (tested c.args.s.now.proposals.now c.args.ranking.now (c.loop-rank.rank) (c.loop-rank.rank) none_ranked none_ranked false (let h = c.loop-rank-test.true in omega arith) refl (sym c.is_proposed.ensures ∙ c.if-not-is_proposed.true)) (λ k l h. c.loop-rank.invariant k none_ranked l h) c.if-ranked-core.false

pub loop-rank-preserved : goal.loop-rank-preserved
loop-rank-preserved c = λ k d l h. ⊎_elim
    (λ (m : k < c.loop-rank.rank). c.loop-rank.invariant k d l m)
    (λ (m : c.loop-rank.rank ≤ k). tested c.args.s.now.proposals.now c.args.ranking.now (c.loop-rank.rank) k none_ranked d true (let h = c.loop-rank-test.true in omega arith) (omega arith) (sym c.is_proposed.ensures ∙ c.if-not-is_proposed.false))
    (cases_lt k (c.loop-rank.rank))

pub returns : goal.returns
returns c = first_none (round_state_at c.args.s.now) c.args.core c.args.load c.place_of-place.result c.args.ranking.now none_ranked c.requires.ranking (record { below = c.place_of-place.ensures.below; behind = c.place_of-place.ensures.behind }) (λ k l h. c.loop-rank.invariant k none_ranked l (let t = c.loop-rank-test.false in omega arith))
