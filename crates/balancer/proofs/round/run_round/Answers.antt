use Rattle.std.proofs.Common.{◌≡◌, ℕ, ◌+◌, ◌-◌, ◌++◌, List, Some, None, length, map, ap, sym, ◌∙◌, subst, arith, refl}
use Rattle.std.proofs.lemmas.List.{append-nil, length_push}
use Rattle.indirection.specs.declared.proposal.Proposal.{Proposal}
use Rattle.balancer.specs.Greedy.{RoundState, greedy, moved, opening, choices, greatest}
use Rattle.balancer.specs.Ranking.{IsRanking}
use Rattle.balancer.specs.Standing.{round_state_of, IsWeighed}
use Rattle.balancer.proofs.Moves.{greedy_none, round_step}
use Rattle.balancer.proofs.Ranks.{ranking-moved}
use Rattle.balancer.proofs.round.run_round.Goals as goal

pub round-init : goal.round-init
round-init c = record {
  weighed = subst (λ (ps : List Proposal). IsWeighed (round_state_of (length c.args.carried.now) c.args.loads.now c.args.owners.now ps) c.args.carried.now) (sym c.requires.empty) c.requires.weighed;
  so_far = subst (λ (ps : List Proposal). greedy c.args.limit (opening (length c.args.carried.now) c.args.loads.now c.args.owners.now) ≡ ps ++ greedy (c.args.limit - 0) (round_state_of (length c.args.carried.now) c.args.loads.now c.args.owners.now ps))
      (sym c.requires.empty) (let h : c.args.limit ≡ c.args.limit - 0 = omega arith in ap (λ (n : ℕ). greedy n (opening (length c.args.carried.now) c.args.loads.now c.args.owners.now)) h);
  few = let h = ap (λ (ps : List Proposal). length ps) c.requires.empty in omega (arith, h, c.args.proposals.now.ok);
  room = refl;
  ranking = subst (λ (ps : List Proposal). IsRanking c.args.loads.now c.args.owners.now (map (λ (p : Proposal). p.bucket) ps) c.args.ranking.now) (sym c.requires.empty) c.requires.ranking;
}

pub best_ranked-requires : goal.best_ranked-requires
best_ranked-requires c = rw c.deref.ensures.value (record { stands = c.round.invariant.weighed; ranking = c.round.invariant.ranking })

pub returns-in_default-clause-proposals : goal.returns-in_default-clause-proposals
returns-in_default-clause-proposals c =
    let none : greatest (choices (round_state_of (length c.round.carried) c.args.loads.now c.round.owners c.round.proposals.items)) ≡ None = sym (ap (λ (ps : List Proposal). greatest (choices (round_state_of (length c.round.carried) c.args.loads.now c.round.owners ps))) c.deref.ensures.value) ∙ (sym c.best_ranked.ensures ∙ c.in_default.is) in
    sym (c.round.invariant.so_far ∙ (ap (λ (z : List Proposal). c.round.proposals.items ++ z) (greedy_none (c.args.limit - c.round.counter) (round_state_of (length c.round.carried) c.args.loads.now c.round.owners c.round.proposals.items) none) ∙ append-nil c.round.proposals.items))

pub take_step-requires : goal.take_step-requires
take_step-requires c =
    let chosen : greatest (choices (round_state_of (length c.round.carried) c.args.loads.now c.round.owners c.round.proposals.items)) ≡ Some c.in-Some.proposal = sym (ap (λ (ps : List Proposal). greatest (choices (round_state_of (length c.round.carried) c.args.loads.now c.round.owners ps))) c.deref.ensures.value) ∙ (sym c.best_ranked.ensures ∙ c.in-Some.is) in
    record { weighed = c.round.invariant.weighed; best = chosen; room = omega (arith, c.round.invariant.few, c.round.invariant.room, c.round-test.true, c.requires.room, c.round.proposals.ok) }

pub round-preserved : goal.round-preserved
round-preserved c =
    let chosen : greatest (choices (round_state_of (length c.round.carried) c.args.loads.now c.round.owners c.round.proposals.items)) ≡ Some c.in-Some.proposal = sym (ap (λ (ps : List Proposal). greatest (choices (round_state_of (length c.round.carried) c.args.loads.now c.round.owners ps))) c.deref.ensures.value) ∙ (sym c.best_ranked.ensures ∙ c.in-Some.is) in
    record {
      weighed = c.take_step.ensures.weighed;
      so_far = subst (λ (s : RoundState). greedy c.args.limit (opening (length c.args.carried.now) c.args.loads.now c.args.owners.now) ≡ c.take_step.new.proposals.items ++ greedy (c.args.limit - (c.round.counter + 1)) s) (sym c.take_step.ensures.moved)
          (subst (λ (ps : List Proposal). greedy c.args.limit (opening (length c.args.carried.now) c.args.loads.now c.args.owners.now) ≡ ps ++ greedy (c.args.limit - (c.round.counter + 1)) (moved (round_state_of (length c.round.carried) c.args.loads.now c.round.owners c.round.proposals.items) c.in-Some.proposal)) (sym c.take_step.ensures.proposals)
          (round_step c.args.limit c.round.counter _ c.round.proposals.items (round_state_of (length c.round.carried) c.args.loads.now c.round.owners c.round.proposals.items) c.in-Some.proposal c.round-test.true chosen c.round.invariant.so_far));
      few = omega (arith, ap (λ (ps : List Proposal). length ps) c.take_step.ensures.proposals, length_push c.round.proposals.items c.in-Some.proposal, c.round.invariant.few, c.round.proposals.ok, c.take_step.new.proposals.ok);
      room = c.take_step.ensures.room ∙ c.round.invariant.room;
      ranking = subst (λ (s : RoundState). IsRanking s.loads s.owners s.taken c.args.ranking.now) (sym c.take_step.ensures.moved) (ranking-moved c.args.loads.now c.round.owners (map (λ (p : Proposal). p.bucket) c.round.proposals.items) c.args.ranking.now c.in-Some.proposal.bucket c.in-Some.proposal.to c.round.invariant.ranking);
    }

pub returns-clause-proposals : goal.returns-clause-proposals
returns-clause-proposals c = let done : c.args.limit - c.round.counter ≡ 0 = omega arith in
    sym (c.round.invariant.so_far ∙ (ap (λ (n : ℕ). c.round.proposals.items ++ greedy n (round_state_of (length c.round.carried) c.args.loads.now c.round.owners c.round.proposals.items)) done ∙ append-nil c.round.proposals.items))
