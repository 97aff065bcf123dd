use Rattle.std.proofs.Common.{◌≡◌, ℕ, ◌+◌, ◌-◌, ◌++◌, List, Some, None, length, ap, sym, ◌∙◌, subst, arith, refl}
use Rattle.std.proofs.lemmas.List.{append-nil, length_push}
use Rattle.indirection.specs.declared.proposal.Proposal.{Proposal}
use Rattle.balancer.specs.Greedy.{RoundState, greedy, moved, opening, choices, greatest}
use Rattle.balancer.specs.Standing.{round_state_of, IsWeighed}
use Rattle.balancer.proofs.Moves.{greedy_none, round_step}
use Rattle.balancer.proofs.round.run_plain_round.Goals as goal

pub plain-init : goal.plain-init
plain-init c = record {
  weighed = subst (λ (ps : List Proposal). IsWeighed (round_state_of (length c.args.carried.now) c.args.loads.now c.args.owners.now ps) c.args.carried.now) (sym c.requires.empty) c.requires.weighed;
  so_far = subst (λ (ps : List Proposal). greedy c.args.limit (opening (length c.args.carried.now) c.args.loads.now c.args.owners.now) ≡ ps ++ greedy (c.args.limit - 0) (round_state_of (length c.args.carried.now) c.args.loads.now c.args.owners.now ps))
      (sym c.requires.empty) (let h : c.args.limit ≡ c.args.limit - 0 = omega arith in ap (λ (n : ℕ). greedy n (opening (length c.args.carried.now) c.args.loads.now c.args.owners.now)) h);
  few = let h = ap (λ (ps : List Proposal). length ps) c.requires.empty in omega (arith, h, c.args.proposals.now.ok);
  room = refl;
}

pub returns-in_default-clause-proposals : goal.returns-in_default-clause-proposals
returns-in_default-clause-proposals c =
    let none : greatest (choices (round_state_of (length c.plain.carried) c.args.loads.now c.plain.owners c.plain.proposals.items)) ≡ None = sym (ap (λ (ps : List Proposal). greatest (choices (round_state_of (length c.plain.carried) c.args.loads.now c.plain.owners ps))) c.deref.ensures.value) ∙ (sym c.best.ensures ∙ c.in_default.is) in
    sym (c.plain.invariant.so_far ∙ (ap (λ (z : List Proposal). c.plain.proposals.items ++ z) (greedy_none (c.args.limit - c.plain.counter) (round_state_of (length c.plain.carried) c.args.loads.now c.plain.owners c.plain.proposals.items) none) ∙ append-nil c.plain.proposals.items))

pub take_step-requires : goal.take_step-requires
take_step-requires c =
    let chosen : greatest (choices (round_state_of (length c.plain.carried) c.args.loads.now c.plain.owners c.plain.proposals.items)) ≡ Some c.in-Some.proposal = sym (ap (λ (ps : List Proposal). greatest (choices (round_state_of (length c.plain.carried) c.args.loads.now c.plain.owners ps))) c.deref.ensures.value) ∙ (sym c.best.ensures ∙ c.in-Some.is) in
    record { weighed = c.plain.invariant.weighed; best = chosen; room = omega (arith, c.plain.invariant.few, c.plain.invariant.room, c.plain-test.true, c.requires.room, c.plain.proposals.ok) }

pub plain-preserved : goal.plain-preserved
plain-preserved c =
    let chosen : greatest (choices (round_state_of (length c.plain.carried) c.args.loads.now c.plain.owners c.plain.proposals.items)) ≡ Some c.in-Some.proposal = sym (ap (λ (ps : List Proposal). greatest (choices (round_state_of (length c.plain.carried) c.args.loads.now c.plain.owners ps))) c.deref.ensures.value) ∙ (sym c.best.ensures ∙ c.in-Some.is) in
    record {
      weighed = c.take_step.ensures.weighed;
      so_far = subst (λ (s : RoundState). greedy c.args.limit (opening (length c.args.carried.now) c.args.loads.now c.args.owners.now) ≡ c.take_step.new.proposals.items ++ greedy (c.args.limit - (c.plain.counter + 1)) s) (sym c.take_step.ensures.moved)
          (subst (λ (ps : List Proposal). greedy c.args.limit (opening (length c.args.carried.now) c.args.loads.now c.args.owners.now) ≡ ps ++ greedy (c.args.limit - (c.plain.counter + 1)) (moved (round_state_of (length c.plain.carried) c.args.loads.now c.plain.owners c.plain.proposals.items) c.in-Some.proposal)) (sym c.take_step.ensures.proposals)
          (round_step c.args.limit c.plain.counter _ c.plain.proposals.items (round_state_of (length c.plain.carried) c.args.loads.now c.plain.owners c.plain.proposals.items) c.in-Some.proposal c.plain-test.true chosen c.plain.invariant.so_far));
      few = omega (arith, ap (λ (ps : List Proposal). length ps) c.take_step.ensures.proposals, length_push c.plain.proposals.items c.in-Some.proposal, c.plain.invariant.few, c.plain.proposals.ok, c.take_step.new.proposals.ok);
      room = c.take_step.ensures.room ∙ c.plain.invariant.room;
    }

pub returns-clause-proposals : goal.returns-clause-proposals
returns-clause-proposals c = let done : c.args.limit - c.plain.counter ≡ 0 = omega arith in
    sym (c.plain.invariant.so_far ∙ (ap (λ (n : ℕ). c.plain.proposals.items ++ greedy n (round_state_of (length c.plain.carried) c.args.loads.now c.plain.owners c.plain.proposals.items)) done ∙ append-nil c.plain.proposals.items))
