use Rattle.std.proofs.Common.{◌≡◌, ℕ, ◌+◌, ◌-◌, ◌<◌, List, length, get_or, set, ap, sym, ◌∙◌, subst}
use Rattle.balancer.specs.Greedy.{RoundState}
use Rattle.balancer.specs.Standing.{round_state_of, IsWeighed}
use Rattle.balancer.proofs.Moves.{ready, weighed-moved, same_round_state}
use Rattle.balancer.proofs.round.take_step.Goals as goal

pub bounds-bucket-proposal : goal.bounds-bucket-proposal
bounds-bucket-proposal c = subst (λ (z : List ℕ). c.args.proposal.bucket < length z) (sym c.bucket.ensures) (ready (round_state_of (length c.args.carried.now) c.args.loads.now c.args.owners.now c.args.proposals.now.items) c.args.carried.now c.args.proposal c.requires.weighed c.requires.best).load

pub make_move-requires : goal.make_move-requires
make_move-requires c = let r = ready (round_state_of (length c.args.carried.now) c.args.loads.now c.args.owners.now c.args.proposals.now.items) c.args.carried.now c.args.proposal c.requires.weighed c.requires.best in
    rw c.bucket.ensures (record { bucket = r.allowed.bucket; from = r.from; to = r.to; some = r.some; apart = r.apart; fits = r.fits })

pub returns : goal.returns
returns c =
    let r = ready (round_state_of (length c.args.carried.now) c.args.loads.now c.args.owners.now c.args.proposals.now.items) c.args.carried.now c.args.proposal c.requires.weighed c.requires.best in
    let load : get_or c.bucket.result.now c.args.proposal.bucket 0 ≡ get_or c.args.loads.now.bucket c.args.proposal.bucket 0 = ap (λ (z : List ℕ). get_or z c.args.proposal.bucket 0) c.bucket.ensures in
    let after : c.make_move.new.carried ≡ set (set c.args.carried.now c.args.proposal.from (get_or c.args.carried.now c.args.proposal.from 0 - get_or c.args.loads.now.bucket c.args.proposal.bucket 0)) c.args.proposal.to (get_or c.args.carried.now c.args.proposal.to 0 + get_or c.args.loads.now.bucket c.args.proposal.bucket 0)
    = c.make_move.ensures.carried ∙ ap (λ (x : ℕ). set (set c.args.carried.now c.args.proposal.from (get_or c.args.carried.now c.args.proposal.from 0 - x)) c.args.proposal.to (get_or c.args.carried.now c.args.proposal.to 0 + x)) load in
    let same = same_round_state c.args.loads.now c.args.carried.now c.make_move.new.carried c.args.owners.now c.make_move.new.owners c.args.proposals.now.items c.push_reserved.new.self.items c.args.proposal c.make_move.auto.carried c.make_move.ensures.owners c.push_reserved.ensures.items in
    record {
      weighed = subst (λ (s : RoundState). IsWeighed s c.make_move.new.carried) same (weighed-moved (round_state_of (length c.args.carried.now) c.args.loads.now c.args.owners.now c.args.proposals.now.items) c.args.carried.now c.make_move.new.carried c.make_move.new.owners c.args.proposal c.requires.weighed r c.make_move.ensures.owners after);
      moved = sym same;
      proposals = c.push_reserved.ensures.items;
      room = c.push_reserved.ensures.capacity;
    }
