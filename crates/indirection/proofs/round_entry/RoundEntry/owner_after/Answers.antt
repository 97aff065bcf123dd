use Rattle.std.proofs.Common.{◌≡◌, List, [], ⊎_elim, sym, ap, ◌∙◌}
use Rattle.std.specs.Slice.Iter.{iter_rest}
use Rattle.indirection.specs.Tries.{Try, owner_from, round_tries}
use Rattle.indirection.proofs.RoundTries.{round_tries-no_proposals, round_tries-no_outcomes}
use Rattle.indirection.proofs.round_entry.RoundEntry.owner_after.Goals as goal

pub returns : goal.returns
returns c =
    let ps = iter_rest c.loop-proposal.proposal-iterator.a in
    let os = iter_rest c.loop-proposal.proposal-iterator.b in
    let none : round_tries c.args.self.now.at ps os ≡ [] =
    ⊎_elim (λ left. round_tries-no_proposals c.args.self.now.at ps os left.1.0) (λ left. round_tries-no_outcomes c.args.self.now.at ps os left.1.0) c.in-None.ensures.steps in
    sym (ap (λ (ts : List Try). owner_from c.args.bucket c.loop-proposal.owner ts) none) ∙ c.loop-proposal.invariant
