use Rattle.std.proofs.Common.{◌<◌, length, slice_set, sym, subst, ap, ◌∙◌}
use Rattle.indirection.specs.declared.entry.Entry.TheVariants.{Round}
use Rattle.indirection.specs.Views.{RoundView}
use Rattle.indirection.specs.Rounds.{round_with}
use Rattle.indirection.proofs.LastRounds.{read_last_round, awaits_last_round, write_last_round}
use Rattle.indirection.proofs.journal.add_outcome.Goals as goal

pub push_outcome-requires : goal.push_outcome-requires
push_outcome-requires c =
    let es = c.args.entries.now in
    let place = c.last_round_place-place.result in
    let at = c.last_round_place-place.ensures in
    let same = read_last_round es place c.in-Round.round c.index-entries-place.result at c.in-Round.is in
    subst (λ (r : RoundView). length r.outcomes < length r.proposals) same (awaits_last_round es place at c.requires)

pub returns-in-Round : goal.returns-in-Round
returns-in-Round c =
    let es = c.args.entries.now in
    let place = c.last_round_place-place.result in
    let at = c.last_round_place-place.ensures in
    let same = read_last_round es place c.in-Round.round c.index-entries-place.result at c.in-Round.is in
    ap (λ (r : RoundView). slice_set es place (Round r)) (c.push_outcome.ensures ∙ ap (λ (r : RoundView). round_with r c.args.outcome) (sym same))
    ∙ write_last_round es place c.args.outcome at
