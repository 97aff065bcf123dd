use Rattle.std.proofs.Common.{◌≡◌, ◌<◌, sym, subst, arith, false, length}
use Rattle.pcapng_reader.specs.declared.turn.Turn.{Turn}
use Rattle.pcapng_reader.specs.Looks.{Turns}
use Rattle.pcapng_reader.proofs.Turning.{lacking_turns, over_passes, tail_turns, whole_turns}
use Rattle.pcapng_reader.proofs.turn.step_over.Goals as goal
use Rattle.pcapng_reader.proofs.turn.step_over.Goals.{then-ended-via-then-ended, then-ended-via-else-ended+then-have}

pub returns-then-ended : goal.returns-then-ended
returns-then-ended c =
    let few : c.args.ended ≡ false → length c.args.ahead.now < 262_144 = elim c.then-ended.branch [
      | then-ended-via-then-ended w ↦ λ e. let bad = w.if-ended.true in cc
      | then-ended-via-else-ended+then-have w ↦ λ e. omega (arith, w.if-have.true)
    ] in
    subst (λ (t : Turn). Turns c.args.number c.args.block c.args.ahead.now c.args.ended t) (sym c.short_or_more.ensures)
    (lacking_turns c.args.number c.args.block c.args.ahead.now c.args.ended c.if-have-rest.true few)

pub returns-then-have-rest : goal.returns-then-have-rest
returns-then-have-rest c =
    let least = c.min.ensures in
    over_passes c.args.block c.args.ahead.now c.min.result c.requires.settled c.requires.within (omega arith) (omega arith) (omega arith)

pub returns-then-tail-block : goal.returns-then-tail-block
returns-then-tail-block c = λ scope held rest end.
    tail_turns c.args.number c.args.block c.args.ahead.now c.u32_at-tail.result c.requires.tail c.if-have-rest.false c.u32_at-tail.ensures c.if-tail-block.true scope held rest

pub returns : goal.returns
returns c = whole_turns c.args.block c.args.ahead.now c.u32_at-tail.result c.requires.settled c.requires.tail c.if-have-rest.false c.u32_at-tail.ensures c.if-tail-block.false
