use Rattle.std.proofs.Common.{◌∙◌, [], ◌∷◌, ◌++◌, sym, arith}
use Rattle.dispatch_loop.specs.Past.{past}
use Rattle.rsspp_run.proofs.Folds.{given_is, few_then, after_one, one_more}
use Rattle.rsspp_run.proofs.fold.work_stream.Goals as goal

pub read_next-requires : goal.read_next-requires
read_next-requires g c =
    let left = g.S.Source.left in
    let b = c.requires.reading.0 in
    let w = c.packets.invariant.worked b c.requires.reading.1 in
    (past b w.0, w.2, given_is c.args.limit b w.0 c.packets.reader (left c.packets.source) w.2 ∙ (sym w.1.done ∙ sym c.done-place.ensures))

pub work-requires-clause-room : goal.work-requires-clause-room
work-requires-clause-room g c =
    let left = g.S.Source.left in
    let b = c.requires.reading.0 in
    let w = c.packets.invariant.worked b c.requires.reading.1 in
    let given = given_is c.args.limit b w.0 c.packets.reader (left c.packets.source) w.2 ∙ (sym w.1.done ∙ sym c.done-place.ensures) in
    let few = few_then c.args.limit b w.0 c.in-Ok.packet c.read_next.new.reader (left c.read_next.new.source) (c.in-Ok.ensures.fed (past b w.0) w.2 given) in
    let done = w.1.done in
    omega (arith, c.ranges.limit.fits)

pub work-requires-clause-open : goal.work-requires-clause-open
work-requires-clause-open g c κs within =
    (c.packets.invariant.worked c.requires.reading.0 c.requires.reading.1).1.held

pub packets-smaller : goal.packets-smaller
packets-smaller g c =
    let left = g.S.Source.left in
    let b = c.requires.reading.0 in
    let w = c.packets.invariant.worked b c.requires.reading.1 in
    let given = given_is c.args.limit b w.0 c.packets.reader (left c.packets.source) w.2 ∙ (sym w.1.done ∙ sym c.done-place.ensures) in
    let few = few_then c.args.limit b w.0 c.in-Ok.packet c.read_next.new.reader (left c.read_next.new.source) (c.in-Ok.ensures.fed (past b w.0) w.2 given) in
    let done = w.1.done in
    let more = c.work.ensures.done in
    omega arith

pub packets-preserved : goal.packets-preserved
packets-preserved g c =
    let left = g.S.Source.left in
    record {
      worked = λ b start.
          let w = c.packets.invariant.worked b start in
          let given = given_is c.args.limit b w.0 c.packets.reader (left c.packets.source) w.2 ∙ (sym w.1.done ∙ sym c.done-place.ensures) in
          let fed = c.in-Ok.ensures.fed (past b w.0) w.2 given in (
            w.0 ++ c.in-Ok.packet ∷ [],
            one_more g.W.FlowWork.opening g.W.FlowWork.after w.0 c.in-Ok.packet c.packets.table c.work.new.self w.1 c.work.ensures.done c.work.ensures.bucket c.work.ensures.custody c.work.ensures.stays_short c.work.ensures.stands,
            after_one c.args.limit b w.0 c.in-Ok.packet c.read_next.new.reader (left c.read_next.new.source) fed,
          );
      quiet = c.in-Ok.ensures.blames ∙ c.packets.invariant.quiet;
      origin = c.read_next.ensures.origin ∙ c.packets.invariant.origin;
    }

pub returns-in-Err-clause-worked : goal.returns-in-Err-clause-worked
returns-in-Err-clause-worked g c = λ b start.
    let left = g.S.Source.left in
    let w = c.packets.invariant.worked b start in
    let given = given_is c.args.limit b w.0 c.packets.reader (left c.packets.source) w.2 ∙ (sym w.1.done ∙ sym c.done-place.ensures) in
    (w.0, w.1, c.in-Err.ensures.fed (past b w.0) w.2 given)
