use Rattle.std.proofs.lemmas.Result.{err_from_is_err_and}
use Rattle.rss_base.proofs.Pieces.{front_so_far}
use Rattle.rss_base.proofs.text.Text.push_all.Goals as goal

pub returns-in_err-push-clause-err : goal.returns-in_err-push-clause-err
returns-in_err-push-clause-err c =
    let p = err_from_is_err_and c.from_residual.result c.from_residual.ensures.1 in
    rw p.1 (front_so_far c.args.self.now c.push.new.self c.loop-piece.self c.args.pieces.now c.loop-piece.piece-index c.loop-piece.invariant c.in_err-push.ensures.err)
