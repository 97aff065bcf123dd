use Rattle.rss_base.proofs.Pieces.{pieces_front}
use Rattle.rss_base.proofs.piece.write_pieces.Goals as goal

pub returns-in-Err-clause-err : goal.returns-in-Err-clause-err
returns-in-Err-clause-err g c =
    let holds = g.K.Sink.may_hold in
    pieces_front (holds c.args.sink.now) (holds c.loop-piece.sink) (holds c.write_piece.new.sink) c.args.pieces.now c.loop-piece.piece-index _ c.loop-piece.invariant.got c.loop-piece-test.true c.in-Err.ensures.err
