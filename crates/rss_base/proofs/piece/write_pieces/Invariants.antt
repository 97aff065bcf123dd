use Rattle.std.proofs.Common.{◌≡◌, take}
use Rattle.std.specs.List.{flat_map}
use Rattle.rss_base.specs.Written.{Gets}
use Rattle.rss_base.specs.Piece.{piece_text}
use Rattle.rss_base.proofs.piece.write_pieces.Given as goal

abbrev pub invariant-loop-piece : goal.invariant-loop-piece
invariant-loop-piece g l =
    record {
      got : Gets (g.K.Sink.may_hold l.fn.sink) (g.K.Sink.may_hold l.sink) (flat_map piece_text (take l.piece-index l.pieces));
      quiet : g.K.Sink.faults l.sink ≡ g.K.Sink.faults l.fn.sink;
    }
