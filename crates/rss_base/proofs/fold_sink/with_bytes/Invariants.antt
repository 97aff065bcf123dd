use Rattle.std.proofs.Common.{◌≡◌, take, fold}
use Rattle.rss_base.specs.Fold.{sum_with}
use Rattle.rss_base.proofs.fold_sink.with_bytes.Given as goal

abbrev pub invariant-loop-byte : goal.invariant-loop-byte
invariant-loop-byte l = l.sum ≡ fold sum_with l.before (take l.byte-index l.piece)
