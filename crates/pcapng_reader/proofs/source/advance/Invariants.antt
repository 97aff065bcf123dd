use Rattle.std.proofs.Common.{◌≡◌, true, false}
use Rattle.std.specs.Io.KnownBytes.{IsAtEnd}
use Rattle.pcapng_reader.specs.declared.stage.Stage.TheVariants.{Ended}
use Rattle.pcapng_reader.specs.Progress.{known, StaysTold, awaits_block, left_to_do}
use Rattle.pcapng_reader.proofs.source.advance.Given as goal

abbrev pub invariant-advancing : goal.invariant-advancing
invariant-advancing g l =
    record {
      told : StaysTold (known l.fn.reading (g.S.Source.left l.fn.source)) (known l.reading (g.S.Source.left l.source));
      over : l.reading.stage ≡ Ended → IsAtEnd (g.S.Source.left l.source);
      end : l.ended ≡ true → IsAtEnd (g.S.Source.left l.source);
      quiet : g.S.Source.faults l.source ≡ g.S.Source.faults l.fn.source;
      still : awaits_block l.fn.reading ≡ false → (l.reading ≡ l.fn.reading) × (l.source ≡ l.fn.source);
      origin : g.S.Source.origin l.source ≡ g.S.Source.origin l.fn.source;
    }

abbrev pub decreases-advancing : goal.decreases-advancing
decreases-advancing g l = left_to_do l.reading l.ended
