use Rattle.std.proofs.Common.{◌≡◌, ◌≤◌, ◌-◌, length, take}
use Rattle.rss_base.specs.Written.{Gets}
use Rattle.traffic_gen.specs.declared.writing.TheConstants.{PIECE}
use Rattle.traffic_gen.specs.Traffic.{traffic}
use Rattle.traffic_gen.proofs.writing.make.Given as goal

abbrev pub invariant-pieces : goal.invariant-pieces
invariant-pieces g l =
    record {
      room : length l.piece ≡ PIECE;
      count : l.source.count ≡ l.fn.count;
      number : l.source.number ≡ l.fn.number;
      within : l.source.given ≤ length (traffic l.fn.count l.fn.number);
      got : Gets (g.K.Sink.may_hold l.fn.out) (g.K.Sink.may_hold l.out) (take l.source.given (traffic l.fn.count l.fn.number));
      quiet : g.K.Sink.faults l.out ≡ g.K.Sink.faults l.fn.out;
    }

abbrev pub decreases-pieces : goal.decreases-pieces
decreases-pieces g l = length (traffic l.fn.count l.fn.number) - l.source.given
