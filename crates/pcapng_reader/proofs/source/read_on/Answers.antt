use Rattle.std.proofs.Common.{◌∙◌, sym}
use Rattle.pcapng_reader.proofs.Lifts.{hands_given, hands_none}
use Rattle.pcapng_reader.proofs.source.read_on.Goals as goal

pub returns-then-hands_on-clause-given : goal.returns-then-hands_on-clause-given
returns-then-hands_on-clause-given g c =
    let left = g.S.Source.left in
    let all = c.hands_on.ensures.all c.if-hands_on.true in
    hands_given c.read.result c.args.reading.now c.advance.new.reading (left c.args.source.now) (left c.advance.new.source) _ c.read.new.into c.in_ok-advance.ensures.told (sym c.hands_on.ensures.value ∙ c.if-hands_on.true) all.0 all.1 c.read.ensures.bytes

pub returns-then-hands_on-clause-none : goal.returns-then-hands_on-clause-none
returns-then-hands_on-clause-none g c =
    let left = g.S.Source.left in
    let all = c.hands_on.ensures.all c.if-hands_on.true in
    hands_none c.read.result c.advance.new.reading (left c.advance.new.source) _ c.read.new.into (sym c.hands_on.ensures.value ∙ c.if-hands_on.true) all.0 all.1 c.read.ensures.bytes
