use Rattle.std.proofs.Common.{arith, sym, ap, subst}
use Rattle.indirection.specs.JournalView.{JournalState}
use Rattle.flow_report.proofs.WholeRounds.{AreWhole, whole-push, whole_each}
use Rattle.flow_report.proofs.journal.tests.journal_of.Goals as goal

pub loop-order-preserved : goal.loop-order-preserved
loop-order-preserved c =
    let entries = ap (λ (j : JournalState). j.entries) c.push_order.ensures in
    let room = ap (λ (j : JournalState). j.room) c.push_order.ensures in
    record {
      whole = subst AreWhole (sym entries) (whole-push c.loop-order.journal.entries _ c.loop-order.invariant.whole);
      room = omega (arith, room, c.loop-order.invariant.room, c.loop-order-test.true);
    }

pub returns : goal.returns
returns c = whole_each c.loop-order.journal.entries c.loop-order.invariant.whole
