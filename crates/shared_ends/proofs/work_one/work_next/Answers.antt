use Rattle.handover_words.proofs.Worked.{Stands-worked}
use Rattle.shared_ends.proofs.work_one.work_next.Goals as goal

pub returns-clause-stands : goal.returns-clause-stands
returns-clause-stands g c = λ key buckets bucket stands packet. let w = c.work.ensures in
    Stands-worked g.W.FlowWork.opening g.W.FlowWork.after g.N.RunName.packets key buckets bucket c.args.table.now c.work.new.self c.args.packet.now stands packet.0 packet.1 w.bucket w.stays_short w.stands
