use Rattle.std.proofs.Common.{sym, subst}
use Rattle.pcapng_reader.specs.Progress.{Progress, known, StaysTold}
use Rattle.pcapng_reader.proofs.Lifts.{step_stays, pull_stays, stays_trans}
use Rattle.pcapng_reader.proofs.source.go_on.Goals as goal

pub returns-then-not-step-clause-told : goal.returns-then-not-step-clause-told
returns-then-not-step-clause-told g c =
    step_stays c.args.reading.now c.step.new.self c.args.ended c.step.result (g.S.Source.left c.args.source.now) c.step.ensures c.requires.end

pub returns-in-Ok-clause-told : goal.returns-in-Ok-clause-told
returns-in-Ok-clause-told g c =
    let a = g.S.Source.left c.args.source.now in
    let b = g.S.Source.left c.pull.new.source in
    let p = c.args.reading.now in
    let q = c.step.new.self in
    let read = c.in-Ok.ensures.bytes in
    stays_trans (known p a) (known q a) (known c.pull.new.self b) (step_stays p q c.args.ended c.step.result a c.step.ensures c.requires.end)
    (subst (λ (x : Progress). StaysTold (known q a) (known x b)) (sym read.2) (pull_stays q a b read.0 read.3))
