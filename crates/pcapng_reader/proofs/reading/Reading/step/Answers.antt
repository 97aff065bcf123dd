use Rattle.std.proofs.Common.{◌∙◌, sym, ap, subst}
use Rattle.pcapng_reader.specs.Progress.{Progress}
use Rattle.pcapng_reader.specs.Steps.{Stands}
use Rattle.pcapng_reader.proofs.Standing.{settled_step}
use Rattle.pcapng_reader.proofs.reading.Reading.step.Goals as goal

pub returns-in-Between : goal.returns-in-Between
returns-in-Between c =
    let p = c.args.self.now in
    let q = c.look_on.new.self in
    settled_step p q c.in-Between.skip c.args.ended c.look_on.result (ap (λ (p : Progress). p.stage) (sym c.self.view_is) ∙ c.in-Between.is) c.settle.ensures.skip c.settle.ensures.none
    (subst (λ (x : Progress). Stands x q c.args.ended c.look_on.result) c.settle.ensures.value c.look_on.ensures)
