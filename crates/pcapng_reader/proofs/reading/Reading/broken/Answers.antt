use Rattle.std.proofs.Common.{◌≡◌, ◌∙◌, sym, ap, None, Some}
use Rattle.pcapng_reader.specs.Progress.{Progress}
use Rattle.pcapng_reader.specs.Stages.{break_at}
use Rattle.pcapng_reader.proofs.Givings.{stage_fits, broken_told, not_broken}
use Rattle.pcapng_reader.proofs.reading.Reading.broken.Goals as goal

pub returns-in-Broken-clause-told : goal.returns-in-Broken-clause-told
returns-in-Broken-clause-told c = λ rest empty.
    let i = c.self.inside in
    let p = c.args.self.now in
    let fits = stage_fits i.window i.ready i.held i.stage i.scope i.number p c.self.view_is c.self.invariant in
    let told = broken_told p rest fits empty in
    let here : break_at p.stage ≡ Some c.in-Broken.broken = ap (λ (p : Progress). break_at p.stage) (sym c.self.view_is) ∙ ap break_at c.in-Broken.is in
    (sym here ∙ told.0, λ h. told.1 (here ∙ h))

pub returns-in_default-clause-told : goal.returns-in_default-clause-told
returns-in_default-clause-told c = λ rest empty.
    let i = c.self.inside in
    let p = c.args.self.now in
    let fits = stage_fits i.window i.ready i.held i.stage i.scope i.number p c.self.view_is c.self.invariant in
    let told = broken_told p rest fits empty in
    let here : break_at p.stage ≡ None = ap (λ (p : Progress). break_at p.stage) (sym c.self.view_is) ∙ not_broken i.stage c.in_default.not-Broken in
    (sym here ∙ told.0, λ h. told.1 here)
