use Rattle.std.proofs.Common.{◌≡◌, ◌∙◌, sym, [], subst}
use Rattle.pcapng_reader.specs.declared.stage.Stage.TheVariants.{Plain}
use Rattle.pcapng_reader.specs.Stages.{break_at}
use Rattle.pcapng_reader.specs.Progress.{known}
use Rattle.pcapng_reader.specs.Lent.{Lent, HandsOn, SameBreak, told_known}
use Rattle.pcapng_reader.proofs.Lifts.{plain_takes, found_known}
use Rattle.pcapng_reader.proofs.source.NgSource.broken.Goals as goal

pub returns-clause-found : goal.returns-clause-found
returns-clause-found g c = λ bytes e begun is.
    let n = c.args.self.now in
    let left = g.S.Source.left in
    found_known n.progress (left n.begun) (left n.source.now) bytes e (subst (λ (n : Lent _). SameBreak (told_known (left n.begun)) (known n.progress (left n.source.now))) c.self.view_is c.self.invariant.broken) begun
    (sym (subst (λ (n : Lent _). c.broken.result ≡ break_at n.progress.stage) c.self.view_is c.broken.ensures.value) ∙ is)

pub returns-clause-plain : goal.returns-clause-plain
returns-clause-plain g c = λ bytes begun other.
    let n = c.args.self.now in
    let left = g.S.Source.left in
    plain_takes n.progress (left n.begun) (left n.source.now) bytes (subst (λ (n : Lent _). HandsOn n.progress (left n.begun)) c.self.view_is c.self.invariant.plain) begun other
    (subst (λ (n : Lent _). n.progress.stage ≡ Plain → (n.progress.held ≡ []) × (n.progress.ahead ≡ [])) c.self.view_is c.broken.ensures.plain)
