use Rattle.std.proofs.Common.{◌∙◌, ap, List, ℕ, drop, take}
use Rattle.pcapng_reader.specs.declared.stage.Stage.TheVariants.{Inside}
use Rattle.pcapng_reader.proofs.Givings.{made, open_view}
use Rattle.pcapng_reader.proofs.reading.Reading.open.Goals as goal

pub returns-clause-value : goal.returns-clause-value
returns-clause-value c =
    let i = c.self.inside in
    ap (λ (w : List ℕ). made i.ready (take c.args.held w) (drop c.args.held w) (Inside c.args.block) i.scope i.number) c.consume.ensures
    ∙ open_view i.window i.ready i.held c.args.front c.args.held c.args.block i.stage i.scope i.number c.args.self.now c.self.view_is c.requires.none c.self.invariant.within
