use Rattle.std.proofs.Common.{◌≡◌, ◌-◌, ◌∙◌, sym, ap, subst, arith, length, length-drop, take, drop, List, ℕ, false}
use Rattle.std.proofs.lemmas.List.{take_all}
use Rattle.pcapng_reader.specs.declared.turn.Turn.{Turn}
use Rattle.pcapng_reader.specs.declared.stage.Stage.{Stage}
use Rattle.pcapng_reader.specs.Progress.{Progress, StageFits}
use Rattle.pcapng_reader.specs.Looks.{Turns}
use Rattle.pcapng_reader.specs.Steps.{Stands}
use Rattle.pcapng_reader.proofs.Givings.{stage_fits}
use Rattle.pcapng_reader.proofs.Standing.{broken_turn, passes_turn, whole_turn}
use Rattle.pcapng_reader.proofs.reading.Reading.turn_on.Goals as goal

pub returns-in-Breaks : goal.returns-in-Breaks
returns-in-Breaks c =
    let i = c.self.inside in
    let p = c.args.self.now in
    let w = c.bytes.result.now in
    let ahead : take (length w - i.held) (drop i.held w) ≡ p.ahead = take_all (length w - i.held) (drop i.held w) (simp length-drop (omega arith)) ∙ (ap (λ (x : List ℕ). drop i.held x) c.bytes.ensures.value ∙ ap (λ (p : Progress). p.ahead) c.self.view_is) in
    let number : i.number ≡ p.number = ap (λ (p : Progress). p.number) c.self.view_is in
    let turn = subst (λ n. Turns n c.args.block p.ahead c.args.ended c.next_turn.result) number (subst (λ (x : List ℕ). Turns i.number c.args.block x c.args.ended c.next_turn.result) ahead c.next_turn.ensures) in
    let fits = subst (λ (s : Stage). StageFits s p.scope p.number (length p.ready) (length p.held) (length p.ahead)) c.requires.inside (stage_fits i.window i.ready i.held i.stage i.scope i.number p c.self.view_is c.self.invariant) in
    subst (λ (q : Progress). Stands p q c.args.ended false) (sym c.finish.ensures)
    (broken_turn p c.args.block c.args.ended c.in-Breaks.broken c.requires.inside fits.2.tail (subst (λ (t : Turn). Turns p.number c.args.block p.ahead c.args.ended t) c.in-Breaks.is turn))

pub returns-in-Passes : goal.returns-in-Passes
returns-in-Passes c =
    let i = c.self.inside in
    let p = c.args.self.now in
    let w = c.bytes.result.now in
    let ahead : take (length w - i.held) (drop i.held w) ≡ p.ahead = take_all (length w - i.held) (drop i.held w) (simp length-drop (omega arith)) ∙ (ap (λ (x : List ℕ). drop i.held x) c.bytes.ensures.value ∙ ap (λ (p : Progress). p.ahead) c.self.view_is) in
    let turn = subst (λ (x : List ℕ). Turns i.number c.args.block x c.args.ended c.next_turn.result) ahead c.next_turn.ensures in
    subst (λ (q : Progress). Stands p q c.args.ended false) (sym c.pass.ensures)
    (passes_turn p c.args.block c.args.ended c.in-Passes.count c.in-Passes.adds c.requires.inside (subst (λ (t : Turn). Turns i.number c.args.block p.ahead c.args.ended t) c.in-Passes.is turn))

pub returns-in-Whole : goal.returns-in-Whole
returns-in-Whole c =
    let i = c.self.inside in
    let p = c.args.self.now in
    let w = c.bytes.result.now in
    let ahead : take (length w - i.held) (drop i.held w) ≡ p.ahead = take_all (length w - i.held) (drop i.held w) (simp length-drop (omega arith)) ∙ (ap (λ (x : List ℕ). drop i.held x) c.bytes.ensures.value ∙ ap (λ (p : Progress). p.ahead) c.self.view_is) in
    let turn = subst (λ (x : List ℕ). Turns i.number c.args.block x c.args.ended c.next_turn.result) ahead c.next_turn.ensures in
    let fits = subst (λ (s : Stage). StageFits s p.scope p.number (length p.ready) (length p.held) (length p.ahead)) c.requires.inside (stage_fits i.window i.ready i.held i.stage i.scope i.number p c.self.view_is c.self.invariant) in
    subst (λ (q : Progress). Stands p q c.args.ended false) (sym c.close.ensures)
    (whole_turn p c.args.block c.args.ended c.requires.inside fits.2 (subst (λ (t : Turn). Turns i.number c.args.block p.ahead c.args.ended t) c.in-Whole.is turn))
