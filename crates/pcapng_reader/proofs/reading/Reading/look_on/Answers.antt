use Rattle.std.proofs.Common.{◌≡◌, ◌∙◌, sym, ap, subst, List, ℕ, false}
use Rattle.pcapng_reader.specs.Scope.{Scope}
use Rattle.pcapng_reader.specs.declared.look.Look.{Look}
use Rattle.pcapng_reader.specs.Progress.{Progress}
use Rattle.pcapng_reader.specs.Looks.{Looks}
use Rattle.pcapng_reader.specs.Steps.{Stands}
use Rattle.pcapng_reader.proofs.Givings.{whole_window}
use Rattle.pcapng_reader.proofs.Standing.{end_look, broken_look, opens_look}
use Rattle.pcapng_reader.proofs.reading.Reading.look_on.Goals as goal

pub returns-in-End : goal.returns-in-End
returns-in-End c =
    let i = c.self.inside in
    let p = c.args.self.now in
    let ahead = c.bytes.ensures.value ∙ whole_window i.window i.ready i.held i.stage i.scope i.number p c.self.view_is c.requires.none c.self.invariant.within in
    let scope : i.scope ≡ p.scope = ap (λ (p : Progress). p.scope) c.self.view_is in
    let number : i.number ≡ p.number = ap (λ (p : Progress). p.number) c.self.view_is in
    let look = subst (λ (s : Scope). Looks s p.number p.ahead c.args.ended c.look_at.result) scope (subst (λ n. Looks i.scope n p.ahead c.args.ended c.look_at.result) number (subst (λ (x : List ℕ). Looks i.scope i.number x c.args.ended c.look_at.result) ahead c.look_at.ensures)) in
    subst (λ (q : Progress). Stands p q c.args.ended false) (sym c.finish.ensures)
    (end_look p c.args.ended c.requires.between c.requires.none (subst (λ (l : Look). Looks p.scope p.number p.ahead c.args.ended l) c.in-End.is look))

pub returns-in-Breaks : goal.returns-in-Breaks
returns-in-Breaks c =
    let i = c.self.inside in
    let p = c.args.self.now in
    let ahead = c.bytes.ensures.value ∙ whole_window i.window i.ready i.held i.stage i.scope i.number p c.self.view_is c.requires.none c.self.invariant.within in
    let scope : i.scope ≡ p.scope = ap (λ (p : Progress). p.scope) c.self.view_is in
    let number : i.number ≡ p.number = ap (λ (p : Progress). p.number) c.self.view_is in
    let look = subst (λ (s : Scope). Looks s p.number p.ahead c.args.ended c.look_at.result) scope (subst (λ n. Looks i.scope n p.ahead c.args.ended c.look_at.result) number (subst (λ (x : List ℕ). Looks i.scope i.number x c.args.ended c.look_at.result) ahead c.look_at.ensures)) in
    subst (λ (q : Progress). Stands p q c.args.ended false) (sym c.finish-in-Breaks.ensures)
    (broken_look p c.args.ended c.in-Breaks.broken c.requires.between c.requires.none (subst (λ (l : Look). Looks p.scope p.number p.ahead c.args.ended l) c.in-Breaks.is look))

pub returns-in-Opens : goal.returns-in-Opens
returns-in-Opens c =
    let i = c.self.inside in
    let p = c.args.self.now in
    let ahead = c.bytes.ensures.value ∙ whole_window i.window i.ready i.held i.stage i.scope i.number p c.self.view_is c.requires.none c.self.invariant.within in
    let scope : i.scope ≡ p.scope = ap (λ (p : Progress). p.scope) c.self.view_is in
    let number : i.number ≡ p.number = ap (λ (p : Progress). p.number) c.self.view_is in
    let look = subst (λ (s : Scope). Looks s p.number p.ahead c.args.ended c.look_at.result) scope (subst (λ n. Looks i.scope n p.ahead c.args.ended c.look_at.result) number (subst (λ (x : List ℕ). Looks i.scope i.number x c.args.ended c.look_at.result) ahead c.look_at.ensures)) in
    subst (λ (q : Progress). Stands p q c.args.ended false) (sym c.open.ensures.value)
    (opens_look p c.args.ended c.in-Opens.front c.in-Opens.held c.in-Opens.block c.requires.between c.requires.none c.open.ensures.small (subst (λ (l : Look). Looks p.scope p.number p.ahead c.args.ended l) c.in-Opens.is look))
