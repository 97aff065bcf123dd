use Rattle.std.proofs.Common.{◌≡◌, ◌+◌, ◌-◌, ◌∙◌, sym, ap, subst, List, ℕ, [], ◌++◌, length, take, drop, min, false, arith, length-take, length-drop, rules}
use Rattle.pcapng_reader.specs.Progress.{Told, Progress, tells, awaits_block, waits_at, behind}
use Rattle.pcapng_reader.specs.Stages.{kept_back}
use Rattle.pcapng_reader.specs.Steps.{hands_on, hands_on_at}
use Rattle.pcapng_reader.proofs.Stories.{empty_of}
use Rattle.pcapng_reader.proofs.Givings.{made, gives_view, gives_none, counts}
use Rattle.pcapng_reader.proofs.reading.Reading.give.Goals as goal

pub returns-clause-given : goal.returns-clause-given
returns-clause-given c = λ rest.
    let i = c.self.inside in
    let p = c.args.self.now in
    let f = c.min-first.result in
    let count = c.min-count.result in
    let s = count - f in
    let front = c.bytes-front.ensures.value in
    let window = c.bytes.ensures.value in
    let into = c.copy_both.new.into in
    let n = counts i.window i.ready i.held i.stage i.scope i.number p count f (length c.args.into.now) c.self.view_is c.self.invariant c.requires.awaits_block
    (c.min-count.ensures ∙ ap (λ m. min (length c.args.into.now) m) (ap (λ (x : List ℕ). length x + i.held - c.kept_back.result) front ∙ ap (λ k. length i.ready + i.held - k) c.kept_back.ensures))
    (c.min-first.ensures ∙ ap (λ (x : List ℕ). min count (length x)) front) in
    let parts : take (length (take f i.ready) + length (take s i.window)) into ≡ take f i.ready ++ take s i.window =
    subst (λ (x : List ℕ). take (length (take f i.ready) + length (take s x)) into ≡ take f i.ready ++ take s x) window
    (subst (λ (x : List ℕ). take (length (take f x) + length (take s c.bytes.result.now)) into ≡ take f x ++ take s c.bytes.result.now) front c.copy_both.ensures) in
    let given : take count into ≡ take f i.ready ++ take s i.window = ap (λ m. take m into) (sym n.1) ∙ parts in
    ap (λ (x : Progress). tells x rest) (sym c.self.view_is)
    ∙ (gives_view i.window i.ready (take count into) i.held f s (length i.ready + i.held) i.stage i.scope i.number rest n.0 n.2 c.self.invariant.within n.3 given
    ∙ ap (λ (x : Told). behind (take count into) x) (ap (λ (x : List ℕ). tells (made x (take (i.held - s) (drop s i.window)) (drop (i.held - s) (drop s i.window)) i.stage i.scope i.number) rest) (sym c.consume.ensures)
    ∙ ap (λ (x : List ℕ). tells (made c.consume.new.self (take (i.held - s) x) (drop (i.held - s) x) i.stage i.scope i.number) rest) (sym c.consume-2.ensures)))

pub returns-clause-none : goal.returns-clause-none
returns-clause-none c = λ nought some rest.
    let i = c.self.inside in
    let f = c.min-first.result in
    let s = c.min-count.result - f in
    let room = length c.args.into.now in
    let least : min room (length i.ready + i.held - kept_back i.stage) ≡ 0 =
    sym (c.min-count.ensures ∙ ap (λ m. min room m) (ap (λ (x : List ℕ). length x + i.held - c.kept_back.result) c.bytes-front.ensures.value ∙ ap (λ k. length i.ready + i.held - k) c.kept_back.ensures)) ∙ nought in
    let long : length c.copy_both.new.into ≡ room = search rules in
    let front : length (take i.held i.window) ≡ i.held = simp length-take (omega (arith, c.self.invariant.within)) in
    let still : waits_at i.stage (length i.ready + i.held) ≡ false = subst (λ h. waits_at i.stage (length i.ready + h) ≡ false) front (subst (λ (q : Progress). awaits_block q ≡ false) (sym c.self.view_is) c.requires.awaits_block) in
    let hands : hands_on_at i.stage i.ready ≡ false = subst (λ (q : Progress). hands_on q ≡ false) (sym c.self.view_is) c.requires.hands_on in
    let ahead : List ℕ = drop (i.held - s) c.consume-2.new.self in
    let none = gives_none i.stage i.scope i.number room i.held i.ready [] ahead rest still hands least (omega (arith, some, long)) in
    let ready : c.consume.new.self ≡ [] = c.consume.ensures ∙ empty_of (drop f i.ready) (simp length-drop (omega (arith, ap length none.0))) in
    let nothing : i.held - s ≡ 0 = omega (arith, none.1) in
    let held : take (i.held - s) c.consume-2.new.self ≡ [] = ap (λ m. take m c.consume-2.new.self) nothing in
    ap (λ (x : List ℕ). (tells (made x (take (i.held - s) c.consume-2.new.self) ahead i.stage i.scope i.number) rest).text) ready
    ∙ (ap (λ (x : List ℕ). (tells (made [] x ahead i.stage i.scope i.number) rest).text) held ∙ none.2)
