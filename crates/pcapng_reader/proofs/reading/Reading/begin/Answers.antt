use Rattle.std.proofs.Common.{◌≡◌, ◌∙◌, sym, ap, List, ℕ, [], ◌++◌, length, take, drop, false}
use Rattle.pcapng_reader.specs.declared.stage.Stage.TheVariants.{Between}
use Rattle.pcapng_reader.specs.Front.{is_section}
use Rattle.pcapng_reader.specs.Progress.{Progress, tells}
use Rattle.pcapng_reader.specs.Blocks.{at_first}
use Rattle.pcapng_reader.proofs.Givings.{made, same_progress, fresh_parts, section_first, begins_pcapng, begins_plain}
use Rattle.pcapng_reader.proofs.reading.Reading.begin.Goals as goal
use Rattle.pcapng_reader.proofs.reading.Reading.begin.Goals.{else-first-eq4-via-then-first-eq4+else-begins_section, else-first-eq4-via-else-first-eq4}

pub returns-then-begins_section-clause-told : goal.returns-then-begins_section-clause-told
returns-then-begins_section-clause-told c = λ rest short.
    let i = c.self.inside in
    let first = c.args.first.now in
    let f = fresh_parts i.window i.ready i.held i.stage i.scope i.number (c.self.view_is ∙ c.requires.fresh) c.self.invariant in
    let window : c.put.new.self ≡ first = c.put.ensures ∙ ap (λ (w : List ℕ). w ++ first) f.2 in
    let held : take i.held c.put.new.self ≡ [] = ap (λ n. take n c.put.new.self) f.1 in
    let ahead : drop i.held c.put.new.self ≡ first = ap (λ n. drop n c.put.new.self) f.1 ∙ window in
    ap (λ (p : Progress). tells p rest) (same_progress i.ready [] _ [] _ first (Between 0) i.scope at_first i.number 0 f.0 held ahead f.4 f.5)
    ∙ begins_pcapng first rest c.if-first-eq4.true (sym c.begins_section.ensures ∙ c.if-begins_section.true)

pub returns-else-first-eq4-clause-told : goal.returns-else-first-eq4-clause-told
returns-else-first-eq4-clause-told c = λ rest short.
    let i = c.self.inside in
    let first = c.args.first.now in
    let f = fresh_parts i.window i.ready i.held i.stage i.scope i.number (c.self.view_is ∙ c.requires.fresh) c.self.invariant in
    let ready : c.put-else-first-eq4.new.self ≡ first = c.put-else-first-eq4.ensures ∙ ap (λ (w : List ℕ). w ++ first) f.0 in
    let held : take i.held i.window ≡ [] = ap (λ n. take n i.window) f.1 in
    let ahead : drop i.held i.window ≡ [] = ap (λ n. drop n i.window) f.1 ∙ f.2 in
    let other : length first ≡ 4 → is_section first ≡ false = λ four. elim c.else-first-eq4.branch [
      | else-first-eq4-via-then-first-eq4+else-begins_section w ↦ sym w.begins_section.ensures ∙ w.if-begins_section.false
      | else-first-eq4-via-else-first-eq4 w ↦ absurd (w.if-first-eq4.false four)
    ] in
    ap (λ (p : Progress). tells p rest)
    (same_progress c.put-else-first-eq4.new.self first _ [] _ [] i.stage i.scope at_first i.number 0 ready held ahead f.4 f.5 ∙ ap (λ s. made first [] [] s at_first 0) f.3)
    ∙ begins_plain first rest c.requires.four short other

pub returns-then-begins_section-clause-plain : goal.returns-then-begins_section-clause-plain
returns-then-begins_section-clause-plain c = λ rest short other.
    let is = section_first c.args.first.now rest c.if-first-eq4.true (sym c.begins_section.ensures ∙ c.if-begins_section.true) in
    cc
