use Rattle.std.proofs.Common.{◌≡◌, ◌≤◌, ◌+◌, ◌-◌, ◌∙◌, ◌==◌, sym, ap, subst, arith, false, length, length-take, List, ℕ, ◌++◌, take, if◌then◌else◌, slice_index}
use Rattle.pcapng_reader.specs.declared.turn.Turn.{Turn}
use Rattle.pcapng_reader.specs.Numbers.{number_at}
use Rattle.pcapng_reader.specs.Options.{padded, has_option}
use Rattle.pcapng_reader.specs.Looks.{Turns, Passes, settles}
use Rattle.pcapng_reader.proofs.Settling.{tells_none, tells_first, no_option_short, no_option_end, no_option_fits, region_number}
use Rattle.pcapng_reader.proofs.Turning.{lacking_turns, settles_passes, skips_passes}
use Rattle.pcapng_reader.proofs.turn.next_option.Goals as goal
use Rattle.pcapng_reader.proofs.turn.next_option.Goals.{then-code-eq-END_OF_OPTIONS-via-then-code-eq-END_OF_OPTIONS, then-code-eq-END_OF_OPTIONS-via-else-code-eq-END_OF_OPTIONS+then-length-block}

pub returns-then-block-lt8 : goal.returns-then-block-lt8
returns-then-block-lt8 c =
    let b = c.args.block in
    let ahead = c.args.ahead.now in
    subst (λ (t : Turn). Turns c.args.number b ahead c.args.ended t) (sym c.described.ensures)
    (settles_passes b ahead c.args.link c.args.snap 6 c.requires.options c.requires.tail c.requires.within
    (λ more. tells_none b (ahead ++ more) (λ whole. no_option_short b.order (take (b.rest - 4) (ahead ++ more)) (simp length-take (omega (arith, c.if-block-lt8.true))))))

pub returns-then-ahead-lt8 : goal.returns-then-ahead-lt8
returns-then-ahead-lt8 c =
    subst (λ (t : Turn). Turns c.args.number c.args.block c.args.ahead.now c.args.ended t) (sym c.short_or_more.ensures)
    (lacking_turns c.args.number c.args.block c.args.ahead.now c.args.ended (omega arith) (λ e. omega arith))

pub returns-then-code-eq-END_OF_OPTIONS : goal.returns-then-code-eq-END_OF_OPTIONS
returns-then-code-eq-END_OF_OPTIONS c =
    let b = c.args.block in
    let ahead = c.args.ahead.now in
    let size : number_at b.order 2 2 ahead ≡ c.from.result = sym (c.from.ensures ∙ c.u16_at-size.ensures) in
    let room : padded c.from.result ≡ c.with_padding.result = sym c.with_padding.ensures in
    let none : (more : List ℕ) → b.rest ≤ length (ahead ++ more) → has_option b.order (take (b.rest - 4) (ahead ++ more)) ≡ false = λ more whole.
    elim c.then-code-eq-END_OF_OPTIONS.branch [
      | then-code-eq-END_OF_OPTIONS-via-then-code-eq-END_OF_OPTIONS w ↦
          no_option_end b.order (take (b.rest - 4) (ahead ++ more)) (region_number b.order 2 0 (b.rest - 4) ahead more (omega arith) (omega arith) ∙ (sym c.u16_at-code.ensures ∙ w.if-code-eq-END_OF_OPTIONS.true))
      | then-code-eq-END_OF_OPTIONS-via-else-code-eq-END_OF_OPTIONS+then-length-block w ↦
          let told : number_at b.order 2 2 (take (b.rest - 4) (ahead ++ more)) ≡ c.from.result = region_number b.order 2 2 (b.rest - 4) ahead more (omega arith) (omega arith) ∙ size in
          let over = w.if-length-block.true in
          let long : length (take (b.rest - 4) (ahead ++ more)) ≤ b.rest - 4 = simp length-take (omega arith) in
          no_option_fits b.order (take (b.rest - 4) (ahead ++ more)) (rw told (omega (arith, over, room, long)))
    ] in
    subst (λ (t : Turn). Turns c.args.number b ahead c.args.ended t) (sym c.described-then-code-eq-END_OF_OPTIONS.ensures)
    (settles_passes b ahead c.args.link c.args.snap 6 c.requires.options c.requires.tail c.requires.within (λ more. tells_none b (ahead ++ more) (none more)))

pub returns-then-code-eq-TIME_RESOLUTION : goal.returns-then-code-eq-TIME_RESOLUTION
returns-then-code-eq-TIME_RESOLUTION c =
    let b = c.args.block in
    let ahead = c.args.ahead.now in
    let size : number_at b.order 2 2 ahead ≡ c.from.result = sym (c.from.ensures ∙ c.u16_at-size.ensures) in
    let room : padded c.from.result ≡ c.with_padding.result = sym c.with_padding.ensures in
    let fits = c.if-length-block.false in
    let nine : number_at b.order 2 0 ahead ≡ 9 = sym c.u16_at-code.ensures ∙ c.if-code-eq-TIME_RESOLUTION.true in
    let told : c.told_by.result ≡ (if c.from.result == 1 then slice_index ahead 4 else 6) = c.told_by.ensures ∙ ap (λ n. if n == 1 then slice_index ahead 4 else 6) (sym c.from.ensures) in
    subst (λ (t : Turn). Turns c.args.number b ahead c.args.ended t) (sym (c.described-then-code-eq-TIME_RESOLUTION.ensures ∙ ap (λ r. settles c.args.link c.args.snap r) told))
    (settles_passes b ahead c.args.link c.args.snap (if c.from.result == 1 then slice_index ahead 4 else 6) c.requires.options c.requires.tail c.requires.within
    (λ more. tells_first b ahead more c.from.result c.if-ahead-lt8.false nine size (omega (arith, fits, room, c.if-block-lt8.false))))

pub returns-then-ahead-length : goal.returns-then-ahead-length
returns-then-ahead-length c =
    let fits = c.if-length-block.false in
    let short = c.if-ahead-length.true in
    let room = c.with_padding.ensures in
    subst (λ (t : Turn). Turns c.args.number c.args.block c.args.ahead.now c.args.ended t) (sym c.short_or_more-then-ahead-length.ensures)
    (lacking_turns c.args.number c.args.block c.args.ahead.now c.args.ended (omega (arith, fits, short, c.if-block-lt8.false)) (λ e. omega (arith, fits, short, room, c.from.ensures, c.u16_at-size.type_inv)))

pub returns : goal.returns
returns c =
    let b = c.args.block in
    let ahead = c.args.ahead.now in
    let size : number_at b.order 2 2 ahead ≡ c.from.result = sym (c.from.ensures ∙ c.u16_at-size.ensures) in
    let room : padded c.from.result ≡ c.with_padding.result = sym c.with_padding.ensures in
    let fits = c.if-length-block.false in
    subst (λ m. Passes b ahead (4 + m) b.adds) room
    (skips_passes b ahead c.args.link c.args.snap c.from.result c.requires.options c.requires.within c.if-ahead-lt8.false
    (λ e. c.if-code-eq-END_OF_OPTIONS.false (c.u16_at-code.ensures ∙ e)) (λ e. c.if-code-eq-TIME_RESOLUTION.false (c.u16_at-code.ensures ∙ e)) size (omega (arith, fits, room, c.if-block-lt8.false)) (omega (arith, c.if-ahead-length.false, room)))
