use Rattle.std.proofs.Common.{◌≡◌, ◌<◌, ◌∙◌, sym, ap, subst, arith, length, take, rules, true, List, ℕ, None, Some}
use Rattle.pcapng_reader.specs.declared.look.Look.{Look}
use Rattle.pcapng_reader.specs.Breaks.{front_break}
use Rattle.pcapng_reader.specs.Front.{kind_of}
use Rattle.pcapng_reader.specs.Looks.{Looks, looked_behind}
use Rattle.pcapng_reader.proofs.Glances.{looks_broken, looks_behind, front_read}
use Rattle.pcapng_reader.proofs.look.look_at.Goals as goal
use Rattle.pcapng_reader.proofs.look.look_at.Goals.{else-bytes-lt-FRONT-via-then-bytes-lt-FRONT+else-not-ended, else-bytes-lt-FRONT-via-else-bytes-lt-FRONT}

pub returns-in-Some : goal.returns-in-Some
returns-in-Some c =
    let bytes = c.args.bytes.now in
    let short : length bytes < 28 → c.args.ended ≡ true = elim c.else-bytes-lt-FRONT.branch [
      | else-bytes-lt-FRONT-via-then-bytes-lt-FRONT+else-not-ended w ↦ λ h. w.if-not-ended.false
      | else-bytes-lt-FRONT-via-else-bytes-lt-FRONT w ↦ λ h. absurd (omega (arith, w.if-bytes-lt-FRONT.false))
    ] in
    let front : take c.min.result bytes ≡ take 28 bytes = ap (λ n. take n bytes) c.min.ensures ∙ front_read bytes in
    let broken : front_break c.args.scope.now c.args.block (take 28 bytes) ≡ Some c.in-Some.broken =
    ap (λ (w : List ℕ). front_break c.args.scope.now c.args.block w) (sym front) ∙ (sym c.front_break_at.ensures.value ∙ c.in-Some.is) in
    λ rest end. looks_broken c.args.scope.now c.args.block bytes c.args.ended c.in-Some.broken (let some = c.if-is_empty.false in search rules) short broken rest end

pub returns-in-None : goal.returns-in-None
returns-in-None c =
    let bytes = c.args.bytes.now in
    let scope = c.args.scope.now in
    let short : length bytes < 28 → c.args.ended ≡ true = elim c.else-bytes-lt-FRONT.branch [
      | else-bytes-lt-FRONT-via-then-bytes-lt-FRONT+else-not-ended w ↦ λ h. w.if-not-ended.false
      | else-bytes-lt-FRONT-via-else-bytes-lt-FRONT w ↦ λ h. absurd (omega (arith, w.if-bytes-lt-FRONT.false))
    ] in
    let front : take c.min.result bytes ≡ take 28 bytes = ap (λ n. take n bytes) c.min.ensures ∙ front_read bytes in
    let sound : front_break scope c.args.block (take 28 bytes) ≡ None = ap (λ (w : List ℕ). front_break scope c.args.block w) (sym front) ∙ (sym c.front_break_at.ensures.value ∙ c.in-None.is) in
    let same : c.look_behind.result ≡ looked_behind (kind_of scope.order (take 28 bytes)) scope c.args.block (take 28 bytes) (length bytes) c.args.ended =
    c.look_behind.ensures ∙ ap (λ (w : List ℕ). looked_behind (kind_of scope.order w) scope c.args.block w (length bytes) c.args.ended) front in
    subst (λ (l : Look). Looks scope c.args.block bytes c.args.ended l) (sym same)
    (looks_behind scope c.args.block bytes c.args.ended c.ranges.block.fits (let some = c.if-is_empty.false in search rules) short sound)
