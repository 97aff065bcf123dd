use Rattle.std.proofs.Common.{arith, ◌≡◌, ◌+◌, ◌*◌, [], ◌∷◌, get_or, length, drop, refl, sym, ap, ◌∙◌}
use Rattle.std.proofs.lemmas.List.{get_or_read_under}
use Rattle.toeplitz.specs.declared.key.Key.{Key}
use Rattle.toeplitz.specs.Bits.{set_bits}
use Rattle.toeplitz.specs.Toeplitz.{toeplitz}
use Rattle.toeplitz.proofs.Steps.{toeplitz-more}
use Rattle.toeplitz.proofs.key_tables.KeyTables.hash.Goals as goal

pub loop-at-init : goal.loop-at-init
unfolding toeplitz set_bits
loop-at-init c = refl

pub loop-at-preserved : goal.loop-at-preserved
loop-at-preserved c =
    let key = c.args.self.now.0 in let at = c.loop-at.at in let byte = get_or c.args.input.now at 0 in let kept = c.self.invariant.0 in
    let few = c.requires in
    let small = c.type_inv.input at in
    let inside = c.loop-at-test.true in
    let forty : length key ≡ 40 = ap (λ (k : Key). length k.0) (sym c.self.view_is) ∙ c.self.invariant.1 in
    let more = toeplitz-more key c.args.input.now at inside (omega arith) (omega arith) in
    let count = kept.count in
    let read = get_or_read_under c.self.inside.hashes.items (at * 256 + byte) (length c.self.inside.hashes.items) c.index.result.now 0 c.index.ensures (omega arith) refl in
    let one = kept.each at byte (omega arith) (omega arith) in
    let same = ap (λ (k : Key). toeplitz (drop at k.0) (byte ∷ [])) c.self.view_is in
    let number = read ∙ one ∙ same in
    let so_far = c.loop-at.invariant in
    cc
