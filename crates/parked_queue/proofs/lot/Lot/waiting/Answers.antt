use Rattle.std.proofs.Common.{◌≡◌, ◌≢◌, ◌<◌, ◌≤◌, ℕ, [], length, get_or, sym, ◌∙◌, subst, arith}
use Rattle.std.proofs.lemmas.Grind.{get_or_default_zero}
use Rattle.parked_queue.specs.Parked.{Parked, cells_at}
use Rattle.parked_queue.specs.Lined.{times_of}
use Rattle.parked_queue.proofs.Lines.{times_at, has_some}
use Rattle.parked_queue.proofs.lot.Lot.waiting.Goals as goal

pub returns-then-index-len : goal.returns-then-index-len
returns-then-index-len c =
    let line = c.self.inside.line.items in let i : ℕ = c.args.index in let b : ℕ = c.index.result.now in
    let cells = (Rattle.parked_queue.specs.contracts.lot.Lot.the_view c.self.inside).cells in
    let len = c.len.ensures in let fits = c.len.type_inv in let test = c.if-index-len.true in
    let near : i < length line = omega arith in
    let at : get_or line i 0 ≡ b = sym (c.index.ensures ∙ get_or_default_zero line i b near) in
    let got = has_some cells line b (subst (λ k. 1 ≤ times_of k line) at (times_at line i near)) (c.self.invariant.counts b) in
    subst (λ (p : Parked). (i < length p.waiting) × (get_or p.waiting i 0 ≡ b) × (b < length p.cells) × (cells_at b p ≢ []) × (length p.waiting < 18446744073709551616)) c.self.view_is
    (near, at, got.0, got.1, omega arith)
