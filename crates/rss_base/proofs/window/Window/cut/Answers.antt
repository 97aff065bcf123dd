use Rattle.std.proofs.Common.{◌≡◌, List, ℕ, length, length-drop, length-take, ◌+◌, ◌-◌, ◌++◌, take, drop, ap, ◌∙◌, arith}
use Rattle.rss_base.proofs.Parts.{cut_out}
use Rattle.rss_base.proofs.window.Window.cut.Goals as goal

pub returns : goal.returns
returns g c =
    let w = c.self.inside in
    let from = c.args.from in
    let count = c.args.count in
    let long : length (drop w.start (take w.end w.buffer.items)) ≡ w.end - w.start = simp (length-drop, length-take) (omega arith) in
    let same : length (drop w.start (take w.end w.buffer.items)) ≡ length c.args.self.now = ap length c.self.view_is in
    ap (λ (xs : List ℕ). drop w.start (take (w.end - count) xs)) c.copy_within.ensures.items
    ∙ (cut_out w.buffer.items w.start from count w.end (omega arith) (omega arith) ∙ ap (λ (xs : List ℕ). take from xs ++ drop (from + count) xs) c.self.view_is)
