use Rattle.std.proofs.Common.{◌∙◌, ◌-◌, take, drop}
use Rattle.rss_base.proofs.Parts.{read_piece}
use Rattle.rss_base.proofs.window.Window.pull.Goals as goal

pub returns-in-Ok-clause-bytes : goal.returns-in-Ok-clause-bytes
returns-in-Ok-clause-bytes g c =
    let kept = c.self.inside.end - c.self.inside.start in
    let new = c.read_behind.new.buffer.items in
    let p = read_piece c.args.self.now c.compact.new.buffer.items new kept c.in-Ok.count (c.compact.ensures.front ∙ c.self.view_is) c.read_behind.ensures.front c.in-Ok.ensures.within in
    (take c.in-Ok.count (drop kept new), p.0, p.1, c.in-Ok.ensures.bytes)
