use Rattle.std.proofs.Common.{◌∙◌, ◌-◌, take, ap}
use Rattle.rss_base.proofs.Parts.{moved_front}
use Rattle.rss_base.proofs.window.compact.Goals as goal

pub returns-clause-front : goal.returns-clause-front
returns-clause-front c =
    ap (λ w. take (c.args.end - c.args.start) w) c.copy_within.ensures.items ∙ moved_front c.args.buffer.now.items c.args.start c.args.end c.requires.order c.requires.within
