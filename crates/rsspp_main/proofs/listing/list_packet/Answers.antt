use Rattle.std.proofs.Common.{List, ℕ, subst, ◌∙◌}
use Rattle.rss_base.specs.Written.{Gets, GetsFront}
use Rattle.rsspp_main.proofs.Listings.{line_written, line_cut}
use Rattle.rsspp_main.proofs.listing.list_packet.Goals as goal

pub returns-in-Ok-clause-listed : goal.returns-in-Ok-clause-listed
returns-in-Ok-clause-listed g c = λ e.
    let holds = g.K.Sink.may_hold in
    let text = c.bytes.ensures ∙ c.in_ok-put_line.ensures in
    line_written _ _ (holds c.args.out.now) (holds c.write_whole.new.sink) _ (subst (λ (w : List ℕ). Gets (holds c.args.out.now) (holds c.write_whole.new.sink) w) text c.in-Ok.ensures.ok) c.in-Ok.ensures.cause.kept

pub returns-in-Err-clause-listed : goal.returns-in-Err-clause-listed
returns-in-Err-clause-listed g c = λ e.
    let holds = g.K.Sink.may_hold in
    let text = c.bytes.ensures ∙ c.in_ok-put_line.ensures in
    line_cut _ _ (holds c.args.out.now) (holds c.write_whole.new.sink) _ (subst (λ (w : List ℕ). GetsFront (holds c.args.out.now) (holds c.write_whole.new.sink) w) text c.in-Err.ensures.err) c.in-Err.ensures.cause.later c.in-Err.ensures.cause.failed
