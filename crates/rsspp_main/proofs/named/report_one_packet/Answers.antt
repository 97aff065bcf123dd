use Rattle.std.proofs.Common.{map, refl, sym, ap, arith, Some, List, ℕ, drop, ◌∙◌}
use Rattle.std.specs.String.{string_bytes}
use Rattle.rsspp_main.proofs.NamedRun.{names, reported}
use Rattle.rsspp_main.proofs.named.report_one_packet.Goals as goal

pub rsspp-requires-clause-named : goal.rsspp-requires-clause-named
rsspp-requires-clause-named g c κs within =
    names (map string_bytes c.args.words.now) (drop c.args.source.now.given c.args.source.now.all) c.requires.words c.requires.capture (c.good_capture.ensures 1 0 (omega arith))

pub returns-clause-report : goal.returns-clause-report
returns-clause-report g c = λ zero.
    let h = c.rsspp.ensures.outcome in
    let told = reported c.args.hashing.now c.rsspp.result.trace (map string_bytes c.args.words.now) _ _ h.0 c.requires.words (ap (λ (bs : List ℕ). Some bs) c.requires.capture) (c.good_capture.ensures 1 0 (omega arith)) (sym h.1 ∙ zero) h.2 in
    sym (told.0 c.args.out.now.bytes refl)

pub returns-clause-trace : goal.returns-clause-trace
returns-clause-trace g c = λ zero.
    let h = c.rsspp.ensures.outcome in
    (reported c.args.hashing.now c.rsspp.result.trace (map string_bytes c.args.words.now) _ _ h.0 c.requires.words (ap (λ (bs : List ℕ). Some bs) c.requires.capture) (c.good_capture.ensures 1 0 (omega arith)) (sym h.1 ∙ zero) h.2).1
