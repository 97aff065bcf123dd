use Rattle.std.proofs.Common.{length, arith}
use Rattle.indirection.specs.JournalView.{journal_view}
use Rattle.dispatch_loop.specs.Past.{parcels}
use Rattle.dispatch_loop.specs.Terms.{rules_of, terms_of}
use Rattle.rsspp_main.specs.Reports.{bucket_by}
use Rattle.rsspp_main.proofs.Shown.{if_ok, none_short, shown_by}
use Rattle.rsspp_main.proofs.WholeRounds.{whole_rounds}
use Rattle.rsspp_main.proofs.serial.run_to_report.Goals as goal

pub returns-clause-run : goal.returns-clause-run
returns-clause-run g c =
    let W = g.W.FlowWork in
    let o = c.args.options.now in
    let left = g.S.Source.left c.args.source.now in
    if_ok c.run_serial.result _ _ (λ end h.
    let shown = shown_by W.opening W.after (terms_of g.W.FlowWork.cost_of o) h.0 end.tables.items g.N.RunName.packets o.packets left c.requires.accepted.start.some_bucket c.requires.named h.1 h.3 in
    (h.0, h.1, h.2, shown.0, shown.1, shown.2)) c.run_serial.ensures.run

pub returns-clause-ready : goal.returns-clause-ready
returns-clause-ready g c =
    let W = g.W.FlowWork in
    let o = c.args.options.now in
    let t = terms_of g.W.FlowWork.cost_of o in
    let left = g.S.Source.left c.args.source.now in
    if_ok c.run_serial.result _ _ (λ end h.
    let all = h.0 in
    let tables = end.tables.items in
    let shown = shown_by W.opening W.after t all tables g.N.RunName.packets o.packets left c.requires.accepted.start.some_bucket c.requires.named h.1 h.3 in
    let done = c.tables_share_the_packets.ensures.done g.N.RunName.packets t all tables h.3 c.requires.accepted.start.some_bucket in
    let few = h.2.few in
    let most = c.requires.accepted.packets.1 in
    record {
      whole = none_short W.opening W.after g.N.RunName.packets t all tables h.3;
      apart = c.standing_tables.ensures.apart shown.0 (bucket_by o.key (length o.start.owners)) tables shown.2;
      few = omega arith;
      rounds = whole_rounds (rules_of t) (parcels t all) (journal_view end.journal) h.2.lawful;
    }) c.run_serial.ensures.run
