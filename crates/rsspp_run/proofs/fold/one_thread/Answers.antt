use Rattle.std.proofs.Common.{◌∙◌, sym, rules}
use Rattle.rsspp_run.proofs.Folds.{begun_reading, whole_table, read_to_end, refused_at_start, refused_end}
use Rattle.rsspp_run.proofs.fold.one_thread.Goals as goal

pub returns-in_err-refused-clause-refused : goal.returns-in_err-refused-clause-refused
returns-in_err-refused-clause-refused g c =
    let left = g.S.Source.left in
    let start = begun_reading c.args.packets (left c.args.source.now) (left c.start.new.source) c.in_ok-reader.reader c.in_ok-reader.ensures.header c.in_ok-reader.ensures.first in
    let w = c.work_stream-end.ensures.worked (left c.args.source.now) start in
    let h = refused_end c.args.packets (left c.args.source.now) (left c.work_stream-end.new.source) c.work_stream-end.result w.0 c.in_err-refused.field-0.0 (sym c.refused.ensures ∙ c.in_err-refused.was) w.2 in
    let from = c.from_residual-in_err-refused.ensures in
    search (rules, h, from)

pub end_custody-requires-after_bounds : goal.end_custody-requires-after_bounds
end_custody-requires-after_bounds g c κs within =
    let left = g.S.Source.left in
    let start = begun_reading c.args.packets (left c.args.source.now) (left c.start.new.source) c.in_ok-reader.reader c.in_ok-reader.ensures.header c.in_ok-reader.ensures.first in
    (c.work_stream-end.ensures.worked (left c.args.source.now) start).1.held

pub returns-clause-table : goal.returns-clause-table
returns-clause-table g c =
    let left = g.S.Source.left in
    let start = begun_reading c.args.packets (left c.args.source.now) (left c.start.new.source) c.in_ok-reader.reader c.in_ok-reader.ensures.header c.in_ok-reader.ensures.first in
    let w = c.work_stream-end.ensures.worked (left c.args.source.now) start in
    whole_table g.W.FlowWork.opening g.W.FlowWork.after c.args.packets (left c.args.source.now) (left c.work_stream-end.new.source) c.work_stream-end.result w.0 c.work_stream-end.new.table c.end_custody.new.self
    (sym c.refused.ensures ∙ c.in_ok-refused.was) w.1 w.2 c.end_custody.ensures.closed (sym c.short.ensures ∙ c.if-short.false)

pub returns-clause-end : goal.returns-clause-end
returns-clause-end g c =
    let left = g.S.Source.left in
    let start = begun_reading c.args.packets (left c.args.source.now) (left c.start.new.source) c.in_ok-reader.reader c.in_ok-reader.ensures.header c.in_ok-reader.ensures.first in
    let w = c.work_stream-end.ensures.worked (left c.args.source.now) start in
    read_to_end c.args.packets (left c.args.source.now) (left c.work_stream-end.new.source) c.work_stream-end.result w.0 (sym c.refused.ensures ∙ c.in_ok-refused.was) w.2

pub returns-in_err-reader-clause-refused : goal.returns-in_err-reader-clause-refused
returns-in_err-reader-clause-refused g c =
    let h = refused_at_start c.args.packets (g.S.Source.left c.args.source.now) (g.S.Source.left c.start.new.source) c.in_err-reader.field-0.0 c.in_err-reader.ensures.refused c.in_err-reader.ensures.stops in
    let from = c.from_residual-in_err-reader.ensures in
    search (rules, h, from)
