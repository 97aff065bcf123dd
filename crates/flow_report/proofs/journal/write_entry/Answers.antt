use Rattle.std.proofs.Common.{◌∙◌, ℕ, List, ap, refl, sym, subst}
use Rattle.std.specs.List.{flat_map}
use Rattle.std.proofs.lemmas.Result.{on_ok_weaker, on_err_weaker}
use Rattle.rss_base.specs.Written.{GetsFront}
use Rattle.rss_base.proofs.Pieces.{Gets-trans}
use Rattle.indirection.specs.Views.{LoadsView}
use Rattle.flow_report.specs.JournalText.{line_bytes, round_line, entry_lines}
use Rattle.flow_report.proofs.Lines.{front_first, front_last}
use Rattle.flow_report.proofs.JournalWrites.{rest_bytes, round_is}
use Rattle.flow_report.proofs.journal.write_entry.Goals as goal

pub returns-in-Ok-clause-ok : goal.returns-in-Ok-clause-ok
returns-in-Ok-clause-ok g c =
    let holds = g.K.Sink.may_hold in
    let loads = c.bucket.ensures ∙ ap (λ (l : LoadsView). l.bucket) c.loads.ensures in
    let bases = c.base.ensures ∙ ap (λ (l : LoadsView). l.base) c.loads-in-Round.ensures in
    let whole = round_is c.args.entry.now c.in-Round.round c.at.result c.bucket.result.now c.base.result.now c.proposals.result.now c.outcomes.result.now c.in-Round.is c.at.ensures loads bases c.proposals.ensures c.outcomes.ensures.value in
    on_ok_weaker c.write_tried.result
    (λ h. Gets-trans (holds c.args.out.now) (holds c.write_line.new.out) (holds c.write_tried.new.out) (line_bytes (round_line c.at.result c.bucket.result.now c.base.result.now)) (rest_bytes c.proposals.result.now c.outcomes.result.now) (flat_map line_bytes (entry_lines c.args.entry.now)) c.in-Ok.ensures.ok h (sym whole))
    c.write_tried.ensures.ok

pub returns-in-Ok-clause-err : goal.returns-in-Ok-clause-err
returns-in-Ok-clause-err g c =
    let holds = g.K.Sink.may_hold in
    let loads = c.bucket.ensures ∙ ap (λ (l : LoadsView). l.bucket) c.loads.ensures in
    let bases = c.base.ensures ∙ ap (λ (l : LoadsView). l.base) c.loads-in-Round.ensures in
    let whole = round_is c.args.entry.now c.in-Round.round c.at.result c.bucket.result.now c.base.result.now c.proposals.result.now c.outcomes.result.now c.in-Round.is c.at.ensures loads bases c.proposals.ensures c.outcomes.ensures.value in
    on_err_weaker c.write_tried.result
    (λ h. subst (λ (w : List ℕ). GetsFront (holds c.args.out.now) (holds c.write_tried.new.out) w) whole
    (front_last (holds c.args.out.now) (holds c.write_line.new.out) (holds c.write_tried.new.out) (line_bytes (round_line c.at.result c.bucket.result.now c.base.result.now)) (rest_bytes c.proposals.result.now c.outcomes.result.now) c.in-Ok.ensures.ok h))
    c.write_tried.ensures.err

pub returns-in-Err-clause-err : goal.returns-in-Err-clause-err
returns-in-Err-clause-err g c =
    let holds = g.K.Sink.may_hold in
    let r = c.in-Round.round in
    let loads = c.bucket.ensures ∙ ap (λ (l : LoadsView). l.bucket) c.loads.ensures in
    let bases = c.base.ensures ∙ ap (λ (l : LoadsView). l.base) c.loads-in-Round.ensures in
    let whole = round_is c.args.entry.now r c.at.result c.bucket.result.now c.base.result.now r.proposals r.outcomes c.in-Round.is c.at.ensures loads bases refl refl in
    subst (λ (w : List ℕ). GetsFront (holds c.args.out.now) (holds c.write_line.new.out) w) whole
    (front_first (holds c.args.out.now) (holds c.write_line.new.out) (line_bytes (round_line c.at.result c.bucket.result.now c.base.result.now)) (rest_bytes r.proposals r.outcomes) c.in-Err.ensures.err)
