use Rattle.std.proofs.Common.{◌≡◌, ◌++◌, ◌∙◌, ℕ, List, [], ap, ⊎_elim, sym, subst}
use Rattle.std.specs.List.{flat_map, zip}
use Rattle.std.specs.Slice.Iter.{iter_rest}
use Rattle.std.proofs.lemmas.List.{append-nil}
use Rattle.rss_base.specs.Written.{Gets, GetsFront}
use Rattle.indirection.specs.declared.proposal.Proposal.{Proposal}
use Rattle.indirection.specs.declared.outcome.Outcome.{Outcome}
use Rattle.flow_report.proofs.Lines.{put_more, put_front}
use Rattle.flow_report.proofs.JournalWrites.{tried_bytes, tried_are, zip_next, zip_no_left, zip_no_right}
use Rattle.flow_report.proofs.journal.write_tried.Goals as goal

pub tried-preserved : goal.tried-preserved
tried-preserved g c =
    let holds = g.K.Sink.may_hold in
    let so_far = c.tried.invariant.lines in
    let ps = iter_rest c.tried.proposal-iterator.a in
    let os = iter_rest c.tried.proposal-iterator.b in
    let qs = iter_rest c.next.new.self.a in
    let rs = iter_rest c.next.new.self.b in
    let p = c.in-Some.proposal.now in
    let o = c.in-Some.outcome.now in
    let first = zip_next ps qs os rs p o c.in-Some.ensures.steps.0 c.in-Some.ensures.steps.1 in
    record {
      lines = put_more tried_bytes (holds c.args.out.now) (holds c.tried.out) (holds c.write_line.new.out) (zip c.args.proposals.now c.args.outcomes.now) so_far.0 (zip ps os) so_far.1 so_far.2 (p, o) (zip qs rs) first c.in-Ok.ensures.ok;
      quiet = c.in-Ok.ensures.cause.kept ∙ c.tried.invariant.quiet;
    }

pub returns-in-Err-clause-err : goal.returns-in-Err-clause-err
returns-in-Err-clause-err g c =
    let holds = g.K.Sink.may_hold in
    let so_far = c.tried.invariant.lines in
    let ps = iter_rest c.tried.proposal-iterator.a in
    let os = iter_rest c.tried.proposal-iterator.b in
    let qs = iter_rest c.next.new.self.a in
    let rs = iter_rest c.next.new.self.b in
    let p = c.in-Some.proposal.now in
    let o = c.in-Some.outcome.now in
    let all = zip c.args.proposals.now c.args.outcomes.now in
    let first = zip_next ps qs os rs p o c.in-Some.ensures.steps.0 c.in-Some.ensures.steps.1 in
    let front = put_front tried_bytes (holds c.args.out.now) (holds c.tried.out) (holds c.write_line.new.out) all so_far.0 (zip ps os) so_far.1 so_far.2 (p, o) (zip qs rs) [] first c.in-Err.ensures.err in
    subst (λ (w : List ℕ). GetsFront (holds c.args.out.now) (holds c.write_line.new.out) w) (append-nil (flat_map tried_bytes all) ∙ sym (tried_are all)) front

pub returns-clause-ok : goal.returns-clause-ok
returns-clause-ok g c =
    let holds = g.K.Sink.may_hold in
    let so_far = c.tried.invariant.lines in
    let ps = iter_rest c.tried.proposal-iterator.a in
    let os = iter_rest c.tried.proposal-iterator.b in
    let done : List (Proposal × Outcome) = so_far.0 in
    let all = zip c.args.proposals.now c.args.outcomes.now in
    let none : zip ps os ≡ [] = ⊎_elim (λ left. zip_no_left ps os left.1.0) (λ left. zip_no_right ps os left.1.0) c.in-None.ensures.steps in
    let whole : done ≡ all = sym (append-nil done) ∙ (ap (λ (r : List (Proposal × Outcome)). done ++ r) (sym none) ∙ so_far.1) in
    subst (λ (w : List ℕ). Gets (holds c.args.out.now) (holds c.tried.out) w) (ap (λ (r : List (Proposal × Outcome)). flat_map tried_bytes r) whole ∙ sym (tried_are all)) so_far.2
