use Rattle.std.proofs.Common.{◌∙◌, ap, arith, length, min, rules, take, subst, List, ℕ}
use Rattle.std.proofs.lemmas.List.{length-drop}
use Rattle.std.proofs.lemmas.Result.{err_from_is_err_and}
use Rattle.rss_base.specs.Written.{Gets}
use Rattle.traffic_gen.specs.Traffic.{traffic}
use Rattle.traffic_gen.proofs.Making.{left_is, all_given, gets_more, gets_front}
use Rattle.traffic_gen.proofs.writing.make.Goals as goal

pub returns-then-size-eq0-clause-ok : goal.returns-then-size-eq0-clause-ok
returns-then-size-eq0-clause-ok g c =
    let holds = g.K.Sink.may_hold in
    let loop = c.pieces in
    let all = traffic c.args.count c.args.number in
    let left = left_is loop.source c.args.count c.args.number loop.invariant.count loop.invariant.number in
    let size = c.give-size.ensures.given ∙ ap (λ (l : List ℕ). min (length loop.piece) (length l)) left in
    subst (Gets (holds c.args.out.now) (holds loop.out)) (all_given all loop.source.given c.give-size.result (length loop.piece) loop.invariant.within (omega arith) size c.if-size-eq0.true) loop.invariant.got

pub pieces-smaller : goal.pieces-smaller
pieces-smaller g c =
    let loop = c.pieces in
    let all = traffic c.args.count c.args.number in
    let left = left_is loop.source c.args.count c.args.number loop.invariant.count loop.invariant.number in
    let size = c.give-size.ensures.given ∙ ap (λ (l : List ℕ). min (length loop.piece) (length l)) left in
    let given = ap (λ s. s.given) c.give-size.ensures.after in
    omega (arith, size, given, length-drop loop.source.given all)

pub pieces-preserved : goal.pieces-preserved
pieces-preserved g c =
    let holds = g.K.Sink.may_hold in
    let loop = c.pieces in
    let all = traffic c.args.count c.args.number in
    let left = left_is loop.source c.args.count c.args.number loop.invariant.count loop.invariant.number in
    let size = c.give-size.ensures.given ∙ ap (λ (l : List ℕ). min (length loop.piece) (length l)) left in
    let given = ap (λ s. s.given) c.give-size.ensures.after in
    let bytes = c.give-size.ensures.bytes ∙ ap (take c.give-size.result) left in
    record {
      room = search rules;
      count = ap (λ s. s.count) c.give-size.ensures.after ∙ loop.invariant.count;
      number = ap (λ s. s.number) c.give-size.ensures.after ∙ loop.invariant.number;
      within = omega (arith, size, given, length-drop loop.source.given all);
      got = rw given (gets_more (holds c.args.out.now) (holds loop.out) (holds c.write_whole.new.sink) all c.give-size.new.into loop.source.given c.give-size.result loop.invariant.got c.in_ok-write_whole.ensures.ok bytes);
      quiet = c.in_ok-write_whole.ensures.cause.kept ∙ loop.invariant.quiet;
    }

pub returns-in_err-write_whole-clause-err : goal.returns-in_err-write_whole-clause-err
returns-in_err-write_whole-clause-err g c =
    let holds = g.K.Sink.may_hold in
    let loop = c.pieces in
    let all = traffic c.args.count c.args.number in
    let left = left_is loop.source c.args.count c.args.number loop.invariant.count loop.invariant.number in
    let bytes = c.give-size.ensures.bytes ∙ ap (take c.give-size.result) left in
    let p = err_from_is_err_and c.from_residual.result c.from_residual.ensures.1 in
    rw p.1 (gets_front (holds c.args.out.now) (holds loop.out) (holds c.write_whole.new.sink) all c.give-size.new.into loop.source.given c.give-size.result loop.invariant.got c.in_err-write_whole.ensures.err bytes)
