use Rattle.std.proofs.Common.{◌≡◌, ℕ, length, get_or, Some, sym, ap, ◌∙◌, arith}
use Rattle.std.specs.Prelude.{slice_get}
use Rattle.std.proofs.lemmas.Iterator.Adapters.{YieldsList-from_vec}
use Rattle.std.proofs.lemmas.Iterator.Consumers.{YieldsList-turn}
use Rattle.std.proofs.lemmas.Option.{slice_get-get_or}
use Rattle.core_queue.specs.RuledLane.{SharedLane, AtLane}
use Rattle.threaded_run.proofs.Lists.{at_same, same_long}
use Rattle.threaded_run.proofs.lanes.ends_of.Goals as goal

pub sender-requires : goal.sender-requires
sender-requires g c =
    let ps = c.args.passes.items in let all = c.into_iter-pass-iterator.ensures.into_iter_gives in let n : ℕ = length c.loop-pass.yielded in
    let turn = YieldsList-turn (YieldsList-from_vec {s = c.into_iter-pass-iterator.result} ps all.0 (all.1 ∙ c.args.passes.ok.0)) c.loop-pass.yielded c.loop-pass.pass-iterator c.loop-pass.yielded_by c.next.result c.next.new.self c.in-Some.pass c.in-Some.is c.next.ensures.steps in
    let at : slice_get ps n ≡ Some c.in-Some.pass = slice_get-get_or ps n c.in-Some.pass turn.0 ∙ sym (ap Some turn.1) in
    let its = at_same (λ (a : AtLane). a.home) (λ (l : SharedLane). l.home) ps c.args.lanes.now n c.in-Some.pass c.requires.lanes at in
    let near = turn.0 in let here = c.loop-pass.invariant.2 in
    let wide = same_long (λ (a : AtLane). a.home) (λ (l : SharedLane). l.home) ps c.args.lanes.now c.requires.lanes in
    let got : slice_get c.args.lanes.now c.loop-pass.core ≡ Some (get_or c.args.lanes.now c.loop-pass.core c.index-lanes-core.result) = slice_get-get_or c.args.lanes.now c.loop-pass.core c.index-lanes-core.result (omega arith) in
    let lane : Some its.0 ≡ Some c.index-lanes-core.result = sym its.1 ∙ (ap (λ (k : ℕ). slice_get c.args.lanes.now k) (sym here) ∙ (got ∙ sym (ap Some c.index-lanes-core.is))) in
    let same : its.0 ≡ c.index-lanes-core.result = cc in
    sym its.2 ∙ ap (λ (l : SharedLane). l.home) same
