use Rattle.std.proofs.Common.{rules, ◌≡◌, ◌∙◌, [], ◌∷◌, ap, sym, subst, Some, drop, List, Option, ℕ}
use Rattle.rss_base.specs.Memory.{Feed}
use Rattle.dispatch_loop.specs.Past.{past, AreNamed}
use Rattle.sweep_tests.proofs.Begins.{fresh_party}
use Rattle.sweep_tests.proofs.parties.dispatcher_party.Goals as goal

pub invariant_of-result : goal.invariant_of-result
invariant_of-result g c =
    let o = c.args.options.now in
    let f = c.new-source.result in
    let bytes : Option (List ℕ) = Some (drop f.given f.all) in
    let whole : bytes ≡ Some c.args.bytes.items = ap (λ (x : Feed). Some (drop x.given x.all)) c.new-source.ensures in
    let named = subst (λ (b : Option (List ℕ)). AreNamed g.N.RunName.packets o.packets b) (sym whole) c.requires.named in
    let l : c.in_ok-lanes.lanes.items ≡ c.args.passes.first ∷ c.args.passes.second ∷ [] = search rules in
    let s : c.end.result ≡ c.args.passes.seat = search rules in
    let m : c.end-3.result ≡ c.args.passes.load = search rules in
    let left : Option (List ℕ) = Some (drop c.start.new.source.given c.start.new.source.all) in
    record {
      tied = (
        past bytes [],
        c.in_ok-dispatcher.ensures.tied g.N.RunName.packets bytes _ _ _ c.in_ok-reader.reader left
            (fresh_party g.N.RunName.packets o g.W.FlowWork.cost_of c.requires.accepted c.requires.cores c.args.shared.now.first c.args.shared.now.second c.args.shared.now.shelf c.args.shared.now.pool c.args.shared.now.meter c.args.passes.first c.args.passes.second c.args.passes.seat c.args.passes.cells c.args.passes.load c.requires.passes
            c.in_ok-lanes.lanes.items l c.end.result s c.end-3.result m c.in_ok-reader.reader bytes left named c.in_ok-reader.ensures.header c.in_ok-reader.ensures.first),
      );
    }
