use Rattle.std.proofs.Common.{rules, arith, ◌≡◌, ◌∙◌, ◌≤◌, ◌*◌, ℕ, List, length, get_or, sym, ap, subst, Result, Ok, Err, OnOk, OnErr, refl, [], ◌∷◌, ◌++◌, replicate, drop}
use Rattle.std.specs.Prelude.{vec_capacity}
use Rattle.flow_work.specs.declared.work.TheConstants.{MOST_COST, MOST_PACKETS}
use Rattle.indirection.specs.declared.entry.Entry.{Entry}
use Rattle.indirection.specs.Views.{LoadsView, TableView}
use Rattle.indirection.specs.JournalView.{JournalState}
use Rattle.indirection.specs.declared.proposal.Proposal.{Proposal}
use Rattle.balancer.specs.declared.policy_name.PolicyName.{PolicyName}
use Rattle.balancer.specs.Policies.{Stated, Follows, proposals_by}
use Rattle.dispatch_loop.specs.declared.limits.TheConstants.{MOST_LIMIT}
use Rattle.dispatch_loop.specs.declared.state.State.{State}
use Rattle.dispatch_loop.specs.Fit.{IsFit}
use Rattle.dispatch_loop.specs.Views.{dispatcher_state, is_some, CanWeigh}
use Rattle.indirection.specs.declared.entry.Entry.TheVariants.{Round}
use Rattle.indirection.specs.Rounds.{opened_round}
use Rattle.packet_fields.specs.declared.packet.PacketInfo.{PacketInfo}
use Rattle.balancer.specs.Standing.{AreLoads}
use Rattle.dispatch_loop.specs.declared.rounds.Rounds.{Rounds}
use Rattle.dispatch_loop.proofs.Weighed.{are_loads, length-bases}
use Rattle.dispatch_loop.specs.Does.{ReadsAll, bases_of, loads_of, proposed_for, with_round}
use Rattle.dispatch_loop.proofs.round.make_round.Goals as goal

same_start : {R E : Type 0} (r : Result R E) (j j' : JournalState) (es : List Entry) → OnOk r (j' ≡ record j { entries = es }) → OnErr r (j' ≡ j) → j'.start ≡ j.start
same_start (Ok r) j j' es ok err = ap (λ (z : JournalState). z.start) ok
same_start (Err r) j j' es ok err = ap (λ (z : JournalState). z.start) err

based : (cores : ℕ) (xs readings : List ℕ) (l : LoadsView) → l.base ≡ bases_of xs readings → length readings ≡ length xs → length xs ≡ cores → length l.base ≡ cores
based cores xs readings l e same wide = ap (λ (z : List ℕ). length z) e ∙ (length-bases xs readings (sym same) ∙ wide)

-- a dispatcher that made a round, or was refused it, is for what it was for
fit_behind : {B : Type 0} (stated : B → Stated) (proposals : Stated → LoadsView → List ℕ → ℕ → List Proposal) (s t : State B) → IsFit stated proposals s → t.routing.table.cores ≡ s.routing.table.cores → t.journal.start ≡ s.journal.start
    → length t.rounds.loads.base ≡ s.journal.start.cores → t.rounds.name ≡ s.rounds.name → stated t.rounds.policy ≡ stated s.rounds.policy → length t.rounds.proposals.items ≤ MOST_LIMIT → vec_capacity s.rounds.proposals ≤ vec_capacity t.rounds.proposals
    → IsFit stated proposals t
fit_behind {B} stated proposals s t fit table start bases name same few room = record {
  cores = table ∙ (fit.cores ∙ ap (λ (z : TableView). z.cores) (sym start));
  bases = bases ∙ ap (λ (z : TableView). z.cores) (sym start);
  policy_cores = ap (λ (z : Stated). z.cores) same ∙ (fit.policy_cores ∙ ap (λ (z : TableView). z.cores) (sym start));
  policy_buckets = ap (λ (z : Stated). z.buckets) same ∙ (fit.policy_buckets ∙ ap (λ (z : TableView). length z.owners) (sym start));
  follows = subst (λ (y : PolicyName × Stated). Follows y.0 y.1 proposals) (λ i. (sym name i, sym same i)) fit.follows;
  few = few;
  room = let r = fit.room in omega arith;
}

-- what was weighed is within the limits
are_weighed : {B : Type 0} (stated : B → Stated) (proposals : Stated → LoadsView → List ℕ → ℕ → List Proposal) (s : State B) (l : LoadsView) (xs readings : List ℕ) → IsFit stated proposals s → CanWeigh s → xs ≡ s.routing.sent_to.items
    → l ≡ record s.rounds.loads { base = bases_of xs readings } → length readings ≡ length xs → AreLoads (stated s.rounds.policy).cores (stated s.rounds.policy).buckets l
are_weighed stated proposals s l xs readings fit can xs_are is each =
    are_loads (stated s.rounds.policy).cores (stated s.rounds.policy).buckets l xs readings (ap (λ (z : LoadsView). z.base) is) (ap (λ (z : List ℕ). length z) xs_are ∙ (can.cores_wide ∙ sym fit.policy_cores)) each (ap (λ (z : LoadsView). length z.bucket) is ∙ (can.loads_wide ∙ sym fit.policy_buckets))
    (λ b. subst (λ (z : LoadsView). get_or z.bucket b 0 ≤ MOST_COST * MOST_PACKETS) (sym is) (can.loads b)) (λ b. subst (λ (z : List ℕ). get_or z b 0 ≤ MOST_COST * MOST_PACKETS) (sym xs_are) (can.sent b))

-- a dispatcher whose journal took the round
state_made : {B : Type 0} (cost : PacketInfo → ℕ) (s : State B) (r : Rounds B) (j : JournalState) (loads : LoadsView) → r.length ≡ s.rounds.length → r.limit ≡ s.rounds.limit → r.name ≡ s.rounds.name → r.since ≡ 0 → r.short ≡ s.rounds.short → r.tried ≡ 0
    → r.loads.bucket ≡ replicate (length s.journal.start.owners) 0 → r.proposals.items ≡ proposed_for (dispatcher_state cost s) loads → j ≡ record s.journal { entries = s.journal.entries ++ Round (opened_round s.routing.sent loads (proposed_for (dispatcher_state cost s) loads)) ∷ [] }
    → dispatcher_state cost (record s { rounds = r; journal = j }) ≡ with_round (dispatcher_state cost s) loads
state_made cost s r j loads el em en es eh et eb ep ej = λ i. record {
  terms = record { key = s.key; start = (ej i).start; moves = s.orders.moves.items; round = el i; limit = em i; policy = en i; packets = s.packets; cost = cost };
  owners = s.routing.table.owners;
  starts = s.routing.starts.items;
  counts = s.routing.counts.items;
  sent = s.routing.sent;
  sent_to = s.routing.sent_to.items;
  loads = eb i;
  since = es i;
  proposals = drop (et i) (ep i);
  orders = drop s.orders.tried s.orders.moves.items;
  journal = ej i;
  short = eh i;
  held = s.held;
  spare = is_some s.spare;
  end = s.end;
  ends = s.ends;
}

pub propose-requires-clause-loads : goal.propose-requires-clause-loads
propose-requires-clause-loads g c =
    let w = c.weigh.ensures.weighs in
    are_weighed g.B.Policy.stated g.B.Policy.proposals c.args.state.now c.weigh.new.loads c.deref.result.now w.0 c.requires.fit c.requires.can c.deref.ensures.value w.2 w.1.each

pub returns-then-is_err-clause-fit : goal.returns-then-is_err-clause-fit
returns-then-is_err-clause-fit g c =
    let s = c.args.state.now in let w = c.weigh.ensures.weighs in let can = c.requires.can in let B = g.row.B.Denot in
    let few = c.propose.ensures.few in let limit = can.limit in let room = c.propose.ensures.room in
    let kept = ap (λ (z : Rounds B). length z.proposals.items) c.refuse.ensures in let wide = ap (λ (z : Rounds B). vec_capacity z.proposals) c.refuse.ensures in
    fit_behind g.B.Policy.stated g.B.Policy.proposals s _ c.requires.fit refl
    (same_start c.push_round-noted.result s.journal c.push_round-noted.new.self _ c.push_round-noted.ensures.ok c.push_round-noted.ensures.err)
    (ap (λ (z : Rounds B). length z.loads.base) c.refuse.ensures ∙ based s.journal.start.cores c.deref.result.now w.0 c.weigh.new.loads (ap (λ (z : LoadsView). z.base) w.2) w.1.each (ap (λ (z : List ℕ). length z) c.deref.ensures.value ∙ can.cores_wide))
    (ap (λ (z : Rounds B). z.name) c.refuse.ensures)
    (ap (λ (z : Rounds B). g.B.Policy.stated z.policy) c.refuse.ensures ∙ c.propose.ensures.stated)
    (omega arith)
    (omega arith)

pub returns-clause-fit : goal.returns-clause-fit
returns-clause-fit g c =
    let s = c.args.state.now in let w = c.weigh.ensures.weighs in let can = c.requires.can in let B = g.row.B.Denot in
    let few = c.propose.ensures.few in let limit = can.limit in let room = c.propose.ensures.room in
    let kept = ap (λ (z : Rounds B). length z.proposals.items) c.begin.ensures in let wide = ap (λ (z : Rounds B). vec_capacity z.proposals) c.begin.ensures in
    fit_behind g.B.Policy.stated g.B.Policy.proposals s _ c.requires.fit refl
    (same_start c.push_round-noted.result s.journal c.push_round-noted.new.self _ c.push_round-noted.ensures.ok c.push_round-noted.ensures.err)
    (ap (λ (z : Rounds B). length z.loads.base) c.begin.ensures ∙ based s.journal.start.cores c.deref.result.now w.0 c.weigh.new.loads (ap (λ (z : LoadsView). z.base) w.2) w.1.each (ap (λ (z : List ℕ). length z) c.deref.ensures.value ∙ can.cores_wide))
    (ap (λ (z : Rounds B). z.name) c.begin.ensures)
    (ap (λ (z : Rounds B). g.B.Policy.stated z.policy) c.begin.ensures ∙ c.propose.ensures.stated)
    (omega arith)
    (omega arith)

pub returns-clause-made : goal.returns-clause-made
returns-clause-made g c =
    let s = c.args.state.now in let w = c.weigh.ensures.weighs in let can = c.requires.can in let fit = c.requires.fit in let B = g.row.B.Denot in let cost = g.W.FlowWork.cost_of in let f = dispatcher_state cost s in
    let loads : LoadsView = loads_of f w.0 in
    let lo : c.weigh.new.loads ≡ loads = w.2 ∙ ap (λ (z : List ℕ). let l : LoadsView = record { bucket = s.rounds.loads.bucket; base = bases_of z w.0 } in l) c.deref.ensures.value in
    let fitting = are_weighed g.B.Policy.stated g.B.Policy.proposals s c.weigh.new.loads c.deref.result.now w.0 fit can c.deref.ensures.value w.2 w.1.each in
    let follows = fit.follows c.weigh.new.loads s.routing.table.owners s.rounds.limit (can.owners_wide ∙ sym fit.policy_buckets) fitting can.limit in
    let items : c.propose.new.proposals.items ≡ proposed_for f loads = c.propose.ensures.made ∙ (follows ∙ λ i. proposals_by s.rounds.name (fit.policy_cores i) s.rounds.limit (lo i) s.routing.table.owners) in
    let noted : c.push_round-noted.new.self ≡ record s.journal { entries = s.journal.entries ++ Round (opened_round s.routing.sent c.weigh.new.loads c.propose.new.proposals.items) ∷ [] } = search rules in (
      w.0,
      subst (λ (n : ℕ). ReadsAll n w.0 (g.M.LoadEnd.history c.args.meter.now) (g.M.LoadEnd.now c.args.meter.now) (g.M.LoadEnd.history c.weigh.new.meter) (g.M.LoadEnd.now c.weigh.new.meter)) (ap (λ (z : List ℕ). length z) c.deref.ensures.value ∙ can.cores_wide) w.1,
      state_made cost s c.begin.new.self c.push_round-noted.new.self loads (ap (λ (z : Rounds B). z.length) c.begin.ensures) (ap (λ (z : Rounds B). z.limit) c.begin.ensures) (ap (λ (z : Rounds B). z.name) c.begin.ensures) (ap (λ (z : Rounds B). z.since) c.begin.ensures)
          (ap (λ (z : Rounds B). z.short) c.begin.ensures) (ap (λ (z : Rounds B). z.tried) c.begin.ensures)
          (ap (λ (z : Rounds B). z.loads.bucket) c.begin.ensures ∙ ap (λ (n : ℕ). replicate n 0) (ap (λ (z : LoadsView). length z.bucket) w.2 ∙ can.loads_wide))
          (ap (λ (z : Rounds B). z.proposals.items) c.begin.ensures ∙ items)
          (noted ∙ λ i. record s.journal { entries = s.journal.entries ++ Round (opened_round s.routing.sent (lo i) (items i)) ∷ [] }),
    )
