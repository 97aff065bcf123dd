use Rattle.std.proofs.Common.{rules, arith, ap, sym, ◌∙◌, ◌≡◌, ◌++◌, ◌∷◌, [], ℕ, false, refl, subst, length, length-append}
use Rattle.std.proofs.lemmas.Grind.{common_steps}
use Rattle.bucket_table.specs.Table.{TableOf}
use Rattle.worker_loop.specs.WorkerState.{WorkerView}
use Rattle.worker_loop.specs.Fresh.{fresh_worker}
use Rattle.toeplitz.specs.Bucket.{bucket_hash}
use Rattle.worker_loop.specs.Workload.{workload}
use Rattle.handover_words.specs.ShelfHistory.{fresh}
use Rattle.load_meter.specs.LoadHistory as loads
use Rattle.run_shifts.specs.Parties.{SharedView}
use Rattle.run_shifts.specs.WorkerParties.{IsWorkerParty}
use Rattle.run_shifts.specs.declared.worker_party.WorkerParty.{WorkerParty}
use Rattle.threaded_run.specs.Opening.{IsNewTaker}
use Rattle.threaded_run.proofs.Lists.{last_at, each_snoc}
use Rattle.threaded_run.proofs.NewParties.{new_worker_party}
use Rattle.threaded_run.proofs.opening.+open_worker_parties.Goals as goal

pub returns-clause-worker_parties : goal.returns-clause-worker_parties
returns-clause-worker_parties g t c =
    let m = c.in-Some-Some in let o = c.args.shared.now in let j = workload g.W.FlowWork.opening g.W.FlowWork.after g.W.FlowWork.cost_of g.N.RunName.packets in
    let ti : c.args.takers.items ≡ c.pop.new.self.items ++ m.taker ∷ [] = search rules in
    let ci : c.args.cells.items ≡ c.pop-2.new.self.items ++ m.pass ∷ [] = search rules in
    let tl = ap length ti ∙ length-append c.pop.new.self.items (m.taker ∷ []) in
    let cl = ap length ci ∙ length-append c.pop-2.new.self.items (m.pass ∷ []) in
    let n : ℕ = length c.pop.new.self.items in
    let k : c.len-core.result ≡ n = search rules in
    let count : length c.in_ok-worker_parties.worker_parties.items ≡ n = c.in_ok-worker_parties.ensures.worker_parties.1 in
    let worker_party : WorkerParty (WorkerView (TableOf g.row.W-State.Denot)) (TableOf g.row.W-State.Denot) = record { core = c.len-core.result; worker = c.in_ok-new.field-0; taker = m.taker; seat = c.in_ok-split.field-0; load = c.split-2.result; cells = m.pass; ended = false } in
    let pushed : c.push.new.self.items ≡ c.in_ok-worker_parties.worker_parties.items ++ worker_party ∷ [] = grind (arith, common_steps) in
    let few = c.requires.few in
    let long = ap length pushed ∙ length-append c.in_ok-worker_parties.worker_parties.items (worker_party ∷ []) in
    let seat = c.open_worker_parties.ensures.seat in let run = c.requires.run in
    let new : c.in_ok-new.field-0 ≡ fresh_worker c.len-core.result (bucket_hash o.shelf.run.key o.shelf.run.buckets) = c.in_ok-new.ensures.fresh ∙ (λ i. fresh_worker c.len-core.result (bucket_hash (run.0 i) (run.1 i))) in
    let cut : c.in_ok-split.field-0 ≡ record { home = o.shelf.home; history = fresh o.shelf.run.key o.shelf.run.buckets 1 } =
    subst (λ (p : SharedView). c.in_ok-split.field-0 ≡ record { home = p.shelf.home; history = fresh c.open_worker_parties.new.seat.history.key c.open_worker_parties.new.seat.history.buckets 1 }) c.shared.view_is c.in_ok-split.ensures.other
    ∙ (λ i. record { home = o.shelf.home; history = fresh (seat.key i) (seat.buckets i) 1 }) in
    let noted = subst (λ (p : SharedView). c.split-2.result ≡ record { home = p.meter.home; history = loads.fresh p.meter.cores }) c.shared.view_is c.split-2.ensures.other in (
      each_snoc (λ (i : ℕ) (p : WorkerParty (WorkerView (TableOf g.row.W-State.Denot)) (TableOf g.row.W-State.Denot)). (p.core ≡ i) × IsWorkerParty j o p) _ c.in_ok-worker_parties.worker_parties.items worker_party n pushed count c.in_ok-worker_parties.ensures.worker_parties.0 (
        k,
        new_worker_party j o c.len-core.result c.in_ok-new.field-0 m.taker c.in_ok-split.field-0 c.split-2.result m.pass new
            (subst (λ (i : ℕ). IsNewTaker o i m.taker) (sym k) (c.requires.takers n m.taker (last_at c.args.takers.items c.pop.new.self.items m.taker n ti refl)))
            cut noted (omega arith) (c.requires.cells n m.pass (last_at c.args.cells.items c.pop-2.new.self.items m.pass n ci (omega arith))),
      ),
      omega arith,
    )
