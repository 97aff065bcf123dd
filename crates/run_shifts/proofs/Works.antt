-- What a worker's turn keeps at ends that serve it alone.
use Rattle.std.proofs.Common.{◌≡◌, ◌∙◌, map, reverse, subst}
use Rattle.bucket_table.specs.Table.{TableOf}
use Rattle.worker_loop.specs.declared.worker_turn.WorkerTurn.{WorkerTurn}
use Rattle.worker_loop.specs.declared.worker_turn.WorkerTurn.TheVariants.{Ended}
use Rattle.worker_loop.specs.Workload.{Workload}
use Rattle.worker_loop.specs.Custodies.{stretch_of}
use Rattle.worker_loop.specs.Tied.{Tied}
use Rattle.worker_loop.specs.WorkerSnapshot.{WorkerSnapshot}
use Rattle.worker_loop.specs.Rules.{IsTurn}
use Rattle.worker_loop.proofs.Seats.{keeps_held, keeps_logged, over_held, keeps_core, keeps_shares}
use Rattle.worker_loop.proofs.CustodyLogs.{log_stinted, seat_stinted, over_stinted, turn_entries}
use Rattle.worker_loop.proofs.Promises.{all_worked}
use Rattle.run_shifts.specs.Work.{IsAtWork, IsDone}

module _ {S : Type 0} (j : Workload S) (s t : WorkerSnapshot (TableOf S)) (turn : WorkerTurn) where
  pub stays_at_work : IsAtWork j s.worker s.lane s.shelf s.meter → Tied j t.worker t.lane t.shelf t.meter → IsTurn j s turn t → IsAtWork j t.worker t.lane t.shelf t.meter
  stays_at_work w tied r = record {
    tied = tied;
    share = keeps_shares j s t turn r ∙ w.share;
    held = keeps_held j s t turn w.tied w.held r;
    logged = keeps_logged j s t turn w.logged r;
    seat = seat_stinted j s t turn w.tied r w.seat;
    log = log_stinted j s t turn w.tied r w.log;
    entries = turn_entries j s t turn w.tied r w.entries;
  }

  pub same_core_and_run : IsTurn j s turn t → (t.worker.core ≡ s.worker.core) × (t.worker.run ≡ s.worker.run)
  same_core_and_run r = keeps_core j s t turn r

module _ {S : Type 0} (j : Workload S) (s t : WorkerSnapshot (TableOf S)) where
  done : IsAtWork j s.worker s.lane s.shelf s.meter → IsAtWork j t.worker t.lane t.shelf t.meter → IsTurn j s Ended t → IsDone t.worker t.lane t.shelf
  done w w' r = let o = over_held j s t w.held r in record {
    took_end = o.0;
    none_parked = o.1;
    none_leaves = o.2;
    none_held = o.3;
    free = o.4;
    worked = all_worked j t.worker t.lane t.shelf t.meter w'.tied o.1;
    seat = λ b near. over_stinted t.worker t.lane.taken (reverse t.shelf.ended) b w'.seat o.1 o.2 o.3 near;
    log = λ fine b near. over_stinted t.worker t.lane.taken (map stretch_of t.worker.log) b (w'.log fine) o.1 o.2 o.3 near;
  }

  pub is_done : (turn : WorkerTurn) → turn ≡ Ended → IsAtWork j s.worker s.lane s.shelf s.meter → Tied j t.worker t.lane t.shelf t.meter → IsTurn j s turn t → IsDone t.worker t.lane t.shelf
  is_done turn is w tied r = done w (stays_at_work j s t turn w tied r) (subst (λ (x : WorkerTurn). IsTurn j s x t) is r)
