-- A run in threads whose parties have ended, as it is told.
use Rattle.std.proofs.Common.{◌≡◌, ℕ, ◌^◌, ◌<◌, ◌≤◌, false, List, [], length, map, All, Option, None, Some, sym, ap, ◌∙◌, subst, arith}
use Rattle.std.specs.Prelude.{slice_get, slice_index, IsPermutation}
use Rattle.std.specs.List.{flat_map}
use Rattle.std.specs.Io.KnownBytes.{IsAtEnd}
use Rattle.packet_fields.specs.declared.packet.PacketInfo.{PacketInfo}
use Rattle.bucket_table.specs.Table.{TableOf}
use Rattle.bucket_table.specs.declared.custody.Custody.{Custody}
use Rattle.indirection.specs.JournalView.{journal_view}
use Rattle.indirection.specs.Lawful.{IsLawful}
use Rattle.indirection.specs.Tries.{tries}
use Rattle.indirection.specs.Views.{TableView}
use Rattle.core_queue.specs.declared.history.LaneHistory.{LaneHistory}
use Rattle.core_queue.specs.Cells.{plain}
use Rattle.core_queue.specs.RuledLane.{AtLane, Noted}
use Rattle.handover_words.specs.declared.history.ShelfHistory.{ShelfHistory}
use Rattle.handover_words.specs.declared.history.Stretch.{Stretch}
use Rattle.handover_words.specs.Stands.{IsTableOf}
use Rattle.handover_words.specs.WordShelf.{ClosesShelf}
use Rattle.worker_loop.specs.WorkerState.{WorkerView}
use Rattle.worker_loop.specs.Workload.{Workload, workload}
use Rattle.dispatch_loop.specs.declared.dispatcher_end.DispatcherEnd.TheVariants.{AtEnd}
use Rattle.dispatch_loop.specs.declared.dispatcher_end.DispatcherEnd.{DispatcherEnd}
use Rattle.flow_work.specs.declared.work.TheConstants.{MOST_COST}
use Rattle.dispatch_loop.specs.Accepted.{IsAccepted}
use Rattle.dispatch_loop.specs.DispatcherState.{DispatcherState}
use Rattle.dispatch_loop.specs.Finished.{IsWhole}
use Rattle.dispatch_loop.specs.OptionsView.{OptionsView}
use Rattle.dispatch_loop.specs.Past.{past, parcels, IsFed, IsOver}
use Rattle.dispatch_loop.specs.Terms.{Terms, terms_of, cores_of, buckets_of, rules_of}
use Rattle.dispatch_loop.proofs.Starts.{sound, whole}
use Rattle.rsspp_run.specs.Custody.{AreTo, IsOrdered}
use Rattle.rsspp_run.specs.Ends.{log_in, worked_in, AreTablesOf}
use Rattle.rsspp_run.specs.OneTable.{AreAll}
use Rattle.rsspp_run.proofs.Serials.{all_read}
use Rattle.rsspp_run.proofs.Targets.{tries_to}
use Rattle.run_shifts.specs.Parties.{SharedView}
use Rattle.run_shifts.specs.WorkerParties.{AreWorkerParties, HaveEnded}
use Rattle.run_shifts.specs.declared.worker_party.WorkerParty.{WorkerParty}
use Rattle.threaded_run.specs.Parties.{HasRun}
use Rattle.threaded_run.specs.PartyLists.{sent_by, sent_in, taken_in, worker_in, taken_at, ended_at}
use Rattle.threaded_run.specs.Threaded.{stream_to, IsThreadedRun}
use Rattle.threaded_run.proofs.Cores.{IsSpent}
use Rattle.threaded_run.proofs.Ends as ends
use Rattle.threaded_run.proofs.Lists.{map_at}

-- the stream of the packets that were sent has ended so
pub over_then : (packets : Option (List PacketInfo)) (t : Terms) (bytes : Option (List ℕ)) (end : DispatcherEnd) (f : DispatcherState) (lanes : List LaneHistory) (left : Option (List ℕ)) → (h : HasRun packets t bytes end f lanes left) → IsOver t.packets (past bytes h.sent) None end left
over_then packets t bytes end f lanes left h =
    let fed = subst (λ (z : Option DispatcherEnd). IsFed f.terms.packets (past bytes h.sent) f.held z h.reader left) h.finished.ended h.tied.fed in
    subst (λ (z : Terms). IsOver z.packets (past bytes h.sent) None end left) h.terms (subst (λ (o : Option PacketInfo). IsOver f.terms.packets (past bytes h.sent) o end left) fed.held_is fed)

-- what has run, told by terms and by an end that are the same
pub run_as : (packets : Option (List PacketInfo)) (t t' : Terms) (bytes : Option (List ℕ)) (end end' : DispatcherEnd) (f : DispatcherState) (lanes : List LaneHistory) (left : Option (List ℕ)) → t ≡ t' → end ≡ end' → HasRun packets t bytes end f lanes left → HasRun packets t' bytes end' f lanes left
run_as packets t t' bytes end end' f lanes left p q h = subst (λ (z : Terms × DispatcherEnd). HasRun packets z.0 bytes z.1 f lanes left) (λ i. (p i, q i)) h

-- a party that has ended, on a shelf of the run
spent : {S : Type 0} (j : Workload S) (t : Terms) (place : SharedView) (ps : List (WorkerParty (WorkerView (TableOf S)) (TableOf S))) → AreWorkerParties j place ps → HaveEnded ps → place.shelf.run.buckets ≡ buckets_of t
    → (c : ℕ) (p : WorkerParty (WorkerView (TableOf S)) (TableOf S)) → slice_get ps c ≡ Some p → IsSpent t c p.worker.state p.taker.history.taken p.seat.history.ended
spent j t place ps are ended run c p at =
    let is = are c p at in let worker_party = is.1 in let done = worker_party.done (ended c p at) in record {
      core = worker_party.core ∙ is.0;
      buckets = ap (λ r. r.buckets) worker_party.run ∙ run;
      seat = done.seat;
      log = done.log;
      entries = worker_party.work.entries;
      worked = done.worked;
    }

module _ {S : Type 0} (opening : S) (after : S → PacketInfo → S) (cost : PacketInfo → ℕ) (cheap : (p : PacketInfo) → cost p ≤ MOST_COST) (packets : Option (List PacketInfo)) (o : OptionsView) (accepted : IsAccepted o) (place : SharedView) (bytes left : Option (List ℕ)) (f : DispatcherState) (senders : List AtLane) (ps : List (WorkerParty (WorkerView (TableOf S)) (TableOf S)))
    (h : HasRun packets (terms_of cost o) bytes AtEnd f (map (λ (a : AtLane). a.history) senders) left) (still : f.short ≡ false)
    (worker_parties : AreWorkerParties (workload opening after cost packets) place ps) (ended : HaveEnded ps) (of_run : place.shelf.run.buckets ≡ buckets_of (terms_of cost o)) (took : map taken_at ps ≡ sent_by senders) (many : length senders ≡ cores_of (terms_of cost o)) where
  is_whole : IsWhole (past bytes h.sent) f (map (λ (a : AtLane). a.history) senders) left
  is_whole = whole packets (past bytes h.sent) f (map (λ (a : AtLane). a.history) senders) h.shelf h.meter h.reader left h.tied h.finished.ended h.finished.all still

  pub all : AreAll o.packets bytes h.sent
  all = all_read o.packets bytes left h.sent (over_then packets (terms_of cost o) bytes AtEnd f (map (λ (a : AtLane). a.history) senders) left h)

  pub at_end : IsAtEnd left
  at_end = is_whole.read

  lawful : IsLawful (rules_of (terms_of cost o)) (parcels (terms_of cost o) h.sent) (journal_view f.journal)
  lawful = subst (λ (z : Terms). IsLawful (rules_of z) (parcels z h.sent) (journal_view f.journal)) h.terms is_whole.lawful

  under : length h.sent ≤ (terms_of cost o).packets
  under = subst (λ (z : Terms). length h.sent ≤ z.packets) h.terms h.tied.few

  few : length h.sent ≤ 2 ^ 32
  few = let n = under in let m = accepted.packets.1 in omega arith

  start_is : f.journal.start ≡ o.start
  start_is = h.tied.start ∙ ap (λ (z : Terms). z.start) h.terms

  owners : (b : ℕ) → b < buckets_of (terms_of cost o) → slice_index f.journal.start.owners b < cores_of (terms_of cost o)
  owners b near = subst (λ (z : TableView). slice_index z.owners b < o.start.cores) (sym start_is) (accepted.start.owners b 0 near)

  to : AreTo (cores_of (terms_of cost o)) (tries f.journal.entries)
  to = tries_to (terms_of cost o) (parcels (terms_of cost o) h.sent) (journal_view f.journal) (sound cost o cheap accepted) lawful

  sent : (c : ℕ) (s : AtLane) → slice_get senders c ≡ Some s → map plain s.history.sent ≡ stream_to (terms_of cost o) h.sent f.journal c
  sent c s at =
      let is = is_whole.sent c s.history (map_at (λ (a : AtLane). a.history) senders c s at) in
      is ∙ ap (λ (z : Terms). stream_to z h.sent f.journal c) h.terms

  are_spent : (c : ℕ) (p : WorkerParty (WorkerView (TableOf S)) (TableOf S)) → slice_get ps c ≡ Some p → IsSpent (terms_of cost o) c (worker_in p).state (taken_at p) (ended_at p)
  are_spent c p at = spent (workload opening after cost packets) (terms_of cost o) place ps worker_parties ended of_run c p at

  module _ (history : ShelfHistory) (tables : List (TableOf S)) (of_key : history.key ≡ o.key) (of_buckets : history.buckets ≡ buckets_of (terms_of cost o)) (gathered : history.ended ≡ flat_map ended_at ps)
      (closes : ClosesShelf (IsTableOf opening after packets) history [] tables) where
    pub tables_are : All (λ (u : TableOf S). u.short ≡ false) tables → AreTablesOf opening after packets (terms_of cost o) h.sent tables
    tables_are calm = ends.tables_are opening after packets (terms_of cost o) h.sent history tables of_key of_buckets closes calm
        (ends.table_lies (terms_of cost o) h.sent f.journal worker_in taken_at ended_at ps senders lawful few owners to many sent took are_spent (IsTableOf opening after packets) history tables of_buckets gathered closes)

    pub run_is : (custody : List Custody) (worked : List ℕ) (notes : List Noted) (ws : List (WorkerView (TableOf S))) (es : List Stretch)
        → ws ≡ map worker_in ps → All (λ (w : WorkerView (TableOf S)). w.state.short ≡ false) ws → IsOrdered custody → IsPermutation (flat_map log_in ws) custody → worked ≡ map worked_in ws
        → sent_in notes ≡ sent_by senders → taken_in notes ≡ sent_by senders → history.ended ≡ es → IsThreadedRun (terms_of cost o) h.sent f.journal custody worked notes (Some es)
    run_is custody worked notes ws es are calm ordered permuted counts sent_is taken_is same =
        subst (λ (z : List Stretch). IsThreadedRun (terms_of cost o) h.sent f.journal custody worked notes (Some z)) same
        (ends.threaded_run (terms_of cost o) h.sent f.journal worker_in taken_at ended_at ps senders lawful few owners to many sent took are_spent custody worked notes ws history.ended under are calm ordered permuted counts sent_is taken_is
        (ends.custodies (terms_of cost o) h.sent f.journal worker_in taken_at ended_at ps senders lawful few owners to many sent took are_spent (IsTableOf opening after packets) history tables of_buckets gathered closes))
