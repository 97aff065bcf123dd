-- The custody of a run that has ended is that of its journal.
use Rattle.std.proofs.Common.{◌≡◌, ℕ, ◌<◌, ◌++◌, false, List, map, length, get_or, flat_map, Option, sym, ap, ◌∙◌, subst, arith}
use Rattle.std.specs.Prelude.{IsPermutation, slice_index}
use Rattle.bucket_table.specs.Table.{TableOf}
use Rattle.bucket_table.specs.declared.custody.Custody.{Custody}
use Rattle.packet_fields.specs.declared.packet.PacketInfo.{PacketInfo}
use Rattle.pcap_reader.specs.Reading.{Reading}
use Rattle.core_queue.specs.Cells.{plain}
use Rattle.core_queue.specs.Local.{new_lane}
use Rattle.indirection.specs.JournalView.{journal_view}
use Rattle.indirection.specs.Lawful.{IsLawful}
use Rattle.indirection.specs.Stints.{stints}
use Rattle.indirection.specs.Story.{told}
use Rattle.handover_core.specs.Dispatch.{stream, dispatched, dispatches, ends}
use Rattle.handover_core.specs.Spans.{spans_in, spans_at}
use Rattle.handover_core.proofs.Done.{finished-done}
use Rattle.handover_core.proofs.SpanStints.{stream_spans}
use Rattle.worker_loop.specs.Custodies.{AreEntries, ended_spans, stretch_of}
use Rattle.worker_loop.specs.Fresh.{fresh_worker}
use Rattle.toeplitz.specs.Bucket.{bucket_hash}
use Rattle.worker_loop.specs.Workload.{Workload}
use Rattle.worker_loop.proofs.CustodyLogs.{over_stinted}
use Rattle.worker_loop.proofs.InLine.{line_empty}
use Rattle.dispatch_loop.specs.declared.dispatcher_end.DispatcherEnd.TheVariants.{AtEnd}
use Rattle.dispatch_loop.specs.DispatcherState.{DispatcherState}
use Rattle.dispatch_loop.specs.Past.{past, parcels}
use Rattle.dispatch_loop.specs.Terms.{Terms, IsSound, buckets_of, cores_of, rules_of}
use Rattle.dispatch_loop.proofs.Starts.{whole}
use Rattle.rsspp_run.specs.Custody.{AreTo, IsOrdered, all_logs, custody_upto}
use Rattle.rsspp_run.specs.Ends.{log_in}
use Rattle.rsspp_run.specs.LocalRun.{LocalRunView, AreWorkersAt, history_of, lane_at, worker_at}
use Rattle.rsspp_run.specs.Serial.{by_place}
use Rattle.rsspp_run.specs.Sweeps.{HasEnded}
use Rattle.rsspp_run.proofs.BesideWorkers.{lane_is}
use Rattle.rsspp_run.proofs.CustodyLists.{logs_list}
use Rattle.rsspp_run.proofs.CustodySorts.{in_order, placed}
use Rattle.rsspp_run.proofs.Overs.{worker_over}
use Rattle.rsspp_run.proofs.Targets.{tries_to}

module _ {S : Type 0} (packets : Option (List PacketInfo)) (x : Workload S) (t : Terms) (pool number : ℕ) (bytes : Option (List ℕ)) (d : DispatcherState) (f : LocalRunView (TableOf S)) (reader : Reading) (left : Option (List ℕ)) (h : HasEnded packets x t pool number bytes AtEnd d f reader left)
    (still : d.short ≡ false) (calm : (c : ℕ) → c < length f.workers → (worker_at f c).state.short ≡ false) where
  are : AreWorkersAt x h.state f
  are = h.by.at.workers

  -- the journal is that of the run's terms, and lawful
  pub lawful_is : IsLawful (rules_of t) (parcels t h.sent) (journal_view d.journal)
  lawful_is = subst (λ (z : Terms). IsLawful (rules_of z) (parcels z h.sent) (journal_view d.journal)) h.tied.terms
      (whole packets (past bytes h.sent) d (map history_of f.lanes) f.shelf.history f.meter.history reader left h.tied.tied h.end_is (h.ends ∙ sym (ap cores_of h.tied.terms)) still).lawful

  sound_is : IsSound t
  sound_is = subst IsSound h.tied.terms h.tied.tied.sound

  many : length h.state.machine.cores ≡ cores_of t
  many = h.by.at.dispatcher.cores ∙ ap cores_of h.tied.terms

  start_is : d.journal.start.owners ≡ t.start.owners
  start_is = ap (λ z. z.owners) h.tied.tied.start ∙ ap (λ (z : Terms). z.start.owners) h.tied.terms

  -- what a lane was sent is what the journal sends to its core
  sent_is : (c : ℕ) → c < length h.state.machine.cores → map plain (lane_at f c).history.sent ≡ stream c (dispatches (cores_of t) (parcels t h.sent) (journal_view d.journal))
  sent_is c near =
      (h.tied.tied.sent.each c (lane_at f c).history (lane_is f.lanes c (new_lane f.key 0 0) (let n = are.lanes in omega arith))).sent
      ∙ (λ i. stream c (dispatched (sym (ap (λ z. z.owners) h.tied.tied.start) i) (told 0 (parcels (h.tied.terms i) h.sent) d.journal.entries) ++ ends (h.ends i)))

  -- all of it was taken
  taken_is : (c : ℕ) → c < length h.state.machine.cores → map plain (lane_at f c).history.taken ≡ stream c (dispatches (cores_of t) (parcels t h.sent) (journal_view d.journal))
  taken_is c near = let u = are.each c near in
      sym u.shows.taken ∙ ((finished-done h.state.machine are.sound h.finished).taken c ∙ (sym u.sent ∙ sent_is c near))

  wide : (c : ℕ) → c < length h.state.machine.cores → (worker_at f c).state.run.buckets ≡ buckets_of t
  wide c near = let u = are.each c near in sym u.shows.buckets ∙ (h.by.at.dispatcher.buckets ∙ ap buckets_of h.tied.terms)

  log_at : ℕ → List Custody
  log_at c = (worker_at f c).state.log

  entries_at : (c : ℕ) → c < cores_of t → AreEntries c (buckets_of t) (log_at c)
  unfolding log_at
  entries_at c lt = let near : c < length h.state.machine.cores = (let m = many in omega arith) in let u = are.each c near in
      subst (λ (y : ℕ × ℕ). AreEntries y.0 y.1 (worker_at f c).state.log) (λ i. (u.shows.is_core i, wide c near i)) u.entries

  spans_are : (c b : ℕ) → c < cores_of t → b < buckets_of t → ended_spans b (map stretch_of (log_at c)) ≡ spans_at c (stints (journal_view d.journal) (parcels t h.sent) b)
  unfolding log_at
  spans_are c b lt near = let m = many in let in_range : c < length h.state.machine.cores = omega arith in let n = are.workers in
      let u = are.each c in_range in let o = worker_over x h.state f are h.finished c in_range in let w = wide c in_range in
      over_stinted (worker_at f c).state (lane_at f c).history.taken (map stretch_of (worker_at f c).state.log) b (u.spans (calm c (omega arith))) (line_empty (worker_at f c).state.lot u.tied.line o.none_waits) o.none_leaves o.none_held (omega arith)
      ∙ (ap (spans_in b) (taken_is c in_range) ∙ stream_spans (rules_of t) (parcels t h.sent) (journal_view d.journal) (cores_of t) b c lawful_is.so_far)

  owners_near : (b : ℕ) → b < buckets_of t → slice_index (journal_view d.journal).start b < cores_of t
  owners_near b near = subst (λ (os : List ℕ). get_or os b 0 < cores_of t) (sym start_is) (sound_is.table.owners b 0 near)

  to_cores : AreTo (cores_of t) (Rattle.indirection.specs.Tries.tries d.journal.entries)
  to_cores = tries_to t (parcels t h.sent) (journal_view d.journal) sound_is lawful_is

  logs_are : all_logs log_at (cores_of t) ≡ flat_map log_in f.workers
  unfolding log_at
  logs_are = ap (all_logs (λ c. (worker_at f c).state.log)) (sym (are.workers ∙ many)) ∙ logs_list log_in (fresh_worker 0 (bucket_hash f.key 0)) f.workers

  -- the logs by bucket and place, whichever sort puts them so
  pub ordered_is : (cs : List Custody) → IsOrdered cs → IsPermutation (flat_map log_in f.workers) cs → cs ≡ custody_upto (stints (journal_view d.journal) (parcels t h.sent)) (buckets_of t)
  ordered_is cs o p = in_order (rules_of t) (parcels t h.sent) (journal_view d.journal) (cores_of t) (buckets_of t) log_at lawful_is.so_far owners_near to_cores entries_at spans_are cs o
      (subst (λ (ls : List Custody). IsPermutation ls cs) (sym logs_are) p)

  pub placed_is : by_place (flat_map log_in f.workers) ≡ custody_upto (stints (journal_view d.journal) (parcels t h.sent)) (buckets_of t)
  placed_is = ap by_place (sym logs_are) ∙ placed (rules_of t) (parcels t h.sent) (journal_view d.journal) (cores_of t) (buckets_of t) log_at lawful_is.so_far owners_near to_cores entries_at spans_are
