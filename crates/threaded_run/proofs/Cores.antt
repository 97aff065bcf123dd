-- What a core leaves, and what all cores together tell of a journal.
use Rattle.std.proofs.Common.{◌≡◌, ℕ, ◌+◌, ◌^◌, ◌<◌, ◌≤◌, false, List, length, map, get_or, reverse, All, Some, sym, ap, ◌∙◌, subst, arith}
use Rattle.std.specs.Prelude.{slice_get, slice_index, count_by, IsPermutation}
use Rattle.std.specs.List.{flat_map, range_with_len}
use Rattle.std.proofs.lemmas.Option.{slice_get-get_or}
use Rattle.std.proofs.lemmas.List.{length-map}
use Rattle.packet_fields.specs.declared.packet.PacketInfo.{PacketInfo}
use Rattle.bucket_table.specs.Table.{TableOf}
use Rattle.bucket_table.specs.declared.custody.Custody.{Custody}
use Rattle.indirection.specs.JournalView.{JournalState, journal_view}
use Rattle.indirection.specs.Tries.{tries}
use Rattle.indirection.specs.Story.{count_in}
use Rattle.indirection.specs.Lawful.{IsLawful, IsLawfulSoFar}
use Rattle.handover_core.specs.Spans.{spans_in, spans_at}
use Rattle.handover_core.proofs.SpanStints.{stream_spans}
use Rattle.core_queue.specs.declared.item.Seen.{Seen}
use Rattle.core_queue.specs.Cells.{plain}
use Rattle.handover_words.specs.declared.history.Stretch.{Stretch}
use Rattle.handover_words.specs.ShelfRule.{JoinsTo}
use Rattle.handover_words.specs.SortedSpans as shelf
use Rattle.worker_loop.specs.Counts.{more, packets_taken}
use Rattle.worker_loop.specs.Custodies.{AreEntries, ended_spans, stretch_of}
use Rattle.worker_loop.specs.WorkerState.{WorkerState, WorkerView}
use Rattle.worker_loop.specs.Fresh.{fresh_worker}
use Rattle.toeplitz.specs.Bucket.{bucket_hash}
use Rattle.worker_loop.specs.Schedule.{is_packet}
use Rattle.dispatch_loop.specs.Past.{parcels, parcel_of}
use Rattle.dispatch_loop.specs.Terms.{Terms, cores_of, buckets_of, rules_of}
use Rattle.rsspp_run.specs.Custody.{AreTo, IsOrdered, all_logs, custody_upto, stint_span}
use Rattle.rsspp_run.specs.Ends.{log_in, worked_in}
use Rattle.rsspp_run.proofs.CustodySorts.{in_order}
use Rattle.rsspp_run.proofs.CustodyLists.{logs_list}
use Rattle.threaded_run.specs.Threaded.{stream_to, streams, stints_in, packets_for}
use Rattle.threaded_run.proofs.Counts.{taken_packets, stream_packets}
use Rattle.threaded_run.proofs.Lists.{each_range, at_map, map_twice}
use Rattle.threaded_run.proofs.Notes.{bucket_note}

-- the worker of a core that has ended, with what its lane's end took and the custodies that its seat ended
pub record IsSpent {S : Type 0} (t : Terms) (c : ℕ) (w : WorkerState (TableOf S)) (taken : List Seen) (ended : List Stretch) : Type 0 where
  pub core : w.core ≡ c
  pub buckets : w.run.buckets ≡ buckets_of t
  pub seat : (b : ℕ) → b < w.run.buckets → ended_spans b (reverse ended) ≡ spans_in b (map plain taken)
  pub log : w.short ≡ false → (b : ℕ) → b < w.run.buckets → ended_spans b (map stretch_of w.log) ≡ spans_in b (map plain taken)
  pub entries : AreEntries w.core w.run.buckets w.log
  pub worked : w.worked ≡ more 0 (packets_taken taken)

module _ {S : Type 0} (t : Terms) (all : List PacketInfo) (journal : JournalState) (lawful : IsLawfulSoFar (rules_of t) (parcels t all) (journal_view journal))
    (c : ℕ) (w : WorkerState (TableOf S)) (taken : List Seen) (ended : List Stretch) (h : IsSpent t c w taken ended) (is : map plain taken ≡ stream_to t all journal c) where
  stints_of : (b : ℕ) → spans_in b (map plain taken) ≡ spans_at c (stints_in t all journal b)
  stints_of b = ap (spans_in b) is ∙ stream_spans (rules_of t) (parcels t all) (journal_view journal) (cores_of t) b c lawful

  -- its seat ended the stints of each bucket that it has
  pub seat_stints : (b : ℕ) → b < buckets_of t → ended_spans b (reverse ended) ≡ spans_at c (stints_in t all journal b)
  seat_stints b near = h.seat b (let e = h.buckets in omega arith) ∙ stints_of b

  -- and so its log has, unless it is short
  pub log_stints : w.short ≡ false → (b : ℕ) → b < buckets_of t → ended_spans b (map stretch_of w.log) ≡ spans_at c (stints_in t all journal b)
  log_stints fine b near = h.log fine b (let e = h.buckets in omega arith) ∙ stints_of b

  -- it worked the packets of its stream
  pub stream_worked : length all ≤ 2 ^ 32 → w.worked ≡ count_by is_packet (stream_to t all journal c)
  stream_worked few =
      let k = h.worked in let p = taken_packets taken ∙ ap (count_by is_packet) is in
      let s = stream_packets c (cores_of t) (parcels t all) (journal_view journal) in let l = length-map all (parcel_of t) in omega arith

module _ {S X : Type 0} (t : Terms) (all : List PacketInfo) (journal : JournalState) (worker : X → WorkerView (TableOf S)) (taken : X → List Seen) (ended : X → List Stretch) (ps : List X)
    (lawful : IsLawful (rules_of t) (parcels t all) (journal_view journal)) (few : length all ≤ 2 ^ 32) (wide : length ps ≡ cores_of t)
    (owners : (b : ℕ) → b < buckets_of t → slice_index journal.start.owners b < cores_of t) (to : AreTo (cores_of t) (tries journal.entries))
    (each : (c : ℕ) (p : X) → slice_get ps c ≡ Some p → IsSpent t c (worker p).state (taken p) (ended p) × (map plain (taken p) ≡ stream_to t all journal c)) where
  -- the custodies that were ended on the shelf, and how many packets each bucket has
  pub noted : (b done : ℕ) (es : List Stretch) → b < buckets_of t → es ≡ flat_map ended ps → JoinsTo (shelf.sorted_spans b es) done
      → (reverse (shelf.sorted_spans b es) ≡ map stint_span (stints_in t all journal b)) × (done ≡ count_in b (parcels t all))
  noted b done es near is joins =
      bucket_note (rules_of t) (parcels t all) (journal_view journal) (cores_of t) b done ended ps es lawful.so_far (owners b near) to joins is wide
      (λ c p at. let k = each c p at in seat_stints t all journal lawful.so_far c (worker p).state (taken p) (ended p) k.0 k.1 b near)

  -- how many packets each core worked
  pub counts : map (λ (p : X). worked_in (worker p)) ps ≡ packets_for (streams t all journal)
  counts =
      each_range (λ (p : X). worked_in (worker p)) (λ c. count_by is_packet (stream_to t all journal c)) ps 0
      (λ c p at. let k = each c p at in stream_worked t all journal lawful.so_far c (worker p).state (taken p) (ended p) k.0 k.1 few ∙ ap (λ (n : ℕ). count_by is_packet (stream_to t all journal n)) (let q : c ≡ 0 + c = omega arith in q))
      ∙ (ap (λ n. map (λ c. count_by is_packet (stream_to t all journal c)) (range_with_len 0 n)) wide ∙ sym (map_twice (count_by is_packet) (stream_to t all journal) (range_with_len 0 (cores_of t))))

  -- the logs of all workers, in order by bucket and place
  module _ (ws : List (WorkerView (TableOf S))) (are : ws ≡ map worker ps) (calm : All (λ (w : WorkerView (TableOf S)). w.state.short ≡ false) ws) where
    abbrev none : WorkerView (TableOf S)
    none = fresh_worker 0 (bucket_hash t.key 0)

    abbrev log_at : ℕ → List Custody
    log_at c = log_in (get_or ws c none)

    many : length ws ≡ cores_of t
    many = ap length are ∙ (length-map ps worker ∙ wide)

    party : (c : ℕ) → c < cores_of t → (p : X) × (slice_get ps c ≡ Some p) × (worker p ≡ get_or ws c none)
    party c near = at_map worker ps c (get_or ws c none) (ap (λ (l : List (WorkerView (TableOf S))). slice_get l c) (sym are) ∙ slice_get-get_or ws c none (let n = many in omega arith))

    entries_at : (c : ℕ) → c < cores_of t → AreEntries c (buckets_of t) (log_at c)
    entries_at c near =
        let p = party c near in let k = (each c p.0 p.1).0 in
        subst (λ (w : WorkerView (TableOf S)). AreEntries c (buckets_of t) (log_in w)) p.2
        (subst (λ (z : ℕ × ℕ). AreEntries z.0 z.1 (log_in (worker p.0))) (λ i. (k.core i, k.buckets i)) k.entries)

    split_at : (c b : ℕ) → c < cores_of t → b < buckets_of t → ended_spans b (map stretch_of (log_at c)) ≡ spans_at c (stints_in t all journal b)
    split_at c b near in_run =
        let p = party c near in let k = each c p.0 p.1 in
        let fine : (worker p.0).state.short ≡ false = ap (λ (w : WorkerView (TableOf S)). w.state.short) p.2 ∙ calm c none (let n = many in omega arith) in
        ap (λ (w : WorkerView (TableOf S)). ended_spans b (map stretch_of (log_in w))) (sym p.2) ∙ log_stints t all journal lawful.so_far c (worker p.0).state (taken p.0) (ended p.0) k.0 k.1 fine b in_run

    pub custody : (cs : List Custody) → IsOrdered cs → IsPermutation (flat_map log_in ws) cs → cs ≡ custody_upto (stints_in t all journal) (buckets_of t)
    custody cs ordered same =
        in_order (rules_of t) (parcels t all) (journal_view journal) (cores_of t) (buckets_of t) log_at lawful.so_far owners to entries_at split_at cs ordered
        (subst (λ (l : List Custody). IsPermutation l cs) (sym (logs_list log_in none ws) ∙ ap (all_logs log_at) many) same)
