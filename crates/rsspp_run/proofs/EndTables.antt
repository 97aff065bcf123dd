-- The tables that a finished run leaves stand for the packets of their buckets.
use Rattle.std.proofs.Common.{◌≡◌, ◌≢◌, ℕ, ◌+◌, ◌*◌, ◌<◌, ◌==◌, false, List, [], ◌∷◌, map, length, get_or, count_by, Option, Some, None, refl, sym, ap, subst, arith, All, if◌then◌else◌, ◌∙◌}
use Rattle.std.specs.Prelude.{slice_get, unwrap_or}
use Rattle.std.proofs.lemmas.Option.{slice_get_within, unwrap_or-slice_get}
use Rattle.std.proofs.lemmas.List.Sums.{sum_by-cons}
use Rattle.toeplitz.specs.declared.key.Key.{Key}
use Rattle.bucket_table.specs.Table.{TableOf}
use Rattle.packet_fields.specs.declared.packet.PacketInfo.{PacketInfo}
use Rattle.pcap_reader.specs.Reading.{Reading}
use Rattle.indirection.specs.Story.{Parcel, count_in}
use Rattle.handover_core.specs.Promises.{total}
use Rattle.handover_core.proofs.Done.{finished-done}
use Rattle.handover_words.specs.LocalShelf.{Closes}
use Rattle.handover_words.specs.Stands.{IsTableOf}
use Rattle.handover_words.specs.Stock.{Stock, stock}
use Rattle.core_queue.specs.Local.{new_lane}
use Rattle.worker_loop.specs.Workload.{workload}
use Rattle.dispatch_loop.specs.declared.dispatcher_end.DispatcherEnd.{DispatcherEnd}
use Rattle.dispatch_loop.specs.DispatcherState.{DispatcherState}
use Rattle.dispatch_loop.specs.Past.{parcels}
use Rattle.dispatch_loop.specs.Terms.{Terms, buckets_of}
use Rattle.rsspp_run.specs.LocalRun.{LocalRunView, lane_at, AreWorkersAt}
use Rattle.rsspp_run.specs.Goes.{bucket_in}
use Rattle.rsspp_run.specs.Sweeps.{HasEnded}
use Rattle.rsspp_run.specs.Ends.{AreTablesOf}
use Rattle.rsspp_run.proofs.AtEnd.{all_lie}
use Rattle.rsspp_run.proofs.BesideWorkers.{lane_is}
use Rattle.rsspp_run.proofs.DispatcherTries.{stock_or}

all_at : {A : Type 0} (P : A → Type 0) (xs : List A) (b : ℕ) (x : A) → All P xs → slice_get xs b ≡ Some x → P x
all_at {A} P xs b x h e = subst P (sym (unwrap_or-slice_get xs b x) ∙ ap (λ (o : Option A). unwrap_or o x) e) (h b x (slice_get_within xs b x e))

count_there : (b : ℕ) (ps : List Parcel) → count_by (λ (x : ℕ). x == b) (map bucket_in ps) ≡ count_in b ps
count_there b [] = refl
count_there b (p ∷ ps) =
    sum_by-cons (λ (x : ℕ). if x == b then 1 else 0) p.bucket (map bucket_in ps)
    ∙ (ap (λ (n : ℕ). (if p.bucket == b then 1 else 0) + n) (count_there b ps) ∙ sym (sum_by-cons (λ (q : Parcel). if q.bucket == b then 1 else 0) p ps))

module _ {S : Type 0} (opening : S) (after : S → PacketInfo → S) (cost : PacketInfo → ℕ) (packets : Option (List PacketInfo)) (t : Terms) (pool number : ℕ) (bytes : Option (List ℕ)) (end : DispatcherEnd) (d : DispatcherState) (f : LocalRunView (TableOf S)) (reader : Reading) (left : Option (List ℕ))
    (h : HasEnded packets (workload opening after cost packets) t pool number bytes end d f reader left) where
  are : AreWorkersAt (workload opening after cost packets) h.state f
  are = h.by.at.workers

  some_core : 0 < length h.state.machine.cores
  some_core = let n = h.by.at.dispatcher.cores in let k = h.tied.tied.sound.table.some_core in omega arith

  key_is : f.shelf.history.key ≡ t.key
  key_is =
      let u = are.each 0 some_core in
      let lane = h.tied.tied.sent.each 0 (lane_at f 0).history (lane_is f.lanes 0 (new_lane f.key 0 0) (let n = are.lanes in let s = some_core in omega arith)) in
      u.tied.shelf_key ∙ (sym u.tied.lane_key ∙ (lane.key ∙ ap (λ (z : Terms). z.key) h.tied.terms))

  pub buckets_is : f.shelf.history.buckets ≡ buckets_of t
  buckets_is = h.tied.tied.words ∙ ap buckets_of h.tied.terms

  pub homes_lie : (b : ℕ) → b < length f.shelf.homes → get_or f.shelf.homes b None ≢ None
  homes_lie b lt =
      let u = are.each 0 some_core in
      let same : stock f.shelf.words f.shelf.homes ≡ u.shows.stock = ap stock_or u.shows.stock_is in
      let n = ap (λ (z : Stock (TableOf S)). length z.homes) same in let w = u.shows.wide.1 in
      all_lie (workload opening after cost packets) h.state f are h.finished b (omega arith)

  word_is : (b : ℕ) → b < length h.state.machine.buckets → get_or f.shelf.words b 0 ≡ 2 * total h.state.machine b + 1
  word_is b near =
      let u = are.each 0 some_core in
      let same : stock f.shelf.words f.shelf.homes ≡ u.shows.stock = ap stock_or u.shows.stock_is in
      ap (λ (z : Stock (TableOf S)). get_or z.words b 0) same ∙ (sym (u.shows.words b near) ∙ (finished-done h.state.machine are.sound h.finished).words b near)

  total_is : (b : ℕ) → total h.state.machine b ≡ count_in b (parcels t h.sent)
  total_is b = ap (λ (z : List ℕ). count_by (λ (x : ℕ). x == b) z) h.by.is_of.packets_are ∙ count_there b (parcels t h.sent)

  pub tables_stand : (ts : List (TableOf S)) → Closes (IsTableOf opening after packets) f.shelf [] ts → All (λ (u : TableOf S). u.short ≡ false) ts → AreTablesOf opening after packets t h.sent ts
  tables_stand ts closes calm =
      let same : ts ≡ closes.tables = closes.appended in record {
        count = ap (λ (z : List (TableOf S)). length z) same ∙ (closes.count ∙ buckets_is);
        each = λ b table is.
            let is' : slice_get closes.tables b ≡ Some table = sym (ap (λ (z : List (TableOf S)). slice_get z b) same) ∙ is in
            let lt = slice_get_within closes.tables b table is' in
            let near : b < length h.state.machine.buckets = (let c = closes.count in let k = buckets_is in let n = h.by.at.dispatcher.buckets in let q = ap buckets_of h.tied.terms in omega arith) in
            let lies = closes.lie b table is' in
            let word = lies.1 in let w = word_is b near in let k = total_is b in
            let s : lies.0 ≡ count_in b (parcels t h.sent) = omega arith in (
              subst (λ (n : ℕ). IsTableOf opening after packets t.key (buckets_of t) b n table) s
                  (subst (λ (n : ℕ). IsTableOf opening after packets t.key n b lies.0 table) buckets_is
                  (subst (λ (z : Key). IsTableOf opening after packets z f.shelf.history.buckets b lies.0 table) key_is lies.2)),
              all_at (λ (u : TableOf S). u.short ≡ false) ts b table calm is,
            );
      }
