-- What a run in threads leaves, put together.
use Rattle.std.proofs.Common.{◌≡◌, ℕ, zero, suc, ◌+◌, ◌^◌, ◌<◌, ◌≤◌, false, List, [], ◌∷◌, length, map, reverse, All, Option, Some, refl, sym, ap, ◌∙◌, subst, arith}
use Rattle.std.specs.Prelude.{slice_get, slice_index, IsPermutation}
use Rattle.std.specs.List.{flat_map, range_with_len}
use Rattle.std.proofs.lemmas.Option.{slice_get_within, get_or_from_slice_get}
use Rattle.packet_fields.specs.declared.packet.PacketInfo.{PacketInfo}
use Rattle.toeplitz.specs.declared.key.Key.{Key}
use Rattle.bucket_table.specs.Table.{TableOf}
use Rattle.bucket_table.specs.declared.custody.Custody.{Custody}
use Rattle.indirection.specs.JournalView.{JournalState, journal_view}
use Rattle.indirection.specs.Tries.{tries}
use Rattle.indirection.specs.Story.{count_in}
use Rattle.indirection.specs.Lawful.{IsLawful}
use Rattle.core_queue.specs.declared.item.Seen.{Seen}
use Rattle.core_queue.specs.Cells.{plain}
use Rattle.core_queue.specs.RuledLane.{AtLane, Noted}
use Rattle.handover_words.specs.declared.history.Stretch.{Stretch}
use Rattle.handover_words.specs.declared.history.ShelfHistory.{ShelfHistory}
use Rattle.handover_words.specs.Stands.{IsTableOf}
use Rattle.handover_words.specs.SortedSpans as shelf
use Rattle.handover_words.specs.WordShelf.{ClosesShelf}
use Rattle.worker_loop.specs.WorkerState.{WorkerView}
use Rattle.dispatch_loop.specs.Past.{parcels}
use Rattle.dispatch_loop.specs.Terms.{Terms, cores_of, buckets_of, rules_of}
use Rattle.rsspp_run.specs.Custody.{AreTo, IsOrdered, stint_span}
use Rattle.rsspp_run.specs.Ends.{log_in, worked_in, AreTablesOf}
use Rattle.threaded_run.specs.Threaded.{stream_to, streams, stints_in, IsThreadedRun}
use Rattle.threaded_run.proofs.Cores as cores
use Rattle.threaded_run.proofs.Cores.{IsSpent}
use Rattle.threaded_run.proofs.Lists.{each_range, at_same, same_long, map_twice}

all_at : {A : Type 0} (P : A → Type 0) (xs : List A) (b : ℕ) (x : A) → All P xs → slice_get xs b ≡ Some x → P x
all_at {A} P xs b x h at = subst P (get_or_from_slice_get xs b x x at) (h b x (slice_get_within xs b x at))

inhabited : {A : Type 0} (xs : List A) (b : ℕ) → b < length xs → (x : A) × (slice_get xs b ≡ Some x)
inhabited [] b near = absurd (omega arith)
inhabited (x ∷ xs) zero near = (x, refl)
inhabited (x ∷ xs) (suc b) near = inhabited xs b (omega arith)

module _ {S X : Type 0} (t : Terms) (all : List PacketInfo) (journal : JournalState) (worker : X → WorkerView (TableOf S)) (taken : X → List Seen) (ended : X → List Stretch) (ps : List X) (senders : List AtLane)
    (lawful : IsLawful (rules_of t) (parcels t all) (journal_view journal)) (few : length all ≤ 2 ^ 32)
    (owners : (b : ℕ) → b < buckets_of t → slice_index journal.start.owners b < cores_of t) (to : AreTo (cores_of t) (tries journal.entries))
    (lanes : length senders ≡ cores_of t) (sent : (c : ℕ) (s : AtLane) → slice_get senders c ≡ Some s → map plain s.history.sent ≡ stream_to t all journal c)
    (took : map taken ps ≡ map (λ (s : AtLane). s.history.sent) senders)
    (spent : (c : ℕ) (p : X) → slice_get ps c ≡ Some p → IsSpent t c (worker p).state (taken p) (ended p)) where
  wide : length ps ≡ cores_of t
  wide = same_long taken (λ (s : AtLane). s.history.sent) ps senders took ∙ lanes

  each : (c : ℕ) (p : X) → slice_get ps c ≡ Some p → IsSpent t c (worker p).state (taken p) (ended p) × (map plain (taken p) ≡ stream_to t all journal c)
  each c p at = let s = at_same taken (λ (s : AtLane). s.history.sent) ps senders c p took at in (spent c p at, ap (map plain) (sym s.2) ∙ sent c s.0 s.1)

  noted_streams : (f : Noted → List Seen) (notes : List Noted) → map f notes ≡ map (λ (s : AtLane). s.history.sent) senders → map (λ (n : Noted). map plain (f n)) notes ≡ streams t all journal
  noted_streams f notes is =
      each_range (λ (n : Noted). map plain (f n)) (stream_to t all journal) notes 0
      (λ c n at. let s = at_same f (λ (s : AtLane). s.history.sent) notes senders c n is at in ap (map plain) (sym s.2) ∙ (sent c s.0 s.1 ∙ ap (stream_to t all journal) (let q : c ≡ 0 + c = omega arith in q)))
      ∙ ap (λ n. map (stream_to t all journal) (range_with_len 0 n)) (same_long f (λ (s : AtLane). s.history.sent) notes senders is ∙ lanes)

  module _ (lies : Key → ℕ → ℕ → ℕ → TableOf S → Type 0) (history : ShelfHistory) (tables : List (TableOf S)) (of_buckets : history.buckets ≡ buckets_of t) (gathered : history.ended ≡ flat_map ended ps) (closes : ClosesShelf lies history [] tables) where
    lying : (b : ℕ) → b < buckets_of t → (table : TableOf S) × (slice_get closes.tables b ≡ Some table)
    lying b near = inhabited closes.tables b (let c = closes.count in let k = of_buckets in omega arith)

    pub custodies : (b : ℕ) → b < buckets_of t → reverse (shelf.sorted_spans b history.ended) ≡ map stint_span (stints_in t all journal b)
    custodies b near =
        let l = lying b near in let h = closes.lie b l.0 l.1 in
        (cores.noted t all journal worker taken ended ps lawful few wide owners to each b h.0 history.ended near gathered h.2).0

    pub table_lies : (b : ℕ) (table : TableOf S) → slice_get tables b ≡ Some table → lies history.key history.buckets b (count_in b (parcels t all)) table
    table_lies b table at =
        let at' : slice_get closes.tables b ≡ Some table = ap (λ (l : List (TableOf S)). slice_get l b) (sym closes.appended) ∙ at in
        let h = closes.lie b table at' in
        let near : b < buckets_of t = (let l = slice_get_within closes.tables b table at' in let c = closes.count in let k = of_buckets in omega arith) in
        let n = cores.noted t all journal worker taken ended ps lawful few wide owners to each b h.0 history.ended near gathered h.2 in
        subst (λ (done : ℕ). lies history.key history.buckets b done table) n.1 h.1

  pub threaded_run : (custody : List Custody) (worked : List ℕ) (notes : List Noted) (ws : List (WorkerView (TableOf S))) (es : List Stretch)
      → length all ≤ t.packets → ws ≡ map worker ps → All (λ (w : WorkerView (TableOf S)). w.state.short ≡ false) ws → IsOrdered custody → IsPermutation (flat_map log_in ws) custody → worked ≡ map worked_in ws
      → map (λ (n : Noted). n.sent) notes ≡ map (λ (s : AtLane). s.history.sent) senders → map (λ (n : Noted). n.taken) notes ≡ map (λ (s : AtLane). s.history.sent) senders
      → ((b : ℕ) → b < buckets_of t → reverse (shelf.sorted_spans b es) ≡ map stint_span (stints_in t all journal b)) → IsThreadedRun t all journal custody worked notes (Some es)
  threaded_run custody worked notes ws es under are calm ordered permuted counts sent_is taken_is on_shelf = record {
    few = under;
    lawful = lawful;
    sent = noted_streams (λ (n : Noted). n.sent) notes sent_is;
    taken = noted_streams (λ (n : Noted). n.taken) notes taken_is;
    ended = es;
    shelf_is = refl;
    custodies = on_shelf;
    custody_is = cores.custody t all journal worker taken ended ps lawful few wide owners to each ws are calm custody ordered permuted;
    worked_is = counts ∙ (ap (map worked_in) are ∙ (map_twice worked_in worker ps ∙ cores.counts t all journal worker taken ended ps lawful few wide owners to each));
  }

-- the tables that come out of the shelf
pub tables_are : {S : Type 0} (opening : S) (after : S → PacketInfo → S) (packets : Option (List PacketInfo)) (t : Terms) (all : List PacketInfo) (history : ShelfHistory) (tables : List (TableOf S))
    → history.key ≡ t.key → history.buckets ≡ buckets_of t → ClosesShelf (IsTableOf opening after packets) history [] tables → All (λ (u : TableOf S). u.short ≡ false) tables
    → ((b : ℕ) (table : TableOf S) → slice_get tables b ≡ Some table → IsTableOf opening after packets history.key history.buckets b (count_in b (parcels t all)) table) → AreTablesOf opening after packets t all tables
tables_are {S} opening after packets t all history tables of_key of_buckets closes calm lie = record {
  count = ap length closes.appended ∙ (closes.count ∙ of_buckets);
  each = λ b table at. (
    subst (λ (z : Key × ℕ). IsTableOf opening after packets z.0 z.1 b (count_in b (parcels t all)) table) (λ i. (of_key i, of_buckets i)) (lie b table at),
    all_at (λ (u : TableOf S). u.short ≡ false) tables b table calm at,
  );
}
