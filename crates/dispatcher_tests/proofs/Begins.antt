-- A dispatcher and its ends as they are made.
use Rattle.std.proofs.Common.{◌≡◌, ℕ, zero, suc, List, [], ◌∷◌, map, drop, length, Option, Some, None, sym, ap, ◌∙◌, subst, arith, slice_get}
use Rattle.rss_base.specs.Memory.{Feed}
use Rattle.flow_work.specs.Costs.{one, one_fits}
use Rattle.flow_work.specs.declared.count.Counted.{Counted}
use Rattle.bucket_table.specs.Table.{TableOf}
use Rattle.toeplitz.specs.declared.key.Key.{Key}
use Rattle.pcap_reader.specs.Reading.{Reading, still}
use Rattle.pcap_reader.specs.Stream.{TakesHeader}
use Rattle.pcap_reader.specs.declared.reader.Progress.TheVariants.{Going}
use Rattle.pcap_reader.proofs.SoFar.{SoFar-start}
use Rattle.core_queue.specs.declared.history.LaneHistory.{LaneHistory}
use Rattle.core_queue.specs.Local.{LocalState, new_lane}
use Rattle.handover_words.specs.declared.history.ShelfHistory.{ShelfHistory}
use Rattle.handover_words.specs.ShelfHistory.{fresh}
use Rattle.handover_words.specs.LocalShelf.{LocalView}
use Rattle.load_meter.specs.LocalMeter.{MeterState, at_zero}
use Rattle.dispatch_loop.specs.Accepted.{IsAccepted}
use Rattle.dispatch_loop.specs.OptionsView.{OptionsView}
use Rattle.dispatch_loop.specs.DispatcherState.{DispatcherState}
use Rattle.dispatch_loop.specs.Fresh.{fresh_dispatcher_state, IsFreshLane}
use Rattle.dispatch_loop.specs.Past.{past}
use Rattle.dispatch_loop.specs.Terms.{Terms, terms_of}
use Rattle.dispatch_loop.specs.Tied.{Tied}
use Rattle.dispatch_loop.proofs.Starts.{sound, tied-fresh}
use Rattle.dispatcher_tests.specs.Rig.{IsRig}

abbrev history_of : LocalState → LaneHistory
history_of l = l.history

new_histories : (t : Terms) (l k : LocalState) → IsFreshLane t l.history → IsFreshLane t k.history → (c : ℕ) (e : LaneHistory) → slice_get (map history_of (l ∷ k ∷ [])) c ≡ Some e → IsFreshLane t e
new_histories t l k of_l of_k zero e at = let is : l.history ≡ e = cc in subst (IsFreshLane t) is of_l
new_histories t l k of_l of_k (suc zero) e at = let is : k.history ≡ e = cc in subst (IsFreshLane t) is of_k
new_histories t l k of_l of_k (suc (suc c)) e at = absurd (cc)

fresh_lane : (o : OptionsView) (key : Key) (buckets room : ℕ) → key ≡ o.key → buckets ≡ length o.start.owners → (l : LocalState) → l ≡ new_lane key buckets room → IsFreshLane (terms_of one o) l.history
fresh_lane o key buckets room same_key same_buckets l is = record { key = ap (λ (z : LocalState). z.history.key) is ∙ same_key; buckets = ap (λ (z : LocalState). z.history.buckets) is ∙ same_buckets; sent = ap (λ (z : LocalState). z.history.sent) is }

pub rig_begins : (o : OptionsView) → IsAccepted o → o.cores ≡ 2 → (key : Key) (buckets room : ℕ) → key ≡ o.key → buckets ≡ length o.start.owners → (d : DispatcherState) → d ≡ fresh_dispatcher_state (terms_of one o) → (l k : LocalState) → l ≡ new_lane key buckets room → k ≡ new_lane key buckets room
    → (v : LocalView (TableOf Counted)) → v.history ≡ fresh key buckets 1 → (m : MeterState) → m ≡ at_zero 2 → (r : Reading) (source : Feed) (bytes : Option (List ℕ))
    → TakesHeader bytes (still r (Some (drop source.given source.all))) r.form → (r.given ≡ 0) × (r.progress ≡ Going) → IsRig d (l ∷ k ∷ []) v m r source None
rig_begins o accepted two key buckets room same_key same_buckets d is l k of_l of_k v shelf m meter r source bytes header first = record {
  tied = (
    past bytes [],
    subst (λ (f : DispatcherState). Tied None (past bytes []) f (map history_of (l ∷ k ∷ [])) v.history m.history r (Some (drop source.given source.all))) (sym is)
        (tied-fresh None bytes (terms_of one o) (map history_of (l ∷ k ∷ [])) v.history m.history r (Some (drop source.given source.all)) (sound one o (λ p. (one_fits p).1) accepted) (record {
          named = tt;
          wide = sym (accepted.cores ∙ two);
          each = new_histories (terms_of one o) l k (fresh_lane o key buckets room same_key same_buckets l of_l) (fresh_lane o key buckets room same_key same_buckets k of_k);
          words = ap (λ (z : ShelfHistory). z.buckets) shelf ∙ same_buckets;
          numbers = let a = accepted.cores in let b = ap (λ (z : MeterState). z.history.cores) meter in omega arith;
          given = first.0;
          going = first.1;
          so_far = SoFar-start bytes (still r (Some (drop source.given source.all))) r.form header;
        })),
  );
  hand = tt;
}
