-- What a dispatcher that is tied to its packets has to ask, and what comes next.
use Rattle.std.proofs.Common.{zero, suc, ◌≡◌, ℕ, ◌<◌, ◌≤◌, List, [], ◌∷◌, ◌++◌, map, length, get_or, Option, Some, None, refl, sym, ap, ◌∙◌, ⊎_elim, arith, append_assoc}
use Rattle.std.proofs.lemmas.Bool.{cases_lt}
use Rattle.std.proofs.lemmas.List.{length-map, append-nil}
use Rattle.std.specs.Prelude.{slice_get}
use Rattle.packet_fields.specs.declared.packet.PacketInfo.{PacketInfo}
use Rattle.pcap_reader.specs.Reading.{Reading}
use Rattle.indirection.specs.Tries.{Ask}
use Rattle.indirection.specs.Story.{Parcel}
use Rattle.indirection.specs.Due.{TryDue, PacketDue}
use Rattle.handover_core.specs.State.{MachineView}
use Rattle.core_queue.specs.declared.history.LaneHistory.{LaneHistory}
use Rattle.handover_words.specs.declared.history.ShelfHistory.{ShelfHistory}
use Rattle.load_meter.specs.declared.history.LoadHistory.{LoadHistory}
use Rattle.dispatch_loop.specs.Asks.{due_now}
use Rattle.dispatch_loop.specs.Does.{bucket_for}
use Rattle.dispatch_loop.specs.DispatcherState.{DispatcherState}
use Rattle.dispatch_loop.specs.Past.{Past, parcel_of, parcels, held_list}
use Rattle.dispatch_loop.specs.Tied.{Tied}
use Rattle.dispatch_loop.specs.Terms.{buckets_of}
use Rattle.dispatch_loop.proofs.Acted.{of-run}
use Rattle.dispatch_loop.proofs.Carrying.{bucket-below}
use Rattle.rsspp_run.specs.DispatcherOf.{IsDispatcherOf, IsReady, HoldsNext}
use Rattle.rsspp_run.specs.Goes.{bucket_in, HasPacketsLeft}

module _ (m : MachineView) (packets : Option (List PacketInfo)) (p : Past) (d : DispatcherState) (lanes : List LaneHistory) (v : ShelfHistory) (l : LoadHistory) (reader : Reading) (left : Option (List ℕ)) (tied : Tied packets p d lanes v l reader left) (dispatcher : IsDispatcherOf m d) where
  -- while anything is to be tried no End was sent
  none_sent : (a : Ask) → due_now d ≡ TryDue a → d.ends ≡ 0
  none_sent a due = ⊎_elim
      (λ (lt : 0 < d.ends). let e : PacketDue ≡ TryDue a = sym (tied.none_due (tied.ends_last lt)) ∙ due in absurd (cc))
      (λ (le : d.ends ≤ 0). omega arith) (cases_lt 0 d.ends)

  pub ready_of : IsReady m d
  ready_of = record {
    asks = λ a due. let o = of-run packets p d lanes v l reader left tied a due in let b = o.bucket in let t = o.to in let wide = dispatcher.buckets in let cores = dispatcher.cores in (omega arith, omega arith, none_sent a due);
    buckets = λ q. let b = bucket-below d.terms.key (buckets_of d.terms) q (let some = tied.sound.table.some_bucket in omega arith) in let wide = dispatcher.buckets in omega arith;
  }

-- the element behind a front
seam : {A : Type 0} (xs ys : List A) (x : A) → slice_get (xs ++ x ∷ ys) (length xs) ≡ Some x
seam [] ys x = refl
seam (z ∷ xs) ys x = seam xs ys x

pub past_end : {A : Type 0} (xs : List A) → slice_get xs (length xs) ≡ None
past_end [] = refl
past_end (x ∷ xs) = past_end xs

get_of : {A : Type 0} (xs : List A) (i : ℕ) (x z : A) → slice_get xs i ≡ Some x → (i < length xs) × (get_or xs i z ≡ x)
get_of [] i x z e = absurd (cc)
get_of (y ∷ xs) zero x z e = let q : y ≡ x = cc in (omega arith, q)
get_of (y ∷ xs) (suc i) x z e = let r = get_of xs i x z e in (let a = r.0 in omega arith, r.1)

get_map : {A B : Type 0} (f : A → B) (xs : List A) (i : ℕ) (x : A) → slice_get xs i ≡ Some x → slice_get (map f xs) i ≡ Some (f x)
get_map f [] i x e = absurd (cc)
get_map f (y ∷ xs) zero x e = let q : y ≡ x = cc in ap (λ z. Some (f z)) q
get_map f (y ∷ xs) (suc i) x e = get_map f xs i x e

pub goes_on : (m : MachineView) (ps : List Parcel) (all sent : List PacketInfo) (e : DispatcherState) → m.packets ≡ map bucket_in ps → ps ≡ parcels e.terms all → m.sent ≡ length sent → HasPacketsLeft all sent e
    → ((p : PacketInfo) → e.held ≡ Some p → e.ends ≡ 0) → HoldsNext m ps e
goes_on m ps all sent e packets are count c ends =
    record {
      next = λ p held.
          let at : slice_get all (length sent) ≡ Some p = ap (λ l. slice_get l (length sent)) (c.is ∙ ap (λ h. sent ++ (held_list h ++ c.rest)) held) ∙ seam sent c.rest p in
          let q : slice_get ps m.sent ≡ Some (parcel_of e.terms p) = (λ i. slice_get (are i) (count i)) ∙ get_map (parcel_of e.terms) all (length sent) p at in
          let b : slice_get m.packets m.sent ≡ Some (bucket_for e p) = ap (λ l. slice_get l m.sent) packets ∙ get_map bucket_in ps m.sent (parcel_of e.terms p) q in
          let g = get_of m.packets m.sent (bucket_for e p) 0 b in
          (g.0, g.1, q);
      no_ends = ends;
      none = λ none over.
          let whole : all ≡ sent = c.is ∙ ((λ i. sent ++ (held_list (none i) ++ c.whole over i)) ∙ append-nil sent) in
          let n : length ps ≡ m.sent = ap length are ∙ (length-map all (parcel_of e.terms) ∙ (ap length whole ∙ sym count)) in
          let size = length-map ps bucket_in in let same = ap length packets in
          (omega arith, ap (slice_get ps) (sym n) ∙ past_end ps);
    }

-- before a packet was sent, the run went on with it
pub before_sent : (all sent : List PacketInfo) (q : PacketInfo) (e e' : DispatcherState) → e.held ≡ Some q → e'.held ≡ None → e'.end ≡ e.end → HasPacketsLeft all (sent ++ q ∷ []) e' → HasPacketsLeft all sent e
before_sent all sent q e e' held none end c = record {
  rest = c.rest;
  is = c.is ∙ (ap (λ h. (sent ++ q ∷ []) ++ (held_list h ++ c.rest)) none ∙ (append_assoc sent (q ∷ []) c.rest ∙ ap (λ h. sent ++ (held_list h ++ c.rest)) (sym held)));
  whole = λ over. c.whole (λ k. over (sym end ∙ k));
}

-- before a record was read, the run went on with what it gave
pub before_read : (all sent : List PacketInfo) (d e : DispatcherState) → d.held ≡ None → d.end ≡ None → HasPacketsLeft all sent e → HasPacketsLeft all sent d
before_read all sent d e none going c = record {
  rest = held_list e.held ++ c.rest;
  is = c.is ∙ ap (λ h. sent ++ (held_list h ++ (held_list e.held ++ c.rest))) (sym none);
  whole = λ over. absurd (over going);
}

-- what isn't read of it may change
pub same_rest : (all sent : List PacketInfo) (e e' : DispatcherState) → e'.held ≡ e.held → e'.end ≡ e.end → HasPacketsLeft all sent e' → HasPacketsLeft all sent e
same_rest all sent e e' held end c = record { rest = c.rest; is = c.is ∙ ap (λ h. sent ++ (held_list h ++ c.rest)) held; whole = λ over. c.whole (λ k. over (sym end ∙ k)) }
