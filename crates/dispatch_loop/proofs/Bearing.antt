-- A dispatcher is tied as before behind what others did to its ends.
use Rattle.std.proofs.Common.{◌≡◌, ℕ, zero, suc, ◌<◌, ◌≤◌, List, [], ◌∷◌, length, map, get_or, refl, sym, ap, ◌∙◌, subst, arith, Option, Some, slice_get}
use Rattle.std.proofs.Math.ListN.{set}
use Rattle.std.proofs.lemmas.List.{length-map, length-set}
use Rattle.packet_fields.specs.declared.packet.PacketInfo.{PacketInfo}
use Rattle.toeplitz.specs.declared.key.Key.{Key}
use Rattle.pcap_reader.specs.Reading.{Reading}
use Rattle.indirection.specs.Story.{Step, parcels_of}
use Rattle.core_queue.specs.declared.history.LaneHistory.{LaneHistory}
use Rattle.core_queue.specs.declared.item.Seen.{Seen}
use Rattle.core_queue.specs.Cells.{plain, AreCarried}
use Rattle.handover_words.specs.declared.history.ShelfHistory.{ShelfHistory}
use Rattle.load_meter.specs.declared.history.LoadHistory.{LoadHistory}
use Rattle.load_meter.specs.LoadHistory.{known_at}
use Rattle.dispatch_loop.specs.Costs.{HaveCosts}
use Rattle.dispatch_loop.specs.DispatcherState.{DispatcherState}
use Rattle.dispatch_loop.specs.Past.{Past}
use Rattle.dispatch_loop.specs.Tied.{Tied, IsLaneOf, IsLawfulStill}
use Rattle.dispatch_loop.specs.Borne.{SameSent, AreSentSame, IsBorne}

lane-of : (packets : Option (List PacketInfo)) (f : DispatcherState) (steps : List Step) (c : ℕ) (e e' : LaneHistory) → SameSent e e' → IsLaneOf packets f steps c e → IsLaneOf packets f steps c e'
lane-of packets f steps c e e' s h = record {
  key = s.key ∙ h.key;
  buckets = s.buckets ∙ h.buckets;
  sent = ap (λ (z : List Seen). map plain z) s.sent ∙ h.sent;
  carried = subst (λ (z : Key). AreCarried packets z e'.buckets e'.sent) (sym s.key) (subst (λ (z : ℕ). AreCarried packets e.key z e'.sent) (sym s.buckets) (subst (λ (z : List Seen). AreCarried packets e.key e.buckets z) (sym s.sent) h.carried));
  costs = subst (λ (z : List Seen). HaveCosts f.terms.cost (parcels_of steps) z) (sym s.sent) h.costs;
}

still-lawful : (f : DispatcherState) (ps : List PacketInfo) (m m' : LoadHistory) → ((c : ℕ) → known_at c m ≤ known_at c m') → IsLawfulStill f ps m → IsLawfulStill f ps m'
still-lawful f ps m m' more h = record {
  lawful = h.lawful;
  due_is = h.due_is;
  asks = h.asks;
  rounds = h.rounds;
  none_here = h.none_here;
  since = h.since;
  since_most = h.since_most;
  loads = h.loads;
  worked = λ c inside. let a = h.worked c inside in let b = more c in omega arith;
}

pub bears : (packets : Option (List PacketInfo)) (p : Past) (f : DispatcherState) (lanes lanes' : List LaneHistory) (v v' : ShelfHistory) (m m' : LoadHistory) (r : Reading) (l : Option (List ℕ)) → Tied packets p f lanes v m r l → IsBorne lanes lanes' v v' m m' → Tied packets p f lanes' v' m' r l
bears packets p f lanes lanes' v v' m m' r l t b = record {
  sound = t.sound;
  named = t.named;
  start = t.start;
  few = t.few;
  within = t.within;
  dealt = t.dealt;
  sent = record { wide = b.sent.wide ∙ t.sent.wide; each = λ c e' at. let w = b.sent.each c e' at in lane-of packets f _ c w.0 e' w.2 (t.sent.each c w.0 w.1) };
  orders = t.orders;
  loads = t.loads;
  lawful = λ open_still. still-lawful f p.packets m m' b.known (t.lawful open_still);
  fed = t.fed;
  ends_few = t.ends_few;
  ends_last = t.ends_last;
  none_due = t.none_due;
  words = b.words ∙ t.words;
  numbers = let c = b.cores in let n = t.numbers in omega arith;
}

-- lanes that nobody touched
pub untouched : (lanes : List LaneHistory) → AreSentSame lanes lanes
untouched lanes = record { wide = refl; each = λ c e at. (e, at, record { key = refl; buckets = refl; sent = refl }) }

-- one of the lanes was taken from
pub one-taken : {A : Type 0} (history : A → LaneHistory) (xs : List A) (i : ℕ) (v d : A) → i < length xs → SameSent (history (get_or xs i d)) (history v) → AreSentSame (map history xs) (map history (set xs i v))
one-taken {A} history xs i v d inside same = record { wide = length-map (set xs i v) history ∙ (length-set xs i v ∙ sym (length-map xs history)); each = each xs i same }
  where
    each : (xs : List A) (i : ℕ) → SameSent (history (get_or xs i d)) (history v) → (c : ℕ) (e' : LaneHistory) → slice_get (map history (set xs i v)) c ≡ Some e' → (e : LaneHistory) × (slice_get (map history xs) c ≡ Some e) × SameSent e e'
    each [] i s c e' at = (e', at, record { key = refl; buckets = refl; sent = refl })
    each (x ∷ xs) zero s zero e' at = let is : history v ≡ e' = cc in (history x, refl, subst (λ (z : LaneHistory). SameSent (history x) z) is s)
    each (x ∷ xs) zero s (suc c) e' at = (e', at, record { key = refl; buckets = refl; sent = refl })
    each (x ∷ xs) (suc i) s zero e' at = (e', at, record { key = refl; buckets = refl; sent = refl })
    each (x ∷ xs) (suc i) s (suc c) e' at = each xs i s c e' at
