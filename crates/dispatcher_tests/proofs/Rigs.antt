-- What a step leaves of a dispatcher with its ends.
use Rattle.std.proofs.Common.{◌≡◌, ◌<◌, ◌≤◌, ℕ, List, map, drop, Option, Some, None, refl, sym, ap, ◌∙◌, subst, arith}
use Rattle.rss_base.specs.Memory.{Feed}
use Rattle.flow_work.specs.declared.count.Counted.{Counted}
use Rattle.flow_work.specs.Count.{no_packets, counted}
use Rattle.bucket_table.specs.Table.{TableOf}
use Rattle.pcap_reader.specs.Reading.{Reading}
use Rattle.core_queue.specs.declared.history.LaneHistory.{LaneHistory}
use Rattle.core_queue.specs.Local.{LocalState}
use Rattle.handover_words.specs.declared.history.ShelfHistory.{ShelfHistory}
use Rattle.handover_words.specs.ShelfHistory.{claimed_at, claimed}
use Rattle.handover_words.specs.LocalShelf.{LocalView}
use Rattle.handover_words.specs.Stands.{IsTableOf}
use Rattle.handover_words.proofs.Claims.{claimed_at-claimed}
use Rattle.load_meter.specs.declared.history.LoadHistory.{LoadHistory}
use Rattle.load_meter.specs.LoadHistory.{known_at, reading, noting}
use Rattle.load_meter.specs.LocalMeter.{MeterState}
use Rattle.dispatch_loop.specs.DispatcherState.{DispatcherState}
use Rattle.dispatch_loop.specs.Borne.{AreSentSame}
use Rattle.dispatch_loop.specs.Past.{Past}
use Rattle.dispatch_loop.specs.Rules.{OnlyMeets}
use Rattle.dispatch_loop.specs.Tied.{Tied}
use Rattle.dispatch_loop.proofs.Bearing.{bears, untouched}
use Rattle.dispatcher_tests.specs.Rig.{InHand, IsRig}

abbrev history_of : LocalState → LaneHistory
history_of l = l.history

-- words that were met leave what is in hand
pub still_in_hand : (e e' : ShelfHistory) (held : Option (TableOf Counted)) → e'.key ≡ e.key → e'.buckets ≡ e.buckets → e'.held ≡ e.held → InHand e held → InHand e' held
still_in_hand e e' None key buckets held h = tt
still_in_hand e e' (Some t) key buckets held h = record {
  range = subst (λ (n : ℕ). t.bucket < n) (sym buckets) h.range;
  claim = ap (λ cs. claimed_at t.bucket (record e { held = cs })) held ∙ h.claim;
  is = subst (λ (n : ℕ). IsTableOf no_packets counted None e'.key n t.bucket t.done t) (sym buckets) (subst (λ k. IsTableOf no_packets counted None k e.buckets t.bucket t.done t) (sym key) h.is);
}

-- a table that was claimed is in hand
pub in_hand : (e e' : ShelfHistory) (b place : ℕ) (t : TableOf Counted) → e' ≡ claimed b place e → b < e.buckets → IsTableOf no_packets counted None e.key e.buckets b place t → InHand e' (Some t)
in_hand e e' b place t is near h =
    let at : t.bucket ≡ b = h.stands.bucket in let done : t.done ≡ place = h.done_is in
    let there : IsTableOf no_packets counted None e.key e.buckets t.bucket t.done t =
    subst (λ (n : ℕ). IsTableOf no_packets counted None e.key e.buckets n t.done t) (sym at) (subst (λ (n : ℕ). IsTableOf no_packets counted None e.key e.buckets b n t) (sym done) h) in
    subst (λ (z : ShelfHistory). InHand z (Some t)) (sym is) (record {
      range = subst (λ (n : ℕ). n < e.buckets) (sym at) near;
      claim = ap (λ (n : ℕ). claimed_at n (claimed b place e)) at ∙ (claimed_at-claimed b place e ∙ ap (λ (n : ℕ). Some n) (sym done));
      is = there;
    })

pub read_more : (core n : ℕ) (e e' : LoadHistory) → e' ≡ reading core n e → (c : ℕ) → known_at c e ≤ known_at c e'
read_more core n e e' is c = let q = ap (known_at c) is in omega arith

pub noted_more : (core n : ℕ) (e e' : LoadHistory) → e' ≡ noting core n e → (c : ℕ) → known_at c e ≤ known_at c e'
noted_more core n e e' is c = let q = ap (known_at c) is in omega arith

module _ (d : DispatcherState) (lanes : List LocalState) (shelf : LocalView (TableOf Counted)) (meter : MeterState) (reader : Reading) (source : Feed) (held : Option (TableOf Counted)) (rig : IsRig d lanes shelf meter reader source held) where
  pub at_shelf : (shelf' : LocalView (TableOf Counted)) (held' : Option (TableOf Counted)) → shelf'.history.buckets ≡ shelf.history.buckets → InHand shelf'.history held' → IsRig d lanes shelf' meter reader source held'
  at_shelf shelf' held' same hand = record {
    tied = (
      rig.tied.0,
      bears None rig.tied.0 d (map history_of lanes) (map history_of lanes) shelf.history shelf'.history meter.history meter.history reader (Some (drop source.given source.all)) rig.tied.1
          (record { sent = untouched (map history_of lanes); words = same; cores = refl; known = λ c. omega arith }),
    );
    hand = hand;
  }

  pub at_meter : (meter' : MeterState) → meter'.history.cores ≡ meter.history.cores → ((c : ℕ) → known_at c meter.history ≤ known_at c meter'.history) → IsRig d lanes shelf meter' reader source held
  at_meter meter' same known = record {
    tied = (
      rig.tied.0,
      bears None rig.tied.0 d (map history_of lanes) (map history_of lanes) shelf.history shelf.history meter.history meter'.history reader (Some (drop source.given source.all)) rig.tied.1
          (record { sent = untouched (map history_of lanes); words = refl; cores = same; known = known }),
    );
    hand = rig.hand;
  }

  pub at_lanes : (lanes' : List LocalState) → AreSentSame (map history_of lanes) (map history_of lanes') → IsRig d lanes' shelf meter reader source held
  at_lanes lanes' same = record {
    tied = (
      rig.tied.0,
      bears None rig.tied.0 d (map history_of lanes) (map history_of lanes') shelf.history shelf.history meter.history meter.history reader (Some (drop source.given source.all)) rig.tied.1
          (record { sent = same; words = refl; cores = refl; known = λ c. omega arith }),
    );
    hand = rig.hand;
  }

  pub behind_turn : (d' : DispatcherState) (lanes' : List LocalState) (shelf' : LocalView (TableOf Counted)) (meter' : MeterState) (reader' : Reading) (source' : Feed)
      → ((p : Past) × Tied None p d' (map history_of lanes') shelf'.history meter'.history reader' (Some (drop source'.given source'.all))) → OnlyMeets shelf.history shelf'.history → IsRig d' lanes' shelf' meter' reader' source' held
  behind_turn d' lanes' shelf' meter' reader' source' tied meets = record { tied = tied; hand = still_in_hand shelf.history shelf'.history held meets.key meets.buckets meets.held rig.hand }
