-- Tables that together stand for packets: their keys, their flows and their sums are those of the packets.
use Rattle.std.proofs.Common.{◌≡◌, ◌≢◌, ℕ, ◌+◌, ◌<◌, ◌≤◌, suc, arith, List, [], ◌∷◌, ◌++◌, length, refl, sym, ap, subst, ◌∙◌, Bool, true, false, cond, ◌||◌, ◌&&◌, ◌==◌, fold, slice_get, Some}
use Rattle.std.proofs.lemmas.Bool.{true≢false}
use Rattle.std.proofs.lemmas.Bool.Decides.{nat_tests}
use Rattle.std.proofs.lemmas.Map.Views.{any-filter_same}
use Rattle.std.proofs.lemmas.List.Folds.{list_any-append}
use Rattle.std.specs.List.{AllByRecursion, list_any}
use Rattle.packet_fields.specs.declared.key.FlowKey.{FlowKey}
use Rattle.packet_fields.specs.declared.packet.PacketInfo.{PacketInfo}
use Rattle.flow_work.specs.Flow.{flow_state, packets_of}
use Rattle.bucket_table.specs.FirstKeys.{same_key, first_keys}
use Rattle.bucket_table.specs.Table.{TableOf, StandsFor}
use Rattle.bucket_table.proofs.FirstKeys.{same_key_exact, same_key_itself, first_keys-among}
use Rattle.bucket_table.proofs.Keyed.{keyed}
use Rattle.flow_report.specs.Tables.{all_flows, packets_at}

pub and_left : (a b : Bool) → (a && b) ≡ true → a ≡ true
and_left true b h = refl
and_left false b h = h

or_right : (a b : Bool) → b ≡ true → (a || b) ≡ true
or_right true b h = refl
or_right false b h = h

or_both : (x y a : Bool) → ((x && a) || (y && a)) ≡ ((x || y) && a)
or_both true true true = refl
or_both true true false = refl
or_both true false true = refl
or_both true false false = refl
or_both false y a = refl

-- what holds of each key that is found
pub all_from : (P : FlowKey → Type 0) (ks : List FlowKey) → ((k : FlowKey) → list_any (same_key k) ks ≡ true → P k) → AllByRecursion P ks
all_from P [] h = tt
all_from P (k ∷ ks) h =
    (h k (ap (λ b. b || list_any (same_key k) ks) (same_key_itself k)), all_from P ks (λ q e. h q (or_right (same_key q k) (list_any (same_key q) ks) e)))

pub keyed_same : {S : Type 0} (f g : FlowKey → S) (ks : List FlowKey) → AllByRecursion (λ k. f k ≡ g k) ks → keyed f ks ≡ keyed g ks
keyed_same f g [] h = refl
keyed_same f g (k ∷ ks) h = ap (λ s. (k, s) ∷ keyed f ks) h.0 ∙ ap (λ l. (k, g k) ∷ l) (keyed_same f g ks h.1)

keyed-append : {S : Type 0} (f : FlowKey → S) (xs ys : List FlowKey) → keyed f (xs ++ ys) ≡ keyed f xs ++ keyed f ys
keyed-append f [] ys = refl
keyed-append f (x ∷ xs) ys = ap (λ l. (x, f x) ∷ l) (keyed-append f xs ys)

module _ (bucket_of : FlowKey → ℕ) where
  -- a key's packets are all in its bucket
  packets_of_part : (b : ℕ) (k : FlowKey) → (bucket_of k == b) ≡ true → (ps : List PacketInfo) → packets_of k (packets_at bucket_of b ps) ≡ packets_of k ps
  packets_of_part b k here [] = refl
  packets_of_part b k here (p ∷ ps) = by (bucket_of p.key == b) refl (packets_of_part b k here ps)
    where
      none : (bucket_of p.key == b) ≡ false → (r : Bool) → same_key k p.key ≡ r → r ≡ false
      none away true e = absurd (true≢false (sym here ∙ (ap (λ (q : FlowKey). bucket_of q == b) (same_key_exact k p.key e) ∙ away)))
      none away false e = refl

      by : (r : Bool) → (bucket_of p.key == b) ≡ r → packets_of k (packets_at bucket_of b ps) ≡ packets_of k ps → packets_of k (packets_at bucket_of b (p ∷ ps)) ≡ packets_of k (p ∷ ps)
      by true e later = rw e (ap (λ (l : List PacketInfo). cond (same_key k p.key) (p ∷ l) l) later)
      by false e later = rw e (later ∙ sym (ap (λ r. cond r (p ∷ packets_of k ps) (packets_of k ps)) (none e (same_key k p.key) refl)))

  -- a key is found in the part of its bucket alone
  pub part_has : (b : ℕ) (q : FlowKey) (ps : List PacketInfo) → list_any (same_key q) (first_keys (packets_at bucket_of b ps)) ≡ ((bucket_of q == b) && list_any (λ p. same_key q p.key) ps)
  part_has b q ps =
      first_keys-among q (packets_at bucket_of b ps)
      ∙ any-filter_same (λ p. same_key q p.key) (λ p. bucket_of p.key == b) (bucket_of q == b) (λ p e. ap (λ (k : FlowKey). bucket_of k == b) (sym (same_key_exact q p.key e))) ps

module _ {S : Type 0} (opening : S) (after : S → PacketInfo → S) (bucket_of : FlowKey → ℕ) (packets : List PacketInfo) where
  abbrev pub Stand : ℕ → List (TableOf S) → Type 0
  Stand first [] = Unit {0}
  Stand first (t ∷ ts) = StandsFor opening after (packets_at bucket_of first packets) t × Stand (first + 1) ts

  pub stand_from : (first : ℕ) (ts : List (TableOf S)) → ((i : ℕ) (t : TableOf S) → slice_get ts i ≡ Some t → StandsFor opening after (packets_at bucket_of (first + i) packets) t) → Stand first ts
  stand_from first [] h = tt
  stand_from first (t ∷ ts) h =
      let zero_is : first + 0 ≡ first = omega arith in (
        subst (λ n. StandsFor opening after (packets_at bucket_of n packets) t) zero_is (h 0 t refl),
        stand_from (first + 1) ts (λ i u e.
            let next : first + suc i ≡ (first + 1) + i = omega arith in
            subst (λ n. StandsFor opening after (packets_at bucket_of n packets) u) next (h (suc i) u e)),
      )

  -- the keys of the tables, one table behind the other
  abbrev pub part_keys : ℕ → List (TableOf S) → List FlowKey
  part_keys first [] = []
  part_keys first (t ∷ ts) = first_keys (packets_at bucket_of first packets) ++ part_keys (first + 1) ts

  abbrev pub state : FlowKey → S
  state k = flow_state opening after k packets

  pub flows_are : (first : ℕ) (ts : List (TableOf S)) → Stand first ts → all_flows ts ≡ keyed state (part_keys first ts)
  flows_are first [] s = refl
  flows_are first (t ∷ ts) s =
      let part = packets_at bucket_of first packets in
      let ks = first_keys part in
      let alike : (k : FlowKey) → list_any (same_key k) ks ≡ true → flow_state opening after k part ≡ state k =
      λ k e. ap (fold after opening) (packets_of_part bucket_of first k (and_left (bucket_of k == first) (list_any (λ p. same_key k p.key) packets) (sym (part_has bucket_of first k packets) ∙ e)) packets) in
      let same = keyed_same (λ k. flow_state opening after k part) state ks (all_from (λ k. flow_state opening after k part ≡ state k) ks alike) in
      ap (λ (l : List (FlowKey × S)). l ++ all_flows ts) (s.0.flows ∙ same)
      ∙ (ap (λ (l : List (FlowKey × S)). keyed state ks ++ l) (flows_are (first + 1) ts s.1)
      ∙ sym (keyed-append state ks (part_keys (first + 1) ts)))

  -- a bucket is that of a table
  abbrev pub covers : ℕ → ℕ → List (TableOf S) → Bool
  covers b first [] = false
  covers b first (t ∷ ts) = (b == first) || covers b (first + 1) ts

  pub covers_in : (b first : ℕ) (ts : List (TableOf S)) → first ≤ b → b < first + length ts → covers b first ts ≡ true
  covers_in b first [] low high = absurd (omega arith)
  covers_in b first (t ∷ ts) low high = by (b == first) refl (covers_in b (first + 1) ts)
    where
      by : (r : Bool) → (b == first) ≡ r → (first + 1 ≤ b → b < (first + 1) + length ts → covers b (first + 1) ts ≡ true) → covers b first (t ∷ ts) ≡ true
      by true e later = ap (λ r. r || covers b (first + 1) ts) e
      by false e later =
          let apart : b ≢ first = grind (arith, nat_tests) in
          or_right (b == first) (covers b (first + 1) ts) (later (omega (arith, apart)) (omega arith))

  covers_past : (b first : ℕ) (ts : List (TableOf S)) → b < first → covers b first ts ≡ false
  covers_past b first [] low = refl
  covers_past b first (t ∷ ts) low =
      let apart : (b == first) ≡ false = grind (arith, nat_tests) in
      ap (λ r. r || covers b (first + 1) ts) apart ∙ covers_past b (first + 1) ts (omega arith)

  pub covers_here : (b first : ℕ) (ts : List (TableOf S)) → (b == first) ≡ true → covers b (first + 1) ts ≡ false
  covers_here b first ts e =
      let low : b < first + 1 = grind (arith, nat_tests) in
      covers_past b (first + 1) ts low

  pub keys_have : (q : FlowKey) (first : ℕ) (ts : List (TableOf S)) → list_any (same_key q) (part_keys first ts) ≡ (covers (bucket_of q) first ts && list_any (λ p. same_key q p.key) packets)
  keys_have q first [] = refl
  keys_have q first (t ∷ ts) =
      let any = list_any (λ p. same_key q p.key) packets in
      list_any-append (same_key q) (first_keys (packets_at bucket_of first packets)) (part_keys (first + 1) ts)
      ∙ (ap (λ r. r || list_any (same_key q) (part_keys (first + 1) ts)) (part_has bucket_of first q packets)
      ∙ (ap (λ r. ((bucket_of q == first) && any) || r) (keys_have q (first + 1) ts) ∙ or_both (bucket_of q == first) (covers (bucket_of q) (first + 1) ts) any))

  pub keys_have_all : (q : FlowKey) (ts : List (TableOf S)) → bucket_of q < length ts → list_any (same_key q) (part_keys 0 ts) ≡ list_any (λ p. same_key q p.key) packets
  keys_have_all q ts low = keys_have q 0 ts ∙ ap (λ r. r && list_any (λ p. same_key q p.key) packets) (covers_in (bucket_of q) 0 ts (omega arith) (omega arith))
