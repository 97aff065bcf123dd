-- The report of tables that together stand for packets is the packets' report.
use Rattle.std.proofs.Common.{◌≡◌, ℕ, ◌+◌, ◌<◌, arith, List, [], ◌∷◌, ◌++◌, length, refl, sym, ap, subst, ◌∙◌, Bool, true, false, ◌||◌, ◌&&◌, ◌==◌, filter, sum_by, slice_get, get_or, Some}
use Rattle.std.proofs.lemmas.Bool.{true≢false}
use Rattle.std.proofs.lemmas.Bool.Decides.{nat_tests}
use Rattle.std.proofs.lemmas.Option.{slice_get-get_or}
use Rattle.std.proofs.lemmas.List.Sums.{sum_by-cons}
use Rattle.std.specs.List.Sorted.{IsStrictlySortedBy}
use Rattle.std.specs.List.{AllByRecursion, AllPairs, IsDistinct, list_any, flat_map}
use Rattle.packet_fields.specs.declared.key.FlowKey.{FlowKey}
use Rattle.packet_fields.specs.declared.packet.PacketInfo.{PacketInfo}
use Rattle.packet_fields.specs.Key.{key_cmp}
use Rattle.packet_fields.specs.KeyOrder.{key_cmp_total, key_cmp_exact}
use Rattle.flow_work.specs.Flow.{flow_state}
use Rattle.bucket_table.specs.FirstKeys.{same_key, first_keys}
use Rattle.bucket_table.specs.Table.{TableOf, StandsFor}
use Rattle.bucket_table.proofs.FirstKeys.{first_keys-distinct}
use Rattle.bucket_table.proofs.Keyed.{keyed}
use Rattle.flow_report.specs.Report.{keys_of, flow_line, total_line, report}
use Rattle.flow_report.specs.Tables.{all_flows, in_key_order, packets_at, tables_text, totals_of, HasFlow, SharesNoKey, StandTogether}
use Rattle.flow_report.proofs.Keys.{keys_sorted, keys_among}
use Rattle.flow_report.proofs.Merged.{same_members, ordered_onto, ordered_sorted, ordered_has, ordered_length_all, ordered_keyed}
use Rattle.flow_report.proofs.Parts.{and_left, all_from, part_has, Stand, stand_from, part_keys, state, flows_are, covers, covers_in, covers_here, keys_have, keys_have_all}

or_false_left : (a b : Bool) → (a || b) ≡ false → a ≡ false
or_false_left true b h = h
or_false_left false b h = refl

or_false_right : (a b : Bool) → (a || b) ≡ false → b ≡ false
or_false_right true b h = absurd (true≢false h)
or_false_right false b h = h

none_tied : (x : FlowKey) (ys : List FlowKey) → list_any (same_key x) ys ≡ false → AllByRecursion (λ y. same_key x y ≡ false) ys
none_tied x [] h = tt
none_tied x (y ∷ ys) h = (or_false_left (same_key x y) (list_any (same_key x) ys) h, none_tied x ys (or_false_right (same_key x y) (list_any (same_key x) ys) h))

all_append : (P : FlowKey → Type 0) (xs ys : List FlowKey) → AllByRecursion P xs → AllByRecursion P ys → AllByRecursion P (xs ++ ys)
all_append P [] ys a b = b
all_append P (x ∷ xs) ys a b = (a.0, all_append P xs ys a.1 b)

distinct_append : (xs ys : List FlowKey) → IsDistinct same_key xs → IsDistinct same_key ys → AllByRecursion (λ k. list_any (same_key k) ys ≡ false) xs → IsDistinct same_key (xs ++ ys)
unfolding IsDistinct
distinct_append [] ys a b h = b
distinct_append (x ∷ xs) ys a b h = (all_append (λ y. same_key x y ≡ false) xs ys a.0 (none_tied x ys h.0), distinct_append xs ys a.1 b h.1)

regroup : (x y z : ℕ) → (x + y) + z ≡ x + (y + z)
regroup x y z = omega arith

across : (x y z : ℕ) → y + (x + z) ≡ x + (y + z)
across x y z = omega arith

split_sum : (m : PacketInfo → ℕ) (a c : PacketInfo → Bool) → ((p : PacketInfo) → a p ≡ true → c p ≡ false) → (ps : List PacketInfo) → sum_by m (filter a ps) + sum_by m (filter c ps) ≡ sum_by m (filter (λ p. a p || c p) ps)
split_sum m a c apart [] = refl
split_sum m a c apart (p ∷ ps) = by (a p) (c p) refl refl (split_sum m a c apart ps)
  where
    by : (x y : Bool) → a p ≡ x → c p ≡ y → sum_by m (filter a ps) + sum_by m (filter c ps) ≡ sum_by m (filter (λ p. a p || c p) ps) → sum_by m (filter a (p ∷ ps)) + sum_by m (filter c (p ∷ ps)) ≡ sum_by m (filter (λ p. a p || c p) (p ∷ ps))
    by true true e g later = absurd (true≢false (sym g ∙ apart p e))
    by true false e g later =
        let one = sum_by-cons m p (filter a ps) in
        let both = sum_by-cons m p (filter (λ p. a p || c p) ps) in
        rw (e, g) (ap (λ n. n + sum_by m (filter c ps)) one ∙ (regroup (m p) (sum_by m (filter a ps)) (sum_by m (filter c ps)) ∙ (ap (λ n. m p + n) later ∙ sym both)))
    by false true e g later =
        let one = sum_by-cons m p (filter c ps) in
        let both = sum_by-cons m p (filter (λ p. a p || c p) ps) in
        rw (e, g) (ap (λ n. sum_by m (filter a ps) + n) one ∙ (across (m p) (sum_by m (filter a ps)) (sum_by m (filter c ps)) ∙ (ap (λ n. m p + n) later ∙ sym both)))
    by false false e g later = rw (e, g) later

sum_none : (m : PacketInfo → ℕ) (ps : List PacketInfo) → sum_by m (filter (λ p. false) ps) ≡ 0
sum_none m [] = refl
sum_none m (p ∷ ps) = sum_none m ps

filter_all : (c : PacketInfo → Bool) → ((p : PacketInfo) → c p ≡ true) → (ps : List PacketInfo) → filter c ps ≡ ps
filter_all c all [] = refl
filter_all c all (p ∷ ps) = let e = all p in rw e (ap (λ l. p ∷ l) (filter_all c all ps))

length_is : (ps : List PacketInfo) → length ps ≡ sum_by (λ _. 1) ps
length_is [] = refl
length_is (p ∷ ps) = let one : sum_by (λ _. 1) (p ∷ ps) ≡ 1 + sum_by (λ _. 1) ps = sum_by-cons (λ _. 1) p ps in let e = length_is ps in omega (arith, one, e)

length_keyed : {S : Type 0} (f : FlowKey → S) (ks : List FlowKey) → length (keyed f ks) ≡ length ks
length_keyed f [] = refl
length_keyed f (k ∷ ks) = let e = length_keyed f ks in omega (arith, e)

any_keyed : {S : Type 0} (f : FlowKey → S) (q : FlowKey) (ks : List FlowKey) → list_any (λ e. same_key q e.0) (keyed f ks) ≡ list_any (same_key q) ks
any_keyed f q [] = refl
any_keyed f q (k ∷ ks) = ap (λ r. same_key q k || r) (any_keyed f q ks)

lines_keyed : {S : Type 0} (line : S → List ℕ) (f : FlowKey → S) (ks : List FlowKey) → flat_map (λ (e : FlowKey × S). flow_line line e.0 e.1) (keyed f ks) ≡ flat_map (λ k. flow_line line k (f k)) ks
lines_keyed line f [] = refl
lines_keyed line f (k ∷ ks) = ap (λ w. flow_line line k (f k) ++ w) (lines_keyed line f ks)

module _ {S : Type 0} (opening : S) (after : S → PacketInfo → S) (bucket_of : FlowKey → ℕ) (packets : List PacketInfo) where
  keys_distinct : (first : ℕ) (ts : List (TableOf S)) → IsDistinct same_key (part_keys opening after bucket_of packets first ts)
  unfolding IsDistinct
  keys_distinct first [] = tt
  keys_distinct first (t ∷ ts) =
      let later = part_keys opening after bucket_of packets (first + 1) ts in
      let any : FlowKey → Bool = λ k. list_any (λ p. same_key k p.key) packets in
      let gone : (k : FlowKey) → list_any (same_key k) (first_keys (packets_at bucket_of first packets)) ≡ true → list_any (same_key k) later ≡ false =
      λ k e.
      let here : (bucket_of k == first) ≡ true = and_left (bucket_of k == first) (any k) (sym (part_has bucket_of first k packets) ∙ e) in
      keys_have opening after bucket_of packets k (first + 1) ts ∙ ap (λ r. r && any k) (covers_here opening after bucket_of packets (bucket_of k) first ts here) in
      distinct_append (first_keys (packets_at bucket_of first packets)) later (first_keys-distinct (packets_at bucket_of first packets)) (keys_distinct (first + 1) ts)
      (all_from (λ k. list_any (same_key k) later ≡ false) (first_keys (packets_at bucket_of first packets)) gone)

  -- a sum over the packets of the tables' buckets
  abbrev part_sum : (PacketInfo → ℕ) → ℕ → List (TableOf S) → ℕ
  part_sum m first [] = 0
  part_sum m first (t ∷ ts) = sum_by m (packets_at bucket_of first packets) + part_sum m (first + 1) ts

  part_sum_is : (m : PacketInfo → ℕ) (first : ℕ) (ts : List (TableOf S)) → part_sum m first ts ≡ sum_by m (filter (λ p. covers opening after bucket_of packets (bucket_of p.key) first ts) packets)
  part_sum_is m first [] = sym (sum_none m packets)
  part_sum_is m first (t ∷ ts) =
      ap (λ n. sum_by m (packets_at bucket_of first packets) + n) (part_sum_is m (first + 1) ts)
      ∙ split_sum m (λ p. bucket_of p.key == first) (λ p. covers opening after bucket_of packets (bucket_of p.key) (first + 1) ts) (λ p e. covers_here opening after bucket_of packets (bucket_of p.key) first ts e) packets

  done_is : (first : ℕ) (ts : List (TableOf S)) → Stand opening after bucket_of packets first ts → sum_by (λ t. t.done) ts ≡ part_sum (λ _. 1) first ts
  done_is first [] s = refl
  done_is first (t ∷ ts) s =
      sum_by-cons (λ (t : TableOf S). t.done) t ts
      ∙ (ap (λ n. n + sum_by (λ t. t.done) ts) (s.0.done ∙ length_is (packets_at bucket_of first packets))
      ∙ ap (λ n. sum_by (λ _. 1) (packets_at bucket_of first packets) + n) (done_is (first + 1) ts s.1))

  bytes_is : (first : ℕ) (ts : List (TableOf S)) → Stand opening after bucket_of packets first ts → sum_by (λ t. t.bytes) ts ≡ part_sum (λ p. p.original) first ts
  bytes_is first [] s = refl
  bytes_is first (t ∷ ts) s =
      sum_by-cons (λ (t : TableOf S). t.bytes) t ts
      ∙ (ap (λ n. n + sum_by (λ t. t.bytes) ts) s.0.bytes
      ∙ ap (λ n. sum_by (λ p. p.original) (packets_at bucket_of first packets) + n) (bytes_is (first + 1) ts s.1))

  module _ (tables : List (TableOf S)) (h : StandTogether opening after bucket_of packets tables) where
    stand : Stand opening after bucket_of packets 0 tables
    stand = stand_from opening after bucket_of packets 0 tables (λ i t e.
        let same : i ≡ 0 + i = omega arith in
        subst (λ n. StandsFor opening after (packets_at bucket_of n packets) t) same (h.each i t e))

    whole : (m : PacketInfo → ℕ) → part_sum m 0 tables ≡ sum_by m packets
    whole m =
        part_sum_is m 0 tables
        ∙ ap (sum_by m) (filter_all (λ p. covers opening after bucket_of packets (bucket_of p.key) 0 tables) (λ p.
        let b = bucket_of p.key in
        let low : b < 0 + length tables = omega (arith, h.buckets p.key) in
        covers_in opening after bucket_of packets b 0 tables (omega arith) low) packets)

    pub packets_are : sum_by (λ t. t.done) tables ≡ length packets
    packets_are = done_is 0 tables stand ∙ (whole (λ _. 1) ∙ sym (length_is packets))

    bytes_are : sum_by (λ t. t.bytes) tables ≡ sum_by (λ p. p.original) packets
    bytes_are = bytes_is 0 tables stand ∙ whole (λ p. p.original)

    abbrev ks : List FlowKey
    ks = part_keys opening after bucket_of packets 0 tables

    keys_are : ordered_onto key_cmp key_cmp_total key_cmp_exact [] ks ≡ keys_of packets
    unfolding IsStrictlySortedBy
    keys_are =
        same_members key_cmp key_cmp_total key_cmp_exact (ordered_onto key_cmp key_cmp_total key_cmp_exact [] ks) (keys_of packets)
        (ordered_sorted key_cmp key_cmp_total key_cmp_exact [] ks tt) (keys_sorted packets)
        (λ q. ordered_has key_cmp key_cmp_total key_cmp_exact q [] ks ∙ (keys_have_all opening after bucket_of packets q tables (h.buckets q) ∙ sym (keys_among q packets)))

    flows_count : length (all_flows tables) ≡ length (keys_of packets)
    flows_count =
        ap length (flows_are opening after bucket_of packets 0 tables stand)
        ∙ (length_keyed (state opening after bucket_of packets) ks
        ∙ (sym (ordered_length_all key_cmp key_cmp_total key_cmp_exact ks (keys_distinct 0 tables)) ∙ ap length keys_are))

    -- their flows in key order are those of the packets
    in_order : in_key_order (all_flows tables) ≡ keyed (state opening after bucket_of packets) (keys_of packets)
    in_order =
        ap (in_key_order {S = S}) (flows_are opening after bucket_of packets 0 tables stand)
        ∙ (ordered_keyed key_cmp key_cmp_total key_cmp_exact (state opening after bucket_of packets) [] ks
        ∙ ap (keyed (state opening after bucket_of packets)) keys_are)

    pub text_is : (line : S → List ℕ) → tables_text line tables ≡ report opening after line packets
    text_is line =
        ap (λ (es : List (FlowKey × S)). flat_map (λ (e : FlowKey × S). flow_line line e.0 e.1) es ++ total_line (length (all_flows tables)) (sum_by (λ t. t.done) tables) (sum_by (λ t. t.bytes) tables)) in_order
        ∙ (ap (λ w. w ++ total_line (length (all_flows tables)) (sum_by (λ t. t.done) tables) (sum_by (λ t. t.bytes) tables)) (lines_keyed line (state opening after bucket_of packets) (keys_of packets))
        ∙ (λ i. flat_map (λ k. flow_line line k (state opening after bucket_of packets k)) (keys_of packets) ++ total_line (flows_count i) (packets_are i) (bytes_are i)))

    pub totals_are : totals_of tables ≡ record { flows = length (keys_of packets); packets = length packets; bytes = sum_by (λ p. p.original) packets }
    totals_are = λ i. record { flows = flows_count i; packets = packets_are i; bytes = bytes_are i }

    -- a key with a flow in the table at a place has that bucket
    placed : (b : ℕ) (t : TableOf S) (q : FlowKey) → slice_get tables b ≡ Some t → HasFlow t q → (bucket_of q == b) ≡ true
    placed b t q at has =
        let part = packets_at bucket_of b packets in
        let f : FlowKey → S = λ k. flow_state opening after k part in
        let found : list_any (same_key q) (first_keys part) ≡ true = sym (ap (λ (es : List (FlowKey × S)). list_any (λ e. same_key q e.0) es) (h.each b t at).flows ∙ any_keyed f q (first_keys part)) ∙ has in
        and_left (bucket_of q == b) (list_any (λ p. same_key q p.key) packets) (sym (part_has bucket_of b q packets) ∙ found)

    pub no_shared_key : AllPairs SharesNoKey tables
    no_shared_key i j d below within q one other =
        let first = placed i (get_or tables i d) q (slice_get-get_or tables i d (omega arith)) one in
        let second = placed j (get_or tables j d) q (slice_get-get_or tables j d within) other in
        grind (arith, nat_tests)
