-- The keys of a list of packets are in order, and each packet's key is among them and no other.
use Rattle.std.proofs.Common.{◌≡◌, List, [], ◌∷◌, refl, sym, ap, ◌∙◌, Bool, true, false, ◌||◌, fold}
use Rattle.std.specs.declared.cmp.Ordering.{Ordering}
use Rattle.std.specs.declared.cmp.Ordering.TheVariants.{Less, Equal, Greater}
use Rattle.std.specs.Ordering.{is_eq, ordering_reverse}
use Rattle.std.specs.Cmp.{IsTotalOrder}
use Rattle.std.specs.List.{AllByRecursion, list_any}
use Rattle.std.specs.List.Sorted.{IsStrictlySortedBy}
use Rattle.std.specs.BTreeSet.{insert_key}
use Rattle.packet_fields.specs.declared.key.FlowKey.{FlowKey}
use Rattle.packet_fields.specs.declared.packet.PacketInfo.{PacketInfo}
use Rattle.packet_fields.specs.Key.{key_cmp}
use Rattle.packet_fields.specs.KeyOrder.{key_cmp_total, key_cmp_exact}
use Rattle.flow_report.specs.Report.{keys_of}

or_again : (a r : Bool) → ((a || r) || a) ≡ (a || r)
or_again true r = refl
or_again false true = refl
or_again false false = refl

or_swap : (a b : Bool) → (a || b) ≡ (b || a)
or_swap true true = refl
or_swap true false = refl
or_swap false true = refl
or_swap false false = refl

or_assoc : (a b c : Bool) → ((a || b) || c) ≡ (a || (b || c))
or_assoc true b c = refl
or_assoc false b c = refl

or_none : (a : Bool) → (a || false) ≡ a
or_none true = refl
or_none false = refl

module _ {K : Type 0} (T : K → K → Ordering) (total : IsTotalOrder T) (exact : (a b : K) → T a b ≡ Equal → a ≡ b) where
  -- whether a key is among the keys
  abbrev has : K → List K → Bool
  has q ks = list_any (λ k. is_eq (T q k)) ks

  pub has_inserted : (q : K) (ks : List K) (k : K) → has q (insert_key T ks k) ≡ (has q ks || is_eq (T q k))
  has_inserted q [] k = or_none (is_eq (T q k))
  has_inserted q (x ∷ xs) k = at_head (T k x) refl (has_inserted q xs k)
    where
      at_head : (o : Ordering) → T k x ≡ o → has q (insert_key T xs k) ≡ (has q xs || is_eq (T q k)) → has q (insert_key T (x ∷ xs) k) ≡ (has q (x ∷ xs) || is_eq (T q k))
      at_head Less e later = rw e (or_swap (is_eq (T q k)) (has q (x ∷ xs)))
      at_head Equal e later = rw e (sym (ap (λ (y : K). has q (x ∷ xs) || is_eq (T q y)) (exact k x e) ∙ or_again (is_eq (T q x)) (has q xs)))
      at_head Greater e later = rw e (ap (λ b. is_eq (T q x) || b) later ∙ sym (or_assoc (is_eq (T q x)) (has q xs) (is_eq (T q k))))

  above_inserted : (x : K) (ks : List K) (k : K) → AllByRecursion (λ y. T x y ≡ Less) ks → T x k ≡ Less → AllByRecursion (λ y. T x y ≡ Less) (insert_key T ks k)
  above_inserted x [] k h l = (l, tt)
  above_inserted x (y ∷ ys) k h l = at_head (T k y) refl (above_inserted x ys k h.1 l)
    where
      at_head : (o : Ordering) → T k y ≡ o → AllByRecursion (λ z. T x z ≡ Less) (insert_key T ys k) → AllByRecursion (λ z. T x z ≡ Less) (insert_key T (y ∷ ys) k)
      at_head Less e later = rw e (l, h)
      at_head Equal e later = rw e h
      at_head Greater e later = rw e (h.0, later)

  all_above : (a b : K) → T a b ≡ Less → (ks : List K) → AllByRecursion (λ y. T b y ≡ Less) ks → AllByRecursion (λ y. T a y ≡ Less) ks
  all_above a b h [] l = tt
  all_above a b h (k ∷ ks) l = (total.trans a b k h l.0, all_above a b h ks l.1)

  pub sorted_inserted : (ks : List K) (k : K) → IsStrictlySortedBy T ks → IsStrictlySortedBy T (insert_key T ks k)
  unfolding IsStrictlySortedBy
  sorted_inserted [] k s = (tt, tt)
  sorted_inserted (x ∷ xs) k s = at_head (T k x) refl (sorted_inserted xs k s.1)
    where
      at_head : (o : Ordering) → T k x ≡ o → IsStrictlySortedBy T (insert_key T xs k) → IsStrictlySortedBy T (insert_key T (x ∷ xs) k)
      at_head Less e later = rw e ((e, all_above k x e xs s.0), s)
      at_head Equal e later = rw e s
      at_head Greater e later = rw e (above_inserted x xs k s.0 (total.antisymm x k ∙ ap ordering_reverse e), later)

sorted_from : (ks : List FlowKey) (ps : List PacketInfo) → IsStrictlySortedBy key_cmp ks → IsStrictlySortedBy key_cmp (fold (λ keys p. insert_key key_cmp keys p.key) ks ps)
sorted_from ks [] s = s
sorted_from ks (p ∷ ps) s = sorted_from (insert_key key_cmp ks p.key) ps (sorted_inserted key_cmp key_cmp_total key_cmp_exact ks p.key s)

pub keys_sorted : (ps : List PacketInfo) → IsStrictlySortedBy key_cmp (keys_of ps)
unfolding IsStrictlySortedBy
keys_sorted ps = sorted_from [] ps tt

among_from : (q : FlowKey) (ks : List FlowKey) (ps : List PacketInfo) → list_any (λ k. is_eq (key_cmp q k)) (fold (λ keys p. insert_key key_cmp keys p.key) ks ps) ≡ (list_any (λ k. is_eq (key_cmp q k)) ks || list_any (λ p. is_eq (key_cmp q p.key)) ps)
among_from q ks [] = sym (or_none (list_any (λ k. is_eq (key_cmp q k)) ks))
among_from q ks (p ∷ ps) =
    among_from q (insert_key key_cmp ks p.key) ps
    ∙ (ap (λ b. b || list_any (λ p. is_eq (key_cmp q p.key)) ps) (has_inserted key_cmp key_cmp_total key_cmp_exact q ks p.key)
    ∙ or_assoc (list_any (λ k. is_eq (key_cmp q k)) ks) (is_eq (key_cmp q p.key)) (list_any (λ p. is_eq (key_cmp q p.key)) ps))

pub keys_among : (q : FlowKey) (ps : List PacketInfo) → list_any (λ k. is_eq (key_cmp q k)) (keys_of ps) ≡ list_any (λ p. is_eq (key_cmp q p.key)) ps
keys_among q ps = among_from q [] ps
