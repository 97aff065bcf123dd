-- Keys that are put into order one by one: what they are depends on which keys there are, and not on their order.
use Rattle.std.proofs.Common.{◌≡◌, ◌+◌, arith, List, [], ◌∷◌, length, refl, sym, ap, ◌∙◌, Bool, true, false, ◌||◌, fold}
use Rattle.std.proofs.lemmas.Bool.{true≢false}
use Rattle.std.specs.declared.cmp.Ordering.{Ordering}
use Rattle.std.specs.declared.cmp.Ordering.TheVariants.{Less, Equal, Greater}
use Rattle.std.specs.Ordering.{is_eq, ordering_reverse}
use Rattle.std.specs.Cmp.{IsTotalOrder}
use Rattle.std.specs.List.{AllByRecursion, IsDistinct, list_any}
use Rattle.std.specs.List.Sorted.{IsStrictlySortedBy}
use Rattle.std.specs.BTreeSet.{insert_key}
use Rattle.std.specs.BTreeMap.{insert_entry}
use Rattle.std.proofs.lemmas.Cmp.{tied_itself, eq_by_cmp_equiv}
use Rattle.bucket_table.proofs.Keyed.{keyed}
use Rattle.flow_report.proofs.Keys.{has_inserted, sorted_inserted}

or_assoc : (a b c : Bool) → ((a || b) || c) ≡ (a || (b || c))
or_assoc true b c = refl
or_assoc false b c = refl

or_none : (a : Bool) → (a || false) ≡ a
or_none true = refl
or_none false = refl

module _ {K : Type 0} (T : K → K → Ordering) (total : IsTotalOrder T) (exact : (a b : K) → T a b ≡ Equal → a ≡ b) where
  abbrev has : K → List K → Bool
  has q ks = list_any (λ k. is_eq (T q k)) ks

  -- a key below all is not among them
  has_below : (q : K) (ks : List K) → AllByRecursion (λ y. T q y ≡ Less) ks → has q ks ≡ false
  has_below q [] h = refl
  has_below q (k ∷ ks) h = ap (λ o. is_eq o || has q ks) h.0 ∙ has_below q ks h.1

  all_above : (a b : K) → T a b ≡ Less → (ks : List K) → AllByRecursion (λ y. T b y ≡ Less) ks → AllByRecursion (λ y. T a y ≡ Less) ks
  all_above a b h [] l = tt
  all_above a b h (k ∷ ks) l = (total.trans a b k h l.0, all_above a b h ks l.1)

  has_head : (k : K) (ks : List K) → has k (k ∷ ks) ≡ true
  has_head k ks = ap (λ o. is_eq o || has k ks) (tied_itself total k)

  flips : (a b : K) → is_eq (T a b) ≡ is_eq (T b a)
  flips a b = (eq_by_cmp_equiv total).symm a b

  -- lists in strict order with the same members are one
  pub same_members : (xs ys : List K) → IsStrictlySortedBy T xs → IsStrictlySortedBy T ys → ((q : K) → has q xs ≡ has q ys) → xs ≡ ys
  unfolding IsStrictlySortedBy
  same_members [] [] a b h = refl
  same_members [] (y ∷ ys) a b h = absurd (true≢false (sym (has_head y ys) ∙ sym (h y)))
  same_members (x ∷ xs) [] a b h = absurd (true≢false (sym (has_head x xs) ∙ h x))
  same_members (x ∷ xs) (y ∷ ys) a b h = at_head (T x y) refl (same_members xs ys a.1 b.1)
    where
      tails : x ≡ y → (q : K) → has q xs ≡ has q ys
      tails one q = by (is_eq (T q x)) refl
        where
          by : (r : Bool) → is_eq (T q x) ≡ r → has q xs ≡ has q ys
          by true e =
              let o : T q x ≡ Equal = is_eq-Equal (T q x) e in
              let here : q ≡ x = exact q x o in
              let left : has q xs ≡ false = ap (λ (k : K). has k xs) here ∙ has_below x xs a.0 in
              let right : has q ys ≡ false = ap (λ (k : K). has k ys) (here ∙ one) ∙ has_below y ys b.0 in
              left ∙ sym right
            where
              is_eq-Equal : (o : Ordering) → is_eq o ≡ true → o ≡ Equal
              is_eq-Equal Less z = absurd (true≢false (sym z))
              is_eq-Equal Equal z = refl
              is_eq-Equal Greater z = absurd (true≢false (sym z))
          by false e =
              let left : has q (x ∷ xs) ≡ has q xs = ap (λ r. r || has q xs) e in
              let right : has q (y ∷ ys) ≡ has q ys = ap (λ (k : K). is_eq (T q k) || has q ys) (sym one) ∙ ap (λ r. r || has q ys) e in
              sym left ∙ (h q ∙ right)

      at_head : (o : Ordering) → T x y ≡ o → (((q : K) → has q xs ≡ has q ys) → xs ≡ ys) → x ∷ xs ≡ y ∷ ys
      at_head Less e later =
          let none : has x (y ∷ ys) ≡ false = has_below x (y ∷ ys) (e, all_above x y e ys b.0) in
          absurd (true≢false (sym (has_head x xs) ∙ (h x ∙ none)))
      at_head Equal e later =
          let one : x ≡ y = exact x y e in
          ap (λ k. k ∷ xs) one ∙ ap (λ l. y ∷ l) (later (tails one))
      at_head Greater e later =
          let less : T y x ≡ Less = total.antisymm y x ∙ ap ordering_reverse e in
          let none : has y (x ∷ xs) ≡ false = has_below y (x ∷ xs) (less, all_above y x less xs a.0) in
          absurd (true≢false (sym (has_head y ys) ∙ (sym (h y) ∙ none)))

  -- the keys, put into order behind those that are
  abbrev pub ordered_onto : List K → List K → List K
  ordered_onto acc ks = fold (λ sorted k. insert_key T sorted k) acc ks

  pub ordered_sorted : (acc ks : List K) → IsStrictlySortedBy T acc → IsStrictlySortedBy T (ordered_onto acc ks)
  ordered_sorted acc [] s = s
  ordered_sorted acc (k ∷ ks) s = ordered_sorted (insert_key T acc k) ks (sorted_inserted T total exact acc k s)

  pub ordered_has : (q : K) (acc ks : List K) → has q (ordered_onto acc ks) ≡ (has q acc || has q ks)
  ordered_has q acc [] = sym (or_none (has q acc))
  ordered_has q acc (k ∷ ks) =
      ordered_has q (insert_key T acc k) ks
      ∙ (ap (λ b. b || has q ks) (has_inserted T total exact q acc k) ∙ or_assoc (has q acc) (is_eq (T q k)) (has q ks))

  length_inserted : (ks : List K) (k : K) → has k ks ≡ false → length (insert_key T ks k) ≡ length ks + 1
  length_inserted [] k h = refl
  length_inserted (x ∷ xs) k h = at_head (T k x) refl (length_inserted xs k)
    where
      at_head : (o : Ordering) → T k x ≡ o → (has k xs ≡ false → length (insert_key T xs k) ≡ length xs + 1) → length (insert_key T (x ∷ xs) k) ≡ length (x ∷ xs) + 1
      at_head Less e later = rw e (omega arith)
      at_head Equal e later = absurd (true≢false (sym (ap (λ o. is_eq o || has k xs) e) ∙ h))
      at_head Greater e later =
          let rest : has k xs ≡ false = sym (ap (λ o. is_eq o || has k xs) e) ∙ h in
          let more = later rest in
          rw e (omega (arith, more))

  -- none of the keys is among those that are in order
  abbrev Apart : List K → List K → Type 0
  Apart acc ks = AllByRecursion (λ k. has k acc ≡ false) ks

  still_apart : (acc : List K) (k : K) (ks : List K) → AllByRecursion (λ y. is_eq (T k y) ≡ false) ks → Apart acc ks → Apart (insert_key T acc k) ks
  still_apart acc k [] d h = tt
  still_apart acc k (y ∷ ys) d h =
      let both : (a b : Bool) → a ≡ false → b ≡ false → (a || b) ≡ false = λ a b p q. ap (λ x. x || b) p ∙ q in
      (has_inserted T total exact y acc k ∙ both (has y acc) (is_eq (T y k)) h.0 (flips y k ∙ d.0), still_apart acc k ys d.1 h.1)

  pub ordered_length : (acc ks : List K) → IsDistinct (λ a b. is_eq (T a b)) ks → Apart acc ks → length (ordered_onto acc ks) ≡ length acc + length ks
  unfolding IsDistinct
  ordered_length acc [] d h = omega arith
  ordered_length acc (k ∷ ks) d h =
      let later = ordered_length (insert_key T acc k) ks d.1 (still_apart acc k ks d.0 h.1) in
      let one = length_inserted acc k h.0 in
      omega (arith, later, one)

  none_apart : (ks : List K) → Apart [] ks
  none_apart [] = tt
  none_apart (k ∷ ks) = (refl, none_apart ks)

  pub ordered_length_all : (ks : List K) → IsDistinct (λ a b. is_eq (T a b)) ks → length (ordered_onto [] ks) ≡ length ks
  ordered_length_all ks d = let e = ordered_length [] ks d (none_apart ks) in omega (arith, e)

  module _ {S : Type 0} (f : K → S) where
    -- an entry is put in, where entries are a function of their keys
    insert_keyed : (ks : List K) (key : K) → insert_entry T (keyed f ks) key (f key) ≡ keyed f (insert_key T ks key)
    insert_keyed [] key = refl
    insert_keyed (x ∷ xs) key = at_head (T key x) refl (insert_keyed xs key)
      where
        at_head : (o : Ordering) → T key x ≡ o → insert_entry T (keyed f xs) key (f key) ≡ keyed f (insert_key T xs key) → insert_entry T (keyed f (x ∷ xs)) key (f key) ≡ keyed f (insert_key T (x ∷ xs) key)
        at_head Less e later = rw e refl
        at_head Equal e later = rw e (ap (λ (k : K). (x, f k) ∷ keyed f xs) (exact key x e))
        at_head Greater e later = rw e (ap (λ l. (x, f x) ∷ l) later)

    pub ordered_keyed : (acc ks : List K) → fold (λ sorted e. insert_entry T sorted e.0 e.1) (keyed f acc) (keyed f ks) ≡ keyed f (ordered_onto acc ks)
    ordered_keyed acc [] = refl
    ordered_keyed acc (k ∷ ks) =
        ap (λ (es : List (K × S)). fold (λ (sorted : List (K × S)) (e : K × S). insert_entry T sorted e.0 e.1) es (keyed f ks)) (insert_keyed acc k)
        ∙ ordered_keyed (insert_key T acc k) ks
