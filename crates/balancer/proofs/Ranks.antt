-- The ranking of the buckets, and what is found in it.
use Rattle.std.proofs.Common.{◌≡◌, ◌⊎◌, ℕ, zero, suc, ◌<◌, ◌≤◌, List, [], ◌∷◌, ◌++◌, map, length, get_or, set, Bool, true, false, ◌||◌, eqb, cond, Some, None, refl, sym, ap, ◌∙◌, subst, inl, inr, ⊎_elim, arith, eq-eqb, ◌==◌}
use Rattle.std.specs.Prelude.{IsPermutation, IsSortedByKey}
use Rattle.std.specs.Cmp.{IsTotalOrder}
use Rattle.std.specs.List.{list_any}
use Rattle.std.specs.List.Sorted.{IsPartitionedBy}
use Rattle.std.specs.declared.cmp.Ordering.{Ordering}
use Rattle.std.specs.declared.cmp.Ordering.TheVariants.{Less, Equal, Greater}
use Rattle.std.specs.Ordering.{is_lt, nat_cmp, ordering_then}
use Rattle.std.proofs.lemmas.Bool.{cases_lt, lt-ltb, le-ltb}
use Rattle.std.proofs.lemmas.Cmp.{then_total, nat_cmp_total, on_total}
use Rattle.std.proofs.lemmas.List.{length-map, length-set, get_or-map, get_or-set_other, get_or_append_left, get_or_at, get_or_default}
use Rattle.std.proofs.lemmas.List.Elements.{All-map}
use Rattle.std.proofs.lemmas.List.Folds.{list_any-append}
use Rattle.std.proofs.lemmas.List.Sorted.{All-permutation, Contains-permutation, ranks_by, sorted_far}
use Rattle.indirection.specs.Views.{LoadsView}
use Rattle.indirection.specs.Tries.{upto}
use Rattle.indirection.proofs.Upto.{length-upto}
use Rattle.indirection.specs.declared.proposal.Proposal.{Proposal}
use Rattle.balancer.specs.declared.ranked.Ranked.{Ranked}
use Rattle.balancer.specs.Greedy.{RoundState}
use Rattle.balancer.specs.Ranking.{ranked, all_ranked, Before, IsInOrder, is_below, IsEntry, IsRanking, IsFree, IsFirstFree, IsLastFree}
use Rattle.balancer.proofs.Choices.{any_of}
use Rattle.balancer.proofs.Leading.{by_both}

differ : (x : Bool) → x ≡ true → x ≡ false → ⊥
differ true y z = cc
differ false y z = cc

-- the key by which the code sorts

abbrev pub key_of : Ranked → ℕ × ℕ × ℕ
key_of x = (x.owner, x.load, x.bucket)

abbrev pub by_key : ℕ × ℕ × ℕ → ℕ × ℕ × ℕ → Ordering
by_key x y = ordering_then (ordering_then (nat_cmp x.0 y.0) (nat_cmp x.1 y.1)) (nat_cmp x.2 y.2)

by_key_total : IsTotalOrder by_key
by_key_total = then_total (then_total (on_total (λ (t : ℕ × ℕ × ℕ). t.0) nat_cmp_total) (on_total (λ (t : ℕ × ℕ × ℕ). t.1) nat_cmp_total)) (on_total (λ (t : ℕ × ℕ × ℕ). t.2) nat_cmp_total)

cmp_less : (a b : ℕ) → a < b → nat_cmp a b ≡ Less
cmp_less a b h = ap (λ (t : Bool). cond t Less (cond (eqb a b) Equal Greater)) (lt-ltb a b h)

cmp_equal : (a b : ℕ) → a ≡ b → nat_cmp a b ≡ Equal
cmp_equal a b e = let h : b ≤ a = omega arith in ap (λ (t : Bool). cond t Less (cond (eqb a b) Equal Greater)) (le-ltb a b h) ∙ ap (λ (t : Bool). cond t Equal Greater) (eq-eqb a b e)

less_by_key : (x y : Ranked) → Before x y → is_lt (by_key (key_of x) (key_of y)) ≡ true
less_by_key x y h = ⊎_elim
    (λ (l : x.owner < y.owner). ap (λ (o : Ordering). is_lt (ordering_then (ordering_then o (nat_cmp x.load y.load)) (nat_cmp x.bucket y.bucket))) (cmp_less x.owner y.owner l))
    (λ (m : (x.owner ≡ y.owner) × ((x.load < y.load) ⊎ ((x.load ≡ y.load) × (x.bucket < y.bucket)))).
    ap (λ (o : Ordering). is_lt (ordering_then (ordering_then o (nat_cmp x.load y.load)) (nat_cmp x.bucket y.bucket))) (cmp_equal x.owner y.owner m.0)
    ∙ ⊎_elim
    (λ (l : x.load < y.load). ap (λ (o : Ordering). is_lt (ordering_then o (nat_cmp x.bucket y.bucket))) (cmp_less x.load y.load l))
    (λ (l : (x.load ≡ y.load) × (x.bucket < y.bucket)). ap (λ (o : Ordering). is_lt (ordering_then o (nat_cmp x.bucket y.bucket))) (cmp_equal x.load y.load l.0) ∙ ap is_lt (cmp_less x.bucket y.bucket l.1)) m.1) h

pub sorted_in_order : (xs : List Ranked) → IsSortedByKey key_of by_key xs → IsInOrder xs
sorted_in_order xs up i j d a b h = differ _ (less_by_key (get_or xs j d) (get_or xs i d) h) (sorted_far (λ x y. is_lt (by_key (key_of x) (key_of y))) (ranks_by by_key_total key_of) xs up i j d a b)

-- all buckets, in order

upto_at : (n k d : ℕ) → k < n → get_or (upto n) k d ≡ k
upto_at zero k d h = absurd (omega arith)
upto_at (suc n) k d h = ⊎_elim
    (λ (l : k < n). get_or_append_left (upto n) (n ∷ []) d k (subst (λ (x : ℕ). k < x) (sym (length-upto n)) l) ∙ upto_at n k d l)
    (λ (l : n ≤ k). let e : k ≡ n = omega arith in get_or_at (upto n) n [] d k (length-upto n ∙ sym e) ∙ sym e) (cases_lt k n)

pub length-all_ranked : (loads : LoadsView) (owners : List ℕ) (n : ℕ) → length (all_ranked loads owners n) ≡ n
length-all_ranked loads owners n = length-map (upto n) (λ b. ranked loads owners b) ∙ length-upto n

pub is_ranking : (loads : LoadsView) (owners : List ℕ) (xs : List Ranked) → IsPermutation (all_ranked loads owners (length owners)) xs → IsInOrder xs → IsRanking loads owners [] xs
is_ranking loads owners xs same order = record {
  each = All-permutation (IsEntry loads owners []) (all_ranked loads owners (length owners)) xs same
      (All-map (IsEntry loads owners []) (λ b. ranked loads owners b) (upto (length owners)) (λ k d h. let near : k < length owners = subst (λ (x : ℕ). k < x) (length-upto (length owners)) h in
      record { bucket = subst (λ (x : ℕ). x < length owners) (sym (upto_at (length owners) k d near)) near; load = refl; owner = λ _. refl }));
  every = λ b h.
      let long : b < length (upto (length owners)) = subst (λ (x : ℕ). b < x) (sym (length-upto (length owners))) h in
      let there : get_or (all_ranked loads owners (length owners)) b (ranked loads owners b) ≡ ranked loads owners b = get_or-map (λ b. ranked loads owners b) (upto (length owners)) b 0 (ranked loads owners b) long ∙ ap (λ (x : ℕ). ranked loads owners x) (upto_at (length owners) b 0 h) in
      let found = Contains-permutation (all_ranked loads owners (length owners)) xs (ranked loads owners b) same (b, subst (λ (x : ℕ). b < x) (sym (length-map (upto (length owners)) (λ b. ranked loads owners b))) long, there) in
      (found.0, found.1, λ d. ap (λ (x : Ranked). x.bucket) (get_or_default xs found.0 d (ranked loads owners b) found.1 ∙ found.2));
  order = order;
}

-- a ranking stays one where a bucket is proposed

neither : (x y : Bool) → (x || y) ≡ false → (x ≡ false) × (y ≡ false)
neither true y h = absurd (cc)
neither false y h = (refl, h)

pub ranking-moved : (loads : LoadsView) (owners taken : List ℕ) (xs : List Ranked) (b to : ℕ) → IsRanking loads owners taken xs → IsRanking loads (set owners b to) (taken ++ b ∷ []) xs
ranking-moved loads owners taken xs b to r = record {
  each = λ k d h. let e = r.each k d h in record {
    bucket = subst (λ (n : ℕ). (get_or xs k d).bucket < n) (sym (length-set owners b to)) e.bucket;
    load = e.load;
    owner = λ f. kept (get_or xs k d) e f;
  };
  every = λ k h. r.every k (subst (λ (n : ℕ). k < n) (length-set owners b to) h);
  order = r.order;
} where
  kept : (x : Ranked) → IsEntry loads owners taken x → list_any (λ y. y == x.bucket) (taken ++ b ∷ []) ≡ false → get_or (set owners b to) x.bucket 0 ≡ x.owner
  kept x e f =
      let both = neither (list_any (λ y. y == x.bucket) taken) (list_any (λ y. y == x.bucket) (b ∷ [])) (sym (list_any-append (λ y. y == x.bucket) taken (b ∷ [])) ∙ f) in
      let last = neither (b == x.bucket) false both.1 in
      get_or-set_other owners b x.bucket to 0 (λ q. differ (b == x.bucket) (eq-eqb b x.bucket (sym q)) last.0) ∙ e.owner both.0

-- a test that a search needs

pub parted : (core load : ℕ) (xs : List Ranked) → IsInOrder xs → IsPartitionedBy (is_below core load) xs
parted core load xs order i j d a b t =
    let x = get_or xs i d in let y = get_or xs j d in let late = order i j d a b in
    ⊎_elim
    (λ (p : (is_below core load y ≡ true) × ((y.owner < core) ⊎ ((y.owner ≡ core) × (y.load < load)))). ⊎_elim
    (λ (q : (is_below core load x ≡ true) × ((x.owner < core) ⊎ ((x.owner ≡ core) × (x.load < load)))). q.0)
    (λ (q : (is_below core load x ≡ false) × ((core < x.owner) ⊎ ((core ≡ x.owner) × (load ≤ x.load)))). absurd (late (earlier x y p.1 q.1)))
    (by_both x.owner core x.load load))
    (λ (p : (is_below core load y ≡ false) × ((core < y.owner) ⊎ ((core ≡ y.owner) × (load ≤ y.load)))). absurd (differ (is_below core load y) t p.0))
    (by_both y.owner core y.load load) where
      earlier : (x y : Ranked) → (y.owner < core) ⊎ ((y.owner ≡ core) × (y.load < load)) → (core < x.owner) ⊎ ((core ≡ x.owner) × (load ≤ x.load)) → Before y x
      earlier x y u v = ⊎_elim
          (λ (a : y.owner < core). ⊎_elim (λ (b : core < x.owner). inl (omega arith)) (λ (b : (core ≡ x.owner) × (load ≤ x.load)). let z = b.0 in inl (omega arith)) v)
          (λ (a : (y.owner ≡ core) × (y.load < load)). let w = a.0 in let z = a.1 in ⊎_elim (λ (b : core < x.owner). inl (omega arith)) (λ (b : (core ≡ x.owner) × (load ≤ x.load)). let t = b.0 in let k = b.1 in inr (omega arith, inl (omega arith))) v) u

-- the place of a search: below it stand the buckets of lower cores, and the core's with less load

pub record IsPlace (core load : ℕ) (xs : List Ranked) (place : ℕ) : Type 0 where
  pub below : (k : ℕ) (d : Ranked) → k < place → is_below core load (get_or xs k d) ≡ true
  pub behind : (k : ℕ) (d : Ranked) → place ≤ k → k < length xs → is_below core load (get_or xs k d) ≡ false

is_behind : (core load : ℕ) (x : Ranked) → is_below core load x ≡ false → (core < x.owner) ⊎ ((core ≡ x.owner) × (load ≤ x.load))
is_behind core load x f = ⊎_elim
    (λ (q : (is_below core load x ≡ true) × ((x.owner < core) ⊎ ((x.owner ≡ core) × (x.load < load)))). absurd (differ (is_below core load x) q.0 f))
    (λ (q : (is_below core load x ≡ false) × ((core < x.owner) ⊎ ((core ≡ x.owner) × (load ≤ x.load)))). q.1)
    (by_both x.owner core x.load load)

stands_below : (core load : ℕ) (x : Ranked) → is_below core load x ≡ true → (x.owner < core) ⊎ ((x.owner ≡ core) × (x.load < load))
stands_below core load x f = ⊎_elim
    (λ (q : (is_below core load x ≡ true) × ((x.owner < core) ⊎ ((x.owner ≡ core) × (x.load < load)))). q.1)
    (λ (q : (is_below core load x ≡ false) × ((core < x.owner) ⊎ ((core ≡ x.owner) × (load ≤ x.load)))). absurd (differ (is_below core load x) f q.0))
    (by_both x.owner core x.load load)

-- the bucket was proposed
abbrev pub is_taken : RoundState → Ranked → Bool
is_taken s x = list_any (λ b. b == x.bucket) s.taken

-- where a free bucket stands
record Spot (s : RoundState) (core b : ℕ) (xs : List Ranked) (d : Ranked) : Type 0 where
  at : ℕ
  inside : at < length xs
  bucket : (get_or xs at d).bucket ≡ b
  owner : (get_or xs at d).owner ≡ core
  load : (get_or xs at d).load ≡ get_or s.loads.bucket b 0
  free : is_taken s (get_or xs at d) ≡ false

spot : (s : RoundState) (core b : ℕ) (xs : List Ranked) (d : Ranked) → IsRanking s.loads s.owners s.taken xs → IsFree s core b → Spot s core b xs d
spot s core b xs d r f =
    let i = r.every b f.bucket in let e = r.each i.0 d i.1 in
    let free = subst (λ (x : ℕ). list_any (λ y. y == x) s.taken ≡ false) (sym (i.2 d)) f.once in
    record { at = i.0; inside = i.1; bucket = i.2 d; owner = sym (e.owner free) ∙ (ap (λ (x : ℕ). get_or s.owners x 0) (i.2 d) ∙ f.owner); load = e.load ∙ ap (λ (x : ℕ). get_or s.loads.bucket x 0) (i.2 d); free = free }

entry_free : (s : RoundState) (core : ℕ) (x : Ranked) → IsEntry s.loads s.owners s.taken x → is_taken s x ≡ false → x.owner ≡ core → IsFree s core x.bucket
entry_free s core x e f o = record { bucket = e.bucket; owner = e.owner f ∙ o; once = f }

-- a free bucket with at least the load stands behind the place, and one with less below it
at_behind : (s : RoundState) (core load b place : ℕ) (xs : List Ranked) (d : Ranked) → IsPlace core load xs place → (p : Spot s core b xs d) → load ≤ get_or s.loads.bucket b 0 → place ≤ p.at
at_behind s core load b place xs d is p h = ⊎_elim
    (λ (l : p.at < place). let o = p.owner in let w = p.load in absurd (⊎_elim
    (λ (x : (get_or xs p.at d).owner < core). omega arith)
    (λ (x : ((get_or xs p.at d).owner ≡ core) × ((get_or xs p.at d).load < load)). let y = x.1 in omega arith)
    (stands_below core load (get_or xs p.at d) (is.below p.at d l))))
    (λ (l : place ≤ p.at). l) (cases_lt p.at place)

at_below : (s : RoundState) (core load b place : ℕ) (xs : List Ranked) (d : Ranked) → IsPlace core load xs place → (p : Spot s core b xs d) → get_or s.loads.bucket b 0 < load → p.at < place
at_below s core load b place xs d is p h = ⊎_elim
    (λ (l : p.at < place). l)
    (λ (l : place ≤ p.at). let o = p.owner in let w = p.load in absurd (⊎_elim
    (λ (x : core < (get_or xs p.at d).owner). omega arith)
    (λ (x : (core ≡ (get_or xs p.at d).owner) × (load ≤ (get_or xs p.at d).load)). let y = x.1 in omega arith)
    (is_behind core load (get_or xs p.at d) (is.behind p.at d l p.inside)))) (cases_lt p.at place)

abbrev pub none_ranked : Ranked
none_ranked = record { owner = 0; load = 0; bucket = 0 }

-- what the code's test of a bucket says of its rank
pub tested : (ps : List Proposal) (xs : List Ranked) (j k : ℕ) (e d : Ranked) (t : Bool) → j < length xs → k ≡ j → list_any (λ (p : Proposal). p.bucket == (get_or xs j e).bucket) ps ≡ t
    → list_any (λ b. b == (get_or xs k d).bucket) (map (λ (p : Proposal). p.bucket) ps) ≡ t
tested ps xs j k e d t inside same h =
    ap (λ (x : Ranked). list_any (λ b. b == x.bucket) (map (λ (p : Proposal). p.bucket) ps)) (ap (λ (n : ℕ). get_or xs n d) same ∙ get_or_default xs j d e inside)
    ∙ (sym (any_of (get_or xs j e).bucket ps) ∙ h)

-- upwards

pub first_none : (s : RoundState) (core load place : ℕ) (xs : List Ranked) (d : Ranked) → IsRanking s.loads s.owners s.taken xs → IsPlace core load xs place
    → ((k : ℕ) → place ≤ k → k < length xs → is_taken s (get_or xs k d) ≡ true) → IsFirstFree s core load None
first_none s core load place xs d r is skipped b f = ⊎_elim
    (λ (l : get_or s.loads.bucket b 0 < load). l)
    (λ (l : load ≤ get_or s.loads.bucket b 0). let p = spot s core b xs d r f in
    absurd (differ (is_taken s (get_or xs p.at d)) (skipped p.at (at_behind s core load b place xs d is p l) p.inside) p.free))
    (cases_lt (get_or s.loads.bucket b 0) load)

module _ (s : RoundState) (core load place j : ℕ) (xs : List Ranked) (d : Ranked) (r : IsRanking s.loads s.owners s.taken xs) (is : IsPlace core load xs place)
    (from : place ≤ j) (inside : j < length xs) (free : is_taken s (get_or xs j d) ≡ false) (skipped : (k : ℕ) → place ≤ k → k < j → is_taken s (get_or xs k d) ≡ true) where
  reached : (b : ℕ) → (p : Spot s core b xs d) → load ≤ get_or s.loads.bucket b 0 → j ≤ p.at
  reached b p h = ⊎_elim
      (λ (l : p.at < j). absurd (differ (is_taken s (get_or xs p.at d)) (skipped p.at (at_behind s core load b place xs d is p h) l) p.free))
      (λ (l : j ≤ p.at). l) (cases_lt p.at j)

  pub first_other : ((get_or xs j d).owner ≡ core → ⊥) → IsFirstFree s core load None
  first_other ne b f = ⊎_elim
      (λ (l : get_or s.loads.bucket b 0 < load). l)
      (λ (l : load ≤ get_or s.loads.bucket b 0). let p = spot s core b xs d r f in let o = p.owner in
      let late = r.order j p.at d (reached b p l) p.inside in
      absurd (⊎_elim
      (λ (x : core < (get_or xs j d).owner). late (inl (omega arith)))
      (λ (x : (core ≡ (get_or xs j d).owner) × (load ≤ (get_or xs j d).load)). ne (sym x.0))
      (is_behind core load (get_or xs j d) (is.behind j d from inside))))
      (cases_lt (get_or s.loads.bucket b 0) load)

  pub first_found : (get_or xs j d).owner ≡ core → IsFirstFree s core load (Some (get_or xs j d).bucket)
  first_found o = let e = r.each j d inside in let w = e.load in (
    entry_free s core (get_or xs j d) e free o,
    ⊎_elim
        (λ (x : core < (get_or xs j d).owner). absurd (omega arith))
        (λ (x : (core ≡ (get_or xs j d).owner) × (load ≤ (get_or xs j d).load)). let y = x.1 in omega arith)
        (is_behind core load (get_or xs j d) (is.behind j d from inside)),
    λ b f l. let p = spot s core b xs d r f in let late = r.order j p.at d (reached b p l) p.inside in let u = p.owner in let v = p.load in let n = p.bucket in ⊎_elim
        (λ (x : get_or s.loads.bucket b 0 < (get_or xs j d).load). absurd (late (inr (omega arith, inl (omega arith)))))
        (λ (x : (get_or xs j d).load ≤ get_or s.loads.bucket b 0). ⊎_elim
        (λ (y : (get_or xs j d).load < get_or s.loads.bucket b 0). inl (omega arith))
        (λ (y : get_or s.loads.bucket b 0 ≤ (get_or xs j d).load). inr (
          omega arith,
          ⊎_elim
              (λ (z : b < (get_or xs j d).bucket). absurd (late (inr (omega arith, inr (omega arith, omega arith)))))
              (λ (z : (get_or xs j d).bucket ≤ b). z)
              (cases_lt b (get_or xs j d).bucket),
        ))
        (cases_lt (get_or xs j d).load (get_or s.loads.bucket b 0)))
        (cases_lt (get_or s.loads.bucket b 0) (get_or xs j d).load),
  )

-- downwards

pub last_none : (s : RoundState) (core load place : ℕ) (xs : List Ranked) (d : Ranked) → IsRanking s.loads s.owners s.taken xs → IsPlace core load xs place
    → ((k : ℕ) → k < place → is_taken s (get_or xs k d) ≡ true) → IsLastFree s core load None
last_none s core load place xs d r is skipped b f = ⊎_elim
    (λ (l : get_or s.loads.bucket b 0 < load). let p = spot s core b xs d r f in
    absurd (differ (is_taken s (get_or xs p.at d)) (skipped p.at (at_below s core load b place xs d is p l)) p.free))
    (λ (l : load ≤ get_or s.loads.bucket b 0). l)
    (cases_lt (get_or s.loads.bucket b 0) load)

module _ (s : RoundState) (core load place j : ℕ) (xs : List Ranked) (d : Ranked) (r : IsRanking s.loads s.owners s.taken xs) (is : IsPlace core load xs place)
    (below : j < place) (inside : j < length xs) (free : is_taken s (get_or xs j d) ≡ false) (skipped : (k : ℕ) → j < k → k < place → is_taken s (get_or xs k d) ≡ true) where
  lowered : (b : ℕ) → (p : Spot s core b xs d) → get_or s.loads.bucket b 0 < load → p.at ≤ j
  lowered b p h = ⊎_elim
      (λ (l : j < p.at). absurd (differ (is_taken s (get_or xs p.at d)) (skipped p.at l (at_below s core load b place xs d is p h)) p.free))
      (λ (l : p.at ≤ j). l) (cases_lt j p.at)

  pub last_other : ((get_or xs j d).owner ≡ core → ⊥) → IsLastFree s core load None
  last_other ne b f = ⊎_elim
      (λ (l : get_or s.loads.bucket b 0 < load). let p = spot s core b xs d r f in let o = p.owner in
      let late = r.order p.at j d (lowered b p l) inside in
      absurd (⊎_elim
      (λ (x : (get_or xs j d).owner < core). late (inl (omega arith)))
      (λ (x : ((get_or xs j d).owner ≡ core) × ((get_or xs j d).load < load)). ne x.0)
      (stands_below core load (get_or xs j d) (is.below j d below))))
      (λ (l : load ≤ get_or s.loads.bucket b 0). l)
      (cases_lt (get_or s.loads.bucket b 0) load)

  pub last_found : (get_or xs j d).owner ≡ core → IsLastFree s core load (Some (get_or xs j d).load)
  last_found o = let e = r.each j d inside in (
    ((get_or xs j d).bucket, entry_free s core (get_or xs j d) e free o, sym e.load),
    ⊎_elim
        (λ (x : (get_or xs j d).owner < core). absurd (omega arith))
        (λ (x : ((get_or xs j d).owner ≡ core) × ((get_or xs j d).load < load)). x.1)
        (stands_below core load (get_or xs j d) (is.below j d below)),
    λ b f l. let p = spot s core b xs d r f in let late = r.order p.at j d (lowered b p l) inside in let u = p.owner in let v = p.load in ⊎_elim
        (λ (x : (get_or xs j d).load < get_or s.loads.bucket b 0). absurd (late (inr (omega arith, inl (omega arith)))))
        (λ (x : get_or s.loads.bucket b 0 ≤ (get_or xs j d).load). x)
        (cases_lt (get_or xs j d).load (get_or s.loads.bucket b 0)),
  )
