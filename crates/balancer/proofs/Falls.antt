-- Each allowed pair lowers the imbalance.
use Rattle.std.proofs.Common.{◌≡◌, ◌≢◌, ℕ, suc, zero, ◌+◌, ◌-◌, ◌*◌, ◌<◌, ◌≤◌, List, [], ◌∷◌, map, length, get_or, set, Bool, true, false, if◌then◌else◌, ◌==◌, eq-eqb, ne_eqb, refl, sym, ap, ◌∙◌, subst, ⊎_elim, arith}
use Rattle.std.proofs.lemmas.List.{length-set, length-map, map-append, get_or-set_other, get_or-set_same, get_or_append_left, get_or_at, same_lists, get_or_default}
use Rattle.std.proofs.lemmas.Bool.{cases_lt, cases_eq}
use Rattle.indirection.specs.Tries.{upto}
use Rattle.indirection.proofs.Upto.{length-upto}
use Rattle.balancer.specs.Imbalance.{imbalance, owned, load, core_loads}
use Rattle.balancer.specs.Greedy.{RoundState, IsAllowed, gain, load_in}
use Rattle.balancer.proofs.Sums.{imbalance-falls}

-- the answer for a number below a bound
pub value_at : (g : ℕ → ℕ) (n k : ℕ) → k < n → get_or (map g (upto n)) k 0 ≡ g k
value_at g zero k h = absurd (omega arith)
value_at g (suc n) k h = ap (λ (z : List ℕ). get_or z k 0) (map-append g (upto n) (n ∷ []))
    ∙ ⊎_elim (λ (l : k < n). get_or_append_left (map g (upto n)) (g n ∷ []) 0 k (subst (λ (x : ℕ). k < x) (sym long) l) ∙ value_at g n k l)
    (λ (l : n ≤ k). let e : k ≡ n = omega arith in get_or_at (map g (upto n)) (g n) [] 0 k (long ∙ sym e) ∙ ap g (sym e)) (cases_lt k n) where
      long : length (map g (upto n)) ≡ n
      long = length-map (upto n) g ∙ length-upto n

-- what a core carries, where a bucket of another core becomes its own or another's

nothing : (t : Bool) → ◌≡◌ {A = ℕ} (if t then 0 else 0) 0
nothing true = refl
nothing false = refl

owned-set : (e d : ℕ) (owners ws : List ℕ) (b : ℕ) → b < length owners → owned e (set owners b d) ws + (if get_or owners b 0 == e then get_or ws b 0 else 0) ≡ owned e owners ws + (if d == e then get_or ws b 0 else 0)
owned-set e d [] ws b h = absurd (omega arith)
owned-set e d (o ∷ os) [] zero h = let f = nothing (o == e) in let g = nothing (d == e) in omega arith
owned-set e d (o ∷ os) [] (suc b) h = let f = nothing (get_or os b 0 == e) in let g = nothing (d == e) in omega arith
owned-set e d (o ∷ os) (w ∷ ws) zero h = omega arith
owned-set e d (o ∷ os) (w ∷ ws) (suc b) h = let r = owned-set e d os ws b (omega arith) in omega arith

-- the loads of the cores after a move: the bucket's load went from its owner to the other core
pub core_loads-moved : (s : RoundState) (b d : ℕ) → IsAllowed s b d → core_loads s.cores s.loads (set s.owners b d)
    ≡ set (set (core_loads s.cores s.loads s.owners) (get_or s.owners b 0) (load_in s (get_or s.owners b 0) - get_or s.loads.bucket b 0)) d (load_in s d + get_or s.loads.bucket b 0)
core_loads-moved s b d a = same where
  c : ℕ
  c = get_or s.owners b 0

  w : ℕ
  w = get_or s.loads.bucket b 0

  y : ℕ
  y = load_in s d

  left : ℕ
  left = load_in s c - w

  ls : List ℕ
  ls = core_loads s.cores s.loads s.owners

  after : List ℕ
  after = core_loads s.cores s.loads (set s.owners b d)

  long : length ls ≡ s.cores
  long = length-map (upto s.cores) (load s.loads s.owners) ∙ length-upto s.cores

  apart_cores : c ≢ d
  apart_cores q = let h = a.above in let l = a.below in let f = ap (λ (x : ℕ). s.cores * load_in s x) q in absurd (omega arith)

  changed : (k : ℕ) → load s.loads (set s.owners b d) k + (if c == k then w else 0) ≡ load s.loads s.owners k + (if d == k then w else 0)
  changed k = let h = owned-set k d s.owners s.loads.bucket b a.bucket in omega arith

  at_d : load s.loads (set s.owners b d) d ≡ y + w
  at_d = let h = changed d in let f = ap (λ (t : Bool). if t then w else 0) (ne_eqb c d apart_cores) in let g = ap (λ (t : Bool). if t then w else 0) (eq-eqb d d refl) in omega arith

  at_c : load s.loads (set s.owners b d) c ≡ left
  at_c = let h = changed c in let f = ap (λ (t : Bool). if t then w else 0) (eq-eqb c c refl) in let g = ap (λ (t : Bool). if t then w else 0) (ne_eqb d c (λ q. apart_cores (sym q))) in let x = a.fits in omega arith

  at_other : (k : ℕ) → c ≢ k → d ≢ k → load s.loads (set s.owners b d) k ≡ load s.loads s.owners k
  at_other k nc nd = let h = changed k in let f = ap (λ (t : Bool). if t then w else 0) (ne_eqb c k nc) in let g = ap (λ (t : Bool). if t then w else 0) (ne_eqb d k nd) in omega arith

  moved : List ℕ
  moved = set (set ls c left) d (y + w)

  long_after : length after ≡ s.cores
  long_after = length-map (upto s.cores) (load s.loads (set s.owners b d)) ∙ length-upto s.cores

  value : (k : ℕ) → k < s.cores → get_or after k 0 ≡ get_or moved k 0
  value k h = value_at (load s.loads (set s.owners b d)) s.cores k h ∙ ⊎_elim
      (λ (q : d ≡ k). subst (λ (x : ℕ). load s.loads (set s.owners b d) x ≡ get_or moved x 0) q
      (at_d ∙ sym (get_or-set_same (set ls c left) d (y + w) 0 (subst (λ (x : ℕ). d < x) (sym (length-set ls c left ∙ long)) a.core))))
      (λ (nd : d ≡ k → ⊥). ⊎_elim
      (λ (q : c ≡ k). subst (λ (x : ℕ). load s.loads (set s.owners b d) x ≡ get_or moved x 0) q
      (at_c ∙ sym (get_or-set_other (set ls c left) d c (y + w) 0 apart_cores ∙ get_or-set_same ls c left 0 (subst (λ (x : ℕ). c < x) (sym long) a.owner))))
      (λ (nc : c ≡ k → ⊥). at_other k nc nd ∙ sym (get_or-set_other (set ls c left) d k (y + w) 0 (λ q. nd (sym q)) ∙ (get_or-set_other ls c k left 0 (λ q. nc (sym q)) ∙ value_at (load s.loads s.owners) s.cores k h)))
      (cases_eq c k)) (cases_eq d k)

  same : after ≡ moved
  same = same_lists after moved (long_after ∙ sym (length-set (set ls c left) d (y + w) ∙ (length-set ls c left ∙ long)))
      (λ k z h. let g : k < s.cores = subst (λ (x : ℕ). k < x) long_after h in
      get_or_default after k z 0 h ∙ (value k g ∙ sym (get_or_default moved k z 0 (subst (λ (x : ℕ). k < x) (sym (length-set (set ls c left) d (y + w) ∙ (length-set ls c left ∙ long))) g))))

-- the imbalance falls by twice the square of N times the gain, where the bucket's owner becomes d
pub imbalance-allowed : (s : RoundState) (b d : ℕ) → IsAllowed s b d → imbalance (core_loads s.cores s.loads s.owners) ≡ imbalance (core_loads s.cores s.loads (set s.owners b d)) + 2 * (s.cores * s.cores) * gain s b d
imbalance-allowed s b d a =
    subst (λ (x : ℕ). imbalance ls ≡ imbalance after + 2 * (x * x) * gain s b d) long
    (subst (λ (z : List ℕ). imbalance ls ≡ imbalance z + 2 * (length ls * length ls) * gain s b d) (sym same)
    (imbalance-falls ls c d y w e apart_cores (subst (λ (x : ℕ). c < x) (sym long) a.owner) (subst (λ (x : ℕ). d < x) (sym long) a.core)
    (value_at (load s.loads s.owners) s.cores c a.owner ∙ x_is) (value_at (load s.loads s.owners) s.cores d a.core))) where
      c : ℕ
      c = get_or s.owners b 0

      w : ℕ
      w = get_or s.loads.bucket b 0

      y : ℕ
      y = load_in s d

      e : ℕ
      e = load_in s c - y - w

      ls : List ℕ
      ls = core_loads s.cores s.loads s.owners

      after : List ℕ
      after = core_loads s.cores s.loads (set s.owners b d)

      long : length ls ≡ s.cores
      long = length-map (upto s.cores) (load s.loads s.owners) ∙ length-upto s.cores

      x_is : load_in s c ≡ y + w + e
      x_is = let h = a.fits in omega arith

      apart_cores : c ≢ d
      apart_cores q = let h = a.above in let l = a.below in let f = ap (λ (x : ℕ). s.cores * load_in s x) q in absurd (omega arith)

      left : load_in s c - w ≡ y + e
      left = let h = x_is in omega arith

      same : after ≡ set (set ls c (y + e)) d (y + w)
      same = core_loads-moved s b d a ∙ ap (λ (x : ℕ). set (set ls c x) d (y + w)) left
