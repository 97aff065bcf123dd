-- What the cores carry.
use Rattle.std.proofs.Common.{◌≡◌, ℕ, suc, zero, ◌+◌, ◌*◌, ◌^◌, ◌<◌, ◌≤◌, List, [], ◌∷◌, length, get_or, set, take, sum, All, Bool, true, false, if◌then◌else◌, ◌==◌, eq-eqb, ne_eqb, refl, sym, ap, ◌∙◌, subst, ⊎_elim, arith, add-one}
use Rattle.std.proofs.Math.Nat.{mul-le-mul_left, mul-le-mul_right}
use Rattle.std.proofs.lemmas.List.{length-map, length-set, length-take, get_or-set_other, get_or-set_same, same_lists, get_or_default}
use Rattle.std.proofs.lemmas.List.Elements.{All-get_or, All-from_get_or, All-take}
use Rattle.std.proofs.lemmas.List.Sums.{sum_by-le}
use Rattle.std.proofs.lemmas.Bool.{cases_eq}
use Rattle.indirection.specs.Views.{LoadsView}
use Rattle.indirection.specs.Tries.{upto}
use Rattle.indirection.proofs.Upto.{length-upto}
use Rattle.balancer.specs.Imbalance.{owned, load, core_loads}
use Rattle.balancer.specs.Greedy.{RoundState, load_in}
use Rattle.balancer.specs.Standing.{AreLoads, IsWeighed}
use Rattle.balancer.proofs.Falls.{value_at}

-- one bucket more
pub owned-more : (k : ℕ) (os ws : List ℕ) (i : ℕ) → i < length os → i < length ws → owned k (take (suc i) os) (take (suc i) ws) ≡ owned k (take i os) (take i ws) + (if get_or os i 0 == k then get_or ws i 0 else 0)
owned-more k [] ws i h g = absurd (omega arith)
owned-more k (o ∷ os) [] i h g = absurd (omega arith)
owned-more k (o ∷ os) (w ∷ ws) zero h g = omega arith
owned-more k (o ∷ os) (w ∷ ws) (suc i) h g = let r = owned-more k os ws i (omega arith) (omega arith) in omega arith

one_at_most : (t : Bool) (w m : ℕ) → w ≤ m → (if t then w else 0) ≤ m
one_at_most true w m h = h
one_at_most false w m h = omega arith

-- no core's buckets carry more than so many greatest loads
pub owned-le : (k m : ℕ) (os ws : List ℕ) → All (λ w. w ≤ m) ws → owned k os ws ≤ length os * m
owned-le k m [] ws a = omega arith
owned-le k m (o ∷ os) [] a = omega arith
owned-le k m (o ∷ os) (w ∷ ws) a = let r = owned-le k m os ws (λ i d h. a (suc i) d (omega arith)) in let first : w ≤ m = a zero 0 (omega arith) in let f = one_at_most (o == k) w m first in omega arith

-- a list that has what each core carries, core by core, is the list of what the cores carry
pub core_loads_from : (n : ℕ) (loads : LoadsView) (owners xs : List ℕ) → length xs ≡ n → ((k : ℕ) → k < n → get_or xs k 0 ≡ load loads owners k) → xs ≡ core_loads n loads owners
core_loads_from n loads owners xs long value = same_lists xs (core_loads n loads owners) (long ∙ sym (length-map (upto n) (load loads owners) ∙ length-upto n))
    (λ k d h. let g : k < n = subst (λ (x : ℕ). k < x) long h in
    get_or_default xs k d 0 h ∙ (value k g ∙ (sym (value_at (load loads owners) n k g) ∙ get_or_default (core_loads n loads owners) k 0 d (subst (λ (x : ℕ). k < x) (sym (length-map (upto n) (load loads owners) ∙ length-upto n)) g))))

-- a load that was added to its owner
pub weighed-more : (base : ℕ → ℕ) (xs os ws : List ℕ) (i : ℕ) → i < length os → length os ≡ length ws → get_or os i 0 < length xs
    → ((k : ℕ) → k < length xs → get_or xs k 0 ≡ base k + owned k (take i os) (take i ws))
    → (k : ℕ) → k < length (set xs (get_or os i 0) (get_or xs (get_or os i 0) 0 + get_or ws i 0)) → get_or (set xs (get_or os i 0) (get_or xs (get_or os i 0) 0 + get_or ws i 0)) k 0 ≡ base k + owned k (take (i + 1) os) (take (i + 1) ws)
weighed-more base xs os ws i hi same ho inv k hk =
    let o : ℕ = get_or os i 0 in
    let w : ℕ = get_or ws i 0 in
    let long : k < length xs = subst (λ (n : ℕ). k < n) (length-set xs o (get_or xs o 0 + w)) hk in
    let more = owned-more k os ws i hi (subst (λ (n : ℕ). i < n) same hi) in
    rw add-one (⊎_elim
    (λ (e : o ≡ k). subst (λ (x : ℕ). get_or (set xs o (get_or xs o 0 + w)) x 0 ≡ base x + owned x (take (suc i) os) (take (suc i) ws)) e
    (let m = owned-more o os ws i hi (subst (λ (n : ℕ). i < n) same hi) in let f = ap (λ (t : Bool). if t then w else 0) (eq-eqb o o refl) in let v = inv o ho in
    get_or-set_same xs o (get_or xs o 0 + w) 0 ho ∙ omega arith))
    (λ (ne : o ≡ k → ⊥). let f = ap (λ (t : Bool). if t then w else 0) (ne_eqb o k ne) in let v = inv k long in
    get_or-set_other xs o k (get_or xs o 0 + w) 0 (λ e. ne (sym e)) ∙ omega arith)
    (cases_eq o k))

-- what a core carries is small
small_load : (cores : ℕ) (loads : LoadsView) (owners : List ℕ) → AreLoads cores (length owners) loads → length owners ≤ 2048 → (c : ℕ) → c < cores → load loads owners c ≤ 2049 * 2 ^ 40
small_load cores loads owners are few c h =
    let a = All-get_or (λ b. b ≤ 2 ^ 40) loads.base c 0 (subst (λ (n : ℕ). c < n) (sym are.cores_are) h) are.base in
    let b = owned-le c (2 ^ 40) owners loads.bucket are.load in
    let m = mul-le-mul_right (2 ^ 40) few in omega arith

pub small_loads : (cores : ℕ) (loads : LoadsView) (owners : List ℕ) → AreLoads cores (length owners) loads → length owners ≤ 2048 → All (λ load. load ≤ 2 ^ 52) (core_loads cores loads owners)
small_loads cores loads owners are few = All-from_get_or (λ load. load ≤ 2 ^ 52) (core_loads cores loads owners) 0 (λ c h.
    let g : c < cores = subst (λ (n : ℕ). c < n) (length-map (upto cores) (load loads owners) ∙ length-upto cores) h in
    let l = small_load cores loads owners are few c g in
    let v = value_at (load loads owners) cores c g in omega arith)

-- a weighed round
pub carried_at : (s : RoundState) (carried : List ℕ) → IsWeighed s carried → (c : ℕ) → c < s.cores → get_or carried c 0 ≡ load_in s c
carried_at s carried w c h = ap (λ (z : List ℕ). get_or z c 0) w.carried_are ∙ value_at (load s.loads s.owners) s.cores c h

pub length_is : (s : RoundState) (carried : List ℕ) → IsWeighed s carried → length carried ≡ s.cores
length_is s carried w = ap (λ (z : List ℕ). length z) w.carried_are ∙ (length-map (upto s.cores) (load s.loads s.owners) ∙ length-upto s.cores)

pub load-le : (s : RoundState) (carried : List ℕ) → IsWeighed s carried → (c : ℕ) → c < s.cores → load_in s c ≤ 2049 * 2 ^ 40
load-le s carried w c h = small_load s.cores s.loads s.owners w.loads w.buckets c h

pub carried-le : (s : RoundState) (carried : List ℕ) → IsWeighed s carried → (c : ℕ) → c < length carried → get_or carried c 0 ≤ 2049 * 2 ^ 40
carried-le s carried w c h = let g : c < s.cores = subst (λ (n : ℕ). c < n) (length_is s carried w) h in
    subst (λ (n : ℕ). n ≤ 2049 * 2 ^ 40) (sym (carried_at s carried w c g)) (load-le s carried w c g)

pub few_cores : (s : RoundState) (carried : List ℕ) → IsWeighed s carried → length carried ≤ 64
few_cores s carried w = subst (λ (n : ℕ). n ≤ 64) (sym (length_is s carried w)) w.cores

pub product-le : (n x : ℕ) → n ≤ 64 → x ≤ 2049 * 2 ^ 40 → n * x ≤ 64 * (2049 * 2 ^ 40)
product-le n x h g = let a = mul-le-mul_right x h in let b = mul-le-mul_left 64 g in omega arith

-- all cores together
pub total-le : (s : RoundState) (carried : List ℕ) → IsWeighed s carried → sum carried ≤ 64 * (2049 * 2 ^ 40)
total-le s carried w =
    let a = sum_by-le (λ x. x) (2049 * 2 ^ 40) carried (All-from_get_or (λ x. x ≤ 2049 * 2 ^ 40) carried 0 (carried-le s carried w)) in
    let b = mul-le-mul_right (2049 * 2 ^ 40) (few_cores s carried w) in omega arith

-- the sum of a load and what its owner has so far fits
pub weighed-fits : (base xs os ws : List ℕ) (i : ℕ) → i < length os → length os ≤ 2048 → length os ≡ length ws → All (λ w. w ≤ 2 ^ 40) ws → All (λ b. b ≤ 2 ^ 40) base
    → length xs ≡ length base → get_or os i 0 < length xs → ((k : ℕ) → k < length xs → get_or xs k 0 ≡ get_or base k 0 + owned k (take i os) (take i ws))
    → get_or xs (get_or os i 0) 0 + get_or ws i 0 < 2 ^ 64
weighed-fits base xs os ws i hi few same small light long ho inv =
    let o : ℕ = get_or os i 0 in
    let w : get_or ws i 0 ≤ 2 ^ 40 = All-get_or (λ w. w ≤ 2 ^ 40) ws i 0 (subst (λ (n : ℕ). i < n) same hi) small in
    let b : get_or base o 0 ≤ 2 ^ 40 = All-get_or (λ b. b ≤ 2 ^ 40) base o 0 (subst (λ (n : ℕ). o < n) long ho) light in
    let l : owned o (take i os) (take i ws) ≤ length (take i os) * 2 ^ 40 = owned-le o (2 ^ 40) (take i os) (take i ws) (All-take (λ w. w ≤ 2 ^ 40) i ws small) in
    let n : length (take i os) ≤ 2048 = omega (arith, length-take i os) in
    let m = mul-le-mul_right (2 ^ 40) n in
    let v = inv o ho in omega arith

pub sum-le : (xs : List ℕ) → length xs ≤ 64 → All (λ x. x ≤ 2 ^ 52) xs → sum xs ≤ 64 * 2 ^ 52
sum-le xs few small = let a = sum_by-le (λ x. x) (2 ^ 52) xs small in let b = mul-le-mul_right (2 ^ 52) few in omega arith
