-- Each party has one turn in a sweep.
use Rattle.std.proofs.Common.{suc, ◌≡◌, ℕ, ◌+◌, ◌-◌, ◌*◌, ◌<◌, ◌≤◌, ◌/◌, ◌%◌, sym, ap, ◌∙◌, ⊎_elim, arith}
use Rattle.std.proofs.lemmas.Bool.{cases_lt}
use Rattle.std.proofs.lemmas.Nat.{mod-mul-add}
use Rattle.std.proofs.Math.Nat.{mod-lt, mod-add-div, mul_comm, suc-mul}
use Rattle.rsspp_run.specs.Serial.{party}

split : (a w : ℕ) → a ≡ a / w * w + a % w
split a w = let e = mod-add-div a w in let c = mul_comm (a / w) w in omega arith

rest_of : (b a q w p : ℕ) → p < w → b ≡ q * w + p → b % w ≡ p
rest_of b a q w p near e = ap (λ k. k % w) e ∙ mod-mul-add q w p near

-- some turn among the first w meets the rest p
meets : (a w p : ℕ) → p < w → (n : ℕ) × (n < w) × ((a + n) % w ≡ p)
meets a w p near =
    let e = split a w in let r = mod-lt a (let some : 0 < w = omega arith in some) in ⊎_elim
    (λ (low : a % w < p + 1). (p - a % w, omega arith, rest_of (a + (p - a % w)) a (a / w) w p near (omega arith)))
    (λ (high : p + 1 ≤ a % w). let s = suc-mul (a / w) w in (p + w - a % w, omega arith, rest_of (a + (p + w - a % w)) a (suc (a / w)) w p near (omega arith)))
    (cases_lt (a % w) (p + 1))

pub each_has : (cores x p : ℕ) → p ≤ cores → (n : ℕ) × (n < cores + 1) × (party cores x n ≡ p)
each_has cores x p near = meets (x / 65536) (cores + 1) p (omega arith)

-- no party has two
pub only_one : (cores x n i : ℕ) → n < i → i < cores + 1 → party cores x n ≡ 0 → party cores x i ≡ 0 → ⊥
only_one cores x n i lt most e f =
    let a = x / 65536 in let w = cores + 1 in
    let s = split (a + n) w in
    let z : i - n ≡ 0 = sym (rest_of (a + i) a ((a + n) / w) w (i - n) (omega arith) (let q : (a + n) % w ≡ 0 = e in omega arith)) ∙ f in omega arith

pub party_below : (cores x i : ℕ) → party cores x i < cores + 1
party_below cores x i = mod-lt (x / 65536 + i) (let some : 0 < cores + 1 = omega arith in some)
