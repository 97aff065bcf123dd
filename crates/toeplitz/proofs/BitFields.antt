-- The bits of two lists of bytes that stand one behind the other.
use Rattle.std.proofs.Common.{◌≡◌, ℕ, zero, suc, ◌+◌, ◌-◌, ◌*◌, ◌/◌, ◌%◌, ◌^◌, ◌<◌, ◌≤◌, List, [], ◌∷◌, ◌++◌, length, slice_index, refl, sym, ap, ◌∙◌, arith, length-append}
use Rattle.std.proofs.Math.Nat.{mul-add-mod_self_right, pow-succ'}
use Rattle.std.proofs.lemmas.Nat.{pow-add, shr-shr, shr_high, field_of}
use Rattle.byteorder.specs.Endian.{big_number}
use Rattle.byteorder.specs.Numbers.{big_from-cons, big_from-lt}
use Rattle.toeplitz.specs.Bits.{bits_at}

-- a byte has eight bits
pow-bytes : (n : ℕ) → 256 ^ n ≡ 2 ^ (8 * n)
pow-bytes zero = refl
pow-bytes (suc n) =
    let e : 8 * suc n ≡ 8 + 8 * n = omega arith in
    pow-succ' 256 n ∙ ap (λ (x : ℕ). 256 * x) (pow-bytes n) ∙ sym (pow-add 2 8 (8 * n)) ∙ ap (λ (x : ℕ). 2 ^ x) (sym e)

-- the number of a list that goes on
number-append : (xs ys : List ℕ) → big_number (length (xs ++ ys)) (xs ++ ys) ≡ big_number (length xs) xs * 256 ^ length ys + big_number (length ys) ys
number-append [] ys = omega arith
number-append (x ∷ xs) ys =
    let whole = big_from-cons 0 (length (xs ++ ys)) x (xs ++ ys) in
    let front = big_from-cons 0 (length xs) x xs in
    let ih = number-append xs ys in
    let long : length (xs ++ ys) ≡ length xs + length ys = length-append xs ys in
    let power : 256 ^ length (xs ++ ys) ≡ 256 ^ length xs * 256 ^ length ys = ap (λ (n : ℕ). 256 ^ n) long ∙ pow-add 256 (length xs) (length ys) in
    rw (whole, front, power, ih) (omega arith)

-- bits above the lower part
front_bits : (a b t s n : ℕ) → b < 2 ^ t → (a * 2 ^ t + b) / 2 ^ (t + s) % 2 ^ n ≡ a / 2 ^ s % 2 ^ n
front_bits a b t s n h =
    ap (λ (x : ℕ). x % 2 ^ n) (sym (shr-shr (a * 2 ^ t + b) t s) ∙ ap (λ (x : ℕ). x / 2 ^ s) (shr_high a t b h))

-- bits of the lower part
behind_bits : (a b k n s : ℕ) → (a * 2 ^ (k + (n + s)) + b) / 2 ^ s % 2 ^ n ≡ b / 2 ^ s % 2 ^ n
behind_bits a b k n s =
    let split : a * 2 ^ (k + (n + s)) ≡ a * 2 ^ k * 2 ^ (n + s) = rw (pow-add 2 k (n + s)) (omega arith) in
    let low : (a * 2 ^ (k + (n + s)) + b) % 2 ^ (n + s) ≡ b % 2 ^ (n + s) =
    ap (λ (x : ℕ). (x + b) % 2 ^ (n + s)) split ∙ mul-add-mod_self_right (a * 2 ^ k) (2 ^ (n + s)) b in
    sym (field_of (a * 2 ^ (k + (n + s)) + b) n s) ∙ ap (λ (x : ℕ). x / 2 ^ s) low ∙ field_of b n s

-- the bits of a list are those of its front
pub bits_at-front : (n i : ℕ) (xs ys : List ℕ) → ((k : ℕ) → slice_index ys k < 256) → i + n ≤ 8 * length xs → bits_at n i (xs ++ ys) ≡ bits_at n i xs
unfolding bits_at
bits_at-front n i xs ys bytes h =
    let number = number-append xs ys in
    let power = pow-bytes (length ys) in
    let small : big_number (length ys) ys < 2 ^ (8 * length ys) = rw (← power) (big_from-lt 0 (length ys) ys bytes) in
    let long : length (xs ++ ys) ≡ length xs + length ys = length-append xs ys in
    let place : 8 * length (xs ++ ys) - (i + n) ≡ 8 * length ys + (8 * length xs - (i + n)) = omega arith in
    rw (place, number, power) (front_bits (big_number (length xs) xs) (big_number (length ys) ys) (8 * length ys) (8 * length xs - (i + n)) n small)

-- the bits of a list behind its front are those of what stands there
pub bits_at-behind : (n k : ℕ) (xs ys : List ℕ) → k + n ≤ 8 * length ys → bits_at n (8 * length xs + k) (xs ++ ys) ≡ bits_at n k ys
unfolding bits_at
bits_at-behind n k xs ys h =
    let number = number-append xs ys in
    let power = pow-bytes (length ys) in
    let long : length (xs ++ ys) ≡ length xs + length ys = length-append xs ys in
    let place : 8 * length (xs ++ ys) - (8 * length xs + k + n) ≡ 8 * length ys - (k + n) = omega arith in
    let all : 8 * length ys ≡ k + (n + (8 * length ys - (k + n))) = omega arith in
    let powers : 256 ^ length ys ≡ 2 ^ (k + (n + (8 * length ys - (k + n)))) = power ∙ ap (λ (x : ℕ). 2 ^ x) all in
    rw (place, number, powers) (behind_bits (big_number (length xs) xs) (big_number (length ys) ys) k n (8 * length ys - (k + n)))
