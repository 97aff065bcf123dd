-- Bytes as words of the keyed hash.
use Rattle.std.proofs.Common.{◌≡◌, ℕ, zero, suc, ◌+◌, ◌*◌, ◌/◌, ◌%◌, ◌^◌, ◌<◌, ◌≤◌, List, ◌∷◌, length, length-drop, take, drop, refl, sym, ap, ◌∙◌, arith}
use Rattle.std.proofs.Math.Nat.{pow-suc, pow-le-pow_right, div-div-eq-div-mul, div-one, mod-one, mod-eq_of_lt}
use Rattle.std.specs.Int.{byte_at, bytes_low_first}
use Rattle.std.specs.Hash.{le_bytes}
use lib.Arith.{mod-mul}
use Rattle.bucket_table.specs.FlowHash.{number_of, first_words, words_of}

pub power_fits : (l : ℕ) → l ≤ 15 → 256 ^ l ≤ 256 ^ 15
power_fits l h = pow-le-pow_right (omega arith) h

-- the first word of bytes, and the others
pub words_of-more : (xs : List ℕ) → 0 < length xs → words_of xs ≡ number_of (take 8 xs) ∷ words_of (drop 8 xs)
words_of-more xs h =
    let count : (length xs + 7) / 8 ≡ suc ((length (drop 8 xs) + 7) / 8) = omega (arith, length-drop 8 xs) in
    ap (λ n. first_words n xs) count

byte_is : (i n : ℕ) → byte_at i n ≡ n / 256 ^ i % 256
byte_is zero n = ap (λ q. q % 256) (sym (div-one n))
byte_is (suc i) n = refl

positive : (k : ℕ) → 0 < 256 ^ k
positive k = pow-le-pow_right {n = 256} (omega arith) {i = 0} {j = k} (omega arith)

-- some bytes of a number, read as a number
pub number_of-bytes : (k i n : ℕ) → number_of (bytes_low_first i k n) ≡ n / 256 ^ i % 256 ^ k
number_of-bytes zero i n = sym (mod-one (n / 256 ^ i))
number_of-bytes (suc k) i n =
    let power : (j : ℕ) → 256 ^ suc j ≡ 256 ^ j * 256 = λ j. pow-suc 256 j in
    let next : n / 256 ^ suc i ≡ n / 256 ^ i / 256 = ap (λ d. n / d) (power i) ∙ sym (div-div-eq-div-mul n (256 ^ i) 256) in
    let rest : number_of (bytes_low_first (suc i) k n) ≡ n / 256 ^ i / 256 % 256 ^ k = number_of-bytes k (suc i) n ∙ ap (λ q. q % 256 ^ k) next in
    let whole : n / 256 ^ i % 256 ^ suc k ≡ n / 256 ^ i / 256 % 256 ^ k * 256 + n / 256 ^ i % 256 = ap (λ d. n / 256 ^ i % d) (power k) ∙ mod-mul (n / 256 ^ i) {m = 256 ^ k} {c = 256} (positive k) (omega arith) in
    omega (arith, byte_is i n, rest, whole)

-- the bytes of a number, read as it
pub number_of-le_bytes : (k n : ℕ) → n < 256 ^ k → number_of (le_bytes k n) ≡ n
unfolding le_bytes
number_of-le_bytes k n fits = number_of-bytes k 0 n ∙ ap (λ q. q % 256 ^ k) (div-one n) ∙ mod-eq_of_lt fits

-- the low half of sixteen bytes, and the high one
pub number_of-low : (n : ℕ) → number_of (bytes_low_first 0 8 n) ≡ n % 2 ^ 64
number_of-low n = number_of-bytes 8 0 n ∙ ap (λ q. q % 256 ^ 8) (div-one n)

pub number_of-high : (n : ℕ) → n < 2 ^ 128 → number_of (bytes_low_first 8 8 n) ≡ n / 2 ^ 64
number_of-high n fits =
    let small : n / 2 ^ 64 < 2 ^ 64 = omega arith in
    number_of-bytes 8 8 n ∙ mod-eq_of_lt small
