-- The hash of an input that goes on.
use Rattle.std.proofs.Common.{◌≡◌, ◌==◌, ℕ, zero, suc, ◌+◌, ◌-◌, ◌*◌, ◌/◌, ◌%◌, ◌^◌, ◌<◌, ◌≤◌, Bool, true, false, cond, List, [], ◌∷◌, ◌++◌, map, length, take, drop, get_or, get_or-drop, slice_index, refl, sym, ap, ◌∙◌, arith, length-append, bit_and, bit_xor}
use Rattle.std.specs.List.{filter, range_with_len}
use Rattle.std.specs.Int.Bits.{xor_zero_l, xor_zero_r}
use Rattle.std.proofs.lemmas.List.{take-append-drop, take_more, length-take-le}
use Rattle.std.proofs.lemmas.Bool.{cond-true, cond-false, eq-eqb, ne_eqb}
use Rattle.std.proofs.lemmas.Nat.{and_mask}
use Rattle.std.proofs.lemmas.Nat.Bits.{shr_and_one}
use Rattle.byteorder.specs.Endian.{big_number}
use Rattle.byteorder.specs.Numbers.{big_from-take}
use Rattle.toeplitz.specs.Bits.{bits_at, is_set, set_bits}
use Rattle.toeplitz.specs.Toeplitz.{exclusive_or, key_bits, toeplitz}
use Rattle.toeplitz.proofs.BitFields.{bits_at-front, bits_at-behind}
use Rattle.toeplitz.proofs.Picks.{picks-here, picks-moved, picks-parts}

-- the exclusive or over the first so many bits of an input
unfoldable pub over_bits : ℕ → List ℕ → List ℕ → ℕ
over_bits count key input = exclusive_or (map (key_bits key) (filter (is_set input) (range_with_len 0 count)))

-- the hash is that over all bits
pub toeplitz-all : (key input : List ℕ) → toeplitz key input ≡ over_bits (8 * length input) key input
unfolding toeplitz set_bits over_bits
toeplitz-all key input = refl

-- one more bit
pub over_bits-more : (n : ℕ) (key input : List ℕ) → over_bits (n + 1) key input ≡ cond (is_set input n) (bit_xor (over_bits n key input) (key_bits key n)) (over_bits n key input)
unfolding over_bits
over_bits-more n key input =
    picks-parts (is_set input) (key_bits key) n 1
    ∙ picked (is_set input n) (over_bits n key input)
  where
    picked : (b : Bool) (hash : ℕ) → bit_xor hash (exclusive_or (map (key_bits key) (cond b (n ∷ []) []))) ≡ cond b (bit_xor hash (key_bits key n)) hash
    picked true hash = ap (bit_xor hash) (xor_zero_l (key_bits key n))
    picked false hash = xor_zero_r hash

-- the bits of a list from a byte on
bits_at-drop : (n k i : ℕ) (xs : List ℕ) → i ≤ length xs → k + n ≤ 8 * (length xs - i) → bits_at n (8 * i + k) xs ≡ bits_at n k (drop i xs)
bits_at-drop n k i xs h fits =
    let whole = take-append-drop i xs in
    let long = length-take-le i xs h in
    let rest : length (take i xs) + length (drop i xs) ≡ length xs = sym (length-append (take i xs) (drop i xs)) ∙ ap length whole in
    let behind = bits_at-behind n k (take i xs) (drop i xs) (omega arith) in
    ap (λ (m : ℕ). bits_at n (8 * m + k) xs) (sym long) ∙ ap (bits_at n (8 * length (take i xs) + k)) (sym whole) ∙ behind

-- a list of one byte
bytes-one : (byte : ℕ) → byte < 256 → (k : ℕ) → slice_index (byte ∷ []) k < 256
bytes-one byte small zero = small
bytes-one byte small (suc k) = omega arith

-- the bits of the bytes before it
push_front : (key xs : List ℕ) (byte : ℕ) → byte < 256 → map (key_bits key) (filter (is_set (xs ++ byte ∷ [])) (range_with_len 0 (8 * length xs))) ≡ map (key_bits key) (filter (is_set xs) (range_with_len 0 (8 * length xs)))
push_front key xs byte small =
    picks-here _ _ _ (8 * length xs) (λ i h. ap (λ (b : ℕ). b == 1) (bits_at-front 1 i xs (byte ∷ []) (bytes-one byte small) (omega arith)))

-- its own bits
push_behind : (key xs : List ℕ) (byte : ℕ) → length xs + 5 ≤ length key → map (key_bits key) (filter (is_set (xs ++ byte ∷ [])) (range_with_len (8 * length xs) 8)) ≡ map (key_bits (drop (length xs) key)) (filter (is_set (byte ∷ [])) (range_with_len 0 8))
push_behind key xs byte long =
    picks-moved (is_set (xs ++ byte ∷ [])) (is_set (byte ∷ [])) (key_bits key) (key_bits (drop (length xs) key)) (8 * length xs) 8 (λ i h. ap (λ (b : ℕ). b == 1) (bits_at-behind 1 i xs (byte ∷ []) (omega arith))) (λ i h. bits_at-drop 32 i (length xs) key (omega arith) (omega arith))

-- one more byte meets the key from its own place on
toeplitz-push : (key xs : List ℕ) (byte : ℕ) → byte < 256 → length xs + 5 ≤ length key → toeplitz key (xs ++ byte ∷ []) ≡ bit_xor (toeplitz key xs) (toeplitz (drop (length xs) key) (byte ∷ []))
unfolding over_bits
toeplitz-push key xs byte small long =
    let whole : 8 * length (xs ++ byte ∷ []) ≡ 8 * length xs + 8 = omega (arith, length-append xs (byte ∷ [])) in
    toeplitz-all key (xs ++ byte ∷ [])
    ∙ ap (λ (m : ℕ). over_bits m key (xs ++ byte ∷ [])) whole
    ∙ picks-parts (is_set (xs ++ byte ∷ [])) (key_bits key) (8 * length xs) 8
    ∙ ap (λ (l : List ℕ). bit_xor (exclusive_or l) (exclusive_or (map (key_bits key) (filter (is_set (xs ++ byte ∷ [])) (range_with_len (8 * length xs) 8))))) (push_front key xs byte small)
    ∙ ap (λ (l : List ℕ). bit_xor (over_bits (8 * length xs) key xs) (exclusive_or l)) (push_behind key xs byte long)
    ∙ ap (λ (h : ℕ). bit_xor h (over_bits 8 (drop (length xs) key) (byte ∷ []))) (sym (toeplitz-all key xs))
    ∙ ap (bit_xor (toeplitz key xs)) (sym (toeplitz-all (drop (length xs) key) (byte ∷ [])))

-- the hash of the bytes up to a place, and of the byte there
pub toeplitz-more : (key input : List ℕ) (at : ℕ) → at < length input → get_or input at 0 < 256 → at + 5 ≤ length key → toeplitz key (take (at + 1) input) ≡ bit_xor (toeplitz key (take at input)) (toeplitz (drop at key) (get_or input at 0 ∷ []))
toeplitz-more key input at h small long =
    let front = length-take-le at input (omega arith) in
    ap (toeplitz key) (take_more input at 0 h)
    ∙ toeplitz-push key (take at input) (get_or input at 0) small (omega arith)
    ∙ ap (λ (i : ℕ). bit_xor (toeplitz key (take at input)) (toeplitz (drop i key) (get_or input at 0 ∷ []))) front

-- a bit of one byte
pub bits_at-byte : (byte bit : ℕ) → bit < 8 → bits_at 1 bit (byte ∷ []) ≡ byte / 2 ^ (7 - bit) % 2
unfolding bits_at
bits_at-byte byte bit h =
    let e : 8 - (bit + 1) ≡ 7 - bit = omega arith in
    let f : byte * 1 + 0 ≡ byte = omega arith in
    rw (e, f) refl

-- 32 bits of five bytes
bits_at-five : (xs : List ℕ) (bit : ℕ) → length xs ≡ 5 → bit < 8 → bits_at 32 bit xs ≡ big_number 5 xs / 2 ^ (8 - bit) % 2 ^ 32
unfolding bits_at
bits_at-five xs bit five h =
    let e : 8 * 5 - (bit + 32) ≡ 8 - bit = omega arith in
    rw (five, e) refl

-- 32 bits of the first five bytes of a key
pub bits_at-window : (key : List ℕ) (bit : ℕ) → ((k : ℕ) → slice_index key k < 256) → 5 ≤ length key → bit < 8 → bits_at 32 bit key ≡ big_number 5 key / 2 ^ (8 - bit) % 2 ^ 32
bits_at-window key bit bytes long h =
    let five = length-take-le 5 key long in
    ap (bits_at 32 bit) (sym (take-append-drop 5 key))
    ∙ bits_at-front 32 bit (take 5 key) (drop 5 key) (λ k. rw (get_or-drop 5 key k 0) (bytes (5 + k))) (omega arith)
    ∙ bits_at-five (take 5 key) bit five h
    ∙ ap (λ (n : ℕ). n / 2 ^ (8 - bit) % 2 ^ 32) (big_from-take 0 5 5 key (omega arith))

-- a bit of a byte that is set
pub over_bits-set : (key : List ℕ) (byte bit : ℕ) → ((k : ℕ) → slice_index key k < 256) → 5 ≤ length key → bit < 8 → bit_and (byte / 2 ^ (7 - bit)) 1 ≡ 1 → over_bits (bit + 1) key (byte ∷ []) ≡ bit_xor (over_bits bit key (byte ∷ [])) (bit_and (big_number 5 key / 2 ^ (8 - bit)) (2 ^ 32 - 1))
over_bits-set key byte bit bytes long h set =
    let one : bits_at 1 bit (byte ∷ []) ≡ 1 = bits_at-byte byte bit h ∙ sym (shr_and_one byte (7 - bit)) ∙ set in
    let value : bits_at 32 bit key ≡ bit_and (big_number 5 key / 2 ^ (8 - bit)) (2 ^ 32 - 1) =
    bits_at-window key bit bytes long h ∙ sym (and_mask (big_number 5 key / 2 ^ (8 - bit)) 32) in
    over_bits-more bit key (byte ∷ [])
    ∙ cond-true (is_set (byte ∷ []) bit) (bit_xor (over_bits bit key (byte ∷ [])) (key_bits key bit)) (over_bits bit key (byte ∷ [])) (eq-eqb (bits_at 1 bit (byte ∷ [])) 1 one)
    ∙ ap (bit_xor (over_bits bit key (byte ∷ []))) value

-- a bit of a byte that is not set
pub over_bits-clear : (key : List ℕ) (byte bit : ℕ) → bit < 8 → (bit_and (byte / 2 ^ (7 - bit)) 1 ≡ 1 → ⊥) → over_bits (bit + 1) key (byte ∷ []) ≡ over_bits bit key (byte ∷ [])
over_bits-clear key byte bit h clear =
    over_bits-more bit key (byte ∷ [])
    ∙ cond-false (is_set (byte ∷ []) bit) (bit_xor (over_bits bit key (byte ∷ [])) (key_bits key bit)) (over_bits bit key (byte ∷ []))
    (ne_eqb (bits_at 1 bit (byte ∷ [])) 1 (λ one. clear (shr_and_one byte (7 - bit) ∙ sym (bits_at-byte byte bit h) ∙ one)))
