-- Numbers inside lists of bytes.
use Rattle.std.proofs.Common.{◌≡◌, ℕ, ◌+◌, ◌≤◌, List, ◌++◌, length, drop, sym, ap, ◌∙◌, arith, length-drop}
use Rattle.std.proofs.lemmas.List.{drop-append-le, drop-drop}
use Rattle.byteorder.specs.Endian.{little_number, big_number}
use Rattle.byteorder.specs.Numbers.{big_from-append, little_from-append}
use Rattle.pcapng_reader.specs.declared.byte_order.ByteOrder.{ByteOrder}
use Rattle.pcapng_reader.specs.declared.byte_order.ByteOrder.TheVariants.{Little, Big}
use Rattle.pcapng_reader.specs.Numbers.{number_at}

-- a number depends on its own bytes alone
pub number_at-append : (o : ByteOrder) (n i : ℕ) (xs ys : List ℕ) → i + n ≤ length xs → number_at o n i (xs ++ ys) ≡ number_at o n i xs
unfolding number_at
number_at-append Little n i xs ys h =
    ap (little_number n) (drop-append-le i xs ys (omega arith)) ∙ little_from-append n (drop i xs) ys (simp length-drop (omega arith))
number_at-append Big n i xs ys h =
    ap (big_number n) (drop-append-le i xs ys (omega arith)) ∙ big_from-append n (drop i xs) ys (simp length-drop (omega arith))

-- a number behind bytes that were let go
pub number_at-drop : (o : ByteOrder) (n i j k : ℕ) (xs : List ℕ) → i ≡ k + j → number_at o n i xs ≡ number_at o n j (drop k xs)
unfolding number_at
number_at-drop Little n i j k xs h = ap (λ m. little_number n (drop m xs)) h ∙ ap (little_number n) (sym (drop-drop j k xs))
number_at-drop Big n i j k xs h = ap (λ m. big_number n (drop m xs)) h ∙ ap (big_number n) (sym (drop-drop j k xs))
