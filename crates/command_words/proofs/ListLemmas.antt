-- Lists that values read as.
use Rattle.std.proofs.Common.{◌≡◌, ◌∙◌, ◌<◌, ◌≤◌, ◌+◌, ◌*◌, ◌++◌, ℕ, Bor, List, [], ◌∷◌, length, map, drop, get_or, Option, Some, None, refl, sym, ap, ap₂, arith, zero, suc, drop-cons, drop_of_length-le, append_assoc, append-nil}
use Rattle.std.specs.Prelude.{option_and_then, option_map}
use Rattle.std.proofs.lemmas.List.{get_or-map}
use Rattle.indirection.specs.declared.move_order.MoveOrder.{MoveOrder}
use Rattle.command_words.specs.Words.{Text}
use Rattle.command_words.specs.Values.{byte_pairs, each_in, digit_value, order_by, order_in, pieces}

-- ---- each of a list

module _ {X : Type 0} (read : Text → Option X) where
  each_split : (ws : List Text) (i : ℕ) (w : Text) → i < length ws → get_or ws i [] ≡ w
      → each_in read (drop i ws) ≡ option_and_then (λ x. option_map (λ xs. x ∷ xs) (each_in read (drop (i + 1) ws))) (read w)
  each_split ws i w h at =
      let next : suc i ≡ i + 1 = omega arith in
      ap (each_in read) (drop-cons ws i [] h)
      ∙ ap₂ (λ (v : Text) (n : ℕ). option_and_then (λ x. option_map (λ xs. x ∷ xs) (each_in read (drop n ws))) (read v)) at next

  onto : (acc : List X) (x : X) (o : Option (List X)) → option_map (λ xs. acc ++ xs) (option_map (λ xs. x ∷ xs) o) ≡ option_map (λ xs. (acc ++ x ∷ []) ++ xs) o
  onto acc x None = refl
  onto acc x (Some xs) = ap (λ l. Some l) (sym (append_assoc acc (x ∷ []) xs))

  pub each_more : (ws : List Text) (i : ℕ) (w : Text) (acc : List X) (x : X) (whole : Option (List X)) → i < length ws → get_or ws i [] ≡ w → read w ≡ Some x
      → option_map (λ xs. acc ++ xs) (each_in read (drop i ws)) ≡ whole → option_map (λ xs. (acc ++ x ∷ []) ++ xs) (each_in read (drop (i + 1) ws)) ≡ whole
  each_more ws i w acc x whole h at is before =
      let rest = each_in read (drop (i + 1) ws) in
      let here : each_in read (drop i ws) ≡ option_map (λ xs. x ∷ xs) rest = each_split ws i w h at ∙ ap (option_and_then (λ y. option_map (λ xs. y ∷ xs) rest)) is in
      sym (onto acc x rest) ∙ ap (option_map (λ xs. acc ++ xs)) (sym here) ∙ before

  pub each_stops : (ws : List Text) (i : ℕ) (w : Text) (acc : List X) (whole : Option (List X)) → i < length ws → get_or ws i [] ≡ w → read w ≡ None
      → option_map (λ xs. acc ++ xs) (each_in read (drop i ws)) ≡ whole → None ≡ whole
  each_stops ws i w acc whole h at is before =
      let rest = each_in read (drop (i + 1) ws) in
      let here : each_in read (drop i ws) ≡ None = each_split ws i w h at ∙ ap (option_and_then (λ y. option_map (λ xs. y ∷ xs) rest)) is in
      ap (option_map (λ xs. acc ++ xs)) (sym here) ∙ before

  pub each_ends : (ws : List Text) (i : ℕ) (acc : List X) (whole : Option (List X)) → length ws ≤ i → option_map (λ xs. acc ++ xs) (each_in read (drop i ws)) ≡ whole → Some acc ≡ whole
  each_ends ws i acc whole h before =
      ap (λ l. Some l) (sym (append-nil acc)) ∙ ap (λ l. option_map (λ xs. acc ++ xs) (each_in read l)) (sym (drop_of_length-le ws h)) ∙ before

  pub each_starts : (ws : List Text) → option_map (λ (xs : List X). [] ++ xs) (each_in read (drop 0 ws)) ≡ each_in read ws
  each_starts ws = go (each_in read ws)
    where
      go : (o : Option (List X)) → option_map (λ (xs : List X). [] ++ xs) o ≡ o
      go None = refl
      go (Some xs) = refl

pub text_at : (xs : List (Bor Text)) (i : ℕ) (d : Bor Text) → i < length xs → get_or (map (λ s. s.now) xs) i [] ≡ (get_or xs i d).now
text_at xs i d h = get_or-map (λ (s : Bor Text). s.now) xs i d [] h

-- ---- the key

two : (i : ℕ) → 2 * suc i ≡ suc (suc (2 * i))
two i = omega arith

pub pair_at : (t : Text) (i : ℕ) → 2 * i + 1 < length t → get_or (byte_pairs t) i 0 ≡ 16 * digit_value (get_or t (2 * i) 0) + digit_value (get_or t (2 * i + 1) 0)
pair_at [] i h = absurd (omega arith)
pair_at (a ∷ []) i h = absurd (omega arith)
pair_at (a ∷ b ∷ rest) zero h = refl
pair_at (a ∷ b ∷ rest) (suc i) h =
    let one : 2 * suc i ≡ suc (suc (2 * i)) = omega arith in
    let next : 2 * suc i + 1 ≡ suc (suc (2 * i + 1)) = omega arith in
    let lt : 2 * i + 1 < length rest = omega arith in
    pair_at rest i lt ∙ ap₂ (λ m n. 16 * digit_value (get_or (a ∷ b ∷ rest) m 0) + digit_value (get_or (a ∷ b ∷ rest) n 0)) (sym one) (sym next)

pub pairs_length : (t : Text) (n : ℕ) → length t ≡ 2 * n → length (byte_pairs t) ≡ n
pairs_length [] n h = omega arith
pairs_length (a ∷ []) n h = absurd (omega arith)
pairs_length (a ∷ b ∷ rest) zero h = absurd (omega arith)
pairs_length (a ∷ b ∷ rest) (suc n) h =
    let less : length rest ≡ 2 * n = omega arith in
    ap suc (pairs_length rest n less)

pub parts_read : (cores buckets : ℕ) (t : Text) (parts slice : List (Bor Text)) (o : Option MoveOrder) → slice ≡ parts → map (λ s. s.now) parts ≡ pieces 58 t
    → o ≡ order_by cores buckets (map (λ s. s.now) slice) → order_in cores buckets t ≡ o
parts_read cores buckets t parts slice o same split is =
    sym (is ∙ ap (λ (xs : List (Bor Text)). order_by cores buckets (map (λ s. s.now) xs)) same ∙ ap (order_by cores buckets) split)
