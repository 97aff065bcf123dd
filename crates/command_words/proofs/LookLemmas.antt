-- The look of the code is the look of the words.
use Rattle.std.proofs.Common.{◌≡◌, ◌∙◌, ◌<◌, ◌≤◌, ◌+◌, ℕ, Bool, cond, true, false, List, [], ◌∷◌, map, length, take, drop, Option, Some, None, refl, sym, ap, ap₂, zero, suc, ◌&&◌, ◌||◌, ◌==◌, arith, is_some, inl, inr, ◌⊎◌, get_or, length-drop, ◌-◌, drop-cons, drop_of_length-le, String}
use Rattle.std.specs.Prelude.{nat_le, nat_lt, option_and_then, find, filter}
use Rattle.std.specs.List.{list_any, after_first, position_or_len}
use Rattle.std.specs.Option.{option_map_or}
use Rattle.std.specs.Str.{bytes_eq}
use Rattle.std.proofs.Math.Seq.{take-length}
use Rattle.std.proofs.Math.Bool.{and-false}
use Rattle.std.specs.String.{string_bytes}
use Rattle.std.proofs.lemmas.List.{get_or-map, length-map, drop-map, take_all}
use Rattle.clap.proofs.WalkLemmas.{list_any-map}
use Rattle.std.proofs.lemmas.Bool.{leb-true, leb-false, lt-leb}
use Rattle.command_words.specs.declared.option_name.OptionName.{OptionName}
use Rattle.command_words.specs.declared.kind.Kind.TheVariants as seen
use Rattle.command_words.specs.declared.look.Look.{Look}
use Rattle.command_words.specs.Look.{has_name, is_closed, look_after, shown, start, step, step_by}
use Rattle.command_words.specs.Words.{Kind, Part, Text, counted, dashed, fits_count, flag, flag_text, gives, is_distinct, is_option_word, journal, kind_of, name_of, named_kind, names_of, no_parts, opens, option, option_kind, option_named, option_text, options, part_by, parts_after, plain, positional, positionals, refused, value_of, with_part}

-- ---- one word

find_any : {X : Type 0} (p : X → Bool) (xs : List X) → is_some (find p xs) ≡ list_any p xs
find_any p [] = refl
find_any p (x ∷ xs) = go (p x) (find_any p xs)
  where
    go : (b : Bool) → is_some (find p xs) ≡ list_any p xs → is_some (cond b (Some x) (find p xs)) ≡ (b || list_any p xs)
    go true e = refl
    go false e = e

pub is_option_by : (name : Text) (b : Bool) → b ≡ list_any (λ o. bytes_eq (dashed (option_text o)) name) options → is_some (option_named name) ≡ b
is_option_by name b h = find_any (λ o. bytes_eq (dashed (option_text o)) name) options ∙ sym h

pub flag_alone : (name : Text) → bytes_eq name (dashed flag_text) ≡ true → shown (named_kind name None) ≡ seen.Complete
flag_alone name h = rw h refl

pub option_alone : (name : Text) → bytes_eq name (dashed flag_text) ≡ false → (b : Bool) → is_some (option_named name) ≡ b
    → shown (named_kind name None) ≡ cond b seen.Opens seen.Refused
option_alone name h b is = rw h (go (option_named name) is)
  where
    go : (o : Option OptionName) → is_some o ≡ b → shown (option_map_or (λ a. option_kind a None) o refused) ≡ cond b seen.Opens seen.Refused
    go None e = rw (← e) refl
    go (Some a) e = rw (← e) refl

pub flag_with : (name value : Text) → bytes_eq name (dashed flag_text) ≡ true → shown (named_kind name (Some value)) ≡ seen.Refused
flag_with name value h = rw h refl

pub empty_with : (name value : Text) → length value ≡ 0 → bytes_eq name (dashed flag_text) ≡ false → shown (named_kind name (Some value)) ≡ seen.Refused
empty_with name [] e h = rw h (go (option_named name))
  where
    go : (o : Option OptionName) → shown (option_map_or (λ a. option_kind a (Some [])) o refused) ≡ seen.Refused
    go None = refl
    go (Some a) = refl
empty_with name (x ∷ xs) e h = absurd (omega arith)

pub option_with : (name value : Text) → (length value ≡ 0 → ⊥) → bytes_eq name (dashed flag_text) ≡ false → (b : Bool) → is_some (option_named name) ≡ b
    → shown (named_kind name (Some value)) ≡ cond b seen.Complete seen.Refused
option_with name [] e h b is = absurd (e refl)
option_with name (x ∷ xs) e h b is = rw h (go (option_named name) is)
  where
    go : (o : Option OptionName) → is_some o ≡ b → shown (option_map_or (λ a. option_kind a (Some (x ∷ xs))) o refused) ≡ cond b seen.Complete seen.Refused
    go None i = rw (← i) refl
    go (Some a) i = rw (← i) refl

-- ---- the name and the value

any_before : (p : ℕ → Bool) (xs : Text) → (list_any p xs ≡ true) × (position_or_len p xs < length xs) ⊎ (list_any p xs ≡ false) × (position_or_len p xs ≡ length xs)
any_before p [] = inr (refl, refl)
any_before p (x ∷ xs) = go (p x) refl (any_before p xs)
  where
    go : (b : Bool) → p x ≡ b → (list_any p xs ≡ true) × (position_or_len p xs < length xs) ⊎ (list_any p xs ≡ false) × (position_or_len p xs ≡ length xs)
        → (list_any p (x ∷ xs) ≡ true) × (position_or_len p (x ∷ xs) < length (x ∷ xs)) ⊎ (list_any p (x ∷ xs) ≡ false) × (position_or_len p (x ∷ xs) ≡ length (x ∷ xs))
    go true e rest = rw e (inl (refl, omega arith))
    go false e (inl h) = let any = h.0 in rw (e, any) (inl (refl, omega arith))
    go false e (inr h) = let none = h.0 in rw (e, none) (inr (refl, omega arith))

pub no_value : (w : Text) → position_or_len (λ x. x == 61) w ≡ length w → (name_of w ≡ w) × (value_of w ≡ None)
no_value w h = elim (any_before (λ x. x == 61) w) [
  | inl some ↦ absurd (omega arith)
  | inr none ↦ (ap (λ n. take n w) h ∙ take-length w, ap (λ b. cond b (Some (after_first (λ x. x == 61) w)) None) none.0)
]

pub with_value : (w : Text) → position_or_len (λ x. x == 61) w < length w → value_of w ≡ Some (after_first (λ x. x == 61) w)
with_value w h = elim (any_before (λ x. x == 61) w) [
  | inl some ↦ ap (λ b. cond b (Some (after_first (λ x. x == 61) w)) None) some.0
  | inr none ↦ absurd (omega arith)
]

pub kind_alone : (w : Text) → is_option_word w ≡ true → position_or_len (λ x. x == 61) w ≡ length w → shown (kind_of w) ≡ shown (named_kind w None)
kind_alone w h e =
    let cut = no_value w e in
    rw h (ap₂ (λ (n : Text) (v : Option Text). shown (named_kind n v)) cut.0 cut.1)

-- ---- the walk over the words

abbrev some_count : ℕ → Option (List Part) → Bool
some_count n None = false
some_count n (Some ps) = nat_le 1 (n + length (positionals ps)) && nat_le (n + length (positionals ps)) 3

abbrev look_of : Option OptionName → ℕ → Look
look_of opened n = record { opened = is_some opened; places = n }

abbrev ends : Option Look → Bool
ends o = option_map_or is_closed o false

abbrev Looks : List Text → Type 0
Looks words = (opened : Option OptionName) (n : ℕ) → n ≤ 3 → ends (look_after (look_of opened n) words) ≡ some_count n (parts_after opened words)

-- one part more that is no positional word
same_count : (n : ℕ) (p : Part) (o : Option (List Part)) → ((ps : List Part) → positionals (p ∷ ps) ≡ positionals ps) → some_count n (with_part p o) ≡ some_count n o
same_count n p None h = refl
same_count n p (Some ps) h = ap (λ ws. nat_le 1 (n + length ws) && nat_le (n + length ws) 3) (h ps)

one_count : (n : ℕ) (w : Text) (o : Option (List Part)) → some_count n (with_part (positional w) o) ≡ some_count (n + 1) o
one_count n w None = refl
one_count n w (Some ps) =
    let e : n + suc (length (positionals ps)) ≡ n + 1 + length (positionals ps) = omega arith in
    ap (λ m. nat_le 1 m && nat_le m 3) e

too_many : (n : ℕ) (w : Text) (o : Option (List Part)) → 3 ≤ n → some_count n (with_part (positional w) o) ≡ false
too_many n w None h = refl
too_many n w (Some ps) h =
    let many : 3 < n + suc (length (positionals ps)) = omega arith in
    let over : nat_le (n + suc (length (positionals ps))) 3 ≡ false = lt-leb (n + suc (length (positionals ps))) 3 many in
    rw over (and-false _)

looks_by_kind : (w : Text) (words : List Text) (k : Kind) (n : ℕ) → n ≤ 3 → Looks words
    → ends (option_and_then (λ m. look_after m words) (step_by (shown k) (look_of None n))) ≡ some_count n (part_by k w (λ o. parts_after o words))
looks_by_kind w words plain n low rest = go (nat_le 3 n) refl
  where
    go : (b : Bool) → nat_le 3 n ≡ b → ends (option_and_then (λ m. look_after m words) (cond b None (Some (look_of None (n + 1))))) ≡ some_count n (with_part (positional w) (parts_after None words))
    go true e = sym (too_many n w (parts_after None words) (leb-true 3 n e))
    go false e =
        let under : n < 3 = leb-false 3 n e in
        rest None (n + 1) (omega arith) ∙ sym (one_count n w (parts_after None words))
looks_by_kind w words (opens o) n low rest = rest (Some o) n low
looks_by_kind w words (gives o v) n low rest = rest None n low ∙ sym (same_count n (option o v) (parts_after None words) (λ ps. refl))
looks_by_kind w words flag n low rest = rest None n low ∙ sym (same_count n journal (parts_after None words) (λ ps. refl))
looks_by_kind w words refused n low rest = refl

looks_by_value : (w : Text) (words : List Text) (o : OptionName) (b : Bool) (n : ℕ) → n ≤ 3 → Looks words
    → ends (option_and_then (λ m. look_after m words) (cond b None (Some (look_of None n)))) ≡ some_count n (cond b None (with_part (option o w) (parts_after None words)))
looks_by_value w words o true n low rest = refl
looks_by_value w words o false n low rest = rest None n low ∙ sym (same_count n (option o w) (parts_after None words) (λ ps. refl))

no_words : (opened : Option OptionName) (n : ℕ) → n ≤ 3 → is_closed (look_of opened n) ≡ some_count n (no_parts opened)
no_words (Some o) n low = refl
no_words None n low = go n low
  where
    go : (m : ℕ) → m ≤ 3 → nat_lt 0 m ≡ some_count m (Some [])
    go zero l = refl
    go (suc zero) l = refl
    go (suc (suc zero)) l = refl
    go (suc (suc (suc zero))) l = refl
    go (suc (suc (suc (suc k)))) l = absurd (omega arith)

looks : (words : List Text) → Looks words
unfolding parts_after
looks [] opened n low = no_words opened n low
looks (w ∷ words) None n low = looks_by_kind w words (kind_of w) n low (looks words)
looks (w ∷ words) (Some o) n low = looks_by_value w words o (is_option_word w) n low (looks words)

is_some_counted : (o : Option (List Part)) → some_count 0 o ≡ is_some (counted o)
is_some_counted None = refl
is_some_counted (Some ps) =
    let e : 0 + length (positionals ps) ≡ length (positionals ps) = omega arith in
    ap (λ m. nat_le 1 m && nat_le m 3) e ∙ go (fits_count ps)
  where
    go : (b : Bool) → b ≡ is_some (cond b (Some ps) None)
    go true = refl
    go false = refl

pub looked : (words : List Text) → ends (look_after start words) ≡ is_some (counted (parts_after None words))
looked words = let low : 0 ≤ 3 = omega arith in looks words None 0 low ∙ is_some_counted (parts_after None words)

-- a step of the loop
pub look_more : (words : List Text) (i : ℕ) (d : Text) (l : Look) → i < length words
    → look_after l (drop i words) ≡ option_and_then (λ m. look_after m (drop (i + 1) words)) (step l (get_or words i d))
look_more words i d l h =
    let e : i + 1 ≡ suc i = omega arith in
    ap (look_after l) (drop-cons words i d h) ∙ ap (λ n. option_and_then (λ m. look_after m (drop n words)) (step l (get_or words i d))) (sym e)

-- ---- the names

pub any_name : (name : Text) (words : List Text) → list_any (bytes_eq name) (names_of words) ≡ list_any (has_name name) words
any_name name [] = refl
any_name name (w ∷ words) = go (is_option_word w) (any_name name words)
  where
    go : (b : Bool) → list_any (bytes_eq name) (names_of words) ≡ list_any (has_name name) words
        → list_any (bytes_eq name) (map name_of (cond b (w ∷ filter is_option_word words) (filter is_option_word words))) ≡ ((b && bytes_eq name (name_of w)) || list_any (has_name name) words)
    go true e = ap (λ b. bytes_eq name (name_of w) || b) e
    go false e = e

-- the names from a word on
pub distinct_by : (w : Text) (words : List Text) (b : Bool) → (is_option_word w && list_any (has_name (name_of w)) words) ≡ b
    → is_distinct (names_of (w ∷ words)) ≡ cond b false (is_distinct (names_of words))
distinct_by w words b h = go (is_option_word w) refl
  where
    named : (any : Bool) → (list_any (has_name (name_of w)) words ≡ any) → is_option_word w ≡ true → any ≡ b → is_distinct (names_of (w ∷ words)) ≡ cond b false (is_distinct (names_of words))
    named true e o i = let some = any_name (name_of w) words ∙ e in rw (o, some, ← i) refl
    named false e o i = let none = any_name (name_of w) words ∙ e in rw (o, none, ← i) refl

    go : (o : Bool) → is_option_word w ≡ o → is_distinct (names_of (w ∷ words)) ≡ cond b false (is_distinct (names_of words))
    go true e = named (list_any (has_name (name_of w)) words) refl e (rw e at h)
    go false e = let is : false ≡ b = rw e at h in rw (e, ← is) refl

pub look_ends : (distinct : Bool) (o : Option (List Part)) → (is_some o && distinct) ≡ is_some (cond distinct o None)
look_ends true None = refl
look_ends true (Some ps) = refl
look_ends false None = refl
look_ends false (Some ps) = refl

-- ---- the loops

pub steps : (ws : List Text) (l : Look) (i : ℕ) (d : Text) (o : Option Look) → i < length ws → step l (get_or ws i d) ≡ o → look_after l (drop i ws) ≡ look_after start ws
    → option_and_then (λ m. look_after m (drop (i + 1) ws)) o ≡ look_after start ws
steps ws l i d o h e before =
    ap (option_and_then (λ m. look_after m (drop (i + 1) ws))) (sym e) ∙ sym (look_more ws i d l h) ∙ before

pub stops : (ws : List Text) (l : Look) (i : ℕ) (d : Text) → i < length ws → step l (get_or ws i d) ≡ None → look_after l (drop i ws) ≡ look_after start ws
    → false ≡ is_some (counted (parts_after None ws))
stops ws l i d h e before = ap ends (steps ws l i d None h e before) ∙ looked ws

pub closes : (ws : List Text) (l : Look) (i : ℕ) → length ws ≤ i → look_after l (drop i ws) ≡ look_after start ws → is_closed l ≡ is_some (counted (parts_after None ws))
closes ws l i h before =
    let none : drop i ws ≡ [] = drop_of_length-le ws h in
    ap ends (ap (look_after l) (sym none) ∙ before) ∙ looked ws

-- a word of the code is a word of the list
pub word_at : {Z : Type 0} (xs : List (String Z)) (i : ℕ) (x : String Z) (t : Text) → i < length xs → x ≡ get_or xs i x → t ≡ string_bytes x
    → get_or (map string_bytes xs) i [] ≡ t
word_at xs i x t h is e = get_or-map string_bytes xs i x [] h ∙ ap string_bytes (sym is) ∙ sym e

pub repeats_at : {Z : Type 0} (xs : List (String Z)) (i : ℕ) (t : Text) (b : Bool) → i < length xs → get_or (map string_bytes xs) i [] ≡ t
    → b ≡ (is_option_word t && list_any (has_name (name_of t)) (map string_bytes (take (length xs - (i + 1)) (drop (i + 1) xs))))
    → is_distinct (names_of (drop i (map string_bytes xs))) ≡ cond b false (is_distinct (names_of (drop (i + 1) (map string_bytes xs))))
repeats_at xs i t b h at e =
    let whole : take (length xs - (i + 1)) (drop (i + 1) xs) ≡ drop (i + 1) xs = take_all (length xs - (i + 1)) (drop (i + 1) xs) (omega (arith, length-drop (i + 1) xs)) in
    let ws = map string_bytes xs in
    let lt : i < length ws = omega (arith, length-map xs string_bytes) in
    let next : suc i ≡ i + 1 = omega arith in
    let split : drop i ws ≡ t ∷ drop (i + 1) ws = drop-cons ws i [] lt ∙ ap₂ (λ (w : Text) (n : ℕ). w ∷ drop n ws) at next in
    let rest : (is_option_word t && list_any (has_name (name_of t)) (drop (i + 1) ws)) ≡ b =
    ap (λ ys. is_option_word t && list_any (has_name (name_of t)) ys) (drop-map string_bytes (i + 1) xs ∙ ap (map string_bytes) (sym whole)) ∙ sym e in
    ap (λ ys. is_distinct (names_of ys)) split ∙ distinct_by t (drop (i + 1) ws) b rest

pub any_name_of : {Z : Type 0} (xs : List (String Z)) (name : Text) → list_any (λ s. has_name name (string_bytes s)) xs ≡ list_any (has_name name) (map string_bytes xs)
any_name_of xs name = list_any-map (has_name name) string_bytes xs
