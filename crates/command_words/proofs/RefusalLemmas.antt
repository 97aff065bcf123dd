-- The look refuses the words exactly where one of the seven refusals holds.
use Rattle.std.proofs.Common.{◌≡◌, ◌∙◌, ℕ, Bool, cond, true, false, not, List, [], ◌∷◌, length, Option, Some, None, refl, sym, ap, zero, suc, ◌&&◌, ◌||◌, ◌==◌, is_some, arith}
use Rattle.std.specs.Prelude.{nat_le, nat_lt}
use Rattle.std.specs.List.{list_any}
use Rattle.std.specs.Option.{option_map_or}
use Rattle.std.specs.Str.{bytes_eq}
use Rattle.std.proofs.Math.Bool.{and-false, or-true}
use Rattle.std.specs.List.{after_first}
use Rattle.std.proofs.lemmas.Bool.{le-leb, lt-leb}
use Rattle.std.proofs.lemmas.Slice.Eq.{bytes_eq-Decides}
use Rattle.command_words.specs.declared.option_name.OptionName.{OptionName}
use Rattle.command_words.specs.Words.{Kind, Part, Text, counted, dashed, fits_count, flag, flag_kind, flag_text, gives, is_distinct, is_option_word, journal, kind_of, name_of, named_kind, names_of, opens, option, option_kind, option_named, part_by, parts_after, parts_of, plain, positional, positionals, refused, value_of, with_part}
use Rattle.command_words.specs.Refusals.{has_equals, has_none_first, is_cut_off, is_flag_with, is_nothing, is_open, is_refused, is_unknown, lacks_value, places, places_behind}
use Rattle.command_words.proofs.Walks.{with_part_is}

abbrev is_bad : Text → Bool
is_bad w = is_unknown w || (is_cut_off w || is_flag_with w)

-- what a word's kind says of the tests
abbrev Tests : Text → Kind → Type 0
Tests w plain = is_option_word w ≡ false
Tests w (opens o) = (is_option_word w ≡ true) × (is_bad w ≡ false) × (is_open w ≡ true)
Tests w (gives o v) = (is_option_word w ≡ true) × (is_bad w ≡ false) × (is_open w ≡ false)
Tests w flag = (is_option_word w ≡ true) × (is_bad w ≡ false) × (is_open w ≡ false)
Tests w refused = (is_option_word w ≡ true) × (is_bad w ≡ true)

any_some : (w : Text) → is_some (value_of w) ≡ has_equals w
any_some w = go (has_equals w)
  where
    go : (b : Bool) → is_some (cond b (Some (after_first (λ x. x == 61) w)) None) ≡ b
    go true = refl
    go false = refl

flag_tests : (w : Text) (v : Option Text) (any : Bool) → is_option_word w ≡ true → bytes_eq (name_of w) (dashed flag_text) ≡ true → option_named (name_of w) ≡ None
    → has_equals w ≡ any → value_of w ≡ v → is_some v ≡ any → Tests w (flag_kind v)
flag_tests w None true h e n a v s = let no : false ≡ true = s in cc
flag_tests w None false h e n a v s = (h, rw (h, e, v, a) refl, rw (h, n) refl)
flag_tests w (Some x) true h e n a v s = (h, rw (h, e, a) (or-true (is_nothing (Some (after_first (λ y. y == 61) w)))))
flag_tests w (Some x) false h e n a v s = let no : true ≡ false = s in cc

option_tests : (w : Text) (o : Option OptionName) (v : Option Text) (any : Bool) → is_option_word w ≡ true → bytes_eq (name_of w) (dashed flag_text) ≡ false → option_named (name_of w) ≡ o
    → has_equals w ≡ any → value_of w ≡ v → is_some v ≡ any → Tests w (option_map_or (λ a. option_kind a v) o refused)
option_tests w None v any h e n a v2 s = (h, rw (h, e, n) refl)
option_tests w (Some o) None true h e n a v s = let no : false ≡ true = s in cc
option_tests w (Some o) None false h e n a v s = (h, rw (h, e, n, v) refl, rw (h, n, a) refl)
option_tests w (Some o) (Some []) true h e n a v s = (h, rw (h, e, n, v) refl)
option_tests w (Some o) (Some (x ∷ xs)) true h e n a v s = (h, rw (h, e, n, v) refl, rw (h, n, a) refl)
option_tests w (Some o) (Some x) false h e n a v s = let no : true ≡ false = s in cc

tests : (w : Text) → Tests w (kind_of w)
tests w = go (is_option_word w) refl
  where
    by_name : is_option_word w ≡ true → (f : Bool) → bytes_eq (name_of w) (dashed flag_text) ≡ f
        → Tests w (cond f (flag_kind (value_of w)) (option_map_or (λ a. option_kind a (value_of w)) (option_named (name_of w)) refused))
    by_name h true e =
        let name = (bytes_eq-Decides (name_of w) (dashed flag_text)).0 e in
        let none : option_named (name_of w) ≡ None = ap option_named name in
        flag_tests w (value_of w) (has_equals w) h e none refl refl (any_some w)
    by_name h false e = option_tests w (option_named (name_of w)) (value_of w) (has_equals w) h e refl refl refl (any_some w)

    go : (b : Bool) → is_option_word w ≡ b → Tests w (cond b (named_kind (name_of w) (value_of w)) plain)
    go true e = by_name e (bytes_eq (name_of w) (dashed flag_text)) refl
    go false e = e

-- ---- the parts, or a refusal

abbrev lacks_after : Option OptionName → List Text → Bool
lacks_after None words = lacks_value words
lacks_after (Some o) words = has_none_first words || lacks_value words

some_part : (p : Part) (o : Option (List Part)) → is_some (with_part p o) ≡ is_some o
some_part p None = refl
some_part p (Some ps) = refl

closed : (w : Text) → is_option_word w ≡ false → (is_bad w ≡ false) × (is_open w ≡ false)
closed w h = (rw h refl, rw h refl)

abbrev Found : List Text → Type 0
Found words = (opened : Option OptionName) → is_some (parts_after opened words) ≡ not (list_any is_bad words || lacks_after opened words)

found_by_kind : (w : Text) (words : List Text) (k : Kind) → Tests w k → Found words
    → is_some (part_by k w (λ o. parts_after o words)) ≡ not (list_any is_bad (w ∷ words) || lacks_value (w ∷ words))
found_by_kind w words plain t rest =
    let c = closed w t in
    let bad = c.0 in
    let open_ = c.1 in
    rw (bad, open_) (some_part (positional w) (parts_after None words) ∙ rest None)
found_by_kind w words (opens o) t rest =
    let bad = t.1 in
    let open_ = t.2 in
    rw (bad, open_) (rest (Some o))
found_by_kind w words (gives o v) t rest =
    let bad = t.1 in
    let open_ = t.2 in
    rw (bad, open_) (some_part (option o v) (parts_after None words) ∙ rest None)
found_by_kind w words flag t rest =
    let bad = t.1 in
    let open_ = t.2 in
    rw (bad, open_) (some_part journal (parts_after None words) ∙ rest None)
found_by_kind w words refused t rest = let bad = t.1 in rw bad refl

found_by_value : (w : Text) (words : List Text) (o : OptionName) (b : Bool) → is_option_word w ≡ b → Found words
    → is_some (cond b None (with_part (option o w) (parts_after None words))) ≡ not (list_any is_bad (w ∷ words) || (b || lacks_value (w ∷ words)))
found_by_value w words o true h rest = rw (or-true (list_any is_bad (w ∷ words))) refl
found_by_value w words o false h rest =
    let c = closed w h in
    let bad = c.0 in
    let open_ = c.1 in
    rw (bad, open_) (some_part (option o w) (parts_after None words) ∙ rest None)

found : (words : List Text) → Found words
unfolding parts_after
found [] None = refl
found [] (Some o) = refl
found (w ∷ words) None = found_by_kind w words (kind_of w) (tests w) (found words)
found (w ∷ words) (Some o) = found_by_value w words o (is_option_word w) refl (found words)

-- ---- the positional words

abbrev Placed : List Text → Type 0
Placed words = (opened : Option OptionName) (ps : List Part) → parts_after opened words ≡ Some ps → positionals ps ≡ places_behind (is_some opened) words

placed_by_kind : (w : Text) (words : List Text) (ps : List Part) (k : Kind) → Tests w k → part_by k w (λ o. parts_after o words) ≡ Some ps → Placed words
    → positionals ps ≡ places_behind false (w ∷ words)
placed_by_kind w words ps plain t h rest =
    let got = with_part_is (positional w) (parts_after None words) ps h in
    rw (got.2, t) (ap (λ ws. w ∷ ws) (rest None got.0 got.1))
placed_by_kind w words ps (opens o) t h rest =
    let dash = t.0 in
    let open_ = t.2 in
    rw (open_, dash) (rest (Some o) ps h)
placed_by_kind w words ps (gives o v) t h rest =
    let got = with_part_is (option o v) (parts_after None words) ps h in
    let dash = t.0 in
    let open_ = t.2 in
    rw (got.2, open_, dash) (rest None got.0 got.1)
placed_by_kind w words ps flag t h rest =
    let got = with_part_is journal (parts_after None words) ps h in
    let dash = t.0 in
    let open_ = t.2 in
    rw (got.2, open_, dash) (rest None got.0 got.1)
placed_by_kind w words ps refused t h rest = let no : None ≡ Some ps = h in cc

placed_by_value : (w : Text) (words : List Text) (o : OptionName) (ps : List Part) (b : Bool) → is_option_word w ≡ b
    → cond b None (with_part (option o w) (parts_after None words)) ≡ Some ps → Placed words → positionals ps ≡ places_behind true (w ∷ words)
placed_by_value w words o ps true h e rest = let no : None ≡ Some ps = e in cc
placed_by_value w words o ps false h e rest =
    let got = with_part_is (option o w) (parts_after None words) ps e in
    rw (got.2, h) (rest None got.0 got.1)

placed : (words : List Text) → Placed words
unfolding parts_after
placed [] None ps h = let is : ps ≡ [] = let same : Some [] ≡ Some ps = h in cc in rw is refl
placed [] (Some o) ps h = let no : None ≡ Some ps = h in cc
placed (w ∷ words) None ps h = placed_by_kind w words ps (kind_of w) (tests w) h (placed words)
placed (w ∷ words) (Some o) ps h = placed_by_value w words o ps (is_option_word w) refl h (placed words)

-- ---- the whole

any_or : (p q : Text → Bool) (ws : List Text) → list_any (λ w. p w || q w) ws ≡ (list_any p ws || list_any q ws)
any_or p q [] = refl
any_or p q (w ∷ ws) = go (p w) (q w) (list_any p ws) (list_any q ws) (any_or p q ws)
  where
    go : (a b c d : Bool) → list_any (λ v. p v || q v) ws ≡ (c || d) → ((a || b) || list_any (λ v. p v || q v) ws) ≡ ((a || c) || (b || d))
    go true b c d e = refl
    go false true c d e = sym (or-true c)
    go false false c d e = e

count_tests : (n : ℕ) → (nat_le 1 n && nat_le n 3) ≡ not (n == 0 || nat_lt 3 n)
count_tests zero = refl
count_tests (suc zero) = refl
count_tests (suc (suc zero)) = refl
count_tests (suc (suc (suc zero))) = refl
count_tests (suc (suc (suc (suc n)))) =
    let many : nat_le (suc (suc (suc (suc n)))) 3 ≡ false = lt-leb (suc (suc (suc (suc n)))) 3 (omega arith) in
    let least : nat_le 1 (suc (suc (suc (suc n)))) ≡ true = le-leb 1 (suc (suc (suc (suc n)))) (omega arith) in
    let over : nat_lt 3 (suc (suc (suc (suc n)))) ≡ true = le-leb 4 (suc (suc (suc (suc n)))) (omega arith) in
    rw (many, over, or-true (suc (suc (suc (suc n))) == 0)) (and-false (nat_le 1 (suc (suc (suc (suc n))))))

join_none : (unknown twice lacks cut with count : Bool) → false ≡ not ((unknown || (cut || with)) || lacks) → false ≡ not (unknown || (not twice || (lacks || (cut || (with || count)))))
join_none true twice lacks cut with count h = refl
join_none false false lacks cut with count h = refl
join_none false true true cut with count h = refl
join_none false true false true with count h = refl
join_none false true false false true count h = refl
join_none false true false false false count h = let no : false ≡ true = h in cc

is_false : (b : Bool) → is_some (cond b (counted None) None) ≡ false
is_false true = refl
is_false false = refl

join_some : (unknown twice lacks cut with count fits : Bool) (ps : List Part) → true ≡ not ((unknown || (cut || with)) || lacks) → fits ≡ not count
    → is_some (cond twice (cond fits (Some ps) None) None) ≡ not (unknown || (not twice || (lacks || (cut || (with || count)))))
join_some true twice lacks cut with count fits ps h e = let no : true ≡ false = h in cc
join_some false false lacks cut with count fits ps h e = refl
join_some false true lacks true with count fits ps h e = let no : true ≡ false = h in cc
join_some false true lacks false true count fits ps h e = let no : true ≡ false = h in cc
join_some false true true false false count fits ps h e = let no : true ≡ false = h in cc
join_some false true false false false count true ps h e = e
join_some false true false false false count false ps h e = e

join : (unknown twice lacks cut with count : Bool) (o : Option (List Part)) → is_some o ≡ not ((unknown || (cut || with)) || lacks) → ((ps : List Part) → o ≡ Some ps → fits_count ps ≡ not count)
    → is_some (cond twice (counted o) None) ≡ not (unknown || (not twice || (lacks || (cut || (with || count)))))
join unknown twice lacks cut with count None h c = is_false twice ∙ join_none unknown twice lacks cut with count h
join unknown twice lacks cut with count (Some ps) h c = join_some unknown twice lacks cut with count (fits_count ps) ps h (c ps refl)

pub look_refuses : (words : List Text) → is_some (parts_of words) ≡ not (is_refused words)
look_refuses words =
    let bad : list_any is_bad words ≡ (list_any is_unknown words || (list_any is_cut_off words || list_any is_flag_with words)) =
    any_or is_unknown (λ w. is_cut_off w || is_flag_with w) words ∙ ap (λ b. list_any is_unknown words || b) (any_or is_cut_off is_flag_with words) in
    join (list_any is_unknown words) (is_distinct (names_of words)) (lacks_value words) (list_any is_cut_off words) (list_any is_flag_with words)
    (length (places words) == 0 || nat_lt 3 (length (places words))) (parts_after None words)
    (found words None ∙ ap (λ b. not (b || lacks_value words)) bad)
    (λ ps e. count_tests (length (positionals ps)) ∙ ap (λ ws. not (length ws == 0 || nat_lt 3 (length ws))) (placed words None ps e))
