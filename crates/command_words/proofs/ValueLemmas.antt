-- Numbers, names and lists that values read as.
use Rattle.std.proofs.Common.{rules, ◌≡◌, ◌∙◌, ◌<◌, ◌≤◌, ◌^◌, ℕ, Bool, cond, true, false, List, length, Some, None, Result, refl, sym, ap, arith, ◌&&◌}
use Rattle.std.specs.Prelude.{nat_le}
use Rattle.std.specs.Result.{result_ok}
use Rattle.std.specs.List.{list_all}
use Rattle.std.specs.Char.{is_ascii_digit}
use Rattle.std.specs.Str.Parse.{ParsesUnsigned}
use Rattle.std.proofs.lemmas.Bool.{leb-true, le-leb, lt-leb}
use Rattle.std.proofs.lemmas.Str.Parse.{IsNumeralModel, digits_value_short, numerals_by_fold, parse_gives}
use Rattle.command_words.specs.Values.{decimal_from, is_number, number_in}
use Rattle.command_words.proofs.Apart.{both}

own : IsNumeralModel (λ ds. list_all is_ascii_digit ds ≡ true) (decimal_from 0)
own = numerals_by_fold _ (search rules) decimal_from (search rules)

pub number_parsed : {E : Type 0} (t : List ℕ) (r : Result ℕ E) → is_number t ≡ true → ParsesUnsigned 64 10 t r → result_ok r ≡ number_in t
number_parsed t r h p =
    let one = both (nat_le 1 (length t)) (nat_le (length t) 10 && list_all is_ascii_digit t) h in
    let two = both (nat_le (length t) 10) (list_all is_ascii_digit t) one.1 in
    let least : 1 ≤ length t = leb-true 1 (length t) one.0 in
    let most : length t ≤ 10 = leb-true (length t) 10 two.0 in
    let short : decimal_from 0 t < 10 ^ 10 = digits_value_short own t 10 two.1 most in
    let fits : decimal_from 0 t < 2 ^ 64 = omega arith in
    let some : 0 < length t = omega arith in
    ap result_ok (parse_gives own 64 t r p two.1 some fits) ∙ ap (λ b. cond b (Some (decimal_from 0 t)) None) (sym h)

pub empty_number : (t : List ℕ) → length t ≡ 0 → false ≡ is_number t
empty_number t e = let no : nat_le 1 (length t) ≡ false = lt-leb 1 (length t) (omega arith) in rw no refl

pub long_number : (t : List ℕ) → 10 < length t → false ≡ is_number t
long_number t e =
    let yes : nat_le 1 (length t) ≡ true = le-leb 1 (length t) (omega arith) in
    let no : nat_le (length t) 10 ≡ false = lt-leb (length t) 10 e in
    rw (yes, no) refl

pub short_number : (t : List ℕ) → 1 ≤ length t → length t ≤ 10 → (b : Bool) → b ≡ list_all is_ascii_digit t → b ≡ is_number t
short_number t l m b e =
    let yes : nat_le 1 (length t) ≡ true = le-leb 1 (length t) l in
    let yes2 : nat_le (length t) 10 ≡ true = le-leb (length t) 10 m in
    rw (yes, yes2) e
