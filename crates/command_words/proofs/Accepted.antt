-- What clap makes of words that pass the look: it takes them, and its matches are their parts.
use Rattle.std.proofs.Common.{◌≡◌, ◌∙◌, ◌++◌, ◌<◌, ◌≤◌, ◌+◌, ℕ, Bool, cond, true, false, List, [], ◌∷◌, map, length, Option, Some, None, refl, sym, ap, subst, codes, zero, suc, ◌==◌, arith, append-nil, inl, inr, ◌⊎◌}
use Rattle.std.specs.Prelude.{fold, slice_get, find, nat_le}
use Rattle.std.specs.List.{list_all}
use Rattle.std.specs.Str.{bytes_eq}
use Rattle.std.proofs.lemmas.Bool.{leb-true}
use Rattle.std.proofs.lemmas.Slice.Eq.{bytes_eq-Decides}
use Rattle.clap.specs.Walk.{Row, Rule, arg_by_id, arg_by_index, finished, first_of, has_row, idle, more_values, nothing_held, rows_of, walked, with_default, with_values}
use Rattle.clap.specs.Simple.{HasMatchesOf, matches_of}
use Rattle.clap.specs.Takes.{built_takes, default_passes, is_given, is_valid, takes}
use Rattle.clap.specs.Matches.{found_of}
use Rattle.clap.specs.declared.builder.value_parser.Reading.TheVariants as reading
use Rattle.clap.specs.declared.parser.matches.ArgMatches.{ArgMatches}
use Rattle.clap.specs.declared.parser.matches.ValueSource.TheVariants.{DefaultValue}
use Rattle.clap.proofs.WalkLemmas.{first_value-rows}
use Rattle.command_words.specs.declared.option_name.OptionName.{OptionName}
use Rattle.command_words.specs.Words.{Part, Text, counted, fits_count, flag_text, has_flag, is_distinct, journal, names_of, option, option_text, options, parts_after, parts_of, positional, positionals, value_in}
use Rattle.command_words.specs.Parsed.{GivesParts, count_id, flag_word, mode_id, number_id}
use Rattle.command_words.specs.Made.{made_app}
use Rattle.command_words.proofs.Rules.{built_rules, flag_by_long, flag_rule, option_by_id, option_by_long, option_rule, place_rule, simple_is, value_rule}
use Rattle.command_words.proofs.Steps.{absent, row_for, shape, standing}
use Rattle.command_words.proofs.Apart.{both, flag_option, flag_place, new_at_first, option_flag, option_place, place_flag, place_id, place_option, place_place, rows_from}
use Rattle.command_words.proofs.Distinct.{once_by_names}
use Rattle.command_words.proofs.Walks.{Ends, Fits, walks}

place_found : (n : ℕ) → 1 ≤ n → n ≤ 3 → arg_by_index built_rules n ≡ Some (place_rule (place_id n) n (n == 1))
place_found zero a b = absurd (omega arith)
place_found (suc zero) a b = refl
place_found (suc (suc zero)) a b = refl
place_found (suc (suc (suc zero))) a b = refl
place_found (suc (suc (suc (suc n)))) a b = absurd (omega arith)

place_found_by_id : (n : ℕ) → 1 ≤ n → n ≤ 3 → arg_by_id built_rules (place_id n) ≡ Some (place_rule (place_id n) n (n == 1))
place_found_by_id zero a b = absurd (omega arith)
place_found_by_id (suc zero) a b = refl
place_found_by_id (suc (suc zero)) a b = refl
place_found_by_id (suc (suc (suc zero))) a b = refl
place_found_by_id (suc (suc (suc (suc n)))) a b = absurd (omega arith)

ours : Fits built_rules
ours = record {
  long = option_by_long;
  id = option_by_id;
  flag = flag_by_long;
  place = place_found;
  place_by_id = place_found_by_id;
}

-- ---- defaults: the flag's alone

abbrev pub default_row : Row
default_row = record { id = flag_text; values = codes "false" ∷ []; count = None; source = Some DefaultValue; reading = reading.AsWritten }

abbrev pub flagged : List Row → List Row
flagged rows = cond (has_row flag_text rows) rows (rows ++ default_row ∷ [])

no_default : (id : Text) (long : Option Text) (index : Option ℕ) (wanted : Bool) (rows : List Row) → with_default rows (value_rule id long index wanted) ≡ rows
no_default id long index wanted rows = go (has_row id rows)
  where
    go : (b : Bool) → cond b rows rows ≡ rows
    go true = refl
    go false = refl

flag_default : (rows : List Row) → with_default rows (flag_rule flag_text) ≡ flagged rows
flag_default rows = go (has_row flag_text rows) refl
  where
    go : (b : Bool) → has_row flag_text rows ≡ b → cond b rows (with_values flag_text reading.AsWritten DefaultValue (codes "false" ∷ []) rows) ≡ cond b rows (rows ++ default_row ∷ [])
    go true e = refl
    go false e = absent flag_text (more_values DefaultValue (codes "false" ∷ [])) (default_row ∷ []) rows e

no_defaults : (os : List OptionName) (rows : List Row) → fold with_default rows (map (λ o. option_rule (option_text o)) os) ≡ rows
no_defaults [] rows = refl
no_defaults (o ∷ os) rows =
    ap (λ rs. fold with_default rs (map (λ a. option_rule (option_text a)) os)) (no_default (option_text o) (Some (option_text o)) None false rows)
    ∙ no_defaults os rows

abbrev rest_rules : List Rule
rest_rules = map (λ o. option_rule (option_text o)) options

defaults : (rows : List Row) → fold with_default rows built_rules ≡ flagged rows
defaults rows =
    let mode = no_default mode_id None (Some 1) true rows in
    let count = no_default count_id None (Some 2) false rows in
    let number = no_default number_id None (Some 3) false rows in
    let places : with_default (with_default (with_default rows (place_rule mode_id 1 true)) (place_rule count_id 2 false)) (place_rule number_id 3 false) ≡ rows =
    ap (λ rs. with_default (with_default rs (place_rule count_id 2 false)) (place_rule number_id 3 false)) mode
    ∙ ap (λ rs. with_default rs (place_rule number_id 3 false)) count ∙ number in
    ap (λ rs. fold with_default (with_default rs (flag_rule flag_text)) rest_rules) places
    ∙ ap (λ rs. fold with_default rs rest_rules) (flag_default rows)
    ∙ no_defaults options (flagged rows)

-- ---- what the rows give

abbrev find_id : Text → List Row → Option Row
find_id id rows = find (λ r. bytes_eq r.id id) rows

find_more : (id : Text) (r : Row) (rows : List Row) → bytes_eq r.id id ≡ false → find_id id (r ∷ rows) ≡ find_id id rows
find_more id r rows h = rw h refl

same : (t : Text) → bytes_eq t t ≡ true
same t = (bytes_eq-Decides t t).1 refl

-- rows of the parts, then rows of other ids
option_first : (o : OptionName) (n : ℕ) (ps : List Part) (tail : List Row) → first_of (option_text o) tail ≡ None
    → first_of (option_text o) (rows_from n ps ++ tail) ≡ value_in o ps
option_first o n [] tail h = h
option_first o n (positional w ∷ ps) tail h = rw (place_option n o) (option_first o (suc n) ps tail h)
option_first o n (option a v ∷ ps) tail h = go (bytes_eq (option_text a) (option_text o)) refl (option_first o n ps tail h)
  where
    go : (b : Bool) → bytes_eq (option_text a) (option_text o) ≡ b → first_of (option_text o) (rows_from n ps ++ tail) ≡ value_in o ps
        → first_of (option_text o) (row_for (option_text a) v ∷ (rows_from n ps ++ tail)) ≡ value_in o (option a v ∷ ps)
    go true e rest = rw e refl
    go false e rest = rw e rest
option_first o n (journal ∷ ps) tail h = rw (flag_option o) (option_first o n ps tail h)

place_first : (k d n : ℕ) (ps : List Part) (tail : List Row) → k ≡ n + d → 1 ≤ n → k ≤ 3 → first_of (place_id k) tail ≡ None
    → first_of (place_id k) (rows_from n ps ++ tail) ≡ slice_get (positionals ps) d
place_first k d n [] tail e low high h = h
place_first k zero n (positional w ∷ ps) tail e low high h =
    let is : k ≡ n = omega arith in
    rw (is, same (place_id n)) refl
place_first k (suc d) n (positional w ∷ ps) tail e low high h =
    let apart : n < k = omega arith in
    let next : k ≡ suc n + d = omega arith in
    let low2 : 1 ≤ suc n = omega arith in
    rw (place_place n k low apart high) (place_first k d (suc n) ps tail next low2 high h)
place_first k d n (option o v ∷ ps) tail e low high h = rw (option_place o k) (place_first k d n ps tail e low high h)
place_first k d n (journal ∷ ps) tail e low high h = rw (flag_place k) (place_first k d n ps tail e low high h)

has_flag_row : (n : ℕ) (ps : List Part) → has_row flag_text (rows_from n ps) ≡ has_flag ps
has_flag_row n [] = refl
has_flag_row n (positional w ∷ ps) = rw (place_flag n) (has_flag_row (suc n) ps)
has_flag_row n (option o v ∷ ps) = rw (option_flag o) (has_flag_row n ps)
has_flag_row n (journal ∷ ps) = refl

flag_first : (n : ℕ) (ps : List Part) (tail : List Row) → has_flag ps ≡ true → first_of flag_text (rows_from n ps ++ tail) ≡ Some (codes "true")
flag_first n [] tail h = let no : false ≡ true = h in cc
flag_first n (positional w ∷ ps) tail h = rw (place_flag n) (flag_first (suc n) ps tail h)
flag_first n (option o v ∷ ps) tail h = rw (option_flag o) (flag_first n ps tail h)
flag_first n (journal ∷ ps) tail h = refl

flag_last : (n : ℕ) (ps : List Part) (tail : List Row) → has_flag ps ≡ false → first_of flag_text (rows_from n ps ++ tail) ≡ first_of flag_text tail
flag_last n [] tail h = refl
flag_last n (positional w ∷ ps) tail h = rw (place_flag n) (flag_last (suc n) ps tail h)
flag_last n (option o v ∷ ps) tail h = rw (option_flag o) (flag_last n ps tail h)
flag_last n (journal ∷ ps) tail h = let no : true ≡ false = h in cc

mode_given : (ps : List Part) (tail : List Row) → 1 ≤ length (positionals ps) → is_given mode_id (rows_from 1 ps ++ tail) ≡ true
mode_given [] tail h = absurd (omega arith)
mode_given (positional w ∷ ps) tail h = refl
mode_given (option o v ∷ ps) tail h = let apart : bytes_eq (option_text o) mode_id ≡ false = option_place o 1 in rw apart (mode_given ps tail h)
mode_given (journal ∷ ps) tail h = mode_given ps tail h

-- what holds of the rows and of the rows with the default holds of those that clap ends with
either : (P : List Row → Type 0) (rows : List Row) → ((tail : List Row) → (tail ≡ []) ⊎ (tail ≡ default_row ∷ []) → P (rows ++ tail)) → P (flagged rows)
either P rows h = go (has_row flag_text rows)
  where
    go : (b : Bool) → P (cond b rows (rows ++ default_row ∷ []))
    go true = subst P (append-nil rows) (h [] (inl refl))
    go false = h (default_row ∷ []) (inr refl)

option_ends : (o : OptionName) (ps : List Part) → first_of (option_text o) (flagged (rows_from 1 ps)) ≡ value_in o ps
option_ends o ps = either (λ rs. first_of (option_text o) rs ≡ value_in o ps) (rows_from 1 ps) (λ tail t. option_first o 1 ps tail (none tail t))
  where
    none : (tail : List Row) → (tail ≡ []) ⊎ (tail ≡ default_row ∷ []) → first_of (option_text o) tail ≡ None
    none tail (inl e) = rw e refl
    none tail (inr e) = rw (e, flag_option o) refl

place_ends : (d : ℕ) (ps : List Part) → d ≤ 2 → first_of (place_id (suc d)) (flagged (rows_from 1 ps)) ≡ slice_get (positionals ps) d
place_ends d ps h =
    let is : suc d ≡ 1 + d = omega arith in
    let low : 1 ≤ 1 = omega arith in
    let high : suc d ≤ 3 = omega arith in
    either (λ rs. first_of (place_id (suc d)) rs ≡ slice_get (positionals ps) d) (rows_from 1 ps) (λ tail t. place_first (suc d) d 1 ps tail is low high (none tail t))
  where
    none : (tail : List Row) → (tail ≡ []) ⊎ (tail ≡ default_row ∷ []) → first_of (place_id (suc d)) tail ≡ None
    none tail (inl e) = rw e refl
    none tail (inr e) = rw (e, flag_place (suc d)) refl

flag_ends : (ps : List Part) → first_of flag_text (flagged (rows_from 1 ps)) ≡ Some (flag_word (has_flag ps))
flag_ends ps = go (has_flag ps) refl
  where
    go : (b : Bool) → has_flag ps ≡ b → first_of flag_text (flagged (rows_from 1 ps)) ≡ Some (flag_word b)
    go true e = either (λ rs. first_of flag_text rs ≡ Some (codes "true")) (rows_from 1 ps) (λ tail t. flag_first 1 ps tail e)
    go false e = rw (has_flag_row 1 ps, e) (flag_last 1 ps (default_row ∷ []) e)

-- ---- the parse

counted_is : (o : Option (List Part)) (ps : List Part) → counted o ≡ Some ps → (o ≡ Some ps) × (fits_count ps ≡ true)
counted_is None ps h = let no : None ≡ Some ps = h in cc
counted_is (Some qs) ps h = go (fits_count qs) refl
  where
    go : (b : Bool) → fits_count qs ≡ b → (Some qs ≡ Some ps) × (fits_count ps ≡ true)
    go true e = let here : Some qs ≡ Some ps = rw e at h in let one : qs ≡ ps = cc in (here, rw (← one) e)
    go false e = let no : None ≡ Some ps = rw e at h in cc

pub look_is : (words : List Text) (ps : List Part) → parts_of words ≡ Some ps
    → (is_distinct (names_of words) ≡ true) × (parts_after None words ≡ Some ps) × (fits_count ps ≡ true)
look_is words ps h = go (is_distinct (names_of words)) refl
  where
    go : (b : Bool) → is_distinct (names_of words) ≡ b → (is_distinct (names_of words) ≡ true) × (parts_after None words ≡ Some ps) × (fits_count ps ≡ true)
    go true e =
        let here : counted (parts_after None words) ≡ Some ps = rw e at h in
        let two = counted_is (parts_after None words) ps here in
        (e, two.0, two.1)
    go false e = let no : None ≡ Some ps = rw e at h in cc

pub parts_walk : (words : List Text) (ps : List Part) → parts_of words ≡ Some ps
    → Ends built_rules (rows_from 1 ps) (standing [] None idle 1) words × (1 ≤ length (positionals ps))
parts_walk words ps h =
    let look = look_is words ps h in
    let count = both (nat_le 1 (length (positionals ps))) _ look.2 in
    let least : 1 ≤ length (positionals ps) = leb-true 1 _ count.0 in
    let most : length (positionals ps) ≤ 3 = leb-true _ 3 count.1 in
    let sum : 1 + length (positionals ps) ≤ 4 = omega arith in
    let low : 1 ≤ 1 = omega arith in
    (walks built_rules ours words None 1 [] (standing [] None idle 1) ps ([], None, refl, refl, refl) look.1 (new_at_first 1 ps) (once_by_names words None ps look.1 look.0 tt) low sum, least)

-- a level of the parse over rules that have no subcommand
level_passes_by : (c : List Rule) (words : List Text) (rows : List Row) → Ends c rows (standing [] None idle 1) words → list_all default_passes c ≡ true
    → is_valid (shape c) (finished c (fold (walked c []) (standing [] None idle 1) words).held) false ≡ true
    → built_takes (record { top = shape c; subs = [] }) nothing_held words ≡ true
level_passes_by c words rows e d v = rw (e.stopped, e.passes, e.settles, d, v) refl

valid_by : (rows : List Row) → is_given mode_id rows ≡ true → is_valid (shape built_rules) rows false ≡ true
valid_by rows h = rw h refl

finished_is : (words : List Text) (rows : List Row) → Ends built_rules rows (standing [] None idle 1) words
    → finished built_rules (fold (walked built_rules []) (standing [] None idle 1) words).held ≡ flagged rows
finished_is words rows e = ap (λ rs. fold with_default rs built_rules) e.given ∙ defaults rows

pub taken : (words : List Text) (ps : List Part) → parts_of words ≡ Some ps → takes made_app words ≡ true
taken words ps h =
    let walk = parts_walk words ps h in
    let given : is_given mode_id (flagged (rows_from 1 ps)) ≡ true =
    either (λ rs. is_given mode_id rs ≡ true) (rows_from 1 ps) (λ tail t. mode_given ps tail walk.1) in
    let valid = subst (λ rs. is_valid (shape built_rules) rs false ≡ true) (sym (finished_is words (rows_from 1 ps) walk.0)) (valid_by (flagged (rows_from 1 ps)) given) in
    level_passes_by built_rules words (rows_from 1 ps) walk.0 refl valid

pub matched : (words : List Text) (ps : List Part) → parts_of words ≡ Some ps → matches_of made_app words ≡ flagged (rows_from 1 ps)
matched words ps h = finished_is words (rows_from 1 ps) (parts_walk words ps h).0

-- ---- what the getters of the matches answer

pub parsed : (words : List Text) (m : ArgMatches) (ps : List Part) → HasMatchesOf made_app words m → parts_of words ≡ Some ps → rows_of (found_of m) ≡ flagged (rows_from 1 ps)
parsed words m ps has h = (has simple_is).0 ∙ matched words ps h

pub gives : (words : List Text) (m : ArgMatches) (ps : List Part) → HasMatchesOf made_app words m → parts_of words ≡ Some ps → GivesParts ps m
gives words m ps has h =
    let rows = parsed words m ps has h in
    let none : 0 ≤ 2 = omega arith in
    let one : 1 ≤ 2 = omega arith in
    let two : 2 ≤ 2 = omega arith in
    record {
      options = λ o. first_value-rows (found_of m) (option_text o) ∙ ap (first_of (option_text o)) rows ∙ option_ends o ps;
      mode = first_value-rows (found_of m) mode_id ∙ ap (first_of mode_id) rows ∙ place_ends 0 ps none;
      count = first_value-rows (found_of m) count_id ∙ ap (first_of count_id) rows ∙ place_ends 1 ps one;
      number = first_value-rows (found_of m) number_id ∙ ap (first_of number_id) rows ∙ place_ends 2 ps two;
      flag = first_value-rows (found_of m) flag_text ∙ ap (first_of flag_text) rows ∙ flag_ends ps;
    }
