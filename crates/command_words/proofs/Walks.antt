-- clap's walk over words that pass the look.
use Rattle.std.proofs.Common.{◌≡◌, ◌∙◌, ◌++◌, ◌<◌, ◌≤◌, ◌+◌, ℕ, Bool, cond, true, false, List, [], ◌∷◌, min, length, Option, Some, None, refl, sym, ap, subst, codes, suc, ◌==◌, arith, append_assoc, append-nil}
use Rattle.std.specs.Prelude.{fold}
use Rattle.clap.specs.Lexer.{usize_max}
use Rattle.clap.specs.Walk.{Row, Rule, Walk, arg_by_id, arg_by_index, arg_by_long, has_row, idle, settled, settled_rows, walked, option as waits_for}
use Rattle.clap.specs.Takes.{settle_passes, turn_passes, walk_passes}
use Rattle.command_words.specs.declared.option_name.OptionName.{OptionName}
use Rattle.command_words.specs.Words.{Kind, Part, Text, flag, flag_text, gives, is_option_word, journal, kind_of, opens, option, option_text, part_by, parts_after, plain, positional, positionals, refused, with_part}
use Rattle.command_words.proofs.Rules.{flag_rule, option_rule, place_rule}
use Rattle.command_words.proofs.KindLemmas.{MeansKind, kind_means}
use Rattle.command_words.proofs.Steps.{flag_step, flag_turn, give_step, give_turn, held, open_step, open_turn, place_step, place_turn, row_for, settle_value, shape, standing, value_step, value_turn}
use Rattle.command_words.proofs.Apart.{both, is_new, is_once, new_flag, new_option, new_place, not_true, place_id, rows_from}

-- the rules have our arguments
pub record Fits (c : List Rule) : Type 0 where
  pub long : (o : OptionName) → arg_by_long c (option_text o) ≡ Some (option_rule (option_text o))
  pub id : (o : OptionName) → arg_by_id c (option_text o) ≡ Some (option_rule (option_text o))
  pub flag : arg_by_long c flag_text ≡ Some (flag_rule flag_text)
  pub place : (n : ℕ) → 1 ≤ n → n ≤ 3 → arg_by_index c n ≡ Some (place_rule (place_id n) n (n == 1))
  pub place_by_id : (n : ℕ) → 1 ≤ n → n ≤ 3 → arg_by_id c (place_id n) ≡ Some (place_rule (place_id n) n (n == 1))

-- the walk stands between two words with these rows
abbrev pub Stands : List Rule → Option OptionName → ℕ → List Row → Walk → Type 0
Stands c None n rows w = (base : List Row) × (p : Option (Text × List Text)) × (w ≡ standing base p idle n) × (rows ≡ settled_rows c p base)
    × (settle_passes c false (held base p) ≡ true)
Stands c (Some o) n rows w = w ≡ standing rows (Some (option_text o, [])) (waits_for (option_text o)) n

-- the walk passes, and comes to these rows
pub record Ends (c : List Rule) (rows : List Row) (w : Walk) (words : List Text) : Type 0 where
  pub passes : walk_passes (shape c) [] w words ≡ true
  pub given : (settled c (fold (walked c []) w words).held).rows ≡ rows
  pub settles : settle_passes c false (fold (walked c []) w words).held ≡ true
  pub stopped : (fold (walked c []) w words).stopped ≡ None

one_more : (c : List Rule) (rows : List Row) (w next : Walk) (word : Text) (words : List Text) → turn_passes (shape c) [] w word ≡ true → walked c [] w word ≡ next
    → Ends c rows next words → Ends c rows w (word ∷ words)
unfolding walk_passes
one_more c rows w next word words turn step e =
    let from : Ends c rows (walked c [] w word) words = subst (λ (x : Walk). Ends c rows x words) (sym step) e in
    record {
      passes = rw turn from.passes;
      given = from.given;
      settles = from.settles;
      stopped = from.stopped;
    }

pub with_part_is : (p : Part) (o : Option (List Part)) (ps : List Part) → with_part p o ≡ Some ps → (qs : List Part) × (o ≡ Some qs) × (ps ≡ p ∷ qs)
with_part_is p None ps h = let no : None ≡ Some ps = h in cc
with_part_is p (Some qs) ps h = let same : Some (p ∷ qs) ≡ Some ps = h in (qs, refl, cc)

regroup : (rows : List Row) (r : Row) (more : List Row) → (rows ++ r ∷ []) ++ more ≡ rows ++ r ∷ more
regroup rows r more = append_assoc rows (r ∷ []) more

joined : (c : List Rule) (rows : List Row) (r : Row) (more : List Row) (w : Walk) (words : List Text) → Ends c ((rows ++ r ∷ []) ++ more) w words → Ends c (rows ++ r ∷ more) w words
joined c rows r more w words e = subst (λ (rs : List Row). Ends c rs w words) (regroup rows r more) e

abbrev Walks : List Rule → List Text → Type 0
Walks c words = (opened : Option OptionName) (n : ℕ) (rows : List Row) (w : Walk) (ps : List Part) → Stands c opened n rows w → parts_after opened words ≡ Some ps
    → is_new rows n ps ≡ true → is_once ps ≡ true → 1 ≤ n → n + length (positionals ps) ≤ 4 → Ends c (rows ++ rows_from n ps) w words

-- from an idle walk, by the kind of the next word
by_kind : (c : List Rule) → Fits c → (word : Text) (words : List Text) (base : List Row) (p : Option (Text × List Text)) (n : ℕ) (ps : List Part) (k : Kind)
    → MeansKind word k → settle_passes c false (held base p) ≡ true → part_by k word (λ o. parts_after o words) ≡ Some ps
    → is_new (settled_rows c p base) n ps ≡ true → is_once ps ≡ true → 1 ≤ n → n + length (positionals ps) ≤ 4 → Walks c words
    → Ends c (settled_rows c p base ++ rows_from n ps) (standing base p idle n) (word ∷ words)
by_kind c f word words base p n ps plain means ok h new once low high rest =
    let got = with_part_is (positional word) (parts_after None words) ps h in
    let qs = got.0 in
    let new2 = both _ _ (rw got.2 at new) in
    let once2 = both _ _ (rw got.2 at once) in
    let high2 : suc n + length (positionals qs) ≤ 4 = omega (arith, rw got.2 at high) in
    let below : n ≤ 3 = omega arith in
    let after : n < suc n = omega arith in
    let low2 : 1 ≤ suc n = omega arith in
    let here : has_row (place_id n) (settled_rows c p base) ≡ false = not_true _ new2.0 in
    let settle = settle_value c (place_id n) word None (Some n) (n == 1) (settled_rows c p base) (f.place_by_id n low below) here in
    let next : min (n + 1) usize_max ≡ suc n = omega arith in
    let step = place_step c word (place_id n) n (n == 1) base p means (f.place n low below)
    ∙ ap (λ m. standing (settled_rows c p base) (Some (place_id n, word ∷ [])) idle m) next in
    let turn = place_turn c word (place_id n) n (n == 1) base p means (f.place n low below) ok in
    let ends = rest None (suc n) (settled_rows c p base ++ row_for (place_id n) word ∷ []) (standing (settled_rows c p base) (Some (place_id n, word ∷ [])) idle (suc n)) qs
    (settled_rows c p base, Some (place_id n, word ∷ []), refl, sym settle.0, settle.1) got.1
    (new_place (settled_rows c p base) n (suc n) word qs new2.1 low after high2) once2.1 low2 high2 in
    rw got.2 (one_more c _ _ _ word words turn step (joined c (settled_rows c p base) _ _ _ words ends))
by_kind c f word words base p n ps (opens o) means ok h new once low high rest =
    let step = open_step c word (option_text o) n base p means (f.long o) in
    let turn = open_turn c word (option_text o) n base p means (f.long o) ok in
    let ends = rest (Some o) n (settled_rows c p base) (standing (settled_rows c p base) (Some (option_text o, [])) (waits_for (option_text o)) n) ps
    refl h new once low high in
    one_more c _ _ _ word words turn step ends
by_kind c f word words base p n ps (gives o v) means ok h new once low high rest =
    let got = with_part_is (option o v) (parts_after None words) ps h in
    let qs = got.0 in
    let new2 = both _ _ (rw got.2 at new) in
    let once2 = both _ _ (rw got.2 at once) in
    let high2 : n + length (positionals qs) ≤ 4 = rw got.2 at high in
    let here : has_row (option_text o) (settled_rows c p base) ≡ false = not_true _ new2.0 in
    let step = give_step c word (option_text o) v n base p means (f.long o) here in
    let turn = give_turn c word (option_text o) v n base p means (f.long o) here ok in
    let rows = settled_rows c p base ++ row_for (option_text o) v ∷ [] in
    let ends = rest None n rows (standing rows None idle n) qs (rows, None, refl, refl, refl) got.1
    (new_option (settled_rows c p base) o v n qs new2.1 (not_true _ once2.0)) once2.1 low high2 in
    rw got.2 (one_more c _ _ _ word words turn step (joined c (settled_rows c p base) _ _ _ words ends))
by_kind c f word words base p n ps flag means ok h new once low high rest =
    let got = with_part_is journal (parts_after None words) ps h in
    let qs = got.0 in
    let new2 = both _ _ (rw got.2 at new) in
    let once2 = both _ _ (rw got.2 at once) in
    let high2 : n + length (positionals qs) ≤ 4 = rw got.2 at high in
    let here : has_row flag_text (settled_rows c p base) ≡ false = not_true _ new2.0 in
    let step = flag_step c word flag_text n base p means f.flag here in
    let turn = flag_turn c word flag_text n base p means f.flag here ok in
    let rows = settled_rows c p base ++ row_for flag_text (codes "true") ∷ [] in
    let ends = rest None n rows (standing rows None idle n) qs (rows, None, refl, refl, refl) got.1
    (new_flag (settled_rows c p base) (codes "true") n qs new2.1 (not_true _ once2.0)) once2.1 low high2 in
    rw got.2 (one_more c _ _ _ word words turn step (joined c (settled_rows c p base) _ _ _ words ends))
by_kind c f word words base p n ps refused means ok h new once low high rest = let no : None ≡ Some ps = h in cc

-- from a walk that waits for an option's value
by_value : (c : List Rule) → Fits c → (word : Text) (words : List Text) (rows : List Row) (o : OptionName) (n : ℕ) (ps : List Part)
    → (b : Bool) → is_option_word word ≡ b → cond b None (with_part (option o word) (parts_after None words)) ≡ Some ps
    → is_new rows n ps ≡ true → is_once ps ≡ true → 1 ≤ n → n + length (positionals ps) ≤ 4 → Walks c words
    → Ends c (rows ++ rows_from n ps) (standing rows (Some (option_text o, [])) (waits_for (option_text o)) n) (word ∷ words)
by_value c f word words rows o n ps true means h new once low high rest = let no : None ≡ Some ps = h in cc
by_value c f word words rows o n ps false means h new once low high rest =
    let got = with_part_is (option o word) (parts_after None words) ps h in
    let qs = got.0 in
    let new2 = both _ _ (rw got.2 at new) in
    let once2 = both _ _ (rw got.2 at once) in
    let high2 : n + length (positionals qs) ≤ 4 = rw got.2 at high in
    let here : has_row (option_text o) rows ≡ false = not_true _ new2.0 in
    let settle = settle_value c (option_text o) word (Some (option_text o)) None false rows (f.id o) here in
    let step = value_step c word (option_text o) n rows means (f.id o) in
    let turn = value_turn c word (option_text o) n rows means in
    let ends = rest None n (rows ++ row_for (option_text o) word ∷ []) (standing rows (Some (option_text o, word ∷ [])) idle n) qs
    (rows, Some (option_text o, word ∷ []), refl, sym settle.0, settle.1) got.1
    (new_option rows o word n qs new2.1 (not_true _ once2.0)) once2.1 low high2 in
    rw got.2 (one_more c _ _ _ word words turn step (joined c rows _ _ _ words ends))

-- clap's walk over words whose parts stand once, with at most three positionals, passes and gives the parts' rows
pub walks : (c : List Rule) → Fits c → (words : List Text) (opened : Option OptionName) (n : ℕ) (rows : List Row) (w : Walk) (ps : List Part)
    → Stands c opened n rows w → parts_after opened words ≡ Some ps
    → is_new rows n ps ≡ true → is_once ps ≡ true → 1 ≤ n → n + length (positionals ps) ≤ 4 → Ends c (rows ++ rows_from n ps) w words
unfolding parts_after walk_passes
walks c f [] None n rows w ps st h new once low high =
    let none : ps ≡ [] = let same : Some [] ≡ Some ps = h in cc in
    rw (none, st.2, st.3) (record { passes = refl; given = sym (append-nil _); settles = st.4; stopped = refl })
walks c f [] (Some o) n rows w ps st h new once low high = let no : None ≡ Some ps = h in cc
walks c f (word ∷ words) None n rows w ps st h new once low high =
    let new2 : is_new (settled_rows c st.1 st.0) n ps ≡ true = rw st.3 at new in
    rw (st.2, st.3) (by_kind c f word words st.0 st.1 n ps (kind_of word) (kind_means word) st.4 h new2 once low high (walks c f words))
walks c f (word ∷ words) (Some o) n rows w ps st h new once low high =
    rw st (by_value c f word words rows o n ps (is_option_word word) refl h new once low high (walks c f words))
