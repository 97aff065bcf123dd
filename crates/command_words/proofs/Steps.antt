-- One word of clap's walk, over any command that has the rules of ours.
use Rattle.std.proofs.Common.{◌≡◌, ◌∙◌, ◌++◌, ◌+◌, ℕ, Bool, true, false, List, [], ◌∷◌, min, Option, Some, None, refl, ap, codes}
use Rattle.std.specs.Str.{bytes_eq}
use Rattle.std.proofs.Math.Bool.{and-false}
use Rattle.std.proofs.lemmas.Slice.Eq.{bytes_eq-Decides}
use Rattle.clap.specs.Lexer.{usize_max}
use Rattle.clap.specs.Walk.{Held, Row, Rule, Waiting, Walk, arg_by_id, arg_by_index, arg_by_long, at_row, more_values, used, has_row, walked, idle, option, settled_rows, is_pending}
use Rattle.clap.specs.Simple.{Shape}
use Rattle.clap.specs.Takes.{settle_passes, turn_passes, use_passes}
use Rattle.clap.specs.declared.builder.value_parser.Reading.TheVariants as reading
use Rattle.clap.specs.declared.parser.matches.ValueSource.TheVariants.{CommandLine}
use Rattle.command_words.specs.Words.{Text, is_option_word}
use Rattle.command_words.proofs.Rules.{built_top, flag_rule, option_rule, place_rule, value_rule}
use Rattle.command_words.proofs.KindLemmas.{IsLong, plain_word}

-- ---- rows

-- what a use on the command line leaves
abbrev pub row_for : Text → Text → Row
row_for id value = record { id = id; values = value ∷ []; count = None; source = Some CommandLine; reading = reading.AsWritten }

pub absent : (id : Text) (change : Row → List Row) (missing : List Row) (rows : List Row) → has_row id rows ≡ false → at_row id change missing rows ≡ rows ++ missing
absent id change missing [] h = refl
absent id change missing (r ∷ rs) h = go (bytes_eq r.id id) refl (λ e. absent id change missing rs e)
  where
    go : (b : Bool) → bytes_eq r.id id ≡ b → (has_row id rs ≡ false → at_row id change missing rs ≡ rs ++ missing)
        → at_row id change missing (r ∷ rs) ≡ (r ∷ rs) ++ missing
    go true e rest = let no : true ≡ false = rw e at h in cc
    go false e rest = let more : has_row id rs ≡ false = rw e at h in rw e (ap (λ l. r ∷ l) (rest more))

append_none : (rows : List Row) → rows ++ [] ≡ rows
append_none [] = refl
append_none (r ∷ rs) = ap (λ l. r ∷ l) (append_none rs)

pub used_value : (id : Text) (long : Option Text) (index : Option ℕ) (wanted : Bool) (v : Text) (rows : List Row) → has_row id rows ≡ false
    → used (value_rule id long index wanted) (v ∷ []) rows ≡ rows ++ row_for id v ∷ []
used_value id long index wanted v rows h =
    let gone = absent id (λ _. []) [] rows h ∙ append_none rows in
    rw gone (absent id (more_values CommandLine (v ∷ [])) (row_for id v ∷ []) rows h)

pub use_passes_value : (id : Text) (long : Option Text) (index : Option ℕ) (wanted : Bool) (v : Text) (rows : List Row) → has_row id rows ≡ false
    → use_passes false (value_rule id long index wanted) (v ∷ []) rows ≡ true
use_passes_value id long index wanted v rows h = rw h refl

pub used_flag : (id : Text) (rows : List Row) → has_row id rows ≡ false → used (flag_rule id) [] rows ≡ rows ++ row_for id (codes "true") ∷ []
used_flag id rows h =
    let gone = absent id (λ _. []) [] rows h ∙ append_none rows in
    rw gone (absent id (more_values CommandLine (codes "true" ∷ [])) (row_for id (codes "true") ∷ []) rows h)

pub use_passes_flag : (id : Text) (rows : List Row) → has_row id rows ≡ false → use_passes false (flag_rule id) [] rows ≡ true
use_passes_flag id rows h = rw h refl

-- ---- where the walk stands between two words

abbrev pub held : List Row → Option (Text × List Text) → Held
held rows p = record { rows = rows; pending = p; skip = 0 }

abbrev pub standing : List Row → Option (Text × List Text) → Waiting → ℕ → Walk
standing rows p waiting n = record { held = held rows p; waiting = waiting; position = n; is_trailing = false; stopped = None }

-- the command of these rules
abbrev pub shape : List Rule → Shape
shape c = record built_top { rules = c }

same_text : (t : Text) → bytes_eq t t ≡ true
same_text t = (bytes_eq-Decides t t).1 refl

-- a positional word
pub place_step : (c : List Rule) (w id : Text) (n : ℕ) (wanted : Bool) (rows : List Row) (p : Option (Text × List Text))
    → is_option_word w ≡ false → arg_by_index c n ≡ Some (place_rule id n wanted)
    → walked c [] (standing rows p idle n) w ≡ standing (settled_rows c p rows) (Some (id, w ∷ [])) idle (min (n + 1) usize_max)
unfolding walked
place_step c w id n wanted rows p h at =
    let s = plain_word w h in
    rw (s.0, s.1, s.2, at, and-false (is_pending (place_rule id n wanted) p)) refl

pub place_turn : (c : List Rule) (w id : Text) (n : ℕ) (wanted : Bool) (rows : List Row) (p : Option (Text × List Text))
    → is_option_word w ≡ false → arg_by_index c n ≡ Some (place_rule id n wanted) → settle_passes c false (held rows p) ≡ true
    → turn_passes (shape c) [] (standing rows p idle n) w ≡ true
place_turn c w id n wanted rows p h at ok =
    let s = plain_word w h in
    rw (s.0, s.1, s.2, at, and-false (is_pending (place_rule id n wanted) p)) ok

-- an option whose value is the next word
pub open_step : (c : List Rule) (w id : Text) (n : ℕ) (rows : List Row) (p : Option (Text × List Text))
    → IsLong w id None → arg_by_long c id ≡ Some (option_rule id)
    → walked c [] (standing rows p idle n) w ≡ standing (settled_rows c p rows) (Some (id, [])) (option id) n
unfolding walked
open_step c w id n rows p h at = rw (h.0, h.1, at) refl

pub open_turn : (c : List Rule) (w id : Text) (n : ℕ) (rows : List Row) (p : Option (Text × List Text))
    → IsLong w id None → arg_by_long c id ≡ Some (option_rule id) → settle_passes c false (held rows p) ≡ true
    → turn_passes (shape c) [] (standing rows p idle n) w ≡ true
open_turn c w id n rows p h at ok = rw (h.0, h.1, at, ok) refl

-- the value that follows it
pub value_step : (c : List Rule) (w id : Text) (n : ℕ) (rows : List Row)
    → is_option_word w ≡ false → arg_by_id c id ≡ Some (option_rule id)
    → walked c [] (standing rows (Some (id, [])) (option id) n) w ≡ standing rows (Some (id, w ∷ [])) idle n
unfolding walked
value_step c w id n rows h at =
    let s = plain_word w h in
    rw (s.0, s.1, s.2, at, same_text id) refl

pub value_turn : (c : List Rule) (w id : Text) (n : ℕ) (rows : List Row)
    → is_option_word w ≡ false → turn_passes (shape c) [] (standing rows (Some (id, [])) (option id) n) w ≡ true
value_turn c w id n rows h =
    let s = plain_word w h in
    rw (s.0, s.1, s.2) refl

-- an option with its value in its word
pub give_step : (c : List Rule) (w id v : Text) (n : ℕ) (rows : List Row) (p : Option (Text × List Text))
    → IsLong w id (Some v) → arg_by_long c id ≡ Some (option_rule id) → has_row id (settled_rows c p rows) ≡ false
    → walked c [] (standing rows p idle n) w ≡ standing (settled_rows c p rows ++ row_for id v ∷ []) None idle n
unfolding walked
give_step c w id v n rows p h at new =
    rw (h.0, h.1, at) (ap (λ rs. standing rs None idle n) (used_value id (Some id) None false v (settled_rows c p rows) new))

pub give_turn : (c : List Rule) (w id v : Text) (n : ℕ) (rows : List Row) (p : Option (Text × List Text))
    → IsLong w id (Some v) → arg_by_long c id ≡ Some (option_rule id) → has_row id (settled_rows c p rows) ≡ false → settle_passes c false (held rows p) ≡ true
    → turn_passes (shape c) [] (standing rows p idle n) w ≡ true
give_turn c w id v n rows p h at new ok = rw (h.0, h.1, at, ok, new) refl

-- the flag
pub flag_step : (c : List Rule) (w id : Text) (n : ℕ) (rows : List Row) (p : Option (Text × List Text))
    → IsLong w id None → arg_by_long c id ≡ Some (flag_rule id) → has_row id (settled_rows c p rows) ≡ false
    → walked c [] (standing rows p idle n) w ≡ standing (settled_rows c p rows ++ row_for id (codes "true") ∷ []) None idle n
unfolding walked
flag_step c w id n rows p h at new =
    rw (h.0, h.1, at) (ap (λ rs. standing rs None idle n) (used_flag id (settled_rows c p rows) new))

pub flag_turn : (c : List Rule) (w id : Text) (n : ℕ) (rows : List Row) (p : Option (Text × List Text))
    → IsLong w id None → arg_by_long c id ≡ Some (flag_rule id) → has_row id (settled_rows c p rows) ≡ false → settle_passes c false (held rows p) ≡ true
    → turn_passes (shape c) [] (standing rows p idle n) w ≡ true
flag_turn c w id n rows p h at new ok = rw (h.0, h.1, at, ok, new) refl

-- ---- what is pending becomes a row

pub settle_value : (c : List Rule) (id v : Text) (long : Option Text) (index : Option ℕ) (wanted : Bool) (rows : List Row)
    → arg_by_id c id ≡ Some (value_rule id long index wanted) → has_row id rows ≡ false
    → (settled_rows c (Some (id, v ∷ [])) rows ≡ rows ++ row_for id v ∷ []) × (settle_passes c false (held rows (Some (id, v ∷ []))) ≡ true)
settle_value c id v long index wanted rows at new = (
  rw at (used_value id long index wanted v rows new),
  rw at (use_passes_value id long index wanted v rows new),
)
