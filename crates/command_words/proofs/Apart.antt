-- Ids of the arguments are apart, so parts that stand once use each argument once.
use Rattle.std.proofs.Common.{◌≡◌, ◌++◌, ◌<◌, ◌≤◌, ◌+◌, ℕ, Bool, true, false, not, List, [], ◌∷◌, length, drop, refl, codes, zero, suc, ◌&&◌, ◌||◌, arith}
use Rattle.std.specs.List.{list_all, list_any}
use Rattle.std.specs.Str.{bytes_eq}
use Rattle.clap.specs.Walk.{Row, has_row}
use Rattle.command_words.specs.declared.option_name.OptionName.{OptionName}
use Rattle.command_words.specs.declared.option_name.OptionName.TheVariants.{Cores, Buckets, Key, Table, Work, Moves, Round, Limit, Pool, Packets, Serial}
use Rattle.command_words.specs.Words.{Part, Text, dashed, flag_text, journal, option, option_text, options, positional, positionals}
use Rattle.command_words.specs.Parsed.{count_id, mode_id, number_id}
use Rattle.command_words.proofs.Steps.{row_for}

-- the part has this name
abbrev pub named : Text → Part → Bool
named name (positional w) = false
named name (option o v) = bytes_eq name (dashed (option_text o))
named name journal = bytes_eq name (dashed flag_text)

abbrev pub same_name : Part → Part → Bool
same_name (positional w) q = false
same_name (option o v) q = named (dashed (option_text o)) q
same_name journal q = named (dashed flag_text) q

-- no option and no flag stands twice
abbrev pub is_once : List Part → Bool
is_once [] = true
is_once (p ∷ ps) = not (list_any (same_name p) ps) && is_once ps

-- the id of the n-th positional, from 1
abbrev pub place_id : ℕ → Text
place_id (suc zero) = mode_id
place_id (suc (suc zero)) = count_id
place_id _ = number_id

pub both : (a b : Bool) → (a && b) ≡ true → (a ≡ true) × (b ≡ true)
both true b h = (refl, h)
both false b h = let no : false ≡ true = h in cc

pub not_true : (a : Bool) → not a ≡ true → a ≡ false
not_true true h = let no : false ≡ true = h in cc
not_true false h = refl

pub neither : (a b : Bool) → (a || b) ≡ false → (a ≡ false) × (b ≡ false)
neither true b h = let no : true ≡ false = h in cc
neither false b h = (refl, h)

-- ---- ids

first_passes : (p : OptionName → Bool) (o : OptionName) (os : List OptionName) → list_all p (o ∷ os) ≡ true → p o ≡ true
first_passes p o os h = (both (p o) (list_all p os) h).0

rest_passes : (p : OptionName → Bool) (n : ℕ) (os : List OptionName) → list_all p os ≡ true → list_all p (drop n os) ≡ true
rest_passes p zero os h = h
rest_passes p (suc n) [] h = h
rest_passes p (suc n) (o ∷ os) h = rest_passes p n os (both (p o) (list_all p os) h).1

-- what a test of all options says of one
pub each_option : (p : OptionName → Bool) → list_all p options ≡ true → (o : OptionName) → p o ≡ true
each_option p h Cores = first_passes p Cores (drop 1 options) h
each_option p h Buckets = first_passes p Buckets (drop 2 options) (rest_passes p 1 options h)
each_option p h Key = first_passes p Key (drop 3 options) (rest_passes p 2 options h)
each_option p h Table = first_passes p Table (drop 4 options) (rest_passes p 3 options h)
each_option p h Work = first_passes p Work (drop 5 options) (rest_passes p 4 options h)
each_option p h Moves = first_passes p Moves (drop 6 options) (rest_passes p 5 options h)
each_option p h Round = first_passes p Round (drop 7 options) (rest_passes p 6 options h)
each_option p h Limit = first_passes p Limit (drop 8 options) (rest_passes p 7 options h)
each_option p h Pool = first_passes p Pool (drop 9 options) (rest_passes p 8 options h)
each_option p h Packets = first_passes p Packets (drop 10 options) (rest_passes p 9 options h)
each_option p h Serial = first_passes p Serial (drop 11 options) (rest_passes p 10 options h)

-- no option has this name
abbrev is_free : Text → Bool
is_free t = list_all (λ o. not (bytes_eq (option_text o) t)) options && list_all (λ o. not (bytes_eq t (option_text o))) options

option_apart : (t : Text) → is_free t ≡ true → (o : OptionName) → bytes_eq (option_text o) t ≡ false
option_apart t h o = not_true _ (each_option (λ o. not (bytes_eq (option_text o) t)) (both (list_all (λ o. not (bytes_eq (option_text o) t)) options) _ h).0 o)

apart_option : (t : Text) → is_free t ≡ true → (o : OptionName) → bytes_eq t (option_text o) ≡ false
apart_option t h o = not_true _ (each_option (λ o. not (bytes_eq t (option_text o))) (both (list_all (λ o. not (bytes_eq (option_text o) t)) options) _ h).1 o)

pub option_flag : (o : OptionName) → bytes_eq (option_text o) flag_text ≡ false
option_flag o = option_apart flag_text refl o

pub flag_option : (o : OptionName) → bytes_eq flag_text (option_text o) ≡ false
flag_option o = apart_option flag_text refl o

pub option_place : (o : OptionName) (n : ℕ) → bytes_eq (option_text o) (place_id n) ≡ false
option_place o zero = option_apart number_id refl o
option_place o (suc zero) = option_apart mode_id refl o
option_place o (suc (suc zero)) = option_apart count_id refl o
option_place o (suc (suc (suc n))) = option_apart number_id refl o

pub place_option : (n : ℕ) (o : OptionName) → bytes_eq (place_id n) (option_text o) ≡ false
place_option zero o = apart_option number_id refl o
place_option (suc zero) o = apart_option mode_id refl o
place_option (suc (suc zero)) o = apart_option count_id refl o
place_option (suc (suc (suc n))) o = apart_option number_id refl o

pub flag_place : (n : ℕ) → bytes_eq flag_text (place_id n) ≡ false
flag_place zero = refl
flag_place (suc zero) = refl
flag_place (suc (suc zero)) = refl
flag_place (suc (suc (suc n))) = refl

pub place_flag : (n : ℕ) → bytes_eq (place_id n) flag_text ≡ false
place_flag zero = refl
place_flag (suc zero) = refl
place_flag (suc (suc zero)) = refl
place_flag (suc (suc (suc n))) = refl

pub place_place : (n m : ℕ) → 1 ≤ n → n < m → m ≤ 3 → bytes_eq (place_id n) (place_id m) ≡ false
place_place zero m a b e = absurd (omega arith)
place_place (suc zero) zero a b e = absurd (omega arith)
place_place (suc zero) (suc zero) a b e = absurd (omega arith)
place_place (suc zero) (suc (suc zero)) a b e = refl
place_place (suc zero) (suc (suc (suc m))) a b e = refl
place_place (suc (suc zero)) zero a b e = absurd (omega arith)
place_place (suc (suc zero)) (suc zero) a b e = absurd (omega arith)
place_place (suc (suc zero)) (suc (suc zero)) a b e = absurd (omega arith)
place_place (suc (suc zero)) (suc (suc (suc m))) a b e = refl
place_place (suc (suc (suc n))) m a b e = absurd (omega arith)

-- ---- rows

-- the rows of the parts, where the next positional is the n-th
abbrev pub rows_from : ℕ → List Part → List Row
rows_from n [] = []
rows_from n (positional w ∷ ps) = row_for (place_id n) w ∷ rows_from (suc n) ps
rows_from n (option o v ∷ ps) = row_for (option_text o) v ∷ rows_from n ps
rows_from n (journal ∷ ps) = row_for flag_text (codes "true") ∷ rows_from n ps

-- none of the parts has its row yet
abbrev pub is_new : List Row → ℕ → List Part → Bool
is_new rows n [] = true
is_new rows n (positional w ∷ ps) = not (has_row (place_id n) rows) && is_new rows (suc n) ps
is_new rows n (option o v ∷ ps) = not (has_row (option_text o) rows) && is_new rows n ps
is_new rows n (journal ∷ ps) = not (has_row flag_text rows) && is_new rows n ps

pub new_at_first : (n : ℕ) (ps : List Part) → is_new [] n ps ≡ true
new_at_first n [] = refl
new_at_first n (positional w ∷ ps) = new_at_first (suc n) ps
new_at_first n (option o v ∷ ps) = new_at_first n ps
new_at_first n (journal ∷ ps) = new_at_first n ps

-- one more row, of another id
more_rows : (rows : List Row) (id other v : Text) → has_row id rows ≡ false → bytes_eq other id ≡ false → has_row id (rows ++ row_for other v ∷ []) ≡ false
more_rows [] id other v h e = rw e refl
more_rows (r ∷ rs) id other v h e =
    let parts = neither (bytes_eq r.id id) (has_row id rs) h in
    let one = parts.0 in
    rw one (more_rows rs id other v parts.1 e)

still : (a b : Bool) → a ≡ false → b ≡ true → (not a && b) ≡ true
still a b e f = rw (e, f) refl

pub new_place : (rows : List Row) (k n : ℕ) (w : Text) (ps : List Part) → is_new rows n ps ≡ true → 1 ≤ k → k < n → n + length (positionals ps) ≤ 4
    → is_new (rows ++ row_for (place_id k) w ∷ []) n ps ≡ true
new_place rows k n w [] h a b l = refl
new_place rows k n w (positional x ∷ ps) h a b l =
    let s = both (not (has_row (place_id n) rows)) _ h in
    let below : n ≤ 3 = omega arith in
    let rest : suc n + length (positionals ps) ≤ 4 = omega arith in
    let next : k < suc n = omega arith in
    still _ _ (more_rows rows (place_id n) (place_id k) w (not_true _ s.0) (place_place k n a b below)) (new_place rows k (suc n) w ps s.1 a next rest)
new_place rows k n w (option o v ∷ ps) h a b l =
    let s = both (not (has_row (option_text o) rows)) _ h in
    still _ _ (more_rows rows (option_text o) (place_id k) w (not_true _ s.0) (place_option k o)) (new_place rows k n w ps s.1 a b l)
new_place rows k n w (journal ∷ ps) h a b l =
    let s = both (not (has_row flag_text rows)) _ h in
    still _ _ (more_rows rows flag_text (place_id k) w (not_true _ s.0) (place_flag k)) (new_place rows k n w ps s.1 a b l)

pub new_option : (rows : List Row) (o : OptionName) (v : Text) (n : ℕ) (ps : List Part) → is_new rows n ps ≡ true → list_any (same_name (option o v)) ps ≡ false
    → is_new (rows ++ row_for (option_text o) v ∷ []) n ps ≡ true
new_option rows o v n [] h l = refl
new_option rows o v n (positional x ∷ ps) h l =
    let s = both (not (has_row (place_id n) rows)) _ h in
    still _ _ (more_rows rows (place_id n) (option_text o) v (not_true _ s.0) (option_place o n)) (new_option rows o v (suc n) ps s.1 l)
new_option rows o v n (option a x ∷ ps) h l =
    let s = both (not (has_row (option_text a) rows)) _ h in
    let t = neither (bytes_eq (option_text o) (option_text a)) _ l in
    still _ _ (more_rows rows (option_text a) (option_text o) v (not_true _ s.0) t.0) (new_option rows o v n ps s.1 t.1)
new_option rows o v n (journal ∷ ps) h l =
    let s = both (not (has_row flag_text rows)) _ h in
    still _ _ (more_rows rows flag_text (option_text o) v (not_true _ s.0) (option_flag o)) (new_option rows o v n ps s.1 (neither (bytes_eq (option_text o) flag_text) _ l).1)

pub new_flag : (rows : List Row) (v : Text) (n : ℕ) (ps : List Part) → is_new rows n ps ≡ true → list_any (same_name journal) ps ≡ false
    → is_new (rows ++ row_for flag_text v ∷ []) n ps ≡ true
new_flag rows v n [] h l = refl
new_flag rows v n (positional x ∷ ps) h l =
    let s = both (not (has_row (place_id n) rows)) _ h in
    still _ _ (more_rows rows (place_id n) flag_text v (not_true _ s.0) (flag_place n)) (new_flag rows v (suc n) ps s.1 l)
new_flag rows v n (option a x ∷ ps) h l =
    let s = both (not (has_row (option_text a) rows)) _ h in
    still _ _ (more_rows rows (option_text a) flag_text v (not_true _ s.0) (flag_option a)) (new_flag rows v n ps s.1 (neither (bytes_eq flag_text (option_text a)) _ l).1)
new_flag rows v n (journal ∷ ps) h l = let no : true ≡ false = l in cc
