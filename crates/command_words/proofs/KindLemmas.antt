-- What clap's lexer makes of a word, by its kind.
use Rattle.std.proofs.Common.{◌≡◌, ◌∙◌, ◌+◌, ℕ, Bool, cond, true, false, List, [], ◌∷◌, take, drop, Option, Some, None, refl, sym, ap, ap₂, inl, inr, ◌⊎◌, codes, suc, arith, ◌==◌}
use Rattle.std.specs.List.{after_first, position_or_len, list_any, find}
use Rattle.std.specs.Option.{option_map_or}
use Rattle.std.specs.Str.{bytes_eq}
use Rattle.std.proofs.lemmas.Slice.Eq.{bytes_eq-Decides}
use Rattle.clap.specs.Lexer.{long_of, short_of}
use Rattle.command_words.specs.declared.option_name.OptionName.{OptionName}
use Rattle.command_words.specs.declared.option_name.OptionName.TheVariants.{Cores, Buckets, Key, Table, Work, Moves, Round, Limit, Pool, Packets, Serial}
use Rattle.command_words.specs.Words.{Text, Kind, plain, opens, gives, flag, refused, dashed, flag_kind, flag_text, is_option_word, kind_of, name_of, named_kind, option_kind, option_named, option_text, options, value_of}

-- a word that is no option word is no flag to clap
pub plain_word : (w : Text) → is_option_word w ≡ false → (bytes_eq w (45 ∷ 45 ∷ []) ≡ false) × (long_of w ≡ None) × (short_of w ≡ None)
plain_word [] h = (refl, refl, refl)
plain_word (x ∷ xs) h = (rw h refl, rw h refl, rw h refl)

name_stop : (x : ℕ) (xs : Text) → (x == 61) ≡ true → name_of (x ∷ xs) ≡ []
name_stop x xs h = rw h refl

name_cons : (x : ℕ) (xs : Text) → (x == 61) ≡ false → name_of (x ∷ xs) ≡ x ∷ name_of xs
name_cons x xs h = rw h (
    let k = position_or_len (λ y. y == 61) xs in
    let s : 1 + k ≡ suc k = omega arith in
    ap (λ n. take n (x ∷ xs)) s)

after_cons : (x : ℕ) (xs : Text) → (x == 61) ≡ false → after_first (λ y. y == 61) (x ∷ xs) ≡ after_first (λ y. y == 61) xs
after_cons x xs h = rw h (
    let k = position_or_len (λ y. y == 61) xs in
    let s : 1 + k + 1 ≡ suc (k + 1) = omega arith in
    ap (λ n. drop n (x ∷ xs)) s)

bool_cases : (b : Bool) → (b ≡ true) ⊎ (b ≡ false)
bool_cases true = inl refl
bool_cases false = inr refl

-- taking the first byte off both sides
name_peel : (xs : Text) (z : ℕ) (t : Text) → name_of xs ≡ z ∷ t → (x : ℕ) × (rest : Text) × (xs ≡ x ∷ rest) × (x ≡ z) × (name_of rest ≡ t)
name_peel [] z t h = let no : [] ≡ z ∷ t = h in cc
name_peel (x ∷ xs) z t h = go (x == 61) refl
  where
    go : (b : Bool) → (x == 61) ≡ b → (y : ℕ) × (rest : Text) × ((x ∷ xs) ≡ y ∷ rest) × (y ≡ z) × (name_of rest ≡ t)
    go true e = let no : [] ≡ z ∷ t = sym (name_stop x xs e) ∙ h in cc
    go false e = let same : x ∷ name_of xs ≡ z ∷ t = sym (name_cons x xs e) ∙ h in (x, xs, refl, cc, cc)

long_core : (u : ℕ) (us : Text) → long_of (45 ∷ 45 ∷ u ∷ us) ≡ Some (name_of (u ∷ us), value_of (45 ∷ 45 ∷ u ∷ us))
long_core u us = ap (λ v. Some (name_of (u ∷ us), cond (list_any (λ y. y == 61) (u ∷ us)) (Some v) None))
    (sym (after_cons 45 (45 ∷ u ∷ us) refl ∙ after_cons 45 (u ∷ us) refl))

-- a word whose name is `--` and more is a long word to clap
pub long_word : (w : Text) (y : ℕ) (t : Text) → name_of w ≡ dashed (y ∷ t) → (long_of w ≡ Some (y ∷ t, value_of w)) × (bytes_eq w (45 ∷ 45 ∷ []) ≡ false)
long_word w y t h =
    let one = name_peel w 45 (45 ∷ y ∷ t) h in
    let two = name_peel one.1 45 (y ∷ t) one.4 in
    let three = name_peel two.1 y t two.4 in
    let is : w ≡ 45 ∷ 45 ∷ three.0 ∷ three.1 = one.2 ∙ ap₂ (λ (a : ℕ) (rest : Text). a ∷ rest) one.3 (two.2 ∙ ap₂ (λ (a : ℕ) (rest : Text). a ∷ rest) two.3 three.2) in
    let name : name_of (three.0 ∷ three.1) ≡ y ∷ t = ap name_of (sym three.2) ∙ two.4 in
    rw is (long_core three.0 three.1 ∙ ap (λ (n : Text). Some (n, value_of (45 ∷ 45 ∷ three.0 ∷ three.1))) name, refl)

-- ---- by kind

find_true : {X : Type 0} (p : X → Bool) (xs : List X) (x : X) → find p xs ≡ Some x → p x ≡ true
find_true p [] x h = cc
find_true p (y ∷ ys) x h = go (p y) refl (λ e. find_true p ys x e)
  where
    go : (b : Bool) → p y ≡ b → (find p ys ≡ Some x → p x ≡ true) → p x ≡ true
    go true e rest = let same : Some y ≡ Some x = rw e at h in let one : y ≡ x = cc in rw (← one) e
    go false e rest = rest (rw e at h)

option_is : (o : OptionName) (name : Text) → option_named name ≡ Some o → name ≡ dashed (option_text o)
option_is o name h = sym ((bytes_eq-Decides (dashed (option_text o)) name).0 (find_true (λ a. bytes_eq (dashed (option_text a)) name) options o h))

text_head : (o : OptionName) → (y : ℕ) × (t : Text) × (option_text o ≡ y ∷ t)
text_head Cores = (_, _, refl)
text_head Buckets = (_, _, refl)
text_head Key = (_, _, refl)
text_head Table = (_, _, refl)
text_head Work = (_, _, refl)
text_head Moves = (_, _, refl)
text_head Round = (_, _, refl)
text_head Limit = (_, _, refl)
text_head Pool = (_, _, refl)
text_head Packets = (_, _, refl)
text_head Serial = (_, _, refl)

-- what clap's lexer says of a word of this name
abbrev pub IsLong : Text → Text → Option Text → Type 0
IsLong w name value = (long_of w ≡ Some (name, value)) × (bytes_eq w (45 ∷ 45 ∷ []) ≡ false)

option_long : (w : Text) (o : OptionName) → name_of w ≡ dashed (option_text o) → IsLong w (option_text o) (value_of w)
option_long w o h =
    let head = text_head o in
    rw head.2 (long_word w head.0 head.1 (h ∙ ap dashed head.2))

-- what the kind of a word says of it to clap
abbrev pub MeansKind : Text → Kind → Type 0
MeansKind w plain = is_option_word w ≡ false
MeansKind w (opens o) = IsLong w (option_text o) None
MeansKind w (gives o v) = IsLong w (option_text o) (Some v)
MeansKind w flag = IsLong w flag_text None
MeansKind w refused = Unit {0}

by_option : (w : Text) (o : OptionName) (value : Option Text) → IsLong w (option_text o) value → MeansKind w (option_kind o value)
by_option w o None h = h
by_option w o (Some []) h = tt
by_option w o (Some (x ∷ xs)) h = h

by_flag : (w : Text) (value : Option Text) → IsLong w flag_text value → MeansKind w (flag_kind value)
by_flag w None h = h
by_flag w (Some v) h = tt

pub kind_means : (w : Text) → MeansKind w (kind_of w)
kind_means w = go (is_option_word w) refl
  where
    by_name : (o : Option OptionName) → option_named (name_of w) ≡ o → MeansKind w (option_map_or (λ a. option_kind a (value_of w)) o refused)
    by_name None e = tt
    by_name (Some o) e = by_option w o (value_of w) (option_long w o (option_is o (name_of w) e))

    named : (b : Bool) → bytes_eq (name_of w) (dashed flag_text) ≡ b → MeansKind w (cond b (flag_kind (value_of w)) (option_map_or (λ a. option_kind a (value_of w)) (option_named (name_of w)) refused))
    named true e = by_flag w (value_of w) (long_word w 106 (codes "ournal") ((bytes_eq-Decides (name_of w) (dashed flag_text)).0 e))
    named false e = by_name (option_named (name_of w)) refl

    go : (b : Bool) → is_option_word w ≡ b → MeansKind w (cond b (named_kind (name_of w) (value_of w)) plain)
    go true e = named (bytes_eq (name_of w) (dashed flag_text)) refl
    go false e = e

-- the name of a word, by its kind
abbrev pub MeansName : Text → Kind → Type 0
MeansName w plain = is_option_word w ≡ false
MeansName w (opens o) = (is_option_word w ≡ true) × (name_of w ≡ dashed (option_text o))
MeansName w (gives o v) = (is_option_word w ≡ true) × (name_of w ≡ dashed (option_text o))
MeansName w flag = (is_option_word w ≡ true) × (name_of w ≡ dashed flag_text)
MeansName w refused = Unit {0}

name_by_option : (w : Text) (o : OptionName) (value : Option Text) → (is_option_word w ≡ true) × (name_of w ≡ dashed (option_text o)) → MeansName w (option_kind o value)
name_by_option w o None h = h
name_by_option w o (Some []) h = tt
name_by_option w o (Some (x ∷ xs)) h = h

name_by_flag : (w : Text) (value : Option Text) → (is_option_word w ≡ true) × (name_of w ≡ dashed flag_text) → MeansName w (flag_kind value)
name_by_flag w None h = h
name_by_flag w (Some v) h = tt

pub kind_name : (w : Text) → MeansName w (kind_of w)
kind_name w = go (is_option_word w) refl
  where
    by_name : is_option_word w ≡ true → (o : Option OptionName) → option_named (name_of w) ≡ o → MeansName w (option_map_or (λ a. option_kind a (value_of w)) o refused)
    by_name h None e = tt
    by_name h (Some o) e = name_by_option w o (value_of w) (h, option_is o (name_of w) e)

    by_text : is_option_word w ≡ true → (b : Bool) → bytes_eq (name_of w) (dashed flag_text) ≡ b
        → MeansName w (cond b (flag_kind (value_of w)) (option_map_or (λ a. option_kind a (value_of w)) (option_named (name_of w)) refused))
    by_text h true e = name_by_flag w (value_of w) (h, (bytes_eq-Decides (name_of w) (dashed flag_text)).0 e)
    by_text h false e = by_name h (option_named (name_of w)) refl

    go : (b : Bool) → is_option_word w ≡ b → MeansName w (cond b (named_kind (name_of w) (value_of w)) plain)
    go true e = by_text e (bytes_eq (name_of w) (dashed flag_text)) refl
    go false e = e
