-- Words whose names stand once have parts that stand once.
use Rattle.std.proofs.Common.{◌≡◌, Bool, cond, true, false, not, List, [], ◌∷◌, Option, Some, None, refl, ◌&&◌}
use Rattle.std.specs.List.{list_any}
use Rattle.std.specs.Str.{bytes_eq}
use Rattle.command_words.specs.declared.option_name.OptionName.{OptionName}
use Rattle.command_words.specs.Words.{Kind, Part, Text, dashed, flag, flag_text, gives, is_distinct, is_option_word, journal, kind_of, name_of, names_of, opens, option, option_text, part_by, parts_after, plain, positional, refused, with_part}
use Rattle.command_words.proofs.Apart.{both, is_once, named, neither, not_true, same_name}
use Rattle.command_words.proofs.KindLemmas.{MeansName, kind_name}
use Rattle.command_words.proofs.Walks.{with_part_is}

skip_name : (w : Text) (words : List Text) → is_option_word w ≡ false → names_of (w ∷ words) ≡ names_of words
skip_name w words h = rw h refl

take_name : (w : Text) (words : List Text) (name : Text) → is_option_word w ≡ true → name_of w ≡ name → names_of (w ∷ words) ≡ name ∷ names_of words
take_name w words name h e = rw (h, e) refl

-- the open option has another name
abbrev IsApart : Text → Option OptionName → Type 0
IsApart name None = Unit {0}
IsApart name (Some o) = bytes_eq name (dashed (option_text o)) ≡ false

abbrev Absent : Text → List Text → Type 0
Absent name words = (opened : Option OptionName) (ps : List Part) → parts_after opened words ≡ Some ps → list_any (bytes_eq name) (names_of words) ≡ false → IsApart name opened
    → list_any (named name) ps ≡ false

absent_by_kind : (name w : Text) (words : List Text) (ps : List Part) (k : Kind) → MeansName w k → part_by k w (λ o. parts_after o words) ≡ Some ps
    → list_any (bytes_eq name) (names_of (w ∷ words)) ≡ false → Absent name words → list_any (named name) ps ≡ false
absent_by_kind name w words ps plain means h none rest =
    let got = with_part_is (positional w) (parts_after None words) ps h in
    rw got.2 (rest None got.0 got.1 (rw (skip_name w words means) at none) tt)
absent_by_kind name w words ps (opens o) means h none rest =
    let two = neither (bytes_eq name (dashed (option_text o))) (list_any (bytes_eq name) (names_of words)) (rw (take_name w words (dashed (option_text o)) means.0 means.1) at none) in
    rest (Some o) ps h two.1 two.0
absent_by_kind name w words ps (gives o v) means h none rest =
    let two = neither (bytes_eq name (dashed (option_text o))) (list_any (bytes_eq name) (names_of words)) (rw (take_name w words (dashed (option_text o)) means.0 means.1) at none) in
    let got = with_part_is (option o v) (parts_after None words) ps h in
    let here = two.0 in
    rw (got.2, here) (rest None got.0 got.1 two.1 tt)
absent_by_kind name w words ps flag means h none rest =
    let two = neither (bytes_eq name (dashed flag_text)) (list_any (bytes_eq name) (names_of words)) (rw (take_name w words (dashed flag_text) means.0 means.1) at none) in
    let got = with_part_is journal (parts_after None words) ps h in
    let here = two.0 in
    rw (got.2, here) (rest None got.0 got.1 two.1 tt)
absent_by_kind name w words ps refused means h none rest = let no : None ≡ Some ps = h in cc

absent_by_value : (name w : Text) (words : List Text) (o : OptionName) (ps : List Part) (b : Bool) → is_option_word w ≡ b
    → cond b None (with_part (option o w) (parts_after None words)) ≡ Some ps → list_any (bytes_eq name) (names_of (w ∷ words)) ≡ false
    → bytes_eq name (dashed (option_text o)) ≡ false → Absent name words → list_any (named name) ps ≡ false
absent_by_value name w words o ps true means h none apart rest = let no : None ≡ Some ps = h in cc
absent_by_value name w words o ps false means h none apart rest =
    let got = with_part_is (option o w) (parts_after None words) ps h in
    rw (got.2, apart) (rest None got.0 got.1 (rw (skip_name w words means) at none) tt)

absent : (name : Text) (words : List Text) → Absent name words
unfolding parts_after
absent name [] None ps h none apart = let is : ps ≡ [] = let same : Some [] ≡ Some ps = h in cc in rw is refl
absent name [] (Some o) ps h none apart = let no : None ≡ Some ps = h in cc
absent name (w ∷ words) None ps h none apart = absent_by_kind name w words ps (kind_of w) (kind_name w) h none (absent name words)
absent name (w ∷ words) (Some o) ps h none apart = absent_by_value name w words o ps (is_option_word w) refl h none apart (absent name words)

-- ---- no part stands twice

abbrev pub IsNewName : Option OptionName → List Text → Type 0
IsNewName None words = Unit {0}
IsNewName (Some o) words = list_any (bytes_eq (dashed (option_text o))) (names_of words) ≡ false

abbrev pub Once : List Text → Type 0
Once words = (opened : Option OptionName) (ps : List Part) → parts_after opened words ≡ Some ps → is_distinct (names_of words) ≡ true → IsNewName opened words → is_once ps ≡ true

once_and : (a b : Bool) → a ≡ false → b ≡ true → (not a && b) ≡ true
once_and a b e f = rw (e, f) refl

once_by_kind : (w : Text) (words : List Text) (ps : List Part) (k : Kind) → MeansName w k → part_by k w (λ o. parts_after o words) ≡ Some ps
    → is_distinct (names_of (w ∷ words)) ≡ true → Once words → is_once ps ≡ true
once_by_kind w words ps plain means h distinct rest =
    let got = with_part_is (positional w) (parts_after None words) ps h in
    rw got.2 (once_and _ _ (no_positional got.0) (rest None got.0 got.1 (rw (skip_name w words means) at distinct) tt))
  where
    no_positional : (qs : List Part) → list_any (same_name (positional w)) qs ≡ false
    no_positional [] = refl
    no_positional (q ∷ qs) = no_positional qs
once_by_kind w words ps (opens o) means h distinct rest =
    let two = both (not (list_any (bytes_eq (dashed (option_text o))) (names_of words))) _ (rw (take_name w words (dashed (option_text o)) means.0 means.1) at distinct) in
    rest (Some o) ps h two.1 (not_true _ two.0)
once_by_kind w words ps (gives o v) means h distinct rest =
    let two = both (not (list_any (bytes_eq (dashed (option_text o))) (names_of words))) _ (rw (take_name w words (dashed (option_text o)) means.0 means.1) at distinct) in
    let got = with_part_is (option o v) (parts_after None words) ps h in
    rw got.2 (once_and _ _ (absent (dashed (option_text o)) words None got.0 got.1 (not_true _ two.0) tt) (rest None got.0 got.1 two.1 tt))
once_by_kind w words ps flag means h distinct rest =
    let two = both (not (list_any (bytes_eq (dashed flag_text)) (names_of words))) _ (rw (take_name w words (dashed flag_text) means.0 means.1) at distinct) in
    let got = with_part_is journal (parts_after None words) ps h in
    rw got.2 (once_and _ _ (absent (dashed flag_text) words None got.0 got.1 (not_true _ two.0) tt) (rest None got.0 got.1 two.1 tt))
once_by_kind w words ps refused means h distinct rest = let no : None ≡ Some ps = h in cc

once_by_value : (w : Text) (words : List Text) (o : OptionName) (ps : List Part) (b : Bool) → is_option_word w ≡ b
    → cond b None (with_part (option o w) (parts_after None words)) ≡ Some ps → is_distinct (names_of (w ∷ words)) ≡ true
    → list_any (bytes_eq (dashed (option_text o))) (names_of (w ∷ words)) ≡ false → Once words → is_once ps ≡ true
once_by_value w words o ps true means h distinct new rest = let no : None ≡ Some ps = h in cc
once_by_value w words o ps false means h distinct new rest =
    let got = with_part_is (option o w) (parts_after None words) ps h in
    let new2 : list_any (bytes_eq (dashed (option_text o))) (names_of words) ≡ false = rw (skip_name w words means) at new in
    let distinct2 : is_distinct (names_of words) ≡ true = rw (skip_name w words means) at distinct in
    rw got.2 (once_and _ _ (absent (dashed (option_text o)) words None got.0 got.1 new2 tt) (rest None got.0 got.1 distinct2 tt))

pub once_by_names : (words : List Text) → Once words
unfolding parts_after
once_by_names [] None ps h distinct new = let is : ps ≡ [] = let same : Some [] ≡ Some ps = h in cc in rw is refl
once_by_names [] (Some o) ps h distinct new = let no : None ≡ Some ps = h in cc
once_by_names (w ∷ words) None ps h distinct new = once_by_kind w words ps (kind_of w) (kind_name w) h distinct (once_by_names words)
once_by_names (w ∷ words) (Some o) ps h distinct new = once_by_value w words o ps (is_option_word w) refl h distinct new (once_by_names words)
