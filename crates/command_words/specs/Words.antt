-- What the command words are, one after the other, by the words alone.
use Rattle.std.specs.Prelude.{◌==◌, ◌&&◌, ℕ, Bool, true, false, not, List, [], ◌∷◌, map, length, filter}
use Rattle.std.specs.Prelude.{Option, Some, None, option_map, find, codes, if◌then◌else◌, nat_le}
use Rattle.std.specs.List.{list_any, before_first, after_first}
use Rattle.std.specs.Option.{option_map_or}
use Rattle.std.specs.Str.{bytes_eq}
use Rattle.command_words.specs.declared.limits.TheConstants.{MOST_PLACES}
use Rattle.command_words.specs.declared.option_name.OptionName.{OptionName}
use Rattle.command_words.specs.declared.option_name.OptionName.TheVariants.{Cores, Buckets, Key, Table, Work, Moves}
use Rattle.command_words.specs.declared.option_name.OptionName.TheVariants.{Round, Limit, Pool, Packets, Serial}

-- the bytes of a word or of a part of it
abbrev pub Text : Type 0
Text = List ℕ

-- the ASCII code of `-`
abbrev pub dash : ℕ
dash = 45

-- the code of `=`
abbrev pub equals_sign : ℕ
equals_sign = 61

-- the options that take a value, in the order in which they are checked
abbrev pub options : List OptionName
options = Cores ∷ Buckets ∷ Key ∷ Table ∷ Work ∷ Moves ∷ Round ∷ Limit ∷ Pool ∷ Packets ∷ Serial ∷ []

-- the name of each
abbrev pub option_text : OptionName → Text
option_text Cores = codes "cores"
option_text Buckets = codes "buckets"
option_text Key = codes "key"
option_text Table = codes "table"
option_text Work = codes "work"
option_text Moves = codes "moves"
option_text Round = codes "round"
option_text Limit = codes "limit"
option_text Pool = codes "pool"
option_text Packets = codes "packets"
option_text Serial = codes "serial"

-- the name of the flag
abbrev pub flag_text : Text
flag_text = codes "journal"

-- a name as it stands in a word, behind two dashes
abbrev pub dashed : Text → Text
dashed name = dash ∷ dash ∷ name

-- the option that takes a value and has this name, dashes and all
abbrev pub option_named : Text → Option OptionName
option_named name = find (λ o. bytes_eq (dashed (option_text o)) name) options

-- ---- one word

-- a word that begins with `-`
abbrev pub is_option_word : Text → Bool
is_option_word [] = false
is_option_word (x ∷ xs) = x == dash

-- what stands before the first `=`, or the whole word
abbrev pub name_of : Text → Text
name_of word = before_first (λ x. x == equals_sign) word

-- what stands after the first `=`, where there is one
abbrev pub value_of : Text → Option Text
value_of word = if list_any (λ x. x == equals_sign) word then Some (after_first (λ x. x == equals_sign) word) else None

-- what a word is by itself: no option word, an option whose value follows, an option with its value,
-- the flag, or a word that is refused
pub data Kind : Type 0 where
  plain : Kind
  opens : OptionName → Kind
  gives : OptionName → Text → Kind
  flag : Kind
  refused : Kind

-- the kind of an option that takes a value, by what follows its `=`
abbrev pub option_kind : OptionName → Option Text → Kind
option_kind o None = opens o
option_kind o (Some []) = refused
option_kind o (Some (x ∷ xs)) = gives o (x ∷ xs)

-- the kind of the flag, by what follows its `=`
abbrev pub flag_kind : Option Text → Kind
flag_kind None = flag
flag_kind (Some value) = refused

-- the kind of an option word, by its name and by what follows its `=`
abbrev pub named_kind : Text → Option Text → Kind
named_kind name value = if bytes_eq name (dashed flag_text) then flag_kind value
    else option_map_or (λ o. option_kind o value) (option_named name) refused

-- the kind of a word
abbrev pub kind_of : Text → Kind
kind_of word = if is_option_word word then named_kind (name_of word) (value_of word) else plain

-- ---- all words

-- a positional word, an option with its value, or the flag
pub data Part : Type 0 where
  positional : Text → Part
  option : OptionName → Text → Part
  journal : Part

-- one part more in front
abbrev pub with_part : Part → Option (List Part) → Option (List Part)
with_part p rest = option_map (λ ps. p ∷ ps) rest

-- the parts from a word on, by what it is and by what follows it, where an option may open
abbrev pub part_by : Kind → Text → (Option OptionName → Option (List Part)) → Option (List Part)
part_by plain word after = with_part (positional word) (after None)
part_by (opens o) word after = after (Some o)
part_by (gives o value) word after = with_part (option o value) (after None)
part_by flag word after = with_part journal (after None)
part_by refused word after = None

-- the word behind an option is its value, unless it is an option word
abbrev pub part_at : Option OptionName → Text → (Option OptionName → Option (List Part))
    → Option (List Part)
part_at None word after = part_by (kind_of word) word after
part_at (Some o) word after =
    if is_option_word word then None else with_part (option o word) (after None)

-- behind the last word no option may be open
abbrev pub no_parts : Option OptionName → Option (List Part)
no_parts None = Some []
no_parts (Some o) = None

-- the parts of the words, where they stand behind this open option
unfoldable pub parts_after : Option OptionName → List Text → Option (List Part)
parts_after opened [] = no_parts opened
parts_after opened (word ∷ words) = part_at opened word (λ o. parts_after o words)

-- ---- the look

-- the names of the option words
abbrev pub names_of : List Text → List Text
names_of words = map name_of (filter is_option_word words)

-- no text stands twice
abbrev pub is_distinct : List Text → Bool
is_distinct [] = true
is_distinct (t ∷ ts) = not (list_any (bytes_eq t) ts) && is_distinct ts

-- the positional words among the parts
abbrev pub positionals : List Part → List Text
positionals [] = []
positionals (positional w ∷ ps) = w ∷ positionals ps
positionals (_ ∷ ps) = positionals ps

-- one positional word at least, and three at most
abbrev pub fits_count : List Part → Bool
fits_count ps = nat_le 1 (length (positionals ps)) && nat_le (length (positionals ps)) MOST_PLACES

-- the parts, where the positional words are one to three
abbrev pub counted : Option (List Part) → Option (List Part)
counted None = None
counted (Some ps) = if fits_count ps then Some ps else None

-- the parts of words that pass the look
abbrev pub parts_of : List Text → Option (List Part)
parts_of words = if is_distinct (names_of words) then counted (parts_after None words) else None

-- ---- what the parts give

-- the value of an option
abbrev pub value_in : OptionName → List Part → Option Text
value_in o [] = None
value_in o (option a v ∷ ps) = if bytes_eq (option_text a) (option_text o) then Some v else value_in o ps
value_in o (_ ∷ ps) = value_in o ps

-- whether the flag stands
abbrev pub has_flag : List Part → Bool
has_flag [] = false
has_flag (journal ∷ ps) = true
has_flag (_ ∷ ps) = has_flag ps
