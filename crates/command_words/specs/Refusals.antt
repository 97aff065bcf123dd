-- The refusals of the look, one by one: each is a test of the words and knows nothing of their parts.
use Rattle.std.specs.Prelude.{◌==◌, ◌&&◌, ◌||◌, Bool, true, false, not, List, [], ◌∷◌, length, Option, Some, is_some, if◌then◌else◌, nat_lt}
use Rattle.std.specs.List.{list_any}
use Rattle.std.specs.Str.{bytes_eq}
use Rattle.command_words.specs.declared.limits.TheConstants.{MOST_PLACES}
use Rattle.command_words.specs.Words.{Text, dashed, equals_sign, flag_text, is_distinct, is_option_word, name_of, names_of, option_named, value_of}

-- the word has an `=`
abbrev pub has_equals : Text → Bool
has_equals word = list_any (λ x. x == equals_sign) word

-- the word is an option of the table that takes a value, and has no `=`
abbrev pub is_open : Text → Bool
is_open word = is_option_word word && (is_some (option_named (name_of word)) && not (has_equals word))

-- the word is an option word whose name isn't in the table
abbrev pub is_unknown : Text → Bool
is_unknown word = is_option_word word
    && not (bytes_eq (name_of word) (dashed flag_text) || is_some (option_named (name_of word)))

-- the value is there and empty
abbrev pub is_nothing : Option Text → Bool
is_nothing (Some []) = true
is_nothing _ = false

-- the word is an option word and nothing follows its `=`
abbrev pub is_cut_off : Text → Bool
is_cut_off word = is_option_word word && is_nothing (value_of word)

-- the word is the flag with `=`
abbrev pub is_flag_with : Text → Bool
is_flag_with word =
    is_option_word word && (bytes_eq (name_of word) (dashed flag_text) && has_equals word)

-- there is no word, or the first is an option word: so no value stands here
abbrev pub has_none_first : List Text → Bool
has_none_first [] = true
has_none_first (word ∷ words) = is_option_word word

-- an option that takes a value has neither `=` nor a value behind it
abbrev pub lacks_value : List Text → Bool
lacks_value [] = false
lacks_value (word ∷ words) = (is_open word && has_none_first words) || lacks_value words

-- the positional words from here on, behind an open option or not
abbrev pub places_behind : Bool → List Text → List Text
places_behind behind [] = []
places_behind behind (word ∷ words) = if is_option_word word || behind
    then places_behind (is_open word) words else word ∷ places_behind (is_open word) words

-- the positional words: those that are no option word and stand behind no open option
abbrev pub places : List Text → List Text
places words = places_behind false words

-- one of the seven refusals holds
abbrev pub is_refused : List Text → Bool
is_refused words = list_any is_unknown words
    || (not (is_distinct (names_of words))
    || (lacks_value words
    || (list_any is_cut_off words
    || (list_any is_flag_with words
    || (length (places words) == 0
    || nat_lt MOST_PLACES (length (places words)))))))
