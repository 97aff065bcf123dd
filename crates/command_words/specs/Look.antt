-- The look, word by word, as the code takes it.
use Rattle.std.specs.Prelude.{◌+◌, ◌&&◌, Bool, true, false, not, List, [], ◌∷◌, Option, Some, None, option_and_then, if◌then◌else◌, nat_le, nat_lt}
use Rattle.std.specs.Str.{bytes_eq}
use Rattle.command_words.specs.declared.limits.TheConstants.{MOST_PLACES}
use Rattle.command_words.specs.declared.kind.Kind.{Kind as Seen}
use Rattle.command_words.specs.declared.kind.Kind.TheVariants as seen
use Rattle.command_words.specs.declared.look.Look.{Look}
use Rattle.command_words.specs.Words.{Kind, Text, flag, gives, is_option_word, kind_of, name_of, opens, plain, refused}

-- the kind without the texts in it
abbrev pub shown : Kind → Seen
shown plain = seen.Plain
shown (opens o) = seen.Opens
shown (gives o v) = seen.Complete
shown flag = seen.Complete
shown refused = seen.Refused

-- the look after a word of this kind, behind no open option
abbrev pub step_by : Seen → Look → Option Look
step_by seen.Plain l = if nat_le MOST_PLACES l.places then None else Some (record l { places = l.places + 1 })
step_by seen.Opens l = Some (record l { opened = true })
step_by seen.Complete l = Some l
step_by seen.Refused l = None

-- the look after one more word
abbrev pub step : Look → Text → Option Look
step l word = if l.opened
    then (if is_option_word word then None else Some (record l { opened = false }))
    else step_by (shown (kind_of word)) l

-- the look after more words
abbrev pub look_after : Look → List Text → Option Look
look_after l [] = Some l
look_after l (word ∷ words) = option_and_then (λ m. look_after m words) (step l word)

-- the look before the first word
abbrev pub start : Look
start = record { opened = false; places = 0 }

-- the words may end here
abbrev pub is_closed : Look → Bool
is_closed l = not l.opened && nat_lt 0 l.places

-- the word is an option word of this name
abbrev pub has_name : Text → Text → Bool
has_name name word = is_option_word word && bytes_eq name (name_of word)
