-- What a parse by clap gives of the parts of the words.
use Rattle.std.specs.Prelude.{◌≡◌, Bool, List, Some, codes, slice_get, if◌then◌else◌}
use Rattle.clap.specs.Words.{first_value, found_of}
use Rattle.clap.specs.declared.parser.matches.ArgMatches.{ArgMatches}
use Rattle.command_words.specs.declared.option_name.OptionName.{OptionName}
use Rattle.command_words.specs.Words.{Part, Text, flag_text, has_flag, option_text, positionals, value_in}

-- the id of the first positional word
abbrev pub mode_id : Text
mode_id = codes "MODE"

-- the id of the second
abbrev pub count_id : Text
count_id = codes "COUNT"

-- the id of the third
abbrev pub number_id : Text
number_id = codes "NUMBER"

-- what the value of the flag reads as
abbrev pub flag_word : Bool → Text
flag_word given = if given then codes "true" else codes "false"

-- the matches are the positional words in their order, the value of each option, and the flag
pub record GivesParts (ps : List Part) (m : ArgMatches) : Type 0 where
  pub options : (o : OptionName) → first_value (found_of m) (option_text o) ≡ value_in o ps
  pub mode : first_value (found_of m) mode_id ≡ slice_get (positionals ps) 0
  pub count : first_value (found_of m) count_id ≡ slice_get (positionals ps) 1
  pub number : first_value (found_of m) number_id ≡ slice_get (positionals ps) 2
  pub flag : first_value (found_of m) flag_text ≡ Some (flag_word (has_flag ps))
