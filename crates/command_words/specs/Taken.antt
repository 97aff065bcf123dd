-- What clap's matches give, by the ids of the arguments.
use Rattle.std.specs.Prelude.{codes, false}
use Rattle.std.specs.Option.{option_map_or}
use Rattle.std.specs.Str.{bytes_eq}
use Rattle.clap.specs.Words.{first_value, found_of}
use Rattle.clap.specs.declared.parser.matches.ArgMatches.{ArgMatches}
use Rattle.command_words.specs.Words.{flag_text, option_text}
use Rattle.command_words.specs.Parsed.{count_id, mode_id, number_id}
use Rattle.command_words.specs.Reading.{Given}

-- the first value of each argument
abbrev pub given_in : ArgMatches → Given
given_in m = record {
  mode = first_value (found_of m) mode_id;
  count = first_value (found_of m) count_id;
  number = first_value (found_of m) number_id;
  options = λ o. first_value (found_of m) (option_text o);
  journal = option_map_or (λ t. bytes_eq t (codes "true")) (first_value (found_of m) flag_text) false;
}
