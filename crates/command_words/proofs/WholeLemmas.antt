-- From the words to the command.
use Rattle.std.proofs.Common.{◌≡◌, ◌∙◌, Bool, List, Option, Some, None, Result, Ok, Err, true, false, refl, sym, ap, subst, ◌⊎◌, is_some}
use Rattle.std.specs.Prelude.{IfOk, MatchResult, codes}
use Rattle.std.specs.Option.{option_map_or}
use Rattle.std.specs.Str.{bytes_eq}
use Rattle.clap.specs.declared.parser.matches.ArgMatches.{ArgMatches}
use Rattle.command_words.specs.declared.command.Command.{Command}
use Rattle.command_words.specs.declared.word_fault.WordFault.{WordFault}
use Rattle.command_words.specs.declared.word_fault.WordFault.TheVariants as fault
use Rattle.command_words.specs.Parsed.{GivesParts, flag_word}
use Rattle.command_words.specs.Ranges.{IsAcceptedCommand}
use Rattle.command_words.specs.Reading.{Answers, command_of, given_by, read_command, read_parts}
use Rattle.command_words.specs.Taken.{given_in}
use Rattle.command_words.specs.Words.{Part, Text, has_flag, parts_of}
use Rattle.command_words.proofs.CommandRanges.{command_fits}

flag_read : (b : Bool) → option_map_or (λ t. bytes_eq t (codes "true")) (Some (flag_word b)) false ≡ b
flag_read true = refl
flag_read false = refl

-- what the matches give is what the parts give
pub given_same : (ps : List Part) (m : ArgMatches) → GivesParts ps m → given_in m ≡ given_by ps
given_same ps m g =
    let flag : (given_in m).journal ≡ has_flag ps = ap (λ o. option_map_or (λ t. bytes_eq t (codes "true")) o false) g.flag ∙ flag_read (has_flag ps) in
    λ i. record {
      mode = g.mode i;
      count = g.count i;
      number = g.number i;
      options = λ o. g.options o i;
      journal = flag i;
    }

pub refused_words : (words : List Text) → is_some (parts_of words) ≡ false → command_of words ≡ Err fault.Words
refused_words words h = go (parts_of words) h
  where
    go : (o : Option (List Part)) → is_some o ≡ false → read_parts o ≡ Err fault.Words
    go None e = refl
    go (Some ps) e = let no : true ≡ false = e in cc

-- what answers for matches of the words answers for the words
pub read_by_matches : (words : List Text) (m : ArgMatches) (result : Result Command WordFault) → is_some (parts_of words) ≡ true
    → ((ps : List Part) → parts_of words ≡ Some ps → GivesParts ps m) → Answers (read_command (given_in m)) result → Answers (command_of words) result
read_by_matches words m result h gives answers = go (parts_of words) refl
  where
    go : (o : Option (List Part)) → parts_of words ≡ o → Answers (command_of words) result
    go None e = let no : false ≡ true = ap is_some (sym e) ∙ h in cc
    go (Some ps) e =
        let same : read_command (given_in m) ≡ command_of words = ap read_command (given_same ps m (gives ps e)) ∙ sym (ap read_parts e) in
        subst (λ r. Answers r result) same answers

pub accepted_by : (words : List Text) (result : Result Command WordFault) → Answers (command_of words) result → IfOk result IsAcceptedCommand
accepted_by words (Ok c) h = command_fits words c h
accepted_by words (Err e) h = tt
