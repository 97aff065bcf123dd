-- The one simple command that clap is given.
use Rattle.std.specs.Prelude.{Bool, true, false, Some, codes, fold}
use Rattle.clap.specs.Words.{App, Rule, new_app, new_rule, with_rule}
use Rattle.clap.specs.Simple.{on_top}
use Rattle.clap.specs.declared.builder.ArgAction.TheVariants.{Set, SetTrue}
use Rattle.command_words.specs.declared.option_name.OptionName.{OptionName}
use Rattle.command_words.specs.Parsed.{count_id, mode_id, number_id}
use Rattle.command_words.specs.Words.{Text, flag_text, option_text, options}

-- a positional word
abbrev pub made_place : Text → Bool → Rule
made_place id wanted = record (new_rule id) { required = wanted; action = Some Set }

-- an option with one value
abbrev pub made_option : Text → Rule
made_option id = record (new_rule id) { long = Some id; action = Some Set }

-- the flag
abbrev pub made_flag : Rule
made_flag = record (new_rule flag_text) { long = Some flag_text; action = Some SetTrue }

-- no first word is the program's, and no flag asks for help
abbrev pub bare_app : App
bare_app = on_top (λ s. record s { no_binary_name = true; disable_help_flag = true }) (new_app (codes "rsspp"))

-- the positional words and the flag
abbrev pub places_app : App
places_app = with_rule (with_rule (with_rule (with_rule bare_app (made_place mode_id true)) (made_place count_id false)) (made_place number_id false)) made_flag

-- one more option
abbrev pub with_option : App → OptionName → App
with_option app o = with_rule app (made_option (option_text o))

-- all that may stand
abbrev pub made_app : App
made_app = fold with_option places_app options
