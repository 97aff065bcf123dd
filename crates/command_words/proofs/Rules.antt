-- The command as clap sees it, and what clap finds in it.
use Rattle.std.proofs.Common.{◌≡◌, ℕ, Bool, true, false, List, [], ◌∷◌, map, Option, Some, None, refl, codes}
use Rattle.clap.specs.Walk.{Rule, arg_by_id, arg_by_long}
use Rattle.clap.specs.Simple.{Shape, built, is_simple}
use Rattle.clap.specs.declared.builder.value_parser.ValueParser.TheVariants as vp
use Rattle.clap.specs.declared.builder.ArgAction.TheVariants.{Set, SetTrue}
use Rattle.command_words.specs.declared.option_name.OptionName.{OptionName}
use Rattle.command_words.specs.declared.option_name.OptionName.TheVariants.{Cores, Buckets, Key, Table, Work, Moves, Round, Limit, Pool, Packets, Serial}
use Rattle.command_words.specs.Parsed.{count_id, mode_id, number_id}
use Rattle.command_words.specs.Made.{made_app}
use Rattle.command_words.specs.Words.{Text, options, option_text, flag_text}

-- ---- the command as it is built

-- an argument that takes one value, of any text
abbrev pub value_rule : Text → Option Text → Option ℕ → Bool → Rule
value_rule id long index wanted = record {
  id = id;
  long = long;
  aliases = [];
  short = None;
  short_aliases = [];
  index = index;
  action = Some Set;
  range = Some (record { start_inclusive = 1; end_inclusive = 1 });
  value_names = 0;
  defaults = [];
  missing = [];
  trailing_var_arg = false;
  parser = Some vp.String;
  ignore_case = false;
  required = wanted;
  is_simple = true;
  is_free = true;
}

abbrev pub option_rule : Text → Rule
option_rule id = value_rule id (Some id) None false

abbrev pub place_rule : Text → ℕ → Bool → Rule
place_rule id index wanted = value_rule id None (Some index) wanted

abbrev pub flag_rule : Text → Rule
flag_rule id = record {
  id = id;
  long = Some id;
  aliases = [];
  short = None;
  short_aliases = [];
  index = None;
  action = Some SetTrue;
  range = Some (record { start_inclusive = 0; end_inclusive = 0 });
  value_names = 0;
  defaults = codes "false" ∷ [];
  missing = codes "true" ∷ [];
  trailing_var_arg = false;
  parser = Some vp.Bool;
  ignore_case = false;
  required = false;
  is_simple = true;
  is_free = true;
}

abbrev pub built_rules : List Rule
built_rules = place_rule mode_id 1 true ∷ place_rule count_id 2 false ∷ place_rule number_id 3 false
    ∷ flag_rule flag_text ∷ map (λ o. option_rule (option_text o)) options

abbrev pub built_top : Shape
built_top = record made_app.top { rules = built_rules; is_built = true; disable_help_subcommand = true }

pub built_is : built made_app ≡ record { top = built_top; subs = [] }
built_is = refl

pub simple_is : is_simple made_app ≡ true
simple_is = refl

-- ---- what clap finds

pub option_by_long : (o : OptionName) → arg_by_long built_rules (option_text o) ≡ Some (option_rule (option_text o))
option_by_long Cores = refl
option_by_long Buckets = refl
option_by_long Key = refl
option_by_long Table = refl
option_by_long Work = refl
option_by_long Moves = refl
option_by_long Round = refl
option_by_long Limit = refl
option_by_long Pool = refl
option_by_long Packets = refl
option_by_long Serial = refl

pub option_by_id : (o : OptionName) → arg_by_id built_rules (option_text o) ≡ Some (option_rule (option_text o))
option_by_id Cores = refl
option_by_id Buckets = refl
option_by_id Key = refl
option_by_id Table = refl
option_by_id Work = refl
option_by_id Moves = refl
option_by_id Round = refl
option_by_id Limit = refl
option_by_id Pool = refl
option_by_id Packets = refl
option_by_id Serial = refl

pub flag_by_long : arg_by_long built_rules flag_text ≡ Some (flag_rule flag_text)
flag_by_long = refl
