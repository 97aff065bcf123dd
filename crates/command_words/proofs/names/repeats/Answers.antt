use Rattle.std.proofs.Common.{rules, sym, ap, ◌≡◌, ◌∙◌, ◌&&◌, true, map}
use Rattle.std.specs.List.{list_any}
use Rattle.std.specs.String.{string_bytes}
use Rattle.command_words.specs.Look.{has_name}
use Rattle.command_words.specs.Words.{is_option_word, name_of}
use Rattle.command_words.proofs.LookLemmas.{any_name_of}
use Rattle.command_words.proofs.names.repeats.Goals as goal

pub returns-then-is_option_word : goal.returns-then-is_option_word
returns-then-is_option_word c =
    let dash : is_option_word c.args.word.now ≡ true = search rules in
    let name : c.name_of.result.now ≡ name_of c.args.word.now = search rules in
    c.any_has_name.ensures ∙ any_name_of c.args.later.now c.name_of.result.now
    ∙ ap (λ n. list_any (has_name n) (map string_bytes c.args.later.now)) name
    ∙ ap (λ b. b && list_any (has_name (name_of c.args.word.now)) (map string_bytes c.args.later.now)) (sym dash)
