use Rattle.std.proofs.Common.{rules, sym, ◌≡◌, ◌∙◌, ◌==◌, true, length, lit<}
use Rattle.std.specs.List.{position_or_len}
use Rattle.std.proofs.lemmas.Str.Pattern.{split_once_first}
use Rattle.command_words.specs.Words.{is_option_word}
use Rattle.command_words.proofs.LookLemmas.{kind_alone}
use Rattle.command_words.proofs.kind.Kind.of.Goals as goal

pub returns-in-None : goal.returns-in-None
returns-in-None c =
    let cut = split_once_first 61 c.args.word.now c.split_once.result c.split_once.ensures.cases (lit< tt) in
    let none : position_or_len (λ x. x == 61) c.args.word.now ≡ length c.args.word.now = rw c.in-None.is at cut in
    let dash : is_option_word c.args.word.now ≡ true = search rules in
    c.kind_without_value.ensures ∙ sym (kind_alone c.args.word.now dash none)
