use Rattle.std.proofs.Common.{rules, ap, ap₂, sym, ◌≡◌, ◌∙◌, ◌<◌, arith, length, get_or, take}
use Rattle.std.specs.Prelude.{fold}
use Rattle.std.proofs.lemmas.List.Sums.{fold_more}
use Rattle.clap.specs.Words.{rule_of, with_rule}
use Rattle.command_words.specs.declared.option_name.OptionName.TheVariants.{Cores}
use Rattle.command_words.specs.Made.{made_option, places_app, with_option}
use Rattle.command_words.specs.Words.{option_text, options}
use Rattle.command_words.proofs.parse.command.Goals as goal

pub loop-option-preserved : goal.loop-option-preserved
loop-option-preserved c =
    let i = c.loop-option.option-index in
    let rule_is : rule_of c.action-arg.result ≡ made_option (option_text (get_or options i Cores)) = search rules in
    let lt : i < length options = omega (arith, c.loop-option-test.true) in
    c.in_ok-command-2.ensures.shape (search rules) ∙ ap₂ with_rule c.loop-option.invariant rule_is ∙ sym (fold_more with_option places_app options i Cores lt)

pub returns : goal.returns
returns c =
    let all : c.loop-option.option-index ≡ 11 = omega (arith, c.loop-option-test.false, c.loop-option.auto.option-index-end) in
    c.loop-option.invariant ∙ ap (λ n. fold with_option places_app (take n options)) all
