use Rattle.std.proofs.Common.{rules, ap₂, ◌≡◌, ◌∙◌, true, false}
use Rattle.std.proofs.lemmas.Result.{IfOk-weaker}
use Rattle.clap.specs.Words.{rule_of, with_rule}
use Rattle.command_words.specs.Made.{made_flag, made_place}
use Rattle.command_words.specs.Parsed.{count_id, mode_id, number_id}
use Rattle.command_words.proofs.Making.{bare_from}
use Rattle.command_words.proofs.parse.with_places.Goals as goal

pub returns : goal.returns
returns c =
    let mode_is : rule_of c.action-mode.result ≡ made_place mode_id true = search rules in
    let count_is : rule_of c.action-count.result ≡ made_place count_id false = search rules in
    let number_is : rule_of c.action-number.result ≡ made_place number_id false = search rules in
    let flag_is : rule_of c.action-journal.result ≡ made_flag = search rules in
    let bare_is = bare_from c.new-5.result c.no_binary_name.result c.disable_help_flag.result c.new-5.ensures.app c.no_binary_name.ensures c.disable_help_flag.ensures in
    let one = c.in_ok-arg.ensures.shape (search rules) ∙ ap₂ with_rule bare_is mode_is in
    let two = c.in_ok-arg-2.ensures.shape (search rules) ∙ ap₂ with_rule one count_is in
    let three = c.in_ok-arg-3.ensures.shape (search rules) ∙ ap₂ with_rule two number_is in
    IfOk-weaker c.arg-4.result _ _ (λ r h. h.shape (search rules) ∙ ap₂ with_rule three flag_is) c.arg-4.ensures
