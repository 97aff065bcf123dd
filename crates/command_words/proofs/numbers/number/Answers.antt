use Rattle.std.proofs.Common.{rules, ◌≡◌, ◌∙◌, true}
use Rattle.command_words.specs.Values.{is_number}
use Rattle.command_words.proofs.ValueLemmas.{number_parsed}
use Rattle.command_words.proofs.numbers.number.Goals as goal

pub returns : goal.returns
returns c =
    let short : is_number c.args.text.now ≡ true = search rules in
    c.ok.ensures.value ∙ number_parsed c.args.text.now c.parse.result short c.parse.ensures.value.0
