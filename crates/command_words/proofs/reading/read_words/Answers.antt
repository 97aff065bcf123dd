use Rattle.std.proofs.Common.{rules, sym, ◌≡◌, ◌∙◌, true, false, map, is_some}
use Rattle.std.specs.String.{string_bytes}
use Rattle.command_words.specs.Refusals.{is_refused}
use Rattle.command_words.specs.Taken.{given_in}
use Rattle.command_words.specs.Words.{parts_of}
use Rattle.command_words.proofs.Apart.{not_true}
use Rattle.command_words.proofs.FaultLemmas.{not_words}
use Rattle.command_words.proofs.WholeLemmas.{accepted_by, read_by_matches}
use Rattle.command_words.proofs.reading.read_words.Goals as goal

pub returns-in-Ok : goal.returns-in-Ok
returns-in-Ok c =
    let words = map string_bytes c.args.words.now in
    let passed : is_some (parts_of words) ≡ true = search rules in
    let answers = read_by_matches words c.in-Ok.matches c.command.result passed (λ ps h. c.in-Ok.ensures ps h) c.command.ensures in
    let free : is_refused words ≡ false = not_true (is_refused words) (sym c.passes.ensures.refusals ∙ search rules) in
    record { answers = answers; words = not_words (given_in c.in-Ok.matches) (is_refused words) c.command.result free c.command.ensures; accepted = accepted_by words c.command.result answers }
