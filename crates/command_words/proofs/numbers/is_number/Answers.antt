use Rattle.std.proofs.Common.{◌≤◌, length, arith}
use Rattle.command_words.proofs.ValueLemmas.{short_number}
use Rattle.command_words.proofs.numbers.is_number.Goals as goal

pub returns : goal.returns
returns c =
    let some : 1 ≤ length c.args.text.now = grind arith in
    let short : length c.args.text.now ≤ 10 = grind arith in
    short_number c.args.text.now some short c.are_digits.result c.are_digits.ensures
