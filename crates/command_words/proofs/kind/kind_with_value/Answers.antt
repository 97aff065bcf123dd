use Rattle.std.proofs.Common.{rules, sym, ◌≡◌, true, false, length, is_some}
use Rattle.std.specs.Str.{bytes_eq}
use Rattle.command_words.specs.Words.{dashed, flag_text, option_named}
use Rattle.command_words.proofs.LookLemmas.{empty_with, is_option_by, option_with}
use Rattle.command_words.proofs.kind.kind_with_value.Goals as goal

pub returns-then-is_empty : goal.returns-then-is_empty
returns-then-is_empty c =
    let none : length c.args.value.now ≡ 0 = search rules in
    let other : bytes_eq c.args.name.now (dashed flag_text) ≡ false = search rules in
    sym (empty_with c.args.name.now c.args.value.now none other)

pub returns-then-is_option : goal.returns-then-is_option
returns-then-is_option c =
    let some : length c.args.value.now ≡ 0 → ⊥ = search rules in
    let other : bytes_eq c.args.name.now (dashed flag_text) ≡ false = search rules in
    let is : is_some (option_named c.args.name.now) ≡ true = is_option_by c.args.name.now true (search rules) in
    sym (option_with c.args.name.now c.args.value.now some other true is)
