use Rattle.std.proofs.Common.{◌≡◌, take}
use Rattle.std.specs.Prelude.{fold}
use Rattle.clap.specs.Words.{app_of}
use Rattle.command_words.specs.Made.{places_app, with_option}
use Rattle.command_words.proofs.parse.command.Given as goal

-- the options so far are the command's
abbrev pub invariant-loop-option : goal.invariant-loop-option
invariant-loop-option l = app_of l.command ≡ fold with_option places_app (take l.option-index l.option-items)
