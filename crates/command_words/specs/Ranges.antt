-- Every field of a command that the words ask for is in its range.
use Rattle.std.specs.Prelude.{◌≡◌, ◌≤◌, Bool, true, false, IfSome}
use Rattle.dispatch_loop.specs.Accepted.{IsAccepted}
use Rattle.command_words.specs.declared.command.Command.{Command}
use Rattle.command_words.specs.declared.limits.TheConstants.{MOST_COUNT, MOST_NUMBER}
use Rattle.command_words.specs.declared.mode.Mode.{Mode}
use Rattle.command_words.specs.declared.mode.Mode.TheVariants.{Demo, Make}

-- the mode has the values COUNT and NUMBER
abbrev pub takes_values : Mode → Bool
takes_values Make = true
takes_values Demo = true
takes_values _ = false

-- the words can ask for this command
pub record IsAcceptedCommand (c : Command) : Type 0 where
  pub options : IsAccepted c.options
  pub count : c.count ≤ MOST_COUNT
  pub number : c.number ≤ MOST_NUMBER
  pub no_values : takes_values c.mode ≡ false → (c.count ≡ 0) × (c.number ≡ 0)
  pub serial : IfSome c.serial (λ n. n ≤ MOST_NUMBER)
