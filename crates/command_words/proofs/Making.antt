-- How the command is made, setting by setting and argument by argument.
use Rattle.std.proofs.Common.{◌≡◌, ◌∙◌, true, ap, codes}
use Rattle.clap.specs.Words.{app_of, new_app}
use Rattle.clap.specs.declared.builder.command.Command.TheViews.{out-Command}
use Rattle.clap.specs.Simple.{app_of_fields, on_top}
use Rattle.clap.specs.declared.builder.command.Command.{Command}
use Rattle.command_words.specs.Made.{bare_app}

pub bare_from : (a b d : Command) → app_of a ≡ new_app (codes "rsspp") → out-Command b ≡ record (out-Command a) { no_binary_name = true }
    → out-Command d ≡ record (out-Command b) { disable_help_flag = true } → app_of d ≡ bare_app
bare_from a b d new first second =
    let one : app_of b ≡ on_top (λ s. record s { no_binary_name = true }) (app_of a) = ap app_of_fields first in
    let two : app_of d ≡ on_top (λ s. record s { disable_help_flag = true }) (app_of b) = ap app_of_fields second in
    two ∙ ap (on_top (λ s. record s { disable_help_flag = true })) (one ∙ ap (on_top (λ s. record s { no_binary_name = true })) new)
