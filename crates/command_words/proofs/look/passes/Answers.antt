use Rattle.std.proofs.Common.{◌∙◌, map}
use Rattle.std.specs.String.{string_bytes}
use Rattle.command_words.proofs.RefusalLemmas.{look_refuses}
use Rattle.command_words.proofs.look.passes.Goals as goal

pub returns : goal.returns
returns c = record {
  parts = c.has_fitting_parts.ensures;
  refusals = c.has_fitting_parts.ensures ∙ look_refuses (map string_bytes c.args.words.now);
}
