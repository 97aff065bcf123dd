use Rattle.std.proofs.Common.{ℕ, ◌==◌, length, ap, ◌∙◌, Option}
use Rattle.std.specs.Prelude.{unwrap_or}
use Rattle.balancer.proofs.Pieces.{place_is}
use Rattle.balancer.proofs.place.place_of.Goals as goal

pub returns : goal.returns
returns c = c.unwrap_or.ensures ∙ (ap (λ (o : Option ℕ). unwrap_or o (length c.args.text.now)) c.first_place.ensures ∙ place_is (λ x. x == c.args.byte) c.args.text.now)
