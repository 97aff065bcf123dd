use Rattle.std.proofs.Common.{◌≡◌, rules}
use Rattle.std.proofs.lemmas.Fn.{always_returns_same}
use Rattle.rsspp_run.proofs.CustodySorts.{key_of, sorted_ordered}
use Rattle.rsspp_run.proofs.closing.custody_of.Goals as goal

pub returns-in-Ok-clause-ordered : goal.returns-in-Ok-clause-ordered
returns-in-Ok-clause-ordered g c = sorted_ordered _ (c.in-Ok.ensures.sorted key_of (always_returns_same _ (λ a r. r ≡ key_of a.0.now) _ (λ a r f' k. search rules)))
