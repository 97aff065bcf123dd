use Rattle.rsspp_main.proofs.Complete.{none_named}
use Rattle.rsspp_main.proofs.status.Goals as goal

pub rsspp-answer-requires-clause-named : goal.rsspp-answer-requires-clause-named
rsspp-answer-requires-clause-named g c = λ κs within. none_named _ _
