use Rattle.rsspp_run.proofs.CustodySorts.{note_is}
use Rattle.rsspp_run.proofs.custody_laws.notes_have_the_stints.Goals as goal

pub returns : goal.returns
returns c = note_is
