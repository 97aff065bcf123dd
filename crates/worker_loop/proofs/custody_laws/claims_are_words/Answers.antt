use Rattle.worker_loop.proofs.HeldWords.{words_kept, words_fresh}
use Rattle.worker_loop.proofs.custody_laws.claims_are_words.Goals as goal

pub returns-clause-kept : goal.returns-clause-kept
returns-clause-kept g c = λ j s t turn r h. words_kept j s t turn r h

pub returns-clause-fresh : goal.returns-clause-fresh
returns-clause-fresh g c = words_fresh
