use Rattle.indirection.proofs.Answered.{lawful_answers}
use Rattle.indirection.proofs.journal_laws.lawful_answers.Goals as goal

pub returns : goal.returns
returns c = lawful_answers
