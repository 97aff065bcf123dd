use Rattle.pcapng_reader.proofs.Stories.{each_reading, one_reading}
use Rattle.pcapng_reader.proofs.laws.one_story.Goals as goal

pub returns-clause-each : goal.returns-clause-each
returns-clause-each c = each_reading

pub returns-clause-one : goal.returns-clause-one
returns-clause-one c = one_reading
