use Rattle.rsspp_main.proofs.ClassicCaptures.{pcapng_capture, pcapng_accepted, pcapng_unbroken}
use Rattle.rsspp_main.proofs.laws.pcapng_inputs_are_captures.Goals as goal

pub returns-clause-whole : goal.returns-clause-whole
returns-clause-whole c = pcapng_capture

pub returns-clause-accepted : goal.returns-clause-accepted
returns-clause-accepted c = pcapng_accepted

pub returns-clause-unbroken : goal.returns-clause-unbroken
returns-clause-unbroken c = pcapng_unbroken
