use Rattle.pcap_reader.proofs.Taken as taken
use Rattle.pcap_reader.proofs.reading_laws.records_in_order.Goals as goal

pub returns-clause-given : goal.returns-clause-given
returns-clause-given c = taken.given

pub returns-clause-failed : goal.returns-clause-failed
returns-clause-failed c = taken.failed

pub returns-clause-broken : goal.returns-clause-broken
returns-clause-broken c = taken.broken

pub returns-clause-ended : goal.returns-clause-ended
returns-clause-ended c = taken.ended
