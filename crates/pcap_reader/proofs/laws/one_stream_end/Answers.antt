use Rattle.pcap_reader.proofs.StreamEnds.{each_stream_end, one_stream_end}
use Rattle.pcap_reader.proofs.laws.one_stream_end.Goals as goal

pub returns-clause-each : goal.returns-clause-each
returns-clause-each c = each_stream_end

pub returns-clause-one : goal.returns-clause-one
returns-clause-one c = one_stream_end
