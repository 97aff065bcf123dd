use Rattle.worker_loop.proofs.CustodySteps.{turn_stinted}
use Rattle.worker_loop.proofs.CustodyLogs.{log_stinted, seat_stinted, stinted_equal, over_stinted, fresh_stinted, turn_entries, ended_stints}
use Rattle.worker_loop.proofs.custody_laws.custodies_are_stretches.Goals as goal

pub returns-clause-kept : goal.returns-clause-kept
returns-clause-kept g c = λ j s t turn done tied r k. turn_stinted j s t tied done turn r k

pub returns-clause-log : goal.returns-clause-log
returns-clause-log g c = λ j s t turn tied r k. log_stinted j s t turn tied r k

pub returns-clause-seat : goal.returns-clause-seat
returns-clause-seat g c = λ j s t turn tied r k. seat_stinted j s t turn tied r k

pub returns-clause-equal : goal.returns-clause-equal
returns-clause-equal g c = stinted_equal

pub returns-clause-ended : goal.returns-clause-ended
returns-clause-ended g c = λ j s t done b r k near. over_stinted s.worker s.lane.taken done b k r.none_parked r.none_leaves r.none_held near

pub returns-clause-fresh : goal.returns-clause-fresh
returns-clause-fresh g c = fresh_stinted

pub returns-clause-entries : goal.returns-clause-entries
returns-clause-entries g c = λ j s t turn tied r h. turn_entries j s t turn tied r h

pub returns-clause-stints : goal.returns-clause-stints
returns-clause-stints g c = λ j s t rules xs jn cores b core done r k near is lawful. ended_stints j s t rules xs jn cores b core done r k near is lawful
