use Rattle.std.proofs.Common.{rules, arith, ap, ◌∙◌, ◌≡◌, ◌++◌, ◌∷◌, [], List, length, length-append, refl}
use Rattle.core_queue.specs.RuledLane.{AtLane, Noted}
use Rattle.handover_words.specs.declared.history.Claim.{Claim}
use Rattle.handover_words.specs.WordShelf.{AtShelf}
use Rattle.threaded_run.specs.PartyLists.{worker_in, taken_at}
use Rattle.threaded_run.proofs.Closings.{left_front, left_last, ended_all}
use Rattle.threaded_run.proofs.Lists.{snoc_same, snoc_map}
use Rattle.threaded_run.proofs.closing.+close_all.Goals as goal

pub close_all-requires-clause-left : goal.close_all-requires-clause-left
close_all-requires-clause-left g t c κs within =
    let m = c.in-Some in
    let la : c.args.lanes.items ≡ c.last_three.new.xs.items ++ m.lane ∷ [] = search rules in
    let si : c.args.senders.items ≡ c.last_three.new.ys.items ++ m.sender ∷ [] = search rules in
    let pi : c.args.worker_parties.items ≡ c.last_three.new.zs.items ++ m.worker_party ∷ [] = search rules in
    left_front c.args.shelf.now c.args.lanes.items c.last_three.new.xs.items c.args.senders.items c.last_three.new.ys.items c.args.worker_parties.items c.last_three.new.zs.items m.lane m.sender m.worker_party c.requires.left la si pi

pub close_one-requires-clause-left : goal.close_one-requires-clause-left
close_one-requires-clause-left g t c κs within =
    let m = c.in-Some in
    let la : c.args.lanes.items ≡ c.last_three.new.xs.items ++ m.lane ∷ [] = search rules in
    let si : c.args.senders.items ≡ c.last_three.new.ys.items ++ m.sender ∷ [] = search rules in
    let pi : c.args.worker_parties.items ≡ c.last_three.new.zs.items ++ m.worker_party ∷ [] = search rules in
    left_last c.args.shelf.now c.args.lanes.items c.last_three.new.xs.items c.args.senders.items c.last_three.new.ys.items c.args.worker_parties.items c.last_three.new.zs.items m.lane m.sender m.worker_party c.requires.left la si pi c.requires.counts.0 c.requires.counts.1

pub returns-clause-sent : goal.returns-clause-sent
returns-clause-sent g t c =
    let m = c.in-Some in
    let la : c.args.lanes.items ≡ c.last_three.new.xs.items ++ m.lane ∷ [] = search rules in
    let si : c.args.senders.items ≡ c.last_three.new.ys.items ++ m.sender ∷ [] = search rules in
    let pi : c.args.worker_parties.items ≡ c.last_three.new.zs.items ++ m.worker_party ∷ [] = search rules in
    let e = c.close_one.ensures.notes in snoc_same (λ (n : Noted). n.sent) (λ (p : AtLane). p.history.sent) _ _ c.args.senders.items c.last_three.new.ys.items e.0 m.sender e.1 si c.close_all.ensures.sent e.2

pub returns-clause-taken : goal.returns-clause-taken
returns-clause-taken g t c =
    let m = c.in-Some in
    let la : c.args.lanes.items ≡ c.last_three.new.xs.items ++ m.lane ∷ [] = search rules in
    let si : c.args.senders.items ≡ c.last_three.new.ys.items ++ m.sender ∷ [] = search rules in
    let pi : c.args.worker_parties.items ≡ c.last_three.new.zs.items ++ m.worker_party ∷ [] = search rules in
    let e = c.close_one.ensures.notes in snoc_same (λ (n : Noted). n.taken) (λ (p : AtLane). p.history.sent) _ _ c.args.senders.items c.last_three.new.ys.items e.0 m.sender e.1 si c.close_all.ensures.taken e.3

pub returns-clause-took : goal.returns-clause-took
returns-clause-took g t c =
    let m = c.in-Some in
    let la : c.args.lanes.items ≡ c.last_three.new.xs.items ++ m.lane ∷ [] = search rules in
    let si : c.args.senders.items ≡ c.last_three.new.ys.items ++ m.sender ∷ [] = search rules in
    let pi : c.args.worker_parties.items ≡ c.last_three.new.zs.items ++ m.worker_party ∷ [] = search rules in
    snoc_same taken_at (λ (p : AtLane). p.history.sent) c.args.worker_parties.items c.last_three.new.zs.items c.args.senders.items c.last_three.new.ys.items m.worker_party m.sender pi si c.close_all.ensures.took c.close_one.ensures.took

pub returns-clause-workers : goal.returns-clause-workers
returns-clause-workers g t c =
    let m = c.in-Some in
    let la : c.args.lanes.items ≡ c.last_three.new.xs.items ++ m.lane ∷ [] = search rules in
    let si : c.args.senders.items ≡ c.last_three.new.ys.items ++ m.sender ∷ [] = search rules in
    let pi : c.args.worker_parties.items ≡ c.last_three.new.zs.items ++ m.worker_party ∷ [] = search rules in
    snoc_map worker_in _ _ c.args.worker_parties.items c.last_three.new.zs.items m.worker_party.worker m.worker_party c.close_one.ensures.workers pi c.close_all.ensures.workers refl

pub returns-clause-seat : goal.returns-clause-seat
returns-clause-seat g t c =
    let m = c.in-Some in
    let la : c.args.lanes.items ≡ c.last_three.new.xs.items ++ m.lane ∷ [] = search rules in
    let si : c.args.senders.items ≡ c.last_three.new.ys.items ++ m.sender ∷ [] = search rules in
    let pi : c.args.worker_parties.items ≡ c.last_three.new.zs.items ++ m.worker_party ∷ [] = search rules in
    let r = left_last c.args.shelf.now c.args.lanes.items c.last_three.new.xs.items c.args.senders.items c.last_three.new.ys.items c.args.worker_parties.items c.last_three.new.zs.items m.lane m.sender m.worker_party c.requires.left la si pi c.requires.counts.0 c.requires.counts.1 in
    (ap (λ (a : AtShelf). a.home) c.close_one.ensures.seat, ap (λ (a : AtShelf). a.history.held) c.close_one.ensures.seat ∙ (ap (λ (l : List Claim). l ++ m.worker_party.seat.history.held) c.close_all.ensures.seat.1 ∙ r.free))

pub returns-clause-run : goal.returns-clause-run
returns-clause-run g t c =
    (ap (λ (a : AtShelf). a.history.key) c.close_one.ensures.seat ∙ c.close_all.ensures.run.0, ap (λ (a : AtShelf). a.history.buckets) c.close_one.ensures.seat ∙ c.close_all.ensures.run.1)

pub returns-clause-shares : goal.returns-clause-shares
returns-clause-shares g t c =
    let m = c.in-Some in
    let la : c.args.lanes.items ≡ c.last_three.new.xs.items ++ m.lane ∷ [] = search rules in
    let si : c.args.senders.items ≡ c.last_three.new.ys.items ++ m.sender ∷ [] = search rules in
    let pi : c.args.worker_parties.items ≡ c.last_three.new.zs.items ++ m.worker_party ∷ [] = search rules in
    let r = left_last c.args.shelf.now c.args.lanes.items c.last_three.new.xs.items c.args.senders.items c.last_three.new.ys.items c.args.worker_parties.items c.last_three.new.zs.items m.lane m.sender m.worker_party c.requires.left la si pi c.requires.counts.0 c.requires.counts.1 in
    let both = ap (λ (a : AtShelf). a.history.shares) c.close_one.ensures.seat in let one = r.share in let more = c.close_all.ensures.shares in
    let long = ap length pi ∙ length-append c.last_three.new.zs.items (m.worker_party ∷ []) in omega arith

pub returns-clause-ended : goal.returns-clause-ended
returns-clause-ended g t c =
    let m = c.in-Some in
    let la : c.args.lanes.items ≡ c.last_three.new.xs.items ++ m.lane ∷ [] = search rules in
    let si : c.args.senders.items ≡ c.last_three.new.ys.items ++ m.sender ∷ [] = search rules in
    let pi : c.args.worker_parties.items ≡ c.last_three.new.zs.items ++ m.worker_party ∷ [] = search rules in
    ap (λ (a : AtShelf). a.history.ended) c.close_one.ensures.seat ∙ ended_all _ _ c.args.worker_parties.items c.last_three.new.zs.items m.worker_party pi c.close_all.ensures.ended
