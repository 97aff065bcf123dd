use Rattle.std.proofs.Common.{◌≡◌, inl, inr, ◌+◌, List, ℕ, [], ◌∷◌, ◌++◌, length, map, refl, sym, ap, subst, ◌∙◌, arith, Ok, Err, true, false, length-append}
use Rattle.packet_fields.specs.declared.packet.PacketInfo.{PacketInfo}
use Rattle.pcap_reader.specs.Stream.{MayBlame}
use Rattle.pcap_reader.proofs.SoFar.{SoFar-start}
use Rattle.pcap_reader.specs.Reading.{still}
use Rattle.rss_base.specs.Written.{Gets}
use Rattle.rsspp_main.specs.Listing.{listing, hash_line, IsListed}
use Rattle.rsspp_main.specs.declared.fault.TopFault.TheVariants.{TooMany}
use Rattle.rsspp_main.specs.Stops.{top_fault}
use Rattle.dispatch_loop.specs.Packets.{packet_of}
use Rattle.rsspp_main.specs.Run.{ends}
use Rattle.rsspp_main.proofs.Readings.{next_none, next_some, goes_on, stopped_at_start, stopped_later, packets-push, same_length}
use Rattle.rsspp_main.proofs.Listings.{listing-push, listed_none, listed-push, finished, stopped, may_fail, none_listed, not_skipped, gets_none, ok_same}
use Rattle.rsspp_main.proofs.listing.list_hashes.Goals as goal

pub returns-in-Err-clause-outcome : goal.returns-in-Err-clause-outcome
returns-in-Err-clause-outcome g c = λ l r. inl (refl, refl)

pub returns-in-Err-start-clause-outcome : goal.returns-in-Err-start-clause-outcome
returns-in-Err-start-clause-outcome g c = λ l r.
    let left = g.S.Source.left in
    let faults = g.S.Source.faults in
    let writes = g.K.Sink.faults in
    let holds = g.K.Sink.may_hold in
    let text = listing c.args.key.now c.args.spread.now.owners in
    let e = c.in-Err-start.ensures in
    let old = ends l (faults c.args.source.now) (writes c.args.out.now) (holds c.args.out.now) in
    let new = ends r (faults c.start.new.source) (writes c.args.out.now) (holds c.args.out.now) in
    let Before : Type 0 = (c.start.new.source ≡ c.args.source.now) × (c.args.out.now ≡ c.args.out.now) in
    rw c.fault_of.ensures (none_listed c.args.limit text (left c.args.source.now) (left c.start.new.source) _ old new (top_fault c.in-Err-start.error)
    (stopped_at_start c.args.limit (left c.args.source.now) (left c.start.new.source) c.in-Err-start.error Before (λ is. (e.no_memory (ap Err is), refl)) e.refused e.stops)
    (listed_none _ (holds c.args.out.now)) (may_fail c.in-Err-start.error _ _ e.cause.answer))

pub packets-init : goal.packets-init
packets-init g c =
    let left = g.S.Source.left in
    record {
      records = ([], refl, SoFar-start (left c.args.source.now) (still c.in-Ok-start.reader (left c.start.new.source)) c.in-Ok-start.reader.form c.in-Ok-start.ensures.header, listed_none _ (g.K.Sink.may_hold c.args.out.now));
      given = c.in-Ok-start.ensures.first.0;
      going = c.in-Ok-start.ensures.first.1;
      quiet = c.in-Ok-start.ensures.cause.answer;
      origin = c.in-Ok-start.ensures.origin;
    }

pub returns-in-Err-list_packet-clause-outcome : goal.returns-in-Err-list_packet-clause-outcome
returns-in-Err-list_packet-clause-outcome g c = λ l r.
    let left = g.S.Source.left in
    let faults = g.S.Source.faults in
    let writes = g.K.Sink.faults in
    let holds = g.K.Sink.may_hold in
    let text = listing c.args.key.now c.args.spread.now.owners in
    let so_far = c.packets.invariant in
    let next = c.next_packet.ensures.proceeds in
    let p = c.in-Ok-Some.packet in
    let rs = so_far.records.0 in
    let more = next_some (left c.args.source.now) (left c.packets.source) (left c.next_packet.new.source) c.packets.reader c.next_packet.new.reader next.0 rs p
    (sym (c.in-Ok-Some.is ∙ ap Ok c.in-Ok-Some.field-0-is) ∙ next.1) so_far.going next.2 so_far.records.2 in
    let e = c.in-Err-list_packet.ensures in
    let calm : c.packets.failed ≡ false = not_skipped c.packets.failed e.skipped in
    inr (
      rs,
      (omega (arith, so_far.records.1, c.packets-test.true), goes_on (left c.args.source.now) (left c.next_packet.new.source) c.packets.reader c.next_packet.new.reader rs p more.0 more.1),
      subst (λ h. Gets (holds c.args.out.now) (holds h) (text (map packet_of rs))) (sym e.err) (so_far.records.3.whole calm),
      record { reads = (c.in-Ok-Some.ensures.cause so_far.going).answer ∙ so_far.quiet; writes = ap writes e.err ∙ so_far.records.3.calm calm },
    )

pub returns-in-Ok-None-clause-outcome : goal.returns-in-Ok-None-clause-outcome
returns-in-Ok-None-clause-outcome g c = λ l r.
    let left = g.S.Source.left in
    let faults = g.S.Source.faults in
    let writes = g.K.Sink.faults in
    let holds = g.K.Sink.may_hold in
    let text = listing c.args.key.now c.args.spread.now.owners in
    let so_far = c.packets.invariant in
    let next = c.next_packet.ensures.proceeds in
    let is = c.in-Ok-None in
    let end = next_none (left c.args.source.now) (left c.packets.source) (left c.next_packet.new.source) c.packets.reader c.next_packet.new.reader next.0 so_far.records.0
    (sym (is.is ∙ ap Ok is.field-0-is) ∙ next.1) so_far.going next.2 so_far.records.2 in
    finished c.args.limit text (left c.args.source.now) (left c.next_packet.new.source) _ (ends l (faults c.args.source.now) (writes c.args.out.now) (holds c.args.out.now)) (ends r (faults c.next_packet.new.source) (writes c.packets.out) (holds c.packets.out)) so_far.records.0 c.packets.failed c.ended.result
    (omega (arith, so_far.records.1, c.packets-test.true), end.0) end.1 ((is.ensures.cause so_far.going).answer ∙ so_far.quiet) so_far.records.3 c.ended.ensures.failed c.ended.ensures.done

pub returns-in-Err-next_packet-clause-outcome : goal.returns-in-Err-next_packet-clause-outcome
returns-in-Err-next_packet-clause-outcome g c = λ l r.
    let left = g.S.Source.left in
    let faults = g.S.Source.faults in
    let writes = g.K.Sink.faults in
    let holds = g.K.Sink.may_hold in
    let text = listing c.args.key.now c.args.spread.now.owners in
    let so_far = c.packets.invariant in
    let next = c.next_packet.ensures.proceeds in
    let is = c.in-Err-next_packet in
    let rs = so_far.records.0 in
    let old = ends l (faults c.args.source.now) (writes c.args.out.now) (holds c.args.out.now) in
    let new = ends r (faults c.next_packet.new.source) (writes c.packets.out) (holds c.packets.out) in
    let blame = subst (λ n. MayBlame is.error n (faults c.next_packet.new.source)) so_far.quiet (is.ensures.cause so_far.going).answer in
    rw c.fault_of-in-Err-next_packet.ensures (stopped c.args.limit text (left c.args.source.now) (left c.next_packet.new.source) _ old new (top_fault is.error) rs c.packets.failed
    (stopped_later c.args.limit (left c.args.source.now) (left c.packets.source) (left c.next_packet.new.source) c.packets.reader c.next_packet.new.reader next.0 rs is.error (sym is.is ∙ next.1) so_far.going next.2 so_far.records.2 (so_far.given ∙ sym so_far.records.1) (omega (arith, so_far.records.1, c.packets-test.true)))
    so_far.records.3 (may_fail is.error _ _ blame))

pub packets-preserved : goal.packets-preserved
packets-preserved g c =
    let left = g.S.Source.left in
    let faults = g.S.Source.faults in
    let writes = g.K.Sink.faults in
    let holds = g.K.Sink.may_hold in
    let text = listing c.args.key.now c.args.spread.now.owners in
    let so_far = c.packets.invariant in
    let next = c.next_packet.ensures.proceeds in
    let p = c.in-Ok-Some.packet in
    let rs = so_far.records.0 in
    let more = next_some (left c.args.source.now) (left c.packets.source) (left c.next_packet.new.source) c.packets.reader c.next_packet.new.reader next.0 rs p
    (sym (c.in-Ok-Some.is ∙ ap Ok c.in-Ok-Some.field-0-is) ∙ next.1) so_far.going next.2 so_far.records.2 in
    let now = c.in-Ok-list_packet in
    let line = hash_line c.args.key.now c.args.spread.now.owners c.packets.number p in
    let pushed = listed-push (writes c.args.out.now) (writes c.packets.out) (writes c.list_packet.new.out) (holds c.args.out.now) (holds c.packets.out) (holds c.list_packet.new.out) c.packets.failed now.now (text (map packet_of rs)) line so_far.records.3
    now.ensures.listed (λ e.
    let kept = now.ensures.skipped e in
    (ok_same now.now true kept.0, ap (λ o. writes o) kept.1, subst (λ o. Gets (holds c.packets.out) (holds o) []) (sym kept.1) (gets_none (holds c.packets.out)))) in
    let number : length (map packet_of rs) ≡ c.packets.number = same_length rs ∙ so_far.records.1 in
    let whole : text (map packet_of (rs ++ more.0 ∷ [])) ≡ text (map packet_of rs) ++ line =
    ap text (packets-push rs more.0) ∙ (listing-push c.args.key.now c.args.spread.now.owners (map packet_of rs) (packet_of more.0)
    ∙ (ap (λ n. text (map packet_of rs) ++ hash_line c.args.key.now c.args.spread.now.owners n (packet_of more.0)) number
    ∙ ap (λ (q : PacketInfo). text (map packet_of rs) ++ hash_line c.args.key.now c.args.spread.now.owners c.packets.number q) (sym more.1.packet))) in
    record {
      records = (
        rs ++ more.0 ∷ [],
        length-append rs (more.0 ∷ []) ∙ ap (λ n. n + 1) so_far.records.1,
        more.1.so_far,
        subst (λ (w : List ℕ). IsListed (writes c.args.out.now) (writes c.list_packet.new.out) (holds c.args.out.now) (holds c.list_packet.new.out) now.now w) (sym whole) pushed,
      );
      given = more.1.given ∙ ap (λ n. n + 1) so_far.given;
      going = more.1.going;
      quiet = (c.in-Ok-Some.ensures.cause so_far.going).answer ∙ so_far.quiet;
      origin = c.next_packet.ensures.origin ∙ so_far.origin;
    }

pub returns-in-Ok-Some-next_packet-clause-outcome : goal.returns-in-Ok-Some-next_packet-clause-outcome
returns-in-Ok-Some-next_packet-clause-outcome g c = λ l r.
    let left = g.S.Source.left in
    let faults = g.S.Source.faults in
    let writes = g.K.Sink.faults in
    let holds = g.K.Sink.may_hold in
    let text = listing c.args.key.now c.args.spread.now.owners in
    let so_far = c.packets.invariant in
    let next = c.next_packet-2.ensures.proceeds in
    let is = c.in-Ok-Some-next_packet in
    let p = is.field-0-0 in
    let rs = so_far.records.0 in
    let old = ends l (faults c.args.source.now) (writes c.args.out.now) (holds c.args.out.now) in
    let new = ends r (faults c.next_packet-2.new.source) (writes c.packets.out) (holds c.packets.out) in
    let more = next_some (left c.args.source.now) (left c.packets.source) (left c.next_packet-2.new.source) c.packets.reader c.next_packet-2.new.reader next.0 rs p
    (sym (is.is ∙ ap Ok is.field-0-is) ∙ next.1) so_far.going next.2 so_far.records.2 in
    stopped c.args.limit text (left c.args.source.now) (left c.next_packet-2.new.source) ((c.next_packet-2.new.source ≡ c.args.source.now) × (c.packets.out ≡ c.args.out.now)) old new (TooMany c.args.limit) rs c.packets.failed
    (refl, omega (arith, so_far.records.1, c.packets-test.false, c.packets.auto.number-end), goes_on (left c.args.source.now) (left c.next_packet-2.new.source) c.packets.reader c.next_packet-2.new.reader rs p more.0 more.1)
    so_far.records.3 ((is.ensures.cause so_far.going).answer ∙ so_far.quiet)

pub returns-in-Ok-None-next_packet-clause-outcome : goal.returns-in-Ok-None-next_packet-clause-outcome
returns-in-Ok-None-next_packet-clause-outcome g c = λ l r.
    let left = g.S.Source.left in
    let faults = g.S.Source.faults in
    let writes = g.K.Sink.faults in
    let holds = g.K.Sink.may_hold in
    let text = listing c.args.key.now c.args.spread.now.owners in
    let so_far = c.packets.invariant in
    let next = c.next_packet-2.ensures.proceeds in
    let is = c.in-Ok-None-next_packet in
    let end = next_none (left c.args.source.now) (left c.packets.source) (left c.next_packet-2.new.source) c.packets.reader c.next_packet-2.new.reader next.0 so_far.records.0
    (sym (is.is ∙ ap Ok is.field-0-is) ∙ next.1) so_far.going next.2 so_far.records.2 in
    finished c.args.limit text (left c.args.source.now) (left c.next_packet-2.new.source) _ (ends l (faults c.args.source.now) (writes c.args.out.now) (holds c.args.out.now)) (ends r (faults c.next_packet-2.new.source) (writes c.packets.out) (holds c.packets.out)) so_far.records.0 c.packets.failed c.ended-in-Ok-None-next_packet.result
    (omega (arith, so_far.records.1, c.packets-test.false, c.packets.auto.number-end), end.0) end.1 ((is.ensures.cause so_far.going).answer ∙ so_far.quiet) so_far.records.3 c.ended-in-Ok-None-next_packet.ensures.failed c.ended-in-Ok-None-next_packet.ensures.done

pub returns-clause-outcome : goal.returns-clause-outcome
returns-clause-outcome g c = λ l r.
    let left = g.S.Source.left in
    let faults = g.S.Source.faults in
    let writes = g.K.Sink.faults in
    let holds = g.K.Sink.may_hold in
    let text = listing c.args.key.now c.args.spread.now.owners in
    let so_far = c.packets.invariant in
    let next = c.next_packet-2.ensures.proceeds in
    let is = c.in-Err-next_packet-2 in
    let rs = so_far.records.0 in
    let old = ends l (faults c.args.source.now) (writes c.args.out.now) (holds c.args.out.now) in
    let new = ends r (faults c.next_packet-2.new.source) (writes c.packets.out) (holds c.packets.out) in
    let blame = subst (λ n. MayBlame is.error n (faults c.next_packet-2.new.source)) so_far.quiet (is.ensures.cause so_far.going).answer in
    rw c.fault_of-in-Err-next_packet-2.ensures (stopped c.args.limit text (left c.args.source.now) (left c.next_packet-2.new.source) _ old new (top_fault is.error) rs c.packets.failed
    (stopped_later c.args.limit (left c.args.source.now) (left c.packets.source) (left c.next_packet-2.new.source) c.packets.reader c.next_packet-2.new.reader next.0 rs is.error (sym is.is ∙ next.1) so_far.going next.2 so_far.records.2 (so_far.given ∙ sym so_far.records.1) (omega (arith, so_far.records.1, c.packets-test.false, c.packets.auto.number-end)))
    so_far.records.3 (may_fail is.error _ _ blame))
