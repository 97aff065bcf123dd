use Rattle.std.proofs.Common.{rules, ◌≡◌, ◌≢◌, ℕ, List, length, map, refl, sym, ap, ◌∙◌, subst, Option, None, ⊎_elim, ◌⊎◌, inl, inr}
use Rattle.std.proofs.lemmas.List.{length-map}
use Rattle.packet_fields.specs.declared.packet.PacketInfo.{PacketInfo}
use Rattle.pcap_reader.specs.Reading.{Reading}
use Rattle.indirection.specs.Due.{PacketDue}
use Rattle.core_queue.specs.declared.history.LaneHistory.{LaneHistory}
use Rattle.handover_words.specs.declared.history.ShelfHistory.{ShelfHistory}
use Rattle.load_meter.specs.declared.history.LoadHistory.{LoadHistory}
use Rattle.dispatch_loop.specs.declared.dispatcher_end.DispatcherEnd.{DispatcherEnd}
use Rattle.dispatch_loop.specs.Asks.{due_now}
use Rattle.dispatch_loop.specs.DispatcherState.{DispatcherState}
use Rattle.dispatch_loop.specs.Asked.{ask_of}
use Rattle.dispatch_loop.specs.Past.{Past, IsFed}
use Rattle.dispatch_loop.specs.DispatcherSnapshot.{dispatcher_snapshot, outs}
use Rattle.dispatch_loop.specs.Rules.{Fetched}
use Rattle.dispatch_loop.specs.Tied.{Tied}
use Rattle.dispatch_loop.specs.Views.{dispatcher_state}
use Rattle.dispatch_loop.proofs.Framed.{framed}
use Rattle.dispatch_loop.proofs.Ties.{sent-is}
use Rattle.dispatch_loop.proofs.SentTies.{can-packet, can-end, held-reading, some-bucket}
use Rattle.dispatch_loop.proofs.Acted.{due_asked, due_packet, mark-legal, tied-tries, tied-fetched, held-open, owner-inside, tied-sends, tied-ends}
use Rattle.dispatch_loop.proofs.States.{can-try, can-count}
use Rattle.dispatch_loop.proofs.act.act.Goals as goal

-- after a fetch
fetched-tied : (packets : Option (List PacketInfo)) (p : Past) (f f1 : DispatcherState) (lanes : List LaneHistory) (v : ShelfHistory) (m : LoadHistory) (r r' : Reading) (l l' : Option (List ℕ)) (h : Option PacketInfo) (e : Option DispatcherEnd) (x x' : ℕ) → Tied packets p f lanes v m r l → f1 ≡ framed f h f.spare e f.ends → due_now f ≡ PacketDue
    → Fetched f f1 r r' l l' x x' → IsFed f.terms.packets p h e r' l' → Tied packets p f1 lanes v m r' l'
fetched-tied packets p f f1 lanes v m r r' l l' h e x x' t frame d fetched fed =
    subst (λ (z : DispatcherState). Tied packets p z lanes v m r' l') (sym frame) (tied-fetched packets p f lanes v m r l t h e r' l' x x' d (subst (λ (z : DispatcherState). Fetched f z r r' l l' x x') frame fetched) fed)

ended : (h : Option PacketInfo) (e : Option DispatcherEnd) → (h ≢ None) ⊎ (e ≢ None) → h ≡ None → e ≢ None
ended h e w none = ⊎_elim (λ (a : h ≢ None). absurd (a none)) (λ (a : e ≢ None). a) w

pub try_asked-requires-clause-can : goal.try_asked-requires-clause-can
try_asked-requires-clause-can g c = λ κs live.
    let s = c.args.state.now in let t = c.requires.tied.2 in let m = c.requires.tied.0 in
    can-try g.W.FlowWork.cost_of g.N.RunName.packets t.0 s (map g.LO.LaneEnd.history c.args.lanes.now) (g.H.Shelf.history c.args.shelf.now) m c.args.reader.now (g.S.Source.left c.args.source.now) t.1 g.B.Policy.stated g.B.Policy.proposals c.requires.fit c.in-Some.asked (length c.args.lanes.now) (sym (length-map c.args.lanes.now g.LO.LaneEnd.history))
    (due_asked (dispatcher_state g.W.FlowWork.cost_of s) c.in-Some.asked c.requires.none_due c.in-Some.ensures)

pub try_asked-requires-clause-legal : goal.try_asked-requires-clause-legal
try_asked-requires-clause-legal g c = λ κs live.
    let s = c.args.state.now in let t = c.requires.tied.2 in let m = c.requires.tied.0 in
    mark-legal g.N.RunName.packets t.0 (dispatcher_state g.W.FlowWork.cost_of s) (map g.LO.LaneEnd.history c.args.lanes.now) (g.H.Shelf.history c.args.shelf.now) m c.args.reader.now (g.S.Source.left c.args.source.now) t.1 c.in-Some.asked
    (due_asked (dispatcher_state g.W.FlowWork.cost_of s) c.in-Some.asked c.requires.none_due c.in-Some.ensures)

pub returns-in-Some-clause-tied : goal.returns-in-Some-clause-tied
returns-in-Some-clause-tied g c = λ m n. record {
  stays = λ p t.
      let s = c.args.state.now in
      tied-tries g.N.RunName.packets p (dispatcher_state g.W.FlowWork.cost_of s) (map g.LO.LaneEnd.history c.args.lanes.now) (g.H.Shelf.history c.args.shelf.now) m c.args.reader.now (g.S.Source.left c.args.source.now) t c.try_asked.result (ask_of s.routing.sent c.in-Some.asked) (dispatcher_state g.W.FlowWork.cost_of c.try_asked.new.state)
      _ (g.H.Shelf.now c.args.shelf.now) _ (g.H.Shelf.history c.try_asked.new.shelf) (g.H.Shelf.now c.try_asked.new.shelf) refl (due_asked (dispatcher_state g.W.FlowWork.cost_of s) c.in-Some.asked c.requires.none_due c.in-Some.ensures) c.try_asked.ensures.tries;
}

pub returns-in-Some-clause-rule : goal.returns-in-Some-clause-rule
returns-in-Some-clause-rule g c = λ m n.
    let s = c.args.state.now in
    inl (record {
      ask = ask_of s.routing.sent c.in-Some.asked;
      due = due_asked (dispatcher_state g.W.FlowWork.cost_of s) c.in-Some.asked c.requires.none_due c.in-Some.ensures;
      tries = c.try_asked.ensures.tries;
      meter = (refl, refl);
      reader = (refl, refl, refl);
    })

pub fetch-requires : goal.fetch-requires
fetch-requires g c = let t = c.requires.tied.2 in let m = c.requires.tied.0 in (search rules, (t.0, t.1.fed, sym (sent-is (dispatcher_state g.W.FlowWork.cost_of c.args.state.now) t.0.packets t.1.dealt)))

pub send_packet-requires-clause-can : goal.send_packet-requires-clause-can
send_packet-requires-clause-can g c = λ κs live.
    let s = c.args.state.now in let s1 = c.fetch.new.state in let f = dispatcher_state g.W.FlowWork.cost_of s in let f1 = dispatcher_state g.W.FlowWork.cost_of s1 in let packets = g.N.RunName.packets in
    let lanes = map g.LO.LaneEnd.history c.args.lanes.now in let v = g.H.Shelf.history c.args.shelf.now in let m = c.requires.tied.0 in let left = g.S.Source.left in
    let frame : f1 ≡ framed f s1.held f.spare s1.end f.ends = ap (dispatcher_state g.W.FlowWork.cost_of) c.fetch.ensures.rest in
    let d = due_packet f c.requires.none_due c.in_default.ensures in
    let t1 = fetched-tied packets c.requires.tied.2.0 f f1 lanes v m c.args.reader.now c.fetch.new.reader (left c.args.source.now) (left c.fetch.new.source) s1.held s1.end (g.S.Source.faults c.args.source.now) (g.S.Source.faults c.fetch.new.source) c.requires.tied.2.1 frame d c.fetch.ensures.fetched (c.fetch.ensures.fed c.requires.tied.2.0 c.requires.tied.2.1.fed (sym (sent-is f c.requires.tied.2.0.packets c.requires.tied.2.1.dealt))) in
    let q = c.in-Some-held.packet in let r1 = c.fetch.new.reader in let l1 = left c.fetch.new.source in
    can-count g.W.FlowWork.cost_of packets c.requires.tied.2.0 s1 lanes v m r1 l1 t1 (length c.args.lanes.now) q (sym (length-map c.args.lanes.now g.LO.LaneEnd.history))
    (held-reading packets c.requires.tied.2.0 f1 r1 l1 q t1.fed c.in-Some-held.is (held-open packets c.requires.tied.2.0 f1 lanes v m r1 l1 t1 q c.in-Some-held.is))

pub send_packet-requires-clause-legal : goal.send_packet-requires-clause-legal
send_packet-requires-clause-legal g c = λ κs live.
    let s = c.args.state.now in let s1 = c.fetch.new.state in let f = dispatcher_state g.W.FlowWork.cost_of s in let f1 = dispatcher_state g.W.FlowWork.cost_of s1 in let packets = g.N.RunName.packets in
    let lanes = map g.LO.LaneEnd.history c.args.lanes.now in let v = g.H.Shelf.history c.args.shelf.now in let m = c.requires.tied.0 in let left = g.S.Source.left in
    let frame : f1 ≡ framed f s1.held f.spare s1.end f.ends = ap (dispatcher_state g.W.FlowWork.cost_of) c.fetch.ensures.rest in
    let d = due_packet f c.requires.none_due c.in_default.ensures in
    let t1 = fetched-tied packets c.requires.tied.2.0 f f1 lanes v m c.args.reader.now c.fetch.new.reader (left c.args.source.now) (left c.fetch.new.source) s1.held s1.end (g.S.Source.faults c.args.source.now) (g.S.Source.faults c.fetch.new.source) c.requires.tied.2.1 frame d c.fetch.ensures.fetched (c.fetch.ensures.fed c.requires.tied.2.0 c.requires.tied.2.1.fed (sym (sent-is f c.requires.tied.2.0.packets c.requires.tied.2.1.dealt))) in
    let q = c.in-Some-held.packet in let r1 = c.fetch.new.reader in let l1 = left c.fetch.new.source in
    can-packet packets c.requires.tied.2.0 f1 lanes v m r1 l1 q t1 c.in-Some-held.is (held-open packets c.requires.tied.2.0 f1 lanes v m r1 l1 t1 q c.in-Some-held.is) (owner-inside packets c.requires.tied.2.0 f1 lanes v m r1 l1 t1 q (some-bucket packets c.requires.tied.2.0 f1 lanes v m r1 l1 q t1))

pub send_end-requires-clause-legal : goal.send_end-requires-clause-legal
send_end-requires-clause-legal g c = λ κs live few.
    let s = c.args.state.now in let s1 = c.fetch.new.state in let f = dispatcher_state g.W.FlowWork.cost_of s in let f1 = dispatcher_state g.W.FlowWork.cost_of s1 in let packets = g.N.RunName.packets in
    let lanes = map g.LO.LaneEnd.history c.args.lanes.now in let v = g.H.Shelf.history c.args.shelf.now in let m = c.requires.tied.0 in let left = g.S.Source.left in
    let frame : f1 ≡ framed f s1.held f.spare s1.end f.ends = ap (dispatcher_state g.W.FlowWork.cost_of) c.fetch.ensures.rest in
    let d = due_packet f c.requires.none_due c.in_default.ensures in
    let t1 = fetched-tied packets c.requires.tied.2.0 f f1 lanes v m c.args.reader.now c.fetch.new.reader (left c.args.source.now) (left c.fetch.new.source) s1.held s1.end (g.S.Source.faults c.args.source.now) (g.S.Source.faults c.fetch.new.source) c.requires.tied.2.1 frame d c.fetch.ensures.fetched (c.fetch.ensures.fed c.requires.tied.2.0 c.requires.tied.2.1.fed (sym (sent-is f c.requires.tied.2.0.packets c.requires.tied.2.1.dealt))) in
    can-end packets c.requires.tied.2.0 f1 lanes v m c.fetch.new.reader (left c.fetch.new.source) t1

pub returns-in-Some-held-clause-tied : goal.returns-in-Some-held-clause-tied
returns-in-Some-held-clause-tied g c = λ m n. record {
  stays = λ p t.
      let s = c.args.state.now in let s1 = c.fetch.new.state in let f = dispatcher_state g.W.FlowWork.cost_of s in let f1 = dispatcher_state g.W.FlowWork.cost_of s1 in let packets = g.N.RunName.packets in
      let lanes = map g.LO.LaneEnd.history c.args.lanes.now in let v = g.H.Shelf.history c.args.shelf.now in let left = g.S.Source.left in
      let frame : f1 ≡ framed f s1.held f.spare s1.end f.ends = ap (dispatcher_state g.W.FlowWork.cost_of) c.fetch.ensures.rest in
      let d = due_packet f c.requires.none_due c.in_default.ensures in
      let t1 = fetched-tied packets p f f1 lanes v m c.args.reader.now c.fetch.new.reader (left c.args.source.now) (left c.fetch.new.source) s1.held s1.end (g.S.Source.faults c.args.source.now) (g.S.Source.faults c.fetch.new.source) t frame d c.fetch.ensures.fetched (c.fetch.ensures.fed p t.fed (sym (sent-is f p.packets t.dealt))) in
      tied-sends packets p f1 lanes v m c.fetch.new.reader (left c.fetch.new.source) t1 c.send_packet.result c.in-Some-held.packet (dispatcher_state g.W.FlowWork.cost_of c.send_packet.new.state) _ _ refl (ap due_now frame ∙ d) c.in-Some-held.is c.send_packet.ensures.sends;
}

pub returns-in-Some-held-clause-rule : goal.returns-in-Some-held-clause-rule
returns-in-Some-held-clause-rule g c = λ m n.
    let f = dispatcher_state g.W.FlowWork.cost_of c.args.state.now in let f1 = dispatcher_state g.W.FlowWork.cost_of c.fetch.new.state in
    inr (
      dispatcher_snapshot f1 (outs (map g.LO.LaneEnd.history c.args.lanes.now) (map g.LO.LaneEnd.now c.args.lanes.now) (g.P.Pool.history c.args.pool.now) (g.P.Pool.now c.args.pool.now)) (g.H.Shelf.history c.args.shelf.now) (g.H.Shelf.now c.args.shelf.now) m n c.fetch.new.reader (g.S.Source.left c.fetch.new.source) (g.S.Source.faults c.fetch.new.source),
      record { due = due_packet f c.requires.none_due c.in_default.ensures; reads = c.fetch.ensures.fetched; outs = refl; shelf = (refl, refl); meter = (refl, refl) },
      inl (c.in-Some-held.packet, record { held = c.in-Some-held.is; sends = c.send_packet.ensures.sends; shelf = (refl, refl); meter = (refl, refl); reader = (refl, refl, refl) }),
    )

pub returns-in-None-clause-tied : goal.returns-in-None-clause-tied
returns-in-None-clause-tied g c = λ m n. record {
  stays = λ p t.
      let s = c.args.state.now in let s1 = c.fetch.new.state in let f = dispatcher_state g.W.FlowWork.cost_of s in let f1 = dispatcher_state g.W.FlowWork.cost_of s1 in let packets = g.N.RunName.packets in
      let lanes = map g.LO.LaneEnd.history c.args.lanes.now in let v = g.H.Shelf.history c.args.shelf.now in let left = g.S.Source.left in
      let frame : f1 ≡ framed f s1.held f.spare s1.end f.ends = ap (dispatcher_state g.W.FlowWork.cost_of) c.fetch.ensures.rest in
      let d = due_packet f c.requires.none_due c.in_default.ensures in
      let t1 = fetched-tied packets p f f1 lanes v m c.args.reader.now c.fetch.new.reader (left c.args.source.now) (left c.fetch.new.source) s1.held s1.end (g.S.Source.faults c.args.source.now) (g.S.Source.faults c.fetch.new.source) t frame d c.fetch.ensures.fetched (c.fetch.ensures.fed p t.fed (sym (sent-is f p.packets t.dealt))) in
      tied-ends packets p f1 lanes v m c.fetch.new.reader (left c.fetch.new.source) t1 c.send_end.result (dispatcher_state g.W.FlowWork.cost_of c.send_end.new.state) _ _ _ _ refl (ended s1.held s1.end c.fetch.ensures.has c.in-None.is) c.send_end.ensures.sends;
}

pub returns-in-None-clause-rule : goal.returns-in-None-clause-rule
returns-in-None-clause-rule g c = λ m n.
    let f = dispatcher_state g.W.FlowWork.cost_of c.args.state.now in let s1 = c.fetch.new.state in let f1 = dispatcher_state g.W.FlowWork.cost_of s1 in
    inr (
      dispatcher_snapshot f1 (outs (map g.LO.LaneEnd.history c.args.lanes.now) (map g.LO.LaneEnd.now c.args.lanes.now) (g.P.Pool.history c.args.pool.now) (g.P.Pool.now c.args.pool.now)) (g.H.Shelf.history c.args.shelf.now) (g.H.Shelf.now c.args.shelf.now) m n c.fetch.new.reader (g.S.Source.left c.fetch.new.source) (g.S.Source.faults c.fetch.new.source),
      record { due = due_packet f c.requires.none_due c.in_default.ensures; reads = c.fetch.ensures.fetched; outs = refl; shelf = (refl, refl); meter = (refl, refl) },
      inr (record { none_held = c.in-None.is; ended = ended s1.held s1.end c.fetch.ensures.has c.in-None.is; sends = c.send_end.ensures.sends; pool = (refl, refl); shelf = (refl, refl); meter = (refl, refl); reader = (refl, refl, refl) }),
    )
