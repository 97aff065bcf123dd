-- What a dispatcher may still try falls by the steps of each turn.
use Rattle.std.proofs.Common.{suc, ◌≡◌, ℕ, ◌+◌, ◌-◌, ◌*◌, ◌<◌, ◌≤◌, ◌==◌, ne_eqb, Bool, true, false, not, ◌&&◌, List, [], ◌∷◌, length, refl, sym, ap, ◌∙◌, subst, ◌⊎◌, inl, inr, ⊎_elim, arith, Option}
use Rattle.packet_fields.specs.declared.packet.PacketInfo.{PacketInfo}
use Rattle.indirection.specs.declared.outcome.Outcome.{Outcome}
use Rattle.indirection.specs.declared.proposal.Proposal.{Proposal}
use Rattle.indirection.specs.declared.move_order.MoveOrder.{MoveOrder}
use Rattle.indirection.specs.Tries.{Ask, ask_bucket, ask_to}
use Rattle.indirection.specs.Due.{TryDue}
use Rattle.balancer.specs.Greedy.{opening}
use Rattle.handover_words.specs.declared.history.ShelfHistory.{ShelfHistory}
use Rattle.handover_words.specs.Stock.{Stock}
use Rattle.dispatch_loop.specs.declared.dispatcher_turn.DispatcherTurn.{DispatcherTurn}
use Rattle.dispatch_loop.specs.declared.dispatcher_turn.DispatcherTurn.TheVariants.{Sent, Round, Ordered, EndSent, NoCell, LaneFull, Finished}
use Rattle.dispatch_loop.specs.Terms.{cores_of}
use Rattle.dispatch_loop.specs.DispatcherState.{DispatcherState}
use Rattle.dispatch_loop.specs.Asks.{due_now, rest_of, RiseFrom, is_round_due}
use Rattle.dispatch_loop.specs.Does.{noted, decided, loads_of, with_round, with_packet}
use Rattle.dispatch_loop.specs.Past.{Past}
use Rattle.dispatch_loop.specs.DispatcherSnapshot.{Outs, DispatcherSnapshot}
use Rattle.dispatch_loop.specs.Steps.{tried_steps, packet_steps, next_steps, act_steps}
use Rattle.dispatch_loop.specs.Rules as turns
use Rattle.dispatch_loop.specs.Rules.{Acts, Fetches, ReadsNext, HasRead, IsNext, IsRoundMade, IsRoundRefused, IsPacketTurn, IsEndTurn, SendsPacket, SendsEnd}
use Rattle.dispatch_loop.specs.Tied.{TiedIn}
use Rattle.dispatch_loop.proofs.Dues.{round_due, and_false, asked, IsProposed, IsOrdered}
use Rattle.balancer.proofs.Proposed.{named_proposals}
use Rattle.rsspp_run.specs.Sweeps.{one_if, to_try}

-- numbers
fewer_first : (a p p' k : ℕ) → p ≡ suc p' → (a + p' + k) + 1 ≤ a + p + k
fewer_first a p p' k e = omega arith

fewer_orders : (a a' p k : ℕ) → a ≡ suc a' → (a' + p + k) + 1 ≤ a + p + k
fewer_orders a a' p k e = omega arith

rounded : (o p g q k k' : ℕ) → k ≡ 1 → k' ≡ 0 → g ≤ 16 → (o + g + (18 * q + 17 * k')) + 1 ≤ o + p + (18 * q + 17 * k)
rounded o p g q k k' e e' few = omega arith

dropped : (o p q k : ℕ) → o + 0 + (18 * q + 17 * 0) ≤ o + p + (18 * q + 17 * k)
dropped o p q k = omega arith

sent_less : (o p most n k k' : ℕ) → n + 1 ≤ most → k' ≤ 1 → (o + p + (18 * (most - (n + 1)) + 17 * k')) + 1 ≤ o + p + (18 * (most - n) + 17 * k)
sent_less o p most n k k' few one = omega arith

same_less : (a b : ℕ) → a ≡ b → a + 0 ≤ b
same_less a b e = omega arith

one_few : (b : Bool) → one_if b ≤ 1
one_few true = omega arith
one_few false = omega arith

both : (s t : Bool) → s ≡ false → t ≡ true → one_if (not s && t) ≡ 1
both s t e h = (λ i. one_if (not (e i) && h i))

-- a proposal or an order that is tried
proposal_less : (f : DispatcherState) (a : Ask) (o : Outcome) → IsProposed f a → to_try (noted (decided f (ask_bucket a) (ask_to a) o) a o) + 1 ≤ to_try f
proposal_less f a o h = subst (λ (z : Ask). to_try (noted (decided f (ask_bucket z) (ask_to z) o) z o) + 1 ≤ to_try f) (sym h.ask)
    (fewer_first (length f.orders) (length f.proposals) (length (rest_of f.proposals)) (18 * (f.terms.packets - f.sent) + 17 * one_if (is_round_due f))
    (ap (λ (z : List Proposal). length z) h.are ∙ sym (ap (λ (z : List Proposal). suc (length (rest_of z))) h.are)))

order_less : (f : DispatcherState) (a : Ask) (o : Outcome) → IsOrdered f a → to_try (noted (decided f (ask_bucket a) (ask_to a) o) a o) + 1 ≤ to_try f
order_less f a o h = subst (λ (z : Ask). to_try (noted (decided f (ask_bucket z) (ask_to z) o) z o) + 1 ≤ to_try f) (sym h.ask)
    (fewer_orders (length f.orders) (length (rest_of f.orders)) (length f.proposals) (18 * (f.terms.packets - f.sent) + 17 * one_if (is_round_due f))
    (ap (λ (z : List MoveOrder). length z) h.are ∙ sym (ap (λ (z : List MoveOrder). suc (length (rest_of z))) h.are)))

-- a packet
packet_less : (turn : DispatcherTurn) (p : PacketInfo) (f f' : DispatcherState) (o o' : Outs) → f'.sent ≤ f'.terms.packets → SendsPacket turn p f f' o o' → to_try f' + length (packet_steps turn f.terms p) ≤ to_try f
packet_less Sent p f f' o o' few h =
    let room = subst (λ (z : DispatcherState). z.sent ≤ z.terms.packets) h.dispatcher few in
    subst (λ (z : DispatcherState). to_try z + 1 ≤ to_try f) (sym h.dispatcher) (sent_less (length f.orders) (length f.proposals) f.terms.packets f.sent (one_if (is_round_due f)) (one_if (is_round_due (with_packet f p))) room (one_few (is_round_due (with_packet f p))))
packet_less NoCell p f f' o o' few h = same_less _ _ (ap to_try h.dispatcher)
packet_less (LaneFull c) p f f' o o' few h = same_less _ _ (ap to_try h.dispatcher)
packet_less Ordered p f f' o o' few h = absurd h
packet_less Round p f f' o o' few h = absurd h
packet_less EndSent p f f' o o' few h = absurd h
packet_less (Finished e) p f f' o o' few h = absurd h

module _ {T : Type 0} where
  tried_less : (turn : DispatcherTurn) (a : Ask) (f f' : DispatcherState) (os : Outs) (v : ShelfHistory) (n : Option (Stock T)) (os' : Outs) (v' : ShelfHistory) (n' : Option (Stock T)) → RiseFrom f.sent f.orders → due_now f ≡ TryDue a
      → (h : turns.Tries turn a f f' os v n os' v' n') → to_try f' + length (tried_steps turn a f f' os v n os' v' n' h) ≤ to_try f
  tried_less Ordered a f f' os v n os' v' n' rise due h = subst (λ (z : DispatcherState). to_try z + 1 ≤ to_try f) (sym h.dispatcher)
      (⊎_elim (λ (k : IsProposed f a). proposal_less f a h.outcome k) (λ (k : IsOrdered f a). order_less f a h.outcome k) (asked f a rise due))
  tried_less NoCell a f f' os v n os' v' n' rise due h = same_less _ _ (ap to_try h.dispatcher)
  tried_less (LaneFull c) a f f' os v n os' v' n' rise due h = same_less _ _ (ap to_try h.dispatcher)
  tried_less Sent a f f' os v n os' v' n' rise due h = absurd h
  tried_less Round a f f' os v n os' v' n' rise due h = absurd h
  tried_less EndSent a f f' os v n os' v' n' rise due h = absurd h
  tried_less (Finished e) a f f' os v n os' v' n' rise due h = absurd h

  -- an End
  end_same : (turn : DispatcherTurn) (s t : DispatcherSnapshot T) → IsEndTurn turn s t → to_try t.dispatcher ≡ to_try s.dispatcher
  end_same turn s t h = by turn h.sends where
    by : (turn : DispatcherTurn) → SendsEnd turn s.dispatcher t.dispatcher s.outs.lanes s.outs.lanes_now t.outs.lanes t.outs.lanes_now → to_try t.dispatcher ≡ to_try s.dispatcher
    by EndSent k = ap to_try k.dispatcher
    by (LaneFull c) k = ap to_try k.dispatcher
    by (Finished e) k = ap to_try k.dispatcher
    by Sent k = absurd k
    by NoCell k = absurd k
    by Round k = absurd k
    by Ordered k = absurd k

  next_less : (turn : DispatcherTurn) (s t : DispatcherSnapshot T) → t.dispatcher.sent ≤ t.dispatcher.terms.packets → (h : IsNext turn s t) → to_try t.dispatcher + length (next_steps turn s t h) ≤ to_try s.dispatcher
  next_less turn s t few (inl k) = packet_less turn k.0 s.dispatcher t.dispatcher s.outs t.outs few k.1.sends
  next_less turn s t few (inr k) = same_less _ _ (end_same turn s t k)

  fetch_same : (s m : DispatcherSnapshot T) → Fetches s m → to_try m.dispatcher ≡ to_try s.dispatcher
  fetch_same s m fetch = ⊎_elim
      (λ (k : ReadsNext s.dispatcher m.dispatcher s.faults m.faults). ap to_try k.dispatcher)
      (λ (k : HasRead s.dispatcher m.dispatcher s.reader m.reader s.left m.left s.faults m.faults). ap to_try k.dispatcher) fetch.reads

  -- what is due behind a round
  pub acts_less : (turn : DispatcherTurn) (s t : DispatcherSnapshot T) → RiseFrom s.dispatcher.sent s.dispatcher.orders → t.dispatcher.sent ≤ t.dispatcher.terms.packets → (h : Acts turn s t) → to_try t.dispatcher + length (act_steps turn s t h) ≤ to_try s.dispatcher
  acts_less turn s t rise few (inl k) = tried_less turn k.ask s.dispatcher t.dispatcher s.outs s.shelf s.shelf_now t.outs t.shelf t.shelf_now rise k.due k.tries
  acts_less turn s t rise few (inr k) = subst (λ (n : ℕ). to_try t.dispatcher + length (next_steps turn k.0 t k.2) ≤ n) (fetch_same s k.0 k.1) (next_less turn k.0 t few k.2)

  -- a round
  pub round_less : (packets : Option (List PacketInfo)) (p : Past) (s t : DispatcherSnapshot T) → TiedIn packets p s → IsRoundMade s t → to_try t.dispatcher + 1 ≤ to_try s.dispatcher
  round_less packets p s t tied h =
      let f = s.dispatcher in let due = round_due f h.due in let some = tied.sound.some_round in let limit = tied.sound.limit in
      subst (λ (z : DispatcherState). to_try z + 1 ≤ to_try f) (sym h.dispatcher)
      (rounded (length f.orders) (length f.proposals) (length (with_round f (loads_of f h.readings)).proposals) (f.terms.packets - f.sent) (one_if (is_round_due f)) (one_if (is_round_due (with_round f (loads_of f h.readings))))
      (both f.short (f.since == f.terms.round) due.0 (Rattle.std.proofs.Common.eq-eqb f.since f.terms.round due.1))
      (ap (λ (b : Bool). one_if (not f.short && b)) (ne_eqb 0 f.terms.round (λ e. omega arith)) ∙ ap one_if (and_false (not f.short)))
      (let n = (named_proposals f.terms.policy (cores_of f.terms) f.terms.limit (loads_of f h.readings) f.owners).few in omega arith))

  pub refused_less : (s m : DispatcherSnapshot T) → IsRoundRefused s m → to_try m.dispatcher ≤ to_try s.dispatcher
  refused_less s m h = let f = s.dispatcher in subst (λ (z : DispatcherState). to_try z ≤ to_try f) (sym h.dispatcher) (dropped (length f.orders) (length f.proposals) (f.terms.packets - f.sent) (one_if (is_round_due f)))
