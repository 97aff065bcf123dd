-- A dispatcher whose cores all got their End finishes, and one that isn't short of memory wasn't before its turn.
use Rattle.std.proofs.Common.{◌≡◌, ◌≢◌, ℕ, ◌-◌, ◌<◌, ◌≤◌, false, List, length, Option, Some, None, refl, sym, ap, ◌∙◌, subst, inl, inr, ⊎_elim, arith}
use Rattle.packet_fields.specs.declared.packet.PacketInfo.{PacketInfo}
use Rattle.pcap_reader.specs.Reading.{Reading}
use Rattle.indirection.specs.Due.{RoundDue, TryDue, PacketDue}
use Rattle.handover_core.specs.State.{MachineView}
use Rattle.handover_core.specs.Promises.{IsFinished}
use Rattle.dispatch_loop.specs.declared.dispatcher_end.DispatcherEnd.{DispatcherEnd}
use Rattle.dispatch_loop.specs.declared.dispatcher_turn.DispatcherTurn.{DispatcherTurn}
use Rattle.dispatch_loop.specs.declared.dispatcher_turn.DispatcherTurn.TheVariants.{Sent, Round, Ordered, EndSent, NoCell, LaneFull, Finished}
use Rattle.dispatch_loop.specs.Asks.{due_now}
use Rattle.dispatch_loop.specs.DispatcherState.{DispatcherState}
use Rattle.dispatch_loop.specs.Past.{Past, IsFed}
use Rattle.dispatch_loop.specs.Rules as turns
use Rattle.dispatch_loop.specs.Rules.{Acts, Passes, Fetches, ReadsNext, HasRead, IsNext, SendsEnd}
use Rattle.dispatch_loop.specs.DispatcherSnapshot.{DispatcherSnapshot}
use Rattle.dispatch_loop.specs.Terms.{cores_of}
use Rattle.dispatch_loop.specs.Tied.{TiedIn}
use Rattle.dispatch_loop.proofs.Dues.{round_due}
use Rattle.rsspp_run.specs.DispatcherOf.{IsDispatcherOf}
use Rattle.rsspp_run.proofs.DispatcherThen.{acts_short}
use Rattle.rsspp_run.proofs.Idle.{below_of}

-- memory that is refused stays refused
module _ {T : Type 0} (s t : DispatcherSnapshot T) (still : t.dispatcher.short ≡ false) where
  passed_open : (turn : DispatcherTurn) (m : DispatcherSnapshot T) → Passes s m → Acts turn m t → s.dispatcher.short ≡ false
  passed_open turn m (inl k) a = sym (ap (λ (z : DispatcherSnapshot T). z.dispatcher.short) k.1) ∙ (sym (acts_short turn m t a) ∙ still)
  passed_open turn m (inr k) a = (round_due s.dispatcher k.due).0

  pub open_before : (turn : DispatcherTurn) → turns.IsTurn s turn t → s.dispatcher.short ≡ false
  open_before Round h = (round_due s.dispatcher h.due).0
  open_before Sent h = passed_open Sent h.0 h.1 h.2
  open_before Ordered h = passed_open Ordered h.0 h.1 h.2
  open_before EndSent h = passed_open EndSent h.0 h.1 h.2
  open_before NoCell h = passed_open NoCell h.0 h.1 h.2
  open_before (LaneFull c) h = passed_open (LaneFull c) h.0 h.1 h.2
  open_before (Finished e) h = passed_open (Finished e) h.0 h.1 h.2

-- once the stream has ended no packet is held
pub none_held : (limit : ℕ) (p : Past) (held : Option PacketInfo) (end : Option DispatcherEnd) (r : Reading) (left : Option (List ℕ)) → IsFed limit p held end r left → end ≢ None → held ≡ None
none_held limit p held None r left h ne = absurd (ne refl)
none_held limit p held (Some e) r left h ne = h.held_is

-- where the machine is finished each core got its End
pub ends_all : (m : MachineView) (d : DispatcherState) → IsDispatcherOf m d → IsFinished m → 1 ≤ cores_of d.terms → d.ends ≤ cores_of d.terms → d.ends ≡ cores_of d.terms
ends_all m d at over some few =
    let n = at.cores in let c = cores_of d.terms - 1 in
    let lt : c < length m.cores = omega arith in
    let got = below_of c d.ends (sym (at.ends c lt) ∙ over.ends c lt) in omega arith

module _ {T : Type 0} (packets : Option (List PacketInfo)) (p : Past) (s t : DispatcherSnapshot T) (tied : TiedIn packets p s) (all : s.dispatcher.ends ≡ cores_of s.dispatcher.terms) where
  Finish : DispatcherTurn → Type 0
  Finish turn = (e : DispatcherEnd) × (turn ≡ Finished e)

  ended : s.dispatcher.end ≢ None
  ended = tied.ends_last (let c = tied.sound.table.some_core in omega arith)

  packet_due : due_now s.dispatcher ≡ PacketDue
  packet_due = tied.none_due ended

  next_finishes : (turn : DispatcherTurn) (m : DispatcherSnapshot T) → m.dispatcher ≡ s.dispatcher → IsNext turn m t → Finish turn
  unfolding Finish
  next_finishes turn m same (inl k) = let z : None ≡ Some k.0 = sym (none_held s.dispatcher.terms.packets p s.dispatcher.held s.dispatcher.end s.reader s.left tied.fed ended) ∙ (sym (ap (λ (f : DispatcherState). f.held) same) ∙ k.1.held) in absurd (cc)
  next_finishes turn m same (inr k) = by turn k.sends where
    few : m.dispatcher.ends < cores_of m.dispatcher.terms → ⊥
    few lt = let e = subst (λ (f : DispatcherState). f.ends ≡ cores_of f.terms) (sym same) all in omega arith

    by : (turn : DispatcherTurn) → SendsEnd turn m.dispatcher t.dispatcher m.outs.lanes m.outs.lanes_now t.outs.lanes t.outs.lanes_now → (e : DispatcherEnd) × (turn ≡ Finished e)
    by EndSent h = absurd (few h.few)
    by (LaneFull c) h = absurd (few h.few)
    by (Finished e) h = (e, refl)
    by Sent h = absurd h
    by NoCell h = absurd h
    by Round h = absurd h
    by Ordered h = absurd h

  acts_finish : (turn : DispatcherTurn) (m : DispatcherSnapshot T) → m ≡ s → Acts turn m t → Finish turn
  acts_finish turn m same (inl k) = let z : TryDue k.ask ≡ PacketDue = sym k.due ∙ (ap (λ (z : DispatcherSnapshot T). due_now z.dispatcher) same ∙ packet_due) in absurd (cc)
  acts_finish turn m same (inr (n, fetch, next)) = next_finishes turn n (⊎_elim
      (λ (k : ReadsNext m.dispatcher n.dispatcher m.faults n.faults). absurd (ended (sym (ap (λ (z : DispatcherSnapshot T). z.dispatcher.end) same) ∙ k.goes_on)))
      (λ (k : HasRead m.dispatcher n.dispatcher m.reader n.reader m.left n.left m.faults n.faults). k.dispatcher ∙ ap (λ (z : DispatcherSnapshot T). z.dispatcher) same) fetch.reads) next

  passes_finish : (turn : DispatcherTurn) (m : DispatcherSnapshot T) → Passes s m → Acts turn m t → Finish turn
  passes_finish turn m (inl k) a = acts_finish turn m k.1 a
  passes_finish turn m (inr k) a = let z : RoundDue ≡ PacketDue = sym k.due ∙ packet_due in absurd (cc)

  pub turn_finishes : (turn : DispatcherTurn) → turns.IsTurn s turn t → (e : DispatcherEnd) × (turn ≡ Finished e)
  unfolding Finish
  turn_finishes Round h = let z : RoundDue ≡ PacketDue = sym h.due ∙ packet_due in absurd (cc)
  turn_finishes Sent h = passes_finish Sent h.0 h.1 h.2
  turn_finishes Ordered h = passes_finish Ordered h.0 h.1 h.2
  turn_finishes EndSent h = passes_finish EndSent h.0 h.1 h.2
  turn_finishes NoCell h = passes_finish NoCell h.0 h.1 h.2
  turn_finishes (LaneFull c) h = passes_finish (LaneFull c) h.0 h.1 h.2
  turn_finishes (Finished e) h = passes_finish (Finished e) h.0 h.1 h.2

-- a turn that finishes tells how the stream ended
module _ {T : Type 0} where
  pub finished_tells : (s t : DispatcherSnapshot T) (e : DispatcherEnd) → turns.IsTurn s (Finished e) t → (t.dispatcher.end ≡ Some e) × (t.dispatcher.ends ≡ cores_of t.dispatcher.terms)
  finished_tells s t e h = by h.2 where
    by : Acts (Finished e) h.0 t → (t.dispatcher.end ≡ Some e) × (t.dispatcher.ends ≡ cores_of t.dispatcher.terms)
    by (inl k) = absurd k.tries
    by (inr (n, fetch, inl k)) = absurd k.1.sends
    by (inr (n, fetch, inr k)) = (ap (λ (f : DispatcherState). f.end) k.sends.dispatcher ∙ k.sends.ended, subst (λ (f : DispatcherState). f.ends ≡ cores_of f.terms) (sym k.sends.dispatcher) k.sends.all)
