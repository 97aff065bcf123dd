-- Each turn keeps how a worker stands to an end of a shelf that serves it alone.
use Rattle.std.proofs.Common.{◌≡◌, ◌≢◌, ℕ, zero, suc, ◌<◌, arith, Bool, true, false, List, [], ◌∷◌, ◌++◌, map, reverse, length, get_or, set, inl, ⊎_elim, Option, Some, None, refl, sym, ap, ◌∙◌, subst, get_or-set_same, get_or-set_other}
use Rattle.std.proofs.lemmas.List.{reverse-append}
use mathlib.Core.Logic.{dite}
use native.Mathlib.Decide.{ℕ_discrete}
use Rattle.bucket_table.specs.Table.{TableOf}
use Rattle.bucket_table.specs.declared.custody.Begun.{Begun}
use Rattle.packet_pool.specs.declared.cell.Facts.{Facts}
use Rattle.handover_core.specs.Legal.{Stand}
use Rattle.core_queue.specs.declared.item.Seen.{Seen}
use Rattle.core_queue.specs.declared.item.Seen.TheVariants.{Packet, Close}
use Rattle.handover_words.specs.declared.history.ShelfHistory.{ShelfHistory}
use Rattle.handover_words.specs.declared.history.Claim.{Claim}
use Rattle.handover_words.specs.declared.history.Stretch.{Stretch}
use Rattle.handover_words.specs.ShelfHistory.{HasClaim, saw, without}
use Rattle.handover_words.specs.Stock.{Stock}
use Rattle.handover_words.proofs.Claims.{HasClaim-without}
use Rattle.worker_loop.specs.declared.slot.Slot.{Slot}
use Rattle.worker_loop.specs.declared.slot.Slot.TheVariants.{Away, Held, Leaving}
use Rattle.worker_loop.specs.declared.worker_turn.WorkerTurn.{WorkerTurn}
use Rattle.worker_loop.specs.declared.worker_turn.WorkerTurn.TheVariants.{Released, Claimed, Worked, Parked, Marked, EndTaken, Idle, Ended}
use Rattle.toeplitz.specs.declared.bucket_hash.BucketHash.{BucketHash}
use Rattle.worker_loop.specs.Workload.{Workload}
use Rattle.worker_loop.specs.WorkerState.{WorkerState}
use Rattle.worker_loop.specs.Fresh.{fresh_worker_state}
use Rattle.worker_loop.specs.Tied.{Tied, Lies, slot_at}
use Rattle.worker_loop.specs.WorkerSnapshot.{WorkerSnapshot, AnsweredNotYet, NoneLeaves, NoneHeld, IsLeaving, IsHeld, first_parked_place}
use Rattle.worker_loop.specs.Does.{leave, moved, either}
use Rattle.worker_loop.specs.Chains.{has_mark, stand_after}
use Rattle.worker_loop.specs.Shows.{from_of}
use Rattle.parked_queue.specs.Parked.{cells_at, AllEmpty}
use Rattle.worker_loop.specs.Rules.{IsTurn, Takes, Acts, IsReleased, IsClaimed, IsEnded}
use Rattle.worker_loop.specs.Custodies.{stretch_of, ends_by}
use Rattle.worker_loop.specs.Seats.{claimed_from, HeldBy, Logged}
use Rattle.worker_loop.proofs.CustodyLogs.{turn_log, turn_ended, few_ends}

module _ {S : Type 0} where
  set_from : (slots : List (Slot (TableOf S))) (b k : ℕ) (x : Slot (TableOf S)) → claimed_from x ≡ claimed_from (get_or slots b Away) → claimed_from (get_or (set slots b x) k Away) ≡ claimed_from (get_or slots k Away)
  set_from [] b k x h = refl
  set_from (s ∷ ss) zero zero x h = h
  set_from (s ∷ ss) zero (suc k) x h = refl
  set_from (s ∷ ss) (suc b) zero x h = refl
  set_from (s ∷ ss) (suc b) (suc k) x h = set_from ss b k x h

  leave_from : (o : Slot (TableOf S)) → claimed_from (leave o) ≡ claimed_from o
  leave_from Away = refl
  leave_from (Held t) = refl
  leave_from (Leaving t) = refl

  moved_from : (leaves : Bool) (t : TableOf S) → claimed_from (moved leaves t) ≡ Some (from_of t.custody)
  moved_from true t = refl
  moved_from false t = refl

  -- refused claims don't change what is held
  refused_held : (w : WorkerState (TableOf S)) (now : Option (Stock (TableOf S))) (bs : List ℕ) (e e' : ShelfHistory) → AnsweredNotYet w now bs e e' → e'.held ≡ e.held
  refused_held w now [] e e' h = ap (λ (z : ShelfHistory). z.held) h
  refused_held w now (b ∷ bs) e e' h = refused_held w now bs (saw b h.0 e) e' h.3

  same_held : (w w' : WorkerState (TableOf S)) (e e' : ShelfHistory) → ((k : ℕ) → claimed_from (slot_at k w') ≡ claimed_from (slot_at k w)) → e'.held ≡ e.held → HeldBy w e → HeldBy w' e'
  same_held w w' e e' slots held owns b p h = slots b ∙ owns b p (subst (λ (l : List Claim). HasClaim b p l) held h)

  set_held : (w w' : WorkerState (TableOf S)) (e e' : ShelfHistory) (b : ℕ) (x : Slot (TableOf S)) → w'.slots ≡ set w.slots b x → claimed_from x ≡ claimed_from (slot_at b w) → e'.held ≡ e.held → HeldBy w e → HeldBy w' e'
  set_held w w' e e' b x slots from held owns = same_held w w' e e' (λ k. ap (λ (l : List (Slot (TableOf S))). claimed_from (get_or l k Away)) slots ∙ set_from w.slots b k x from) held owns

  like_held : (w w' : WorkerState (TableOf S)) (e e' : ShelfHistory) → w'.slots ≡ w.slots → e'.held ≡ e.held → HeldBy w e → HeldBy w' e'
  like_held w w' e e' slots held owns = same_held w w' e e' (λ k. ap (λ (l : List (Slot (TableOf S))). claimed_from (get_or l k Away)) slots) held owns

  -- a bucket that waits has no table
  waits_away : (j : Workload S) (r : BucketHash) (core b : ℕ) (v : ShelfHistory) (ended : Bool) (o : Slot (TableOf S)) (s : Stand) (fs : List Facts) → Lies j r core b v ended o s fs → ¬ (IsLeaving o) → fs ≢ [] → claimed_from o ≡ None
  waits_away j r core b v ended Away s fs lies stays some = refl
  waits_away j r core b v ended (Held t) s fs lies stays some = absurd (some lies.1)
  waits_away j r core b v ended (Leaving t) s fs lies stays some = absurd (stays tt)

  away_none : (o : Slot (TableOf S)) (place : ℕ) → ¬ (IsLeaving o) → ¬ (IsHeld o) → claimed_from o ≡ Some place → ⊥
  away_none Away place l k e = cc
  away_none (Held t) place l k e = k tt
  away_none (Leaving t) place l k e = l tt

  no_claims : (w : WorkerState (TableOf S)) (cs : List Claim) → ((b p : ℕ) → HasClaim b p cs → claimed_from (slot_at b w) ≡ Some p) → NoneLeaves w → NoneHeld w → cs ≡ []
  no_claims w [] owns leaves held = refl
  no_claims w (c ∷ cs) owns leaves held = absurd (away_none (slot_at c.bucket w) c.place (leaves c.bucket) (held c.bucket) (owns c.bucket c.place (inl (refl, refl))))

  -- where the worker has no table, its end holds no claim
  pub holds_nothing : (w : WorkerState (TableOf S)) (e : ShelfHistory) → HeldBy w e → NoneLeaves w → NoneHeld w → e.held ≡ []
  holds_nothing w e owns leaves held = no_claims w e.held owns leaves held

pub fresh_held : (S : Type 0) (core : ℕ) (run : BucketHash) (e : ShelfHistory) → e.held ≡ [] → HeldBy {S = S} (fresh_worker_state core run) e
fresh_held S core run e none b p h = absurd (subst (λ (l : List Claim). HasClaim b p l) none h)

module _ {S : Type 0} (j : Workload S) (s t : WorkerSnapshot (TableOf S)) where
  held_released : (b : ℕ) → HeldBy s.worker s.shelf → IsReleased b s t → HeldBy t.worker t.shelf
  held_released b owns r k p h =
      let w = s.worker in
      let held : HasClaim k p (without b s.shelf.held) = subst (λ (e : ShelfHistory). HasClaim k p e.held) r.does.shelf h in
      let left = HasClaim-without b k p s.shelf.held held in
      ap (λ (l : List (Slot (TableOf S))). claimed_from (get_or l k Away)) r.does.slots ∙ (ap claimed_from (get_or-set_other w.slots b k Away Away left.1) ∙ owns k p left.0)

  held_claimed : (b : ℕ) → Tied j s.worker s.lane s.shelf s.meter → HeldBy s.worker s.shelf → IsClaimed j b s t → HeldBy t.worker t.shelf
  held_claimed b tied owns r k p h =
      let w = s.worker in let d = r.does in let x = moved (either (has_mark (cells_at b w.lot)) w.took_end) d.table in
      let near : b < w.run.buckets = (let n = r.near in let c = tied.chains in omega arith) in
      let at : b < length w.slots = (let c = tied.slots in omega arith) in
      let was = tied.each b near in
      let away : claimed_from (slot_at b w) ≡ None = waits_away j w.run w.core b s.shelf w.took_end (slot_at b w) (stand_after _ was.over) (cells_at b w.lot) was.lies (r.none_leaves b) r.waits in
      let held = subst (λ (e : ShelfHistory). HasClaim k p e.held) r.shelf h in
      let here : claimed_from x ≡ Some (first_parked_place b w) = moved_from (either (has_mark (cells_at b w.lot)) w.took_end) d.table ∙ ap (λ (o : Option Begun). Some (from_of o)) d.custody_is in
      ap (λ (l : List (Slot (TableOf S))). claimed_from (get_or l k Away)) d.slots
      ∙ ⊎_elim (λ (q : (b ≡ k) × (first_parked_place b w ≡ p)). subst (λ i. claimed_from (get_or (set w.slots b x) i Away) ≡ Some p) q.0 (ap claimed_from (get_or-set_same w.slots b x Away at) ∙ (here ∙ ap Some q.1)))
      (λ (q : HasClaim k p r.history.held).
      let old = owns k p (subst (λ (l : List Claim). HasClaim k p l) (refused_held w s.shelf_now r.first.before s.shelf r.history r.first.refused) q) in
      dite (ℕ_discrete k b) (λ e. absurd (let z : None ≡ Some p = sym (ap (λ i. claimed_from (slot_at i w)) e ∙ away) ∙ old in cc)) (λ ne. ap claimed_from (get_or-set_other w.slots b k x Away ne) ∙ old)) held

  held_acts : (turn : WorkerTurn) (x : Seen) (e' : ShelfHistory) → e'.held ≡ s.shelf.held → HeldBy s.worker s.shelf → Acts j turn x s t → HeldBy t.worker e'
  held_acts Parked (Packet f) e' held owns a = like_held s.worker t.worker s.shelf e' a.0.slots held owns
  held_acts Worked (Packet f) e' held owns a = set_held s.worker t.worker s.shelf e' f.bucket (Held a.0.table) a.0.slots (ap (λ (o : Option Begun). Some (from_of o)) a.0.custody_is ∙ sym (ap claimed_from a.0.held)) held owns
  held_acts Marked (Packet f) e' held owns a = set_held s.worker t.worker s.shelf e' f.bucket (Leaving a.0.table) a.0.slots (sym (ap claimed_from a.0.held)) held owns
  held_acts EndTaken Close e' held owns a = same_held s.worker t.worker s.shelf e' (λ k. ap claimed_from (a.0.slots k) ∙ leave_from (slot_at k s.worker)) held owns
  held_acts (Released b) (Packet f) e' held owns a = absurd a
  held_acts (Claimed b) (Packet f) e' held owns a = absurd a
  held_acts EndTaken (Packet f) e' held owns a = absurd a
  held_acts Idle (Packet f) e' held owns a = absurd a
  held_acts Ended (Packet f) e' held owns a = absurd a
  held_acts (Released b) Close e' held owns a = absurd a
  held_acts (Claimed b) Close e' held owns a = absurd a
  held_acts Worked Close e' held owns a = absurd a
  held_acts Parked Close e' held owns a = absurd a
  held_acts Marked Close e' held owns a = absurd a
  held_acts Idle Close e' held owns a = absurd a
  held_acts Ended Close e' held owns a = absurd a

  held_takes : (turn : WorkerTurn) → HeldBy s.worker s.shelf → Takes j turn s t → HeldBy t.worker t.shelf
  held_takes turn owns k = held_acts turn k.item t.shelf (refused_held s.worker s.shelf_now s.worker.lot.waiting s.shelf t.shelf k.refused.0) owns k.acts

  pub keeps_held : (turn : WorkerTurn) → Tied j s.worker s.lane s.shelf s.meter → HeldBy s.worker s.shelf → IsTurn j s turn t → HeldBy t.worker t.shelf
  keeps_held (Released b) tied owns r = held_released b owns r
  keeps_held (Claimed b) tied owns r = held_claimed b tied owns r
  keeps_held Worked tied owns r = held_takes Worked owns r
  keeps_held Parked tied owns r = held_takes Parked owns r
  keeps_held Marked tied owns r = held_takes Marked owns r
  keeps_held EndTaken tied owns r = held_takes EndTaken owns r
  keeps_held Idle tied owns r = like_held s.worker t.worker s.shelf t.shelf r.rests.slots (refused_held s.worker s.shelf_now s.worker.lot.waiting s.shelf t.shelf r.refused.0) owns
  keeps_held Ended tied owns r = like_held s.worker t.worker s.shelf t.shelf r.rests.slots (refused_held s.worker s.shelf_now s.worker.lot.waiting s.shelf t.shelf r.refused.0) owns

  -- the log and what the end ended grow alike
  pub keeps_logged : (turn : WorkerTurn) → Logged s.worker s.shelf → IsTurn j s turn t → Logged t.worker t.shelf
  keeps_logged turn logged r fine =
      let h = turn_log j s t turn r fine in let es = ends_by turn s.worker in
      turn_ended j s t turn r ∙ (ap (λ (z : List Stretch). es ++ z) (logged h.was)
      ∙ sym (ap reverse h.log ∙ (reverse-append (map stretch_of s.worker.log) es ∙ ap (λ (z : List Stretch). z ++ reverse (map stretch_of s.worker.log)) (few_ends j s t turn))))

  -- after the last turn nothing is parked, held or leaving, and the end holds nothing
  pub over_held : HeldBy s.worker s.shelf → IsEnded s t → (t.worker.took_end ≡ true) × AllEmpty t.worker.lot × NoneLeaves t.worker × NoneHeld t.worker × (t.shelf.held ≡ [])
  over_held owns r =
      let leaves : NoneLeaves t.worker = subst (λ (l : List (Slot (TableOf S))). (b : ℕ) → ¬ (IsLeaving (get_or l b Away))) (sym r.rests.slots) r.none_leaves in
      let held : NoneHeld t.worker = subst (λ (l : List (Slot (TableOf S))). (b : ℕ) → ¬ (IsHeld (get_or l b Away))) (sym r.rests.slots) r.none_held in (
        r.rests.took_end ∙ r.took_end,
        subst AllEmpty (sym r.rests.lot) r.none_parked,
        leaves,
        held,
        refused_held s.worker s.shelf_now s.worker.lot.waiting s.shelf t.shelf r.refused.0 ∙ holds_nothing s.worker s.shelf owns r.none_leaves r.none_held,
      )

-- shares, core and run

module _ {S : Type 0} where
  refused_shares : (w : WorkerState (TableOf S)) (now : Option (Stock (TableOf S))) (bs : List ℕ) (e e' : ShelfHistory) → AnsweredNotYet w now bs e e' → e'.shares ≡ e.shares
  refused_shares w now [] e e' h = ap (λ (z : ShelfHistory). z.shares) h
  refused_shares w now (b ∷ bs) e e' h = refused_shares w now bs (saw b h.0 e) e' h.3

module _ {S : Type 0} (j : Workload S) (s t : WorkerSnapshot (TableOf S)) where
  pub keeps_shares : (turn : WorkerTurn) → IsTurn j s turn t → t.shelf.shares ≡ s.shelf.shares
  keeps_shares (Released b) r = ap (λ (e : ShelfHistory). e.shares) r.does.shelf
  keeps_shares (Claimed b) r = ap (λ (e : ShelfHistory). e.shares) r.shelf ∙ refused_shares s.worker s.shelf_now r.first.before s.shelf r.history r.first.refused
  keeps_shares Worked r = refused_shares s.worker s.shelf_now s.worker.lot.waiting s.shelf t.shelf r.refused.0
  keeps_shares Parked r = refused_shares s.worker s.shelf_now s.worker.lot.waiting s.shelf t.shelf r.refused.0
  keeps_shares Marked r = refused_shares s.worker s.shelf_now s.worker.lot.waiting s.shelf t.shelf r.refused.0
  keeps_shares EndTaken r = refused_shares s.worker s.shelf_now s.worker.lot.waiting s.shelf t.shelf r.refused.0
  keeps_shares Idle r = refused_shares s.worker s.shelf_now s.worker.lot.waiting s.shelf t.shelf r.refused.0
  keeps_shares Ended r = refused_shares s.worker s.shelf_now s.worker.lot.waiting s.shelf t.shelf r.refused.0

  same_acts : (turn : WorkerTurn) (x : Seen) → Acts j turn x s t → (t.worker.core ≡ s.worker.core) × (t.worker.run ≡ s.worker.run)
  same_acts Parked (Packet f) a = (a.0.same.core, a.0.same.run)
  same_acts Worked (Packet f) a = (a.0.same.core, a.0.same.run)
  same_acts Marked (Packet f) a = (a.0.same.core, a.0.same.run)
  same_acts EndTaken Close a = (a.0.same.core, a.0.same.run)
  same_acts (Released b) (Packet f) a = absurd a
  same_acts (Claimed b) (Packet f) a = absurd a
  same_acts EndTaken (Packet f) a = absurd a
  same_acts Idle (Packet f) a = absurd a
  same_acts Ended (Packet f) a = absurd a
  same_acts (Released b) Close a = absurd a
  same_acts (Claimed b) Close a = absurd a
  same_acts Worked Close a = absurd a
  same_acts Parked Close a = absurd a
  same_acts Marked Close a = absurd a
  same_acts Idle Close a = absurd a
  same_acts Ended Close a = absurd a

  pub keeps_core : (turn : WorkerTurn) → IsTurn j s turn t → (t.worker.core ≡ s.worker.core) × (t.worker.run ≡ s.worker.run)
  keeps_core (Released b) r = (r.does.same.core, r.does.same.run)
  keeps_core (Claimed b) r = (r.does.same.core, r.does.same.run)
  keeps_core Worked r = same_acts Worked r.item r.acts
  keeps_core Parked r = same_acts Parked r.item r.acts
  keeps_core Marked r = same_acts Marked r.item r.acts
  keeps_core EndTaken r = same_acts EndTaken r.item r.acts
  keeps_core Idle r = (r.rests.same.core, r.rests.same.run)
  keeps_core Ended r = (r.rests.same.core, r.rests.same.run)
