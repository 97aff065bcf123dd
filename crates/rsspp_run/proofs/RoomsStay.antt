-- A turn leaves the room of each lane, and of the pool.
use Rattle.std.proofs.Common.{zero, suc, ◌≡◌, ℕ, ◌<◌, Bool, true, false, List, [], ◌∷◌, length, map, get_or, set, Option, Some, None, refl, sym, ap, ◌∙◌, inl, inr, arith, length-set, get_or-set_same, get_or-set_other}
use mathlib.Core.Logic.{dite}
use native.Mathlib.Decide.{ℕ_discrete}
use Rattle.bucket_table.specs.Table.{TableOf}
use Rattle.packet_fields.specs.declared.packet.PacketInfo.{PacketInfo}
use Rattle.pcap_reader.specs.Reading.{Reading}
use Rattle.indirection.specs.declared.outcome.Outcome.{Outcome}
use Rattle.indirection.specs.declared.outcome.Outcome.TheVariants.{Moved, Placed, Same, InPassage}
use Rattle.indirection.specs.Tries.{Ask}
use Rattle.packet_pool.specs.PoolHistory.{Store}
use Rattle.packet_pool.specs.declared.history.PoolHistory.{PoolHistory}
use Rattle.core_queue.specs.declared.item.Seen.{Seen}
use Rattle.core_queue.specs.LaneHistory.{Lane}
use Rattle.core_queue.specs.Local.{LocalState, new_lane}
use Rattle.handover_words.specs.declared.history.ShelfHistory.{ShelfHistory}
use Rattle.handover_words.specs.Stock.{Stock}
use Rattle.worker_loop.specs.declared.worker_turn.WorkerTurn.{WorkerTurn}
use Rattle.worker_loop.specs.declared.worker_turn.WorkerTurn.TheVariants.{Released, Claimed, Worked, Parked, Marked, EndTaken, Idle, Ended}
use Rattle.worker_loop.specs.Workload.{Workload}
use Rattle.worker_loop.specs.WorkerSnapshot as workers_as
use Rattle.worker_loop.specs.Rules as work
use Rattle.worker_loop.specs.Rules.{TakesSeen, IsEmptyLane}
use Rattle.dispatch_loop.specs.declared.dispatcher_turn.DispatcherTurn.{DispatcherTurn}
use Rattle.dispatch_loop.specs.declared.dispatcher_turn.DispatcherTurn.TheVariants.{Sent, Round, Ordered, EndSent, NoCell, LaneFull, Finished}
use Rattle.dispatch_loop.specs.DispatcherState.{DispatcherState}
use Rattle.dispatch_loop.specs.Lanes.{PutsAt}
use Rattle.dispatch_loop.specs.Does.{GetsCell, LacksCell, RestsOn}
use Rattle.dispatch_loop.specs.DispatcherSnapshot as dispatchers
use Rattle.dispatch_loop.specs.DispatcherSnapshot.{Outs}
use Rattle.dispatch_loop.specs.Rules as turns
use Rattle.dispatch_loop.specs.Rules.{IsAsked, IsNext, IsPacketTurn, IsEndTurn, Fetches, Passes, Acts, SendsPacket, SendsEnd}
use Rattle.rsspp_run.specs.Serial.{RunState}
use Rattle.rsspp_run.specs.LocalRun.{LocalRunView, now_of, lane_at, worker_snapshot_at, over, AreWorkersAt, IsWorkerTurn}
use Rattle.rsspp_run.specs.DispatcherOf.{dispatcher_snapshot_over}
use Rattle.rsspp_run.specs.At.{HaveRoom}

-- the rooms of lanes, and of a pool
abbrev rooms_of : List (Option Lane) → List ℕ
rooms_of [] = []
rooms_of (None ∷ ls) = 0 ∷ rooms_of ls
rooms_of (Some l ∷ ls) = l.room ∷ rooms_of ls

abbrev room_in : Option Store → ℕ
room_in None = 0
room_in (Some s) = s.room

put_rooms : (k : ℕ) (x : Seen) (n n' : List (Option Lane)) → PutsAt k x n n' → rooms_of n' ≡ rooms_of n
put_rooms k x [] n' h = ap rooms_of h
put_rooms zero x (None ∷ n) n' h = ap rooms_of h
put_rooms zero x (Some l ∷ n) n' h = ap rooms_of h.1
put_rooms (suc k) x (l ∷ n) [] h = absurd h
put_rooms (suc k) x (None ∷ n) (l' ∷ n') h = ap (λ (z : Option Lane). rooms_of (z ∷ n')) h.0 ∙ ap (λ (z : List ℕ). 0 ∷ z) (put_rooms k x n n' h.1)
put_rooms (suc k) x (Some l ∷ n) (l' ∷ n') h = ap (λ (z : Option Lane). rooms_of (z ∷ n')) h.0 ∙ ap (λ (z : List ℕ). l.room ∷ z) (put_rooms k x n n' h.1)

gets_room : (b : Bool) (e e' : PoolHistory) (n n' : Option Store) → GetsCell b e n e' n' → room_in n' ≡ room_in n
gets_room true e e' n n' h = ap room_in h.1
gets_room false e e' None n' h = ap room_in h.1
gets_room false e e' (Some s) n' h = ap room_in h.2

lacks_room : (b : Bool) (e e' : PoolHistory) (n n' : Option Store) → LacksCell b e n e' n' → room_in n' ≡ room_in n
lacks_room true e e' n n' h = absurd h
lacks_room false e e' None n' h = ap room_in h.1
lacks_room false e e' (Some s) n' h = ap room_in h.2

-- the rooms of what cells go through stay
pub record SameRooms (o o' : Outs) : Type 0 where
  pub lanes : rooms_of o'.lanes_now ≡ rooms_of o.lanes_now
  pub pool : room_in o'.pool_now ≡ room_in o.pool_now

same_outs : (o o' : Outs) → o' ≡ o → SameRooms o o'
same_outs o o' e = record { lanes = ap (λ (z : Outs). rooms_of z.lanes_now) e; pool = ap (λ (z : Outs). room_in z.pool_now) e }

then_rooms : (o p q : Outs) → SameRooms o p → SameRooms p q → SameRooms o q
then_rooms o p q h k = record { lanes = k.lanes ∙ h.lanes; pool = k.pool ∙ h.pool }

rests_rooms : {T : Type 0} (f : DispatcherState) (b : ℕ) (r : Outcome) (o o' : Outs) (v v' : ShelfHistory) (n n' : Option (Stock T)) → RestsOn f b r o v n o' v' n' → SameRooms o o'
rests_rooms f b (Moved tail) o o' v v' n n' h = record { lanes = put_rooms _ _ o.lanes_now o'.lanes_now h.1.pushes.1; pool = gets_room f.spare o.pool o'.pool o.pool_now o'.pool_now h.1.cell }
rests_rooms f b (InPassage tail sent (Some word)) o o' v v' n n' h = same_outs o o' h.1
rests_rooms f b (InPassage tail sent None) o o' v v' n n' h = same_outs o o' h.0
rests_rooms f b Placed o o' v v' n n' h = same_outs o o' h.0
rests_rooms f b Same o o' v v' n n' h = same_outs o o' h.0

tries_rooms : {T : Type 0} (turn : DispatcherTurn) (a : Ask) (f f' : DispatcherState) (o o' : Outs) (v v' : ShelfHistory) (n n' : Option (Stock T)) → turns.Tries turn a f f' o v n o' v' n' → SameRooms o o'
tries_rooms Ordered a f f' o o' v v' n n' h = rests_rooms f _ h.outcome o o' v v' n n' h.rests
tries_rooms NoCell a f f' o o' v v' n n' h = record { lanes = ap rooms_of h.none.now; pool = lacks_room f.spare o.pool o'.pool o.pool_now o'.pool_now h.none.cell }
tries_rooms (LaneFull c) a f f' o o' v v' n n' h = record { lanes = ap rooms_of h.full.full.2; pool = gets_room f.spare o.pool o'.pool o.pool_now o'.pool_now h.full.cell }
tries_rooms Sent a f f' o o' v v' n n' h = absurd h
tries_rooms Round a f f' o o' v v' n n' h = absurd h
tries_rooms EndSent a f f' o o' v v' n n' h = absurd h
tries_rooms (Finished e) a f f' o o' v v' n n' h = absurd h

packet_rooms : (turn : DispatcherTurn) (p : PacketInfo) (f f' : DispatcherState) (o o' : Outs) → SendsPacket turn p f f' o o' → SameRooms o o'
packet_rooms Sent p f f' o o' h = record { lanes = put_rooms _ _ o.lanes_now o'.lanes_now h.sends.pushes.1; pool = gets_room f.spare o.pool o'.pool o.pool_now o'.pool_now h.sends.cell }
packet_rooms NoCell p f f' o o' h = record { lanes = ap rooms_of h.none.now; pool = lacks_room f.spare o.pool o'.pool o.pool_now o'.pool_now h.none.cell }
packet_rooms (LaneFull c) p f f' o o' h = record { lanes = ap rooms_of h.full.full.2; pool = gets_room f.spare o.pool o'.pool o.pool_now o'.pool_now h.full.cell }
packet_rooms Ordered p f f' o o' h = absurd h
packet_rooms Round p f f' o o' h = absurd h
packet_rooms EndSent p f f' o o' h = absurd h
packet_rooms (Finished e) p f f' o o' h = absurd h

end_rooms : {T : Type 0} (turn : DispatcherTurn) (s t : dispatchers.DispatcherSnapshot T) → IsEndTurn turn s t → SameRooms s.outs t.outs
end_rooms turn s t h = record { lanes = by turn h.sends; pool = ap room_in h.pool.1 } where
  by : (turn : DispatcherTurn) → SendsEnd turn s.dispatcher t.dispatcher s.outs.lanes s.outs.lanes_now t.outs.lanes t.outs.lanes_now → rooms_of t.outs.lanes_now ≡ rooms_of s.outs.lanes_now
  by EndSent k = put_rooms _ _ s.outs.lanes_now t.outs.lanes_now k.pushes.1
  by (LaneFull c) k = ap rooms_of k.full.2
  by (Finished e) k = ap rooms_of k.now
  by Sent k = absurd k
  by NoCell k = absurd k
  by Round k = absurd k
  by Ordered k = absurd k

acts_rooms : {T : Type 0} (turn : DispatcherTurn) (s t : dispatchers.DispatcherSnapshot T) → Acts turn s t → SameRooms s.outs t.outs
acts_rooms turn s t (inl k) = tries_rooms turn k.ask s.dispatcher t.dispatcher s.outs t.outs s.shelf t.shelf s.shelf_now t.shelf_now k.tries
acts_rooms turn s t (inr (m, fetch, inl k)) = then_rooms s.outs m.outs t.outs (same_outs s.outs m.outs fetch.outs) (packet_rooms turn k.0 m.dispatcher t.dispatcher m.outs t.outs k.1.sends)
acts_rooms turn s t (inr (m, fetch, inr k)) = then_rooms s.outs m.outs t.outs (same_outs s.outs m.outs fetch.outs) (end_rooms turn m t k)

passes_rooms : {T : Type 0} (s m : dispatchers.DispatcherSnapshot T) → Passes s m → SameRooms s.outs m.outs
passes_rooms {T} s m (inl k) = same_outs s.outs m.outs (ap (λ (z : dispatchers.DispatcherSnapshot T). z.outs) k.1)
passes_rooms s m (inr k) = same_outs s.outs m.outs k.outs

pub turn_rooms : {T : Type 0} (s t : dispatchers.DispatcherSnapshot T) (turn : DispatcherTurn) → turns.IsTurn s turn t → SameRooms s.outs t.outs
turn_rooms s t Round h = same_outs s.outs t.outs h.outs
turn_rooms s t Sent h = then_rooms s.outs h.0.outs t.outs (passes_rooms s h.0 h.1) (acts_rooms Sent h.0 t h.2)
turn_rooms s t Ordered h = then_rooms s.outs h.0.outs t.outs (passes_rooms s h.0 h.1) (acts_rooms Ordered h.0 t h.2)
turn_rooms s t EndSent h = then_rooms s.outs h.0.outs t.outs (passes_rooms s h.0 h.1) (acts_rooms EndSent h.0 t h.2)
turn_rooms s t NoCell h = then_rooms s.outs h.0.outs t.outs (passes_rooms s h.0 h.1) (acts_rooms NoCell h.0 t h.2)
turn_rooms s t (LaneFull c) h = then_rooms s.outs h.0.outs t.outs (passes_rooms s h.0 h.1) (acts_rooms (LaneFull c) h.0 t h.2)
turn_rooms s t (Finished e) h = then_rooms s.outs h.0.outs t.outs (passes_rooms s h.0 h.1) (acts_rooms (Finished e) h.0 t h.2)

-- in the local run

abbrev room_of : LocalState → ℕ
room_of l = l.room

rooms_map : (ls : List LocalState) → rooms_of (map now_of ls) ≡ map room_of ls
rooms_map [] = refl
rooms_map (l ∷ ls) = ap (λ (z : List ℕ). l.room ∷ z) (rooms_map ls)

room_get : (ls : List LocalState) (c : ℕ) (z : LocalState) → c < length ls → (get_or ls c z).room ≡ get_or (map room_of ls) c 0
room_get [] c z lt = absurd (omega arith)
room_get (l ∷ ls) zero z lt = refl
room_get (l ∷ ls) (suc c) z lt = room_get ls c z (omega arith)

wide_by : (ls ls' : List LocalState) → map room_of ls' ≡ map room_of ls → length ls' ≡ length ls
wide_by [] [] e = refl
wide_by [] (l' ∷ ls') e = absurd (cc)
wide_by (l ∷ ls) [] e = absurd (cc)
wide_by (l ∷ ls) (l' ∷ ls') e = ap suc (wide_by ls ls' (ap (λ (z : List ℕ). Rattle.dispatch_loop.specs.Asks.rest_of z) e))

-- the room of each lane stays, and that of the pool
pub record KeepRooms {T : Type 0} (f f' : LocalRunView T) : Type 0 where
  pub wide : length f'.lanes ≡ length f.lanes
  pub lanes : (c : ℕ) → c < length f.lanes → (lane_at f' c).room ≡ (lane_at f c).room
  pub pool : f'.pool.room ≡ f.pool.room

-- a turn of the dispatcher
pub dispatcher_keeps : {T : Type 0} (d d' : DispatcherState) (f f' : LocalRunView T) (reader reader' : Reading) (left left' : Option (List ℕ)) (faults faults' : ℕ) (turn : DispatcherTurn) → turns.IsTurn (dispatcher_snapshot_over d f reader left faults) turn (dispatcher_snapshot_over d' f' reader' left' faults') → KeepRooms f f'
dispatcher_keeps d d' f f' reader reader' left left' faults faults' turn h =
    let k = turn_rooms (dispatcher_snapshot_over d f reader left faults) (dispatcher_snapshot_over d' f' reader' left' faults') turn h in
    let all : map room_of f'.lanes ≡ map room_of f.lanes = sym (rooms_map f'.lanes) ∙ (k.lanes ∙ rooms_map f.lanes) in
    let wide : length f'.lanes ≡ length f.lanes = wide_by f.lanes f'.lanes all in
    record {
      wide = wide;
      lanes = λ c lt. room_get f'.lanes c (new_lane f'.key 0 0) (omega arith) ∙ (ap (λ (z : List ℕ). get_or z c 0) all ∙ sym (room_get f.lanes c (new_lane f.key 0 0) lt));
      pool = k.pool;
    }

-- a turn of a worker
abbrev room_or : Option Lane → ℕ
room_or None = 0
room_or (Some l) = l.room

worker_room : {S : Type 0} (x : Workload S) (s t : workers_as.WorkerSnapshot (TableOf S)) (turn : WorkerTurn) → work.IsTurn x s turn t → room_or t.lane_now ≡ room_or s.lane_now
worker_room {S} x s t turn h = by turn h where
  taken : (n n' : Option Lane) (item : Seen) → TakesSeen n item n' → room_or n' ≡ room_or n
  taken None n' item k = ap room_or k
  taken (Some l) n' item k = ap room_or k.2

  empty : (n n' : Option Lane) → IsEmptyLane n n' → room_or n' ≡ room_or n
  empty None n' k = ap room_or k
  empty (Some l) n' k = ap room_or k.1

  by : (turn : WorkerTurn) → work.IsTurn x s turn t → room_or t.lane_now ≡ room_or s.lane_now
  by (Released b) k = ap room_or k.lane.1
  by (Claimed b) k = ap room_or k.lane.1
  by Ended k = ap room_or k.lane.1
  by Parked k = taken s.lane_now t.lane_now k.item k.lane_now
  by Worked k = taken s.lane_now t.lane_now k.item k.lane_now
  by Marked k = taken s.lane_now t.lane_now k.item k.lane_now
  by EndTaken k = taken s.lane_now t.lane_now k.item k.lane_now
  by Idle k = idle k.idles where
    idle : work.Idles s t → room_or t.lane_now ≡ room_or s.lane_now
    idle (inl z) = ap room_or z.2.1
    idle (inr z) = empty s.lane_now t.lane_now z.2

pub worker_keeps : {S : Type 0} (x : Workload S) (c : ℕ) (turn : WorkerTurn) (f f' : LocalRunView (TableOf S)) → c < length f.lanes → IsWorkerTurn x c turn f f' → KeepRooms f f'
worker_keeps x c turn f f' near h = record {
  wide = ap length h.lanes ∙ length-set f.lanes c h.lane;
  lanes = λ d lt. (λ i. (get_or (h.lanes i) d (new_lane (h.key i) 0 0)).room) ∙ dite (ℕ_discrete d c)
      (λ e. ap (λ k. (get_or (set f.lanes c h.lane) k (new_lane f.key 0 0)).room) e ∙ (ap room_of (get_or-set_same f.lanes c h.lane (new_lane f.key 0 0) near) ∙ (worker_room x (worker_snapshot_at f c) (over h.worker h.lane f'.shelf f'.meter) turn h.rule ∙ ap (λ k. (lane_at f k).room) (sym e))))
      (λ ne. ap room_of (get_or-set_other f.lanes c d h.lane (new_lane f.key 0 0) ne));
  pool = ap room_in h.now;
}

-- so there is room behind each turn
pub rooms_then : {S : Type 0} (x : Workload S) (r r' : RunState) (f f' : LocalRunView (TableOf S)) → AreWorkersAt x r f → AreWorkersAt x r' f' → KeepRooms f f' → HaveRoom r f → HaveRoom r' f'
rooms_then x r r' f f' are are' keep rooms = λ c near.
    let w = are.lanes in let w' = are'.lanes in let wide = keep.wide in let p = are.room in let p' = are'.room in let q = keep.pool in
    let l = keep.lanes c (omega arith) in let h = rooms c (omega arith) in omega arith
