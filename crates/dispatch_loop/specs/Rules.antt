-- One turn of a dispatcher: the first rule that is due by what its ends answer, and what it does.
use Rattle.std.specs.Prelude.{◌≡◌, ◌≢◌, ℕ, Bool, true, false, List, [], ◌∷◌, ◌++◌, ◌⊎◌, Option, Some, None, Result, Ok, Err}
use Rattle.rss_base.specs.Faults.{Rose}
use Rattle.packet_fields.specs.declared.packet.PacketInfo.{PacketInfo}
use Rattle.pcap_reader.specs.declared.fault.ReadError.TheVariants.{ReadFault}
use Rattle.pcap_reader.specs.Reading.{Reading}
use Rattle.indirection.specs.declared.outcome.Outcome.{Outcome}
use Rattle.indirection.specs.Tries.{Ask, ask_bucket}
use Rattle.indirection.specs.Due.{RoundDue, TryDue, PacketDue}
use Rattle.packet_pool.specs.declared.cell.Facts.{Facts}
use Rattle.core_queue.specs.declared.history.LaneHistory.{LaneHistory}
use Rattle.core_queue.specs.declared.item.Seen.TheVariants.{Packet}
use Rattle.core_queue.specs.LaneHistory.{Lane, sent_on}
use Rattle.dispatch_loop.specs.Lanes.{changed_at}
use Rattle.handover_words.specs.declared.history.ShelfHistory.{ShelfHistory}
use Rattle.handover_words.specs.Stock.{Stock}
use Rattle.dispatch_loop.specs.declared.dispatcher_end.DispatcherEnd.{DispatcherEnd}
use Rattle.dispatch_loop.specs.declared.dispatcher_end.DispatcherEnd.TheVariants.{Refused}
use Rattle.dispatch_loop.specs.declared.dispatcher_turn.DispatcherTurn.{DispatcherTurn}
use Rattle.dispatch_loop.specs.declared.dispatcher_turn.DispatcherTurn.TheVariants.{Sent, Ordered, EndSent, NoCell, LaneFull, Finished}
use Rattle.dispatch_loop.specs.declared.dispatcher_turn.DispatcherTurn.TheVariants as answer
use Rattle.balancer.specs.Moves.{AreMoves}
use Rattle.load_meter.specs.declared.history.LoadHistory.{LoadHistory}
use Rattle.dispatch_loop.specs.Terms.{cores_of, buckets_of}
use Rattle.dispatch_loop.specs.DispatcherState.{DispatcherState}
use Rattle.dispatch_loop.specs.Asks.{due_now}
use Rattle.dispatch_loop.specs.DispatcherSnapshot.{Outs, DispatcherSnapshot}
use Rattle.dispatch_loop.specs.Does.{ReadsAll, loads_of, with_round, without_round, IsDecided, RestsOn, spare_after, IsTried, IsMoveLate, IsMoveHeldUp, IsSent, IsPacketLate, IsPacketHeldUp, IsEndSent, IsEndHeldUp}

-- parts of a snapshot that a rule leaves

abbrev pub SameShelf : {T : Type 0} → DispatcherSnapshot T → DispatcherSnapshot T → Type 0
SameShelf s t = (t.shelf ≡ s.shelf) × (t.shelf_now ≡ s.shelf_now)

abbrev pub SameMeter : {T : Type 0} → DispatcherSnapshot T → DispatcherSnapshot T → Type 0
SameMeter s t = (t.meter ≡ s.meter) × (t.meter_now ≡ s.meter_now)

abbrev pub SameReader : {T : Type 0} → DispatcherSnapshot T → DispatcherSnapshot T → Type 0
SameReader s t = (t.reader ≡ s.reader) × (t.left ≡ s.left) × (t.faults ≡ s.faults)

-- 1: a round is due, and is made or refused memory

pub record IsWeighed {T : Type 0} (s t : DispatcherSnapshot T) (after : List ℕ → DispatcherState) : Type 0 where
  pub due : due_now s.dispatcher ≡ RoundDue
  pub readings : List ℕ
  pub reads : ReadsAll (cores_of s.dispatcher.terms) readings s.meter s.meter_now t.meter t.meter_now
  pub dispatcher : t.dispatcher ≡ after readings
  pub outs : t.outs ≡ s.outs
  pub shelf : SameShelf s t
  pub reader : SameReader s t

abbrev pub IsRoundMade : {T : Type 0} → DispatcherSnapshot T → DispatcherSnapshot T → Type 0
IsRoundMade s t = IsWeighed s t (λ readings. with_round s.dispatcher (loads_of s.dispatcher readings))

abbrev pub IsRoundRefused : {T : Type 0} → DispatcherSnapshot T → DispatcherSnapshot T → Type 0
IsRoundRefused s t = IsWeighed s t (λ readings. without_round s.dispatcher)

-- the round that was due is made, or none is due any more: none was, or memory was refused to it
abbrev pub Rounded : Bool → DispatcherState → DispatcherState → LoadHistory → Option (List ℕ) → LoadHistory → Option (List ℕ) → Type 0
Rounded true f f' e n e' n' = (due_now f ≡ RoundDue) × ((readings : List ℕ) × ReadsAll (cores_of f.terms) readings e n e' n' × (f' ≡ with_round f (loads_of f readings)) × AreMoves (cores_of f.terms) (buckets_of f.terms) f'.proposals)
Rounded false f f' e n e' n' = ((due_now f ≢ RoundDue) × (f' ≡ f) × (e' ≡ e) × (n' ≡ n)) ⊎ ((due_now f ≡ RoundDue) × ((readings : List ℕ) × ReadsAll (cores_of f.terms) readings e n e' n' × (f' ≡ without_round f)))

-- no round is due, or memory was refused to it and none is due any more
abbrev pub Passes : {T : Type 0} → DispatcherSnapshot T → DispatcherSnapshot T → Type 0
Passes s m = ((due_now s.dispatcher ≢ RoundDue) × (m ≡ s)) ⊎ IsRoundRefused s m

-- 2: a proposal or an order is due, and is tried

abbrev pub Tries : {T : Type 0} → DispatcherTurn → Ask → DispatcherState → DispatcherState → Outs → ShelfHistory → Option (Stock T) → Outs → ShelfHistory → Option (Stock T) → Type 0
Tries Ordered a f f' o v n o' v' n' = IsTried a f f' o v n o' v' n'
Tries NoCell a f f' o v n o' v' n' = IsMoveLate a f f' o v n o' v' n'
Tries (LaneFull c) a f f' o v n o' v' n' = IsMoveHeldUp a c f f' o v n o' v' n'
Tries turn a f f' o v n o' v' n' = ⊥

-- what was asked is settled before it is noted: it has an outcome, which used up the kept cell where the bucket moved, or the turn ends
abbrev pub Settles : {T : Type 0} → Result Outcome DispatcherTurn → Ask → DispatcherState → DispatcherState → Outs → ShelfHistory → Option (Stock T) → Outs → ShelfHistory → Option (Stock T) → Type 0
Settles (Ok outcome) a f f' o v n o' v' n' = IsDecided f a outcome × RestsOn f (ask_bucket a) outcome o v n o' v' n' × (f' ≡ record f { spare = spare_after f.spare outcome })
Settles (Err NoCell) a f f' o v n o' v' n' = IsMoveLate a f f' o v n o' v' n'
Settles (Err (LaneFull c)) a f f' o v n o' v' n' = IsMoveHeldUp a c f f' o v n o' v' n'
Settles (Err turn) a f f' o v n o' v' n' = ⊥

pub record IsAsked {T : Type 0} (turn : DispatcherTurn) (s t : DispatcherSnapshot T) : Type 0 where
  pub ask : Ask
  pub due : due_now s.dispatcher ≡ TryDue ask
  pub tries : Tries turn ask s.dispatcher t.dispatcher s.outs s.shelf s.shelf_now t.outs t.shelf t.shelf_now
  pub meter : SameMeter s t
  pub reader : SameReader s t

-- 3: no round, proposal or order is due, and there is a packet

-- when a failed read may be blamed, by the counts of failed reads
abbrev pub BlamesRead : Option DispatcherEnd → ℕ → ℕ → Type 0
BlamesRead (Some (Refused ReadFault)) before now = Rose before now
BlamesRead end before now = now ≡ before

-- the next record is read, where no packet is held and the stream goes on
pub record ReadsNext (f f' : DispatcherState) (faults faults' : ℕ) : Type 0 where
  pub goes_on : f.end ≡ None
  pub none_held : f.held ≡ None
  pub held : Option PacketInfo
  pub end : Option DispatcherEnd
  pub dispatcher : f' ≡ record f { held = held; end = end }
  pub blames : BlamesRead end faults faults'

-- nothing is to be read: a packet is held, or the stream has ended
pub record HasRead (f f' : DispatcherState) (r r' : Reading) (left left' : Option (List ℕ)) (faults faults' : ℕ) : Type 0 where
  pub has : (f.held ≢ None) ⊎ (f.end ≢ None)
  pub dispatcher : f' ≡ f
  pub reader : r' ≡ r
  pub left_is : left' ≡ left
  pub faults_are : faults' ≡ faults

abbrev pub Fetched : DispatcherState → DispatcherState → Reading → Reading → Option (List ℕ) → Option (List ℕ) → ℕ → ℕ → Type 0
Fetched f f' r r' left left' n n' = ReadsNext f f' n n' ⊎ HasRead f f' r r' left left' n n'

pub record Fetches {T : Type 0} (s t : DispatcherSnapshot T) : Type 0 where
  pub due : due_now s.dispatcher ≡ PacketDue
  pub reads : Fetched s.dispatcher t.dispatcher s.reader t.reader s.left t.left s.faults t.faults
  pub outs : t.outs ≡ s.outs
  pub shelf : SameShelf s t
  pub meter : SameMeter s t

-- the held packet is sent, or stays held
abbrev pub SendsPacket : DispatcherTurn → PacketInfo → DispatcherState → DispatcherState → Outs → Outs → Type 0
SendsPacket Sent p f f' o o' = IsSent p f f' o o'
SendsPacket NoCell p f f' o o' = IsPacketLate f f' o o'
SendsPacket (LaneFull c) p f f' o o' = IsPacketHeldUp p c f f' o o'
SendsPacket turn p f f' o o' = ⊥

pub record IsPacketTurn {T : Type 0} (turn : DispatcherTurn) (p : PacketInfo) (s t : DispatcherSnapshot T) : Type 0 where
  pub held : s.dispatcher.held ≡ Some p
  pub sends : SendsPacket turn p s.dispatcher t.dispatcher s.outs t.outs
  pub shelf : SameShelf s t
  pub meter : SameMeter s t
  pub reader : SameReader s t

-- 4 and 5: the stream has ended; the next core gets its End, or each core got it

-- each core got its End
pub record IsFinished (end : DispatcherEnd) (f f' : DispatcherState) (l : List LaneHistory) (n : List (Option Lane)) (l' : List LaneHistory) (n' : List (Option Lane)) : Type 0 where
  pub ended : f.end ≡ Some end
  pub all : f.ends ≡ cores_of f.terms
  pub dispatcher : f' ≡ f
  pub lanes : l' ≡ l
  pub now : n' ≡ n

abbrev pub SendsEnd : DispatcherTurn → DispatcherState → DispatcherState → List LaneHistory → List (Option Lane) → List LaneHistory → List (Option Lane) → Type 0
SendsEnd EndSent f f' l n l' n' = IsEndSent f f' l n l' n'
SendsEnd (LaneFull c) f f' l n l' n' = IsEndHeldUp c f f' l n l' n'
SendsEnd (Finished end) f f' l n l' n' = IsFinished end f f' l n l' n'
SendsEnd turn f f' l n l' n' = ⊥

pub record IsEndTurn {T : Type 0} (turn : DispatcherTurn) (s t : DispatcherSnapshot T) : Type 0 where
  pub none_held : s.dispatcher.held ≡ None
  pub ended : s.dispatcher.end ≢ None
  pub sends : SendsEnd turn s.dispatcher t.dispatcher s.outs.lanes s.outs.lanes_now t.outs.lanes t.outs.lanes_now
  pub pool : (t.outs.pool ≡ s.outs.pool) × (t.outs.pool_now ≡ s.outs.pool_now)
  pub shelf : SameShelf s t
  pub meter : SameMeter s t
  pub reader : SameReader s t

-- behind a fetch: the packet, or the stream's end
abbrev pub IsNext : {T : Type 0} → DispatcherTurn → DispatcherSnapshot T → DispatcherSnapshot T → Type 0
IsNext turn s t = ((p : PacketInfo) × IsPacketTurn turn p s t) ⊎ IsEndTurn turn s t

-- what is due behind a round
abbrev pub Acts : {T : Type 0} → DispatcherTurn → DispatcherSnapshot T → DispatcherSnapshot T → Type 0
Acts {T} turn s t = IsAsked turn s t ⊎ ((m : DispatcherSnapshot T) × Fetches s m × IsNext turn m t)

-- words were met, and nothing else was done: no table was claimed, and none was put back
pub record OnlyMeets (e e' : ShelfHistory) : Type 0 where
  pub key : e'.key ≡ e.key
  pub buckets : e'.buckets ≡ e.buckets
  pub shares : e'.shares ≡ e.shares
  pub held : e'.held ≡ e.held
  pub ended : e'.ended ≡ e.ended

-- the first rule that is due, by what the ends answered, and what it does
abbrev pub IsTurn : {T : Type 0} → DispatcherSnapshot T → DispatcherTurn → DispatcherSnapshot T → Type 0
IsTurn {T} s answer.Round t = IsRoundMade s t
IsTurn {T} s turn t = (m : DispatcherSnapshot T) × Passes s m × Acts turn m t

-- the packet is what a core's lane was sent
abbrev pub IsPacketSent : PacketInfo → List LaneHistory → List LaneHistory → Type 0
IsPacketSent p l l' = (c : ℕ) × (f : Facts) × (f.info ≡ p) × (l' ≡ changed_at c (sent_on (Packet f)) l)

-- the packets that were sent after a turn: one more after Sent, which a lane carries
abbrev pub Grows : DispatcherTurn → List PacketInfo → List PacketInfo → List LaneHistory → List LaneHistory → Type 0
Grows Sent ps qs l l' = (p : PacketInfo) × (qs ≡ ps ++ p ∷ []) × IsPacketSent p l l'
Grows turn ps qs l l' = qs ≡ ps
