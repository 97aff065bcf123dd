-- What a turn of a dispatcher adds to the story of its run, by the rule that it did.
use Rattle.std.specs.Prelude.{◌≡◌, ℕ, List, [], ◌∷◌, ◌++◌, Option}
use Rattle.std.proofs.Common.{inl, inr}
use Rattle.packet_fields.specs.declared.packet.PacketInfo.{PacketInfo}
use Rattle.indirection.specs.Tries.{Ask}
use Rattle.indirection.specs.Story as story
use Rattle.indirection.specs.Story.{RoundHead, Step, Rounds, Sends}
use Rattle.handover_words.specs.declared.history.ShelfHistory.{ShelfHistory}
use Rattle.handover_words.specs.Stock.{Stock}
use Rattle.dispatch_loop.specs.declared.dispatcher_turn.DispatcherTurn.{DispatcherTurn}
use Rattle.dispatch_loop.specs.declared.dispatcher_turn.DispatcherTurn.TheVariants.{Sent, Round, Ordered, EndSent, NoCell, LaneFull, Finished}
use Rattle.dispatch_loop.specs.Terms.{Terms}
use Rattle.dispatch_loop.specs.DispatcherState.{DispatcherState}
use Rattle.dispatch_loop.specs.Past.{Past, parcel_of, story}
use Rattle.dispatch_loop.specs.DispatcherSnapshot.{Outs, DispatcherSnapshot}
use Rattle.dispatch_loop.specs.Does.{loads_of, proposed_for}
use Rattle.dispatch_loop.specs.Rules.{IsTurn, Acts, IsNext, Tries, Grows}
use Rattle.dispatch_loop.specs.Tied.{TiedIn}

-- the round of a dispatcher by these readings
abbrev pub round_by : DispatcherState → List ℕ → RoundHead
round_by f readings = record { at = f.sent; loads = loads_of f readings; proposals = proposed_for f (loads_of f readings) }

-- a try with its outcome, or none where the move lacks a cell
abbrev pub tried_steps : {T : Type 0} → (turn : DispatcherTurn) → (a : Ask) → (f f' : DispatcherState) → (o : Outs) → (v : ShelfHistory) → (n : Option (Stock T)) → (o' : Outs) → (v' : ShelfHistory) → (n' : Option (Stock T)) → Tries turn a f f' o v n o' v' n' → List Step
tried_steps Ordered a f f' o v n o' v' n' h = story.Tries a h.outcome ∷ []
tried_steps NoCell a f f' o v n o' v' n' h = []
tried_steps (LaneFull c) a f f' o v n o' v' n' h = []
tried_steps Sent a f f' o v n o' v' n' h = []
tried_steps Round a f f' o v n o' v' n' h = []
tried_steps EndSent a f f' o v n o' v' n' h = []
tried_steps (Finished e) a f f' o v n o' v' n' h = []

-- a packet that is sent
abbrev pub packet_steps : DispatcherTurn → Terms → PacketInfo → List Step
packet_steps Sent t p = Sends (parcel_of t p) ∷ []
packet_steps NoCell t p = []
packet_steps (LaneFull c) t p = []
packet_steps Round t p = []
packet_steps Ordered t p = []
packet_steps EndSent t p = []
packet_steps (Finished e) t p = []

abbrev pub next_steps : {T : Type 0} → (turn : DispatcherTurn) → (m t : DispatcherSnapshot T) → IsNext turn m t → List Step
next_steps turn m t (inl k) = packet_steps turn m.dispatcher.terms k.0
next_steps turn m t (inr k) = []

abbrev pub act_steps : {T : Type 0} → (turn : DispatcherTurn) → (m t : DispatcherSnapshot T) → Acts turn m t → List Step
act_steps turn m t (inl k) = tried_steps turn k.ask m.dispatcher t.dispatcher m.outs m.shelf m.shelf_now t.outs t.shelf t.shelf_now k.tries
act_steps turn m t (inr k) = next_steps turn k.0 t k.2

-- the steps of a turn: its round, the try or the packet, or none
abbrev pub turn_steps : {T : Type 0} → (s : DispatcherSnapshot T) → (turn : DispatcherTurn) → (t : DispatcherSnapshot T) → IsTurn s turn t → List Step
turn_steps s Round t h = Rounds (round_by s.dispatcher h.readings) ∷ []
turn_steps s Sent t h = act_steps Sent h.0 t h.2
turn_steps s Ordered t h = act_steps Ordered h.0 t h.2
turn_steps s EndSent t h = act_steps EndSent h.0 t h.2
turn_steps s NoCell t h = act_steps NoCell h.0 t h.2
turn_steps s (LaneFull c) t h = act_steps (LaneFull c) h.0 t h.2
turn_steps s (Finished e) t h = act_steps (Finished e) h.0 t h.2

-- whatever was read and sent before, so that all was tied: behind the turn the story goes on with the steps of its rule
abbrev pub TellsOn : {T : Type 0} → Option (List PacketInfo) → DispatcherTurn → DispatcherSnapshot T → DispatcherSnapshot T → Type 0
TellsOn packets turn s t = (p : Past) → TiedIn packets p s → (ps : List PacketInfo) → Grows turn p.packets ps s.outs.lanes t.outs.lanes → (rule : IsTurn s turn t)
    → story t.dispatcher ps ≡ story s.dispatcher p.packets ++ turn_steps s turn t rule

-- the packet that a turn sent, by its rule

abbrev pub next_packets : {T : Type 0} → (m t : DispatcherSnapshot T) → IsNext Sent m t → List PacketInfo
next_packets m t (inl k) = k.0 ∷ []
next_packets m t (inr k) = []

abbrev pub act_packets : {T : Type 0} → (m t : DispatcherSnapshot T) → Acts Sent m t → List PacketInfo
act_packets m t (inl k) = []
act_packets m t (inr k) = next_packets k.0 t k.2

-- after Sent the packet that was held, and none after any other turn
abbrev pub turn_packets : {T : Type 0} → (s : DispatcherSnapshot T) → (turn : DispatcherTurn) → (t : DispatcherSnapshot T) → IsTurn s turn t → List PacketInfo
turn_packets s Sent t h = act_packets h.0 t h.2
turn_packets s Round t h = []
turn_packets s Ordered t h = []
turn_packets s EndSent t h = []
turn_packets s NoCell t h = []
turn_packets s (LaneFull c) t h = []
turn_packets s (Finished e) t h = []

-- whatever was read and sent before, so that all was tied: the packets that were sent after the turn are those before it and the one of its rule
abbrev pub SendsOn : {T : Type 0} → Option (List PacketInfo) → DispatcherTurn → DispatcherSnapshot T → DispatcherSnapshot T → Type 0
SendsOn packets turn s t = (p : Past) → TiedIn packets p s → (ps : List PacketInfo) → Grows turn p.packets ps s.outs.lanes t.outs.lanes → (rule : IsTurn s turn t)
    → ps ≡ p.packets ++ turn_packets s turn t rule
