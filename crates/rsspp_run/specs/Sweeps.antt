-- The sweeps of a serial run in code, and how far they can go.
use Rattle.std.specs.Prelude.{◌≡◌, ◌≢◌, ℕ, ◌+◌, ◌-◌, ◌*◌, ◌<◌, ◌≤◌, ◌⊎◌, List, map, length, Bool, true, false, IsTrue, Option, Some, None}
use Rattle.packet_fields.specs.declared.packet.PacketInfo.{PacketInfo}
use Rattle.pcap_reader.specs.Reading.{Reading}
use Rattle.indirection.specs.Due.{Due}
use Rattle.bucket_table.specs.Table.{TableOf}
use Rattle.handover_core.specs.declared.event.Event.TheVariants.{Look}
use Rattle.handover_core.specs.Machine.{step, steps_left}
use Rattle.handover_core.specs.Promises.{IsFinished}
use Rattle.worker_loop.specs.Workload.{Workload}
use Rattle.worker_loop.specs.Schedule.{event_due}
use Rattle.worker_loop.specs.Promises.{IsOver}
use Rattle.dispatch_loop.specs.declared.dispatcher_end.DispatcherEnd.{DispatcherEnd}
use Rattle.dispatch_loop.specs.declared.dispatcher_turn.DispatcherTurn.{DispatcherTurn}
use Rattle.dispatch_loop.specs.declared.dispatcher_turn.DispatcherTurn.TheVariants.{Finished}
use Rattle.worker_loop.specs.declared.worker_turn.WorkerTurn.{WorkerTurn}
use Rattle.worker_loop.specs.declared.worker_turn.WorkerTurn.TheVariants.{Ended}
use Rattle.dispatch_loop.specs.Terms.{Terms, cores_of, rules_of}
use Rattle.dispatch_loop.specs.DispatcherState.{DispatcherState}
use Rattle.dispatch_loop.specs.Asks.{is_round_due}
use Rattle.dispatch_loop.specs.Past.{past, parcels, story}
use Rattle.dispatch_loop.specs.Tied.{Tied}
use Rattle.rsspp_run.specs.declared.limits.TheConstants.{MOST_SWEEPS}
use Rattle.rsspp_run.specs.Serial.{Setting, RunState, side_at, deed_due, party, number_after, turns, sweeps}
use Rattle.rsspp_run.specs.Lines.{weight}
use Rattle.rsspp_run.specs.LocalRun.{LocalRunView, history_of, worker_at}
use Rattle.rsspp_run.specs.At.{IsAt, HaveRoom}
use Rattle.rsspp_run.specs.Goes.{HasPacketsLeft, IsRunOf}

-- the setting of a run with these packets
abbrev pub setting_of : Terms → ℕ → List PacketInfo → Setting
setting_of t pool xs = record { rules = rules_of t; pool = pool; parcels = parcels t xs }

abbrev pub one_if : Bool → ℕ
one_if true = 1
one_if false = 0

-- how many rounds and tries of a dispatcher are left at most: what is to be tried, and for each packet that may come, and for a round that is due, one round with its sixteen proposals, and the packet itself
abbrev pub to_try : DispatcherState → ℕ
to_try d = length d.orders + length d.proposals + (18 * (d.terms.packets - d.sent) + 17 * one_if (is_round_due d))

-- how much is left of a run at most
abbrev pub to_do : RunState → DispatcherState → ℕ
to_do r d = steps_left r.machine + to_try d

-- workers and dispatcher stand as the run of these packets says, a packet costs them the same, and the run's steps are the dispatcher's story, unless it is short of memory
pub record IsRunBy {S : Type 0} (x : Workload S) (xs sent : List PacketInfo) (j : Setting) (r : RunState) (d : DispatcherState) (f : LocalRunView (TableOf S)) : Type 0 where
  pub at : IsAt x r d f
  pub rooms : HaveRoom r f
  pub is_of : IsRunOf xs j r d.terms
  pub cost : x.cost ≡ d.terms.cost
  pub told : d.short ≡ false → r.steps ≡ story d sent

-- so the run stands after k sweeps
pub record StandsAfter {S : Type 0} (x : Workload S) (t : Terms) (pool number k : ℕ) (xs sent : List PacketInfo) (d : DispatcherState) (f : LocalRunView (TableOf S)) : Type 0 where
  pub state : RunState
  pub by : IsRunBy x xs sent (setting_of t pool xs) state d f
  pub is : d.short ≡ false → state ≡ sweeps (setting_of t pool xs) number k
  pub few : k + to_do state d < MOST_SWEEPS

-- the dispatcher is tied to the packets that it sent
pub record IsTiedTo {T : Type 0} (packets : Option (List PacketInfo)) (t : Terms) (bytes : Option (List ℕ)) (sent : List PacketInfo) (d : DispatcherState) (f : LocalRunView T) (reader : Reading) (left : Option (List ℕ)) : Type 0 where
  pub terms : d.terms ≡ t
  pub tied : Tied packets (past bytes sent) d (map history_of f.lanes) f.shelf.history f.meter.history reader left

-- what a party's turn tells of its end
abbrev pub finish_of : DispatcherTurn → Option DispatcherEnd
finish_of (Finished e) = Some e
finish_of turn = None

abbrev pub is_ended : WorkerTurn → Bool
is_ended Ended = true
is_ended turn = false

-- how the stream ended, where all parties had finished
abbrev pub finished_in : Bool → Option DispatcherEnd → Option DispatcherEnd
finished_in true end = end
finished_in false end = None

-- between two sweeps: whatever packets the run goes on with, it stands after k sweeps
pub record IsSweeping {S : Type 0} (packets : Option (List PacketInfo)) (x : Workload S) (t : Terms) (pool number k : ℕ) (bytes : Option (List ℕ)) (d : DispatcherState) (f : LocalRunView (TableOf S)) (reader : Reading) (left : Option (List ℕ)) : Type 0 where
  pub sent : List PacketInfo
  pub tied : IsTiedTo packets t bytes sent d f reader left
  pub runs : (xs : List PacketInfo) → HasPacketsLeft xs sent d → length xs ≤ t.packets → StandsAfter x t pool number k xs sent d f

-- nothing was done in the first i turns of a sweep: each party of these rests
pub record IsCalm (j : Setting) (x i : ℕ) (r q : RunState) (over : Bool) (end : Option DispatcherEnd) : Type 0 where
  pub before : ((n : ℕ) → n < i → party j.rules.cores x n ≢ 0) → q ≡ r
  pub looked : (q ≡ r) ⊎ ((b : ℕ) × (q ≡ record { machine = step r.machine (Look b); sides = r.sides; steps = r.steps }))
  pub workers : (n c : ℕ) → n < i → party j.rules.cores x n ≡ c + 1 → event_due r.machine c (side_at r c).line ≡ None
  pub dispatcher : (n : ℕ) → n < i → party j.rules.cores x n ≡ 0 → (due : Due) × (weight (deed_due j r due) ≡ 0)
  pub is_over : IsFinished r.machine → over ≡ true
  pub has_end : (n : ℕ) → n < i → party j.rules.cores x n ≡ 0 → IsFinished r.machine → end ≢ None

-- so the run stands in a sweep, which it began in another state: something was done, or nothing was to be done
pub record StandsIn {S : Type 0} (x : Workload S) (t : Terms) (pool number k i : ℕ) (xs sent : List PacketInfo) (over : Bool) (end : Option DispatcherEnd) (d : DispatcherState) (f : LocalRunView (TableOf S)) : Type 0 where
  pub begun : RunState
  pub dispatcher : DispatcherState
  pub local : LocalRunView (TableOf S)
  pub first : List PacketInfo
  pub stood : IsRunBy x xs first (setting_of t pool xs) begun dispatcher local
  pub few : k + to_do begun dispatcher < MOST_SWEEPS
  pub was : d.short ≡ false → begun ≡ sweeps (setting_of t pool xs) number k
  pub state : RunState
  pub by : IsRunBy x xs sent (setting_of t pool xs) state d f
  pub is : d.short ≡ false → state ≡ turns (setting_of t pool xs) (number_after k number) i begun
  pub no_more : to_do state d ≤ to_do begun dispatcher
  pub gains : (to_do state d + 1 ≤ to_do begun dispatcher) ⊎ IsCalm (setting_of t pool xs) (number_after k number) i begun state over end

-- in a sweep, after i turns: `over` tells whether each worker of these was over, and `end` how the stream ended, if the dispatcher had finished
pub record IsInSweep {S : Type 0} (packets : Option (List PacketInfo)) (x : Workload S) (t : Terms) (pool number k i : ℕ) (bytes : Option (List ℕ)) (over : Bool) (end : Option DispatcherEnd) (d : DispatcherState) (f : LocalRunView (TableOf S)) (reader : Reading) (left : Option (List ℕ)) : Type 0 where
  pub sent : List PacketInfo
  pub tied : IsTiedTo packets t bytes sent d f reader left
  pub runs : (xs : List PacketInfo) → HasPacketsLeft xs sent d → length xs ≤ t.packets → StandsIn x t pool number k i xs sent over end d f
  pub overs : IsTrue over → (n c : ℕ) → n < i → party (cores_of t) (number_after k number) n ≡ c + 1 → IsOver (worker_at f c).state
  pub ends : (e : DispatcherEnd) → end ≡ Some e → (d.end ≡ Some e) × (d.ends ≡ cores_of t)

-- after its last sweep: the run of the packets that were sent is finished
pub record HasEnded {S : Type 0} (packets : Option (List PacketInfo)) (x : Workload S) (t : Terms) (pool number : ℕ) (bytes : Option (List ℕ)) (end : DispatcherEnd) (d : DispatcherState) (f : LocalRunView (TableOf S)) (reader : Reading) (left : Option (List ℕ)) : Type 0 where
  pub sent : List PacketInfo
  pub tied : IsTiedTo packets t bytes sent d f reader left
  pub end_is : d.end ≡ Some end
  pub ends : d.ends ≡ cores_of t
  pub count : ℕ
  pub state : RunState
  pub by : IsRunBy x sent sent (setting_of t pool sent) state d f
  pub is : d.short ≡ false → state ≡ sweeps (setting_of t pool sent) number count
  pub finished : IsFinished state.machine

-- behind a sweep: all parties had finished in it, or the run goes on
abbrev pub Sweeps : {S : Type 0} → Option (List PacketInfo) → Workload S → Terms → ℕ → ℕ → ℕ → Option (List ℕ) → Option DispatcherEnd → DispatcherState → LocalRunView (TableOf S) → Reading → Option (List ℕ) → Type 0
Sweeps packets x t pool number k bytes (Some end) d f reader left = HasEnded packets x t pool number bytes end d f reader left
Sweeps packets x t pool number k bytes None d f reader left = IsSweeping packets x t pool number (k + 1) bytes d f reader left

-- a run in code: its terms, its pool, the number that it was given, how many sweeps it did, and what its source had left at first, where that was told
pub record RunInputs : Type 0 where
  pub terms : Terms
  pub pool : ℕ
  pub number : ℕ
  pub swept : ℕ
  pub bytes : Option (List ℕ)

-- between two sweeps of a run, in one, and behind one
abbrev pub Sweeping : {S : Type 0} → Option (List PacketInfo) → Workload S → RunInputs → DispatcherState → LocalRunView (TableOf S) → Reading → Option (List ℕ) → Type 0
Sweeping packets x run d f reader left = IsSweeping packets x run.terms run.pool run.number run.swept run.bytes d f reader left

abbrev pub InSweep : {S : Type 0} → Option (List PacketInfo) → Workload S → RunInputs → ℕ → Bool → Option DispatcherEnd → DispatcherState → LocalRunView (TableOf S) → Reading → Option (List ℕ) → Type 0
InSweep packets x run i over end d f reader left = IsInSweep packets x run.terms run.pool run.number run.swept i run.bytes over end d f reader left

abbrev pub SweepsOn : {S : Type 0} → Option (List PacketInfo) → Workload S → RunInputs → Option DispatcherEnd → DispatcherState → LocalRunView (TableOf S) → Reading → Option (List ℕ) → Type 0
SweepsOn packets x run end d f reader left = Sweeps packets x run.terms run.pool run.number run.swept run.bytes end d f reader left

abbrev pub EndsSo : {S : Type 0} → Option (List PacketInfo) → Workload S → RunInputs → DispatcherEnd → DispatcherState → LocalRunView (TableOf S) → Reading → Option (List ℕ) → Type 0
EndsSo packets x run end d f reader left = HasEnded packets x run.terms run.pool run.number run.bytes end d f reader left

-- the party of this run whose turn is number i of its sweep
abbrev pub party_at : RunInputs → ℕ → ℕ
party_at run i = party (cores_of run.terms) (number_after run.swept run.number) i
