-- The runs of a machine: all lists of enabled events.
use Rattle.std.specs.Prelude.{◌≡◌, ℕ, ◌<◌, ◌≤◌, ◌^◌, List, [], ◌∷◌, length, All, true}
use Rattle.handover_core.specs.declared.event.Event.{Event}
use Rattle.handover_core.specs.State.{MachineView, first_state}
use Rattle.handover_core.specs.Machine.{enabled, step, steps_left}
use Rattle.handover_core.specs.Promises.{IsFinished}

-- the events lead from one state to the other, each enabled where it is taken
abbrev pub Runs : MachineView → List Event → MachineView → Type 0
Runs m [] last = last ≡ m
Runs m (e ∷ es) last = (enabled m e ≡ true) × Runs (step m e) es last

-- what a machine may be made of: each owner is one of the cores, each packet is of one of the buckets, and there is a cell
pub record IsMade (owners : List ℕ) (cores : ℕ) (packets : List ℕ) (pool : ℕ) : Type 0 where
  pub owned : All (λ owner. owner < cores) owners
  pub sorted : All (λ bucket. bucket < length owners) packets
  pub few : length packets < 2 ^ 32
  pub cells : 1 ≤ pool

-- the state is the first one of some machine
pub record IsStart (m : MachineView) : Type 0 where
  pub owners : List ℕ
  pub cores : ℕ
  pub packets : List ℕ
  pub pool : ℕ
  pub moves : ℕ
  pub made : IsMade owners cores packets pool
  pub is : m ≡ first_state owners cores packets pool moves

-- some enabled events lead to a finished state, no more of them than steps are left
pub record CanFinish (m : MachineView) : Type 0 where
  pub events : List Event
  pub last : MachineView
  pub runs : Runs m events last
  pub finished : IsFinished last
  pub few : length events ≤ steps_left m
