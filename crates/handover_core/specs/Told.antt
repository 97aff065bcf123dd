-- What a run of the machine does, as a journal tells it.
use Rattle.std.specs.Prelude.{ℕ, List, [], ◌∷◌, ◌++◌, slice_index}
use Rattle.indirection.specs.declared.outcome.Outcome.TheVariants.{Moved, Placed}
use Rattle.indirection.specs.Tries.{Ask, Ordered}
use Rattle.indirection.specs.Story.{Step, Tries, Sends}
use Rattle.handover_core.specs.declared.item.Item.TheVariants.{End}
use Rattle.handover_core.specs.declared.event.Event.{Event}
use Rattle.handover_core.specs.declared.event.Event.TheVariants.{Send, Move, Place, SendEnd}
use Rattle.handover_core.specs.declared.post.Post.{Post}
use Rattle.handover_core.specs.State.{MachineView, sent_of}
use Rattle.handover_core.specs.Machine.{step}

-- a bucket is asked to go to a core, behind the packets that were sent
abbrev pub asked : MachineView → ℕ → ℕ → Ask
asked m b to = Ordered (record { at = m.sent; bucket = b; to = to })

-- what an event is in a journal: a packet that is sent, which counts 1, or a bucket that is moved or placed
abbrev pub steps_by : MachineView → Event → List Step
steps_by m Send = Sends (record { bucket = slice_index m.packets m.sent; cost = 1 }) ∷ []
steps_by m (Move b to) = Tries (asked m b to) (Moved (sent_of m b)) ∷ []
steps_by m (Place b to) = Tries (asked m b to) Placed ∷ []
steps_by m e = []

-- the steps of a run
abbrev pub steps_in : MachineView → List Event → List Step
steps_in m [] = []
steps_in m (e ∷ es) = steps_by m e ++ steps_in (step m e) es

-- the Ends that events send, in their order
abbrev pub end_by : Event → List Post
end_by (SendEnd c) = record { core = c; item = End } ∷ []
end_by e = []

abbrev pub ends_in : List Event → List Post
ends_in [] = []
ends_in (e ∷ es) = end_by e ++ ends_in es
