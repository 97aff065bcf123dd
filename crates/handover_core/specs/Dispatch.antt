-- What is sent to the cores in a run.
use Rattle.std.specs.Prelude.{ℕ, zero, suc, List, [], ◌∷◌, ◌++◌, if◌then◌else◌, ◌==◌}
use Rattle.indirection.specs.declared.outcome.Outcome.{Outcome}
use Rattle.indirection.specs.declared.outcome.Outcome.TheVariants.{Moved, Placed, Same, InPassage}
use Rattle.indirection.specs.Each.{gather_from}
use Rattle.indirection.specs.JournalView.{JournalView}
use Rattle.indirection.specs.Tries.{ask_bucket}
use Rattle.indirection.specs.Story.{Parcel, Step, Rounds, Tries, Sends, told, owner_then, start_then, sent_then}
use Rattle.handover_core.specs.declared.item.Kind.{Kind}
use Rattle.handover_core.specs.declared.item.Kind.TheVariants.{First, Next, Mark}
use Rattle.handover_core.specs.declared.item.Item.{Item}
use Rattle.handover_core.specs.declared.post.Post.{Post}
use Rattle.handover_core.specs.declared.item.Item.TheVariants.{Of, End}

-- a packet is First where its place is the start of its stint
abbrev pub kind_at : ℕ → ℕ → Kind
kind_at start place = if place == start then First else Next

-- Moved sends a mark at its tail to the core that had the bucket
abbrev pub mark_posts : ℕ → ℕ → Outcome → List Post
mark_posts core b (Moved tail) = record { core = core; item = Of Mark b tail } ∷ []
mark_posts core b Placed = []
mark_posts core b Same = []
mark_posts core b (InPassage tail sent word) = []

-- what a step sends
abbrev pub posts : List ℕ → List Step → Step → List Post
posts start before (Rounds h) = []
posts start before (Tries a o) = mark_posts (owner_then start before (ask_bucket a)) (ask_bucket a) o
posts start before (Sends p) =
    record { core = owner_then start before p.bucket; item = Of (kind_at (start_then before p.bucket) (sent_then before p.bucket)) p.bucket (sent_then before p.bucket) } ∷ []

-- what the steps send, in order
abbrev pub dispatched : List ℕ → List Step → List Post
dispatched start steps = gather_from (posts start) [] steps

-- End to the first n cores, in order
abbrev pub ends : ℕ → List Post
ends zero = []
ends (suc n) = ends n ++ record { core = n; item = End } ∷ []

-- the dispatches of a journal over all packets of a run
abbrev pub dispatches : ℕ → List Parcel → JournalView → List Post
dispatches cores xs j = dispatched j.start (told 0 xs j.entries) ++ ends cores

-- the items that go to a core
abbrev pub stream : ℕ → List Post → List Item
stream c [] = []
stream c (p ∷ ps) = (if p.core == c then p.item ∷ [] else []) ++ stream c ps
