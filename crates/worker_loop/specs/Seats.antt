-- How a worker stands to an end of a shelf that serves it alone.
use Rattle.std.specs.Prelude.{◌≡◌, ℕ, ◌+◌, ◌*◌, false, map, reverse, Option, Some, None, slice_index}
use Rattle.bucket_table.specs.Table.{TableOf}
use Rattle.handover_words.specs.declared.history.ShelfHistory.{ShelfHistory}
use Rattle.handover_words.specs.ShelfHistory.{HasClaim}
use Rattle.handover_words.specs.Stock.{Stock}
use Rattle.worker_loop.specs.declared.slot.Slot.{Slot}
use Rattle.worker_loop.specs.declared.slot.Slot.TheVariants.{Away, Held, Leaving}
use Rattle.worker_loop.specs.WorkerState.{WorkerState}
use Rattle.worker_loop.specs.Tied.{slot_at}
use Rattle.worker_loop.specs.Shows.{from_of}
use Rattle.worker_loop.specs.Custodies.{stretch_of}

-- the place at which the worker claimed the table that it has: where its custody began
abbrev pub claimed_from : {S : Type 0} → Slot (TableOf S) → Option ℕ
claimed_from Away = None
claimed_from (Held t) = Some (from_of t.custody)
claimed_from (Leaving t) = Some (from_of t.custody)

-- each claim that the end holds is that of a table that the worker has
abbrev pub HeldBy : {S : Type 0} → WorkerState (TableOf S) → ShelfHistory → Type 0
HeldBy w e = (b place : ℕ) → HasClaim b place e.held → claimed_from (slot_at b w) ≡ Some place

-- unless it is short, its log has the custodies that the end ended: oldest first, where the end has the newest first
abbrev pub Logged : {S : Type 0} → WorkerState (TableOf S) → ShelfHistory → Type 0
Logged w e = w.short ≡ false → e.ended ≡ reverse (map stretch_of w.log)

-- where the end tells what the shelf holds: the word of each bucket that it holds says so, by the place of its claim
abbrev pub HoldsByWord : {T : Type 0} → Option (Stock T) → ShelfHistory → Type 0
HoldsByWord None e = Unit {0}
HoldsByWord (Some s) e = (b place : ℕ) → HasClaim b place e.held → slice_index s.words b ≡ 2 * place + 2
