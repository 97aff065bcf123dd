-- A journal as contracts see it.
use Rattle.std.specs.Prelude.{ℕ, List}
use Rattle.indirection.specs.declared.entry.Entry.{Entry}
use Rattle.indirection.specs.Views.{TableView}

-- what a journal tells: the owner of each bucket at the start, and what was written since
pub record JournalView : Type 0 where
  pub start : List ℕ
  pub entries : List Entry

-- a journal as its calls see it: its starting table, its entries, and how many more orders have room
pub record JournalState : Type 0 where
  pub start : TableView
  pub entries : List Entry
  pub room : ℕ

-- what the journal tells
abbrev pub journal_view : JournalState → JournalView
journal_view j = record { start = j.start.owners; entries = j.entries }
