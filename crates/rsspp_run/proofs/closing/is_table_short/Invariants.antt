use Rattle.std.proofs.Common.{◌≡◌, false, All, take}
use Rattle.rsspp_run.proofs.closing.is_table_short.Given as goal

abbrev pub invariant-loop-table : goal.invariant-loop-table
invariant-loop-table g l = All (λ t. t.short ≡ false) (take l.table-index l.tables)
