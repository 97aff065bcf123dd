-- Entries in which each round has as many outcomes as proposals.
use Rattle.std.proofs.Common.{◌≡◌, List, [], ◌∷◌, ◌++◌, length, subst}
use Rattle.indirection.specs.declared.order_entry.OrderEntry.{OrderEntry}
use Rattle.indirection.specs.declared.entry.Entry.{Entry}
use Rattle.indirection.specs.declared.entry.Entry.TheVariants.{Round, Order}
use Rattle.indirection.specs.Views.{RoundView}
use Rattle.flow_report.specs.JournalText.{HasWholeRounds}

-- the same, entry by entry
abbrev pub AreWhole : List Entry → Type 0
AreWhole [] = Unit {0}
AreWhole (Round r ∷ es) = (length r.outcomes ≡ length r.proposals) × AreWhole es
AreWhole (Order e ∷ es) = AreWhole es

pub whole-push : (es : List Entry) (e : OrderEntry) → AreWhole es → AreWhole (es ++ Order e ∷ [])
whole-push [] e whole = tt
whole-push (Round r ∷ es) e whole = (whole.0, whole-push es e whole.1)
whole-push (Order o ∷ es) e whole = whole-push es e whole

behind_front : (front behind : List Entry) (r : RoundView) → AreWhole (front ++ Round r ∷ behind) → length r.outcomes ≡ length r.proposals
behind_front [] behind r whole = whole.0
behind_front (Round x ∷ front) behind r whole = behind_front front behind r whole.1
behind_front (Order e ∷ front) behind r whole = behind_front front behind r whole

pub whole_each : (es : List Entry) → AreWhole es → HasWholeRounds es
whole_each es whole front behind r is = behind_front front behind r (subst AreWhole is whole)
