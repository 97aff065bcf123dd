use Rattle.indirection.proofs.EntryPlaces.{lawful_positions}
use Rattle.indirection.proofs.OrdersIn.{lawful_orders}
use Rattle.indirection.proofs.RoundOrders.{lawful_first}
use Rattle.indirection.proofs.RoundsIn.{lawful_rounds}
use Rattle.indirection.proofs.journal_laws.lawful_entries.Goals as goal

pub returns-clause-positions : goal.returns-clause-positions
returns-clause-positions c = lawful_positions

pub returns-clause-orders : goal.returns-clause-orders
returns-clause-orders c = lawful_orders

pub returns-clause-rounds : goal.returns-clause-rounds
returns-clause-rounds c = lawful_rounds

pub returns-clause-first : goal.returns-clause-first
returns-clause-first c = lawful_first
