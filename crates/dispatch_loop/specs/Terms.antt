-- What a dispatcher keeps of the options of a run.
use Rattle.std.specs.Prelude.{◌≤◌, ℕ, List, All, length, map}
use Rattle.std.specs.List.Sorted.{IsNonDecreasing}
use Rattle.toeplitz.specs.declared.key.Key.{Key}
use Rattle.indirection.specs.declared.move_order.MoveOrder.{MoveOrder}
use Rattle.indirection.specs.Views.{TableView}
use Rattle.indirection.specs.Tables.{IsTable}
use Rattle.indirection.specs.Due.{Rules}
use Rattle.packet_fields.specs.declared.packet.PacketInfo.{PacketInfo}
use Rattle.balancer.specs.declared.policy_name.PolicyName.{PolicyName}
use Rattle.balancer.specs.Policies.{proposals_by}
use Rattle.flow_work.specs.declared.work.TheConstants.{MOST_COST, MOST_PACKETS}
use Rattle.dispatch_loop.specs.declared.limits.TheConstants.{MOST_LIMIT, MOST_ORDERS, MOST_ROUND}
use Rattle.dispatch_loop.specs.Accepted.{IsOrderFor}
use Rattle.dispatch_loop.specs.OptionsView.{OptionsView}

-- the hash key, the starting table, the orders, the round length, the most moves of a round, the policy of rounds, and the most packets; and what a packet costs under the work of the run
pub record Terms : Type 0 where
  pub key : Key
  pub start : TableView
  pub moves : List MoveOrder
  pub round : ℕ
  pub limit : ℕ
  pub policy : PolicyName
  pub packets : ℕ
  pub cost : PacketInfo → ℕ

abbrev pub terms_of : (PacketInfo → ℕ) → OptionsView → Terms
terms_of cost o = record { key = o.key; start = o.start; moves = o.moves; round = o.round; limit = o.limit; policy = o.policy; packets = o.packets; cost = cost }

abbrev pub cores_of : Terms → ℕ
cores_of t = t.start.cores

abbrev pub buckets_of : Terms → ℕ
buckets_of t = length t.start.owners

-- by what rules the journal of the run is lawful
abbrev pub rules_of : Terms → Rules
rules_of t = record { cores = t.start.cores; start = t.start.owners; moves = t.moves; round = t.round; propose = proposals_by t.policy t.start.cores t.limit }

-- the terms are in their ranges
pub record IsSound (t : Terms) : Type 0 where
  pub table : IsTable t.start
  pub orders : All (IsOrderFor t.start) t.moves
  pub rising : IsNonDecreasing (map (λ (m : MoveOrder). m.at) t.moves)
  pub most_orders : length t.moves ≤ MOST_ORDERS
  pub some_round : 1 ≤ t.round
  pub round : t.round ≤ MOST_ROUND
  pub limit : t.limit ≤ MOST_LIMIT
  pub packets : t.packets ≤ MOST_PACKETS
  pub cost : (p : PacketInfo) → t.cost p ≤ MOST_COST
