-- What packets cost.
use Rattle.std.specs.Prelude.{ℕ, ◌+◌, ◌/◌, ◌≤◌, min}
use Rattle.std.proofs.Common.{arith}
use Rattle.packet_fields.specs.declared.packet.PacketInfo.{PacketInfo}
use Rattle.flow_work.specs.declared.work_name.WorkName.{WorkName}
use Rattle.flow_work.specs.declared.work_name.WorkName.TheVariants.{Count, TcpFlags, Gaps, OrderFold}

-- each packet costs the same
abbrev pub one : PacketInfo → ℕ
one p = 1

-- 1, and 1 more for each 64 bytes on the wire, up to 256
abbrev pub order_cost : PacketInfo → ℕ
order_cost p = min 256 (1 + p.original / 64)

-- what a packet costs under the work of this name
abbrev pub cost_by : WorkName → PacketInfo → ℕ
cost_by Count = one
cost_by TcpFlags = one
cost_by Gaps = one
cost_by OrderFold = order_cost

-- each cost is in its range

pub one_fits : (p : PacketInfo) → (1 ≤ one p) × (one p ≤ 256)
one_fits p = (omega arith, omega arith)

pub order_cost_fits : (p : PacketInfo) → (1 ≤ order_cost p) × (order_cost p ≤ 256)
order_cost_fits p = (omega arith, omega arith)
