-- What the packets that lanes carry cost.
use Rattle.std.specs.Prelude.{◌≡◌, ◌<◌, ℕ, ◌==◌, List, [], ◌∷◌, map, filter, slice_index}
use Rattle.packet_fields.specs.declared.packet.PacketInfo.{PacketInfo}
use Rattle.packet_pool.specs.declared.cell.Facts.{Facts}
use Rattle.indirection.specs.Story.{Parcel, count_in}
use Rattle.handover_core.specs.declared.item.Kind.{Kind}
use Rattle.handover_core.specs.declared.item.Kind.TheVariants.{First, Next, Mark}
use Rattle.core_queue.specs.declared.item.Seen.{Seen}
use Rattle.core_queue.specs.declared.item.Seen.TheVariants.{Packet, Close}

-- the costs of a bucket's packets, in their order
abbrev pub costs_of : ℕ → List Parcel → List ℕ
costs_of b xs = map (λ (p : Parcel). p.cost) (filter (λ (p : Parcel). p.bucket == b) xs)

-- what the packet of a bucket at a place costs
abbrev pub cost_at : List Parcel → ℕ → ℕ → ℕ
cost_at xs b place = slice_index (costs_of b xs) place

-- the packet of a cell is among these, and costs what the one of its bucket at its place does; a mark costs nothing
abbrev pub HasCostBy : (PacketInfo → ℕ) → List Parcel → Kind → Facts → Type 0
HasCostBy cost xs First f = (f.place < count_in f.bucket xs) × (cost f.info ≡ cost_at xs f.bucket f.place)
HasCostBy cost xs Next f = (f.place < count_in f.bucket xs) × (cost f.info ≡ cost_at xs f.bucket f.place)
HasCostBy cost xs Mark f = Unit {0}

abbrev pub HasCost : (PacketInfo → ℕ) → List Parcel → Seen → Type 0
HasCost cost xs (Packet f) = HasCostBy cost xs f.kind f
HasCost cost xs Close = Unit {0}

abbrev pub HaveCosts : (PacketInfo → ℕ) → List Parcel → List Seen → Type 0
HaveCosts cost xs [] = Unit {0}
HaveCosts cost xs (x ∷ items) = HasCost cost xs x × HaveCosts cost xs items
