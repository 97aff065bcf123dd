-- The packets that a core took cost what the run's packets do.
use Rattle.std.proofs.Common.{◌≡◌, ◌≢◌, ◌≤◌, ◌+◌, ◌*◌, ◌++◌, ◌∷◌, [], ℕ, zero, suc, List, length, map, filter, get_or, refl, sym, ap, ◌∙◌, arith, cond, true, false, Bool, ◌==◌}
use Rattle.packet_fields.specs.declared.packet.PacketInfo.{PacketInfo}
use Rattle.packet_pool.specs.declared.cell.Facts.{Facts}
use Rattle.flow_work.specs.declared.work.TheConstants.{MOST_COST}
use Rattle.indirection.specs.Story.{Parcel}
use Rattle.handover_core.specs.declared.item.Kind.{Kind}
use Rattle.handover_core.specs.declared.item.Kind.TheVariants.{First, Next, Mark}
use Rattle.core_queue.specs.declared.item.Seen.{Seen}
use Rattle.core_queue.specs.declared.item.Seen.TheVariants.{Packet, Close}
use Rattle.worker_loop.specs.Counts as counts
use Rattle.dispatch_loop.specs.Terms.{Terms}
use Rattle.dispatch_loop.specs.Past.{parcel_of, parcels}
use Rattle.dispatch_loop.specs.Costs.{costs_of, cost_at, HasCostBy, HaveCosts}
use Rattle.dispatch_loop.proofs.CostsKept.{cost-front}

by_kind : (cost : PacketInfo → ℕ) (xs ys : List Parcel) (k : Kind) (f : Facts) → HasCostBy cost xs k f → k ≢ Mark → cost f.info ≡ cost_at (xs ++ ys) f.bucket f.place
by_kind cost xs ys First f h ne = h.1 ∙ sym (cost-front f.bucket f.place xs ys h.0)
by_kind cost xs ys Next f h ne = h.1 ∙ sym (cost-front f.bucket f.place xs ys h.0)
by_kind cost xs ys Mark f h ne = absurd (ne refl)

-- a front of what was sent
pub taken_costs : (cost : PacketInfo → ℕ) (xs ys : List Parcel) (taken rest : List Seen) → HaveCosts cost xs (taken ++ rest) → counts.HaveCosts (cost_at (xs ++ ys)) cost taken
taken_costs cost xs ys [] rest h = tt
taken_costs cost xs ys (Packet f ∷ taken) rest h = (by_kind cost xs ys f.kind f h.0, taken_costs cost xs ys taken rest h.1)
taken_costs cost xs ys (Close ∷ taken) rest h = taken_costs cost xs ys taken rest h.1

kept_small : (t : Bool) (p : Parcel) (xs : List Parcel) (k : ℕ) → p.cost ≤ MOST_COST → ((i : ℕ) → get_or (map (λ (q : Parcel). q.cost) xs) i 0 ≤ MOST_COST) → get_or (map (λ (q : Parcel). q.cost) (cond t (p ∷ xs) xs)) k 0 ≤ MOST_COST
kept_small true p xs zero h rest = h
kept_small true p xs (suc k) h rest = rest k
kept_small false p xs k h rest = rest k

-- no packet of a run costs more than the most
pub costs_small : (t : Terms) → ((p : PacketInfo) → t.cost p ≤ MOST_COST) → (ps : List PacketInfo) (b place : ℕ) → cost_at (parcels t ps) b place ≤ MOST_COST
costs_small t cheap [] b place = omega arith
costs_small t cheap (p ∷ ps) b place = kept_small ((parcel_of t p).bucket == b) (parcel_of t p) (filter (λ (q : Parcel). q.bucket == b) (parcels t ps)) place (cheap p) (costs_small t cheap ps b)
