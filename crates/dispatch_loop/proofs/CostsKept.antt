-- What lanes carry keeps its costs while packets are sent.
use Rattle.std.proofs.Common.{◌≡◌, ℕ, ◌+◌, ◌<◌, List, [], ◌∷◌, ◌++◌, length, map, filter, get_or, refl, sym, ap, ◌∙◌, subst, arith, Bool, true, ◌==◌, cond, if◌then◌else◌, eq-eqb}
use Rattle.std.proofs.Math.ListN.{get_or-append}
use Rattle.std.proofs.Math.Seq.{get_or-append_seam}
use Rattle.std.proofs.lemmas.List.{map-append, length-map}
use Rattle.std.proofs.lemmas.List.Elements.{filter-append}
use Rattle.packet_fields.specs.declared.packet.PacketInfo.{PacketInfo}
use Rattle.packet_pool.specs.declared.cell.Facts.{Facts}
use Rattle.indirection.proofs.Steps.{count_in-append, count_in-total}
use Rattle.indirection.specs.Story.{Parcel, count_in}
use Rattle.handover_core.specs.declared.item.Kind.{Kind}
use Rattle.handover_core.specs.declared.item.Kind.TheVariants.{First, Next, Mark}
use Rattle.core_queue.specs.declared.item.Seen.{Seen}
use Rattle.core_queue.specs.declared.item.Seen.TheVariants.{Packet, Close}
use Rattle.dispatch_loop.specs.Costs.{costs_of, cost_at, HasCostBy, HasCost, HaveCosts}

length-costs : (b : ℕ) (xs : List Parcel) → length (costs_of b xs) ≡ count_in b xs
length-costs b xs = length-map (filter (λ (p : Parcel). p.bucket == b) xs) (λ (p : Parcel). p.cost) ∙ sym (count_in-total b xs)

costs-append : (b : ℕ) (xs ys : List Parcel) → costs_of b (xs ++ ys) ≡ costs_of b xs ++ costs_of b ys
costs-append b xs ys =
    ap (λ (z : List Parcel). map (λ (p : Parcel). p.cost) z) (filter-append (λ (p : Parcel). p.bucket == b) xs ys)
    ∙ map-append (λ (p : Parcel). p.cost) (filter (λ (p : Parcel). p.bucket == b) xs) (filter (λ (p : Parcel). p.bucket == b) ys)

-- a packet among the first ones costs what it did
pub cost-front : (b place : ℕ) (xs ys : List Parcel) → place < count_in b xs → cost_at (xs ++ ys) b place ≡ cost_at xs b place
cost-front b place xs ys h =
    ap (λ (z : List ℕ). get_or z place 0) (costs-append b xs ys)
    ∙ get_or-append (costs_of b xs) (costs_of b ys) 0 place (let e = length-costs b xs in omega arith)

-- the packet behind them
pub cost-last : (p : Parcel) (place : ℕ) (xs : List Parcel) → place ≡ count_in p.bucket xs → cost_at (xs ++ p ∷ []) p.bucket place ≡ p.cost
cost-last p place xs at =
    ap (λ (z : List ℕ). get_or z place 0) (costs-append p.bucket xs (p ∷ []))
    ∙ (ap (λ (t : Bool). get_or (costs_of p.bucket xs ++ map (λ (q : Parcel). q.cost) (cond t (p ∷ []) [])) place 0) (eq-eqb p.bucket p.bucket refl)
    ∙ (ap (λ (n : ℕ). get_or (costs_of p.bucket xs ++ p.cost ∷ []) n 0) (at ∙ sym (length-costs p.bucket xs))
    ∙ get_or-append_seam (costs_of p.bucket xs) p.cost [] 0))

-- its place is among theirs
pub behind-count : (b place : ℕ) (xs : List Parcel) (p : Parcel) → p.bucket ≡ b → place ≡ count_in b xs → place < count_in b (xs ++ p ∷ [])
behind-count b place xs p is at =
    let n = count_in-append b xs (p ∷ []) in
    let one = ap {B = ℕ} (λ (t : Bool). if t then 1 else 0) (eq-eqb p.bucket b is) in omega arith

by-kind : (cost : PacketInfo → ℕ) (xs ys : List Parcel) (k : Kind) (f : Facts) → HasCostBy cost xs k f → HasCostBy cost (xs ++ ys) k f
by-kind cost xs ys First f h = (let n = h.0 in let e = count_in-append f.bucket xs ys in omega arith, h.1 ∙ sym (cost-front f.bucket f.place xs ys h.0))
by-kind cost xs ys Next f h = (let n = h.0 in let e = count_in-append f.bucket xs ys in omega arith, h.1 ∙ sym (cost-front f.bucket f.place xs ys h.0))
by-kind cost xs ys Mark f h = tt

pub costs-more : (cost : PacketInfo → ℕ) (xs ys : List Parcel) (items : List Seen) → HaveCosts cost xs items → HaveCosts cost (xs ++ ys) items
costs-more cost xs ys [] h = tt
costs-more cost xs ys (Packet f ∷ items) h = (by-kind cost xs ys f.kind f h.0, costs-more cost xs ys items h.1)
costs-more cost xs ys (Close ∷ items) h = (tt, costs-more cost xs ys items h.1)

pub has-cost : (cost : PacketInfo → ℕ) (xs : List Parcel) (k : Kind) (f : Facts) → f.place < count_in f.bucket xs → cost f.info ≡ cost_at xs f.bucket f.place → HasCostBy cost xs k f
has-cost cost xs First f h e = (h, e)
has-cost cost xs Next f h e = (h, e)
has-cost cost xs Mark f h e = tt
