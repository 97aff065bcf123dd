use Rattle.std.proofs.Common.{◌≡◌, [], ℕ, List, map, set, sym, ap, ◌∙◌, arith}
use Rattle.std.specs.Vec.{vec_capacity}
use Rattle.std.proofs.lemmas.List.{set-set}
use Rattle.packet_pool.specs.declared.cell.Facts.{Facts}
use Rattle.packet_pool.specs.Facts.{facts}
use Rattle.parked_queue.specs.Chained.{cells_in}
use Rattle.parked_queue.proofs.Chained.{map_length}
use Rattle.parked_queue.proofs.Moves.{unparked_is, lined_unparked, lined_same}
use Rattle.parked_queue.proofs.parking.take_from.Goals as goal

-- the rest of the cells is put where all were taken
put_rest : (cells taken cells' : List (List Facts)) (b : ℕ) (rest : List Facts) → taken ≡ set cells b [] → cells' ≡ set taken b rest → cells' ≡ set cells b rest
put_rest cells taken cells' b rest left put = put ∙ (ap (λ m. set m b rest) left ∙ set-set cells b [] rest)

pub returns-clause-left : goal.returns-clause-left
returns-clause-left c =
    unparked_is _ _ c.args.bucket _ _ _ _ (sym c.in_ok-take_chains.ensures.given ∙ c.take_first-cell.ensures.parts)
    (put_rest _ _ _ c.args.bucket _ c.take_chains.ensures.left c.put_chains.ensures) c.leave_line.ensures.items

pub returns-clause-lined : goal.returns-clause-lined
returns-clause-lined c =
    let wide = map_length c.args.chains.now.items in let r = c.requires.range in
    lined_same _ _ _ _ _ _
    (put_rest _ _ _ c.args.bucket _ c.take_chains.ensures.left c.put_chains.ensures) c.leave_line.ensures.items c.leave_line.ensures.room
    (lined_unparked (map cells_in c.args.chains.now.items) c.args.line.now.items c.args.bucket (vec_capacity c.args.line.now) c.requires.lined (omega arith)
    (facts c.take_first-cell.result.0.value) (cells_in c.take_first-cell.result.1) (sym c.in_ok-take_chains.ensures.given ∙ c.take_first-cell.ensures.parts))
