use Rattle.std.proofs.Common.{◌≡◌, ◌<◌, ◌∷◌, ◌++◌, [], ℕ, List, length, map, get_or, set, sym, ap, ◌∙◌, arith}
use Rattle.std.specs.Vec.{vec_capacity}
use Rattle.std.proofs.lemmas.List.{set-set}
use Rattle.packet_pool.specs.declared.cell.Cell.{Cell, out-Cell}
use Rattle.packet_pool.specs.declared.cell.Facts.{Facts}
use Rattle.packet_pool.specs.Facts.{facts}
use Rattle.parked_queue.specs.Chained.{cells_in}
use Rattle.parked_queue.specs.Parked.{also_waits}
use Rattle.parked_queue.proofs.Lines.{room_to_wait}
use Rattle.parked_queue.proofs.Chained.{map_length}
use Rattle.parked_queue.proofs.Moves.{parked_is, lined_parked, lined_same}
use Rattle.parked_queue.proofs.parking.park_in.Goals as goal

-- what the steps of the body make of the lists
module _ (cells taken cells' : List (List Facts)) (b : ℕ) (old new : List Facts) (f : Facts) where
  put_behind : old ≡ get_or cells b [] → taken ≡ set cells b [] → new ≡ old ++ f ∷ [] → cells' ≡ set taken b new → cells' ≡ set cells b (get_or cells b [] ++ f ∷ [])
  put_behind given left more put = put ∙ (ap (λ m. set m b new) left ∙ (set-set cells b [] new ∙ ap (set cells b) (more ∙ ap (λ o. o ++ f ∷ []) given)))

pub join_line-requires : goal.join_line-requires
join_line-requires c = λ none.
    let l = c.args.chains.now.items in let b : ℕ = (out-Cell c.deref.result.now).bucket in
    let b_is : b ≡ (facts c.args.cell.value).bucket = ap (λ (x : Cell). (out-Cell x).bucket) c.deref.ensures in let wide = map_length l in let r = c.requires.range in
    let room : length c.args.line.now.items < vec_capacity c.args.line.now = room_to_wait (map cells_in l) _ _ b c.requires.lined (omega arith) (sym c.take_chains-cells.ensures.given ∙ none) in
    omega (arith, c.args.line.now.ok)

pub returns-clause-is : goal.returns-clause-is
returns-clause-is c =
    let b : ℕ = (out-Cell c.deref.result.now).bucket in let given = c.take_chains-cells.ensures.given in
    parked_is _ _ b _ _ (facts c.args.cell.value) (ap (λ (x : Cell). (out-Cell x).bucket) c.deref.ensures)
    (put_behind _ _ _ b _ _ _ given c.take_chains-cells.ensures.left c.push.ensures c.put_chains.ensures)
    (c.join_line.ensures.items ∙ ap (λ o. also_waits o b c.args.line.now.items) given)

pub returns-clause-lined : goal.returns-clause-lined
returns-clause-lined c =
    let b : ℕ = (out-Cell c.deref.result.now).bucket in let given = c.take_chains-cells.ensures.given in
    let b_is : b ≡ (facts c.args.cell.value).bucket = ap (λ (x : Cell). (out-Cell x).bucket) c.deref.ensures in let wide = map_length c.args.chains.now.items in let r = c.requires.range in
    lined_same _ _ _ _ _ _
    (put_behind _ _ _ b _ _ _ given c.take_chains-cells.ensures.left c.push.ensures c.put_chains.ensures)
    (c.join_line.ensures.items ∙ ap (λ o. also_waits o b c.args.line.now.items) given) c.join_line.ensures.room
    (lined_parked (map cells_in c.args.chains.now.items) c.args.line.now.items b (vec_capacity c.args.line.now) c.requires.lined (omega arith) (facts c.args.cell.value))
