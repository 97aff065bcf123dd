-- What is written of a plan.
use Rattle.std.specs.Prelude.{ℕ, List, [], ◌∷◌, ◌++◌, fold, slice_set, codes}
use Rattle.std.specs.List.{flat_map}
use Rattle.std.specs.Fmt.{decimal}
use Rattle.indirection.specs.declared.proposal.Proposal.{Proposal}
use Rattle.balancer.specs.Imbalance.{core_loads, imbalance}
use Rattle.balancer.specs.Greedy.{greedy_round}
use Rattle.balancer.specs.PlanForm.{Instance}

-- the owners after the moves
abbrev pub owners_behind : List ℕ → List Proposal → List ℕ
owners_behind owners ps = fold (λ os (p : Proposal). slice_set os p.bucket p.to) owners ps

-- `move BUCKET FROM TO gain GAIN`
abbrev pub move_line : Proposal → List ℕ
move_line p =
    codes "move " ++ (decimal p.bucket ++ (codes " " ++ (decimal p.from ++ (codes " " ++ (decimal p.to ++ (codes " gain " ++ (decimal p.gain ++ 10 ∷ [])))))))

-- a number behind a space
abbrev pub spaced_number : ℕ → List ℕ
spaced_number n = codes " " ++ decimal n

-- `loads` and what each core carries
abbrev pub loads_line : List ℕ → List ℕ
loads_line carried = codes "loads" ++ (flat_map spaced_number carried ++ 10 ∷ [])

-- `imbalance X`
abbrev pub imbalance_line : List ℕ → List ℕ
imbalance_line carried = codes "imbalance " ++ (decimal (imbalance carried) ++ 10 ∷ [])

-- the proposals of a round, and what the cores carry after it
abbrev pub round_text : List Proposal → List ℕ → List ℕ
round_text ps carried = flat_map move_line ps ++ (loads_line carried ++ imbalance_line carried)

-- what the cores carry after the proposals
abbrev pub carried_behind : Instance → List Proposal → List ℕ
carried_behind p ps = core_loads p.cores p.loads (owners_behind p.owners ps)

-- the text of an instance: its greedy round, and what the cores carry after it
abbrev pub plan_of : Instance → List ℕ
plan_of p = round_text (greedy_round p.cores p.limit p.loads p.owners) (carried_behind p (greedy_round p.cores p.limit p.loads p.owners))
