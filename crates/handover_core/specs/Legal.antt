-- Which lists of items may be sent to a core.
use Rattle.std.specs.Prelude.{ℕ, ◌+◌, ◌^◌, ◌-◌, ◌<◌, ◌≡◌, List, [], ◌∷◌, Bool, true, false, if◌then◌else◌, ◌==◌}
use Rattle.indirection.specs.Each.{Each}
use Rattle.handover_core.specs.declared.item.Kind.{Kind}
use Rattle.handover_core.specs.declared.item.Kind.TheVariants.{First, Next, Mark}
use Rattle.handover_core.specs.declared.item.Item.{Item}
use Rattle.handover_core.specs.declared.item.Item.TheVariants.{Of, End}

-- where a bucket's items stand: nothing yet, in a stint whose next place is n, or behind a mark at n
pub data Stand : Type 0 where
  new : Stand
  within : (n : ℕ) → Stand
  past : (n : ℕ) → Stand

-- where an item leaves its bucket
abbrev pub stand_by : Kind → ℕ → Stand
stand_by First place = within (place + 1)
stand_by Next place = within (place + 1)
stand_by Mark place = past place

-- where the bucket's items stand after a list, from where they stood before it
abbrev pub stand_from : ℕ → Stand → List Item → Stand
stand_from b s [] = s
stand_from b s (Of kind bucket place ∷ xs) = stand_from b (if bucket == b then stand_by kind place else s) xs
stand_from b s (End ∷ xs) = stand_from b s xs

-- no End stands in the list
abbrev pub is_open : List Item → Bool
is_open [] = true
is_open (Of kind bucket place ∷ xs) = is_open xs
is_open (End ∷ xs) = false

-- an item of this kind and place may follow
abbrev pub Continues : Stand → Kind → ℕ → Type 0
Continues new First place = place < 2 ^ 32 - 1
Continues (within n) Next place = (place ≡ n) × (place < 2 ^ 32 - 1)
Continues (within n) Mark place = place ≡ n
Continues (past n) First place = (n < place) × (place < 2 ^ 32 - 1)
Continues s kind place = ⊥

-- the item may follow the list
abbrev pub Follows : List Item → Item → Type 0
Follows before (Of kind bucket place) = (is_open before ≡ true) × Continues (stand_from bucket new before) kind place
Follows before End = is_open before ≡ true

-- each item may follow those before it
abbrev pub Legal : List Item → Type 0
Legal list = Each Follows list
