-- A text in lines, and a line in parts.
use Rattle.std.specs.Prelude.{ℕ, List, [], ◌∷◌, if◌then◌else◌, ◌==◌}
use Rattle.balancer.specs.declared.place.TheConstants.{LINE_FEED, SPACE}

-- the first list grows by a byte at its front, and is the byte alone where there is none
abbrev pub grown : ℕ → List (List ℕ) → List (List ℕ)
grown x [] = (x ∷ []) ∷ []
grown x (l ∷ ls) = (x ∷ l) ∷ ls

-- the lines of a text: each ends with a line feed, which the last may lack
abbrev pub lines : List ℕ → List (List ℕ)
lines [] = []
lines (x ∷ xs) = if x == LINE_FEED then [] ∷ lines xs else grown x (lines xs)

-- the parts of a line, between single spaces
abbrev pub parts : List ℕ → List (List ℕ)
parts [] = [] ∷ []
parts (x ∷ xs) = if x == SPACE then [] ∷ parts xs else grown x (parts xs)
