-- The numbers of a line.
use Rattle.std.specs.Prelude.{ℕ, ◌+◌, ◌-◌, ◌*◌, List, [], ◌∷◌, length, drop, fold, if◌then◌else◌, ◌==◌, nat_eq, nat_le, Bool, true, false, ◌&&◌, ◌≡◌, Option, Some, None}
use Rattle.std.specs.List.{list_all, starts_with}
use Rattle.balancer.specs.declared.number.TheConstants.{PLAN_DIGITS, LONGEST_LINE}
use Rattle.balancer.specs.declared.place.TheConstants.{SPACE}
use Rattle.balancer.specs.Lines.{parts}

-- the characters 0 to 9
abbrev pub is_digit : ℕ → Bool
is_digit x = nat_le 48 x && nat_le x 57

-- the number that decimal digits spell
abbrev pub digits_value : List ℕ → ℕ
digits_value digits = fold (λ n digit. n * 10 + (digit - 48)) 0 digits

-- the number of a part of 1 to 13 digits
abbrev pub number_of : List ℕ → Option ℕ
number_of part = if nat_le 1 (length part) && (nat_le (length part) PLAN_DIGITS && list_all is_digit part) then Some (digits_value part) else None

-- a number and the numbers behind it, where there are both
abbrev pub both : Option ℕ → Option (List ℕ) → Option (List ℕ)
both None ns = None
both (Some n) None = None
both (Some n) (Some ns) = Some (n ∷ ns)

-- the numbers of parts that are all numbers
abbrev pub numbers_of : List (List ℕ) → Option (List ℕ)
numbers_of [] = Some []
numbers_of (p ∷ ps) = both (number_of p) (numbers_of ps)

-- the numbers of a text that is empty, or begins with a space
abbrev pub spaced : List ℕ → Option (List ℕ)
spaced [] = Some []
spaced (x ∷ xs) = if x == SPACE then numbers_of (parts xs) else None

-- the numbers of a line behind its word, each behind one space; a longer line has none
abbrev pub numbers_behind : List ℕ → List ℕ → Option (List ℕ)
numbers_behind word line =
    if nat_le (length line) LONGEST_LINE && starts_with nat_eq line word then spaced (drop (length word) line) else None

-- the list is what there is, if the answer is that there is something
abbrev pub Gives : Bool → Option (List ℕ) → List ℕ → Type 0
Gives true there list = there ≡ Some list
Gives false there list = there ≡ None
