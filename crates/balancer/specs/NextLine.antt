-- The line that comes next in a text.
use Rattle.std.specs.Prelude.{ℕ, ◌≡◌, ◌<◌, ◌≤◌, List, [], ◌∷◌, length, take, drop, Option, None, Some, IfSome, ⊤}
use Rattle.std.specs.Io.KnownBytes.{IsAtEnd, prepend_known}
use Rattle.balancer.specs.declared.line.NextLine.{NextLine}
use Rattle.balancer.specs.declared.line.NextLine.TheVariants.{Line, TooLong, End}
use Rattle.balancer.specs.declared.number.TheConstants.{LONGEST_LINE}
use Rattle.balancer.specs.Lines.{lines}

-- the known bytes lose their first line
abbrev pub TakesLine : Option (List ℕ) → Option (List ℕ) → List ℕ → Type 0
TakesLine None after line = ⊤
TakesLine (Some xs) None line = ⊥
TakesLine (Some xs) (Some ys) line = lines xs ≡ line ∷ lines ys

-- no line is to come
abbrev pub NoLine : Option (List ℕ) → Type 0
NoLine before = IfSome before (λ xs. lines xs ≡ [])

-- what comes next of the known bytes, where these are read ahead and that is left behind them
abbrev pub ComesNext : Option (List ℕ) → List ℕ → Option (List ℕ) → NextLine → Type 0
ComesNext before ahead left (Line n used) = (n ≤ used) × (used ≤ length ahead) × TakesLine before (prepend_known (drop used ahead) left) (take n ahead)
ComesNext before ahead left TooLong = IfSome before (λ xs. (line : List ℕ) × (rest : List (List ℕ)) × (lines xs ≡ line ∷ rest) × (LONGEST_LINE < length line))
ComesNext before ahead left End = NoLine before × IsAtEnd left
