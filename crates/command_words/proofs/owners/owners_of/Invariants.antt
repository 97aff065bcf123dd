use Rattle.std.proofs.Common.{◌≡◌, ◌-◌, ◌++◌, drop, map}
use Rattle.std.specs.Prelude.{option_map}
use Rattle.command_words.specs.Values.{each_in, number_within}
use Rattle.command_words.proofs.owners.owners_of.Given as goal

-- the cores so far, with those of the rest, are those of all words
abbrev pub invariant-loop-text : goal.invariant-loop-text
invariant-loop-text l = option_map (λ xs. l.owners.items ++ xs) (each_in (number_within 0 (l.cores - 1)) (drop l.text-index (map (λ s. s.now) l.texts)))
    ≡ each_in (number_within 0 (l.cores - 1)) (map (λ s. s.now) l.texts)
