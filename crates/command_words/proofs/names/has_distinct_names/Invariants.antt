use Rattle.std.proofs.Common.{◌≡◌, drop, map}
use Rattle.std.specs.String.{string_bytes}
use Rattle.command_words.specs.Words.{is_distinct, names_of}
use Rattle.command_words.proofs.names.has_distinct_names.Given as goal

-- the words so far share no name with a later one
abbrev pub invariant-loop-i : goal.invariant-loop-i
invariant-loop-i l = is_distinct (names_of (drop l.i (map string_bytes l.words))) ≡ is_distinct (names_of (map string_bytes l.words))
