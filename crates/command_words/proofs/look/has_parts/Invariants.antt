use Rattle.std.proofs.Common.{◌≡◌, drop, map}
use Rattle.std.specs.String.{string_bytes}
use Rattle.command_words.specs.Look.{look_after, start}
use Rattle.command_words.proofs.look.has_parts.Given as goal

-- what the rest of the words comes to is what all of them do
abbrev pub invariant-loop-word : goal.invariant-loop-word
invariant-loop-word l = look_after l.look (drop l.word-index (map string_bytes l.words)) ≡ look_after start (map string_bytes l.words)
