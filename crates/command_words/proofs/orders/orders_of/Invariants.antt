use Rattle.std.proofs.Common.{◌≡◌, ◌++◌, drop, map}
use Rattle.std.specs.Prelude.{option_map}
use Rattle.command_words.specs.Values.{each_in, order_in}
use Rattle.command_words.proofs.orders.orders_of.Given as goal

-- the orders so far, with those of the rest, are those of all words
abbrev pub invariant-loop-text : goal.invariant-loop-text
invariant-loop-text l = option_map (λ xs. l.orders.items ++ xs) (each_in (order_in l.cores l.buckets) (drop l.text-index (map (λ s. s.now) l.texts)))
    ≡ each_in (order_in l.cores l.buckets) (map (λ s. s.now) l.texts)
