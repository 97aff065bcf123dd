-- What a step is told.
use mathlib.Core.Option as maybe
use mathlib.Core.Option.{some, none}

-- what is known after a step that is told a value, and of one that is told none
abbrev pub when_told : {T V : Type 0} → (T → V → V) → maybe.Option T → V → V
when_told after none known = known
when_told after (some said) known = after said known
