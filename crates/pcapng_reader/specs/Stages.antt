-- What a stage keeps back, and the break that it tells.
use Rattle.std.specs.Prelude.{ℕ, Option, None, Some}
use Rattle.pcapng_reader.specs.declared.fault.NgBreak.{NgBreak}
use Rattle.pcapng_reader.specs.declared.stage.Stage.{Stage}
use Rattle.pcapng_reader.specs.declared.stage.Stage.TheVariants.{Plain, Between, Inside, Broken, Ended}

-- how many bytes are kept back: one while blocks may follow
abbrev pub kept_back : Stage → ℕ
kept_back (Between skip) = 1
kept_back (Inside block) = 1
kept_back Plain = 0
kept_back (Broken e) = 0
kept_back Ended = 0

-- the first break, once it was found
abbrev pub break_at : Stage → Option NgBreak
break_at (Broken e) = Some e
break_at _ = None
