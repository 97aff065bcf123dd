-- What the words ask for: the command, or the first fault in the order of the checks.
use Rattle.std.specs.Prelude.{◌≡◌, ◌⊎◌, ◌||◌, MatchResult, ℕ, Bool, true, false, List, [], Option, Some, None, Result, Ok, Err, option_map, option_and_then}
use Rattle.std.specs.Prelude.{if◌then◌else◌, is_some, slice_get}
use Rattle.std.specs.Option.{ok_or}
use Rattle.dispatch_loop.specs.OptionsView.{OptionsView}
use Rattle.dispatch_loop.specs.declared.limits.TheConstants.{DEFAULT_BUCKETS, DEFAULT_CORES, DEFAULT_LIMIT, DEFAULT_PACKETS, DEFAULT_POOL, DEFAULT_ROUND}
use Rattle.dispatch_loop.specs.declared.limits.TheConstants.{LEAST_PACKETS, LEAST_POOL, LEAST_ROUND, MOST_LIMIT, MOST_POOL, MOST_ROUND}
use Rattle.flow_work.specs.declared.work.TheConstants.{MOST_PACKETS}
use Rattle.flow_work.specs.declared.work_name.WorkName.{WorkName}
use Rattle.flow_work.specs.declared.work_name.WorkName.TheVariants as work
use Rattle.indirection.specs.Tables.{owners_in_turn}
use Rattle.indirection.specs.Views.{TableView}
use Rattle.balancer.specs.declared.policy_name.PolicyName.TheVariants.{Greedy}
use Rattle.indirection.specs.declared.limits.TheConstants.{MOST_CORES}
use Rattle.indirection.specs.declared.move_order.MoveOrder.{MoveOrder}
use Rattle.toeplitz.specs.declared.key.Key.{Key}
use Rattle.toeplitz.specs.declared.key.TheConstants.{DEFAULT_KEY}
use Rattle.command_words.specs.declared.command.Command.{Command}
use Rattle.command_words.specs.declared.limits.TheConstants.{MOST_NUMBER}
use Rattle.command_words.specs.declared.mode.Mode.{Mode}
use Rattle.command_words.specs.declared.mode.Mode.TheVariants as mode
use Rattle.command_words.specs.declared.option_name.OptionName.{OptionName}
use Rattle.command_words.specs.declared.option_name.OptionName.TheVariants.{Cores, Buckets, Key as KeyOption, Table, Work, Moves, Round, Limit, Pool, Packets, Serial}
use Rattle.command_words.specs.declared.values.Values.{Values}
use Rattle.command_words.specs.declared.word_fault.WordFault.{WordFault}
use Rattle.command_words.specs.declared.word_fault.WordFault.TheVariants as fault
use Rattle.command_words.specs.Values.{bucket_count_in, key_in, mode_in, number_within, orders_in, table_in, values_in, work_in}
use Rattle.command_words.specs.Words.{Part, Text, has_flag, parts_of, positionals, value_in}

-- ---- checks, one behind the other

-- what was read, or the fault that was found
abbrev pub Checked : Type 0 → Type 0
Checked X = Result X WordFault

-- the result is what was read, or the fault that was found; want of memory may come in place of either
abbrev pub Answers : {X : Type 0} → Checked X → Result X WordFault → Type 0
Answers r result = MatchResult result (λ x. r ≡ Ok x) (λ e. (e ≡ fault.NoMemory) ⊎ (r ≡ Err e))

-- a check behind one that may have found a fault
abbrev pub and_then : {X Y : Type 0} → Checked X → (X → Checked Y) → Checked Y
and_then (Ok x) f = f x
and_then (Err e) f = Err e

-- an option: its default, or what its value reads as
abbrev pub option_or : {X : Type 0} → OptionName → X → (Text → Option X) → Option Text → Checked X
option_or o default read None = Ok default
option_or o default read (Some t) = ok_or (read t) (fault.Option o)

-- ---- what is given

-- the positional words, the value of each option, and whether the flag stands
pub record Given : Type 0 where
  pub mode : Option Text
  pub count : Option Text
  pub number : Option Text
  pub options : OptionName → Option Text
  pub journal : Bool

-- what the parts of the words give
abbrev pub given_by : List Part → Given
given_by ps = record {
  mode = slice_get (positionals ps) 0;
  count = slice_get (positionals ps) 1;
  number = slice_get (positionals ps) 2;
  options = λ o. value_in o ps;
  journal = has_flag ps;
}

-- ---- the checks, in their order

-- the mode that the first positional word names
abbrev pub read_mode : Given → Checked Mode
read_mode g = ok_or (option_and_then mode_in g.mode) fault.Mode

-- the values of the mode
abbrev pub read_values : Mode → Given → Checked Values
read_values m g = ok_or (values_in m g.count g.number) fault.Values

-- an option that is a number in these bounds
abbrev pub number_or : OptionName → ℕ → ℕ → ℕ → Given → Checked ℕ
number_or o default low high g = option_or o default (number_within low high) (g.options o)

-- the number of cores
abbrev pub read_cores : Given → Checked ℕ
read_cores g = number_or Cores DEFAULT_CORES 1 MOST_CORES g

-- the number of buckets
abbrev pub read_buckets : Given → Checked ℕ
read_buckets g = option_or Buckets DEFAULT_BUCKETS bucket_count_in (g.options Buckets)

-- the key of the hash
abbrev pub read_key : Given → Checked Key
read_key g = option_or KeyOption DEFAULT_KEY key_in (g.options KeyOption)

-- the starting table; by default bucket b belongs to core b modulo the number of cores
abbrev pub read_start : ℕ → ℕ → Given → Checked TableView
read_start cores buckets g =
    option_or Table (record { cores = cores; owners = owners_in_turn cores buckets }) (table_in cores buckets) (g.options Table)

-- the work
abbrev pub read_work : Given → Checked WorkName
read_work g = option_or Work work.Count work_in (g.options Work)

-- the ordered moves, none by default
abbrev pub read_orders : ℕ → ℕ → Given → Checked (List MoveOrder)
read_orders cores buckets g = option_or Moves [] (orders_in cores buckets) (g.options Moves)

-- the packets from one round to the next
abbrev pub read_round : Given → Checked ℕ
read_round g = number_or Round DEFAULT_ROUND LEAST_ROUND MOST_ROUND g

-- the most moves of a round
abbrev pub read_limit : Given → Checked ℕ
read_limit g = number_or Limit DEFAULT_LIMIT 0 MOST_LIMIT g

-- the cells of the pool
abbrev pub read_pool : Given → Checked ℕ
read_pool g = number_or Pool DEFAULT_POOL LEAST_POOL MOST_POOL g

-- the most packets of the capture
abbrev pub read_packets : Given → Checked ℕ
read_packets g = number_or Packets DEFAULT_PACKETS LEAST_PACKETS MOST_PACKETS g

-- the options of a run, in the order of the table of options
abbrev pub read_options : Given → Checked OptionsView
read_options g =
    and_then (read_cores g) (λ cores.
    and_then (read_buckets g) (λ buckets.
    and_then (read_key g) (λ key.
    and_then (read_start cores buckets g) (λ start.
    and_then (read_work g) (λ work.
    and_then (read_orders cores buckets g) (λ moves.
    and_then (read_round g) (λ round.
    and_then (read_limit g) (λ limit.
    and_then (read_pool g) (λ pool.
    and_then (read_packets g) (λ packets.
    Ok (record {
      key = key;
      cores = cores;
      start = start;
      work = work;
      moves = moves;
      round = round;
      limit = limit;
      policy = Greedy;
      pool = pool;
      packets = packets;
    })))))))))))

-- the number of a serial schedule
abbrev pub serial_in : Text → Option (Option ℕ)
serial_in t = option_map (λ n. Some n) (number_within 0 MOST_NUMBER t)

-- the same, where it is given: without it the run isn't serial
abbrev pub read_serial : Given → Checked (Option ℕ)
read_serial g = option_or Serial None serial_in (g.options Serial)

-- the mode, its values, and then the options
abbrev pub read_command : Given → Checked Command
read_command g =
    and_then (read_mode g) (λ mode.
    and_then (read_values mode g) (λ values.
    and_then (read_options g) (λ options.
    and_then (read_serial g) (λ serial.
    Ok (record {
      mode = mode;
      count = values.count;
      number = values.number;
      options = options;
      serial = serial;
      journal = g.journal;
    })))))

-- ---- the whole reading

-- words that have no parts are refused as words
abbrev pub read_parts : Option (List Part) → Checked Command
read_parts None = Err fault.Words
read_parts (Some ps) = read_command (given_by ps)

-- the command that the words ask for, or their first fault
abbrev pub command_of : List Text → Checked Command
command_of words = read_parts (parts_of words)
