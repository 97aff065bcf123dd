-- What a value reads as, where it can be read.
use Rattle.std.specs.Prelude.{◌==◌, ◌&&◌, ◌||◌, ◌+◌, ◌-◌, ◌*◌, ℕ, Bool, true, List, [], ◌∷◌, length}
use Rattle.std.specs.Prelude.{Option, Some, None, option_map, option_and_then, codes, if◌then◌else◌, nat_le}
use Rattle.std.specs.List.{list_all, list_any, slice_split}
use Rattle.std.specs.Char.{is_ascii_digit}
use Rattle.std.specs.Str.{bytes_eq}
use Rattle.dispatch_loop.specs.Accepted.{bucket_counts}
use Rattle.dispatch_loop.specs.declared.limits.TheConstants.{MOST_ORDERS}
use Rattle.flow_work.specs.declared.work.TheConstants.{MOST_PACKETS}
use Rattle.flow_work.specs.declared.work_name.WorkName.{WorkName}
use Rattle.flow_work.specs.declared.work_name.WorkName.TheVariants as work
use Rattle.indirection.specs.Views.{TableView}
use Rattle.indirection.specs.declared.move_order.MoveOrder.{MoveOrder}
use Rattle.toeplitz.specs.declared.key.Key.{Key}
use Rattle.toeplitz.specs.declared.key.TheConstants.{KEY_BYTES}
use Rattle.command_words.specs.declared.limits.TheConstants.{MOST_COUNT, MOST_DIGITS, MOST_NUMBER}
use Rattle.command_words.specs.declared.mode.Mode.{Mode}
use Rattle.command_words.specs.declared.mode.Mode.TheVariants as mode
use Rattle.command_words.specs.declared.values.Values.{Values}
use Rattle.command_words.specs.Words.{Text}

-- ---- numbers

-- the number that decimal digits make behind those of n
abbrev pub decimal_from : ℕ → Text → ℕ
decimal_from n [] = n
decimal_from n (c ∷ cs) = decimal_from (10 * n + (c - 48)) cs

-- a text of 1 to 10 decimal digits
abbrev pub is_number : Text → Bool
is_number t = nat_le 1 (length t) && (nat_le (length t) MOST_DIGITS && list_all is_ascii_digit t)

-- the number of such a text, where leading zeros count nothing
abbrev pub number_in : Text → Option ℕ
number_in t = if is_number t then Some (decimal_from 0 t) else None

-- the number, where it is in these bounds
abbrev pub bounded : ℕ → ℕ → ℕ → Option ℕ
bounded low high n = if nat_le low n && nat_le n high then Some n else None

-- the number that a text spells, in these bounds
abbrev pub number_within : ℕ → ℕ → Text → Option ℕ
number_within low high t = option_and_then (bounded low high) (number_in t)

-- the number, where there may be so many buckets
abbrev pub if_bucket_count : ℕ → Option ℕ
if_bucket_count n = if list_any (λ count. n == count) bucket_counts then Some n else None

-- the number of buckets that a text spells
abbrev pub bucket_count_in : Text → Option ℕ
bucket_count_in t = option_and_then if_bucket_count (number_in t)

-- ---- names

-- the mode of this name
abbrev pub mode_in : Text → Option Mode
mode_in t = if bytes_eq t (codes "report") then Some mode.Report
    else (if bytes_eq t (codes "hash") then Some mode.Hash
    else (if bytes_eq t (codes "plan") then Some mode.Plan
    else (if bytes_eq t (codes "make") then Some mode.Make
    else (if bytes_eq t (codes "demo") then Some mode.Demo else None))))

-- the work of this name
abbrev pub work_in : Text → Option WorkName
work_in t = if bytes_eq t (codes "count") then Some work.Count
    else (if bytes_eq t (codes "flags") then Some work.TcpFlags
    else (if bytes_eq t (codes "gaps") then Some work.Gaps
    else (if bytes_eq t (codes "order") then Some work.OrderFold else None)))

-- ---- the key

-- a hexadecimal digit, of either case
abbrev pub is_hex_digit : ℕ → Bool
is_hex_digit c = is_ascii_digit c || (nat_le 65 c && nat_le c 70) || (nat_le 97 c && nat_le c 102)

-- its value: `0` is 48, `A` is 65 and `a` is 97
abbrev pub digit_value : ℕ → ℕ
digit_value c = if nat_le c 57 then c - 48 else (if nat_le c 70 then c - 65 + 10 else c - 97 + 10)

-- the bytes of pairs of digits, the high digit first
abbrev pub byte_pairs : Text → List ℕ
byte_pairs [] = []
byte_pairs (a ∷ []) = []
byte_pairs (a ∷ b ∷ rest) = (16 * digit_value a + digit_value b) ∷ byte_pairs rest

-- the key that a text spells, two digits for each of its bytes
abbrev pub key_in : Text → Option Key
key_in t = if length t == 2 * KEY_BYTES && list_all is_hex_digit t then Some (record { 0 = byte_pairs t }) else None

-- ---- lists

-- each text read, where each can be
abbrev pub each_in : {X : Type 0} → (Text → Option X) → List Text → Option (List X)
each_in read [] = Some []
each_in read (t ∷ ts) = option_and_then (λ x. option_map (λ xs. x ∷ xs) (each_in read ts)) (read t)

-- the ASCII code of the mark between the pieces of a list
abbrev pub comma : ℕ
comma = 44

-- the ASCII code of the mark between the parts of an order
abbrev pub colon : ℕ
colon = 58

-- the pieces of a text between its marks, of which there is one more
abbrev pub pieces : ℕ → Text → List Text
pieces mark t = slice_split (λ c. c == mark) t

-- the list, where it has this length
abbrev pub if_length : {X : Type 0} → ℕ → List X → Option (List X)
if_length n xs = if length xs == n then Some xs else None

-- the owners that a text spells: as many as buckets, and each below the number of cores
abbrev pub owners_in : ℕ → ℕ → Text → Option (List ℕ)
owners_in cores buckets t = option_and_then (if_length buckets) (each_in (number_within 0 (cores - 1)) (pieces comma t))

-- the table of these owners
abbrev pub table_in : ℕ → ℕ → Text → Option TableView
table_in cores buckets t = option_map (λ list. record { cores = cores; owners = list }) (owners_in cores buckets t)

-- the order of the three parts AT:BUCKET:CORE
abbrev pub order_by : ℕ → ℕ → List Text → Option MoveOrder
order_by cores buckets (a ∷ b ∷ c ∷ []) = option_and_then (λ at. option_and_then (λ bucket. option_map (λ to.
    record { at = at; bucket = bucket; to = to }) (number_within 0 (cores - 1) c))
    (number_within 0 (buckets - 1) b)) (number_within 0 MOST_PACKETS a)
order_by cores buckets _ = None

-- the order that a text spells
abbrev pub order_in : ℕ → ℕ → Text → Option MoveOrder
order_in cores buckets t = order_by cores buckets (pieces colon t)

-- no position is below the one before it, and the first is no lower than this one
abbrev pub never_falls : ℕ → List MoveOrder → Bool
never_falls least [] = true
never_falls least (m ∷ ms) = nat_le least m.at && never_falls m.at ms

-- the orders, where there are not too many and no position falls
abbrev pub if_orders : List MoveOrder → Option (List MoveOrder)
if_orders ms = if nat_le (length ms) MOST_ORDERS && never_falls 0 ms then Some ms else None

-- the orders that a text spells
abbrev pub orders_in : ℕ → ℕ → Text → Option (List MoveOrder)
orders_in cores buckets t = option_and_then if_orders (each_in (order_in cores buckets) (pieces comma t))

-- ---- the values of a mode

-- two numbers, COUNT and NUMBER
abbrev pub two_numbers : Option Text → Option Text → Option Values
two_numbers (Some c) (Some n) = option_and_then (λ count. option_map (λ number. record { count = count; number = number })
    (number_within 0 MOST_NUMBER n)) (number_within 0 MOST_COUNT c)
two_numbers _ _ = None

-- no value, which counts as two zeros
abbrev pub no_values : Option Text → Option Text → Option Values
no_values None None = Some (record { count = 0; number = 0 })
no_values _ _ = None

-- what values a mode takes
abbrev pub values_in : Mode → Option Text → Option Text → Option Values
values_in mode.Make c n = two_numbers c n
values_in mode.Demo c n = two_numbers c n
values_in _ c n = no_values c n
