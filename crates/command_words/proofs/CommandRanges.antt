-- A reading that gives a command gives one with every field in its range.
use Rattle.std.proofs.Common.{◌≡◌, ◌≤◌, ℕ, Bool, true, false, List, [], ◌∷◌, ◌&&◌, length, sym, lit≤, lit<, Option, Some, None, Ok, Err, refl, subst, arith, cond}
use Rattle.std.specs.Prelude.{nat_le, option_map, IfSome}
use Rattle.std.specs.List.{All, Contains, list_all}
use Rattle.std.proofs.lemmas.Bool.{leb-true}
use Rattle.std.proofs.lemmas.List.Elements.{All-cons}
use Rattle.dispatch_loop.specs.Accepted.{IsAccepted, bucket_counts}
use Rattle.dispatch_loop.specs.OptionsView.{OptionsView}
use Rattle.dispatch_loop.specs.declared.limits.TheConstants.{DEFAULT_BUCKETS, DEFAULT_CORES, DEFAULT_LIMIT, DEFAULT_PACKETS, DEFAULT_POOL, DEFAULT_ROUND}
use Rattle.dispatch_loop.specs.declared.limits.TheConstants.{LEAST_PACKETS, LEAST_POOL, LEAST_ROUND, MOST_LIMIT, MOST_POOL, MOST_ROUND}
use Rattle.flow_work.specs.declared.work.TheConstants.{MOST_PACKETS}
use Rattle.indirection.proofs.Upto.{All-owners_in_turn, length-owners_in_turn}
use Rattle.indirection.specs.Tables.{IsTable, owners_in_turn}
use Rattle.indirection.specs.Views.{TableView}
use Rattle.indirection.specs.declared.limits.TheConstants.{MOST_BUCKETS, MOST_CORES}
use Rattle.toeplitz.specs.declared.key.Key.{Key}
use Rattle.toeplitz.specs.declared.key.TheConstants.{DEFAULT_KEY, KEY_BYTES}
use Rattle.std.specs.Option.{ok_or}
use Rattle.balancer.specs.declared.policy_name.PolicyName.TheVariants.{Greedy}
use Rattle.command_words.specs.declared.command.Command.{Command}
use Rattle.command_words.specs.declared.limits.TheConstants.{MOST_COUNT, MOST_NUMBER}
use Rattle.command_words.specs.declared.mode.Mode.{Mode}
use Rattle.command_words.specs.declared.mode.Mode.TheVariants as mode
use Rattle.command_words.specs.declared.option_name.OptionName.TheVariants.{Cores, Buckets, Key as KeyOption, Table, Moves, Round, Limit, Pool, Packets, Serial}
use Rattle.command_words.specs.declared.values.Values.{Values}
use Rattle.command_words.specs.declared.word_fault.WordFault.TheVariants as fault
use Rattle.command_words.specs.Ranges.{IsAcceptedCommand, takes_values}
use Rattle.command_words.specs.Reading.{Given, command_of, given_by, read_buckets, read_command, read_cores, read_key, read_limit, read_mode, read_options, read_orders, read_packets, read_parts, read_pool, read_round, read_serial, read_start, read_values, read_work, serial_in}
use Rattle.command_words.specs.Values.{bucket_count_in, key_in, no_values, number_within, orders_in, table_in, two_numbers, values_in}
use Rattle.command_words.specs.Words.{Part, Text, parts_of}
use Rattle.command_words.proofs.Apart.{both}
use Rattle.command_words.proofs.ValueRanges.{FitOrders, FitsTable, and_then_ok, bucket_count_fits, key_fits, no_orders, number_holds, ok_is, option_holds, orders_fit, some_of, table_fits, within}

-- ---- the options

spread_fits : (cores buckets : ℕ) → 1 ≤ cores → FitsTable cores buckets (record { cores = cores; owners = owners_in_turn cores buckets })
spread_fits cores buckets low = record {
  cores_are = refl;
  buckets_are = length-owners_in_turn cores buckets;
  owners = All-owners_in_turn cores buckets low;
}

abbrev InBounds : ℕ → Type 0
InBounds n = (1 ≤ n) × (n ≤ MOST_BUCKETS)

all_bounds : (ns : List ℕ) → list_all (λ n. nat_le 1 n && nat_le n MOST_BUCKETS) ns ≡ true → All InBounds ns
all_bounds [] h = λ k d lt. absurd (omega arith)
all_bounds (n ∷ ns) h =
    let two = both (nat_le 1 n && nat_le n MOST_BUCKETS) (list_all (λ n. nat_le 1 n && nat_le n MOST_BUCKETS) ns) h in
    let three = both (nat_le 1 n) (nat_le n MOST_BUCKETS) two.0 in
    All-cons InBounds n ns (leb-true 1 n three.0, leb-true n MOST_BUCKETS three.1) (all_bounds ns two.1)

-- a number of buckets is within the limits
count_bounds : (n : ℕ) → Contains bucket_counts n → (1 ≤ n) × (n ≤ MOST_BUCKETS)
count_bounds n h = subst InBounds h.2 (all_bounds bucket_counts refl h.0 n h.1)

table_is : (cores buckets : ℕ) (t : TableView) → (1 ≤ cores) × (cores ≤ MOST_CORES) → (1 ≤ buckets) × (buckets ≤ MOST_BUCKETS) → FitsTable cores buckets t → IsTable t
table_is cores buckets t low high fits =
    let c = fits.cores_are in
    let b = fits.buckets_are in
    record { some_core = omega arith; cores = omega arith; some_bucket = omega arith; buckets = omega arith; owners = fits.owners }

orders_read : (cores buckets : ℕ) (table : TableView) (g : Given) → 1 ≤ cores → 1 ≤ buckets → FitsTable cores buckets table → (ms : List _)
    → read_orders cores buckets g ≡ Ok ms → FitOrders table ms
orders_read cores buckets table g a b fits ms h =
    let c = fits.cores_are in
    let d = fits.buckets_are in
    option_holds (FitOrders table) Moves [] (orders_in cores buckets) (g.options Moves) ms (no_orders table)
    (λ t v w. orders_fit table t v (omega arith) (omega arith) (rw (c, d) w)) h

pub options_fit : (g : Given) (o : OptionsView) → read_options g ≡ Ok o → IsAccepted o
options_fit g o h =
    let a = and_then_ok (read_cores g) _ o h in
    let b = and_then_ok (read_buckets g) _ o a.2 in
    let c = and_then_ok (read_key g) _ o b.2 in
    let d = and_then_ok (read_start a.0 b.0 g) _ o c.2 in
    let e = and_then_ok (read_work g) _ o d.2 in
    let f = and_then_ok (read_orders a.0 b.0 g) _ o e.2 in
    let i = and_then_ok (read_round g) _ o f.2 in
    let j = and_then_ok (read_limit g) _ o i.2 in
    let k = and_then_ok (read_pool g) _ o j.2 in
    let l = and_then_ok (read_packets g) _ o k.2 in
    let made : OptionsView = record {
      key = c.0;
      cores = a.0;
      start = d.0;
      work = e.0;
      moves = f.0;
      round = i.0;
      limit = j.0;
      policy = Greedy;
      pool = k.0;
      packets = l.0;
    } in
    let is : made ≡ o = ok_is made o l.2 in
    let cores = number_holds Cores DEFAULT_CORES 1 MOST_CORES g a.0 (lit≤ tt) (lit≤ tt) a.1 in
    let count : Contains bucket_counts b.0 = option_holds (Contains bucket_counts) Buckets DEFAULT_BUCKETS bucket_count_in (g.options Buckets) b.0 (7, lit< tt, refl) bucket_count_fits b.1 in
    let buckets = count_bounds b.0 count in
    let key = option_holds (λ (key : Key). length key.0 ≡ KEY_BYTES) KeyOption DEFAULT_KEY key_in (g.options KeyOption) c.0 refl key_fits c.1 in
    let table : FitsTable a.0 b.0 d.0 = option_holds (FitsTable a.0 b.0) Table (record { cores = a.0; owners = owners_in_turn a.0 b.0 }) (table_in a.0 b.0) (g.options Table) d.0
    (spread_fits a.0 b.0 cores.0) (λ t v w. table_fits a.0 b.0 t v cores.0 w) d.1 in
    let orders = orders_read a.0 b.0 d.0 g cores.0 buckets.0 table f.0 f.1 in
    let round = number_holds Round DEFAULT_ROUND LEAST_ROUND MOST_ROUND g i.0 (lit≤ tt) (lit≤ tt) i.1 in
    let limit = number_holds Limit DEFAULT_LIMIT 0 MOST_LIMIT g j.0 (lit≤ tt) (lit≤ tt) j.1 in
    let pool = number_holds Pool DEFAULT_POOL LEAST_POOL MOST_POOL g k.0 (lit≤ tt) (lit≤ tt) k.1 in
    let packets = number_holds Packets DEFAULT_PACKETS LEAST_PACKETS MOST_PACKETS g l.0 (lit≤ tt) (lit≤ tt) l.1 in
    subst IsAccepted is (record {
      key = key;
      cores = table.cores_are;
      start = table_is a.0 b.0 d.0 cores buckets table;
      buckets = rw table.buckets_are count;
      orders = orders.orders;
      rising = orders.rising;
      most_orders = orders.most;
      round = round;
      limit = limit.1;
      pool = pool;
      packets = packets;
    })

-- ---- the values of a mode

record FitsValues (m : Mode) (v : Values) : Type 0 where
  count : v.count ≤ MOST_COUNT
  number : v.number ≤ MOST_NUMBER
  none : takes_values m ≡ false → (v.count ≡ 0) × (v.number ≡ 0)

two_fit : (m : Mode) (c n : Option Text) (v : Values) → takes_values m ≡ true → two_numbers c n ≡ Some v → FitsValues m v
two_fit m None n v takes h = let no : None ≡ Some v = h in cc
two_fit m (Some c) None v takes h = let no : None ≡ Some v = h in cc
two_fit m (Some c) (Some n) v takes h =
    let one = some_of (number_within 0 MOST_COUNT c) _ v h in
    go one.0 (within 0 MOST_COUNT c one.0 one.1).1 (number_within 0 MOST_NUMBER n) refl one.2
  where
    go : (count : ℕ) → count ≤ MOST_COUNT → (o : Option ℕ) → number_within 0 MOST_NUMBER n ≡ o → option_map (λ number. record { count = count; number = number }) o ≡ Some v → FitsValues m v
    go count low None e i = let no : None ≡ Some v = i in cc
    go count low (Some number) e i =
        let same : Some (record { count = count; number = number }) ≡ Some v = i in
        let is : record { count = count; number = number } ≡ v = cc in
        subst (FitsValues m) is (record {
          count = low;
          number = (within 0 MOST_NUMBER n number e).1;
          none = λ other. let no : true ≡ false = rw takes at other in cc;
        })

none_fit : (m : Mode) (c n : Option Text) (v : Values) → no_values c n ≡ Some v → FitsValues m v
none_fit m (Some c) n v h = let no : None ≡ Some v = h in cc
none_fit m None (Some n) v h = let no : None ≡ Some v = h in cc
none_fit m None None v h =
    let same : Some (record { count = 0; number = 0 }) ≡ Some v = h in
    let is : record { count = 0; number = 0 } ≡ v = cc in
    subst (FitsValues m) is (record { count = omega arith; number = omega arith; none = λ other. (refl, refl) })

values_fit : (m : Mode) (c n : Option Text) (v : Values) → values_in m c n ≡ Some v → FitsValues m v
values_fit mode.Make c n v h = two_fit mode.Make c n v refl h
values_fit mode.Demo c n v h = two_fit mode.Demo c n v refl h
values_fit mode.Report c n v h = none_fit mode.Report c n v h
values_fit mode.Hash c n v h = none_fit mode.Hash c n v h
values_fit mode.Plan c n v h = none_fit mode.Plan c n v h

values_read : (m : Mode) (g : Given) (v : Values) → read_values m g ≡ Ok v → FitsValues m v
values_read m g v h = go (values_in m g.count g.number) refl h
  where
    go : (o : Option Values) → values_in m g.count g.number ≡ o → ok_or o fault.Values ≡ Ok v → FitsValues m v
    go None e i = let no : Err fault.Values ≡ Ok v = i in cc
    go (Some w) e i = let same : w ≡ v = ok_is w v i in subst (FitsValues m) same (values_fit m g.count g.number w e)

-- ---- the command

abbrev FitsSerial : Option ℕ → Type 0
FitsSerial o = IfSome o (λ n. n ≤ MOST_NUMBER)

serial_fits : (t : Text) (o : Option ℕ) → serial_in t ≡ Some o → FitsSerial o
serial_fits t o h = go (number_within 0 MOST_NUMBER t) refl h
  where
    go : (r : Option ℕ) → number_within 0 MOST_NUMBER t ≡ r → option_map (λ n. Some n) r ≡ Some o → FitsSerial o
    go None e i = let no : None ≡ Some o = i in cc
    go (Some n) e i =
        let same : Some (Some n) ≡ Some o = i in
        let is : Some n ≡ o = cc in
        subst FitsSerial is (within 0 MOST_NUMBER t n e).1

-- a command that is read is in its ranges
read_fits : (g : Given) (c : Command) → read_command g ≡ Ok c → IsAcceptedCommand c
read_fits g c h =
    let a = and_then_ok (read_mode g) _ c h in
    let b = and_then_ok (read_values a.0 g) _ c a.2 in
    let d = and_then_ok (read_options g) _ c b.2 in
    let e = and_then_ok (read_serial g) _ c d.2 in
    let made : Command = record {
      mode = a.0;
      count = b.0.count;
      number = b.0.number;
      options = d.0;
      serial = e.0;
      journal = g.journal;
    } in
    let is : made ≡ c = ok_is made c e.2 in
    let values : FitsValues a.0 b.0 = values_read a.0 g b.0 b.1 in
    let serial : FitsSerial e.0 = option_holds FitsSerial Serial None serial_in (g.options Serial) e.0 tt serial_fits e.1 in
    let options = options_fit g d.0 d.1 in
    subst IsAcceptedCommand is (record {
      options = options;
      count = values.count;
      number = values.number;
      no_values = values.none;
      serial = serial;
    })

-- what the words ask for is in range
pub command_fits : (words : List Text) (c : Command) → command_of words ≡ Ok c → IsAcceptedCommand c
command_fits words c h = go (parts_of words) h
  where
    go : (o : Option (List Part)) → read_parts o ≡ Ok c → IsAcceptedCommand c
    go None e = let no : Err fault.Words ≡ Ok c = e in cc
    go (Some ps) e = read_fits (given_by ps) c e
