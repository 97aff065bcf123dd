-- A value that is read is in its range.
use Rattle.std.proofs.Common.{◌≡◌, ◌<◌, ◌≤◌, ◌-◌, ◌*◌, ℕ, Bool, cond, true, false, List, [], ◌∷◌, length, map, get_or, Option, Some, None, Ok, Err, refl, subst, zero, suc, ◌&&◌, ◌==◌, nat_eq, arith}
use Rattle.std.specs.Prelude.{nat_le, option_map, option_and_then}
use Rattle.std.specs.List.{All, Contains, list_all, list_any}
use Rattle.std.specs.List.Sorted.{IsNonDecreasing}
use Rattle.std.proofs.lemmas.Bool.{eqb-true, leb-true}
use Rattle.std.proofs.lemmas.List.Elements.{All-cons}
use Rattle.std.proofs.lemmas.Map.Views.{Contains-from_any}
use Rattle.dispatch_loop.specs.Accepted.{IsOrderFor, bucket_counts}
use Rattle.dispatch_loop.specs.declared.limits.TheConstants.{MOST_ORDERS}
use Rattle.flow_work.specs.declared.work.TheConstants.{MOST_PACKETS}
use Rattle.indirection.specs.Views.{TableView}
use Rattle.indirection.specs.declared.move_order.MoveOrder.{MoveOrder}
use Rattle.toeplitz.specs.declared.key.Key.{Key}
use Rattle.toeplitz.specs.declared.key.TheConstants.{KEY_BYTES}
use Rattle.std.specs.Option.{ok_or}
use Rattle.command_words.specs.declared.option_name.OptionName.{OptionName}
use Rattle.command_words.specs.declared.word_fault.WordFault.TheVariants as fault
use Rattle.command_words.specs.Reading.{Checked, Given, and_then, number_or, option_or}
use Rattle.command_words.specs.Values.{bounded, bucket_count_in, byte_pairs, comma, colon, each_in, if_bucket_count, if_length, if_orders, is_hex_digit, key_in, never_falls, number_in, number_within, order_by, order_in, orders_in, owners_in, pieces, table_in}
use Rattle.command_words.specs.Words.{Text}
use Rattle.command_words.proofs.Apart.{both}
use Rattle.command_words.proofs.ListLemmas.{pairs_length}

pub and_then_ok : {X Y : Type 0} (r : Checked X) (f : X → Checked Y) (y : Y) → and_then r f ≡ Ok y → (x : X) × (r ≡ Ok x) × (f x ≡ Ok y)
and_then_ok (Ok x) f y h = (x, refl, h)
and_then_ok (Err e) f y h = let no : Err e ≡ Ok y = h in cc

abbrev pub made_ok : {X : Type 0} → X → Checked X
made_ok x = Ok x

pub ok_is : {X : Type 0} (x y : X) → made_ok x ≡ made_ok y → x ≡ y
ok_is x y h = cc

pub some_of : {X Y : Type 0} (o : Option X) (f : X → Option Y) (y : Y) → option_and_then f o ≡ Some y → (x : X) × (o ≡ Some x) × (f x ≡ Some y)
some_of None f y h = let no : None ≡ Some y = h in cc
some_of (Some x) f y h = (x, refl, h)

pub if_some : {X : Type 0} (b : Bool) (x y : X) → cond b (Some x) None ≡ Some y → (b ≡ true) × (x ≡ y)
if_some true x y h = let same : Some x ≡ Some y = h in (refl, cc)
if_some false x y h = let no : None ≡ Some y = h in cc

pub within : (low high : ℕ) (t : Text) (n : ℕ) → number_within low high t ≡ Some n → (low ≤ n) × (n ≤ high)
within low high t n h =
    let one = some_of (number_in t) (bounded low high) n h in
    let two = if_some (nat_le low one.0 && nat_le one.0 high) one.0 n one.2 in
    let three = both (nat_le low one.0) (nat_le one.0 high) two.0 in
    subst (λ m. (low ≤ m) × (m ≤ high)) two.1 (leb-true low one.0 three.0, leb-true one.0 high three.1)

pub option_holds : {X : Type 0} (P : X → Type 0) (o : OptionName) (default : X) (read : Text → Option X) (g : Option Text) (x : X)
    → P default → ((t : Text) (y : X) → read t ≡ Some y → P y) → option_or o default read g ≡ Ok x → P x
option_holds {X} P o default read None x d step h = let same : Ok default ≡ Ok x = h in let e : default ≡ x = cc in subst P e d
option_holds {X} P o default read (Some t) x d step h = go (read t) refl h
  where
    go : (r : Option X) → read t ≡ r → ok_or r (fault.Option o) ≡ Ok x → P x
    go None e i = let no : Err (fault.Option o) ≡ Ok x = i in cc
    go (Some y) e i = let same : Ok y ≡ Ok x = i in let is : y ≡ x = cc in subst P is (step t y e)

pub number_holds : (o : OptionName) (default low high : ℕ) (g : Given) (n : ℕ) → low ≤ default → default ≤ high → number_or o default low high g ≡ Ok n → (low ≤ n) × (n ≤ high)
number_holds o default low high g n a b h =
    option_holds (λ m. (low ≤ m) × (m ≤ high)) o default (number_within low high) (g.options o) n (a, b) (λ t y e. within low high t y e) h

pub each_holds : {X : Type 0} (P : X → Type 0) (read : Text → Option X) (ts : List Text) (xs : List X) → ((t : Text) (y : X) → read t ≡ Some y → P y) → each_in read ts ≡ Some xs → All P xs
each_holds P read [] xs step h = let same : Some [] ≡ Some xs = h in let e : [] ≡ xs = cc in subst (All P) e (λ k d lt. absurd (omega arith))
each_holds {X} P read (t ∷ ts) xs step h =
    let one = some_of (read t) (λ x. option_map (λ ys. x ∷ ys) (each_in read ts)) xs h in
    go (each_in read ts) one.0 (step t one.0 one.1) one.2 (λ ys e. each_holds P read ts ys step e) refl
  where
    go : (o : Option (List X)) (x : X) → P x → option_map (λ ys. x ∷ ys) o ≡ Some xs → ((ys : List X) → o ≡ Some ys → All P ys) → o ≡ o → All P xs
    go None x p i rest same = let no : None ≡ Some xs = i in cc
    go (Some ys) x p i rest same =
        let e : (x ∷ ys) ≡ xs = let w : Some (x ∷ ys) ≡ Some xs = i in cc in
        subst (All P) e (All-cons P x ys p (rest ys refl))

-- ---- the owners of a table

pub owners_fit : (cores buckets : ℕ) (t : Text) (xs : List ℕ) → 1 ≤ cores → owners_in cores buckets t ≡ Some xs → (length xs ≡ buckets) × All (λ o. o < cores) xs
owners_fit cores buckets t xs low h =
    let one = some_of (each_in (number_within 0 (cores - 1)) (pieces comma t)) (if_length buckets) xs h in
    let two = if_some (length one.0 == buckets) one.0 xs one.2 in
    let all : All (λ o. o < cores) one.0 = each_holds (λ o. o < cores) (number_within 0 (cores - 1)) (pieces comma t) one.0
    (λ w n e. let most = (within 0 (cores - 1) w n e).1 in omega arith) one.1 in
    subst (λ ys. (length ys ≡ buckets) × All (λ o. o < cores) ys) two.1 (eqb-true (length one.0) buckets two.0, all)

-- ---- orders

order_fits : (table : TableView) (ws : List Text) (m : MoveOrder) → 1 ≤ table.cores → 1 ≤ length table.owners → order_by table.cores (length table.owners) ws ≡ Some m → IsOrderFor table m
order_fits table [] m a b h = let no : None ≡ Some m = h in cc
order_fits table (x ∷ []) m a b h = let no : None ≡ Some m = h in cc
order_fits table (x ∷ y ∷ []) m a b h = let no : None ≡ Some m = h in cc
order_fits table (x ∷ y ∷ z ∷ u ∷ us) m a b h = let no : None ≡ Some m = h in cc
order_fits table (x ∷ y ∷ z ∷ []) m a b h =
    let one = some_of (number_within 0 MOST_PACKETS x) _ m h in
    let two = some_of (number_within 0 (length table.owners - 1) y) _ m one.2 in
    go (number_within 0 (table.cores - 1) z) refl two.2 (within 0 MOST_PACKETS x one.0 one.1).1 (within 0 (length table.owners - 1) y two.0 two.1).1
  where
    go : {at bucket : ℕ} (o : Option ℕ) → number_within 0 (table.cores - 1) z ≡ o → option_map (λ to. record { at = at; bucket = bucket; to = to }) o ≡ Some m
        → at ≤ MOST_PACKETS → bucket ≤ length table.owners - 1 → IsOrderFor table m
    go None e i p q = let no : None ≡ Some m = i in cc
    go {at} {bucket} (Some to) e i p q =
        let most = (within 0 (table.cores - 1) z to e).1 in
        let same : Some (record { at = at; bucket = bucket; to = to }) ≡ Some m = i in
        let is : record { at = at; bucket = bucket; to = to } ≡ m = cc in
        subst (IsOrderFor table) is (record { at = p; bucket = omega arith; to = omega arith })

abbrev positions : List MoveOrder → List ℕ
positions ms = map (λ m. m.at) ms

-- where no position falls, none is below the first bound
none_below : (least : ℕ) (ms : List MoveOrder) → never_falls least ms ≡ true → (j d : ℕ) → j < length (positions ms) → least ≤ get_or (positions ms) j d
none_below least [] h j d lt = absurd (omega arith)
none_below least (m ∷ ms) h zero d lt = leb-true least m.at (both (nat_le least m.at) (never_falls m.at ms) h).0
none_below least (m ∷ ms) h (suc j) d lt =
    let two = both (nat_le least m.at) (never_falls m.at ms) h in
    let first : least ≤ m.at = leb-true least m.at two.0 in
    let inside : j < length (positions ms) = omega arith in
    let rest : m.at ≤ get_or (positions ms) j d = none_below m.at ms two.1 j d inside in
    omega arith

rises : (least : ℕ) (ms : List MoveOrder) → never_falls least ms ≡ true → IsNonDecreasing (positions ms)
rises least [] h i j d le lt = absurd (omega arith)
rises least (m ∷ ms) h zero zero d le lt = omega arith
rises least (m ∷ ms) h zero (suc j) d le lt = none_below m.at ms (both (nat_le least m.at) (never_falls m.at ms) h).1 j d (omega arith)
rises least (m ∷ ms) h (suc i) zero d le lt = absurd (omega arith)
rises least (m ∷ ms) h (suc i) (suc j) d le lt = rises m.at ms (both (nat_le least m.at) (never_falls m.at ms) h).1 i j d (omega arith) (omega arith)

pub rises_none : IsNonDecreasing (positions [])
rises_none i j d le lt = absurd (omega arith)

-- what is said of accepted orders
pub record FitOrders (table : TableView) (ms : List MoveOrder) : Type 0 where
  pub orders : All (IsOrderFor table) ms
  pub most : length ms ≤ MOST_ORDERS
  pub rising : IsNonDecreasing (positions ms)

pub orders_fit : (table : TableView) (t : Text) (ms : List MoveOrder) → 1 ≤ table.cores → 1 ≤ length table.owners → orders_in table.cores (length table.owners) t ≡ Some ms → FitOrders table ms
orders_fit table t ms a b h =
    let one = some_of (each_in (order_in table.cores (length table.owners)) (pieces comma t)) if_orders ms h in
    let two = if_some (nat_le (length one.0) MOST_ORDERS && never_falls 0 one.0) one.0 ms one.2 in
    let three = both (nat_le (length one.0) MOST_ORDERS) (never_falls 0 one.0) two.0 in
    let all = each_holds (IsOrderFor table) (order_in table.cores (length table.owners)) (pieces comma t) one.0 (λ w m e. order_fits table (pieces colon w) m a b e) one.1 in
    subst (FitOrders table) two.1 (record { orders = all; most = leb-true (length one.0) MOST_ORDERS three.0; rising = rises 0 one.0 three.1 })

pub no_orders : (table : TableView) → FitOrders table []
no_orders table = record { orders = λ n m lt. absurd (omega arith); most = omega arith; rising = rises_none }

-- ---- the table, the number of buckets and the key

pub record FitsTable (cores buckets : ℕ) (t : TableView) : Type 0 where
  pub cores_are : t.cores ≡ cores
  pub buckets_are : length t.owners ≡ buckets
  pub owners : All (λ owner. owner < t.cores) t.owners

pub table_fits : (cores buckets : ℕ) (t : Text) (v : TableView) → 1 ≤ cores → table_in cores buckets t ≡ Some v → FitsTable cores buckets v
table_fits cores buckets t v low h = go (owners_in cores buckets t) refl h
  where
    go : (o : Option (List ℕ)) → owners_in cores buckets t ≡ o → option_map (λ list. record { cores = cores; owners = list }) o ≡ Some v → FitsTable cores buckets v
    go None e i = let no : None ≡ Some v = i in cc
    go (Some xs) e i =
        let same : Some (record { cores = cores; owners = xs }) ≡ Some v = i in
        let is : record { cores = cores; owners = xs } ≡ v = cc in
        let fits = owners_fit cores buckets t xs low e in
        subst (FitsTable cores buckets) is (record { cores_are = refl; buckets_are = fits.0; owners = fits.1 })

pub bucket_count_fits : (t : Text) (n : ℕ) → bucket_count_in t ≡ Some n → Contains bucket_counts n
bucket_count_fits t n h =
    let one = some_of (number_in t) if_bucket_count n h in
    let two = if_some (list_any (λ count. one.0 == count) bucket_counts) one.0 n one.2 in
    subst (Contains bucket_counts) two.1 (Contains-from_any {eq = nat_eq} eqb-true one.0 bucket_counts two.0)

pub key_fits : (t : Text) (k : Key) → key_in t ≡ Some k → length k.0 ≡ KEY_BYTES
key_fits t k h =
    let one = if_some (length t == 2 * KEY_BYTES && list_all is_hex_digit t) (record { 0 = byte_pairs t }) k h in
    let two = both (length t == 2 * KEY_BYTES) (list_all is_hex_digit t) one.0 in
    let size : length t ≡ 2 * KEY_BYTES = eqb-true (length t) (2 * KEY_BYTES) two.0 in
    subst (λ (k : Key). length k.0 ≡ KEY_BYTES) one.1 (pairs_length t KEY_BYTES size)
