-- The custody of a journal, and lists of custodies in order.
use Rattle.std.specs.Prelude.{◌≡◌, ℕ, zero, suc, ◌+◌, ◌<◌, ◌⊎◌, ◌==◌, if◌then◌else◌, Bool, false, List, [], ◌∷◌, ◌++◌, map}
use Rattle.bucket_table.specs.declared.custody.Custody.{Custody}
use Rattle.indirection.specs.Tries.{Try, ask_to}
use Rattle.indirection.specs.Stints.{Stint}
use Rattle.handover_core.specs.Spans.{Span, spans_at}

abbrev pub custody_of : ℕ → Stint → Custody
custody_of b s = record { bucket = b; core = s.core; from = s.from; to = s.to }

-- the stints of the first n buckets, by bucket
abbrev pub custody_upto : (ℕ → List Stint) → ℕ → List Custody
custody_upto st zero = []
custody_upto st (suc n) = custody_upto st n ++ map (custody_of n) (st n)

-- the logs of the first n cores
abbrev pub all_logs : (ℕ → List Custody) → ℕ → List Custody
all_logs logs zero = []
all_logs logs (suc n) = all_logs logs n ++ logs n

-- by bucket and then by place
abbrev pub Before : Custody → Custody → Type 0
Before x y = (x.bucket < y.bucket) ⊎ ((x.bucket ≡ y.bucket) × (x.from < y.from))

abbrev pub AllAre : (Custody → Type 0) → List Custody → Type 0
AllAre P [] = Unit {0}
AllAre P (x ∷ xs) = P x × AllAre P xs

-- none stands before an earlier one
abbrev pub IsOrdered : List Custody → Type 0
IsOrdered [] = Unit {0}
IsOrdered (x ∷ xs) = AllAre (λ y. ¬ (Before y x)) xs × IsOrdered xs

-- each stands before the later ones
abbrev pub IsRising : List Custody → Type 0
IsRising [] = Unit {0}
IsRising (x ∷ xs) = AllAre (Before x) xs × IsRising xs

-- how often an entry stands in a list
abbrev pub same_span : Span → Span → Bool
same_span s t = if t.0 == s.0 then t.1 == s.1 else false

abbrev pub same_custody : Custody → Custody → Bool
same_custody x y = if y.core == x.core then (if y.bucket == x.bucket then same_span (x.from, x.to) (y.from, y.to) else false) else false

abbrev pub times : Custody → List Custody → ℕ
times x [] = 0
times x (y ∷ ys) = (if same_custody x y then 1 else 0) + times x ys

abbrev pub times_in : Span → List Span → ℕ
times_in s [] = 0
times_in s (t ∷ ts) = (if same_span s t then 1 else 0) + times_in s ts

abbrev pub AreOfCores : ℕ → List Stint → Type 0
AreOfCores n [] = Unit {0}
AreOfCores n (s ∷ ss) = (s.core < n) × AreOfCores n ss

-- the tries ask for cores
abbrev pub AreTo : ℕ → List Try → Type 0
AreTo n [] = Unit {0}
AreTo n (t ∷ ts) = (ask_to t.ask < n) × AreTo n ts

-- the stretches lie one behind the other from one place to another
abbrev pub Meet : ℕ → List Span → ℕ → Type 0
Meet from [] to = from ≡ to
Meet from (p ∷ ps) to = (p.0 ≡ from) × (from < p.1) × Meet p.1 ps to

abbrev pub stint_span : Stint → Span
stint_span s = (s.from, s.to)

-- what the first n cores have of some stints
abbrev pub all_spans : List Stint → ℕ → List Span
all_spans ss zero = []
all_spans ss (suc n) = all_spans ss n ++ spans_at n ss
