-- A journal and custody are read back from their lines.
use Rattle.std.proofs.Common.{◌≡◌, ℕ, ◌<◌, arith, List, [], ◌∷◌, ◌++◌, length, get_or, map, refl, ap, ◌∙◌, Bool, true, false, cond, ◌==◌, Option, Some, None, codes}
use Rattle.std.proofs.lemmas.Bool.Decides.{nat_tests}
use Rattle.std.proofs.lemmas.Fmt.{decimal_is_IsNumeral_wide}
use Rattle.std.proofs.lemmas.List.{append-nil}
use Rattle.std.specs.Fmt.{decimal}
use Rattle.std.specs.Char.{digit_value}
use Rattle.std.specs.Str.Parse.{IsNumeral, digits_value}
use Rattle.std.specs.List.{AllByRecursion, flat_map, zip}
use Rattle.bucket_table.specs.declared.custody.Custody.{Custody}
use Rattle.indirection.specs.declared.proposal.Proposal.{Proposal}
use Rattle.indirection.specs.declared.outcome.Outcome.{Outcome}
use Rattle.indirection.specs.declared.outcome.Outcome.TheVariants.{Moved, Placed, Same, InPassage}
use Rattle.indirection.specs.declared.order_entry.OrderEntry.{OrderEntry}
use Rattle.indirection.specs.declared.entry.Entry.{Entry}
use Rattle.indirection.specs.declared.entry.Entry.TheVariants.{Round, Order}
use Rattle.indirection.specs.Views.{RoundView}
use Rattle.indirection.specs.JournalView.{JournalView}
use Rattle.flow_report.specs.JournalText.{outcome_words, passage_word, proposal_line, order_line, round_line, custody_line, entry_lines, journal_lines, HasWholeRounds}
use Rattle.flow_report.specs.JournalNumbers.{IsShort, HasShortNumbers, outcome_numbers, passage_numbers, proposal_numbers, entry_numbers, custody_numbers}

-- ---- numbers

abbrev number : List ℕ → ℕ
number word = digits_value 10 word

abbrev first : List ℕ → ℕ
first word = get_or word 0 0

number_back : (n : ℕ) → IsShort n → number (decimal n) ≡ n
number_back n short = (decimal_is_IsNumeral_wide n short).1

numbers_back : (ns : List ℕ) → AllByRecursion IsShort ns → map number (map decimal ns) ≡ ns
numbers_back [] short = refl
numbers_back (n ∷ ns) short =
    let here = number_back n short.0 in
    let later = numbers_back ns short.1 in
    cc

no_digit : (word : List ℕ) (byte : ℕ) → IsNumeral 10 word → 9 < digit_value byte → (first word == byte) ≡ false
no_digit [] byte h out = absurd (omega arith)
no_digit (c ∷ cs) byte h out = by (c == byte) refl
  where
    by : (r : Bool) → (c == byte) ≡ r → r ≡ false
    by false e = refl
    by true e =
        let same : c ≡ byte = grind (arith, nat_tests) in
        let digit = h.1.0 in
        absurd (omega (arith, ap digit_value same))

-- a number is neither `base` nor `-`
not_base : (n : ℕ) → IsShort n → (first (decimal n) == 98) ≡ false
not_base n short = no_digit (decimal n) 98 (decimal_is_IsNumeral_wide n short).0 (omega arith)

not_dash : (n : ℕ) → IsShort n → (first (decimal n) == 45) ≡ false
not_dash n short = no_digit (decimal n) 45 (decimal_is_IsNumeral_wide n short).0 (omega arith)

short_front : (xs ys : List ℕ) → AllByRecursion IsShort (xs ++ ys) → AllByRecursion IsShort xs
short_front [] ys short = tt
short_front (x ∷ xs) ys short = (short.0, short_front xs ys short.1)

short_behind : (xs ys : List ℕ) → AllByRecursion IsShort (xs ++ ys) → AllByRecursion IsShort ys
short_behind [] ys short = short
short_behind (x ∷ xs) ys short = short_behind xs ys short.1

-- ---- outcomes

abbrev passage_of : List ℕ → Option ℕ
passage_of word = cond (first word == 45) None (Some (number word))

passage_back : (word : Option ℕ) → AllByRecursion IsShort (passage_numbers word) → passage_of (passage_word word) ≡ word
passage_back None short = refl
passage_back (Some word) short =
    ap (λ b. cond b None (Some (number (decimal word)))) (not_dash word short.0) ∙ ap (λ n. Some n) (number_back word short.0)

abbrev outcome_of : List (List ℕ) → Outcome
outcome_of (kind ∷ []) = cond (first kind == 115) Same Placed
outcome_of (kind ∷ tail ∷ []) = Moved (number tail)
outcome_of (kind ∷ tail ∷ sent ∷ word ∷ []) = InPassage (number tail) (number sent) (passage_of word)
outcome_of _ = Same

outcome_back : (o : Outcome) → AllByRecursion IsShort (outcome_numbers o) → outcome_of (outcome_words o) ≡ o
outcome_back (Moved tail) short = ap (λ n. Moved n) (number_back tail short.0)
outcome_back Placed short = refl
outcome_back Same short = refl
outcome_back (InPassage tail sent word) short =
    let a = number_back tail short.0 in
    let b = number_back sent short.1.0 in
    let c = passage_back word short.1.1 in
    λ i. InPassage (a i) (b i) (c i)

-- ---- loads

abbrev before_base : List (List ℕ) → List ℕ
before_base [] = []
before_base (w ∷ ws) = cond (first w == 98) [] (number w ∷ before_base ws)

abbrev behind_base : List (List ℕ) → List ℕ
behind_base [] = []
behind_base (w ∷ ws) = cond (first w == 98) (map number ws) (behind_base ws)

before_back : (ns : List ℕ) (ws : List (List ℕ)) → AllByRecursion IsShort ns → before_base (map decimal ns ++ codes "base" ∷ ws) ≡ ns
before_back [] ws short = refl
before_back (n ∷ ns) ws short =
    let rest = before_base (map decimal ns ++ codes "base" ∷ ws) in
    let a = number_back n short.0 in
    let b = before_back ns ws short.1 in
    ap (λ r. cond r [] (number (decimal n) ∷ rest)) (not_base n short.0) ∙ (λ i. a i ∷ b i)

behind_back : (ns ms : List ℕ) → AllByRecursion IsShort ns → AllByRecursion IsShort ms → behind_base (map decimal ns ++ codes "base" ∷ map decimal ms) ≡ ms
behind_back [] ms short all = numbers_back ms all
behind_back (n ∷ ns) ms short all =
    let ws = map decimal ns ++ codes "base" ∷ map decimal ms in
    ap (λ r. cond r (map number ws) (behind_base ws)) (not_base n short.0) ∙ behind_back ns ms short.1 all

-- ---- lines

-- what was read of the last lines: proposals whose round stands before them, entries and custody
pub record Read : Type 0 where
  pub tried : List (Proposal × Outcome)
  pub entries : List Entry
  pub custody : List Custody

abbrev proposal_of : List (List ℕ) → Proposal × Outcome
proposal_of (kind ∷ bucket ∷ from ∷ to ∷ word ∷ gain ∷ outcome) =
    (record { bucket = number bucket; from = number from; to = number to; gain = number gain }, outcome_of outcome)
proposal_of _ = (record { bucket = 0; from = 0; to = 0; gain = 0 }, Same)

abbrev order_of : List (List ℕ) → OrderEntry
order_of (kind ∷ at ∷ bucket ∷ to ∷ outcome) = record { order = record { at = number at; bucket = number bucket; to = number to }; outcome = outcome_of outcome }
order_of _ = record { order = record { at = 0; bucket = 0; to = 0 }; outcome = Same }

abbrev custody_of : List (List ℕ) → Custody
custody_of (kind ∷ bucket ∷ core ∷ from ∷ to ∷ []) = record { bucket = number bucket; core = number core; from = number from; to = number to }
custody_of _ = record { bucket = 0; core = 0; from = 0; to = 0 }

abbrev round_of : List (List ℕ) → List (Proposal × Outcome) → RoundView
round_of (kind ∷ at ∷ word ∷ loads) tried =
    record { at = number at; loads = record { bucket = before_base loads; base = behind_base loads }; proposals = map (λ t. t.0) tried; outcomes = map (λ t. t.1) tried }
round_of _ tried = record { at = 0; loads = record { bucket = []; base = [] }; proposals = []; outcomes = [] }

abbrev kind_of : List (List ℕ) → ℕ
kind_of [] = 0
kind_of (w ∷ ws) = first w

-- a line before others, by the first letter of its first word: `custody`, `propose`, `order`, `round`
abbrev read_line : List (List ℕ) → Read → Read
read_line l r =
    cond (kind_of l == 99) (record r { custody = custody_of l ∷ r.custody })
    (cond (kind_of l == 112) (record r { tried = proposal_of l ∷ r.tried })
    (cond (kind_of l == 111) (record r { entries = Order (order_of l) ∷ r.entries })
    (cond (kind_of l == 114) (record r { tried = []; entries = Round (round_of l r.tried) ∷ r.entries }) r)))

abbrev read_from : Read → List (List (List ℕ)) → Read
read_from r [] = r
read_from r (l ∷ ls) = read_line l (read_from r ls)

read_from-append : (r : Read) (xs ys : List (List (List ℕ))) → read_from r (xs ++ ys) ≡ read_from (read_from r ys) xs
read_from-append r [] ys = refl
read_from-append r (x ∷ xs) ys = ap (read_line x) (read_from-append r xs ys)

custody_back : (c : Custody) → AllByRecursion IsShort (custody_numbers c) → custody_of (custody_line c) ≡ c
custody_back c short =
    let a = number_back c.bucket short.0 in
    let b = number_back c.core short.1.0 in
    let d = number_back c.from short.1.1.0 in
    let e = number_back c.to short.1.1.1.0 in
    λ i. record { bucket = a i; core = b i; from = d i; to = e i }

all_custody_back : (r : Read) (cs : List Custody) → AllByRecursion IsShort (flat_map custody_numbers cs) → read_from r (map custody_line cs) ≡ record r { custody = cs ++ r.custody }
all_custody_back r [] short = refl
all_custody_back r (c ∷ cs) short =
    let here = custody_back c (short_front (custody_numbers c) (flat_map custody_numbers cs) short) in
    let later = all_custody_back r cs (short_behind (custody_numbers c) (flat_map custody_numbers cs) short) in
    ap (read_line (custody_line c)) later ∙ ap (λ (d : Custody). record r { custody = d ∷ (cs ++ r.custody) }) here

proposal_back : (p : Proposal) (o : Outcome) → AllByRecursion IsShort (proposal_numbers p) → AllByRecursion IsShort (outcome_numbers o) → proposal_of (proposal_line p o) ≡ (p, o)
proposal_back p o short shorts =
    let a = number_back p.bucket short.0 in
    let b = number_back p.from short.1.0 in
    let d = number_back p.to short.1.1.0 in
    let e = number_back p.gain short.1.1.1.0 in
    let f = outcome_back o shorts in
    λ i. (record { bucket = a i; from = b i; to = d i; gain = e i }, f i)

abbrev tried_lines : List Proposal → List Outcome → List (List (List ℕ))
tried_lines ps os = map (λ tried. proposal_line tried.0 tried.1) (zip ps os)

tried_back : (r : Read) (ps : List Proposal) (os : List Outcome) → AllByRecursion IsShort (flat_map proposal_numbers ps) → AllByRecursion IsShort (flat_map outcome_numbers os) → read_from r (tried_lines ps os) ≡ record r { tried = zip ps os ++ r.tried }
tried_back r [] os short shorts = refl
tried_back r (p ∷ ps) [] short shorts = refl
tried_back r (p ∷ ps) (o ∷ os) short shorts =
    let here = proposal_back p o (short_front (proposal_numbers p) (flat_map proposal_numbers ps) short) (short_front (outcome_numbers o) (flat_map outcome_numbers os) shorts) in
    let later = tried_back r ps os (short_behind (proposal_numbers p) (flat_map proposal_numbers ps) short) (short_behind (outcome_numbers o) (flat_map outcome_numbers os) shorts) in
    ap (read_line (proposal_line p o)) later ∙ ap (λ (t : Proposal × Outcome). record r { tried = t ∷ (zip ps os ++ r.tried) }) here

zip_left : (ps : List Proposal) (os : List Outcome) → length os ≡ length ps → map (λ t. t.0) (zip ps os) ≡ ps
zip_left [] os same = refl
zip_left (p ∷ ps) [] same = absurd (cc)
zip_left (p ∷ ps) (o ∷ os) same = let fewer : length os ≡ length ps = cc in ap (λ (l : List Proposal). p ∷ l) (zip_left ps os fewer)

zip_right : (ps : List Proposal) (os : List Outcome) → length os ≡ length ps → map (λ t. t.1) (zip ps os) ≡ os
zip_right [] [] same = refl
zip_right [] (o ∷ os) same = absurd (cc)
zip_right (p ∷ ps) [] same = absurd (cc)
zip_right (p ∷ ps) (o ∷ os) same = let fewer : length os ≡ length ps = cc in ap (λ (l : List Outcome). o ∷ l) (zip_right ps os fewer)

-- ---- entries

order_back : (e : OrderEntry) → AllByRecursion IsShort (entry_numbers (Order e)) → order_of (order_line e) ≡ e
order_back e short =
    let a = number_back e.order.at short.0 in
    let b = number_back e.order.bucket short.1.0 in
    let d = number_back e.order.to short.1.1.0 in
    let f = outcome_back e.outcome short.1.1.1 in
    λ i. record { order = record { at = a i; bucket = b i; to = d i }; outcome = f i }

round_back : (r : RoundView) → AllByRecursion IsShort (entry_numbers (Round r)) → length r.outcomes ≡ length r.proposals → round_of (round_line r.at r.loads.bucket r.loads.base) (zip r.proposals r.outcomes) ≡ r
round_back r short whole =
    let behind_bucket = r.loads.base ++ (flat_map proposal_numbers r.proposals ++ flat_map outcome_numbers r.outcomes) in
    let loads = short_front r.loads.bucket behind_bucket short.1 in
    let bases = short_front r.loads.base (flat_map proposal_numbers r.proposals ++ flat_map outcome_numbers r.outcomes) (short_behind r.loads.bucket behind_bucket short.1) in
    let a = number_back r.at short.0 in
    let b = before_back r.loads.bucket (map decimal r.loads.base) loads in
    let d = behind_back r.loads.bucket r.loads.base loads bases in
    let e = zip_left r.proposals r.outcomes whole in
    let f = zip_right r.proposals r.outcomes whole in
    λ i. record { at = a i; loads = record { bucket = b i; base = d i }; proposals = e i; outcomes = f i }

round_tried_back : (r : Read) (x : RoundView) → AllByRecursion IsShort (entry_numbers (Round x)) → r.tried ≡ [] → read_from r (tried_lines x.proposals x.outcomes) ≡ record r { tried = zip x.proposals x.outcomes }
round_tried_back r x short none =
    let asked = flat_map proposal_numbers x.proposals in
    let came = flat_map outcome_numbers x.outcomes in
    let both = short_behind x.loads.base (asked ++ came) (short_behind x.loads.bucket (x.loads.base ++ (asked ++ came)) short.1) in
    tried_back r x.proposals x.outcomes (short_front asked came both) (short_behind asked came both)
    ∙ ap (λ (t : List (Proposal × Outcome)). record r { tried = t }) (ap (λ (t : List (Proposal × Outcome)). zip x.proposals x.outcomes ++ t) none ∙ append-nil (zip x.proposals x.outcomes))

-- what was read, with entries before it
abbrev with_entries : Read → List Entry → Read
with_entries r es = record { tried = []; entries = es ++ r.entries; custody = r.custody }

entries_back : (r : Read) (es : List Entry) → AllByRecursion IsShort (flat_map entry_numbers es) → HasWholeRounds es → r.tried ≡ [] → read_from r (flat_map entry_lines es) ≡ with_entries r es
entries_back r [] short whole none = λ i. record { tried = none i; entries = r.entries; custody = r.custody }
entries_back r (Order e ∷ es) short whole none =
    let here = order_back e (short_front (entry_numbers (Order e)) (flat_map entry_numbers es) short) in
    let later = entries_back r es (short_behind (entry_numbers (Order e)) (flat_map entry_numbers es) short) (λ front behind x is. whole (Order e ∷ front) behind x (ap (λ (l : List Entry). Order e ∷ l) is)) none in
    ap (read_line (order_line e)) later ∙ ap (λ (o : OrderEntry). with_entries r (Order o ∷ es)) here
entries_back r (Round x ∷ es) short whole none =
    let line = round_line x.at x.loads.bucket x.loads.base in
    let mine = short_front (entry_numbers (Round x)) (flat_map entry_numbers es) short in
    let here = round_back x mine (whole [] es x refl) in
    let later = entries_back r es (short_behind (entry_numbers (Round x)) (flat_map entry_numbers es) short) (λ front behind y is. whole (Round x ∷ front) behind y (ap (λ (l : List Entry). Round x ∷ l) is)) none in
    ap (read_line line) (read_from-append r (tried_lines x.proposals x.outcomes) (flat_map entry_lines es)
    ∙ (ap (λ (s : Read). read_from s (tried_lines x.proposals x.outcomes)) later ∙ round_tried_back (with_entries r es) x mine refl))
    ∙ ap (λ (y : RoundView). with_entries r (Round y ∷ es)) here

-- ---- the whole

abbrev nothing : Read
nothing = record { tried = []; entries = []; custody = [] }

-- the journal and the custody that the lines tell
abbrev pub told_by : List (List (List ℕ)) → JournalView × List Custody
told_by (head ∷ (word ∷ owners) ∷ ls) = (record { start = map number owners; entries = (read_from nothing ls).entries }, (read_from nothing ls).custody)
told_by _ = (record { start = []; entries = [] }, [])

-- the lines of a journal tell it
pub told_back : (j : JournalView) (custody : List Custody) → HasShortNumbers j custody → HasWholeRounds j.entries → told_by (journal_lines j custody) ≡ (j, custody)
told_back j custody short whole =
    let end : List (List (List ℕ)) = (codes "end" ∷ []) ∷ [] in
    let of_entries = flat_map entry_numbers j.entries in
    let of_custody = flat_map custody_numbers custody in
    let later = short_behind j.start (of_entries ++ of_custody) short in
    let held : read_from nothing (map custody_line custody ++ end) ≡ record nothing { custody = custody } =
    read_from-append nothing (map custody_line custody) end ∙ (all_custody_back nothing custody (short_behind of_entries of_custody later)
    ∙ ap (λ (c : List Custody). record nothing { custody = c }) (append-nil custody)) in
    let read : read_from nothing (flat_map entry_lines j.entries ++ (map custody_line custody ++ end)) ≡ record { tried = []; entries = j.entries; custody = custody } =
    read_from-append nothing (flat_map entry_lines j.entries) (map custody_line custody ++ end)
    ∙ (ap (λ (r : Read). read_from r (flat_map entry_lines j.entries)) held
    ∙ (entries_back (record nothing { custody = custody }) j.entries (short_front of_entries of_custody later) whole refl
    ∙ ap (λ (es : List Entry). record { tried = []; entries = es; custody = custody }) (append-nil j.entries))) in
    let start = numbers_back j.start (short_front j.start (of_entries ++ of_custody) short) in
    λ i. (record { start = start i; entries = (read i).entries }, (read i).custody)
