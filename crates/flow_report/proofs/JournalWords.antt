-- The lines of a journal are lines of words.
use Rattle.std.proofs.Common.{◌≡◌, ℕ, ◌/◌, ◌%◌, ◌<◌, zero, suc, arith, List, [], ◌∷◌, ◌++◌, map, refl, ap, ◌∙◌, Bool, true, false, cond, ◌==◌, ◌||◌, Option, Some, None, codes}
use Rattle.std.proofs.lemmas.Bool.Decides.{nat_tests}
use Rattle.std.specs.Fmt.{digit_glyph, digits_onto, digits, decimal}
use Rattle.std.specs.List.{AllByRecursion, flat_map, list_any, zip}
use Rattle.bucket_table.specs.declared.custody.Custody.{Custody}
use Rattle.indirection.specs.declared.proposal.Proposal.{Proposal}
use Rattle.indirection.specs.declared.outcome.Outcome.{Outcome}
use Rattle.indirection.specs.declared.outcome.Outcome.TheVariants.{Moved, Placed, Same, InPassage}
use Rattle.indirection.specs.declared.entry.Entry.{Entry}
use Rattle.indirection.specs.declared.entry.Entry.TheVariants.{Round, Order}
use Rattle.indirection.specs.JournalView.{JournalView}
use Rattle.flow_report.specs.JournalText.{outcome_words, passage_word, proposal_line, custody_line, entry_lines, journal_lines}
use Rattle.flow_report.proofs.Words.{ends, IsWord, IsLine}

glyph_no_end : (n : ℕ) → ends (digit_glyph false (n % 10)) ≡ false
glyph_no_end n =
    let small : n % 10 < 10 = omega arith in
    grind (arith, nat_tests)

one_more : (n : ℕ) (later : List ℕ) → IsWord later → IsWord (digit_glyph false (n % 10) ∷ later)
one_more n later word = ap (λ b. b || list_any ends later) (glyph_no_end n) ∙ word

digits_word : (k n : ℕ) (later : List ℕ) → IsWord later → IsWord (digits_onto k 10 false n later)
digits_word zero n later word = word
digits_word (suc k) n later word =
    by (n / 10 == 0) (digits_word k (n / 10) (digit_glyph false (n % 10) ∷ later) (one_more n later word))
  where
    by : (r : Bool) → IsWord (digits_onto k 10 false (n / 10) (digit_glyph false (n % 10) ∷ later))
        → IsWord (cond r (digit_glyph false (n % 10) ∷ later) (digits_onto k 10 false (n / 10) (digit_glyph false (n % 10) ∷ later)))
    by true more = one_more n later word
    by false more = more

decimal_word : (n : ℕ) → IsWord (decimal n)
unfolding digits
decimal_word n = digits_word 64 n [] refl

decimal_words : (ns : List ℕ) → AllByRecursion IsWord (map decimal ns)
decimal_words [] = tt
decimal_words (n ∷ ns) = (decimal_word n, decimal_words ns)

passage_is_word : (word : Option ℕ) → IsWord (passage_word word)
passage_is_word None = refl
passage_is_word (Some word) = decimal_word word

outcome_are_words : (o : Outcome) → AllByRecursion IsWord (outcome_words o)
outcome_are_words (Moved tail) = (refl, (decimal_word tail, tt))
outcome_are_words Placed = (refl, tt)
outcome_are_words Same = (refl, tt)
outcome_are_words (InPassage tail sent word) = (refl, (decimal_word tail, (decimal_word sent, (passage_is_word word, tt))))

all-append : {X : Type 0} (P : X → Type 0) (xs ys : List X) → AllByRecursion P xs → AllByRecursion P ys → AllByRecursion P (xs ++ ys)
all-append P [] ys a b = b
all-append P (x ∷ xs) ys a b = (a.0, all-append P xs ys a.1 b)

proposal_is_line : (p : Proposal) (o : Outcome) → IsLine (proposal_line p o)
proposal_is_line p o = (refl, (decimal_word p.bucket, (decimal_word p.from, (decimal_word p.to, (refl, (decimal_word p.gain, outcome_are_words o))))))

tried_are_lines : (tried : List (Proposal × Outcome)) → AllByRecursion IsLine (map (λ t. proposal_line t.0 t.1) tried)
tried_are_lines [] = tt
tried_are_lines (t ∷ ts) = (proposal_is_line t.0 t.1, tried_are_lines ts)

entry_is_lines : (e : Entry) → AllByRecursion IsLine (entry_lines e)
entry_is_lines (Order e) =
    ((refl, (decimal_word e.order.at, (decimal_word e.order.bucket, (decimal_word e.order.to, outcome_are_words e.outcome)))), tt)
entry_is_lines (Round r) = (
  (
    refl,
    (decimal_word r.at, (refl, all-append IsWord (map decimal r.loads.bucket) (codes "base" ∷ map decimal r.loads.base) (decimal_words r.loads.bucket) (refl, decimal_words r.loads.base))),
  ),
  tried_are_lines (zip r.proposals r.outcomes),
)

entries_are_lines : (es : List Entry) → AllByRecursion IsLine (flat_map entry_lines es)
entries_are_lines [] = tt
entries_are_lines (e ∷ es) = all-append IsLine (entry_lines e) (flat_map entry_lines es) (entry_is_lines e) (entries_are_lines es)

custody_are_lines : (cs : List Custody) → AllByRecursion IsLine (map custody_line cs)
custody_are_lines [] = tt
custody_are_lines (c ∷ cs) =
    ((refl, (decimal_word c.bucket, (decimal_word c.core, (decimal_word c.from, (decimal_word c.to, tt))))), custody_are_lines cs)

-- each line of a journal text is a line of words
pub journal_are_lines : (j : JournalView) (custody : List Custody) → AllByRecursion IsLine (journal_lines j custody)
journal_are_lines j custody = (
  (refl, tt),
  (
    (refl, decimal_words j.start),
    all-append IsLine (flat_map entry_lines j.entries) (map custody_line custody ++ (codes "end" ∷ []) ∷ []) (entries_are_lines j.entries) (all-append IsLine (map custody_line custody) ((codes "end" ∷ []) ∷ []) (custody_are_lines custody) ((refl, tt), tt)),
  ),
)
