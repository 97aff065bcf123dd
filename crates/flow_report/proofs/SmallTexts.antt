-- The texts of four small runs, byte for byte.
use Rattle.std.proofs.Common.{◌≡◌, ℕ, List, [], ◌∷◌, ◌++◌, Some, None, refl, codes}
use Rattle.std.specs.Fmt.{digits}
use Rattle.bucket_table.specs.declared.custody.Custody.{Custody}
use Rattle.indirection.specs.declared.outcome.Outcome.{Outcome}
use Rattle.indirection.specs.declared.outcome.Outcome.TheVariants.{Moved, Placed, Same, InPassage}
use Rattle.indirection.specs.declared.entry.Entry.{Entry}
use Rattle.indirection.specs.declared.entry.Entry.TheVariants.{Round, Order}
use Rattle.indirection.specs.JournalView.{JournalView}
use Rattle.flow_report.specs.JournalText.{journal_bytes}

abbrev ordered : ℕ → ℕ → ℕ → Outcome → Entry
ordered at bucket to outcome = Order (record { order = record { at = at; bucket = bucket; to = to }; outcome = outcome })

abbrev had : ℕ → ℕ → ℕ → ℕ → Custody
had bucket core from to = record { bucket = bucket; core = core; from = from; to = to }

abbrev journal : List ℕ → List Entry → JournalView
journal start entries = record { start = start; entries = entries }

-- a bucket of six packets moves to core 1 and back
moved_twice : journal_bytes (journal (0 ∷ []) (ordered 2 0 1 (Moved 2) ∷ ordered 5 0 0 (Moved 5) ∷ [])) (had 0 0 0 2 ∷ had 0 1 2 5 ∷ had 0 0 5 6 ∷ [])
    ≡ codes "journal\n" ++ (codes "table 0\n" ++ (codes "order 2 0 1 moved 2\n" ++ (codes "order 5 0 0 moved 5\n"
    ++ (codes "custody 0 0 0 2\n" ++ (codes "custody 0 1 2 5\n" ++ (codes "custody 0 0 5 6\n" ++ codes "end\n"))))))
unfolding digits
moved_twice = refl

-- its second order comes while the table is in passage
in_passage : journal_bytes (journal (0 ∷ []) (ordered 2 0 1 (Moved 2) ∷ ordered 4 0 0 (InPassage 2 4 (Some 5)) ∷ [])) (had 0 0 0 2 ∷ had 0 1 2 6 ∷ [])
    ≡ codes "journal\n" ++ (codes "table 0\n" ++ (codes "order 2 0 1 moved 2\n" ++ (codes "order 4 0 0 passage 2 4 5\n"
    ++ (codes "custody 0 0 0 2\n" ++ (codes "custody 0 1 2 6\n" ++ codes "end\n")))))
unfolding digits
in_passage = refl

-- each outcome once
each_outcome : journal_bytes (journal (0 ∷ 0 ∷ []) (ordered 0 1 1 Placed ∷ ordered 1 0 0 Same ∷ ordered 2 0 1 (Moved 2) ∷ ordered 2 0 0 (InPassage 2 2 None) ∷ [])) (had 0 0 0 2 ∷ had 0 1 2 3 ∷ [])
    ≡ codes "journal\n" ++ (codes "table 0 0\n" ++ (codes "order 0 1 1 placed\n" ++ (codes "order 1 0 0 same\n" ++ (codes "order 2 0 1 moved 2\n"
    ++ (codes "order 2 0 0 passage 2 2 -\n" ++ (codes "custody 0 0 0 2\n" ++ (codes "custody 0 1 2 3\n" ++ codes "end\n")))))))
unfolding digits
each_outcome = refl

-- a round moves a bucket
one_round : journal_bytes (journal (0 ∷ 0 ∷ []) (Round (record { at = 3; loads = record { bucket = 2 ∷ 1 ∷ []; base = 1 ∷ 0 ∷ [] }; proposals = record { bucket = 0; from = 0; to = 1; gain = 4 } ∷ []; outcomes = Moved 2 ∷ [] }) ∷ [])) (had 0 0 0 2 ∷ had 0 1 2 3 ∷ had 1 0 0 1 ∷ [])
    ≡ codes "journal\n" ++ (codes "table 0 0\n" ++ (codes "round 3 loads 2 1 base 1 0\n" ++ (codes "propose 0 0 1 gain 4 moved 2\n"
    ++ (codes "custody 0 0 0 2\n" ++ (codes "custody 0 1 2 3\n" ++ (codes "custody 1 0 0 1\n" ++ codes "end\n"))))))
unfolding digits
one_round = refl
