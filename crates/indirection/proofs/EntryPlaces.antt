-- In a lawful journal each entry stands at the number of packets before it, so positions never fall.
use Rattle.std.proofs.Common.{◌≡◌, ℕ, zero, suc, ◌+◌, ◌-◌, ◌<◌, ◌≤◌, max, List, [], ◌∷◌, ◌++◌, map, take, drop, length, get_or, append_assoc, refl, sym, ap, ◌∙◌, subst, arith}
use Rattle.std.proofs.lemmas.List.{length-append}
use Rattle.indirection.specs.declared.entry.Entry.{Entry}
use Rattle.indirection.specs.declared.entry.Entry.TheVariants.{Round, Order}
use Rattle.indirection.specs.JournalView.{JournalView}
use Rattle.indirection.specs.Each.{Each}
use Rattle.indirection.specs.Tries.{Ordered, round_tries}
use Rattle.indirection.specs.Story.{Parcel, Step, Rounds, Tries, Sends, entry_at, entry_steps, told, parcels_of}
use Rattle.indirection.specs.Due.{Rules, position}
use Rattle.indirection.specs.Lawful.{Fits, IsLawfulSoFar}
use Rattle.indirection.specs.JournalFacts.{KeepOrder}
use Rattle.indirection.proofs.Each.{EachFrom-front, EachFrom-at}
use Rattle.indirection.proofs.Steps.{parcels_of-append}
use Rattle.indirection.proofs.Told.{parcels_of-entry}
use Rattle.indirection.proofs.Positions.{asked_here, story_in_place}
use Rattle.indirection.proofs.KeptEntries.{steps_of}

-- an entry stands at the number of packets before it
pub entry_here : (rules : Rules) (front : List Step) (e : Entry) (rest : List Step) → Each (Fits rules) (front ++ (entry_steps e ++ rest)) → entry_at e ≡ position front
entry_here rules front (Round r) rest each =
    (EachFrom-at (Fits rules) [] front (Rounds (record { at = r.at; loads = r.loads; proposals = r.proposals })) (steps_of (round_tries r.at r.proposals r.outcomes) ++ rest) each).1.at
entry_here rules front (Order e) rest each =
    asked_here rules front (Ordered e.order) (story_in_place rules front (EachFrom-front (Fits rules) [] front (Tries (Ordered e.order) e.outcome ∷ rest) each)).rounds
    (EachFrom-at (Fits rules) [] front (Tries (Ordered e.order) e.outcome) rest each).0

pub position-append : (front rest : List Step) → position (front ++ rest) ≡ position front + position rest
position-append front rest = ap (λ (ps : List Parcel). length ps) (parcels_of-append front rest) ∙ length-append (parcels_of front) (parcels_of rest)

-- positions that don't fall, from one on
abbrev Climb : ℕ → List Entry → Type 0
Climb low [] = Unit {0}
Climb low (e ∷ es) = (low ≤ entry_at e) × Climb (entry_at e) es

climb : (rules : Rules) (es : List Entry) (at : ℕ) (xs : List Parcel) (done : List Step) → position done ≡ at → Each (Fits rules) (done ++ told at xs es) → Climb at es
climb rules [] at xs done here each = tt
climb rules (e ∷ es) at xs done here each =
    let now : List Step = map Sends (take (entry_at e - at) xs) in
    let rest : List Step = told (max at (entry_at e)) (drop (entry_at e - at) xs) es in
    let front : List Step = done ++ now in
    let each1 : Each (Fits rules) (front ++ (entry_steps e ++ rest)) = subst (λ (ss : List Step). Each (Fits rules) ss) (sym (append_assoc done now (entry_steps e ++ rest))) each in
    let each2 : Each (Fits rules) ((front ++ entry_steps e) ++ rest) = subst (λ (ss : List Step). Each (Fits rules) ss) (sym (append_assoc front (entry_steps e) rest)) each1 in
    let stands : entry_at e ≡ position front = entry_here rules front e rest each1 in
    let low : at ≤ entry_at e = omega (arith, stands, position-append done now, here) in
    let same : position (front ++ entry_steps e) ≡ max at (entry_at e) =
    position-append front (entry_steps e) ∙ (ap (λ (ps : List Parcel). position front + length ps) (parcels_of-entry e) ∙ omega arith) in
    let later : Climb (max at (entry_at e)) es = climb rules es (max at (entry_at e)) (drop (entry_at e - at) xs) (front ++ entry_steps e) same each2 in
    (low, subst (λ (n : ℕ). Climb n es) (omega arith) later)

bounded : (low : ℕ) (es : List Entry) → Climb low es → (j d : ℕ) → j < length (map entry_at es) → low ≤ get_or (map entry_at es) j d
bounded low [] c j d lt = absurd (omega arith)
bounded low (e ∷ es) c zero d lt = c.0
bounded low (e ∷ es) c (suc j) d lt = let first = c.0 in let later = bounded (entry_at e) es c.1 j d (omega arith) in omega arith

in_order : (low : ℕ) (es : List Entry) → Climb low es → (i j d : ℕ) → i ≤ j → j < length (map entry_at es) → get_or (map entry_at es) i d ≤ get_or (map entry_at es) j d
in_order low [] c i j d le lt = absurd (omega arith)
in_order low (e ∷ es) c zero zero d le lt = omega arith
in_order low (e ∷ es) c zero (suc j) d le lt = bounded (entry_at e) es c.1 j d (omega arith)
in_order low (e ∷ es) c (suc i) zero d le lt = absurd (omega arith)
in_order low (e ∷ es) c (suc i) (suc j) d le lt = in_order (entry_at e) es c.1 i j d (omega arith) (omega arith)

pub lawful_positions : (rules : Rules) (xs : List Parcel) (j : JournalView) → IsLawfulSoFar rules xs j → KeepOrder j.entries
lawful_positions rules xs j lawful = in_order 0 j.entries (climb rules j.entries 0 xs [] refl lawful.steps)
