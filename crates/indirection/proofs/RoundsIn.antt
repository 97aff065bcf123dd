-- The rounds of a lawful journal stand at the multiples of the round length.
use Rattle.std.proofs.Common.{◌≡◌, ℕ, ◌+◌, ◌-◌, max, Bool, List, [], ◌∷◌, ◌++◌, map, filter, take, drop, length, if◌then◌else◌, refl, sym, ap, ◌∙◌, add-one}
use Rattle.std.proofs.lemmas.List.{append-nil}
use Rattle.std.proofs.lemmas.List.Elements.{filter-append}
use Rattle.indirection.specs.declared.entry.Entry.{Entry}
use Rattle.indirection.specs.declared.entry.Entry.TheVariants.{Round, Order}
use Rattle.indirection.specs.Views.{RoundView}
use Rattle.indirection.specs.JournalView.{JournalView}
use Rattle.indirection.specs.Each.{Each}
use Rattle.indirection.specs.Tries.{Try, round_tries, upto}
use Rattle.indirection.specs.Story.{Parcel, Step, Rounds, Tries, Sends, entry_at, entry_steps, told}
use Rattle.indirection.specs.Due.{Rules, position, is_round_at, has_round}
use Rattle.indirection.specs.Lawful.{Fits, IsLawful}
use Rattle.indirection.specs.JournalFacts.{rounds_in, rounds_up_to}
use Rattle.indirection.proofs.Each.{Each-keeps}
use Rattle.indirection.proofs.Steps.{parcels_of-round, parcels_of-try}
use Rattle.indirection.proofs.Told.{parcels_of-told}
use Rattle.indirection.proofs.Positions.{here_from-push, position-send}
use Rattle.indirection.proofs.KeptEntries.{steps_of}
use Rattle.indirection.proofs.AskedInTurn.{here, InTurn, step_in_turn, all_asked, round_due, round_open, has_round-round, has_round-try}

-- the positions of the rounds among the steps
abbrev round_places : List Step → List ℕ
round_places [] = []
round_places (Rounds h ∷ ss) = h.at ∷ round_places ss
round_places (Tries a o ∷ ss) = round_places ss
round_places (Sends p ∷ ss) = round_places ss

round_places-append : (ss zs : List Step) → round_places (ss ++ zs) ≡ round_places ss ++ round_places zs
round_places-append [] zs = refl
round_places-append (Rounds h ∷ ss) zs = ap (λ (ns : List ℕ). h.at ∷ ns) (round_places-append ss zs)
round_places-append (Tries a o ∷ ss) zs = round_places-append ss zs
round_places-append (Sends p ∷ ss) zs = round_places-append ss zs

round_places-sends : (xs : List Parcel) → round_places (map Sends xs) ≡ []
round_places-sends [] = refl
round_places-sends (x ∷ xs) = round_places-sends xs

round_places-tries : (ts : List Try) → round_places (steps_of ts) ≡ []
round_places-tries [] = refl
round_places-tries (t ∷ ts) = round_places-tries ts

abbrev places : List Entry → List ℕ
places es = map (λ (r : RoundView). r.at) (rounds_in es)

round_places-entry : (e : Entry) → round_places (entry_steps e) ≡ places (e ∷ [])
round_places-entry (Round r) = ap (λ (ns : List ℕ). r.at ∷ ns) (round_places-tries (round_tries r.at r.proposals r.outcomes))
round_places-entry (Order e) = refl

places-first : (e : Entry) (es : List Entry) → places (e ∷ []) ++ places es ≡ places (e ∷ es)
places-first (Round r) es = refl
places-first (Order e) es = refl

round_places-told : (es : List Entry) (at : ℕ) (xs : List Parcel) → round_places (told at xs es) ≡ places es
round_places-told [] at xs = round_places-sends xs
round_places-told (e ∷ es) at xs =
    let now : List Parcel = take (entry_at e - at) xs in
    let rest : List Step = told (max at (entry_at e)) (drop (entry_at e - at) xs) es in
    round_places-append (map Sends now) (entry_steps e ++ rest)
    ∙ (ap (λ (ns : List ℕ). ns ++ round_places (entry_steps e ++ rest)) (round_places-sends now)
    ∙ (round_places-append (entry_steps e) rest
    ∙ (ap (λ (ns : List ℕ). ns ++ round_places rest) (round_places-entry e)
    ∙ (ap (λ (ns : List ℕ). places (e ∷ []) ++ ns) (round_places-told es (max at (entry_at e)) (drop (entry_at e - at) xs))
    ∙ places-first e es))))

filter_upto : (q : ℕ → Bool) (n : ℕ) → filter q (upto (n + 1)) ≡ filter q (upto n) ++ (if q n then n ∷ [] else [])
filter_upto q n = rw add-one (filter-append q (upto n) (n ∷ []))

-- ---- along a story

-- the round of the position, where it was made
abbrev this_round : Bool → ℕ → List ℕ
this_round made n = if made then n ∷ [] else []

abbrev AreRounds : Rules → List Step → Type 0
AreRounds rules ss = round_places ss ≡ filter (is_round_at rules) (upto (position ss)) ++ this_round (has_round (here ss)) (position ss)

abbrev Told : Rules → List Step → Type 0
Told rules ss = InTurn rules (position ss) (here ss) × AreRounds rules ss

-- where all was asked, a round was made at each multiple up to the position
rounds_here : (rules : Rules) (n : ℕ) (made : Bool) → is_round_at rules n ≡ made → filter (is_round_at rules) (upto n) ++ this_round made n ≡ filter (is_round_at rules) (upto (n + 1))
rounds_here rules n made is =
    ap (λ (t : Bool). filter (is_round_at rules) (upto n) ++ this_round t n) (sym is) ∙ sym (filter_upto (is_round_at rules) n)

step_rounds : (rules : Rules) (ss : List Step) (x : Step) → Told rules ss → Fits rules ss x → AreRounds rules (ss ++ x ∷ [])
step_rounds rules ss (Rounds h) t fits =
    let opens = round_open (is_round_at rules (position ss)) (has_round (here ss)) (round_due _ _ fits.0) in
    let before : List ℕ = filter (is_round_at rules) (upto (position ss)) in
    rw (parcels_of-round ss h, here_from-push [] ss (Rounds h), has_round-round (here ss) h)
    (round_places-append ss (Rounds h ∷ [])
    ∙ (ap (λ (ns : List ℕ). ns ++ h.at ∷ []) (t.1 ∙ (ap (λ (made : Bool). before ++ this_round made (position ss)) opens.1 ∙ append-nil before))
    ∙ ap (λ (n : ℕ). before ++ n ∷ []) fits.1.at))
step_rounds rules ss (Tries a o) t fits =
    rw (parcels_of-try ss a o, here_from-push [] ss (Tries a o), has_round-try (here ss) a o)
    (round_places-append ss (Tries a o ∷ []) ∙ (append-nil (round_places ss) ∙ t.1))
step_rounds rules ss (Sends p) t fits =
    rw (here_from-push [] ss (Sends p), position-send ss p)
    (round_places-append ss (Sends p ∷ [])
    ∙ (append-nil (round_places ss)
    ∙ (t.1
    ∙ (rounds_here rules (position ss) (has_round (here ss)) (all_asked rules ss t.0 fits).round
    ∙ sym (append-nil (filter (is_round_at rules) (upto (position ss + 1))))))))

told_rounds : (rules : Rules) (ss : List Step) → Each (Fits rules) ss → Told rules ss
told_rounds rules ss each =
    Each-keeps (Fits rules) (Told rules)
    (record { asked = refl; proposed = λ _. refl; unasked = λ _ _. refl; only = λ made. absurd (cc) }, refl)
    (λ ss x t fits. (step_in_turn rules ss x t.0 fits, step_rounds rules ss x t fits)) ss each

pub lawful_rounds : (rules : Rules) (xs : List Parcel) (j : JournalView) → IsLawful rules xs j → map (λ (r : RoundView). r.at) (rounds_in j.entries) ≡ rounds_up_to rules (length xs)
lawful_rounds rules xs j lawful =
    let ss : List Step = told 0 xs j.entries in
    let t = told_rounds rules ss lawful.so_far.steps in
    sym (round_places-told j.entries 0 xs)
    ∙ (t.1
    ∙ (rounds_here rules (position ss) (has_round (here ss)) (all_asked rules ss t.0 lawful.whole).round
    ∙ ap (λ (ps : List Parcel). rounds_up_to rules (length ps)) (parcels_of-told j.entries 0 xs)))
