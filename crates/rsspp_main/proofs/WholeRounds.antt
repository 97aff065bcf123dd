-- In a lawful journal each round has as many outcomes as proposals.
use Rattle.std.proofs.Common.{◌≡◌, ℕ, zero, suc, ◌-◌, ◌<◌, ◌≤◌, max, inl, inr, Bool, true, false, not, ◌&&◌, if◌then◌else◌, List, [], ◌∷◌, ◌++◌, map, take, drop, length, slice_get, Option, None, Some, append_assoc, refl, sym, ap, ◌∙◌, subst, arith}
use Rattle.std.proofs.lemmas.Bool.{cases_lt}
use Rattle.std.proofs.lemmas.List.{append-nil}
use Rattle.indirection.specs.declared.entry.Entry.{Entry}
use Rattle.indirection.specs.declared.entry.Entry.TheVariants.{Round, Order}
use Rattle.indirection.specs.declared.outcome.Outcome.{Outcome}
use Rattle.indirection.specs.declared.proposal.Proposal.{Proposal}
use Rattle.indirection.specs.JournalView.{JournalView}
use Rattle.indirection.specs.Views.{RoundView}
use Rattle.indirection.specs.Each.{Each, EachFrom}
use Rattle.indirection.specs.Rounds.{ArePaired}
use Rattle.indirection.specs.Tries.{Ask, Proposed, Ordered, Try, round_tries}
use Rattle.indirection.specs.Story.{Parcel, RoundHead, Step, Rounds, Tries, Sends, entry_at, entry_steps, told, tries_of, here_from}
use Rattle.indirection.specs.Due.{Rules, RoundDue, TryDue, PacketDue, position, has_round, is_round_at, proposed_in, orders_at, ask_due, due, due_at}
use Rattle.indirection.specs.Lawful.{Fits, IsLawful}
use Rattle.indirection.proofs.Each.{Each-keeps, EachFrom-at, EachFrom-front, EachFrom-rest}
use Rattle.indirection.proofs.Positions.{here_from-push}
use Rattle.indirection.proofs.Steps.{parcels_of-try}
use Rattle.flow_report.specs.JournalText.{HasWholeRounds}

-- a round is due only where one stands and none is there yet
round_due : (b c : Bool) (o : Option Ask) → (if b && not c then RoundDue else ask_due o) ≡ RoundDue → (b ≡ true) × (c ≡ false)
round_due true false o is = (refl, refl)
round_due true true None is = absurd (cc)
round_due true true (Some a) is = absurd (cc)
round_due false c None is = absurd (cc)
round_due false c (Some a) is = absurd (cc)

no_try : (b c : Bool) (o : Option Ask) (a : Ask) → b ≡ true → c ≡ false → (if b && not c then RoundDue else ask_due o) ≡ TryDue a → ⊥
no_try true false o a e f is = cc
no_try true true o a e f is = cc
no_try false c o a e f is = cc

behind_round : (b : Bool) (o : Option Ask) → (if b && not true then RoundDue else ask_due o) ≡ ask_due o
behind_round true o = refl
behind_round false o = refl

has_round-round : (ss : List Step) (h : RoundHead) → has_round (ss ++ Rounds h ∷ []) ≡ true
has_round-round [] h = refl
has_round-round (Rounds g ∷ ss) h = refl
has_round-round (Tries a o ∷ ss) h = has_round-round ss h
has_round-round (Sends p ∷ ss) h = has_round-round ss h

has_round-try : (ss : List Step) (a : Ask) (o : Outcome) → has_round (ss ++ Tries a o ∷ []) ≡ has_round ss
has_round-try [] a o = refl
has_round-try (Rounds g ∷ ss) a o = refl
has_round-try (Tries b q ∷ ss) a o = has_round-try ss a o
has_round-try (Sends p ∷ ss) a o = has_round-try ss a o

-- before the round of a position nothing stands there
Untried : Rules → List Step → Type 0
Untried rules ss = is_round_at rules (position ss) ≡ true → has_round (here_from [] ss) ≡ false → here_from [] ss ≡ []

untried-push : (rules : Rules) (ss : List Step) (x : Step) → Untried rules ss → Fits rules ss x → Untried rules (ss ++ x ∷ [])
unfolding Untried
untried-push rules ss (Rounds h) u fits = λ stands none.
    let some : has_round (here_from [] (ss ++ Rounds h ∷ [])) ≡ true = ap has_round (here_from-push [] ss (Rounds h)) ∙ has_round-round (here_from [] ss) h in
    absurd (let no : true ≡ false = sym some ∙ none in cc)
untried-push rules ss (Tries a o) u fits = λ stands none.
    let here : has_round (here_from [] ss) ≡ false = sym (ap has_round (here_from-push [] ss (Tries a o)) ∙ has_round-try (here_from [] ss) a o) ∙ none in
    let at : is_round_at rules (position ss) ≡ true = sym (ap (λ (ps : List Parcel). is_round_at rules (length ps)) (parcels_of-try ss a o)) ∙ stands in
    absurd (no_try (is_round_at rules (position ss)) (has_round (here_from [] ss)) (slice_get (proposed_in (here_from [] ss) ++ orders_at rules (position ss)) (length (tries_of (here_from [] ss)))) a at here fits.0)
untried-push rules ss (Sends p) u fits = λ stands none. here_from-push [] ss (Sends p)

untried : (rules : Rules) (ss : List Step) → Each (Fits rules) ss → Untried rules ss
unfolding Untried
untried rules ss each = Each-keeps (Fits rules) (Untried rules) (λ stands none. refl) (untried-push rules) ss each

-- a round and the tries behind it
here_from-append : (held ss more : List Step) → here_from held (ss ++ more) ≡ here_from (here_from held ss) more
here_from-append held [] more = refl
here_from-append held (Rounds h ∷ ss) more = here_from-append (held ++ Rounds h ∷ []) ss more
here_from-append held (Tries a o ∷ ss) more = here_from-append (held ++ Tries a o ∷ []) ss more
here_from-append held (Sends p ∷ ss) more = here_from-append [] ss more

here_from-tries : (held : List Step) (ts : List Try) → here_from held (map (λ (t : Try). Tries t.ask t.outcome) ts) ≡ held ++ map (λ (t : Try). Tries t.ask t.outcome) ts
here_from-tries held [] = sym (append-nil held)
here_from-tries held (t ∷ ts) = here_from-tries (held ++ Tries t.ask t.outcome ∷ []) ts ∙ append_assoc held (Tries t.ask t.outcome ∷ []) (map (λ (t : Try). Tries t.ask t.outcome) ts)

count_tries : (ts : List Try) → length (tries_of (map (λ (t : Try). Tries t.ask t.outcome) ts)) ≡ length ts
count_tries [] = refl
count_tries (t ∷ ts) = ap suc (count_tries ts)

as_outcomes : (at : ℕ) (ps : List Proposal) (os : List Outcome) → length os ≤ length ps → length (round_tries at ps os) ≡ length os
as_outcomes at [] [] few = refl
as_outcomes at [] (o ∷ os) few = absurd (omega arith)
as_outcomes at (p ∷ ps) [] few = refl
as_outcomes at (p ∷ ps) (o ∷ os) few = ap suc (as_outcomes at ps os (omega arith))

next_asked : (at : ℕ) (ps : List Proposal) (more : List Ask) (k : ℕ) → k < length ps → (p : Proposal) × (slice_get (map (Proposed at) ps ++ more) k ≡ Some (Proposed at p))
next_asked at [] more k lt = absurd (omega arith)
next_asked at (p ∷ ps) more zero lt = (p, refl)
next_asked at (p ∷ ps) more (suc k) lt = next_asked at ps more k (omega arith)

-- where a proposal is left, it is due
due_left : (rules : Rules) (front : List Step) (r : RoundView) → here_from [] front ≡ [] → length r.outcomes < length r.proposals → (p : Proposal) × (due rules (front ++ entry_steps (Round r)) ≡ TryDue (Proposed r.at p))
due_left rules front r none left =
    let head : RoundHead = record { at = r.at; loads = r.loads; proposals = r.proposals } in
    let ts : List Try = round_tries r.at r.proposals r.outcomes in
    let steps : List Step = map (λ (t : Try). Tries t.ask t.outcome) ts in
    let n : ℕ = position (front ++ entry_steps (Round r)) in
    let here : here_from [] (front ++ entry_steps (Round r)) ≡ Rounds head ∷ steps =
    here_from-append [] front (Rounds head ∷ steps) ∙ (ap (λ (held : List Step). here_from held (Rounds head ∷ steps)) none ∙ here_from-tries (Rounds head ∷ []) ts) in
    let more : List Ask = proposed_in steps ++ orders_at rules n in
    let k : length (tries_of steps) ≡ length r.outcomes = count_tries ts ∙ as_outcomes r.at r.proposals r.outcomes (omega arith) in
    let next = next_asked r.at r.proposals more (length (tries_of steps)) (omega arith) in
    let found : slice_get ((map (Proposed r.at) r.proposals ++ proposed_in steps) ++ orders_at rules n) (length (tries_of steps)) ≡ Some (Proposed r.at next.0) =
    ap (λ (asks : List Ask). slice_get asks (length (tries_of steps))) (append_assoc (map (Proposed r.at) r.proposals) (proposed_in steps) (orders_at rules n)) ∙ next.1 in
    (next.0, ap (due_at rules n) here ∙ (behind_round (is_round_at rules n) (slice_get ((map (Proposed r.at) r.proposals ++ proposed_in steps) ++ orders_at rules n) (length (tries_of steps))) ∙ ap ask_due found))

-- what stands behind an entry begins with no try of a proposal
FirstOther : List Step → Type 0
FirstOther [] = Unit {0}
FirstOther (Rounds h ∷ ss) = Unit {0}
FirstOther (Sends p ∷ ss) = Unit {0}
FirstOther (Tries (Ordered m) o ∷ ss) = Unit {0}
FirstOther (Tries (Proposed at p) o ∷ ss) = ⊥

first_sends : (xs : List Parcel) (ss : List Step) → FirstOther ss → FirstOther (map Sends xs ++ ss)
unfolding FirstOther
first_sends [] ss first = first
first_sends (x ∷ xs) ss first = tt

first_parcels : (xs : List Parcel) → FirstOther (map Sends xs)
unfolding FirstOther
first_parcels [] = tt
first_parcels (x ∷ xs) = tt

first_entry : (e : Entry) (ss : List Step) → FirstOther (entry_steps e ++ ss)
unfolding FirstOther
first_entry (Round r) ss = tt
first_entry (Order e) ss = tt

first_told : (at : ℕ) (xs : List Parcel) (es : List Entry) → FirstOther (told at xs es)
first_told at xs [] = first_parcels xs
first_told at xs (e ∷ es) = first_sends (take (entry_at e - at) xs) (entry_steps e ++ told (max at (entry_at e)) (drop (entry_at e - at) xs) es) (first_entry e (told (max at (entry_at e)) (drop (entry_at e - at) xs) es))

-- so none is left there
stuck : (rules : Rules) (before rest : List Step) (at : ℕ) (p : Proposal) → due rules before ≡ TryDue (Proposed at p) → FirstOther rest → EachFrom (Fits rules) before rest → due rules (before ++ rest) ≡ PacketDue → ⊥
unfolding FirstOther
stuck rules before [] at p is first each end = let no : TryDue (Proposed at p) ≡ PacketDue = sym is ∙ (ap (due rules) (sym (append-nil before)) ∙ end) in cc
stuck rules before (Rounds h ∷ rest) at p is first each end = let no : TryDue (Proposed at p) ≡ RoundDue = sym is ∙ each.0.0 in cc
stuck rules before (Sends q ∷ rest) at p is first each end = let no : TryDue (Proposed at p) ≡ PacketDue = sym is ∙ each.0 in cc
stuck rules before (Tries (Ordered m) o ∷ rest) at p is first each end = let no : TryDue (Proposed at p) ≡ TryDue (Ordered m) = sym is ∙ each.0.0 in cc
stuck rules before (Tries (Proposed n q) o ∷ rest) at p is first each end = first

WholeEntry : Entry → Type 0
WholeEntry (Round r) = length r.outcomes ≡ length r.proposals
WholeEntry (Order e) = Unit {0}

whole_entry : (rules : Rules) (e : Entry) (front rest : List Step) → ArePaired (e ∷ []) → FirstOther rest → Each (Fits rules) ((front ++ entry_steps e) ++ rest) → due rules ((front ++ entry_steps e) ++ rest) ≡ PacketDue → WholeEntry e
unfolding WholeEntry Untried
whole_entry rules (Order e) front rest paired first each end = tt
whole_entry rules (Round r) front rest paired first each end = elim (cases_lt (length r.outcomes) (length r.proposals)) [
  | inl left ↦
      let head : RoundHead = record { at = r.at; loads = r.loads; proposals = r.proposals } in
      let steps : List Step = map (λ (t : Try). Tries t.ask t.outcome) (round_tries r.at r.proposals r.outcomes) in
      let apart : Each (Fits rules) (front ++ (Rounds head ∷ (steps ++ rest))) = subst (λ (ss : List Step). Each (Fits rules) ss) (append_assoc front (entry_steps (Round r)) rest) each in
      let fits = EachFrom-at (Fits rules) [] front (Rounds head) (steps ++ rest) apart in
      let stands = round_due (is_round_at rules (position front)) (has_round (here_from [] front)) (slice_get (proposed_in (here_from [] front) ++ orders_at rules (position front)) (length (tries_of (here_from [] front)))) fits.0 in
      let none = untried rules front (EachFrom-front (Fits rules) [] front (Rounds head ∷ (steps ++ rest)) apart) stands.0 stands.1 in
      let next = due_left rules front r none left in
      absurd (stuck rules (front ++ entry_steps (Round r)) rest r.at next.0 next.1 first (EachFrom-rest (Fits rules) [] (front ++ entry_steps (Round r)) rest each) end)
  | inr full ↦ let few = paired.0 in omega arith
]

AllWhole : List Entry → Type 0
AllWhole [] = Unit {0}
AllWhole (e ∷ es) = WholeEntry e × AllWhole es

first_paired : (e : Entry) (es : List Entry) → ArePaired (e ∷ es) → ArePaired (e ∷ []) × ArePaired es
first_paired (Round r) es paired = ((paired.0, tt), paired.1)
first_paired (Order e) es paired = (tt, paired)

all_whole : (rules : Rules) (es : List Entry) (at : ℕ) (xs : List Parcel) (done : List Step) → ArePaired es → Each (Fits rules) (done ++ told at xs es) → due rules (done ++ told at xs es) ≡ PacketDue → AllWhole es
unfolding AllWhole
all_whole rules [] at xs done paired each end = tt
all_whole rules (e ∷ es) at xs done paired each end =
    let now : List Step = map Sends (take (entry_at e - at) xs) in
    let rest : List Step = told (max at (entry_at e)) (drop (entry_at e - at) xs) es in
    let same : done ++ (now ++ (entry_steps e ++ rest)) ≡ ((done ++ now) ++ entry_steps e) ++ rest =
    sym (append_assoc done now (entry_steps e ++ rest)) ∙ sym (append_assoc (done ++ now) (entry_steps e) rest) in
    let each1 : Each (Fits rules) (((done ++ now) ++ entry_steps e) ++ rest) = subst (λ (ss : List Step). Each (Fits rules) ss) same each in
    let end1 : due rules (((done ++ now) ++ entry_steps e) ++ rest) ≡ PacketDue = ap (due rules) (sym same) ∙ end in
    let both = first_paired e es paired in (
      whole_entry rules e (done ++ now) rest both.0 (first_told (max at (entry_at e)) (drop (entry_at e - at) xs) es) each1 end1,
      all_whole rules es (max at (entry_at e)) (drop (entry_at e - at) xs) ((done ++ now) ++ entry_steps e) both.1 each1 end1,
    )

of_all : (front behind : List Entry) (r : RoundView) → AllWhole (front ++ Round r ∷ behind) → length r.outcomes ≡ length r.proposals
unfolding AllWhole WholeEntry
of_all [] behind r all = all.0
of_all (e ∷ front) behind r all = of_all front behind r all.1

pub whole_rounds : (rules : Rules) (xs : List Parcel) (j : JournalView) → IsLawful rules xs j → HasWholeRounds j.entries
whole_rounds rules xs j lawful = λ front behind r is.
    of_all front behind r (subst (λ (es : List Entry). AllWhole es) is (all_whole rules j.entries 0 xs [] lawful.so_far.paired lawful.so_far.steps lawful.whole))
