-- At each position of a lawful story what was asked since the last packet is a front of what is to be asked there, and nothing is asked in front of a round.
use Rattle.std.proofs.Common.{◌≡◌, ℕ, ◌<◌, ◌≤◌, append_assoc, ⊎_elim, Bool, true, false, List, [], ◌∷◌, ◌++◌, map, take, length, if◌then◌else◌, Option, Some, None, refl, sym, ap, ◌∙◌, subst}
use Rattle.std.specs.Prelude.{slice_get, not, ◌&&◌}
use Rattle.std.proofs.lemmas.List.{append-nil, map-append, take_more, take_all, length-append}
use Rattle.std.proofs.lemmas.Option.{slice_get_within, slice_get-get_or, get_or_from_slice_get}
use Rattle.std.proofs.lemmas.Bool.{cases_lt}
use Rattle.indirection.specs.declared.outcome.Outcome.{Outcome}
use Rattle.indirection.specs.Each.{Each}
use Rattle.indirection.specs.Tries.{Ask, Proposed, Ordered, Try}
use Rattle.indirection.specs.Story.{RoundHead, Step, Rounds, Tries, Sends, tries_of, here_from, try_of}
use Rattle.indirection.specs.Due.{Rules, RoundDue, TryDue, PacketDue, position, is_round_at, has_round, proposed_in, orders_at, ask_due, due}
use Rattle.indirection.specs.Lawful.{Fits}
use Rattle.indirection.proofs.Each.{Each-keeps}
use Rattle.indirection.proofs.Steps.{tries_of-append, tries_of-round, parcels_of-round, parcels_of-try}
use Rattle.indirection.proofs.Positions.{try_due, here_from-push}

-- what the tries asked
abbrev pub asks : List Try → List Ask
asks ts = map (λ (t : Try). t.ask) ts

-- the steps since the last packet
abbrev pub here : List Step → List Step
here ss = here_from [] ss

-- all that is to be asked at a position
abbrev pub to_ask : Rules → ℕ → List Step → List Ask
to_ask rules n steps = proposed_in steps ++ orders_at rules n

pub record InTurn (rules : Rules) (n : ℕ) (steps : List Step) : Type 0 where
  pub asked : asks (tries_of steps) ≡ take (length (tries_of steps)) (to_ask rules n steps)
  pub proposed : has_round steps ≡ false → proposed_in steps ≡ []
  pub unasked : is_round_at rules n ≡ true → has_round steps ≡ false → tries_of steps ≡ []
  pub only : has_round steps ≡ true → is_round_at rules n ≡ true

-- what is due tells whether the round stands
pub round_due : (round : Bool) (o : Option Ask) → (if round then RoundDue else ask_due o) ≡ RoundDue → round ≡ true
round_due true o is = refl
round_due false None is = absurd (cc)
round_due false (Some a) is = absurd (cc)

pub no_round_due : (round : Bool) (o : Option Ask) (a : Ask) → (if round then RoundDue else ask_due o) ≡ TryDue a → round ≡ false
no_round_due true o a is = absurd (cc)
no_round_due false o a is = refl

pub packet_due : (round : Bool) (o : Option Ask) → (if round then RoundDue else ask_due o) ≡ PacketDue → (round ≡ false) × (o ≡ None)
packet_due true o is = absurd (cc)
packet_due false None is = (refl, refl)
packet_due false (Some a) is = absurd (cc)

pub round_open : (stands made : Bool) → (stands && not made) ≡ true → (stands ≡ true) × (made ≡ false)
round_open true true h = absurd (cc)
round_open true false h = (refl, refl)
round_open false made h = absurd (cc)

-- the round of the position was made, or none stands there
pub round_closed : (stands made : Bool) → (stands && not made) ≡ false → (made ≡ true → stands ≡ true) → stands ≡ made
round_closed true true h only = refl
round_closed true false h only = absurd (cc)
round_closed false true h only = let back = only refl in absurd (cc)
round_closed false false h only = refl

pub has_round-round : (ss : List Step) (h : RoundHead) → has_round (ss ++ Rounds h ∷ []) ≡ true
has_round-round [] h = refl
has_round-round (Rounds q ∷ ss) h = refl
has_round-round (Tries a o ∷ ss) h = has_round-round ss h
has_round-round (Sends p ∷ ss) h = has_round-round ss h

pub has_round-try : (ss : List Step) (a : Ask) (o : Outcome) → has_round (ss ++ Tries a o ∷ []) ≡ has_round ss
has_round-try [] a o = refl
has_round-try (Rounds q ∷ ss) a o = refl
has_round-try (Tries b u ∷ ss) a o = has_round-try ss a o
has_round-try (Sends p ∷ ss) a o = has_round-try ss a o

pub proposed_in-append : (ss zs : List Step) → proposed_in (ss ++ zs) ≡ proposed_in ss ++ proposed_in zs
proposed_in-append [] zs = refl
proposed_in-append (Rounds q ∷ ss) zs = ap (λ (qs : List Ask). map (Proposed q.at) q.proposals ++ qs) (proposed_in-append ss zs) ∙ sym (append_assoc (map (Proposed q.at) q.proposals) (proposed_in ss) (proposed_in zs))
proposed_in-append (Tries a o ∷ ss) zs = proposed_in-append ss zs
proposed_in-append (Sends p ∷ ss) zs = proposed_in-append ss zs

asked_next : (X : List Ask) (ts : List Try) (a : Ask) (o : Outcome) → asks ts ≡ take (length ts) X → slice_get X (length ts) ≡ Some a → asks (ts ++ try_of a o ∷ []) ≡ take (length (ts ++ try_of a o ∷ [])) X
asked_next X ts a o asked found =
    map-append (λ (t : Try). t.ask) ts (try_of a o ∷ [])
    ∙ (ap (λ (qs : List Ask). qs ++ a ∷ []) asked
    ∙ (ap (λ (x : Ask). take (length ts) X ++ x ∷ []) (sym (get_or_from_slice_get X (length ts) a a found))
    ∙ (sym (take_more X (length ts) a (slice_get_within X (length ts) a found))
    ∙ ap (λ (n : ℕ). take n X) (sym (length-append ts (try_of a o ∷ []))))))

-- so it stays with each step that fits
pub step_in_turn : (rules : Rules) (ss : List Step) (x : Step) → InTurn rules (position ss) (here ss) → Fits rules ss x → InTurn rules (position (ss ++ x ∷ [])) (here (ss ++ x ∷ []))
step_in_turn rules ss (Rounds h) i fits =
    let opens = round_open (is_round_at rules (position ss)) (has_round (here ss)) (round_due _ _ fits.0) in
    let none : tries_of (here ss ++ Rounds h ∷ []) ≡ [] = tries_of-round (here ss) h ∙ i.unasked opens.0 opens.1 in
    let made : has_round (here ss ++ Rounds h ∷ []) ≡ true = has_round-round (here ss) h in
    rw (here_from-push [] ss (Rounds h), parcels_of-round ss h)
    (record {
      asked = subst (λ (ts : List Try). asks ts ≡ take (length ts) (to_ask rules (position ss) (here ss ++ Rounds h ∷ []))) (sym none) refl;
      proposed = λ no. absurd (cc);
      unasked = λ _ no. absurd (cc);
      only = λ _. opens.0;
    })
step_in_turn rules ss (Tries a o) i fits =
    let found = try_due _ _ a fits.0 in
    let closed = no_round_due _ _ a fits.0 in
    let same : has_round (here ss ++ Tries a o ∷ []) ≡ has_round (here ss) = has_round-try (here ss) a o in
    let proposals : proposed_in (here ss ++ Tries a o ∷ []) ≡ proposed_in (here ss) = proposed_in-append (here ss) (Tries a o ∷ []) ∙ append-nil (proposed_in (here ss)) in
    rw (here_from-push [] ss (Tries a o), parcels_of-try ss a o)
    (record {
      asked = rw (tries_of-append (here ss) (Tries a o ∷ []), proposals) (asked_next (to_ask rules (position ss) (here ss)) (tries_of (here ss)) a o i.asked found);
      proposed = λ no. proposals ∙ i.proposed (sym same ∙ no);
      unasked = λ stands no. absurd (let yes : (is_round_at rules (position ss) && not (has_round (here ss))) ≡ true = rw (stands, sym same ∙ no) refl in cc);
      only = λ made. i.only (sym same ∙ made);
    })
step_in_turn rules ss (Sends p) i fits =
    rw (here_from-push [] ss (Sends p))
    (record {
      asked = refl;
      proposed = λ _. refl;
      unasked = λ _ _. refl;
      only = λ made. absurd (cc);
    })

pub in_turn : (rules : Rules) (ss : List Step) → Each (Fits rules) ss → InTurn rules (position ss) (here ss)
in_turn rules ss each =
    Each-keeps (Fits rules) (λ (zs : List Step). InTurn rules (position zs) (here zs))
    (record { asked = refl; proposed = λ _. refl; unasked = λ _ _. refl; only = λ made. absurd (cc) })
    (step_in_turn rules) ss each

-- where a packet is due, all was asked, and the round was made where one stands
pub record AllAsked (rules : Rules) (n : ℕ) (steps : List Step) : Type 0 where
  pub asked : asks (tries_of steps) ≡ to_ask rules n steps
  pub round : is_round_at rules n ≡ has_round steps

pub all_asked : (rules : Rules) (ss : List Step) → InTurn rules (position ss) (here ss) → due rules ss ≡ PacketDue → AllAsked rules (position ss) (here ss)
all_asked rules ss i is =
    let ended = packet_due _ _ is in
    let X : List Ask = to_ask rules (position ss) (here ss) in
    record {
      asked = i.asked ∙ take_all (length (tries_of (here ss))) X (past X (length (tries_of (here ss))) ended.1);
      round = round_closed (is_round_at rules (position ss)) (has_round (here ss)) ended.0 i.only;
    } where
      past : (xs : List Ask) (n : ℕ) → slice_get xs n ≡ None → length xs ≤ n
      past xs n none = ⊎_elim (λ (l : n < length xs). absurd (let got = slice_get-get_or xs n (Ordered (record { at = 0; bucket = 0; to = 0 })) l in cc)) (λ (l : length xs ≤ n). l) (cases_lt n (length xs))
