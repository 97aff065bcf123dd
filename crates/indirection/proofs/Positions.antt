-- In a lawful story each try is asked at its own position, so the owner at a packet's position is who it was sent to.
use Rattle.std.proofs.Common.{◌≡◌, ℕ, zero, suc, ◌+◌, ◌≤◌, Bool, true, false, List, [], ◌∷◌, ◌++◌, map, filter, length, length-append, if◌then◌else◌, ◌==◌, Option, Some, None, refl, sym, ap, ◌∙◌, subst, arith}
use Rattle.std.specs.Prelude.{slice_get, slice_index, nat_le}
use Rattle.std.proofs.lemmas.List.{append-nil}
use Rattle.std.proofs.lemmas.List.Elements.{filter-append}
use Rattle.std.proofs.lemmas.Bool.{le-leb, lt-leb}
use Rattle.indirection.specs.declared.proposal.Proposal.{Proposal}
use Rattle.indirection.specs.declared.move_order.MoveOrder.{MoveOrder}
use Rattle.indirection.specs.JournalView.{JournalView}
use Rattle.indirection.specs.Each.{Each, EachFrom}
use Rattle.indirection.specs.Tries.{Ask, Proposed, Ordered, Try, ask_at, owner_from}
use Rattle.indirection.specs.Story.{Parcel, Step, Rounds, Tries, Sends, told, parcels_of, tries_of, try_of, here_from, owner_then}
use Rattle.indirection.specs.Owner.{owner_of}
use Rattle.indirection.specs.Due.{Rules, RoundDue, TryDue, position, proposed_in, orders_at, ask_due, due}
use Rattle.indirection.specs.Lawful.{Fits, IsLawfulSoFar}
use Rattle.indirection.proofs.Each.{Each-keeps, EachFrom-push, EachFrom-front, EachFrom-rest}
use Rattle.indirection.proofs.Owners.{up_to}
use Rattle.indirection.proofs.Steps.{parcels_of-append, parcels_of-round, parcels_of-try, tries_of-append}
use Rattle.indirection.proofs.Told.{tries_of-told}
use Rattle.indirection.proofs.Tests.{by_test}

-- the rounds among the steps are at this position
abbrev RoundsAt : ℕ → List Step → Type 0
RoundsAt n [] = Unit {0}
RoundsAt n (Rounds h ∷ ss) = (h.at ≡ n) × RoundsAt n ss
RoundsAt n (Tries a o ∷ ss) = RoundsAt n ss
RoundsAt n (Sends p ∷ ss) = RoundsAt n ss

RoundsAt-push : (n : ℕ) (ss : List Step) (x : Step) → RoundsAt n ss → RoundsAt n (x ∷ []) → RoundsAt n (ss ++ x ∷ [])
RoundsAt-push n [] x front last = last
RoundsAt-push n (Rounds h ∷ ss) x front last = (front.0, RoundsAt-push n ss x front.1 last)
RoundsAt-push n (Tries a o ∷ ss) x front last = RoundsAt-push n ss x front last
RoundsAt-push n (Sends p ∷ ss) x front last = RoundsAt-push n ss x front last

-- what is asked is asked at this position
abbrev AskedAt : ℕ → List Ask → Type 0
AskedAt n [] = Unit {0}
AskedAt n (a ∷ asks) = (ask_at a ≡ n) × AskedAt n asks

AskedAt-append : (n : ℕ) (first second : List Ask) → AskedAt n first → AskedAt n second → AskedAt n (first ++ second)
AskedAt-append n [] second f s = s
AskedAt-append n (a ∷ first) second f s = (f.0, AskedAt-append n first second f.1 s)

AskedAt-proposed : (n at : ℕ) (ps : List Proposal) → at ≡ n → AskedAt n (map (Proposed at) ps)
AskedAt-proposed n at [] same = tt
AskedAt-proposed n at (p ∷ ps) same = (same, AskedAt-proposed n at ps same)

AskedAt-rounds : (n : ℕ) (ss : List Step) → RoundsAt n ss → AskedAt n (proposed_in ss)
AskedAt-rounds n [] rounds = tt
AskedAt-rounds n (Rounds h ∷ ss) rounds = AskedAt-append n (map (Proposed h.at) h.proposals) (proposed_in ss) (AskedAt-proposed n h.at h.proposals rounds.0) (AskedAt-rounds n ss rounds.1)
AskedAt-rounds n (Tries a o ∷ ss) rounds = AskedAt-rounds n ss rounds
AskedAt-rounds n (Sends p ∷ ss) rounds = AskedAt-rounds n ss rounds

AskedAt-orders : (n : ℕ) (ms : List MoveOrder) → AskedAt n (map Ordered (filter (λ (m : MoveOrder). m.at == n) ms))
AskedAt-orders n [] = tt
AskedAt-orders n (m ∷ ms) =
    by_test m.at n (λ here. AskedAt n (map Ordered (if here then m ∷ filter (λ (m : MoveOrder). m.at == n) ms else filter (λ (m : MoveOrder). m.at == n) ms)))
    (λ here. (here, AskedAt-orders n ms)) (λ _. AskedAt-orders n ms)

AskedAt-get : (n : ℕ) (asks : List Ask) (k : ℕ) (a : Ask) → AskedAt n asks → slice_get asks k ≡ Some a → ask_at a ≡ n
AskedAt-get n [] k a all found = absurd (cc)
AskedAt-get n (b ∷ asks) zero a all found = let same : b ≡ a = cc in subst (λ (x : Ask). ask_at x ≡ n) same all.0
AskedAt-get n (b ∷ asks) (suc k) a all found = AskedAt-get n asks k a all.1 found

pub try_due : (round : Bool) (o : Option Ask) (a : Ask) → (if round then RoundDue else ask_due o) ≡ TryDue a → o ≡ Some a
try_due true o a is = absurd (cc)
try_due false None a is = absurd (cc)
try_due false (Some b) a is = let same : b ≡ a = cc in ap Some same

pub here_from-push : (held ss : List Step) (x : Step) → here_from held (ss ++ x ∷ []) ≡ here_from (here_from held ss) (x ∷ [])
here_from-push held [] x = refl
here_from-push held (Rounds h ∷ ss) x = here_from-push (held ++ Rounds h ∷ []) ss x
here_from-push held (Tries a o ∷ ss) x = here_from-push (held ++ Tries a o ∷ []) ss x
here_from-push held (Sends p ∷ ss) x = here_from-push [] ss x

-- the rounds since the last packet are at the position
abbrev RoundsHere : List Step → Type 0
RoundsHere ss = RoundsAt (position ss) (here_from [] ss)

-- so what is due is asked there
pub asked_here : (rules : Rules) (ss : List Step) (a : Ask) → RoundsHere ss → due rules ss ≡ TryDue a → ask_at a ≡ position ss
asked_here rules ss a rounds is =
    AskedAt-get (position ss) (proposed_in (here_from [] ss) ++ orders_at rules (position ss)) (length (tries_of (here_from [] ss))) a
    (AskedAt-append (position ss) (proposed_in (here_from [] ss)) (orders_at rules (position ss)) (AskedAt-rounds (position ss) (here_from [] ss) rounds) (AskedAt-orders (position ss) rules.moves))
    (try_due _ (slice_get (proposed_in (here_from [] ss) ++ orders_at rules (position ss)) (length (tries_of (here_from [] ss)))) a is)

-- the tries are at positions up to n
abbrev TriesUpTo : ℕ → List Step → Type 0
TriesUpTo n [] = Unit {0}
TriesUpTo n (Rounds h ∷ ss) = TriesUpTo n ss
TriesUpTo n (Tries a o ∷ ss) = (ask_at a ≤ n) × TriesUpTo n ss
TriesUpTo n (Sends p ∷ ss) = TriesUpTo n ss

TriesUpTo-push : (n m : ℕ) (ss : List Step) (x : Step) → n ≤ m → TriesUpTo n ss → TriesUpTo m (x ∷ []) → TriesUpTo m (ss ++ x ∷ [])
TriesUpTo-push n m [] x more front last = last
TriesUpTo-push n m (Rounds h ∷ ss) x more front last = TriesUpTo-push n m ss x more front last
TriesUpTo-push n m (Tries a o ∷ ss) x more front last = (let h = front.0 in omega arith, TriesUpTo-push n m ss x more front.1 last)
TriesUpTo-push n m (Sends p ∷ ss) x more front last = TriesUpTo-push n m ss x more front last

-- the tries are at positions from n on
abbrev TriesFrom : ℕ → List Step → Type 0
TriesFrom n [] = Unit {0}
TriesFrom n (Rounds h ∷ ss) = TriesFrom n ss
TriesFrom n (Tries a o ∷ ss) = (n ≤ ask_at a) × TriesFrom n ss
TriesFrom n (Sends p ∷ ss) = TriesFrom n ss

pub record InPlace (ss : List Step) : Type 0 where
  pub rounds : RoundsHere ss
  pub tries_up_to : TriesUpTo (position ss) ss

pub position-send : (ss : List Step) (p : Parcel) → position (ss ++ Sends p ∷ []) ≡ position ss + 1
position-send ss p = ap (λ (ps : List Parcel). length ps) (parcels_of-append ss (Sends p ∷ [])) ∙ length-append (parcels_of ss) (p ∷ [])

step_in_place : (rules : Rules) (ss : List Step) (x : Step) → InPlace ss → Fits rules ss x → InPlace (ss ++ x ∷ [])
step_in_place rules ss (Rounds h) i fits = record {
  rounds = rw (here_from-push [] ss (Rounds h), parcels_of-round ss h) (RoundsAt-push (position ss) (here_from [] ss) (Rounds h) i.rounds (fits.1.at, tt));
  tries_up_to = rw (parcels_of-round ss h) (TriesUpTo-push (position ss) (position ss) ss (Rounds h) (omega arith) i.tries_up_to tt);
}
step_in_place rules ss (Tries a o) i fits = record {
  rounds = rw (here_from-push [] ss (Tries a o), parcels_of-try ss a o) (RoundsAt-push (position ss) (here_from [] ss) (Tries a o) i.rounds tt);
  tries_up_to = rw (parcels_of-try ss a o) (TriesUpTo-push (position ss) (position ss) ss (Tries a o) (omega arith) i.tries_up_to (let here = asked_here rules ss a i.rounds fits.0 in omega arith, tt));
}
step_in_place rules ss (Sends p) i fits = record {
  rounds = rw (here_from-push [] ss (Sends p)) tt;
  tries_up_to = TriesUpTo-push (position ss) (position (ss ++ Sends p ∷ [])) ss (Sends p) (omega (arith, position-send ss p)) i.tries_up_to tt;
}

pub story_in_place : (rules : Rules) (ss : List Step) → Each (Fits rules) ss → InPlace ss
story_in_place rules ss each = Each-keeps (Fits rules) InPlace (record { rounds = tt; tries_up_to = tt }) (step_in_place rules) ss each

pub position-more : (ss : List Step) (x : Step) → position ss ≤ position (ss ++ x ∷ [])
position-more ss x = omega (arith, ap (λ (ps : List Parcel). length ps) (parcels_of-append ss (x ∷ [])), length-append (parcels_of ss) (parcels_of (x ∷ [])))

-- the tries behind some steps are at their position or later
tries_behind : (rules : Rules) (n : ℕ) (before after : List Step) → n ≤ position before → Each (Fits rules) before → EachFrom (Fits rules) before after → TriesFrom n after
tries_behind rules n before [] low each rest = tt
tries_behind rules n before (Rounds h ∷ after) low each rest =
    tries_behind rules n (before ++ Rounds h ∷ []) after (omega (arith, position-more before (Rounds h))) (EachFrom-push (Fits rules) [] before (Rounds h) each rest.0) rest.1
tries_behind rules n before (Tries a o ∷ after) low each rest = (
  let here = asked_here rules before a (story_in_place rules before each).rounds rest.0.0 in omega arith,
  tries_behind rules n (before ++ Tries a o ∷ []) after (omega (arith, position-more before (Tries a o))) (EachFrom-push (Fits rules) [] before (Tries a o) each rest.0) rest.1,
)
tries_behind rules n before (Sends p ∷ after) low each rest =
    tries_behind rules n (before ++ Sends p ∷ []) after (omega (arith, position-more before (Sends p))) (EachFrom-push (Fits rules) [] before (Sends p) each rest.0) rest.1

up_to-all : (n : ℕ) (ss : List Step) → TriesUpTo n ss → up_to n (tries_of ss) ≡ tries_of ss
up_to-all n [] all = refl
up_to-all n (Rounds h ∷ ss) all = up_to-all n ss all
up_to-all n (Tries a o ∷ ss) all =
    ap (λ (t : Bool). if t then try_of a o ∷ up_to n (tries_of ss) else up_to n (tries_of ss)) (le-leb (ask_at a) n all.0)
    ∙ ap (λ (ts : List Try). try_of a o ∷ ts) (up_to-all n ss all.1)
up_to-all n (Sends p ∷ ss) all = up_to-all n ss all

up_to-none : (n : ℕ) (ss : List Step) → TriesFrom (n + 1) ss → up_to n (tries_of ss) ≡ []
up_to-none n [] all = refl
up_to-none n (Rounds h ∷ ss) all = up_to-none n ss all
up_to-none n (Tries a o ∷ ss) all =
    ap (λ (t : Bool). if t then try_of a o ∷ up_to n (tries_of ss) else up_to n (tries_of ss)) (lt-leb (ask_at a) n (let h = all.0 in omega arith))
    ∙ up_to-none n ss all.1
up_to-none n (Sends p ∷ ss) all = up_to-none n ss all

-- the owner of a bucket at a packet's position is the owner when the packet was sent
pub owner_of-sent : (rules : Rules) (xs : List Parcel) (j : JournalView) (before after : List Step) (p : Parcel) (b : ℕ) →
    IsLawfulSoFar rules xs j → told 0 xs j.entries ≡ before ++ Sends p ∷ after → owner_of j b (position before) ≡ owner_then j.start before b
owner_of-sent rules xs j before after p b lawful split =
    ap (λ (ts : List Try). owner_from b (slice_index j.start b) ts)
    (ap (λ (ts : List Try). up_to (position before) ts) (sym (tries_of-told j.entries 0 xs) ∙ (ap tries_of split ∙ tries_of-append before (Sends p ∷ after)))
    ∙ (filter-append (λ (t : Try). nat_le (ask_at t.ask) (position before)) (tries_of before) (tries_of after)
    ∙ (ap (λ (ts : List Try). ts ++ up_to (position before) (tries_of after)) (up_to-all (position before) before (story_in_place rules before front).tries_up_to)
    ∙ (ap (λ (ts : List Try). tries_of before ++ ts) (up_to-none (position before) after behind)
    ∙ append-nil (tries_of before))))) where
      each : Each (Fits rules) (before ++ Sends p ∷ after)
      each = subst (λ (ss : List Step). Each (Fits rules) ss) split lawful.steps

      front : Each (Fits rules) before
      front = EachFrom-front (Fits rules) [] before (Sends p ∷ after) each

      rest : EachFrom (Fits rules) before (Sends p ∷ after)
      rest = EachFrom-rest (Fits rules) [] before (Sends p ∷ after) each

      behind : TriesFrom (position before + 1) after
      behind = tries_behind rules (position before + 1) (before ++ Sends p ∷ []) after (omega (arith, position-send before p)) (EachFrom-push (Fits rules) [] before (Sends p) front rest.0) rest.1
