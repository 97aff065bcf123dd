-- In a lawful journal each round has as many outcomes as proposals.
use Rattle.std.proofs.Common.{◌≡◌, ℕ, zero, suc, ◌-◌, ◌≤◌, max, take, drop, true, false, List, [], ◌∷◌, ◌++◌, map, length, append_assoc, Some, refl, sym, ap, ◌∙◌, subst, arith}
use Rattle.std.specs.Prelude.{slice_get}
use Rattle.std.proofs.lemmas.List.{append-nil, length-append, length-map}
use Rattle.indirection.specs.declared.proposal.Proposal.{Proposal}
use Rattle.indirection.specs.declared.outcome.Outcome.{Outcome}
use Rattle.indirection.specs.declared.move_order.MoveOrder.{MoveOrder}
use Rattle.indirection.specs.declared.entry.Entry.{Entry}
use Rattle.indirection.specs.declared.entry.Entry.TheVariants.{Round, Order}
use Rattle.indirection.specs.Views.{RoundView}
use Rattle.indirection.specs.JournalView.{JournalView}
use Rattle.indirection.specs.Each.{Each, EachFrom}
use Rattle.indirection.specs.Rounds.{ArePaired}
use Rattle.indirection.specs.Tries.{Ask, Proposed, Ordered, Try, round_tries}
use Rattle.indirection.specs.Story.{Parcel, Step, Rounds, Tries, Sends, entry_steps, told, tries_of, here_from}
use Rattle.indirection.specs.Due.{Rules, PacketDue, position, is_round_at, has_round, proposed_in, orders_at, due}
use Rattle.indirection.specs.Lawful.{Fits, IsLawful}
use Rattle.indirection.proofs.Each.{EachFrom-front, EachFrom-rest, EachFrom-at}
use Rattle.indirection.proofs.Steps.{tries_of-append}
use Rattle.indirection.proofs.Told.{tries_of-tries}
use Rattle.indirection.proofs.Positions.{try_due}
use Rattle.indirection.proofs.KeptEntries.{steps_of}
use Rattle.indirection.proofs.Splits.{IsCut, cut}
use Rattle.indirection.proofs.RoundFacts.{head_of, tries_in}
use Rattle.indirection.proofs.AskedInTurn.{here, asks, InTurn, in_turn, all_asked, round_due, round_open, proposed_in-append}

-- ---- the steps of a round behind others

pub here_from-append : (held ss zs : List Step) → here_from held (ss ++ zs) ≡ here_from (here_from held ss) zs
here_from-append held [] zs = refl
here_from-append held (Rounds h ∷ ss) zs = here_from-append (held ++ Rounds h ∷ []) ss zs
here_from-append held (Tries a o ∷ ss) zs = here_from-append (held ++ Tries a o ∷ []) ss zs
here_from-append held (Sends p ∷ ss) zs = here_from-append [] ss zs

here_from-tries : (held : List Step) (ts : List Try) → here_from held (steps_of ts) ≡ held ++ steps_of ts
here_from-tries held [] = sym (append-nil held)
here_from-tries held (t ∷ ts) = here_from-tries (held ++ Tries t.ask t.outcome ∷ []) ts ∙ append_assoc held (Tries t.ask t.outcome ∷ []) (steps_of ts)

proposed_in-tries : (ts : List Try) → proposed_in (steps_of ts) ≡ []
proposed_in-tries [] = refl
proposed_in-tries (t ∷ ts) = proposed_in-tries ts

has_round-within : (ss zs : List Step) (r : RoundView) → has_round (ss ++ Rounds (head_of r) ∷ zs) ≡ true
has_round-within [] zs r = refl
has_round-within (Rounds h ∷ ss) zs r = refl
has_round-within (Tries a o ∷ ss) zs r = has_round-within ss zs r
has_round-within (Sends p ∷ ss) zs r = has_round-within ss zs r

length-round_tries : (at : ℕ) (ps : List Proposal) (os : List Outcome) → length os ≤ length ps → length (round_tries at ps os) ≡ length os
length-round_tries at [] [] few = refl
length-round_tries at [] (o ∷ os) few = absurd (omega arith)
length-round_tries at (p ∷ ps) [] few = refl
length-round_tries at (p ∷ ps) (o ∷ os) few = ap suc (length-round_tries at ps os (omega arith))

-- ---- what stands behind a round

-- the steps begin with no proposal
abbrev BeginsAnew : List Step → Type 0
BeginsAnew [] = Unit {0}
BeginsAnew (Rounds h ∷ ss) = Unit {0}
BeginsAnew (Sends p ∷ ss) = Unit {0}
BeginsAnew (Tries (Ordered m) o ∷ ss) = Unit {0}
BeginsAnew (Tries (Proposed at p) o ∷ ss) = ⊥

begins_sends : (xs : List Parcel) (ss : List Step) → BeginsAnew ss → BeginsAnew (map Sends xs ++ ss)
begins_sends [] ss b = b
begins_sends (x ∷ xs) ss b = tt

begins_told : (es : List Entry) (at : ℕ) (xs : List Parcel) → BeginsAnew (told at xs es)
begins_told [] at [] = tt
begins_told [] at (x ∷ xs) = tt
begins_told (Round r ∷ es) at xs = begins_sends (take (r.at - at) xs) (entry_steps (Round r) ++ told (max at r.at) (drop (r.at - at) xs) es) tt
begins_told (Order e ∷ es) at xs = begins_sends (take (e.order.at - at) xs) (entry_steps (Order e) ++ told (max at e.order.at) (drop (e.order.at - at) xs) es) tt

-- an order is asked for behind all proposals
orders_behind : (at : ℕ) (ps : List Proposal) (others : List Ask) (k : ℕ) (m : MoveOrder) → slice_get (map (Proposed at) ps ++ others) k ≡ Some (Ordered m) → length ps ≤ k
orders_behind at [] others k m is = omega arith
orders_behind at (p ∷ ps) others zero m is = absurd (cc)
orders_behind at (p ∷ ps) others (suc k) m is = let rest = orders_behind at ps others k m is in omega arith

-- the steps since the last packet are a round and its tries
record IsRoundHere (rules : Rules) (done : List Step) (r : RoundView) : Type 0 where
  turn : InTurn rules (position done) (here done)
  tries_are : tries_of (here done) ≡ round_tries r.at r.proposals r.outcomes
  proposed : proposed_in (here done) ≡ map (Proposed r.at) r.proposals
  made : has_round (here done) ≡ true

-- where a packet is due, each proposal was tried
enough_tried : (rules : Rules) (done : List Step) (r : RoundView) → IsRoundHere rules done r → length r.outcomes ≤ length r.proposals → due rules done ≡ PacketDue → length r.proposals ≤ length r.outcomes
enough_tried rules done r i few is =
    let all = all_asked rules done i.turn is in
    let counted : length (asks (tries_of (here done))) ≡ length (proposed_in (here done) ++ orders_at rules (position done)) = ap (λ (qs : List Ask). length qs) all.asked in
    let tried : length (asks (tries_of (here done))) ≡ length r.outcomes = length-map (tries_of (here done)) (λ (t : Try). t.ask) ∙ (ap (λ (ts : List Try). length ts) i.tries_are ∙ length-round_tries r.at r.proposals r.outcomes few) in
    let proposals : length (proposed_in (here done)) ≡ length r.proposals = ap (λ (qs : List Ask). length qs) i.proposed ∙ length-map r.proposals (Proposed r.at) in
    omega (arith, counted, tried, proposals, length-append (proposed_in (here done)) (orders_at rules (position done)))

enough : (rules : Rules) (done rest : List Step) (r : RoundView) → IsRoundHere rules done r → length r.outcomes ≤ length r.proposals → BeginsAnew rest → EachFrom (Fits rules) done rest → due rules (done ++ rest) ≡ PacketDue → length r.proposals ≤ length r.outcomes
enough rules done [] r i few begins each whole = enough_tried rules done r i few (rw append-nil at whole)
enough rules done (Sends p ∷ rest) r i few begins each whole = enough_tried rules done r i few each.0
enough rules done (Rounds h ∷ rest) r i few begins each whole = absurd (let opens = round_open (is_round_at rules (position done)) (has_round (here done)) (round_due _ _ each.0.0) in let no = opens.1 in let yes = i.made in cc)
enough rules done (Tries (Proposed at p) o ∷ rest) r i few begins each whole = absurd begins
enough rules done (Tries (Ordered m) o ∷ rest) r i few begins each whole =
    let found : slice_get (proposed_in (here done) ++ orders_at rules (position done)) (length (tries_of (here done))) ≡ Some (Ordered m) = try_due _ _ (Ordered m) each.0.0 in
    let moved : slice_get (map (Proposed r.at) r.proposals ++ orders_at rules (position done)) (length (tries_of (here done))) ≡ Some (Ordered m) = subst (λ (qs : List Ask). slice_get (qs ++ orders_at rules (position done)) (length (tries_of (here done))) ≡ Some (Ordered m)) i.proposed found in
    let behind = orders_behind r.at r.proposals (orders_at rules (position done)) (length (tries_of (here done))) m moved in
    let tried : length (tries_of (here done)) ≡ length r.outcomes = ap (λ (ts : List Try). length ts) i.tries_are ∙ length-round_tries r.at r.proposals r.outcomes few in
    omega arith

-- ---- in a journal

paired_at : (front behind : List Entry) (r : RoundView) → ArePaired (front ++ Round r ∷ behind) → length r.outcomes ≤ length r.proposals
paired_at [] behind r paired = paired.0
paired_at (Round q ∷ front) behind r paired = paired_at front behind r paired.1
paired_at (Order e ∷ front) behind r paired = paired_at front behind r paired

round_here : (rules : Rules) (before : List Step) (r : RoundView) → Each (Fits rules) (before ++ entry_steps (Round r)) → IsRoundHere rules (before ++ entry_steps (Round r)) r
round_here rules before r each = record {
  turn = in_turn rules (before ++ entry_steps (Round r)) each;
  tries_are = ap tries_of same ∙ (tries_of-append (here before) (Rounds (head_of r) ∷ tries_in r) ∙ (ap (λ (ts : List Try). ts ++ tries_of (tries_in r)) none ∙ tries_of-tries (round_tries r.at r.proposals r.outcomes)));
  proposed = ap proposed_in same ∙ (proposed_in-append (here before) (Rounds (head_of r) ∷ tries_in r)
      ∙ (ap (λ (qs : List Ask). qs ++ (map (Proposed r.at) r.proposals ++ proposed_in (tries_in r))) (turn.proposed opens.1)
      ∙ (ap (λ (qs : List Ask). map (Proposed r.at) r.proposals ++ qs) (proposed_in-tries (round_tries r.at r.proposals r.outcomes)) ∙ append-nil (map (Proposed r.at) r.proposals))));
  made = ap has_round same ∙ has_round-within (here before) (tries_in r) r;
} where
  same : here (before ++ entry_steps (Round r)) ≡ here before ++ Rounds (head_of r) ∷ tries_in r
  same = here_from-append [] before (entry_steps (Round r)) ∙ (here_from-tries (here before ++ Rounds (head_of r) ∷ []) (round_tries r.at r.proposals r.outcomes) ∙ append_assoc (here before) (Rounds (head_of r) ∷ []) (tries_in r))

  turn : InTurn rules (position before) (here before)
  turn = in_turn rules before (EachFrom-front (Fits rules) [] before (entry_steps (Round r)) each)

  opens : (is_round_at rules (position before) ≡ true) × (has_round (here before) ≡ false)
  opens = round_open (is_round_at rules (position before)) (has_round (here before)) (round_due _ _ (EachFrom-at (Fits rules) [] before (Rounds (head_of r)) (tries_in r) each).0)

  none : tries_of (here before) ≡ []
  none = turn.unasked opens.0 opens.1

pub lawful_whole : (rules : Rules) (xs : List Parcel) (j : JournalView) (front behind : List Entry) (r : RoundView) → IsLawful rules xs j → j.entries ≡ front ++ Round r ∷ behind → length r.outcomes ≡ length r.proposals
lawful_whole rules xs j front behind r lawful parts = omega (arith, few, many) where
  c : IsCut 0 xs front (Round r) behind
  c = cut front 0 xs (Round r) behind

  done : List Step
  done = c.before ++ entry_steps (Round r)

  rest : List Step
  rest = told c.later c.rest behind

  story : told 0 xs j.entries ≡ done ++ rest
  story = ap (λ (es : List Entry). told 0 xs es) parts ∙ (c.parts ∙ sym (append_assoc c.before (entry_steps (Round r)) rest))

  each : Each (Fits rules) (done ++ rest)
  each = subst (λ (ss : List Step). Each (Fits rules) ss) story lawful.so_far.steps

  few : length r.outcomes ≤ length r.proposals
  few = paired_at front behind r (subst (λ (es : List Entry). ArePaired es) parts lawful.so_far.paired)

  many : length r.proposals ≤ length r.outcomes
  many = enough rules done rest r (round_here rules c.before r (EachFrom-front (Fits rules) [] done rest each)) few (begins_told behind c.later c.rest)
      (EachFrom-rest (Fits rules) [] done rest each) (subst (λ (ss : List Step). due rules ss ≡ PacketDue) story lawful.whole)
