-- The test of a journal decides whether it is lawful.
use Rattle.std.proofs.Common.{◌≡◌, ◌≢◌, ℕ, suc, zero, ◌-◌, ◌<◌, ◌≤◌, List, [], ◌∷◌, ◌++◌, length, Bool, true, false, ◌&&◌, not, ◌==◌, Some, None, refl, sym, ap, ◌∙◌, subst, ⊎_elim, eq-eqb, ne_eqb, arith}
use Rattle.std.specs.Prelude.{slice_index, nat_le}
use Rattle.std.specs.List.{list_all}
use Rattle.std.proofs.lemmas.Bool.{cases_eq}
use Rattle.std.proofs.lemmas.Bool.Decides.{nat_tests}
use Rattle.indirection.specs.declared.proposal.Proposal.{Proposal}
use Rattle.indirection.specs.declared.move_order.MoveOrder.{MoveOrder}
use Rattle.indirection.specs.declared.outcome.Outcome.{Outcome}
use Rattle.indirection.specs.declared.outcome.Outcome.TheVariants.{Moved, Placed, Same, InPassage}
use Rattle.indirection.specs.declared.entry.Entry.{Entry}
use Rattle.indirection.specs.declared.entry.Entry.TheVariants.{Round, Order}
use Rattle.indirection.specs.JournalView.{JournalView}
use Rattle.indirection.specs.Outcomes.{IsOutcome}
use Rattle.indirection.specs.Each.{EachFrom, each_from}
use Rattle.indirection.specs.Tries.{Ask, Proposed, Ordered, upto}
use Rattle.indirection.specs.Story.{AtMost, entry_at, Parcel, RoundHead, Step, Rounds, Tries, Sends, told, sent_to, worked_by}
use Rattle.indirection.specs.Due.{Rules, Due, RoundDue, TryDue, PacketDue}
use Rattle.indirection.specs.Rounds.{ArePaired}
use Rattle.indirection.specs.Lawful.{Fits, IsRound, IsLawful}
use Rattle.indirection.specs.Judge.{same_numbers, same_proposal, same_proposals, same_ask, is_round_due, is_packet_due, is_try_due, is_outcome, is_round, fits, are_paired, lawful}

both : (x y : Bool) → (x && y) ≡ true → (x ≡ true) × (y ≡ true)
both true y h = (refl, h)
both false y h = absurd (cc)

and : (x y : Bool) → x ≡ true → y ≡ true → (x && y) ≡ true
and x y h k = subst (λ (t : Bool). (t && y) ≡ true) (sym h) k

same : (a b : ℕ) → (a == b) ≡ true → a ≡ b
same a b h = grind (arith, nat_tests)

other : (a b : ℕ) → not (a == b) ≡ true → a ≢ b
other a b h e = let f : not true ≡ true = subst (λ (t : Bool). not t ≡ true) (eq-eqb a b e) h in absurd (cc)

other_is : (a b : ℕ) → a ≢ b → not (a == b) ≡ true
other_is a b ne = ap not (ne_eqb a b ne)

most : (a b : ℕ) → nat_le a b ≡ true → a ≤ b
most a b h = grind (arith, nat_tests)

most_is : (a b : ℕ) → a ≤ b → nat_le a b ≡ true
most_is a b h = grind (arith, nat_tests)

numbers : (xs ys : List ℕ) → same_numbers xs ys ≡ true → xs ≡ ys
numbers [] [] h = refl
numbers [] (y ∷ ys) h = absurd (cc)
numbers (x ∷ xs) [] h = absurd (cc)
numbers (x ∷ xs) (y ∷ ys) h = let b = both _ _ h in let e = same x y b.0 in let f = numbers xs ys b.1 in cc

numbers_are : (xs : List ℕ) → same_numbers xs xs ≡ true
numbers_are [] = refl
numbers_are (x ∷ xs) = and _ _ (eq-eqb x x refl) (numbers_are xs)

four : (p q : Proposal) → p.bucket ≡ q.bucket → p.from ≡ q.from → p.to ≡ q.to → p.gain ≡ q.gain → p ≡ q
four p q a b c d = ap (λ (x : ℕ). let r : Proposal = record { bucket = x; from = p.from; to = p.to; gain = p.gain } in r) a
    ∙ (ap (λ (x : ℕ). let r : Proposal = record { bucket = q.bucket; from = x; to = p.to; gain = p.gain } in r) b
    ∙ (ap (λ (x : ℕ). let r : Proposal = record { bucket = q.bucket; from = q.from; to = x; gain = p.gain } in r) c
    ∙ ap (λ (x : ℕ). let r : Proposal = record { bucket = q.bucket; from = q.from; to = q.to; gain = x } in r) d))

one : (p q : Proposal) → same_proposal p q ≡ true → p ≡ q
one p q h = let h1 = both _ _ h in let h2 = both _ _ h1.1 in let h3 = both _ _ h2.1 in four p q (same _ _ h1.0) (same _ _ h2.0) (same _ _ h3.0) (same _ _ h3.1)

one_is : (p : Proposal) → same_proposal p p ≡ true
one_is p = and _ _ (eq-eqb p.bucket p.bucket refl) (and _ _ (eq-eqb p.from p.from refl) (and _ _ (eq-eqb p.to p.to refl) (eq-eqb p.gain p.gain refl)))

proposals : (xs ys : List Proposal) → same_proposals xs ys ≡ true → xs ≡ ys
proposals [] [] h = refl
proposals [] (y ∷ ys) h = absurd (cc)
proposals (x ∷ xs) [] h = absurd (cc)
proposals (x ∷ xs) (y ∷ ys) h = let b = both _ _ h in let e = one x y b.0 in let f = proposals xs ys b.1 in cc

proposals_are : (xs : List Proposal) → same_proposals xs xs ≡ true
proposals_are [] = refl
proposals_are (x ∷ xs) = and _ _ (one_is x) (proposals_are xs)

three : (p q : MoveOrder) → p.at ≡ q.at → p.bucket ≡ q.bucket → p.to ≡ q.to → p ≡ q
three p q a b c = ap (λ (x : ℕ). let r : MoveOrder = record { at = x; bucket = p.bucket; to = p.to } in r) a
    ∙ (ap (λ (x : ℕ). let r : MoveOrder = record { at = q.at; bucket = x; to = p.to } in r) b
    ∙ ap (λ (x : ℕ). let r : MoveOrder = record { at = q.at; bucket = q.bucket; to = x } in r) c)

asked : (a b : Ask) → same_ask a b ≡ true → a ≡ b
asked (Proposed i p) (Proposed k q) h = let t = both _ _ h in let e = same i k t.0 in let f = one p q t.1 in cc
asked (Proposed i p) (Ordered m) h = absurd (cc)
asked (Ordered m) (Proposed i p) h = absurd (cc)
asked (Ordered m) (Ordered o) h = let h1 = both _ _ h in let h2 = both _ _ h1.1 in ap Ordered (three m o (same _ _ h1.0) (same _ _ h2.0) (same _ _ h2.1))

asked_is : (a : Ask) → same_ask a a ≡ true
asked_is (Proposed i p) = and _ _ (eq-eqb i i refl) (one_is p)
asked_is (Ordered m) = and _ _ (eq-eqb m.at m.at refl) (and _ _ (eq-eqb m.bucket m.bucket refl) (eq-eqb m.to m.to refl))

round_due : (d : Due) → is_round_due d ≡ true → d ≡ RoundDue
round_due RoundDue h = refl
round_due (TryDue a) h = absurd (cc)
round_due PacketDue h = absurd (cc)

packet_due : (d : Due) → is_packet_due d ≡ true → d ≡ PacketDue
packet_due RoundDue h = absurd (cc)
packet_due (TryDue a) h = absurd (cc)
packet_due PacketDue h = refl

try_due : (d : Due) (a : Ask) → is_try_due d a ≡ true → d ≡ TryDue a
try_due RoundDue a h = absurd (cc)
try_due (TryDue b) a h = ap TryDue (asked b a h)
try_due PacketDue a h = absurd (cc)

outcome : (owner to k s : ℕ) (o : Outcome) → is_outcome owner to k s o ≡ true → IsOutcome owner to k s o
outcome owner to k s Same h = same _ _ h
outcome owner to k s Placed h = let b = both _ _ h in (other _ _ b.0, same _ _ b.1)
outcome owner to k s (InPassage tail sent None) h = let b = both _ _ h in let c = both _ _ b.1 in let d = both _ _ c.1 in let e = both _ _ d.1 in (other _ _ b.0, other _ _ c.0, same _ _ d.0, same _ _ e.0, same _ _ e.1)
outcome owner to k s (InPassage tail sent (Some word)) h = let b = both _ _ h in let c = both _ _ b.1 in let d = both _ _ c.1 in let e = both _ _ d.1 in let f = both _ _ e.1 in (other _ _ b.0, other _ _ c.0, other _ _ d.0, same _ _ e.0, same _ _ f.0, other _ _ f.1)
outcome owner to k s (Moved tail) h = let b = both _ _ h in let c = both _ _ b.1 in let d = both _ _ c.1 in (other _ _ b.0, other _ _ c.0, other _ _ d.0, same _ _ d.1)

outcome_is : (owner to k s : ℕ) (o : Outcome) → IsOutcome owner to k s o → is_outcome owner to k s o ≡ true
outcome_is owner to k s Same h = eq-eqb _ _ h
outcome_is owner to k s Placed h = and _ _ (other_is _ _ h.0) (eq-eqb _ _ h.1)
outcome_is owner to k s (InPassage tail sent None) h = and _ _ (other_is _ _ h.0) (and _ _ (other_is _ _ h.1) (and _ _ (eq-eqb _ _ h.2) (and _ _ (eq-eqb _ _ h.3) (eq-eqb _ _ h.4))))
outcome_is owner to k s (InPassage tail sent (Some word)) h = and _ _ (other_is _ _ h.0) (and _ _ (other_is _ _ h.1) (and _ _ (other_is _ _ h.2) (and _ _ (eq-eqb _ _ h.3) (and _ _ (eq-eqb _ _ h.4) (other_is _ _ h.5)))))
outcome_is owner to k s (Moved tail) h = and _ _ (other_is _ _ h.0) (and _ _ (other_is _ _ h.1) (and _ _ (other_is _ _ h.2) (eq-eqb _ _ h.3)))

all-append : (test : ℕ → Bool) (xs : List ℕ) (y : ℕ) → list_all test xs ≡ true → test y ≡ true → list_all test (xs ++ y ∷ []) ≡ true
all-append test [] y h k = and _ _ k refl
all-append test (x ∷ xs) y h k = let b = both _ _ h in and _ _ b.0 (all-append test xs y b.1 k)

all-front : (test : ℕ → Bool) (xs : List ℕ) (y : ℕ) → list_all test (xs ++ y ∷ []) ≡ true → (list_all test xs ≡ true) × (test y ≡ true)
all-front test [] y h = (refl, (both _ _ h).0)
all-front test (x ∷ xs) y h = let b = both _ _ h in let r = all-front test xs y b.1 in (and _ _ b.0 r.0, r.1)

each_below : (test : ℕ → Bool) (n : ℕ) → list_all test (upto n) ≡ true → (c : ℕ) → c < n → test c ≡ true
each_below test zero h c l = absurd (omega arith)
each_below test (suc n) h c l = let r = all-front test (upto n) n h in
    ⊎_elim (λ (e : c ≡ n). subst (λ (x : ℕ). test x ≡ true) (sym e) r.1) (λ (ne : c ≡ n → ⊥). each_below test n r.0 c (omega arith)) (cases_eq c n)

all_below : (test : ℕ → Bool) (n : ℕ) → ((c : ℕ) → c < n → test c ≡ true) → list_all test (upto n) ≡ true
all_below test zero h = refl
all_below test (suc n) h = all-append test (upto n) n (all_below test n (λ c l. h c (omega arith))) (h n (omega arith))

round : (rules : Rules) (before : List Step) (h : RoundHead) → is_round rules before h ≡ true → IsRound rules before h
round rules before h t =
    let b1 = both _ _ t in let b2 = both _ _ b1.1 in let b3 = both _ _ b2.1 in let b4 = both _ _ b3.1 in let b5 = both _ _ b4.1 in record {
      at = same _ _ b1.0;
      loads = numbers _ _ b2.0;
      bases = same _ _ b3.0;
      base = λ c l. most _ _ (each_below (λ c. nat_le (slice_index h.loads.base c) (sent_to c rules.start before)) rules.cores b4.0 c l);
      worked = λ c l. most _ _ (each_below (λ c. nat_le (worked_by c rules.start before) (sent_to c rules.start before - slice_index h.loads.base c)) rules.cores b5.0 c l);
      proposals = proposals _ _ b5.1;
    }

round_is : (rules : Rules) (before : List Step) (h : RoundHead) → IsRound rules before h → is_round rules before h ≡ true
round_is rules before h r = and _ _ (eq-eqb _ _ r.at) (and _ _ (subst (λ (z : List ℕ). same_numbers h.loads.bucket z ≡ true) r.loads (numbers_are h.loads.bucket)) (and _ _ (eq-eqb _ _ r.bases)
    (and _ _ (all_below (λ c. nat_le (slice_index h.loads.base c) (sent_to c rules.start before)) rules.cores (λ c l. most_is _ _ (r.base c l)))
    (and _ _ (all_below (λ c. nat_le (worked_by c rules.start before) (sent_to c rules.start before - slice_index h.loads.base c)) rules.cores (λ c l. most_is _ _ (r.worked c l)))
    (subst (λ (z : List Proposal). same_proposals h.proposals z ≡ true) r.proposals (proposals_are h.proposals))))))

fit : (rules : Rules) (before : List Step) (x : Step) → fits rules before x ≡ true → Fits rules before x
fit rules before (Rounds h) t = let b = both _ _ t in (round_due _ b.0, round rules before h b.1)
fit rules before (Tries a o) t = let b = both _ _ t in (try_due _ _ b.0, outcome _ _ _ _ o b.1)
fit rules before (Sends p) t = packet_due _ t

fit_is : (rules : Rules) (before : List Step) (x : Step) → Fits rules before x → fits rules before x ≡ true
fit_is rules before (Rounds h) f = and _ _ (subst (λ (d : Due). is_round_due d ≡ true) (sym f.0) refl) (round_is rules before h f.1)
fit_is rules before (Tries a o) f = and _ _ (subst (λ (d : Due). is_try_due d a ≡ true) (sym f.0) (asked_is a)) (outcome_is _ _ _ _ o f.1)
fit_is rules before (Sends p) f = subst (λ (d : Due). is_packet_due d ≡ true) (sym f) refl

each : (rules : Rules) (before xs : List Step) → each_from (fits rules) before xs ≡ true → EachFrom (Fits rules) before xs
each rules before [] h = tt
each rules before (x ∷ xs) h = let b = both _ _ h in (fit rules before x b.0, each rules (before ++ x ∷ []) xs b.1)

each_is : (rules : Rules) (before xs : List Step) → EachFrom (Fits rules) before xs → each_from (fits rules) before xs ≡ true
each_is rules before [] h = refl
each_is rules before (x ∷ xs) h = and _ _ (fit_is rules before x h.0) (each_is rules (before ++ x ∷ []) xs h.1)

paired : (es : List Entry) → are_paired es ≡ true → ArePaired es
paired [] h = tt
paired (Round r ∷ es) h = let b = both _ _ h in (most _ _ b.0, paired es b.1)
paired (Order e ∷ es) h = paired es h

paired_is : (es : List Entry) → ArePaired es → are_paired es ≡ true
paired_is [] h = refl
paired_is (Round r ∷ es) h = and _ _ (most_is _ _ h.0) (paired_is es h.1)
paired_is (Order e ∷ es) h = paired_is es h

near : (n : ℕ) (es : List Entry) → list_all (λ e. nat_le (entry_at e) n) es ≡ true → AtMost n es
near n [] h = tt
near n (e ∷ es) h = let b = both _ _ h in (most _ _ b.0, near n es b.1)

near_is : (n : ℕ) (es : List Entry) → AtMost n es → list_all (λ e. nat_le (entry_at e) n) es ≡ true
near_is n [] h = refl
near_is n (e ∷ es) h = and _ _ (most_is _ _ h.0) (near_is n es h.1)

pub lawful_is : (rules : Rules) (xs : List Parcel) (j : JournalView) → lawful rules xs j ≡ true → IsLawful rules xs j
lawful_is rules xs j h = let b1 = both _ _ h in let b2 = both _ _ b1.1 in let b3 = both _ _ b2.1 in let b4 = both _ _ b3.1 in record {
  so_far = record { start = numbers _ _ b1.0; paired = paired j.entries b2.0; within = near (length xs) j.entries b3.0; steps = each rules [] (told 0 xs j.entries) b4.0 };
  whole = packet_due _ b4.1;
}

pub is_lawful : (rules : Rules) (xs : List Parcel) (j : JournalView) → IsLawful rules xs j → lawful rules xs j ≡ true
is_lawful rules xs j l = and _ _ (subst (λ (z : List ℕ). same_numbers j.start z ≡ true) l.so_far.start (numbers_are j.start)) (and _ _ (paired_is j.entries l.so_far.paired) (and _ _ (near_is (length xs) j.entries l.so_far.within)
    (and _ _ (each_is rules [] (told 0 xs j.entries) l.so_far.steps) (subst (λ (d : Due). is_packet_due d ≡ true) (sym l.whole) refl))))
