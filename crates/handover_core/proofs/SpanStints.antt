-- The stretches of a bucket in a core's stream are the stints of the journal that the core has.
use Rattle.std.proofs.Common.{◌≡◌, ◌≢◌, ℕ, ◌+◌, ◌<◌, ◌≤◌, Bool, eqb, if◌then◌else◌, List, [], ◌∷◌, ◌++◌, Option, Some, None, refl, sym, ap, ◌∙◌, subst, inl, inr, ◌⊎◌, ⊎_elim, arith, append_assoc, eq-eqb, ne_eqb}
use Rattle.std.proofs.lemmas.List.{append-nil}
use Rattle.std.proofs.lemmas.Bool.{cases_eq, lt-ltb, le-ltb}
use Rattle.std.specs.Prelude.{slice_index}
use Rattle.indirection.proofs.Tests.{by_test, by_less}
use Rattle.indirection.proofs.Steps.{owner_from-append, tail_from-append, count_in-append, tries_of-append, tries_of-round, tries_of-send, parcels_of-append, parcels_of-round, parcels_of-try}
use Rattle.indirection.specs.declared.outcome.Outcome.{Outcome}
use Rattle.indirection.specs.declared.outcome.Outcome.TheVariants.{Moved, Placed, Same, InPassage}
use Rattle.indirection.specs.Outcomes.{IsOutcome}
use Rattle.indirection.specs.Each.{EachFrom, gather_from}
use Rattle.indirection.specs.JournalView.{JournalView}
use Rattle.indirection.proofs.Told.{parcels_of-told, tries_of-told}
use Rattle.indirection.specs.Tries.{Ask, tries, ask_bucket, ask_to, owner_by, owner_after, tail_by, tail_from}
use Rattle.indirection.specs.Story.{Parcel, RoundHead, Step, Rounds, Tries, Sends, told, parcels_of, tries_of, count_in, try_of, owner_then, start_then, sent_then}
use Rattle.indirection.specs.Stints.{Stint, stint, stints, stints_from, ended}
use Rattle.indirection.specs.Due.{Rules}
use Rattle.indirection.specs.Lawful.{Fits, IsLawfulSoFar}
use Rattle.handover_core.specs.declared.item.Kind.TheVariants.{First, Next, Mark}
use Rattle.handover_core.specs.declared.item.Item.TheVariants.{Of}
use Rattle.handover_core.specs.declared.post.Post.{Post}
use Rattle.handover_core.specs.Dispatch.{stream, ends, kind_at, posts, mark_posts, dispatched, dispatches}
use Rattle.handover_core.specs.Spans.{Span, Spans, no_spans, spans_from, spans_by, last_span, from_or, upto_here, spans_of, spans_in, spans_at}
use Rattle.handover_core.proofs.SpanSteps.{post_to, spans_stream, spans_other, spans_away, spans_here, spans_ends}

-- a core draws the owner's newest stint from s on, with k packets sent, and nothing else goes on
record IsOpen (c o s k : ℕ) (one : Option Span) : Type 0 where
  here : c ≡ o → s < k → one ≡ Some (s, k)
  none : (c ≢ o) ⊎ (s ≡ k) → one ≡ None

spans_append : (c : ℕ) (xs ys : List Stint) → spans_at c (xs ++ ys) ≡ spans_at c xs ++ spans_at c ys
spans_append c [] ys = refl
spans_append c (s ∷ xs) ys = ap (λ (z : List Span). (if eqb s.core c then (s.from, s.to) ∷ [] else []) ++ z) (spans_append c xs ys) ∙ sym (append_assoc (if eqb s.core c then (s.from, s.to) ∷ [] else []) (spans_at c xs) (spans_at c ys))

stint_here : (c o from to : ℕ) → o ≡ c → from < to → spans_at c (stint o from to) ≡ (from, to) ∷ []
stint_here c o from to e l = ap (λ (t : Bool). spans_at c (if t then record { core = o; from = from; to = to } ∷ [] else [])) (lt-ltb from to l) ∙ ap (λ (t : Bool). (if t then (from, to) ∷ [] else []) ++ []) (eq-eqb o c e)

stint_away : (c o from to : ℕ) → o ≢ c → spans_at c (stint o from to) ≡ []
stint_away c o from to ne = by_less from to (λ t. spans_at c (if t then record { core = o; from = from; to = to } ∷ [] else []) ≡ [])
    (λ _. ap (λ (t : Bool). (if t then (from, to) ∷ [] else []) ++ []) (ne_eqb o c ne)) (λ _. refl)

stint_empty : (c o from to : ℕ) → to ≤ from → spans_at c (stint o from to) ≡ []
stint_empty c o from to l = ap (λ (t : Bool). spans_at c (if t then record { core = o; from = from; to = to } ∷ [] else [])) (le-ltb from to l)

-- what goes on is the owner's stint
last_is : (c o s k : ℕ) (one : Option Span) → s ≤ k → IsOpen c o s k one → last_span one ≡ spans_at c (stint o s k)
last_is c o s k one below h = ⊎_elim
    (λ (e : c ≡ o). ⊎_elim (λ (q : s ≡ k). ap last_span (h.none (inr q)) ∙ sym (stint_empty c o s k (omega arith)))
    (λ (ne : s ≡ k → ⊥). let l : s < k = omega arith in ap last_span (h.here e l) ∙ sym (stint_here c o s k (sym e) l)) (cases_eq s k))
    (λ (ne : c ≡ o → ⊥). ap last_span (h.none (inl ne)) ∙ sym (stint_away c o s k (λ q. ne (sym q)))) (cases_eq c o)

-- the bucket's owner, start and count after some steps
record IsAt (start : List ℕ) (b : ℕ) (before : List Step) (o s k : ℕ) : Type 0 where
  owner : owner_then start before b ≡ o
  from : start_then before b ≡ s
  sent : sent_then before b ≡ k
  below : s ≤ k

module _ (start : List ℕ) (b : ℕ) where
  at_round : (before : List Step) (h : RoundHead) (o s k : ℕ) → IsAt start b before o s k → IsAt start b (before ++ Rounds h ∷ []) o s k
  at_round before h o s k a = record {
    owner = ap (λ ts. owner_after start ts b) (tries_of-round before h) ∙ a.owner;
    from = ap (tail_from b 0) (tries_of-round before h) ∙ a.from;
    sent = ap (count_in b) (parcels_of-round before h) ∙ a.sent;
    below = a.below;
  }

  at_send : (before : List Step) (p : Parcel) (o s k : ℕ) → p.bucket ≡ b → IsAt start b before o s k → IsAt start b (before ++ Sends p ∷ []) o s (k + 1)
  at_send before p o s k e a = record {
    owner = ap (λ ts. owner_after start ts b) (tries_of-send before p) ∙ a.owner;
    from = ap (tail_from b 0) (tries_of-send before p) ∙ a.from;
    sent = let c = ap (count_in b) (parcels_of-append before (Sends p ∷ [])) ∙ (count_in-append b (parcels_of before) (p ∷ []) ∙ ap (λ (t : Bool). count_in b (parcels_of before) + (0 + (if t then 1 else 0))) (eq-eqb p.bucket b e)) in let d = a.sent in c ∙ omega arith;
    below = let l = a.below in omega arith;
  }

  at_send_other : (before : List Step) (p : Parcel) (o s k : ℕ) → p.bucket ≢ b → IsAt start b before o s k → IsAt start b (before ++ Sends p ∷ []) o s k
  at_send_other before p o s k ne a = record {
    owner = ap (λ ts. owner_after start ts b) (tries_of-send before p) ∙ a.owner;
    from = ap (tail_from b 0) (tries_of-send before p) ∙ a.from;
    sent = let c = ap (count_in b) (parcels_of-append before (Sends p ∷ [])) ∙ (count_in-append b (parcels_of before) (p ∷ []) ∙ ap (λ (t : Bool). count_in b (parcels_of before) + (0 + (if t then 1 else 0))) (ne_eqb p.bucket b ne)) in let d = a.sent in c ∙ omega arith;
    below = a.below;
  }

  at_try : (before : List Step) (a : Ask) (out : Outcome) (o s k : ℕ) → ask_bucket a ≡ b → IsAt start b before o s k → tail_by s out ≤ k → IsAt start b (before ++ Tries a out ∷ []) (owner_by o (ask_to a) out) (tail_by s out) k
  at_try before a out o s k e h l = record {
    owner = ap (λ ts. owner_after start ts b) (tries_of-append before (Tries a out ∷ [])) ∙ (owner_from-append b (slice_index start b) (tries_of before) (try_of a out ∷ [])
        ∙ (ap (λ (t : Bool). if t then owner_by (owner_then start before b) (ask_to a) out else owner_then start before b) (eq-eqb (ask_bucket a) b e) ∙ ap (λ (z : ℕ). owner_by z (ask_to a) out) h.owner));
    from = ap (tail_from b 0) (tries_of-append before (Tries a out ∷ [])) ∙ (tail_from-append b 0 (tries_of before) (try_of a out ∷ [])
        ∙ (ap (λ (t : Bool). if t then tail_by (start_then before b) out else start_then before b) (eq-eqb (ask_bucket a) b e) ∙ ap (λ (z : ℕ). tail_by z out) h.from));
    sent = ap (count_in b) (parcels_of-try before a out) ∙ h.sent;
    below = l;
  }

  at_try_other : (before : List Step) (a : Ask) (out : Outcome) (o s k : ℕ) → ask_bucket a ≢ b → IsAt start b before o s k → IsAt start b (before ++ Tries a out ∷ []) o s k
  at_try_other before a out o s k ne h = record {
    owner = ap (λ ts. owner_after start ts b) (tries_of-append before (Tries a out ∷ [])) ∙ (owner_from-append b (slice_index start b) (tries_of before) (try_of a out ∷ [])
        ∙ (ap (λ (t : Bool). if t then owner_by (owner_then start before b) (ask_to a) out else owner_then start before b) (ne_eqb (ask_bucket a) b ne) ∙ h.owner));
    from = ap (tail_from b 0) (tries_of-append before (Tries a out ∷ [])) ∙ (tail_from-append b 0 (tries_of before) (try_of a out ∷ [])
        ∙ (ap (λ (t : Bool). if t then tail_by (start_then before b) out else start_then before b) (ne_eqb (ask_bucket a) b ne) ∙ h.from));
    sent = ap (count_in b) (parcels_of-try before a out) ∙ h.sent;
    below = h.below;
  }

-- what the items of the steps that are left draw for a core, and the stints that are left
abbrev Draws : List ℕ → ℕ → ℕ → List Step → List Step → Spans → ℕ → ℕ → ℕ → Type 0
Draws start b c before ss d o s k = spans_of (spans_from b d (stream c (gather_from (posts start) before ss))) ≡ d.closed ++ spans_at c (stints_from b (k + count_in b (parcels_of ss)) o s (tries_of ss))

module _ (rules : Rules) (b c : ℕ) where
  -- a step of which the bucket draws d'
  stepped : (before : List Step) (x : Step) (ss : List Step) (d d' : Spans) → spans_from b d (stream c (posts rules.start before x)) ≡ d'
      → spans_of (spans_from b d (stream c (gather_from (posts rules.start) before (x ∷ ss)))) ≡ spans_of (spans_from b d' (stream c (gather_from (posts rules.start) (before ++ x ∷ []) ss)))
  stepped before x ss d d' e = ap spans_of (spans_stream b c d (posts rules.start before x) (gather_from (posts rules.start) (before ++ x ∷ []) ss) ∙ ap (λ (y : Spans). spans_from b y (stream c (gather_from (posts rules.start) (before ++ x ∷ []) ss))) e)

  -- a packet of the bucket
  record Sent (o s k : ℕ) (d d' : Spans) : Type 0 where
    closed : d'.closed ≡ d.closed
    goes_on : IsOpen c o s (k + 1) d'.open_one

  first_or_next : (o s k : ℕ) (d : Spans) → c ≡ o → s ≤ k → IsOpen c o s k d.open_one → Sent o s k d (spans_by (kind_at s k) k d)
  first_or_next o s k d e below h = by_test k s (λ t. Sent o s k d (spans_by (if t then First else Next) k d))
      (λ q. record {
        closed = ap (λ (one : Option Span). d.closed ++ last_span one) (h.none (inr (sym q))) ∙ append-nil d.closed;
        goes_on = record { here = λ _ _. ap (λ (z : ℕ). Some (z, k + 1)) q; none = ⊎_elim (λ ne. absurd (ne e)) (λ z. absurd (omega arith)) };
      })
      (λ ne. let l : s < k = omega arith in record {
        closed = refl;
        goes_on = record { here = λ _ _. ap (λ (one : Option Span). Some (from_or k one, k + 1)) (h.here e l); none = ⊎_elim (λ n. absurd (n e)) (λ z. absurd (omega arith)) };
      })

  away_sent : (o s k : ℕ) (d : Spans) → c ≢ o → IsOpen c o s k d.open_one → Sent o s k d d
  away_sent o s k d ne h = record { closed = refl; goes_on = record { here = λ e _. absurd (ne e); none = λ _. h.none (inl ne) } }

  Left : List Step → List Step → Type 0
  Left before ss = (d : Spans) (o s k : ℕ) → IsAt rules.start b before o s k → IsOpen c o s k d.open_one → Draws rules.start b c before ss d o s k

  send_here : (before : List Step) (p : Parcel) (ss : List Step) → p.bucket ≡ b → Left (before ++ Sends p ∷ []) ss → Left before (Sends p ∷ ss)
  unfolding Left
  send_here before p ss e ih d o s k a h =
      let d' : Spans = spans_from b d (stream c (posts rules.start before (Sends p))) in
      let sent : Sent o s k d d' = ⊎_elim
      (λ (q : c ≡ o). subst (Sent o s k d) (sym (drawn_here q)) (first_or_next o s k d q a.below h))
      (λ (ne : c ≡ o → ⊥). subst (Sent o s k d) (sym (drawn_away ne)) (away_sent o s k d ne h)) (cases_eq c o) in
      let total : (k + 1) + count_in b (parcels_of ss) ≡ k + count_in b (p ∷ parcels_of ss) = let z = count_in-append b (p ∷ []) (parcels_of ss) ∙ ap (λ (t : Bool). (0 + (if t then 1 else 0)) + count_in b (parcels_of ss)) (eq-eqb p.bucket b e) in omega arith in
      stepped before (Sends p) ss d d' refl ∙ (ih d' o s (k + 1) (at_send rules.start b before p o s k e a) sent.goes_on
      ∙ (λ i. sent.closed i ++ spans_at c (stints_from b (total i) o s (tries_of ss)))) where
        item_is : posts rules.start before (Sends p) ≡ post_to o (Of (kind_at s k) b k)
        item_is = ap (λ (q : ℕ). post_to (owner_then rules.start before q) (Of (kind_at (start_then before q) (sent_then before q)) q (sent_then before q))) e
            ∙ (λ i. post_to (a.owner i) (Of (kind_at (a.from i) (a.sent i)) b (a.sent i)))

        drawn_here : c ≡ o → spans_from b d (stream c (posts rules.start before (Sends p))) ≡ spans_by (kind_at s k) k d
        drawn_here q = ap (λ (z : List Post). spans_from b d (stream c z)) item_is ∙ spans_here b c o k (kind_at s k) d (sym q)

        drawn_away : c ≢ o → spans_from b d (stream c (posts rules.start before (Sends p))) ≡ d
        drawn_away ne = ap (λ (z : List Post). spans_from b d (stream c z)) item_is ∙ spans_away b c o (Of (kind_at s k) b k) d (λ q. ne (sym q))

  send_other : (before : List Step) (p : Parcel) (ss : List Step) → p.bucket ≢ b → Left (before ++ Sends p ∷ []) ss → Left before (Sends p ∷ ss)
  unfolding Left
  send_other before p ss ne ih d o s k a h =
      let total : k + count_in b (parcels_of ss) ≡ k + count_in b (p ∷ parcels_of ss) = let z = count_in-append b (p ∷ []) (parcels_of ss) ∙ ap (λ (t : Bool). (0 + (if t then 1 else 0)) + count_in b (parcels_of ss)) (ne_eqb p.bucket b ne) in omega arith in
      stepped before (Sends p) ss d d (spans_other b c (owner_then rules.start before p.bucket) p.bucket (sent_then before p.bucket) (kind_at (start_then before p.bucket) (sent_then before p.bucket)) d ne)
      ∙ (ih d o s k (at_send_other rules.start b before p o s k ne a) h ∙ ap (λ (n : ℕ). d.closed ++ spans_at c (stints_from b n o s (tries_of ss))) total)

  -- a try of the bucket
  record Tried (o s k to : ℕ) (out : Outcome) (d d' : Spans) : Type 0 where
    closed : d'.closed ≡ d.closed ++ spans_at c (ended o s out)
    goes_on : IsOpen c (owner_by o to out) (tail_by s out) k d'.open_one
    below : tail_by s out ≤ k

  stays : (o s k : ℕ) (d : Spans) → IsOpen c o s k d.open_one → s ≤ k → (d.closed ≡ d.closed ++ []) × IsOpen c o s k d.open_one × (s ≤ k)
  stays o s k d h below = (sym (append-nil d.closed), h, below)

  moved_here : (o s k to tail : ℕ) (d : Spans) → c ≡ o → IsOpen c o s k d.open_one → s < k → tail ≡ k → Tried o s k to (Moved tail) d (spans_by Mark tail d)
  moved_here o s k to tail d e h l is = let l' : s < tail = omega arith in record {
    closed = ap (λ (one : Option Span). d.closed ++ upto_here tail one) (h.here e l) ∙ ap (λ (z : List Span). d.closed ++ z) (sym (stint_here c o s tail (sym e) l'));
    goes_on = record { here = λ _ m. absurd (omega arith); none = λ _. refl };
    below = omega arith;
  }

  moved_away : (o s k to tail : ℕ) (d : Spans) → c ≢ o → IsOpen c o s k d.open_one → tail ≡ k → Tried o s k to (Moved tail) d d
  moved_away o s k to tail d ne h is = record {
    closed = sym (append-nil d.closed) ∙ ap (λ (z : List Span). d.closed ++ z) (sym (stint_away c o s tail (λ q. ne (sym q))));
    goes_on = record { here = λ _ m. absurd (omega arith); none = λ _. h.none (inl ne) };
    below = omega arith;
  }

  tried : (o s k to : ℕ) (out : Outcome) (d : Spans) → IsOutcome o to k s out → IsOpen c o s k d.open_one → s ≤ k → Tried o s k to out d (spans_from b d (stream c (mark_posts o b out)))
  tried o s k to Same d fits h below = record { closed = sym (append-nil d.closed); goes_on = h; below = below }
  tried o s k to (InPassage tail sent word) d fits h below = record { closed = sym (append-nil d.closed); goes_on = h; below = below }
  tried o s k to Placed d fits h below = let q : s ≡ k = let z = fits.1 in omega arith in
      record { closed = sym (append-nil d.closed); goes_on = record { here = λ _ m. absurd (omega arith); none = λ _. h.none (inr q) }; below = below }
  tried o s k to (Moved tail) d fits h below = ⊎_elim
      (λ (q : c ≡ o). subst (Tried o s k to (Moved tail) d) (sym (spans_here b c o tail Mark d (sym q))) (moved_here o s k to tail d q h (let z = fits.2 in omega arith) fits.3))
      (λ (ne : c ≡ o → ⊥). subst (Tried o s k to (Moved tail) d) (sym (spans_away b c o (Of Mark b tail) d (λ q. ne (sym q)))) (moved_away o s k to tail d ne h fits.3)) (cases_eq c o)

  try_here : (before : List Step) (a : Ask) (out : Outcome) (ss : List Step) → ask_bucket a ≡ b
      → IsOutcome (owner_then rules.start before (ask_bucket a)) (ask_to a) (sent_then before (ask_bucket a)) (start_then before (ask_bucket a)) out → Left (before ++ Tries a out ∷ []) ss → Left before (Tries a out ∷ ss)
  unfolding Left
  try_here before a out ss e fits ih d o s k at h =
      let owner : owner_then rules.start before (ask_bucket a) ≡ o = ap (owner_then rules.start before) e ∙ at.owner in
      let from : start_then before (ask_bucket a) ≡ s = ap (start_then before) e ∙ at.from in
      let sent : sent_then before (ask_bucket a) ≡ k = ap (sent_then before) e ∙ at.sent in
      let fits' : IsOutcome o (ask_to a) k s out = subst (λ (y : ℕ × ℕ × ℕ). IsOutcome y.0 (ask_to a) y.1 y.2 out) (λ i. (owner i, sent i, from i)) fits in
      let d' : Spans = spans_from b d (stream c (mark_posts o b out)) in
      let t = tried o s k (ask_to a) out d fits' h at.below in
      let total : ℕ = k + count_in b (parcels_of ss) in
      let rest : List Stint = stints_from b total (owner_by o (ask_to a) out) (tail_by s out) (tries_of ss) in
      let drawn : spans_from b d (stream c (posts rules.start before (Tries a out))) ≡ d' = λ i. spans_from b d (stream c (mark_posts (owner i) (e i) out)) in
      stepped before (Tries a out) ss d d' drawn ∙ (ih d' (owner_by o (ask_to a) out) (tail_by s out) k (at_try rules.start b before a out o s k e at t.below) t.goes_on
      ∙ (ap (λ (z : List Span). z ++ spans_at c rest) t.closed ∙ (append_assoc d.closed (spans_at c (ended o s out)) (spans_at c rest)
      ∙ (ap (λ (z : List Span). d.closed ++ z) (sym (spans_append c (ended o s out) rest))
      ∙ ap (λ (q : Bool). d.closed ++ spans_at c (if q then ended o s out ++ rest else stints_from b total o s (tries_of ss))) (sym (eq-eqb (ask_bucket a) b e))))))

  marks_other : (core q : ℕ) (out : Outcome) (d : Spans) → q ≢ b → spans_from b d (stream c (mark_posts core q out)) ≡ d
  marks_other core q (Moved tail) d ne = spans_other b c core q tail Mark d ne
  marks_other core q Placed d ne = refl
  marks_other core q Same d ne = refl
  marks_other core q (InPassage tail sent word) d ne = refl

  try_other : (before : List Step) (a : Ask) (out : Outcome) (ss : List Step) → ask_bucket a ≢ b → Left (before ++ Tries a out ∷ []) ss → Left before (Tries a out ∷ ss)
  unfolding Left
  try_other before a out ss ne ih d o s k at h =
      let total : ℕ = k + count_in b (parcels_of ss) in
      stepped before (Tries a out) ss d d (marks_other (owner_then rules.start before (ask_bucket a)) (ask_bucket a) out d ne)
      ∙ (ih d o s k (at_try_other rules.start b before a out o s k ne at) h
      ∙ ap (λ (q : Bool). d.closed ++ spans_at c (if q then ended o s out ++ stints_from b total (owner_by o (ask_to a) out) (tail_by s out) (tries_of ss) else stints_from b total o s (tries_of ss))) (sym (ne_eqb (ask_bucket a) b ne)))

  draws : (before ss : List Step) → EachFrom (Fits rules) before ss → Left before ss
  unfolding Left
  draws before [] e d o s k at h = let z : k ≡ k + 0 = omega arith in ap (λ (l : List Span). d.closed ++ l) (last_is c o s k d.open_one at.below h) ∙ ap (λ (n : ℕ). d.closed ++ spans_at c (stint o s n)) z
  draws before (Rounds head ∷ ss) e d o s k at h = draws (before ++ Rounds head ∷ []) ss e.1 d o s k (at_round rules.start b before head o s k at) h
  draws before (Sends p ∷ ss) e d o s k at h = ⊎_elim
      (λ (q : p.bucket ≡ b). send_here before p ss q (draws (before ++ Sends p ∷ []) ss e.1) d o s k at h)
      (λ (ne : p.bucket ≡ b → ⊥). send_other before p ss ne (draws (before ++ Sends p ∷ []) ss e.1) d o s k at h) (cases_eq p.bucket b)
  draws before (Tries a out ∷ ss) e d o s k at h = ⊎_elim
      (λ (q : ask_bucket a ≡ b). try_here before a out ss q e.0.1 (draws (before ++ Tries a out ∷ []) ss e.1) d o s k at h)
      (λ (ne : ask_bucket a ≡ b → ⊥). try_other before a out ss ne (draws (before ++ Tries a out ∷ []) ss e.1) d o s k at h) (cases_eq (ask_bucket a) b)

  pub story_draws : (ss : List Step) (n : ℕ) → EachFrom (Fits rules) [] ss → spans_in b (stream c (dispatched rules.start ss ++ ends n)) ≡ spans_at c (stints_from b (count_in b (parcels_of ss)) (slice_index rules.start b) 0 (tries_of ss))
  unfolding Left
  story_draws ss n e =
      let at : IsAt rules.start b [] (slice_index rules.start b) 0 0 = record { owner = refl; from = refl; sent = refl; below = omega arith } in
      let nothing : IsOpen c (slice_index rules.start b) 0 0 None = record { here = λ _ m. absurd (omega arith); none = λ _. refl } in
      ap spans_of (spans_stream b c no_spans (dispatched rules.start ss) (ends n) ∙ spans_ends b c n (spans_from b no_spans (stream c (dispatched rules.start ss))))
      ∙ (draws [] ss e no_spans (slice_index rules.start b) 0 0 at nothing ∙ ap (λ (m : ℕ). spans_at c (stints_from b m (slice_index rules.start b) 0 (tries_of ss))) (omega arith))

-- the law
pub stream_spans : (rules : Rules) (xs : List Parcel) (j : JournalView) (cores b c : ℕ) → IsLawfulSoFar rules xs j → spans_in b (stream c (dispatches cores xs j)) ≡ spans_at c (stints j xs b)
stream_spans rules xs j cores b c h =
    ap (λ (st : List ℕ). spans_in b (stream c (dispatched st (told 0 xs j.entries) ++ ends cores))) h.start
    ∙ (story_draws rules b c (told 0 xs j.entries) cores h.steps
    ∙ ((λ i. spans_at c (stints_from b (count_in b (parcels_of-told j.entries 0 xs i)) (slice_index rules.start b) 0 (tries_of-told j.entries 0 xs i)))
    ∙ ap (λ (st : List ℕ). spans_at c (stints_from b (count_in b xs) (slice_index st b) 0 (tries j.entries))) (sym h.start)))
