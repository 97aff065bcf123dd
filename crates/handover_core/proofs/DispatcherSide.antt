-- The dispatcher's lists after one more packet or try.
use Rattle.std.proofs.Common.{◌≡◌, ◌≢◌, ℕ, ◌+◌, ◌-◌, ◌^◌, ◌<◌, List, [], ◌∷◌, ◌++◌, Bool, true, if◌then◌else◌, slice_index, refl, sym, ap, ◌∙◌, subst, eq-eqb, ne_eqb, ⊎_elim, arith}
use Rattle.std.proofs.lemmas.List.{append-nil}
use Rattle.std.proofs.lemmas.Bool.{cases_eq}
use Rattle.indirection.proofs.Steps.{owner_from-append, tail_from-append, tails-append, count_in-append}
use Rattle.indirection.proofs.Stints.{Rises-push}
use Rattle.indirection.specs.declared.outcome.Outcome.{Outcome}
use Rattle.indirection.specs.declared.outcome.Outcome.TheVariants.{Moved, Placed, Same, InPassage}
use Rattle.indirection.specs.Outcomes.{IsOutcome}
use Rattle.indirection.specs.Tries.{Ask, Try, ask_bucket, ask_to, owner_by, owner_after, tail_by, tail_from, tails, tail_list}
use Rattle.indirection.specs.Story.{Parcel, count_in, try_of}
use Rattle.indirection.specs.Stints.{Rises}
use Rattle.handover_core.specs.declared.item.Kind.{Kind}
use Rattle.handover_core.specs.declared.item.Kind.TheVariants.{Mark}
use Rattle.handover_core.specs.declared.item.Item.{Item}
use Rattle.handover_core.specs.declared.item.Item.TheVariants.{Of}
use Rattle.handover_core.specs.Legal.{is_open, Follows, Legal}
use Rattle.handover_core.specs.Dispatch.{stream, kind_at, mark_posts}
use Rattle.handover_core.specs.declared.post.Post.{Post}
use Rattle.handover_core.specs.Stands.{AreStands, IsDispatcherSide, IsTold, stand_at}
use Rattle.handover_core.proofs.Stands.{AreStands-same, AreStands-send, AreStands-mark, AreStands-place, Continues-send, Continues-mark, stand_by-packet}
use Rattle.handover_core.proofs.Streams.{Legal-push, stream-here, stream-away, is_open-push, stand_at-here, stand_at-away, stand_at-other}

abbrev post : ℕ → Item → Post
post c x = record { core = c; item = x }

pub IsTold-none : (first : List ℕ) → IsTold first [] [] []
IsTold-none first = record {
  dispatcher = record {
    stands = λ b. record { below = omega arith; owner = refl; others = λ c ne. tt };
    open_lists = λ c. refl;
    legal = λ c. tt;
  };
  tails_rise = λ b. omega arith;
}

-- the lists after an item that may follow on its core's list
open-post : (ds : List Post) (o : ℕ) (kind : Kind) (b place : ℕ) (c : ℕ) → is_open (stream c ds) ≡ true → is_open (stream c (ds ++ post o (Of kind b place) ∷ [])) ≡ true
open-post ds o kind b place c h =
    ⊎_elim (λ (e : o ≡ c). subst (λ (x : ℕ). is_open (stream c (ds ++ post x (Of kind b place) ∷ [])) ≡ true) (sym e) (rw (stream-here c ds (Of kind b place)) (is_open-push (stream c ds) kind b place h)))
    (λ (ne : o ≡ c → ⊥). rw (stream-away c o ds (Of kind b place) ne) h) (cases_eq o c)

pub legal-post : (ds : List Post) (o : ℕ) (x : Item) (c : ℕ) → Legal (stream c ds) → Follows (stream o ds) x → Legal (stream c (ds ++ post o x ∷ []))
legal-post ds o x c l f =
    ⊎_elim (λ (e : o ≡ c). subst (λ (y : ℕ). Legal (stream c (ds ++ post y x ∷ []))) (sym e) (rw (stream-here c ds x) (Legal-push (stream c ds) x l (subst (λ (y : ℕ). Follows (stream y ds) x) e f))))
    (λ (ne : o ≡ c → ⊥). rw (stream-away c o ds x ne) l) (cases_eq o c)

-- the counts of a bucket after one more packet
pub count-here : (b : ℕ) (ps : List Parcel) (p : Parcel) → p.bucket ≡ b → count_in b (ps ++ p ∷ []) ≡ count_in b ps + 1
count-here b ps p e = count_in-append b ps (p ∷ []) ∙ ap (λ (t : Bool). count_in b ps + (0 + (if t then 1 else 0))) (eq-eqb p.bucket b e)

pub count-other : (b : ℕ) (ps : List Parcel) (p : Parcel) → p.bucket ≢ b → count_in b (ps ++ p ∷ []) ≡ count_in b ps
count-other b ps p ne = let e = count_in-append b ps (p ∷ []) ∙ ap (λ (t : Bool). count_in b ps + (0 + (if t then 1 else 0))) (ne_eqb p.bucket b ne) in e ∙ omega arith

-- a packet of bucket q
pub IsDispatcherSide-send : (owner sent start sent' : ℕ → ℕ) (ds : List Post) (q : ℕ) → IsDispatcherSide owner sent start ds → sent q < 2 ^ 32 - 1 → sent' q ≡ sent q + 1 → ((b : ℕ) → q ≢ b → sent' b ≡ sent b)
    → IsDispatcherSide owner sent' start (ds ++ post (owner q) (Of (kind_at (start q) (sent q)) q (sent q)) ∷ [])
IsDispatcherSide-send owner sent start sent' ds q d h more same = record {
  stands = λ b. ⊎_elim (λ (e : q ≡ b). subst (λ (b : ℕ). AreStands (owner b) (sent' b) (start b) (stand_at b after)) e here) (other b) (cases_eq q b);
  open_lists = λ c. open-post ds o kind q k c (d.open_lists c);
  legal = λ c. legal-post ds o (Of kind q k) c (d.legal c) (d.open_lists o, Continues-send k s (stand_at q ds o) (d.stands q).owner (d.stands q).below h);
} where
  o : ℕ
  o = owner q

  k : ℕ
  k = sent q

  s : ℕ
  s = start q

  kind : Kind
  kind = kind_at s k

  after : List Post
  after = ds ++ post o (Of kind q k) ∷ []

  here : AreStands o (sent' q) s (stand_at q after)
  here = subst (λ (n : ℕ). AreStands o n s (stand_at q after)) (sym more)
      (AreStands-send o k s (stand_at q ds) (stand_at q after) (d.stands q) (stand_at-here q o ds kind k ∙ stand_by-packet k s) (λ c ne. stand_at-away q c o ds (Of kind q k) (λ e. ne (sym e))))

  other : (b : ℕ) → q ≢ b → AreStands (owner b) (sent' b) (start b) (stand_at b after)
  other b ne = subst (λ (n : ℕ). AreStands (owner b) n (start b) (stand_at b after)) (sym (same b ne))
      (AreStands-same (owner b) (sent b) (start b) (stand_at b ds) (stand_at b after) (d.stands b) (λ c. stand_at-other b c o q ds kind k ne))

-- bucket q goes to another core behind its packets
pub IsDispatcherSide-mark : (owner sent start owner' start' : ℕ → ℕ) (ds : List Post) (q to : ℕ) → IsDispatcherSide owner sent start ds → start q < sent q → owner q ≢ to → owner' q ≡ to → start' q ≡ sent q
    → ((b : ℕ) → q ≢ b → owner' b ≡ owner b) → ((b : ℕ) → q ≢ b → start' b ≡ start b)
    → IsDispatcherSide owner' sent start' (ds ++ post (owner q) (Of Mark q (sent q)) ∷ [])
IsDispatcherSide-mark owner sent start owner' start' ds q to d more ne o_is s_is o_same s_same = record {
  stands = λ b. ⊎_elim (λ (e : q ≡ b). subst (λ (b : ℕ). AreStands (owner' b) (sent b) (start' b) (stand_at b after)) e (rw (o_is, s_is) here)) (other b) (cases_eq q b);
  open_lists = λ c. open-post ds o Mark q k c (d.open_lists c);
  legal = λ c. legal-post ds o (Of Mark q k) c (d.legal c) (d.open_lists o, Continues-mark k (start q) (stand_at q ds o) (d.stands q).owner more);
} where
  o : ℕ
  o = owner q

  k : ℕ
  k = sent q

  after : List Post
  after = ds ++ post o (Of Mark q k) ∷ []

  here : AreStands to k k (stand_at q after)
  here = AreStands-mark o k (start q) to (stand_at q ds) (stand_at q after) (d.stands q) more ne (stand_at-here q o ds Mark k) (λ c nc. stand_at-away q c o ds (Of Mark q k) (λ e. nc (sym e)))

  other : (b : ℕ) → q ≢ b → AreStands (owner' b) (sent b) (start' b) (stand_at b after)
  other b nb = rw (o_same b nb, s_same b nb) (AreStands-same (owner b) (sent b) (start b) (stand_at b ds) (stand_at b after) (d.stands b) (λ c. stand_at-other b c o q ds Mark k nb))

-- bucket q, of which nothing was sent, goes to another core
pub IsDispatcherSide-place : (owner sent start owner' : ℕ → ℕ) (ds : List Post) (q to : ℕ) → IsDispatcherSide owner sent start ds → sent q ≡ 0 → owner q ≢ to → owner' q ≡ to → ((b : ℕ) → q ≢ b → owner' b ≡ owner b) → IsDispatcherSide owner' sent start ds
IsDispatcherSide-place owner sent start owner' ds q to d none ne o_is o_same = record {
  stands = λ b. ⊎_elim (λ (e : q ≡ b). subst (λ (b : ℕ). AreStands (owner' b) (sent b) (start b) (stand_at b ds)) e (rw o_is (AreStands-place (owner q) (sent q) (start q) to (stand_at q ds) (d.stands q) none ne)))
      (λ (nb : q ≡ b → ⊥). rw (o_same b nb) (d.stands b)) (cases_eq q b);
  open_lists = d.open_lists;
  legal = d.legal;
}

-- the same owners, counts and starts, said otherwise
pub IsDispatcherSide-same : (owner sent start owner' sent' start' : ℕ → ℕ) (ds : List Post) → IsDispatcherSide owner sent start ds → ((b : ℕ) → owner' b ≡ owner b) → ((b : ℕ) → sent' b ≡ sent b) → ((b : ℕ) → start' b ≡ start b) → IsDispatcherSide owner' sent' start' ds
IsDispatcherSide-same owner sent start owner' sent' start' ds d o k s = record { stands = λ b. rw (o b, k b, s b) (d.stands b); open_lists = d.open_lists; legal = d.legal }

-- a bucket's owner, start and tails after one more try
pub owner-here : (start : List ℕ) (ts : List Try) (a : Ask) (o : Outcome) (b : ℕ) → ask_bucket a ≡ b → owner_after start (ts ++ try_of a o ∷ []) b ≡ owner_by (owner_after start ts b) (ask_to a) o
owner-here start ts a o b e = owner_from-append b (slice_index start b) ts (try_of a o ∷ []) ∙ ap (λ (t : Bool). if t then owner_by (owner_after start ts b) (ask_to a) o else owner_after start ts b) (eq-eqb (ask_bucket a) b e)

pub owner-other : (start : List ℕ) (ts : List Try) (a : Ask) (o : Outcome) (b : ℕ) → ask_bucket a ≢ b → owner_after start (ts ++ try_of a o ∷ []) b ≡ owner_after start ts b
owner-other start ts a o b ne = owner_from-append b (slice_index start b) ts (try_of a o ∷ []) ∙ ap (λ (t : Bool). if t then owner_by (owner_after start ts b) (ask_to a) o else owner_after start ts b) (ne_eqb (ask_bucket a) b ne)

pub tail-here : (ts : List Try) (a : Ask) (o : Outcome) (b : ℕ) → ask_bucket a ≡ b → tail_from b 0 (ts ++ try_of a o ∷ []) ≡ tail_by (tail_from b 0 ts) o
tail-here ts a o b e = tail_from-append b 0 ts (try_of a o ∷ []) ∙ ap (λ (t : Bool). if t then tail_by (tail_from b 0 ts) o else tail_from b 0 ts) (eq-eqb (ask_bucket a) b e)

pub tail-other : (ts : List Try) (a : Ask) (o : Outcome) (b : ℕ) → ask_bucket a ≢ b → tail_from b 0 (ts ++ try_of a o ∷ []) ≡ tail_from b 0 ts
tail-other ts a o b ne = tail_from-append b 0 ts (try_of a o ∷ []) ∙ ap (λ (t : Bool). if t then tail_by (tail_from b 0 ts) o else tail_from b 0 ts) (ne_eqb (ask_bucket a) b ne)

tails-here : (ts : List Try) (a : Ask) (o : Outcome) (b : ℕ) → ask_bucket a ≡ b → tails b (ts ++ try_of a o ∷ []) ≡ tails b ts ++ tail_list o
tails-here ts a o b e = tails-append b ts (try_of a o ∷ []) ∙ ap (λ (t : Bool). tails b ts ++ ((if t then tail_list o else []) ++ [])) (eq-eqb (ask_bucket a) b e) ∙ ap (λ (z : List ℕ). tails b ts ++ z) (append-nil (tail_list o))

tails-other : (ts : List Try) (a : Ask) (o : Outcome) (b : ℕ) → ask_bucket a ≢ b → tails b (ts ++ try_of a o ∷ []) ≡ tails b ts
tails-other ts a o b ne = tails-append b ts (try_of a o ∷ []) ∙ ap (λ (t : Bool). tails b ts ++ ((if t then tail_list o else []) ++ [])) (ne_eqb (ask_bucket a) b ne) ∙ append-nil (tails b ts)

-- a packet, and a try

pub IsTold-send : (first : List ℕ) (ts : List Try) (ps : List Parcel) (ds : List Post) (p : Parcel) → IsTold first ts ps ds → count_in p.bucket ps < 2 ^ 32 - 1
    → IsTold first ts (ps ++ p ∷ []) (ds ++ post (owner_after first ts p.bucket) (Of (kind_at (tail_from p.bucket 0 ts) (count_in p.bucket ps)) p.bucket (count_in p.bucket ps)) ∷ [])
IsTold-send first ts ps ds p t h = record {
  dispatcher = IsDispatcherSide-send (owner_after first ts) (λ b. count_in b ps) (λ b. tail_from b 0 ts) (λ b. count_in b (ps ++ p ∷ [])) ds p.bucket t.dispatcher h (count-here p.bucket ps p refl) (λ b ne. count-other b ps p ne);
  tails_rise = t.tails_rise;
}

rises : (ts : List Try) (a : Ask) (o : Outcome) → ((b : ℕ) → Rises 0 (tails b ts) (tail_from b 0 ts)) → Rises 0 (tails (ask_bucket a) ts ++ tail_list o) (tail_by (tail_from (ask_bucket a) 0 ts) o) → (b : ℕ) → Rises 0 (tails b (ts ++ try_of a o ∷ [])) (tail_from b 0 (ts ++ try_of a o ∷ []))
rises ts a o all here b = ⊎_elim
    (λ (e : ask_bucket a ≡ b). subst (λ (b : ℕ). Rises 0 (tails b (ts ++ try_of a o ∷ [])) (tail_from b 0 (ts ++ try_of a o ∷ []))) e (rw (tails-here ts a o (ask_bucket a) refl, tail-here ts a o (ask_bucket a) refl) here))
    (λ (ne : ask_bucket a ≡ b → ⊥). rw (tails-other ts a o b ne, tail-other ts a o b ne) (all b)) (cases_eq (ask_bucket a) b)

-- a try that changes nothing
idle : (first : List ℕ) (ts : List Try) (ps : List Parcel) (ds : List Post) (a : Ask) (o : Outcome) → IsTold first ts ps ds → ((x : ℕ) → owner_by x (ask_to a) o ≡ x) → ((x : ℕ) → tail_by x o ≡ x) → tail_list o ≡ [] → IsTold first (ts ++ try_of a o ∷ []) ps ds
idle first ts ps ds a o t same_owner same_tail none = record {
  dispatcher = IsDispatcherSide-same (owner_after first ts) (λ b. count_in b ps) (λ b. tail_from b 0 ts) (owner_after first (ts ++ try_of a o ∷ [])) (λ b. count_in b ps) (λ b. tail_from b 0 (ts ++ try_of a o ∷ [])) ds t.dispatcher
      (λ b. ⊎_elim (λ (e : ask_bucket a ≡ b). owner-here first ts a o b e ∙ same_owner (owner_after first ts b)) (λ (ne : ask_bucket a ≡ b → ⊥). owner-other first ts a o b ne) (cases_eq (ask_bucket a) b))
      (λ b. refl)
      (λ b. ⊎_elim (λ (e : ask_bucket a ≡ b). tail-here ts a o b e ∙ same_tail (tail_from b 0 ts)) (λ (ne : ask_bucket a ≡ b → ⊥). tail-other ts a o b ne) (cases_eq (ask_bucket a) b));
  tails_rise = rises ts a o t.tails_rise (rw (none, append-nil (tails (ask_bucket a) ts), same_tail (tail_from (ask_bucket a) 0 ts)) (t.tails_rise (ask_bucket a)));
}

pub IsTold-try : (first : List ℕ) (ts : List Try) (ps : List Parcel) (ds : List Post) (a : Ask) (o : Outcome) → IsTold first ts ps ds
    → IsOutcome (owner_after first ts (ask_bucket a)) (ask_to a) (count_in (ask_bucket a) ps) (tail_from (ask_bucket a) 0 ts) o
    → IsTold first (ts ++ try_of a o ∷ []) ps (ds ++ mark_posts (owner_after first ts (ask_bucket a)) (ask_bucket a) o)
IsTold-try first ts ps ds a Same t i = rw (append-nil ds) (idle first ts ps ds a Same t (λ x. refl) (λ x. refl) refl)
IsTold-try first ts ps ds a (InPassage tail sent word) t i = rw (append-nil ds) (idle first ts ps ds a (InPassage tail sent word) t (λ x. refl) (λ x. refl) refl)
IsTold-try first ts ps ds a Placed t i = rw (append-nil ds) (record {
  dispatcher = IsDispatcherSide-same (placed) (λ b. count_in b ps) (λ b. tail_from b 0 ts) placed (λ b. count_in b ps) (λ b. tail_from b 0 (ts ++ try_of a Placed ∷ [])) ds
      (IsDispatcherSide-place (owner_after first ts) (λ b. count_in b ps) (λ b. tail_from b 0 ts) placed ds (ask_bucket a) (ask_to a) t.dispatcher i.1 i.0 (owner-here first ts a Placed (ask_bucket a) refl) (λ b ne. owner-other first ts a Placed b ne))
      (λ b. refl) (λ b. refl)
      (λ b. ⊎_elim (λ (e : ask_bucket a ≡ b). tail-here ts a Placed b e) (λ (ne : ask_bucket a ≡ b → ⊥). tail-other ts a Placed b ne) (cases_eq (ask_bucket a) b));
  tails_rise = rises ts a Placed t.tails_rise (rw (append-nil (tails (ask_bucket a) ts)) (t.tails_rise (ask_bucket a)));
}) where
  placed : ℕ → ℕ
  placed = owner_after first (ts ++ try_of a Placed ∷ [])
IsTold-try first ts ps ds a (Moved tail) t i = record {
  dispatcher = subst (λ (x : ℕ). IsDispatcherSide (owner_after first (ts ++ try_of a (Moved tail) ∷ [])) (λ b. count_in b ps) (λ b. tail_from b 0 (ts ++ try_of a (Moved tail) ∷ [])) (ds ++ post (owner_after first ts q) (Of Mark q x) ∷ [])) (sym i.3)
      (IsDispatcherSide-mark (owner_after first ts) (λ b. count_in b ps) (λ b. tail_from b 0 ts) (owner_after first (ts ++ try_of a (Moved tail) ∷ [])) (λ b. tail_from b 0 (ts ++ try_of a (Moved tail) ∷ [])) ds q (ask_to a) t.dispatcher more i.0
      (owner-here first ts a (Moved tail) q refl) (tail-here ts a (Moved tail) q refl ∙ i.3) (λ b ne. owner-other first ts a (Moved tail) b ne) (λ b ne. tail-other ts a (Moved tail) b ne));
  tails_rise = rises ts a (Moved tail) t.tails_rise (Rises-push 0 (tails q ts) (tail_from q 0 ts) tail (t.tails_rise q) (let e = i.3 in let m = more in omega arith));
} where
  q : ℕ
  q = ask_bucket a

  more : tail_from q 0 ts < count_in q ps
  more = let below = (t.dispatcher.stands q).below in let ne = i.2 in omega arith
