-- A machine that isn't finished has a next event, and one that is has worked all.
use Rattle.std.proofs.Common.{◌≡◌, ℕ, ◌<◌, ◌≤◌, List, [], ◌∷◌, ◌++◌, length, map, Bool, true, false, ◌&&◌, ◌||◌, if◌then◌else◌, ◌==◌, ltb, eqb, refl, sym, ap, ◌∙◌, subst, ⊎_elim, Some, None, arith}
use Rattle.std.proofs.lemmas.Bool.{cases_lt, cases_eq, lt-ltb, le-ltb, and_from, eq-eqb, not-false}
use Rattle.std.proofs.lemmas.List.{append-nil}
use Rattle.std.specs.Prelude.{flat_map, not}
use Rattle.std.specs.List.{list_any}
use Rattle.indirection.specs.Tries.{upto}
use Rattle.indirection.proofs.Tests.{by_test}
use Rattle.handover_core.specs.declared.item.Item.{Item}
use Rattle.handover_core.specs.declared.event.Event.{Event}
use Rattle.handover_core.specs.declared.event.Event.TheVariants.{Send, Look, Move, Place, SendEnd, Take, Claim, Release}
use Rattle.handover_core.specs.Dispatch.{stream}
use Rattle.handover_core.specs.declared.post.Post.{Post}
use Rattle.handover_core.specs.State.{Hand, Away, Waiting, Held, Leaving, MachineView, bucket_at, core_at, hand_at}
use Rattle.handover_core.specs.Machine.{enabled, waiting_places, is_end, has_end, is_empty, end_sent_to, waits_for, is_leaving, counted_events, next_event}
use Rattle.handover_core.specs.Bucket.{Piece, Task, Idle, Awaits, Works, Finishes, Fits, task_in}
use Rattle.handover_core.specs.Sound.{bucket_snapshot, IsSound}
use Rattle.handover_core.specs.Promises.{IsFinished, IsOfWorker, counts}
use Rattle.handover_core.proofs.Found.{Each_of, none-find, find-none, find-some, each-append, each-left, each-right, each-upto, each-at, each-flat, each-flat_at}
use Rattle.handover_core.proofs.Pieces.{length-places_from}
use Rattle.handover_core.proofs.Progress.{worker-goes, waiting-acts}

-- the counted events one by one
pub record EachCounted (P : Event → Type 0) (m : MachineView) : Type 0 where
  pub send : P Send
  pub send_end : (c : ℕ) → c < length m.cores → P (SendEnd c)
  pub takes : (c : ℕ) → c < length m.cores → P (Take c)
  pub claims : (c : ℕ) → c < length m.cores → (b : ℕ) → b < length m.buckets → P (Claim c b)
  pub releases : (c : ℕ) → c < length m.cores → (b : ℕ) → b < length m.buckets → P (Release c b)

counted-each : (P : Event → Type 0) (m : MachineView) → Each_of P (counted_events m) → EachCounted P m
counted-each P m a = record {
  send = a.0;
  send_end = λ c l. each-at P SendEnd n c l (each-left P ends _ a.1);
  takes = λ c l. each-at P Take n c l (each-left P takes _ (each-right P ends _ a.1));
  claims = λ c l b lb. each-at P (Claim c) k b lb (each-flat_at P (λ c. map (Claim c) (upto k)) n c l (each-left P claims releases (each-right P takes _ (each-right P ends _ a.1))));
  releases = λ c l b lb. each-at P (Release c) k b lb (each-flat_at P (λ c. map (Release c) (upto k)) n c l (each-right P claims releases (each-right P takes _ (each-right P ends _ a.1))));
} where
  n : ℕ
  n = length m.cores

  k : ℕ
  k = length m.buckets

  ends : List Event
  ends = map SendEnd (upto n)

  takes : List Event
  takes = map Take (upto n)

  claims : List Event
  claims = flat_map (λ c. map (Claim c) (upto k)) (upto n)

  releases : List Event
  releases = flat_map (λ c. map (Release c) (upto k)) (upto n)

each-counted : (P : Event → Type 0) (m : MachineView) → EachCounted P m → Each_of P (counted_events m)
each-counted P m e = (
  e.send,
  each-append P ends (takes ++ (claims ++ releases)) (each-upto P SendEnd n e.send_end)
      (each-append P takes (claims ++ releases) (each-upto P Take n e.takes)
      (each-append P claims releases (each-flat P (λ c. map (Claim c) (upto k)) n (λ c l. each-upto P (Claim c) k (e.claims c l)))
      (each-flat P (λ c. map (Release c) (upto k)) n (λ c l. each-upto P (Release c) k (e.releases c l))))),
) where
  n : ℕ
  n = length m.cores

  k : ℕ
  k = length m.buckets

  ends : List Event
  ends = map SendEnd (upto n)

  takes : List Event
  takes = map Take (upto n)

  claims : List Event
  claims = flat_map (λ c. map (Claim c) (upto k)) (upto n)

  releases : List Event
  releases = flat_map (λ c. map (Release c) (upto k)) (upto n)

-- the next event is enabled, and a counted one
pub next-enabled : (m : MachineView) (e : Event) → next_event m ≡ Some e → (enabled m e ≡ true) × (counts e ≡ 1)
next-enabled m e f = find-some (enabled m) (λ e. counts e ≡ 1) (counted_events m) e f
    (each-counted (λ e. counts e ≡ 1) m (record { send = refl; send_end = λ c l. refl; takes = λ c l. refl; claims = λ c l b lb. refl; releases = λ c l b lb. refl }))

-- parts of a test that fails

false-and : (a b : Bool) → a ≡ true → (a && b) ≡ false → b ≡ false
false-and true b e f = f
false-and false b e f = absurd (cc)

and-false_right : (a b : Bool) → b ≡ false → (a && b) ≡ false
and-false_right true b e = e
and-false_right false b e = refl

and-false_left : (a b : Bool) → a ≡ false → (a && b) ≡ false
and-false_left true b e = absurd (cc)
and-false_left false b e = refl

-- a finished machine has no counted event
finished-none : (m : MachineView) → IsFinished m → EachCounted (λ e. enabled m e ≡ false) m
finished-none m f = record {
  send = and-false_left (ltb m.sent (length m.packets)) (ltb 0 m.free) (le-ltb m.sent (length m.packets) (let e = f.sent in omega arith));
  send_end = λ c l. and-false_right (ltb c (length m.cores)) _ (and-false_right (eqb m.sent (length m.packets)) (not (end_sent_to m c)) (ap not (f.ends c l)));
  takes = λ c l. and-false_right (ltb c (length m.cores)) _ (ap (λ (q : List Item). not (is_empty q)) (f.queues c l));
  claims = λ c l b lb. and-false_right (ltb c (length m.cores)) _ (and-false_right (ltb b (length m.buckets)) _ (ap (λ (h : Hand). waits_for h (bucket_at m b).word) (f.hands c b l lb)));
  releases = λ c l b lb. and-false_right (ltb c (length m.cores)) _ (and-false_right (ltb b (length m.buckets)) _ (ap is_leaving (f.hands c b l lb)));
}

pub finished-stops : (m : MachineView) → IsFinished m → next_event m ≡ None
finished-stops m f = find-none (enabled m) (counted_events m) (each-counted (λ e. enabled m e ≡ false) m (finished-none m f))

-- a sound machine with no counted event is finished

no-act : (m : MachineView) → EachCounted (λ e. enabled m e ≡ false) m → (e : Event) → IsOfWorker e → enabled m e ≡ true → ⊥
no-act m n (Take c) w e = ⊎_elim (λ (l : c < length m.cores). let f = n.takes c l in cc)
    (λ (l : length m.cores ≤ c). let f = and-false_left (ltb c (length m.cores)) (not (is_empty (core_at m c).queue)) (le-ltb c (length m.cores) l) in cc) (cases_lt c (length m.cores))
no-act m n (Claim c b) w e = ⊎_elim
    (λ (l : c < length m.cores). ⊎_elim (λ (lb : b < length m.buckets). let f = n.claims c l b lb in cc)
    (λ (lb : length m.buckets ≤ b). let f : enabled m (Claim c b) ≡ false = and-false_right (ltb c (length m.cores)) _ (and-false_left (ltb b (length m.buckets)) (waits_for (hand_at m c b) (bucket_at m b).word) (le-ltb b (length m.buckets) lb)) in cc) (cases_lt b (length m.buckets)))
    (λ (l : length m.cores ≤ c). let f : enabled m (Claim c b) ≡ false = and-false_left (ltb c (length m.cores)) _ (le-ltb c (length m.cores) l) in cc) (cases_lt c (length m.cores))
no-act m n (Release c b) w e = ⊎_elim
    (λ (l : c < length m.cores). ⊎_elim (λ (lb : b < length m.buckets). let f = n.releases c l b lb in cc)
    (λ (lb : length m.buckets ≤ b). let f : enabled m (Release c b) ≡ false = and-false_right (ltb c (length m.cores)) _ (and-false_left (ltb b (length m.buckets)) (is_leaving (hand_at m c b)) (le-ltb b (length m.buckets) lb)) in cc) (cases_lt b (length m.buckets)))
    (λ (l : length m.cores ≤ c). let f : enabled m (Release c b) ≡ false = and-false_left (ltb c (length m.cores)) _ (le-ltb c (length m.cores) l) in cc) (cases_lt c (length m.cores))
no-act m n Send w e = w
no-act m n (Look b) w e = w
no-act m n (Move b to) w e = w
no-act m n (Place b to) w e = w
no-act m n (SendEnd c) w e = w

free-all : (m : MachineView) → IsSound m → EachCounted (λ e. enabled m e ≡ false) m → m.free ≡ m.pool
free-all m s n = ⊎_elim (λ (e : m.free ≡ m.pool). e) (λ (ne : m.free ≡ m.pool → ⊥). let a = worker-goes m s ne in absurd (no-act m n a.0 a.1 a.2)) (cases_eq m.free m.pool)

sent-all : (m : MachineView) → IsSound m → EachCounted (λ e. enabled m e ≡ false) m → m.sent ≡ length m.packets
sent-all m s n = ⊎_elim
    (λ (l : m.sent < length m.packets). let f = free-all m s n in let p = s.shaped.pool in
    let t = and_from (ltb m.sent (length m.packets)) (ltb 0 m.free) (lt-ltb m.sent (length m.packets) l) (lt-ltb 0 m.free (omega arith)) in let u = n.send in absurd (cc))
    (λ (l : length m.packets ≤ m.sent). let u = s.shaped.sent in omega arith) (cases_lt m.sent (length m.packets))

ends-all : (m : MachineView) → IsSound m → EachCounted (λ e. enabled m e ≡ false) m → (c : ℕ) → c < length m.cores → end_sent_to m c ≡ true
ends-all m s n c l = not-false (end_sent_to m c) (false-and (eqb m.sent (length m.packets)) (not (end_sent_to m c)) (eq-eqb m.sent (length m.packets) (sent-all m s n)) (false-and (ltb c (length m.cores)) _ (lt-ltb c (length m.cores) l) (n.send_end c l)))

empty-is : (xs : List Item) → is_empty xs ≡ true → xs ≡ []
empty-is [] e = refl
empty-is (x ∷ xs) e = absurd (cc)

queues-all : (m : MachineView) → EachCounted (λ e. enabled m e ≡ false) m → (c : ℕ) → c < length m.cores → (core_at m c).queue ≡ []
queues-all m n c l = empty-is (core_at m c).queue (not-false (is_empty (core_at m c).queue) (false-and (ltb c (length m.cores)) _ (lt-ltb c (length m.cores) l) (n.takes c l)))

-- an End that was sent to a core is on its list
or-true_right : (a b : Bool) → b ≡ true → (a || b) ≡ true
or-true_right true b e = refl
or-true_right false b e = e

or-cases : (a b c : Bool) → (a || b) ≡ true → (a ≡ true → c ≡ true) → (b ≡ true → c ≡ true) → c ≡ true
or-cases true b c e f g = f refl
or-cases false b c e f g = g e

or-true_left : (a b : Bool) → a ≡ true → (a || b) ≡ true
or-true_left true b e = refl
or-true_left false b e = absurd (cc)

sent-stream : (c : ℕ) (ds : List Post) → list_any (λ (p : Post). (p.core == c) && is_end p.item) ds ≡ true → has_end (stream c ds) ≡ true
sent-stream c [] e = absurd (cc)
sent-stream c (p ∷ ds) e =
    let rest = λ (h : list_any (λ (p : Post). (p.core == c) && is_end p.item) ds ≡ true). sent-stream c ds h in
    by_test p.core c (λ t. ((t && is_end p.item) || list_any (λ (p : Post). (p.core == c) && is_end p.item) ds) ≡ true → has_end ((if t then p.item ∷ [] else []) ++ stream c ds) ≡ true)
    (λ _ h. or-cases (is_end p.item) (list_any (λ (p : Post). (p.core == c) && is_end p.item) ds) (is_end p.item || has_end (stream c ds)) h
    (λ g. or-true_left (is_end p.item) (has_end (stream c ds)) g) (λ g. or-true_right (is_end p.item) (has_end (stream c ds)) (rest g)))
    (λ _ h. rest h) e

ended-all : (m : MachineView) → IsSound m → EachCounted (λ e. enabled m e ≡ false) m → (c : ℕ) → c < length m.cores → has_end (core_at m c).taken ≡ true
ended-all m s n c l =
    let q : (core_at m c).taken ≡ stream c m.dispatched = sym (append-nil (core_at m c).taken) ∙ (ap (λ (z : List Item). (core_at m c).taken ++ z) (sym (queues-all m n c l)) ∙ s.streamed.streams c) in
    subst (λ (z : List Item). has_end z ≡ true) (sym q) (sent-stream c m.dispatched (ends-all m s n c l))

-- nothing waits, is held or is to be released
idle-hand : (r : Task) (e : Bool) (h : Hand) (q : List Piece) → e ≡ true → ((places : List ℕ) → h ≡ Waiting places → (0 < length places → ⊥)) → is_leaving h ≡ false → Fits r e h q → h ≡ Away
idle-hand r e Away q t w l f = refl
idle-hand Idle e (Waiting ps) q t w l f = absurd f
idle-hand (Awaits s k) e (Waiting ps) q t w l f = absurd (w ps refl (let n = ap (λ (z : List ℕ). length z) f.4 ∙ length-places_from s f.0 in let p = f.2 in omega arith))
idle-hand (Works s k) e (Waiting ps) q t w l f = absurd f
idle-hand (Finishes s k) e (Waiting ps) q t w l f = absurd f
idle-hand Idle e (Held a d) q t w l f = absurd f
idle-hand (Awaits s k) e (Held a d) q t w l f = absurd f
idle-hand (Works s k) e (Held a d) q t w l f = let x = f.5 in absurd (cc)
idle-hand (Finishes s k) e (Held a d) q t w l f = let x = f.5 in absurd (cc)
idle-hand r e (Leaving a d) q t w l f = absurd (cc)

no-waiting : (m : MachineView) → IsSound m → EachCounted (λ e. enabled m e ≡ false) m → (c b : ℕ) → c < length m.cores → b < length m.buckets → (places : List ℕ) → hand_at m c b ≡ Waiting places → 0 < length places → ⊥
no-waiting m s n c b l lb places i p =
    let a = waiting-acts m s c b l lb (subst (λ (h : Hand). 0 < length (waiting_places h)) (sym i) p) in no-act m n a.0 a.1 a.2

pub stuck-finished : (m : MachineView) → IsSound m → next_event m ≡ None → IsFinished m
stuck-finished m s e = record {
  sent = sent-all m s n;
  ends = ends-all m s n;
  queues = queues-all m n;
  hands = λ c b l lb. let g = s.buckets.buckets b lb in
      idle-hand (task_in g.stage (bucket_at m b).owner (bucket_at m b).start (bucket_snapshot m b).sent c) (has_end (core_at m c).taken) (hand_at m c b) ((bucket_snapshot m b).queue c) (ended-all m s n c l)
      (no-waiting m s n c b l lb)
      (false-and (ltb b (length m.buckets)) _ (lt-ltb b (length m.buckets) lb) (false-and (ltb c (length m.cores)) _ (lt-ltb c (length m.cores) l) (n.releases c l b lb))) (g.is_in.fits c);
} where
  n : EachCounted (λ e. enabled m e ≡ false) m
  n = counted-each (λ e. enabled m e ≡ false) m (none-find (enabled m) (counted_events m) e)

pub free-finished : (m : MachineView) → IsSound m → IsFinished m → m.free ≡ m.pool
free-finished m s f = free-all m s (finished-none m f)
