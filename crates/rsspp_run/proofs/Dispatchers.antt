-- What each event of the dispatcher does to what it keeps.
use Rattle.std.proofs.Common.{zero, suc, ◌≡◌, ◌≢◌, ℕ, ◌+◌, ◌<◌, ◌≤◌, Bool, true, false, ◌&&◌, ◌||◌, if◌then◌else◌, ◌-◌, eqb, ltb, List, [], ◌∷◌, ◌++◌, length, get_or, set, refl, sym, ap, ◌∙◌, subst, ⊎_elim, arith, length-set, get_or-set_same, get_or-set_other, eq-eqb, ne_eqb}
use mathlib.Core.Logic.{dite}
use native.Mathlib.Decide.{ℕ_discrete}
use Rattle.std.specs.Prelude.{slice_index}
use Rattle.std.specs.List.{list_any}
use Rattle.std.proofs.lemmas.Bool.{cases_lt, lt-ltb, le-ltb}
use Rattle.std.proofs.lemmas.List.Folds.{list_any-append}
use Rattle.handover_core.specs.declared.bucket_state.BucketState.{BucketState}
use Rattle.handover_core.specs.declared.item.Item.{Item}
use Rattle.handover_core.specs.declared.item.Item.TheVariants.{End}
use Rattle.handover_core.specs.declared.post.Post.{Post}
use Rattle.handover_core.specs.declared.event.Event.TheVariants.{Send, Look, Move, Place, SendEnd}
use Rattle.handover_core.specs.State.{MachineView, blank_bucket, bucket_at, sent_of}
use Rattle.handover_core.specs.Machine.{is_end, step}
use Rattle.handover_core.proofs.MachineDispatchers.{sent-here, sent-other}
use Rattle.packet_fields.specs.declared.packet.PacketInfo.{PacketInfo}
use Rattle.dispatch_loop.specs.DispatcherState.{DispatcherState}
use Rattle.dispatch_loop.specs.Does.{bucket_for, with_packet}
use Rattle.rsspp_run.specs.DispatcherOf.{IsDispatcherOf, fresh_in}

or-false : (b : Bool) → (b || false) ≡ b
or-false true = refl
or-false false = refl

-- no End among what is sent
no_end_to : (ds : List Post) (c o : ℕ) (x : Item) → is_end x ≡ false → list_any (λ (p : Post). eqb p.core c && is_end p.item) (ds ++ record { core = o; item = x } ∷ []) ≡ list_any (λ (p : Post). eqb p.core c && is_end p.item) ds
no_end_to ds c o x e = list_any-append (λ (p : Post). eqb p.core c && is_end p.item) ds (record { core = o; item = x } ∷ []) ∙ (ap (λ t. list_any (λ (p : Post). eqb p.core c && is_end p.item) ds || ((eqb o c && t) || false)) e ∙ both (list_any (λ (p : Post). eqb p.core c && is_end p.item) ds) (eqb o c)) where
  both : (a b : Bool) → (a || ((b && false) || false)) ≡ a
  both true b = refl
  both false true = refl
  both false false = refl

no_end : (ds : List Post) (o : ℕ) (x : Item) → is_end x ≡ false → list_any (λ (p : Post). is_end p.item) (ds ++ record { core = o; item = x } ∷ []) ≡ list_any (λ (p : Post). is_end p.item) ds
no_end ds o x e = list_any-append (λ (p : Post). is_end p.item) ds (record { core = o; item = x } ∷ []) ∙ (ap (λ t. list_any (λ (p : Post). is_end p.item) ds || (t || false)) e ∙ or-false (list_any (λ (p : Post). is_end p.item) ds))

-- a number set in a list
set_to : (xs : List ℕ) (b k y : ℕ) (new_k : ℕ) → b < length xs → (k ≡ b → new_k ≡ y) → (k ≢ b → new_k ≡ slice_index xs k) → new_k ≡ slice_index (set xs b y) k
set_to xs b k y n near here other = dite (ℕ_discrete k b)
    (λ e. here e ∙ sym (ap (λ i. get_or (set xs b y) i 0) e ∙ get_or-set_same xs b y 0 near))
    (λ ne. other ne ∙ sym (get_or-set_other xs b k y 0 ne))

-- one thing of a bucket that is set
bucket_thing : (g : BucketState → ℕ) (bs : List BucketState) (b k : ℕ) (x : BucketState) (n : ℕ) → b < length bs → (k ≡ b → g x ≡ n) → (k ≢ b → g (get_or bs k blank_bucket) ≡ n) → g (get_or (set bs b x) k blank_bucket) ≡ n
bucket_thing g bs b k x n near here other = dite (ℕ_discrete k b)
    (λ e. ap (λ i. g (get_or (set bs b x) i blank_bucket)) e ∙ (ap g (get_or-set_same bs b x blank_bucket near) ∙ here e))
    (λ ne. ap g (get_or-set_other bs b k x blank_bucket ne) ∙ other ne)

-- a bucket gets one packet more, or is moved
fresh_more : (ss ks : List ℕ) (b y : ℕ) → fresh_in ss (set ks b y) ≤ fresh_in ss ks + 1
fresh_more [] ks b y = omega arith
fresh_more (s ∷ ss) [] b y = omega arith
fresh_more (s ∷ ss) (k ∷ ks) zero y = let a = most (ltb s y) in omega arith where
  most : (t : Bool) → (if t then 1 else 0) ≤ 1
  most true = omega arith
  most false = omega arith
fresh_more (s ∷ ss) (k ∷ ks) (suc b) y = let ih = fresh_more ss ks b y in omega arith

if_of : (t : Bool) (n : ℕ) → t ≡ true → (if t then 1 else 0) + n ≡ n + 1
if_of true n e = omega arith
if_of false n e = absurd (cc)

if_not : (t : Bool) (n : ℕ) → t ≡ false → (if t then 1 else 0) + n ≡ n
if_not true n e = absurd (cc)
if_not false n e = omega arith

fresh_moved : (ss ks : List ℕ) (b : ℕ) → b < length ss → b < length ks → slice_index ss b < slice_index ks b → fresh_in (set ss b (slice_index ks b)) ks + 1 ≡ fresh_in ss ks
fresh_moved [] ks b l k lt = absurd (omega arith)
fresh_moved (s ∷ ss) [] b l k lt = absurd (omega arith)
fresh_moved (s ∷ ss) (n ∷ ks) zero l k lt = let a = if_of (ltb s n) (fresh_in ss ks) (lt-ltb s n lt) in let c = if_not (ltb n n) (fresh_in ss ks) (le-ltb n n (omega arith)) in omega arith
fresh_moved (s ∷ ss) (n ∷ ks) (suc b) l k lt = let ih = fresh_moved ss ks b (omega arith) (omega arith) lt in omega arith

module _ (m : MachineView) (d : DispatcherState) (dispatcher : IsDispatcherOf m d) where
  -- what isn't read of it may change
  pub dispatcher_same : (d' : DispatcherState) → d'.terms ≡ d.terms → d'.owners ≡ d.owners → d'.starts ≡ d.starts → d'.counts ≡ d.counts → d'.sent ≡ d.sent → d'.ends ≡ d.ends → d'.spare ≡ false → IsDispatcherOf m d'
  dispatcher_same d' t o s c n e p = record {
    cores = dispatcher.cores ∙ sym (ap Rattle.dispatch_loop.specs.Terms.cores_of t);
    buckets = dispatcher.buckets ∙ sym (ap Rattle.dispatch_loop.specs.Terms.buckets_of t);
    wide_owners = ap length o ∙ dispatcher.wide_owners;
    wide_starts = ap length s ∙ dispatcher.wide_starts;
    wide_counts = ap length c ∙ dispatcher.wide_counts;
    sent = dispatcher.sent ∙ sym n;
    owners = λ b lt. dispatcher.owners b lt ∙ sym (ap (λ xs. slice_index xs b) o);
    starts = λ b lt. dispatcher.starts b lt ∙ sym (ap (λ xs. slice_index xs b) s);
    counts = λ b lt. dispatcher.counts b lt ∙ sym (ap (λ xs. slice_index xs b) c);
    ends = λ k lt. dispatcher.ends k lt ∙ sym (ap (λ z. ltb k z) e);
    ending = dispatcher.ending ∙ sym (ap (λ z. ltb 0 z) e);
    spare = p;
    moves = subst (λ (y : List ℕ × List ℕ). fresh_in y.0 y.1 + (length m.packets - m.sent) ≤ m.moves) (λ i. (sym s i, sym c i)) dispatcher.moves;
  }

  -- a packet was sent
  pub dispatcher_send : (info : PacketInfo) → m.sent < length m.packets → slice_index m.packets m.sent ≡ bucket_for d info → bucket_for d info < length m.buckets → IsDispatcherOf (step m Send) (with_packet d info)
  dispatcher_send info left is near =
      let b = bucket_for d info in let wide = dispatcher.wide_counts in
      record {
        cores = length-set m.cores _ _ ∙ dispatcher.cores;
        buckets = dispatcher.buckets;
        wide_owners = dispatcher.wide_owners;
        wide_starts = dispatcher.wide_starts;
        wide_counts = length-set d.counts b _ ∙ dispatcher.wide_counts;
        sent = let e = dispatcher.sent in omega arith;
        owners = dispatcher.owners;
        starts = dispatcher.starts;
        counts = λ k lt. set_to d.counts b k (slice_index d.counts b + 1) (sent_of (step m Send) k) (omega arith)
            (λ e. subst (λ i. sent_of (step m Send) i ≡ sent_of m i + 1) (is ∙ sym e) (sent-here m left) ∙ ap (λ z. z + 1) (ap (sent_of m) e ∙ dispatcher.counts b near))
            (λ ne. sent-other m k left (λ e. ne (sym e ∙ is)) ∙ dispatcher.counts k lt);
        ends = λ c lt. no_end_to m.dispatched c _ _ refl ∙ dispatcher.ends c (let l : length (step m Send).cores ≡ length m.cores = length-set m.cores _ _ in omega arith);
        ending = no_end m.dispatched _ _ refl ∙ dispatcher.ending;
        spare = refl;
        moves = let a = fresh_more d.starts d.counts b (slice_index d.counts b + 1) in let e = dispatcher.moves in omega arith;
      }

  -- a word was looked at
  pub dispatcher_look : (b : ℕ) → b < length m.buckets → IsDispatcherOf (step m (Look b)) d
  dispatcher_look b near = let wide = length-set m.buckets b (record (bucket_at m b) { seen = (bucket_at m b).word }) in record {
    cores = dispatcher.cores;
    buckets = wide ∙ dispatcher.buckets;
    wide_owners = dispatcher.wide_owners ∙ sym wide;
    wide_starts = dispatcher.wide_starts ∙ sym wide;
    wide_counts = dispatcher.wide_counts ∙ sym wide;
    sent = dispatcher.sent;
    owners = λ k lt. bucket_thing (λ (x : BucketState). x.owner) m.buckets b k _ _ near (λ e. sym (ap (λ i. (bucket_at m i).owner) e) ∙ dispatcher.owners k (omega arith)) (λ ne. dispatcher.owners k (omega arith));
    starts = λ k lt. bucket_thing (λ (x : BucketState). x.start) m.buckets b k _ _ near (λ e. sym (ap (λ i. (bucket_at m i).start) e) ∙ dispatcher.starts k (omega arith)) (λ ne. dispatcher.starts k (omega arith));
    counts = λ k lt. dispatcher.counts k (omega arith);
    ends = dispatcher.ends;
    ending = dispatcher.ending;
    spare = dispatcher.spare;
    moves = dispatcher.moves;
  }

  -- a bucket of which nothing was sent was given to another core
  pub dispatcher_place : (b to : ℕ) → b < length m.buckets → IsDispatcherOf (step m (Place b to)) (record d { owners = set d.owners b to })
  dispatcher_place b to near = let wide = length-set m.buckets b (record (bucket_at m b) { owner = to }) in let wo = dispatcher.wide_owners in record {
    cores = dispatcher.cores;
    buckets = wide ∙ dispatcher.buckets;
    wide_owners = length-set d.owners b to ∙ (dispatcher.wide_owners ∙ sym wide);
    wide_starts = dispatcher.wide_starts ∙ sym wide;
    wide_counts = dispatcher.wide_counts ∙ sym wide;
    sent = dispatcher.sent;
    owners = λ k lt. set_to d.owners b k to _ (omega arith) (λ e. bucket_thing (λ (x : BucketState). x.owner) m.buckets b k _ to near (λ _. refl) (λ ne. absurd (ne e)))
        (λ ne. bucket_thing (λ (x : BucketState). x.owner) m.buckets b k _ _ near (λ e. absurd (ne e)) (λ _. dispatcher.owners k (omega arith)));
    starts = λ k lt. bucket_thing (λ (x : BucketState). x.start) m.buckets b k _ _ near (λ e. sym (ap (λ i. (bucket_at m i).start) e) ∙ dispatcher.starts k (omega arith)) (λ ne. dispatcher.starts k (omega arith));
    counts = λ k lt. dispatcher.counts k (omega arith);
    ends = dispatcher.ends;
    ending = dispatcher.ending;
    spare = dispatcher.spare;
    moves = dispatcher.moves;
  }

  -- a bucket was moved
  pub dispatcher_move : (b to tail : ℕ) → b < length m.buckets → tail ≡ sent_of m b → slice_index d.starts b < slice_index d.counts b → IsDispatcherOf (step m (Move b to)) (record d { owners = set d.owners b to; starts = set d.starts b tail })
  dispatcher_move b to tail near is fresh = let x : BucketState = record (bucket_at m b) { owner = to; start = sent_of m b } in let wide = length-set m.buckets b x in let wo = dispatcher.wide_owners in let ws = dispatcher.wide_starts in record {
    cores = length-set m.cores _ _ ∙ dispatcher.cores;
    buckets = wide ∙ dispatcher.buckets;
    wide_owners = length-set d.owners b to ∙ (dispatcher.wide_owners ∙ sym wide);
    wide_starts = length-set d.starts b tail ∙ (dispatcher.wide_starts ∙ sym wide);
    wide_counts = dispatcher.wide_counts ∙ sym wide;
    sent = dispatcher.sent;
    owners = λ k lt. set_to d.owners b k to _ (omega arith) (λ e. bucket_thing (λ (x : BucketState). x.owner) m.buckets b k x to near (λ _. refl) (λ ne. absurd (ne e)))
        (λ ne. bucket_thing (λ (x : BucketState). x.owner) m.buckets b k x _ near (λ e. absurd (ne e)) (λ _. dispatcher.owners k (omega arith)));
    starts = λ k lt. set_to d.starts b k tail _ (omega arith) (λ e. bucket_thing (λ (x : BucketState). x.start) m.buckets b k x tail near (λ _. sym is) (λ ne. absurd (ne e)))
        (λ ne. bucket_thing (λ (x : BucketState). x.start) m.buckets b k x _ near (λ e. absurd (ne e)) (λ _. dispatcher.starts k (omega arith)));
    counts = λ k lt. dispatcher.counts k (omega arith);
    ends = λ c lt. no_end_to m.dispatched c _ _ refl ∙ dispatcher.ends c (let l : length (step m (Move b to)).cores ≡ length m.cores = length-set m.cores _ _ in omega arith);
    ending = no_end m.dispatched _ _ refl ∙ dispatcher.ending;
    spare = dispatcher.spare;
    moves = let e = dispatcher.moves in let wc = dispatcher.wide_counts in
        let n = fresh_moved d.starts d.counts b (omega arith) (omega arith) fresh in
        let same : tail ≡ slice_index d.counts b = is ∙ dispatcher.counts b near in
        subst (λ z. fresh_in (set d.starts b z) d.counts + (length m.packets - m.sent) ≤ m.moves - 1) (sym same) (omega arith);
  }

  -- the next core got its End
  pub dispatcher_end : IsDispatcherOf (step m (SendEnd d.ends)) (record d { ends = d.ends + 1 })
  dispatcher_end = record {
    cores = length-set m.cores _ _ ∙ dispatcher.cores;
    buckets = dispatcher.buckets;
    wide_owners = dispatcher.wide_owners;
    wide_starts = dispatcher.wide_starts;
    wide_counts = dispatcher.wide_counts;
    sent = dispatcher.sent;
    owners = dispatcher.owners;
    starts = dispatcher.starts;
    counts = dispatcher.counts;
    ends = λ c lt. let l : length (step m (SendEnd d.ends)).cores ≡ length m.cores = length-set m.cores _ _ in
        list_any-append (λ (p : Post). eqb p.core c && is_end p.item) m.dispatched (record { core = d.ends; item = End } ∷ [])
        ∙ (ap (λ t. t || ((eqb d.ends c && true) || false)) (dispatcher.ends c (omega arith)) ∙ one_more d.ends c);
    ending = list_any-append (λ (p : Post). is_end p.item) m.dispatched (record { core = d.ends; item = End } ∷ []) ∙ (or_true (list_any (λ (p : Post). is_end p.item) m.dispatched) ∙ sym (lt-ltb 0 (d.ends + 1) (omega arith)));
    spare = dispatcher.spare;
    moves = dispatcher.moves;
  } where
    or_true : (a : Bool) → (a || (true || false)) ≡ true
    or_true true = refl
    or_true false = refl

    one_more : (n c : ℕ) → (ltb c n || ((eqb n c && true) || false)) ≡ ltb c (n + 1)
    one_more n c = dite (ℕ_discrete c n)
        (λ e. ap (λ t. ltb c n || ((t && true) || false)) (eq-eqb n c (sym e)) ∙ (or_true (ltb c n) ∙ sym (lt-ltb c (n + 1) (omega arith))))
        (λ ne. ap (λ t. ltb c n || ((t && true) || false)) (ne_eqb n c (λ e. ne (sym e))) ∙ (or-false (ltb c n) ∙ ⊎_elim
        (λ (l : c < n). lt-ltb c n l ∙ sym (lt-ltb c (n + 1) (omega arith)))
        (λ (g : n ≤ c). le-ltb c n g ∙ sym (le-ltb c (n + 1) (let far = ne in omega arith))) (cases_lt c n)))

  -- a move is left for a bucket that may be moved
  pub move_left : (b : ℕ) → b < length m.buckets → slice_index d.starts b < slice_index d.counts b → 0 < m.moves
  move_left b near fresh = let e = dispatcher.moves in let ws = dispatcher.wide_starts in let wc = dispatcher.wide_counts in let n = fresh_moved d.starts d.counts b (omega arith) (omega arith) fresh in omega arith
