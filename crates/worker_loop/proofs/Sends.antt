-- What the dispatcher sends leaves a worker shown, over its lane as it is then.
use Rattle.std.proofs.Common.{zero, suc, eqb, ◌≡◌, ℕ, ◌<◌, if◌then◌else◌, List, [], ◌∷◌, ◌++◌, map, length, get_or, set, Option, Some, refl, sym, ap, ◌∙◌, arith, subst, length-set, get_or-set_same, get_or-set_other}
use Rattle.std.proofs.lemmas.List.{append-nil, map-append}
use Rattle.indirection.proofs.Tests.{by_test}
use Rattle.bucket_table.specs.Table.{TableOf}
use Rattle.handover_core.specs.declared.item.Item.{Item}
use Rattle.handover_core.specs.declared.event.Event.{Event}
use Rattle.handover_core.specs.declared.event.Event.TheVariants.{Send, Look, Move, Place, SendEnd, Take, Claim, Release}
use Rattle.handover_core.specs.declared.bucket_state.BucketState.{BucketState}
use Rattle.handover_core.specs.State.{CoreState, MachineView, blank_bucket, blank_core, bucket_at, core_at, hand_in}
use Rattle.handover_core.specs.Machine.{post, step}
use Rattle.handover_core.specs.Dispatch.{stream}
use Rattle.handover_core.specs.Promises.{IsOfWorker}
use Rattle.core_queue.specs.declared.history.LaneHistory.{LaneHistory}
use Rattle.core_queue.specs.declared.item.Seen.{Seen}
use Rattle.core_queue.specs.Cells.{plain}
use Rattle.core_queue.specs.LaneHistory.{lane}
use Rattle.worker_loop.specs.WorkerSnapshot.{WorkerSnapshot}
use Rattle.handover_core.specs.Machine.{posts_by}
use Rattle.worker_loop.specs.Shows.{Shows}

-- core d was sent these items, and words and tables stay
record IsSentTo (m n : MachineView) (d : ℕ) (xs : List Item) : Type 0 where
  cores : length n.cores ≡ length m.cores
  buckets : length n.buckets ≡ length m.buckets
  core : core_at n d ≡ record (core_at m d) { queue = (core_at m d).queue ++ xs }
  word : (b : ℕ) → (bucket_at n b).word ≡ (bucket_at m b).word
  shelf : (b : ℕ) → (bucket_at n b).shelf ≡ (bucket_at m b).shelf

module _ {S : Type 0} where
  shown_sent : (m n : MachineView) (d : ℕ) (u : WorkerSnapshot (TableOf S)) (h : Shows m d u) (xs : List Item) (ys : List Seen) (l : LaneHistory) → IsSentTo m n d xs → map plain ys ≡ xs → l.taken ≡ u.lane.taken
      → Shows n d (record u { lane = l; lane_now = Some (lane (h.lane.items ++ ys) h.lane.room) })
  shown_sent m n d u h xs ys l s e taken =
      let near = h.core in let more = s.cores in let size = s.buckets in
      record {
        is_core = h.is_core;
        core = omega arith;
        lane = lane (h.lane.items ++ ys) h.lane.room;
        lane_is = refl;
        stock = h.stock;
        stock_is = h.stock_is;
        buckets = s.buckets ∙ h.buckets;
        wide = (h.wide.0 ∙ sym s.buckets, h.wide.1 ∙ sym s.buckets, ap (λ (k : CoreState). length k.hands) s.core ∙ (h.wide.2 ∙ sym s.buckets));
        queue = ap (λ (k : CoreState). k.queue) s.core ∙ ((λ i. h.queue i ++ sym e i) ∙ sym (map-append plain h.lane.items ys));
        taken = ap (λ (k : CoreState). k.taken) s.core ∙ (h.taken ∙ sym (ap (map plain) taken));
        words = λ b lt. s.word b ∙ h.words b (omega arith);
        shelf = λ b lt. s.shelf b ∙ h.shelf b (omega arith);
        hands = λ b lt. ap (λ (k : CoreState). hand_in k b) s.core ∙ h.hands b (omega arith);
        packets = h.packets;
        alone = h.alone;
      }

-- an item goes to a core's queue
posted_core : (m : MachineView) (c d : ℕ) (x : Item) → d < length m.cores → core_at (post m c x) d ≡ record (core_at m d) { queue = (core_at m d).queue ++ (if eqb c d then x ∷ [] else []) }
posted_core m c d x near = by_test c d (λ t. core_at (post m c x) d ≡ record (core_at m d) { queue = (core_at m d).queue ++ (if t then x ∷ [] else []) })
    (λ e. let at : c < length m.cores = omega arith in
    subst (λ k. core_at (post m c x) k ≡ record (core_at m k) { queue = (core_at m k).queue ++ x ∷ [] }) e (get_or-set_same m.cores c (record (core_at m c) { queue = (core_at m c).queue ++ x ∷ [] }) blank_core at))
    (λ ne. get_or-set_other m.cores c d (record (core_at m c) { queue = (core_at m c).queue ++ x ∷ [] }) blank_core (λ e. ne (sym e)) ∙ (λ i. record (core_at m d) { queue = sym (append-nil (core_at m d).queue) i }))

-- one thing of a bucket, where another bucket is set or that thing stays
same_at : {A : Type 0} (g : BucketState → A) (bs : List BucketState) (b k : ℕ) (x : BucketState) → g x ≡ g (get_or bs b blank_bucket) → g (get_or (set bs b x) k blank_bucket) ≡ g (get_or bs k blank_bucket)
same_at g [] b k x e = refl
same_at g (y ∷ bs) zero zero x e = e
same_at g (y ∷ bs) zero (suc k) x e = refl
same_at g (y ∷ bs) (suc b) zero x e = refl
same_at g (y ∷ bs) (suc b) (suc k) x e = same_at g bs b k x e

abbrev word_of : BucketState → ℕ
word_of x = x.word

abbrev shelf_of : BucketState → Option ℕ
shelf_of x = x.shelf

module _ (m : MachineView) (d : ℕ) (near : d < length m.cores) where
  -- nothing is sent
  kept_core : core_at m d ≡ record (core_at m d) { queue = (core_at m d).queue ++ [] }
  kept_core = λ i. record (core_at m d) { queue = sym (append-nil (core_at m d).queue) i }

  sent_core : (c : ℕ) (x : Item) → core_at (post m c x) d ≡ record (core_at m d) { queue = (core_at m d).queue ++ ((if eqb c d then x ∷ [] else []) ++ []) }
  sent_core c x = posted_core m c d x near ∙ (λ i. record (core_at m d) { queue = (core_at m d).queue ++ sym (append-nil (if eqb c d then x ∷ [] else [])) i })

  sends : (e : Event) → ¬ (IsOfWorker e) → IsSentTo m (step m e) d (stream d (posts_by m e))
  sends Send own = record { cores = length-set m.cores _ _; buckets = refl; core = sent_core _ _; word = λ b. refl; shelf = λ b. refl }
  sends (Look b) own = record { cores = refl; buckets = length-set m.buckets b _; core = kept_core; word = λ k. same_at word_of m.buckets b k _ refl; shelf = λ k. same_at shelf_of m.buckets b k _ refl }
  sends (Move b to) own = record { cores = length-set m.cores _ _; buckets = length-set m.buckets b _; core = sent_core _ _; word = λ k. same_at word_of m.buckets b k _ refl; shelf = λ k. same_at shelf_of m.buckets b k _ refl }
  sends (Place b to) own = record { cores = refl; buckets = length-set m.buckets b _; core = kept_core; word = λ k. same_at word_of m.buckets b k _ refl; shelf = λ k. same_at shelf_of m.buckets b k _ refl }
  sends (SendEnd c) own = record { cores = length-set m.cores _ _; buckets = refl; core = sent_core _ _; word = λ b. refl; shelf = λ b. refl }
  sends (Take c) own = absurd (own tt)
  sends (Claim c b) own = absurd (own tt)
  sends (Release c b) own = absurd (own tt)

-- a worker stays shown, over its lane with what the event sends it
pub sent_shown : {S : Type 0} (m : MachineView) (d : ℕ) (u : WorkerSnapshot (TableOf S)) (l : LaneHistory) (ys : List Seen) (e : Event) (h : Shows m d u) → ¬ (IsOfWorker e) → map plain ys ≡ stream d (posts_by m e) → l.taken ≡ u.lane.taken
    → Shows (step m e) d (record u { lane = l; lane_now = Some (lane (h.lane.items ++ ys) h.lane.room) })
sent_shown m d u l ys e h own is taken = shown_sent m (step m e) d u h (stream d (posts_by m e)) ys l (sends m d h.core e own) is taken
