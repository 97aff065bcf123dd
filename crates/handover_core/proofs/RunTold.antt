-- What a run of the machine sent is what its steps send, and then Ends.
use Rattle.std.proofs.Common.{◌≡◌, ℕ, ◌+◌, ◌<◌, List, [], ◌∷◌, ◌++◌, append_assoc, length, get_or, set, true, false, refl, sym, ap, ◌∙◌, subst, ⊎_elim}
use Rattle.std.proofs.lemmas.List.{append-nil, get_or-set_same, get_or-set_other, length-set}
use Rattle.std.proofs.lemmas.Bool.{cases_eq}
use Rattle.std.specs.Prelude.{slice_index}
use Rattle.indirection.proofs.Each.{gather_from-push}
use Rattle.indirection.proofs.Steps.{tries_of-send, tries_of-append, parcels_of-try, parcels_of-append}
use Rattle.indirection.specs.declared.outcome.Outcome.{Outcome}
use Rattle.indirection.specs.declared.outcome.Outcome.TheVariants.{Moved, Placed}
use Rattle.indirection.specs.Tries.{Try, owner_by, owner_after, tail_by, tail_from}
use Rattle.indirection.specs.Story.{Parcel, Step, Tries, Sends, parcels_of, tries_of, count_in, try_of, owner_then, start_then, sent_then}
use Rattle.handover_core.specs.declared.item.Item.TheVariants.{Of, End}
use Rattle.handover_core.specs.declared.event.Event.{Event}
use Rattle.handover_core.specs.declared.event.Event.TheVariants.{Send, Look, Move, Place, SendEnd, Take, Claim, Release}
use Rattle.handover_core.specs.declared.bucket_state.BucketState.{BucketState}
use Rattle.handover_core.specs.declared.post.Post.{Post}
use Rattle.handover_core.specs.Dispatch.{kind_at, mark_posts, posts, dispatched}
use Rattle.handover_core.specs.State.{MachineView, first_state, bucket_at, blank_bucket, sent_of}
use Rattle.handover_core.specs.Machine.{step, end_sent, posts_by}
use Rattle.handover_core.specs.Runs.{Runs, IsMade}
use Rattle.handover_core.specs.Sound.{IsSound}
use Rattle.handover_core.specs.Told.{asked, steps_by, steps_in, end_by, ends_in}
use Rattle.handover_core.proofs.Cases.{by_take, by_claim, by_release}
use Rattle.handover_core.proofs.DispatcherSide.{count-here, count-other, owner-here, owner-other, tail-here, tail-other}
use Rattle.handover_core.proofs.Enabled.{IsEnabled, is_enabled}
use Rattle.handover_core.proofs.First.{owner-first, start-first, first-sound}
use Rattle.handover_core.proofs.Frames.{end_sent-end}
use Rattle.handover_core.proofs.MachineDispatchers.{sent-here, sent-other}
use Rattle.handover_core.proofs.Steps.{step-sound, no_end}

-- the state goes with the steps so far; Ends were sent behind them
record IsTelling (owners : List ℕ) (before : List Step) (es : List Post) (m : MachineView) : Type 0 where
  owner : (b : ℕ) → b < length m.buckets → (bucket_at m b).owner ≡ owner_then owners before b
  start : (b : ℕ) → b < length m.buckets → (bucket_at m b).start ≡ start_then before b
  sent : (b : ℕ) → sent_of m b ≡ sent_then before b
  all : m.dispatched ≡ dispatched owners before ++ es
  none : end_sent m ≡ false → es ≡ []

grow : (now ds es more ds' : List Post) → now ≡ ds ++ es → es ≡ [] → ds' ≡ ds ++ more → now ++ more ≡ ds' ++ es
grow now ds es more ds' a e0 d = ap (λ (z : List Post). z ++ more) (a ∙ (ap (λ (z : List Post). ds ++ z) e0 ∙ append-nil ds)) ∙ (sym d ∙ (sym (append-nil ds') ∙ ap (λ (z : List Post). ds' ++ z) (sym e0)))

-- another entry with the same owner and start
entry_same : (A : Type 0) (f : BucketState → A) (l : List BucketState) (b k : ℕ) (s : BucketState) → b < length l → f s ≡ f (get_or l b blank_bucket) → f (get_or (set l b s) k blank_bucket) ≡ f (get_or l k blank_bucket)
entry_same A f l b k s near e = ⊎_elim
    (λ (q : b ≡ k). subst (λ (k : ℕ). f (get_or (set l b s) k blank_bucket) ≡ f (get_or l k blank_bucket)) q (ap f (get_or-set_same l b s blank_bucket near) ∙ e))
    (λ (ne : b ≡ k → ⊥). ap f (get_or-set_other l b k s blank_bucket (λ q. ne (sym q)))) (cases_eq b k)

module _ (owners : List ℕ) (before : List Step) (es : List Post) where
  -- an event that sends nothing and is no step
  quiet : (m w : MachineView) (b : ℕ) (s : BucketState) → b < length m.buckets → w.buckets ≡ set m.buckets b s → s.owner ≡ (bucket_at m b).owner → s.start ≡ (bucket_at m b).start → ((k : ℕ) → sent_of w k ≡ sent_of m k) → w.dispatched ≡ m.dispatched → IsTelling owners before es m → IsTelling owners before es w
  quiet m w b s near is o t sent ds h = record {
    owner = λ k l. ap (λ (z : List BucketState). (get_or z k blank_bucket).owner) is ∙ (entry_same ℕ (λ (s : BucketState). s.owner) m.buckets b k s near o ∙ h.owner k (wide k l));
    start = λ k l. ap (λ (z : List BucketState). (get_or z k blank_bucket).start) is ∙ (entry_same ℕ (λ (s : BucketState). s.start) m.buckets b k s near t ∙ h.start k (wide k l));
    sent = λ k. sent k ∙ h.sent k;
    all = ds ∙ h.all;
    none = λ e. h.none (subst (λ (z : List Post). end_sent (record m { dispatched = z }) ≡ false) ds e);
  } where
    wide : (k : ℕ) → k < length w.buckets → k < length m.buckets
    wide k l = subst (λ (n : ℕ). k < n) (ap (λ (z : List BucketState). length z) is ∙ length-set m.buckets b s) l

  -- a bucket is moved or placed
  tried : (m w : MachineView) (b to : ℕ) (o : Outcome) (s : BucketState) → b < length m.buckets → w.buckets ≡ set m.buckets b s → s.owner ≡ owner_by (bucket_at m b).owner to o → s.start ≡ tail_by (bucket_at m b).start o
      → ((k : ℕ) → sent_of w k ≡ sent_of m k) → w.dispatched ≡ m.dispatched ++ mark_posts (bucket_at m b).owner b o → end_sent m ≡ false → IsTelling owners before es m → IsTelling owners (before ++ Tries (asked m b to) o ∷ []) es w
  tried m w b to o s near is own at sent ds fine h =
      let a = asked m b to in let ts = tries_of before in
      let told : tries_of (before ++ Tries a o ∷ []) ≡ ts ++ try_of a o ∷ [] = tries_of-append before (Tries a o ∷ []) in
      record {
        owner = λ k l. ap (λ (z : List BucketState). (get_or z k blank_bucket).owner) is ∙ (⊎_elim
            (λ (q : b ≡ k). subst (λ (k : ℕ). (get_or (set m.buckets b s) k blank_bucket).owner ≡ owner_after owners (ts ++ try_of a o ∷ []) k) q
            (ap (λ (z : BucketState). z.owner) (get_or-set_same m.buckets b s blank_bucket near) ∙ (own ∙ (ap (λ (x : ℕ). owner_by x to o) (h.owner b near) ∙ sym (owner-here owners ts a o b refl)))))
            (λ (ne : b ≡ k → ⊥). ap (λ (z : BucketState). z.owner) (get_or-set_other m.buckets b k s blank_bucket (λ q. ne (sym q))) ∙ (h.owner k (wide k l) ∙ sym (owner-other owners ts a o k ne))) (cases_eq b k)
            ∙ ap (λ (z : List Try). owner_after owners z k) (sym told));
        start = λ k l. ap (λ (z : List BucketState). (get_or z k blank_bucket).start) is ∙ (⊎_elim
            (λ (q : b ≡ k). subst (λ (k : ℕ). (get_or (set m.buckets b s) k blank_bucket).start ≡ tail_from k 0 (ts ++ try_of a o ∷ [])) q
            (ap (λ (z : BucketState). z.start) (get_or-set_same m.buckets b s blank_bucket near) ∙ (at ∙ (ap (λ (x : ℕ). tail_by x o) (h.start b near) ∙ sym (tail-here ts a o b refl)))))
            (λ (ne : b ≡ k → ⊥). ap (λ (z : BucketState). z.start) (get_or-set_other m.buckets b k s blank_bucket (λ q. ne (sym q))) ∙ (h.start k (wide k l) ∙ sym (tail-other ts a o k ne))) (cases_eq b k)
            ∙ ap (λ (z : List Try). tail_from k 0 z) (sym told));
        sent = λ k. sent k ∙ (h.sent k ∙ ap (count_in k) (sym (parcels_of-try before a o)));
        all = ds ∙ grow m.dispatched (dispatched owners before) es (mark_posts (bucket_at m b).owner b o) (dispatched owners (before ++ Tries a o ∷ [])) h.all (h.none fine)
            (gather_from-push (posts owners) [] before (Tries a o) ∙ ap (λ (c : ℕ). dispatched owners before ++ mark_posts c b o) (sym (h.owner b near)));
        none = λ _. h.none fine;
      } where
        wide : (k : ℕ) → k < length w.buckets → k < length m.buckets
        wide k l = subst (λ (n : ℕ). k < n) (ap (λ (z : List BucketState). length z) is ∙ length-set m.buckets b s) l

  told_send : (m : MachineView) → IsSound m → IsEnabled m Send → IsTelling owners before es m → IsTelling owners (before ++ steps_by m Send) es (step m Send)
  told_send m s i h =
      let q = slice_index m.packets m.sent in let p : Parcel = record { bucket = q; cost = 1 } in
      let lq : q < length m.buckets = s.shaped.packets m.sent i.0 in
      let fine = no_end m s i in
      let count : (b : ℕ) → count_in b (parcels_of (before ++ Sends p ∷ [])) ≡ count_in b (parcels_of before ++ p ∷ []) = λ b. ap (count_in b) (parcels_of-append before (Sends p ∷ [])) in
      record {
        owner = λ b l. h.owner b l ∙ ap (λ (ts : List Try). owner_after owners ts b) (sym (tries_of-send before p));
        start = λ b l. h.start b l ∙ ap (λ (ts : List Try). tail_from b 0 ts) (sym (tries_of-send before p));
        sent = λ b. ⊎_elim
            (λ (e : q ≡ b). subst (λ (b : ℕ). sent_of (step m Send) b ≡ count_in b (parcels_of (before ++ Sends p ∷ []))) e (sent-here m i.0 ∙ (ap (λ (n : ℕ). n + 1) (h.sent q) ∙ sym (count q ∙ count-here q (parcels_of before) p refl))))
            (λ (ne : q ≡ b → ⊥). sent-other m b i.0 ne ∙ (h.sent b ∙ sym (count b ∙ count-other b (parcels_of before) p ne))) (cases_eq q b);
        all = grow m.dispatched (dispatched owners before) es (posts_by m Send) (dispatched owners (before ++ Sends p ∷ [])) h.all (h.none fine)
            (gather_from-push (posts owners) [] before (Sends p) ∙ (λ j. dispatched owners before ++ record { core = sym (h.owner q lq) j; item = Of (kind_at (sym (h.start q lq) j) (sym (h.sent q) j)) q (sym (h.sent q) j) } ∷ []));
        none = λ _. h.none fine;
      }

  told_end : (m : MachineView) (c : ℕ) → IsTelling owners before es m → IsTelling owners before (es ++ record { core = c; item = End } ∷ []) (step m (SendEnd c))
  told_end m c h = record {
    owner = h.owner;
    start = h.start;
    sent = h.sent;
    all = ap (λ (z : List Post). z ++ record { core = c; item = End } ∷ []) h.all ∙ append_assoc (dispatched owners before) es (record { core = c; item = End } ∷ []);
    none = λ e. absurd (let f : true ≡ false = sym (end_sent-end m.dispatched c) ∙ e in cc);
  }

  told_core : (m w : MachineView) → w.buckets ≡ m.buckets → ((k : ℕ) → sent_of w k ≡ sent_of m k) → w.dispatched ≡ m.dispatched → IsTelling owners before es m → IsTelling owners before es w
  told_core m w is sent ds h = record {
    owner = λ k l. ap (λ (z : List BucketState). (get_or z k blank_bucket).owner) is ∙ h.owner k (subst (λ (z : List BucketState). k < length z) is l);
    start = λ k l. ap (λ (z : List BucketState). (get_or z k blank_bucket).start) is ∙ h.start k (subst (λ (z : List BucketState). k < length z) is l);
    sent = λ k. sent k ∙ h.sent k;
    all = ds ∙ h.all;
    none = λ e. h.none (subst (λ (z : List Post). end_sent (record m { dispatched = z }) ≡ false) ds e);
  }

  told_worker : (m : MachineView) (e : Event) → IsSound m → IsEnabled m e → IsTelling owners before es m → IsTelling owners (before ++ steps_by m e) (es ++ end_by e) (step m e)
  told_worker m Send s i h = subst (λ (z : List Post). IsTelling owners (before ++ steps_by m Send) z (step m Send)) (sym (append-nil es)) (told_send m s i h)
  told_worker m (Look b) s i h = rw (append-nil before, append-nil es) (quiet m (step m (Look b)) b (record (bucket_at m b) { seen = (bucket_at m b).word }) i refl refl refl (λ k. refl) refl h)
  told_worker m (Move b to) s i h = subst (λ (z : List Post). IsTelling owners (before ++ steps_by m (Move b to)) z (step m (Move b to))) (sym (append-nil es))
      (tried m (step m (Move b to)) b to (Moved (sent_of m b)) (record (bucket_at m b) { owner = to; start = sent_of m b }) i.0 refl refl refl (λ k. refl) refl i.7 h)
  told_worker m (Place b to) s i h = subst (λ (z : List Post). IsTelling owners (before ++ steps_by m (Place b to)) z (step m (Place b to))) (sym (append-nil es))
      (tried m (step m (Place b to)) b to Placed (record (bucket_at m b) { owner = to }) i.0 refl refl refl (λ k. refl) (sym (append-nil m.dispatched)) i.4 h)
  told_worker m (SendEnd c) s i h = rw (append-nil before) (told_end m c h)
  told_worker m (Take c) s i h = rw (append-nil before, append-nil es) (by_take (IsTelling owners before es) m c i.1 (λ kind q place xs e. told_core m _ refl (λ k. refl) refl h) (λ xs e. told_core m _ refl (λ k. refl) refl h))
  told_worker m (Claim c b) s i h = rw (append-nil before, append-nil es) (by_claim (IsTelling owners before es) m c b i.2 (λ first rest e w. quiet m _ b _ i.1 refl refl refl (λ k. refl) refl h))
  told_worker m (Release c b) s i h = rw (append-nil before, append-nil es) (by_release (IsTelling owners before es) m c b i.2 (λ from done e. quiet m _ b _ i.1 refl refl refl (λ k. refl) refl h))

runs_told : (owners : List ℕ) (before : List Step) (es : List Post) (m : MachineView) (events : List Event) (last : MachineView) → IsSound m → IsTelling owners before es m → Runs m events last → last.dispatched ≡ dispatched owners (before ++ steps_in m events) ++ (es ++ ends_in events)
runs_told owners before es m [] last s h r = ap (λ (z : MachineView). z.dispatched) r ∙ (h.all ∙ (λ i. dispatched owners (sym (append-nil before) i) ++ sym (append-nil es) i))
runs_told owners before es m (e ∷ events) last s h r =
    let i = is_enabled m e r.0 in
    runs_told owners (before ++ steps_by m e) (es ++ end_by e) (step m e) events last (step-sound m e i s) (told_worker owners before es m e s i h) r.1
    ∙ (λ k. dispatched owners (append_assoc before (steps_by m e) (steps_in (step m e) events) k) ++ append_assoc es (end_by e) (ends_in events) k)

pub run_told : (owners : List ℕ) (cores : ℕ) (packets : List ℕ) (pool moves : ℕ) (events : List Event) (last : MachineView) → IsMade owners cores packets pool → Runs (first_state owners cores packets pool moves) events last
    → last.dispatched ≡ dispatched owners (steps_in (first_state owners cores packets pool moves) events) ++ ends_in events
run_told owners cores packets pool moves events last made r =
    let m = first_state owners cores packets pool moves in
    runs_told owners [] [] m events last (first-sound owners cores packets pool moves made) (record {
      owner = λ b l. owner-first owners cores packets pool moves b l;
      start = λ b l. start-first owners cores packets pool moves b;
      sent = λ b. refl;
      all = refl;
      none = λ _. refl;
    }) r
