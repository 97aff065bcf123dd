-- The dispatcher's events keep the dispatcher's side of the machine.
use Rattle.std.proofs.Common.{◌≡◌, ◌≢◌, ℕ, ◌+◌, ◌-◌, ◌^◌, ◌<◌, [], ◌∷◌, take, length, get_or, set, Bool, if◌then◌else◌, ◌==◌, refl, sym, ap, ◌∙◌, subst, eq-eqb, ne_eqb, ⊎_elim, arith}
use Rattle.std.proofs.lemmas.Bool.{cases_eq}
use Rattle.std.specs.Prelude.{slice_index, count_by, None}
use Rattle.std.proofs.lemmas.List.{take_more, get_or-set_same, get_or-set_other}
use Rattle.std.proofs.lemmas.List.Sums.{sum_by-append}
use Rattle.handover_core.specs.declared.event.Event.TheVariants.{Send, Move, Place}
use Rattle.handover_core.specs.State.{MachineView, bucket_at, sent_of}
use Rattle.handover_core.specs.declared.bucket_state.BucketState.{BucketState}
use Rattle.handover_core.specs.Machine.{step}
use Rattle.handover_core.specs.MachineDispatcher.{IsMachineDispatcher}
use Rattle.handover_core.proofs.DispatcherSide.{IsDispatcherSide-send, IsDispatcherSide-mark, IsDispatcherSide-place, IsDispatcherSide-same}

abbrev blank : BucketState
blank = record { owner = 0; start = 0; seen = 0; word = 1; shelf = None }

sent-more : (m : MachineView) (b : ℕ) → m.sent < length m.packets → count_by (λ x. x == b) (take (m.sent + 1) m.packets) ≡ sent_of m b + (0 + (if slice_index m.packets m.sent == b then 1 else 0))
sent-more m b h = ap (count_by (λ x. x == b)) (take_more m.packets m.sent 0 h) ∙ sum_by-append (λ x. if x == b then 1 else 0) (take m.sent m.packets) (get_or m.packets m.sent 0 ∷ [])

pub sent-here : (m : MachineView) → m.sent < length m.packets → sent_of (step m Send) (slice_index m.packets m.sent) ≡ sent_of m (slice_index m.packets m.sent) + 1
sent-here m h = let q = slice_index m.packets m.sent in sent-more m q h ∙ ap (λ (t : Bool). sent_of m q + (0 + (if t then 1 else 0))) (eq-eqb q q refl)

pub sent-other : (m : MachineView) (b : ℕ) → m.sent < length m.packets → slice_index m.packets m.sent ≢ b → sent_of (step m Send) b ≡ sent_of m b
sent-other m b h ne = let q = slice_index m.packets m.sent in let e = sent-more m b h ∙ ap (λ (t : Bool). sent_of m b + (0 + (if t then 1 else 0))) (ne_eqb q b ne) in e ∙ omega arith

pub send_keeps : (m : MachineView) → IsMachineDispatcher m → m.sent < length m.packets → sent_of m (slice_index m.packets m.sent) < 2 ^ 32 - 1 → IsMachineDispatcher (step m Send)
send_keeps m d h few = IsDispatcherSide-send (λ b. (bucket_at m b).owner) (sent_of m) (λ b. (bucket_at m b).start) (sent_of (step m Send)) m.dispatched q d few
    (sent-here m h) (λ b ne. sent-other m b h ne) where
      q : ℕ
      q = slice_index m.packets m.sent

pub move_keeps : (m : MachineView) (b to : ℕ) → IsMachineDispatcher m → b < length m.buckets → (bucket_at m b).start < sent_of m b → (bucket_at m b).owner ≢ to → IsMachineDispatcher (step m (Move b to))
move_keeps m b to d h more ne = IsDispatcherSide-mark (λ k. (bucket_at m k).owner) (sent_of m) (λ k. (bucket_at m k).start) (λ k. (bucket_at (step m (Move b to)) k).owner) (λ k. (bucket_at (step m (Move b to)) k).start) m.dispatched b to d more ne
    (ap (λ (s : BucketState). s.owner) (get_or-set_same m.buckets b after blank h)) (ap (λ (s : BucketState). s.start) (get_or-set_same m.buckets b after blank h))
    (λ k nk. ap (λ (s : BucketState). s.owner) (get_or-set_other m.buckets b k after blank (λ e. nk (sym e)))) (λ k nk. ap (λ (s : BucketState). s.start) (get_or-set_other m.buckets b k after blank (λ e. nk (sym e)))) where
      after : BucketState
      after = record (bucket_at m b) { owner = to; start = sent_of m b }

pub place_keeps : (m : MachineView) (b to : ℕ) → IsMachineDispatcher m → b < length m.buckets → sent_of m b ≡ 0 → (bucket_at m b).owner ≢ to → IsMachineDispatcher (step m (Place b to))
place_keeps m b to d h none ne = IsDispatcherSide-same owner' (sent_of m) (λ k. (bucket_at m k).start) owner' (sent_of m) (λ k. (bucket_at (step m (Place b to)) k).start) m.dispatched
    (IsDispatcherSide-place (λ k. (bucket_at m k).owner) (sent_of m) (λ k. (bucket_at m k).start) owner' m.dispatched b to d none ne
    (ap (λ (s : BucketState). s.owner) (get_or-set_same m.buckets b after blank h)) (λ k nk. ap (λ (s : BucketState). s.owner) (get_or-set_other m.buckets b k after blank (λ e. nk (sym e)))))
    (λ k. refl) (λ k. refl)
    (λ k. ⊎_elim (λ (e : b ≡ k). subst (λ (x : ℕ). (get_or (set m.buckets b after) x blank).start ≡ (get_or m.buckets x blank).start) e (ap (λ (s : BucketState). s.start) (get_or-set_same m.buckets b after blank h)))
    (λ (nk : b ≡ k → ⊥). ap (λ (s : BucketState). s.start) (get_or-set_other m.buckets b k after blank (λ e. nk (sym e)))) (cases_eq b k)) where
      after : BucketState
      after = record (bucket_at m b) { owner = to }

      owner' : ℕ → ℕ
      owner' k = (bucket_at (step m (Place b to)) k).owner
