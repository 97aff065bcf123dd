-- A finished machine has worked all packets.
use Rattle.std.proofs.Common.{◌≡◌, ℕ, zero, suc, ◌+◌, ◌*◌, ◌<◌, ◌≤◌, List, [], ◌++◌, length, sym, ap, ◌∙◌, subst, ⊎_elim, Some, arith}
use Rattle.std.proofs.lemmas.Bool.{cases_lt}
use Rattle.std.proofs.lemmas.List.{append-nil, take_all, get_or_past}
use Rattle.std.specs.Prelude.{count_by, ◌==◌}
use Rattle.handover_core.specs.declared.item.Item.{Item}
use Rattle.handover_core.specs.State.{Hand, Away, CoreState, MachineView, blank_core, bucket_at, core_at, hand_at, hand_in, sent_of}
use Rattle.handover_core.specs.Bucket.{Piece, opening, BucketSnapshot, Idle, Awaits, Works, Finishes, Fits, Stage, home, working, passing, over, IsIn}
use Rattle.handover_core.specs.Sound.{pieces, bucket_snapshot, IsSound}
use Rattle.handover_core.specs.Promises.{IsFinished, total, IsDone}
use Rattle.handover_core.proofs.Stages.{at_owner}
use Rattle.handover_core.proofs.OneHand.{at_finisher}
use Rattle.handover_core.proofs.Worked.{worked-shelf}
use Rattle.handover_core.proofs.Finished.{free-finished}

all-sent : (m : MachineView) (b : ℕ) → IsFinished m → sent_of m b ≡ total m b
all-sent m b f = ap (λ (z : List ℕ). count_by (λ x. x == b) z) (take_all m.sent m.packets (let e = f.sent in omega arith))

opening-empty : (s k n : ℕ) → s + n ≡ k → [] ≡ opening s n → k ≡ s
opening-empty s k zero a e = omega arith
opening-empty s k (suc n) a e = absurd (cc)

empty-queue : (m : MachineView) (c : ℕ) → IsFinished m → (core_at m c).queue ≡ []
empty-queue m c f = ⊎_elim (λ (l : c < length m.cores). f.queues c l) (λ (l : length m.cores ≤ c). ap (λ (s : CoreState). s.queue) (get_or_past m.cores c blank_core l)) (cases_lt c (length m.cores))

no-hand : (m : MachineView) (c b : ℕ) → IsFinished m → b < length m.buckets → hand_at m c b ≡ Away
no-hand m c b f lb = ⊎_elim (λ (l : c < length m.cores). f.hands c b l lb) (λ (l : length m.cores ≤ c). ap (λ (s : CoreState). hand_in s b) (get_or_past m.cores c blank_core l)) (cases_lt c (length m.cores))

-- the word and the shelf of a bucket of which nothing is anywhere else
at-end : (m : MachineView) (b : ℕ) → IsFinished m → b < length m.buckets → (g : Stage) → IsIn g (bucket_snapshot m b) → ((bucket_at m b).word ≡ 2 * sent_of m b + 1) × ((bucket_at m b).shelf ≡ Some (sent_of m b))
at-end m b f l home i = (i.word ∙ ap (λ (x : ℕ). 2 * x + 1) (sym e), i.shelf ∙ ap Some (sym e)) where
  v : BucketSnapshot
  v = bucket_snapshot m b

  w : Fits (Awaits v.start v.sent) (v.ended v.owner) Away []
  w = subst (λ (q : List Piece). Fits (Awaits v.start v.sent) (v.ended v.owner) Away q) (ap (pieces b) (empty-queue m v.owner f))
      (subst (λ (h : Hand). Fits (Awaits v.start v.sent) (v.ended v.owner) h (v.queue v.owner)) (no-hand m v.owner b f l) (at_owner v (Awaits v.start v.sent) (λ x. Idle) i.fits))

  e : v.sent ≡ v.start
  e = opening-empty v.start v.sent w.0 w.1 w.2
at-end m b f l working i = absurd (subst (λ (h : Hand). Fits (Works (bucket_snapshot m b).start (bucket_snapshot m b).sent) ((bucket_snapshot m b).ended (bucket_snapshot m b).owner) h ((bucket_snapshot m b).queue (bucket_snapshot m b).owner)) (no-hand m (bucket_snapshot m b).owner b f l)
    (at_owner (bucket_snapshot m b) (Works (bucket_snapshot m b).start (bucket_snapshot m b).sent) (λ x. Idle) i.fits))
at-end m b f l (passing p r) i = absurd (subst (λ (h : Hand). Fits (Finishes r (bucket_snapshot m b).start) ((bucket_snapshot m b).ended p) h ((bucket_snapshot m b).queue p)) (no-hand m p b f l) (at_finisher (bucket_snapshot m b) p r i))
at-end m b f l over i = (i.word, i.shelf)

pub finished-done : (m : MachineView) → IsSound m → IsFinished m → IsDone m
finished-done m s f = record {
  worked = λ b l. worked-shelf m b (sent_of m b) (at-end m b f l (s.buckets.buckets b l).stage (s.buckets.buckets b l).is_in).1 ∙ all-sent m b f;
  words = λ b l. (at-end m b f l (s.buckets.buckets b l).stage (s.buckets.buckets b l).is_in).0 ∙ ap (λ (x : ℕ). 2 * x + 1) (all-sent m b f);
  free = free-finished m s f;
  taken = λ c. sym (append-nil (core_at m c).taken) ∙ (ap (λ (z : List Item). (core_at m c).taken ++ z) (sym (empty-queue m c f)) ∙ s.streamed.streams c);
}
