-- Two neighbouring stints of a bucket.
use Rattle.std.proofs.Common.{◌≡◌, ◌⊎◌, inl, inr, ℕ, ◌+◌, ◌*◌, List, [], ◌∷◌, ◌++◌, append_assoc, Bool, false, if◌then◌else◌, ◌==◌, sym, ap, ◌∙◌, subst, eq-eqb}
use Rattle.indirection.specs.Stints.{Stint}
use Rattle.indirection.proofs.Tests.{by_test}
use Rattle.handover_core.specs.declared.item.Kind.TheVariants.{First, Next, Mark}
use Rattle.handover_core.specs.declared.item.Item.{Item}
use Rattle.handover_core.specs.declared.item.Item.TheVariants.{Of, End}
use Rattle.handover_core.specs.declared.post.Post.{Post}
use Rattle.handover_core.specs.declared.event.Event.{Event}
use Rattle.handover_core.specs.Dispatch.{stream}
use Rattle.handover_core.specs.State.{Hand, MachineView, first_state, bucket_at, core_at}
use Rattle.handover_core.specs.Machine.{has_end, step}
use Rattle.handover_core.specs.Bucket.{Stage, home, working, passing, over, stint_of, IsIn}
use Rattle.handover_core.specs.Runs.{Runs, IsStart}
use Rattle.handover_core.specs.Sound.{ended_by, begun_by, ended_stints, bucket_snapshot, IsSound}
use Rattle.handover_core.specs.Neighbours.{IsPassing, FitsTaken, AreTaken, AreNeighbours}
use Rattle.handover_core.specs.Legal.{new, stand_from}
use Rattle.handover_core.proofs.Enabled.{is_enabled}
use Rattle.handover_core.proofs.OneHand.{at_finisher, finishes-holds}
use Rattle.handover_core.proofs.First.{hand-first, taken-first}
use Rattle.handover_core.proofs.Steps.{step-sound}
use Rattle.handover_core.proofs.Starts.{start-sound, run-sound}
use Rattle.handover_core.proofs.Taken.{step-taken}

-- a mark stands in a list
Found : ℕ → ℕ → List Item → Type 0
Found b s xs = (before : List Item) × (behind : List Item) × (xs ≡ before ++ Of Mark b s ∷ behind)

found-more : (b s : ℕ) (front xs : List Item) → Found b s xs → Found b s (front ++ xs)
unfolding Found
found-more b s front xs f = (front ++ f.0, f.1, ap (λ (z : List Item). front ++ z) f.2 ∙ sym (append_assoc front f.0 (Of Mark b s ∷ f.1)))

found-mark : (b q from core r s pc place : ℕ) (rest front : List Stint) (tail : List Item) → q ≡ b → ((front : List Stint) → rest ≡ front ++ stint_of core r s ∷ [] → Found b s tail)
    → stint_of pc from place ∷ rest ≡ front ++ stint_of core r s ∷ [] → Found b s ((if pc == core then Of Mark q place ∷ [] else []) ++ tail)
unfolding Found
found-mark b q from core r s pc place rest [] tail i more e =
    let k : stint_of pc from place ≡ stint_of core r s = cc in
    let c : pc ≡ core = ap (λ (x : Stint). x.core) k in
    let p : place ≡ s = ap (λ (x : Stint). x.to) k in
    ([], tail, ap (λ (t : Bool). (if t then Of Mark q place ∷ [] else []) ++ tail) (eq-eqb pc core c) ∙ (ap (λ (x : ℕ). Of Mark x place ∷ tail) i ∙ ap (λ (x : ℕ). Of Mark b x ∷ tail) p))
found-mark b q from core r s pc place rest (y ∷ front) tail i more e = found-more b s (if pc == core then Of Mark q place ∷ [] else []) tail (more front cc)

found-item : (b from core r s pc : ℕ) (x : Item) (rest : ℕ → List Stint) (front : List Stint) (tail : List Item) → ((f : ℕ) (front : List Stint) → rest f ≡ front ++ stint_of core r s ∷ [] → Found b s tail)
    → ended_by b from pc x ++ rest (begun_by b from x) ≡ front ++ stint_of core r s ∷ [] → Found b s ((if pc == core then x ∷ [] else []) ++ tail)
found-item b from core r s pc (Of First q place) rest front tail more e = found-more b s (if pc == core then Of First q place ∷ [] else []) tail (more from front e)
found-item b from core r s pc (Of Next q place) rest front tail more e = found-more b s (if pc == core then Of Next q place ∷ [] else []) tail (more from front e)
found-item b from core r s pc End rest front tail more e = found-more b s (if pc == core then End ∷ [] else []) tail (more from front e)
found-item b from core r s pc (Of Mark q place) rest front tail more e =
    by_test q b (λ t. (if t then stint_of pc from place ∷ [] else []) ++ rest (if t then place else from) ≡ front ++ stint_of core r s ∷ [] → Found b s ((if pc == core then Of Mark q place ∷ [] else []) ++ tail))
    (λ i f. found-mark b q from core r s pc place (rest place) front tail i (λ front g. more place front g) f)
    (λ _ f. found-more b s (if pc == core then Of Mark q place ∷ [] else []) tail (more from front f)) e

-- an ended stint's mark was sent to its core
mark-sent : (b from core r s : ℕ) (ds : List Post) (front : List Stint) → ended_stints b from ds ≡ front ++ stint_of core r s ∷ [] → Found b s (stream core ds)
mark-sent b from core r s [] [] e = absurd (cc)
mark-sent b from core r s [] (y ∷ front) e = absurd (cc)
mark-sent b from core r s (p ∷ ds) front e = found-item b from core r s p.core p.item (λ f. ended_stints b f ds) front (stream core ds) (λ f front g. mark-sent b f core r s ds front g) e

words-in : (m : MachineView) (b : ℕ) → IsSound m → has_end (core_at m (bucket_at m b).owner).taken ≡ false → (g : Stage) → IsIn g (bucket_snapshot m b)
    → ((bucket_at m b).word ≡ 2 * (bucket_at m b).start + 1) ⊎ ((bucket_at m b).word ≡ 2 * (bucket_at m b).start + 2) ⊎ IsPassing m b
unfolding Found
words-in m b s o home i = inl i.word
words-in m b s o working i = inr (inl i.word)
words-in m b s o over i = let t = i.bounds.1 in absurd (cc)
words-in m b s o (passing p r) i =
    let v = bucket_snapshot m b in
    let e = i.bounds.3 in
    let f = mark-sent b 0 p r (bucket_at m b).start m.dispatched e.0 e.1 in
    inr (inr (record {
      core = p;
      from = r;
      front = e.0;
      last = e.1;
      word = i.word;
      holds = finishes-holds r v.start (v.ended p) (v.hand p) (v.queue p) (at_finisher v p r i);
      before = f.0;
      behind = f.1;
      mark = s.streamed.streams p ∙ f.2;
    }))

run-taken : (m : MachineView) (es : List Event) (last : MachineView) → IsSound m → AreTaken m → Runs m es last → AreTaken last
run-taken m [] last s t r = subst AreTaken (sym r) t
run-taken m (e ∷ es) last s t r = let i = is_enabled m e r.0 in run-taken (step m e) es last (step-sound m e i s) (step-taken m e s i t) r.1

start-taken : (m : MachineView) → IsStart m → AreTaken m
start-taken m s = subst AreTaken (sym s.is) (λ c b l. subst (λ (h : Hand). FitsTaken h (has_end (core_at (first_state s.owners s.cores s.packets s.pool s.moves) c).taken) (stand_from b new (core_at (first_state s.owners s.cores s.packets s.pool s.moves) c).taken))
    (sym (hand-first s.owners s.cores s.packets s.pool s.moves c b)) (inl (ap (stand_from b new) (taken-first s.owners s.cores s.packets s.pool s.moves c))))

pub sound-neighbours : (m : MachineView) → IsSound m → AreTaken m → AreNeighbours m
sound-neighbours m k t = record {
  rise = λ b l. (k.buckets.buckets b l).joins;
  words = λ b l o. words-in m b k o (k.buckets.buckets b l).stage (k.buckets.buckets b l).is_in;
  seen = k.buckets.seen;
  taken = t;
}

pub run-neighbours : (start last : MachineView) (events : List Event) → IsStart start → Runs start events last → AreNeighbours last
run-neighbours start last events s r = sound-neighbours last (run-sound start last events s r) (run-taken start events last (start-sound start s) (start-taken start s) r)
