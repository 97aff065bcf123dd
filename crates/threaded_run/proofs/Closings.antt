-- What is left of all cores once they have ended, and of the cores but the last.
use Rattle.std.proofs.Common.{◌≡◌, ℕ, arith, Bool, not, List, [], ◌∷◌, ◌++◌, length, Some, refl, sym, ap, ◌∙◌, length-append, append_assoc}
use Rattle.std.specs.Prelude.{slice_get}
use Rattle.std.specs.List.{flat_map}
use Rattle.std.proofs.lemmas.List.{append-nil}
use Rattle.std.proofs.lemmas.Grind.{flat_map-append}
use Rattle.std.proofs.lemmas.List.Concat.{flat_map-cons}
use Rattle.bucket_table.specs.Table.{TableOf}
use Rattle.core_queue.specs.RuledLane.{SharedLane, AtLane}
use Rattle.handover_words.specs.declared.history.Stretch.{Stretch}
use Rattle.handover_words.specs.WordShelf.{SharedShelf}
use Rattle.worker_loop.specs.WorkerState.{WorkerView}
use Rattle.worker_loop.specs.Workload.{Workload}
use Rattle.run_shifts.specs.Parties.{SharedView}
use Rattle.run_shifts.specs.WorkerParties.{AreWorkerParties, HaveEnded}
use Rattle.run_shifts.specs.declared.worker_party.WorkerParty.{WorkerParty}
use Rattle.threaded_run.specs.PartyLists.{IsLeft, AreLeft, AreOfLanes, ended_at}
use Rattle.threaded_run.proofs.Lists.{front_at, last_at, at_same}

module _ {K T : Type 0} (shelf : SharedShelf) (ls ls0 : List SharedLane) (ss ss0 : List AtLane) (ps ps0 : List (WorkerParty K T)) (l : SharedLane) (s : AtLane) (p : WorkerParty K T) where
  pub left_front : AreLeft shelf ls ss ps → ls ≡ ls0 ++ l ∷ [] → ss ≡ ss0 ++ s ∷ [] → ps ≡ ps0 ++ p ∷ [] → AreLeft shelf ls0 ss0 ps0
  left_front all li si pi c l' s' p' la sa pa = all c l' s' p' (front_at ls ls0 l l' c li la) (front_at ss ss0 s s' c si sa) (front_at ps ps0 p p' c pi pa)

  pub left_last : AreLeft shelf ls ss ps → ls ≡ ls0 ++ l ∷ [] → ss ≡ ss0 ++ s ∷ [] → ps ≡ ps0 ++ p ∷ [] → length ss ≡ length ls → length ps ≡ length ls → IsLeft shelf l s p
  left_last all li si pi sc pc =
      let a = ap length li ∙ length-append ls0 (l ∷ []) in let b = ap length si ∙ length-append ss0 (s ∷ []) in let d = ap length pi ∙ length-append ps0 (p ∷ []) in
      all (length ls0) l s p (last_at ls ls0 l (length ls0) li refl) (last_at ss ss0 s (length ls0) si (omega arith)) (last_at ps ps0 p (length ls0) pi (omega arith))

pub ended_all : {K T : Type 0} (old mid : List Stretch) (ps ps0 : List (WorkerParty K T)) (p : WorkerParty K T) → ps ≡ ps0 ++ p ∷ [] → mid ≡ old ++ flat_map ended_at ps0 → mid ++ p.seat.history.ended ≡ old ++ flat_map ended_at ps
ended_all old mid ps ps0 p pi is =
    let one : flat_map ended_at (p ∷ []) ≡ p.seat.history.ended = flat_map-cons ended_at p [] ∙ append-nil p.seat.history.ended in
    ap (λ l. l ++ p.seat.history.ended) is
    ∙ (append_assoc old (flat_map ended_at ps0) p.seat.history.ended
    ∙ ap (λ l. old ++ l) (ap (λ l. flat_map ended_at ps0 ++ l) (sym one) ∙ (sym (flat_map-append ended_at ps0 (p ∷ [])) ∙ sym (ap (flat_map ended_at) pi))))

-- parties that have ended leave what the closing wants
pub left_of : {S : Type 0} (j : Workload S) (o : SharedView) (ss : List AtLane) (ps : List (WorkerParty (WorkerView (TableOf S)) (TableOf S))) → AreWorkerParties j o ps → HaveEnded ps → AreOfLanes o.lanes ss → AreLeft o.shelf o.lanes ss ps
left_of j o ss ps worker_parties ended senders c l s p la sa pa =
    let is = worker_parties c p pa in let worker_party = is.1 in let done = worker_party.done (ended c p pa) in
    let at : slice_get o.lanes p.core ≡ Some l = ap (λ (k : ℕ). slice_get o.lanes k) is.0 ∙ la in
    let same : Some worker_party.lane ≡ Some l = sym worker_party.lane_is ∙ at in
    let lane : worker_party.lane ≡ l = cc in
    let mine = at_same (λ (a : AtLane). a.home) (λ (x : SharedLane). x.home) ss o.lanes c s senders sa in
    let again : Some mine.0 ≡ Some l = sym mine.1 ∙ la in
    let its : mine.0 ≡ l = cc in
    record {
      sends = sym mine.2 ∙ ap (λ (x : SharedLane). x.home) its;
      takes = worker_party.taker ∙ ap (λ (x : SharedLane). x.home) lane;
      closed = worker_party.work.tied.end_is ∙ ap (λ (b : Bool). not b) done.took_end;
      seat = worker_party.seat;
      share = worker_party.work.share;
      free = done.free;
    }
