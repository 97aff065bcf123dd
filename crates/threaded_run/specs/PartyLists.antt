-- The parties of a run at their start and at their end, list by list.
use Rattle.std.specs.Prelude.{◌≡◌, ℕ, List, [], map, Some, slice_get}
use Rattle.toeplitz.specs.declared.key.Key.{Key}
use Rattle.core_queue.specs.declared.item.Seen.{Seen}
use Rattle.core_queue.specs.NewHistory.{new_history}
use Rattle.core_queue.specs.RuledLane.{SharedLane, AtLane, Noted, HasEnd}
use Rattle.handover_words.specs.declared.history.Stretch.{Stretch}
use Rattle.handover_words.specs.WordShelf.{SharedShelf, AtShelf}
use Rattle.run_shifts.specs.declared.worker_party.WorkerParty.{WorkerParty}

-- a pass of a lane on which nothing was sent
abbrev pub new_pass : Key → ℕ → SharedLane → AtLane
new_pass key buckets lane = record { home = lane.home; history = new_history key buckets }

abbrev pub new_passes : Key → ℕ → List SharedLane → List AtLane
new_passes key buckets lanes = map (new_pass key buckets) lanes

-- the passes are of these lanes, lane by lane
abbrev pub AreOfLanes : List SharedLane → List AtLane → Type 0
AreOfLanes lanes passes = map (λ (p : AtLane). p.home) passes ≡ map (λ (l : SharedLane). l.home) lanes

-- a seat of the shelf that holds nothing and knows of no custody
pub record IsFreeSeat (shelf : SharedShelf) (seat : AtShelf) : Type 0 where
  pub home : seat.home ≡ shelf.home
  pub key : seat.history.key ≡ shelf.run.key
  pub buckets : seat.history.buckets ≡ shelf.run.buckets
  pub held : seat.history.held ≡ []
  pub ended : seat.history.ended ≡ []

-- what the passes of senders know to be sent, and what notes say was sent and taken
abbrev pub sent_by : List AtLane → List (List Seen)
sent_by passes = map (λ (p : AtLane). p.history.sent) passes

abbrev pub sent_in : List Noted → List (List Seen)
sent_in notes = map (λ (n : Noted). n.sent) notes

abbrev pub taken_in : List Noted → List (List Seen)
taken_in notes = map (λ (n : Noted). n.taken) notes

module _ {K T : Type 0} where
  -- what of each party is its worker, what its lane's end took, and the custodies that its seat ended
  abbrev pub worker_in : WorkerParty K T → K
  worker_in p = p.worker

  abbrev pub taken_at : WorkerParty K T → List Seen
  taken_at p = p.taker.history.taken

  abbrev pub ended_at : WorkerParty K T → List Stretch
  ended_at p = p.seat.history.ended

  -- what is left of a core that has ended: the two passes of its lane, on which End was taken, and a seat that has one share and holds nothing
  pub record IsLeft (shelf : SharedShelf) (lane : SharedLane) (sender : AtLane) (p : WorkerParty K T) : Type 0 where
    pub sends : sender.home ≡ lane.home
    pub takes : p.taker.home ≡ lane.home
    pub closed : HasEnd p.taker.history.taken
    pub seat : p.seat.home ≡ shelf.home
    pub share : p.seat.history.shares ≡ 1
    pub free : p.seat.history.held ≡ []

  -- core by core
  abbrev pub AreLeft : SharedShelf → List SharedLane → List AtLane → List (WorkerParty K T) → Type 0
  AreLeft shelf lanes senders worker_parties =
      (c : ℕ) (l : SharedLane) (s : AtLane) (p : WorkerParty K T) → slice_get lanes c ≡ Some l → slice_get senders c ≡ Some s → slice_get worker_parties c ≡ Some p → IsLeft shelf l s p
