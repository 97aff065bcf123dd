-- What is said beside the promises: of two neighbouring stints, and of what a core took last.
use Rattle.std.specs.Prelude.{◌≡◌, ◌⊎◌, ℕ, ◌+◌, ◌*◌, ◌<◌, List, [], ◌∷◌, ◌++◌, length, Bool, true, false, Some}
use Rattle.indirection.specs.Stints.{Stint, Joins}
use Rattle.handover_core.specs.declared.item.Kind.TheVariants.{Mark}
use Rattle.handover_core.specs.declared.item.Item.{Item}
use Rattle.handover_core.specs.declared.item.Item.TheVariants.{Of}
use Rattle.handover_core.specs.Legal.{Stand, new, within, past, stand_from}
use Rattle.handover_core.specs.State.{Hand, Away, Waiting, Held, Leaving, MachineView, bucket_at, core_at, hand_at}
use Rattle.handover_core.specs.Machine.{has_end, end_sent}
use Rattle.handover_core.specs.Bucket.{stint_of}
use Rattle.handover_core.specs.Sound.{ended_stints}
use Rattle.handover_core.specs.Promises.{hand_claimed_at}

-- the core of the stint before the newest one has the table, which it claimed at that stint's start, and the mark at the newest start is on its queue or taken
pub record IsPassing (m : MachineView) (b : ℕ) : Type 0 where
  pub core : ℕ
  pub from : ℕ
  pub front : List Stint
  pub last : ended_stints b 0 m.dispatched ≡ front ++ stint_of core from (bucket_at m b).start ∷ []
  pub word : (bucket_at m b).word ≡ 2 * from + 2
  pub holds : hand_claimed_at (hand_at m core b) ≡ Some from
  pub before : List Item
  pub behind : List Item
  pub mark : (core_at m core).taken ++ (core_at m core).queue ≡ before ++ Of Mark b (bucket_at m b).start ∷ behind

-- one above the last of some places
abbrev pub place_after : List ℕ → ℕ
place_after [] = 0
place_after (p ∷ []) = p + 1
place_after (p ∷ q ∷ ps) = place_after (q ∷ ps)

-- what a core took last of a bucket: of one that it has nothing of, nothing, or a mark, or End was taken; of what waits, the last packet that waits; of a table that is held, the packet at `done` less one; of one that is to be released, the mark at `done`, or End
abbrev pub FitsTaken : Hand → Bool → Stand → Type 0
FitsTaken Away ended stand = (stand ≡ new) ⊎ ((n : ℕ) × (stand ≡ past n)) ⊎ (ended ≡ true)
FitsTaken (Waiting places) ended stand = stand ≡ within (place_after places)
FitsTaken (Held start done) ended stand = stand ≡ within done
FitsTaken (Leaving start done) ended stand = (stand ≡ past done) ⊎ (ended ≡ true)

abbrev pub AreTaken : MachineView → Type 0
AreTaken m = (c b : ℕ) → b < length m.buckets → FitsTaken (hand_at m c b) (has_end (core_at m c).taken) (stand_from b new (core_at m c).taken)

-- with s a bucket's newest start and r the one before: starts rise; the word is 2s + 1, 2s + 2 or 2r + 2 until the owner took End; a seen word 2s + 2 is the word until an End is sent; and cores took what their hands say
pub record AreNeighbours (m : MachineView) : Type 0 where
  pub rise : (b : ℕ) → b < length m.buckets → Joins 0 (ended_stints b 0 m.dispatched) (bucket_at m b).start
  pub words : (b : ℕ) → b < length m.buckets → has_end (core_at m (bucket_at m b).owner).taken ≡ false
      → ((bucket_at m b).word ≡ 2 * (bucket_at m b).start + 1) ⊎ ((bucket_at m b).word ≡ 2 * (bucket_at m b).start + 2) ⊎ IsPassing m b
  pub seen : (b : ℕ) → b < length m.buckets → end_sent m ≡ false → (bucket_at m b).seen ≡ 2 * (bucket_at m b).start + 2 → (bucket_at m b).word ≡ 2 * (bucket_at m b).start + 2
  pub taken : AreTaken m
