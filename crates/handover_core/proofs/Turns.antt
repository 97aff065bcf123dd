-- What each event makes of one bucket, as `step` does it to the whole state.
use Rattle.std.specs.Prelude.{ℕ, ◌+◌, ◌*◌, List, [], ◌∷◌, ◌++◌, length, true, if◌then◌else◌, ◌==◌, Some, None}
use Rattle.handover_core.specs.declared.item.Kind.TheVariants.{Mark}
use Rattle.handover_core.specs.State.{Away, Held}
use Rattle.handover_core.specs.Dispatch.{kind_at}
use Rattle.handover_core.specs.Machine.{met, leave, shelf_done}
use Rattle.handover_core.specs.Bucket.{Piece, piece, BucketSnapshot, stint_of}

-- a function with one value changed
abbrev pub upd : {A : Type 0} → (ℕ → A) → ℕ → A → ℕ → A
upd f c x d = if d == c then x else f d

abbrev pub after_send : BucketSnapshot → BucketSnapshot
after_send v = record v { sent = v.sent + 1; queue = upd v.queue v.owner (v.queue v.owner ++ piece (kind_at v.start v.sent) v.sent ∷ []) }

abbrev pub after_move : BucketSnapshot → ℕ → BucketSnapshot
after_move v to = record v {
  owner = to;
  start = v.sent;
  stints = v.stints ++ stint_of v.owner v.start v.sent ∷ [];
  queue = upd v.queue v.owner (v.queue v.owner ++ piece Mark v.sent ∷ []);
}

abbrev pub after_place : BucketSnapshot → ℕ → BucketSnapshot
after_place v to = record v { owner = to }

abbrev pub after_take : BucketSnapshot → ℕ → Piece → List Piece → BucketSnapshot
after_take v c x rest = record v { hand = upd v.hand c (met (v.hand c) x.kind x.place); queue = upd v.queue c rest }

abbrev pub after_end : BucketSnapshot → ℕ → BucketSnapshot
after_end v c = record v { hand = upd v.hand c (leave (v.hand c)); ended = upd v.ended c true }

abbrev pub after_claim : BucketSnapshot → ℕ → ℕ → List ℕ → BucketSnapshot
after_claim v c first places = record v {
  word = 2 * first + 2;
  shelf = None;
  hand = upd v.hand c (if v.ended c then leave (Held first (shelf_done v.shelf + length places)) else Held first (shelf_done v.shelf + length places));
}

abbrev pub after_release : BucketSnapshot → ℕ → ℕ → BucketSnapshot
after_release v c done = record v { word = 2 * done + 1; shelf = Some done; hand = upd v.hand c Away }
