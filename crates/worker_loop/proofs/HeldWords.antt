-- A claim that is held is the word of its bucket, from turn to turn.
use Rattle.std.proofs.Common.{◌≡◌, ℕ, ◌+◌, ◌*◌, ◌<◌, arith, List, [], ◌∷◌, length, set, ⊎_elim, Option, Some, None, refl, sym, ap, ◌∙◌, subst, get_or-set_same, get_or-set_other}
use Rattle.std.specs.Prelude.{slice_index}
use Rattle.std.proofs.lemmas.List.{get_or_past}
use Rattle.std.proofs.lemmas.Bool.{cases_lt, cases_eq}
use Rattle.bucket_table.specs.Table.{TableOf}
use Rattle.handover_words.specs.declared.history.Claim.{Claim}
use Rattle.handover_words.specs.declared.history.ShelfHistory.{ShelfHistory}
use Rattle.handover_words.specs.ShelfHistory.{HasClaim, saw, claimed, released}
use Rattle.handover_words.specs.Stock.{Stock, ReleasesNow}
use Rattle.handover_words.proofs.Claims.{HasClaim-without}
use Rattle.worker_loop.specs.declared.worker_turn.WorkerTurn.{WorkerTurn}
use Rattle.worker_loop.specs.declared.worker_turn.WorkerTurn.TheVariants.{Released, Claimed, Worked, Parked, Marked, EndTaken, Idle, Ended}
use Rattle.worker_loop.specs.Workload.{Workload}
use Rattle.worker_loop.specs.WorkerState.{WorkerState}
use Rattle.worker_loop.specs.WorkerSnapshot.{WorkerSnapshot, AnsweredNotYet, first_parked_place}
use Rattle.worker_loop.specs.Does.{GivesTable}
use Rattle.worker_loop.specs.Rules.{IsTurn}
use Rattle.worker_loop.specs.Seats.{HoldsByWord}

module _ {T : Type 0} where
  same_words : (now now' : Option (Stock T)) (e e' : ShelfHistory) → now' ≡ now → e'.held ≡ e.held → HoldsByWord now e → HoldsByWord now' e'
  same_words None now' e e' is held h = subst (λ (n : Option (Stock T)). HoldsByWord n e') (sym is) tt
  same_words (Some s) now' e e' is held h = subst (λ (n : Option (Stock T)). HoldsByWord n e') (sym is) (λ k p c. h k p (subst (λ (l : List Claim). HasClaim k p l) held c))

  refused_claims : (w : WorkerState T) (now : Option (Stock T)) (bs : List ℕ) (e e' : ShelfHistory) → AnsweredNotYet w now bs e e' → e'.held ≡ e.held
  refused_claims w now [] e e' h = ap (λ (z : ShelfHistory). z.held) h
  refused_claims w now (b ∷ bs) e e' h = refused_claims w now bs (saw b h.0 e) e' h.3

  words_released : (now now' : Option (Stock T)) (b done : ℕ) (x : T) (e e' : ShelfHistory) → ReleasesNow now b done x now' → e' ≡ released b done e → HoldsByWord now e → HoldsByWord now' e'
  words_released None now' b done x e e' r is h = subst (λ (n : Option (Stock T)). HoldsByWord n e') (sym r) tt
  words_released (Some s) now' b done x e e' r is h = subst (λ (n : Option (Stock T)). HoldsByWord n e') (sym r)
      (λ k p c. let left = HasClaim-without b k p e.held (subst (λ (z : ShelfHistory). HasClaim k p z.held) is c) in get_or-set_other s.words b k (2 * done + 1) 0 left.1 ∙ h k p left.0)

  words_claimed : (now now' : Option (Stock T)) (b place : ℕ) (x : T) (e e' : ShelfHistory) → GivesTable now b place x now' → e' ≡ claimed b place e → HoldsByWord now e → HoldsByWord now' e'
  words_claimed None now' b place x e e' g is h = subst (λ (n : Option (Stock T)). HoldsByWord n e') (sym g) tt
  words_claimed (Some s) now' b place x e e' g is h = subst (λ (n : Option (Stock T)). HoldsByWord n e') (sym g.2)
      (λ k p c. ⊎_elim
      (λ (q : (b ≡ k) × (place ≡ p)). subst (λ (y : ℕ × ℕ). slice_index (set s.words b (2 * place + 2)) y.0 ≡ 2 * y.1 + 2) (λ i. (q.0 i, q.1 i)) (get_or-set_same s.words b (2 * place + 2) 0 near))
      (λ (q : HasClaim k p e.held). ⊎_elim
      (λ (f : k ≡ b). absurd (let word : slice_index s.words b ≡ 2 * p + 2 = ap (slice_index s.words) (sym f) ∙ h k p q in let other = g.0 in omega arith))
      (λ (ne : k ≡ b → ⊥). get_or-set_other s.words b k (2 * place + 2) 0 ne ∙ h k p q) (cases_eq k b))
      (subst (λ (z : ShelfHistory). HasClaim k p z.held) is c)) where
        near : b < length s.words
        near = ⊎_elim (λ (l : b < length s.words). l) (λ far. absurd (let none : slice_index s.words b ≡ 0 = get_or_past s.words b 0 far in let word = g.0 in omega arith)) (cases_lt b (length s.words))

module _ {S : Type 0} (j : Workload S) (s t : WorkerSnapshot (TableOf S)) where
  pub words_kept : (turn : WorkerTurn) → IsTurn j s turn t → HoldsByWord s.shelf_now s.shelf → HoldsByWord t.shelf_now t.shelf
  words_kept (Released b) r h = words_released s.shelf_now t.shelf_now b r.does.table.done _ s.shelf t.shelf r.does.shelf_now r.does.shelf h
  words_kept (Claimed b) r h = words_claimed s.shelf_now t.shelf_now b (first_parked_place b s.worker) r.given r.history t.shelf r.shelf_now r.shelf (same_words s.shelf_now s.shelf_now s.shelf r.history refl (refused_claims s.worker s.shelf_now r.first.before s.shelf r.history r.first.refused) h)
  words_kept Worked r h = same_words s.shelf_now t.shelf_now s.shelf t.shelf r.refused.1 (refused_claims s.worker s.shelf_now s.worker.lot.waiting s.shelf t.shelf r.refused.0) h
  words_kept Parked r h = same_words s.shelf_now t.shelf_now s.shelf t.shelf r.refused.1 (refused_claims s.worker s.shelf_now s.worker.lot.waiting s.shelf t.shelf r.refused.0) h
  words_kept Marked r h = same_words s.shelf_now t.shelf_now s.shelf t.shelf r.refused.1 (refused_claims s.worker s.shelf_now s.worker.lot.waiting s.shelf t.shelf r.refused.0) h
  words_kept EndTaken r h = same_words s.shelf_now t.shelf_now s.shelf t.shelf r.refused.1 (refused_claims s.worker s.shelf_now s.worker.lot.waiting s.shelf t.shelf r.refused.0) h
  words_kept Idle r h = same_words s.shelf_now t.shelf_now s.shelf t.shelf r.refused.1 (refused_claims s.worker s.shelf_now s.worker.lot.waiting s.shelf t.shelf r.refused.0) h
  words_kept Ended r h = same_words s.shelf_now t.shelf_now s.shelf t.shelf r.refused.1 (refused_claims s.worker s.shelf_now s.worker.lot.waiting s.shelf t.shelf r.refused.0) h

pub words_fresh : {T : Type 0} (now : Option (Stock T)) (e : ShelfHistory) → e.held ≡ [] → HoldsByWord now e
words_fresh None e none = tt
words_fresh (Some s) e none = λ b p c. absurd (subst (λ (l : List Claim). HasClaim b p l) none c)
