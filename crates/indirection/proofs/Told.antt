-- A story with one more packet, entry or outcome.
use Rattle.std.proofs.Common.{◌≡◌, ℕ, ◌+◌, ◌-◌, ◌≤◌, max, List, [], ◌∷◌, ◌++◌, map, take, drop, length, append_assoc, Some, refl, sym, ap, ◌∙◌, subst, arith}
use Rattle.std.proofs.lemmas.List.{append-nil, map-append, take-append-le, drop-append-le, length-drop, take_all, drop_all, take-append-drop}
use Rattle.std.specs.Prelude.{slice_get}
use Rattle.indirection.proofs.RoundTries.{round_tries-push}
use Rattle.indirection.proofs.Steps.{parcels_of-append, tries_of-append}
use Rattle.indirection.specs.declared.proposal.Proposal.{Proposal}
use Rattle.indirection.specs.declared.outcome.Outcome.{Outcome}
use Rattle.indirection.specs.declared.entry.Entry.{Entry}
use Rattle.indirection.specs.declared.entry.Entry.TheVariants.{Round, Order}
use Rattle.indirection.specs.Views.{RoundView}
use Rattle.indirection.specs.Tries.{Proposed, Try, round_tries, entry_tries, tries}
use Rattle.indirection.specs.Story.{Parcel, Step, Rounds, Tries, Sends, entry_at, entry_steps, told, AtMost, parcels_of, tries_of}

-- the packets behind an entry at most that far on
rest : (at n m : ℕ) → m ≤ at + n → max at m + (n - (m - at)) ≡ at + n
rest at n m h = omega arith

pub told-send : (es : List Entry) (at : ℕ) (xs : List Parcel) (p : Parcel) → AtMost (at + length xs) es → told at (xs ++ p ∷ []) es ≡ told at xs es ++ Sends p ∷ []
told-send [] at xs p a = map-append Sends xs (p ∷ [])
told-send (e ∷ es) at xs p a =
    ap (λ (z : List Parcel). map Sends z ++ (entry_steps e ++ told (max at (entry_at e)) (drop (entry_at e - at) (xs ++ p ∷ [])) es)) (take-append-le (entry_at e - at) xs (p ∷ []) near)
    ∙ (ap (λ (z : List Parcel). front ++ (entry_steps e ++ told (max at (entry_at e)) z es)) (drop-append-le (entry_at e - at) xs (p ∷ []) near)
    ∙ (ap (λ (z : List Step). front ++ (entry_steps e ++ z)) (told-send es (max at (entry_at e)) (drop (entry_at e - at) xs) p (subst (λ (n : ℕ). AtMost n es) (sym same) a.1))
    ∙ (ap (λ (z : List Step). front ++ z) (sym (append_assoc (entry_steps e) behind (Sends p ∷ [])))
    ∙ sym (append_assoc front (entry_steps e ++ behind) (Sends p ∷ []))))) where
      near : entry_at e - at ≤ length xs
      near = let h = a.0 in omega arith

      front : List Step
      front = map Sends (take (entry_at e - at) xs)

      behind : List Step
      behind = told (max at (entry_at e)) (drop (entry_at e - at) xs) es

      same : max at (entry_at e) + length (drop (entry_at e - at) xs) ≡ at + length xs
      same = ap (λ (n : ℕ). max at (entry_at e) + n) (length-drop (entry_at e - at) xs) ∙ rest at (length xs) (entry_at e) a.0

pub told-entry : (es : List Entry) (at : ℕ) (xs : List Parcel) (e : Entry) → AtMost (at + length xs) es → entry_at e ≡ at + length xs → told at xs (es ++ e ∷ []) ≡ told at xs es ++ entry_steps e
told-entry [] at xs e a h =
    ap (λ (z : List Parcel). map Sends z ++ (entry_steps e ++ map Sends (drop (entry_at e - at) xs))) (take_all (entry_at e - at) xs (omega arith))
    ∙ (ap (λ (z : List Parcel). map Sends xs ++ (entry_steps e ++ map Sends z)) (drop_all (entry_at e - at) xs (omega arith))
    ∙ ap (λ (z : List Step). map Sends xs ++ z) (append-nil (entry_steps e)))
told-entry (d ∷ es) at xs e a h =
    ap (λ (z : List Step). front ++ (entry_steps d ++ z)) (told-entry es (max at (entry_at d)) (drop (entry_at d - at) xs) e (subst (λ (n : ℕ). AtMost n es) (sym same) a.1) (h ∙ sym same))
    ∙ (ap (λ (z : List Step). front ++ z) (sym (append_assoc (entry_steps d) behind (entry_steps e)))
    ∙ sym (append_assoc front (entry_steps d ++ behind) (entry_steps e))) where
      front : List Step
      front = map Sends (take (entry_at d - at) xs)

      behind : List Step
      behind = told (max at (entry_at d)) (drop (entry_at d - at) xs) es

      same : max at (entry_at d) + length (drop (entry_at d - at) xs) ≡ at + length xs
      same = ap (λ (n : ℕ). max at (entry_at d) + n) (length-drop (entry_at d - at) xs) ∙ rest at (length xs) (entry_at d) a.0

pub entry_steps-push : (r : RoundView) (p : Proposal) (o : Outcome) → slice_get r.proposals (length r.outcomes) ≡ Some p → entry_steps (Round (record r { outcomes = r.outcomes ++ o ∷ [] })) ≡ entry_steps (Round r) ++ Tries (Proposed r.at p) o ∷ []
entry_steps-push r p o h =
    ap (λ (z : List Try). Rounds (record { at = r.at; loads = r.loads; proposals = r.proposals }) ∷ map (λ t. Tries t.ask t.outcome) z) (round_tries-push r.at r.proposals r.outcomes p o h)
    ∙ ap (λ (z : List Step). Rounds (record { at = r.at; loads = r.loads; proposals = r.proposals }) ∷ z) (map-append (λ (t : Try). Tries t.ask t.outcome) (round_tries r.at r.proposals r.outcomes) (record { ask = Proposed r.at p; outcome = o } ∷ []))

-- a story has the packets and the tries that it was told of

pub parcels_of-sends : (xs : List Parcel) → parcels_of (map Sends xs) ≡ xs
parcels_of-sends [] = refl
parcels_of-sends (x ∷ xs) = ap (λ (z : List Parcel). x ∷ z) (parcels_of-sends xs)

pub tries_of-sends : (xs : List Parcel) → tries_of (map Sends xs) ≡ []
tries_of-sends [] = refl
tries_of-sends (x ∷ xs) = tries_of-sends xs

pub parcels_of-tries : (ts : List Try) → parcels_of (map (λ (t : Try). Tries t.ask t.outcome) ts) ≡ []
parcels_of-tries [] = refl
parcels_of-tries (t ∷ ts) = parcels_of-tries ts

pub tries_of-tries : (ts : List Try) → tries_of (map (λ (t : Try). Tries t.ask t.outcome) ts) ≡ ts
tries_of-tries [] = refl
tries_of-tries (t ∷ ts) = ap (λ (z : List Try). t ∷ z) (tries_of-tries ts)

pub parcels_of-entry : (e : Entry) → parcels_of (entry_steps e) ≡ []
parcels_of-entry (Round r) = parcels_of-tries (round_tries r.at r.proposals r.outcomes)
parcels_of-entry (Order e) = refl

pub tries_of-entry : (e : Entry) → tries_of (entry_steps e) ≡ entry_tries e
tries_of-entry (Round r) = tries_of-tries (round_tries r.at r.proposals r.outcomes)
tries_of-entry (Order e) = refl

pub parcels_of-told : (es : List Entry) (at : ℕ) (xs : List Parcel) → parcels_of (told at xs es) ≡ xs
parcels_of-told [] at xs = parcels_of-sends xs
parcels_of-told (e ∷ es) at xs =
    parcels_of-append (map Sends (take d xs)) (entry_steps e ++ told (max at (entry_at e)) (drop d xs) es)
    ∙ (ap (λ (z : List Parcel). z ++ parcels_of (entry_steps e ++ told (max at (entry_at e)) (drop d xs) es)) (parcels_of-sends (take d xs))
    ∙ (ap (λ (z : List Parcel). take d xs ++ z) (parcels_of-append (entry_steps e) (told (max at (entry_at e)) (drop d xs) es))
    ∙ (ap (λ (z : List Parcel). take d xs ++ (z ++ parcels_of (told (max at (entry_at e)) (drop d xs) es))) (parcels_of-entry e)
    ∙ (ap (λ (z : List Parcel). take d xs ++ z) (parcels_of-told es (max at (entry_at e)) (drop d xs))
    ∙ take-append-drop d xs)))) where
      d : ℕ
      d = entry_at e - at

pub tries_of-told : (es : List Entry) (at : ℕ) (xs : List Parcel) → tries_of (told at xs es) ≡ tries es
tries_of-told [] at xs = tries_of-sends xs
tries_of-told (e ∷ es) at xs =
    tries_of-append (map Sends (take d xs)) (entry_steps e ++ told (max at (entry_at e)) (drop d xs) es)
    ∙ (ap (λ (z : List Try). z ++ tries_of (entry_steps e ++ told (max at (entry_at e)) (drop d xs) es)) (tries_of-sends (take d xs))
    ∙ (tries_of-append (entry_steps e) (told (max at (entry_at e)) (drop d xs) es)
    ∙ (ap (λ (z : List Try). z ++ tries_of (told (max at (entry_at e)) (drop d xs) es)) (tries_of-entry e)
    ∙ ap (λ (z : List Try). entry_tries e ++ z) (tries_of-told es (max at (entry_at e)) (drop d xs))))) where
      d : ℕ
      d = entry_at e - at
