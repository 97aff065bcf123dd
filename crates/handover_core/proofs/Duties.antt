-- A duty that parks one packet more.
use Rattle.std.proofs.Common.{◌≡◌, ℕ, ◌+◌, ◌<◌, suc, List, ◌∷◌, ◌++◌, [], length, map, get_or, set, refl, sym, ap, ◌∙◌, subst, add-one, arith}
use Rattle.std.proofs.lemmas.List.{length-map, map-set, map-append, ext_get_or, replicate-append-replicate}
use Rattle.std.proofs.Math.ListN.{get_or-map}
use Rattle.std.specs.Prelude.{replicate}
use Rattle.handover_core.specs.declared.item.Kind.{Kind}
use Rattle.handover_core.specs.declared.item.Kind.TheVariants.{Next}
use Rattle.handover_core.specs.declared.duty.Duty.{Duty}
use Rattle.handover_core.specs.declared.duty.Duty.TheVariants.{Nothing, Parks}
use Rattle.handover_core.specs.State.{Hand, Away, Waiting}
use Rattle.handover_core.specs.Machine.{met, leave}
use Rattle.handover_core.specs.Bucket.{places_from}
use Rattle.handover_core.specs.declared.worker_core.WorkerCore.{WorkerCore}
use Rattle.handover_core.specs.Cores.{hand_of_duty, core_state, CanMeet}
use Rattle.handover_core.proofs.Pieces.{places_from-push}

pub parks-met : (d : Duty) (kind : Kind) (first count place : ℕ) → d ≡ Parks first count → kind ≡ Next → CanMeet d kind place → Waiting (places_from first (count + 1)) ≡ met (hand_of_duty d) kind place
parks-met d kind first count place i j can =
    let r = subst (λ (k : Kind). CanMeet (Parks first count) k place) j (subst (λ (x : Duty). CanMeet x kind place) i can) in
    let p : places_from first count ++ place ∷ [] ≡ places_from first (suc count) = ap (λ (x : ℕ). places_from first count ++ x ∷ []) r.0 ∙ places_from-push first count in
    let e : Waiting (places_from first (count + 1)) ≡ met (hand_of_duty (Parks first count)) Next place = ap (λ (n : ℕ). Waiting (places_from first n)) (add-one count) ∙ ap Waiting (sym p) in
    subst (λ (x : Duty). Waiting (places_from first (count + 1)) ≡ met (hand_of_duty x) kind place) (sym i)
    (subst (λ (k : Kind). Waiting (places_from first (count + 1)) ≡ met (hand_of_duty (Parks first count)) k place) (sym j) e)

-- each duty left
pub leave-all : (xs ys : List Duty) → length ys ≡ length xs → ((k : ℕ) → k < length xs → hand_of_duty (get_or ys k Nothing) ≡ leave (hand_of_duty (get_or xs k Nothing))) → map hand_of_duty ys ≡ map leave (map hand_of_duty xs)
leave-all xs ys n f =
    let a = length-map ys hand_of_duty in let b = length-map xs hand_of_duty in let c = length-map (map hand_of_duty xs) leave in
    ext_get_or Away (map hand_of_duty ys) (map leave (map hand_of_duty xs)) (omega arith)
    (λ k l. get_or-map hand_of_duty ys k Nothing ∙ (f k (omega arith) ∙ (ap leave (sym (get_or-map hand_of_duty xs k Nothing)) ∙ sym (get_or-map leave (map hand_of_duty xs) k Away))))

-- so many duties of nothing
pub duties-push : (xs : List Duty) (n : ℕ) → map hand_of_duty xs ≡ replicate n Away → map hand_of_duty (xs ++ Nothing ∷ []) ≡ replicate (n + 1) Away
duties-push xs n e = map-append hand_of_duty xs (Nothing ∷ []) ∙ (ap (λ (z : List Hand). z ++ Away ∷ []) e ∙ replicate-append-replicate n 1 Away)

pub duties-set : (xs : List Duty) (b : ℕ) (d : Duty) → map hand_of_duty (set xs b d) ≡ set (map hand_of_duty xs) b (hand_of_duty d)
duties-set xs b d = map-set hand_of_duty xs b d

pub core-left : (old new : WorkerCore) → new.queue ≡ old.queue → new.taken ≡ old.taken → length new.duties.items ≡ length old.duties.items
    → ((k : ℕ) → k < length old.duties.items → hand_of_duty (get_or new.duties.items k Nothing) ≡ leave (hand_of_duty (get_or old.duties.items k Nothing)))
    → core_state new ≡ record (core_state old) { hands = map leave (core_state old).hands }
core-left old new q t n f = let e = leave-all old.duties.items new.duties.items n f in rw (q, t, e) refl
