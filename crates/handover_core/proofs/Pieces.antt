-- Runs of packets and of places with one more at the end.
use Rattle.std.proofs.Common.{◌≡◌, ℕ, zero, suc, ◌+◌, List, [], ◌∷◌, ◌++◌, length, refl, ap, ◌∙◌, add-zero, arith}
use Rattle.handover_core.specs.declared.item.Kind.TheVariants.{First, Next}
use Rattle.handover_core.specs.Bucket.{Piece, piece, nexts, opening, places_from}

pub nexts-push : (place n : ℕ) → nexts place n ++ piece Next (place + n) ∷ [] ≡ nexts place (suc n)
nexts-push place zero = ap (λ (p : ℕ). piece Next p ∷ []) (add-zero place)
nexts-push place (suc n) =
    let e : place + suc n ≡ place + 1 + n = omega arith in
    ap (λ (z : List Piece). piece Next place ∷ z) (ap (λ (p : ℕ). nexts (place + 1) n ++ piece Next p ∷ []) e ∙ nexts-push (place + 1) n)

pub opening-push : (start n : ℕ) → opening start (suc n) ++ piece Next (start + suc n) ∷ [] ≡ opening start (suc (suc n))
opening-push start n =
    let e : start + suc n ≡ start + 1 + n = omega arith in
    ap (λ (z : List Piece). piece First start ∷ z) (ap (λ (p : ℕ). nexts (start + 1) n ++ piece Next p ∷ []) e ∙ nexts-push (start + 1) n)

pub places_from-push : (place n : ℕ) → places_from place n ++ (place + n) ∷ [] ≡ places_from place (suc n)
places_from-push place zero = ap (λ (p : ℕ). p ∷ []) (add-zero place)
places_from-push place (suc n) =
    let e : place + suc n ≡ place + 1 + n = omega arith in
    ap (λ (z : List ℕ). place ∷ z) (ap (λ (p : ℕ). places_from (place + 1) n ++ p ∷ []) e ∙ places_from-push (place + 1) n)

pub length-places_from : (place n : ℕ) → length (places_from place n) ≡ n
length-places_from place zero = refl
length-places_from place (suc n) = ap suc (length-places_from (place + 1) n)
