-- What a lawful round stands on: lists by their elements, costs of packets, and readings of a meter.
use Rattle.std.proofs.Common.{◌≡◌, ℕ, zero, suc, ◌+◌, ◌-◌, ◌<◌, ◌≤◌, max, cond, List, [], ◌∷◌, ◌++◌, length, map, filter, get_or, refl, sym, ap, ◌∙◌, subst, arith, Bool, true, false, if◌then◌else◌, ◌==◌, eq-eqb, Option, None, Some, ⊎_elim}
use Rattle.std.specs.Prelude.{sum_by}
use Rattle.std.proofs.lemmas.List.{map-append, ext_get_or, length-map}
use Rattle.std.proofs.Math.ListN.{get_or-append}
use Rattle.std.proofs.Math.Seq.{get_or-append_seam}
use Rattle.std.proofs.lemmas.List.Sums.{sum_by-cons}
use Rattle.std.proofs.lemmas.Bool.{cases_lt}
use Rattle.indirection.proofs.Upto.{length-upto}
use Rattle.indirection.specs.Tries.{Try, upto}
use Rattle.indirection.specs.Story.{Parcel, Step, Rounds, Tries, Sends, told, sent_from, worked_from, cost_to}
use Rattle.indirection.specs.Lawful.{cost_in}
use Rattle.load_meter.specs.declared.history.LoadHistory.{LoadHistory}
use Rattle.load_meter.specs.LoadHistory.{known_at, reading, top_in}
use Rattle.dispatch_loop.specs.Does.{read_from, AreReadings, IsReading, bases_of, noted}
use Rattle.dispatch_loop.proofs.Weighed.{known-more}

-- a list by its elements

pub map-get : (f : ℕ → ℕ) (n k : ℕ) → k < n → get_or (map f (upto n)) k 0 ≡ f k
map-get f zero k h = absurd (omega arith)
map-get f (suc n) k h = ap (λ (z : List ℕ). get_or z k 0) (map-append f (upto n) (n ∷ [])) ∙ ⊎_elim
    (λ (l : k < n). get_or-append (map f (upto n)) (f n ∷ []) 0 k (let w = length-map (upto n) f in let v = length-upto n in omega arith) ∙ map-get f n k l)
    (λ (l : n ≤ k). let e : k ≡ length (map f (upto n)) = (let w = length-map (upto n) f in let v = length-upto n in omega arith) in
    ap (λ (j : ℕ). get_or (map f (upto n) ++ f n ∷ []) j 0) e ∙ (get_or-append_seam (map f (upto n)) (f n) [] 0 ∙ ap f (let q : n ≡ k = omega arith in q))) (cases_lt k n)

pub by-elements : (xs : List ℕ) (f : ℕ → ℕ) (n : ℕ) → length xs ≡ n → ((k : ℕ) → k < n → get_or xs k 0 ≡ f k) → xs ≡ map f (upto n)
by-elements xs f n long each = ext_get_or 0 xs (map f (upto n)) (long ∙ sym (length-map (upto n) f ∙ length-upto n)) (λ k h. each k (omega arith) ∙ sym (map-get f n k (omega arith)))

-- the costs of a bucket's packets

pub kept-cost : (t : Bool) (x : Parcel) (xs : List Parcel) → sum_by (λ (p : Parcel). p.cost) (cond t (x ∷ xs) xs) ≡ (if t then x.cost else 0) + sum_by (λ (p : Parcel). p.cost) xs
kept-cost true x xs = sum_by-cons (λ (p : Parcel). p.cost) x xs
kept-cost false x xs = omega arith

-- one packet more
pub cost_in-push : (b : ℕ) (xs : List Parcel) (x : Parcel) → cost_in (xs ++ x ∷ []) b ≡ cost_in xs b + (if x.bucket == b then x.cost else 0)
cost_in-push b [] x = kept-cost (x.bucket == b) x [] ∙ omega arith
cost_in-push b (y ∷ xs) x =
    let r = cost_in-push b xs x in
    let all = kept-cost (y.bucket == b) y (filter (λ (q : Parcel). q.bucket == b) (xs ++ x ∷ [])) in
    let front = kept-cost (y.bucket == b) y (filter (λ (q : Parcel). q.bucket == b) xs) in omega arith

-- what a core had worked is no more than what it was sent
pub worked-most : (c : ℕ) (start : List ℕ) (ts : List Try) (sent known : ℕ) (ss : List Step) → known ≤ sent → worked_from c start ts sent known ss ≤ sent + sent_from c start ts ss
worked-most c start ts sent known [] h = omega arith
worked-most c start ts sent known (Rounds g ∷ ss) h = worked-most c start ts sent _ ss (omega arith)
worked-most c start ts sent known (Tries a o ∷ ss) h = worked-most c start (ts ++ record { ask = a; outcome = o } ∷ []) sent known ss h
worked-most c start ts sent known (Sends p ∷ ss) h = let r = worked-most c start ts (sent + cost_to c start ts p) known ss (omega arith) in omega arith

-- readings

pub base-get : (xs ns : List ℕ) (c : ℕ) → length xs ≡ length ns → get_or (bases_of xs ns) c 0 ≡ get_or xs c 0 - get_or ns c 0
base-get [] [] c e = omega arith
base-get [] (n ∷ ns) c e = absurd (omega arith)
base-get (x ∷ xs) [] c e = absurd (omega arith)
base-get (x ∷ xs) (n ∷ ns) zero e = refl
base-get (x ∷ xs) (n ∷ ns) (suc c) e = base-get xs ns c (omega arith)

pub reading-later : (now : Option (List ℕ)) (e : LoadHistory) (c n : ℕ) → IsReading now e c n → known_at c e ≤ n
reading-later None e c n r = r
reading-later (Some l) e c n r = r.0

pub readings-later : (now : Option (List ℕ)) (e : LoadHistory) (d : ℕ) (ns : List ℕ) (c : ℕ) → AreReadings now e d ns → c < length ns → known_at (d + c) e ≤ get_or ns c 0
readings-later now e d [] c a h = absurd (omega arith)
readings-later now e d (n ∷ ns) zero a h = subst (λ (k : ℕ). known_at k e ≤ n) (let q : d ≡ d + 0 = omega arith in q) (reading-later now e d n a.0)
readings-later now e d (n ∷ ns) (suc c) a h = subst (λ (k : ℕ). known_at k e ≤ get_or ns c 0) (let q : d + 1 + c ≡ d + suc c = omega arith in q) (readings-later now e (d + 1) ns c a.1 (omega arith))

pub known-reading : (c n : ℕ) (e : LoadHistory) → n ≤ known_at c (reading c n e)
known-reading c n e = subst (λ (t : Bool). n ≤ max (top_in c e.noted) (max (max (if t then n else 0) (top_in c e.read)) (top_in c e.told))) (sym (eq-eqb c c refl)) (omega arith)

pub known-reads : (e : LoadHistory) (d : ℕ) (ns : List ℕ) (c : ℕ) → c < length ns → get_or ns c 0 ≤ known_at (d + c) (read_from d ns e)
known-reads e d [] c h = absurd (omega arith)
known-reads e d (n ∷ ns) zero h = subst (λ (k : ℕ). n ≤ known_at k (read_from (d + 1) ns (reading d n e))) (let q : d ≡ d + 0 = omega arith in q) (let a = known-reading d n e in let b = known-more d (d + 1) ns (reading d n e) in omega arith)
known-reads e d (n ∷ ns) (suc c) h = subst (λ (k : ℕ). get_or ns c 0 ≤ known_at k (read_from (d + 1) ns (reading d n e))) (let q : d + 1 + c ≡ d + suc c = omega arith in q) (known-reads (reading d n e) (d + 1) ns c (omega arith))
