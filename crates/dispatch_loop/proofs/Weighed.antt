-- Readings one after the other.
use Rattle.std.proofs.Common.{◌≡◌, ℕ, zero, suc, ◌+◌, ◌-◌, ◌*◌, ◌<◌, ◌≤◌, All, List, [], ◌∷◌, ◌++◌, length, take, drop, get_or, refl, sym, ap, ◌∙◌, subst, arith, append_assoc, Option, Some, None, length-append, replicate}
use Rattle.std.proofs.Math.ListN.{set}
use Rattle.std.proofs.Math.Seq.{set-append_seam}
use Rattle.std.proofs.lemmas.List.{drop_more, replicate-append-replicate, length-take-le, length-drop, get_or_default, take_all, drop_all, append-nil}
use Rattle.load_meter.specs.declared.history.LoadHistory.{LoadHistory}
use Rattle.load_meter.specs.LoadHistory.{reading, known_at, ReadsNow}
use Rattle.indirection.specs.Views.{LoadsView}
use Rattle.balancer.specs.declared.limits.TheConstants.{MOST_LOAD}
use Rattle.balancer.specs.Standing.{AreLoads}
use Rattle.flow_work.specs.declared.work.TheConstants.{MOST_COST, MOST_PACKETS}
use Rattle.dispatch_loop.specs.Does.{read_from, IsReading, AreReadings, bases_of}

-- an element at the seam of a list that was written so far
pub set-front : {A : Type 0} (bs xs : List A) (k : ℕ) (v d : A) → length bs ≡ k → k < length xs → set (bs ++ drop k xs) k v ≡ (bs ++ v ∷ []) ++ drop (k + 1) xs
set-front {A} bs xs k v d e h =
    ap (λ (z : List A). set (bs ++ z) k v) (drop_more xs k d h)
    ∙ (ap (λ (n : ℕ). set (bs ++ (get_or xs k d ∷ drop (k + 1) xs)) n v) (sym e)
    ∙ (set-append_seam bs (get_or xs k d) (drop (k + 1) xs) v ∙ sym (append_assoc bs (v ∷ []) (drop (k + 1) xs))))

pub read_from-push : (c : ℕ) (ns : List ℕ) (n : ℕ) (e : LoadHistory) → read_from c (ns ++ n ∷ []) e ≡ reading (c + length ns) n (read_from c ns e)
read_from-push c [] n e = ap (λ (k : ℕ). reading k n e) (omega arith)
read_from-push c (m ∷ ns) n e = read_from-push (c + 1) ns n (reading c m e) ∙ ap (λ (k : ℕ). reading k n (read_from (c + 1) ns (reading c m e))) (omega arith)

known-reading : (c d n : ℕ) (e : LoadHistory) → known_at c e ≤ known_at c (reading d n e)
known-reading c d n e = omega arith

pub known-more : (c d : ℕ) (ns : List ℕ) (e : LoadHistory) → known_at c e ≤ known_at c (read_from d ns e)
known-more c d [] e = omega arith
known-more c d (n ∷ ns) e = let a = known-more c (d + 1) ns (reading d n e) in let b = known-reading c d n e in omega arith

-- one reading more
pub AreReadings-push : (now : Option (List ℕ)) (e : LoadHistory) (c : ℕ) (ns : List ℕ) (n : ℕ) → AreReadings now e c ns → IsReading now e (c + length ns) n → AreReadings now e c (ns ++ n ∷ [])
AreReadings-push now e c [] n a r = (subst (λ (k : ℕ). IsReading now e k n) (omega arith) r, tt)
AreReadings-push now e c (m ∷ ns) n a r = (a.0, AreReadings-push now e (c + 1) ns n a.1 (subst (λ (k : ℕ). IsReading now e k n) (omega arith) r))

pub bases-push : (xs ns : List ℕ) (n k : ℕ) → length ns ≡ k → k < length xs → bases_of (take (k + 1) xs) (ns ++ n ∷ []) ≡ bases_of (take k xs) ns ++ (get_or xs k 0 - n) ∷ []
bases-push [] ns n k e h = absurd (omega arith)
bases-push (x ∷ xs) [] n zero e h = refl
bases-push (x ∷ xs) [] n (suc k) e h = absurd (omega arith)
bases-push (x ∷ xs) (m ∷ ns) n zero e h = absurd (omega arith)
bases-push (x ∷ xs) (m ∷ ns) n (suc k) e h = let q : suc (k + 1) ≡ suc k + 1 = omega arith in ap (λ (z : ℕ). bases_of (take z (x ∷ xs)) (m ∷ (ns ++ n ∷ []))) (sym q) ∙ ap (λ (z : List ℕ). (x - m) ∷ z) (bases-push xs ns n k (omega arith) (omega arith))

pub length-bases : (xs ns : List ℕ) → length xs ≡ length ns → length (bases_of xs ns) ≡ length xs
length-bases [] ns e = refl
length-bases (x ∷ xs) [] e = absurd (omega arith)
length-bases (x ∷ xs) (n ∷ ns) e = let r = length-bases xs ns (omega arith) in omega arith

-- one number of the loads of buckets, and one base, more is written
pub bucket-front : (l l' l0 : LoadsView) (bs : List ℕ) (k v : ℕ) → l ≡ record { bucket = bs ++ drop k l0.bucket; base = l0.base } → l' ≡ record { bucket = set l.bucket k v; base = l.base } → length bs ≡ k → k < length l0.bucket
    → l' ≡ record { bucket = (bs ++ v ∷ []) ++ drop (k + 1) l0.bucket; base = l0.base }
bucket-front l l' l0 bs k v is written e h =
    written ∙ (ap (λ (z : LoadsView). loads (set z.bucket k v) z.base) is ∙ ap (λ (z : List ℕ). loads z l0.base) (set-front bs l0.bucket k v 0 e h)) where
      loads : List ℕ → List ℕ → LoadsView
      loads bucket base = record { bucket = bucket; base = base }

pub base-front : (l l' l0 : LoadsView) (bs : List ℕ) (k v : ℕ) → l ≡ record { bucket = l0.bucket; base = bs ++ drop k l0.base } → l' ≡ record { bucket = l.bucket; base = set l.base k v } → length bs ≡ k → k < length l0.base
    → l' ≡ record { bucket = l0.bucket; base = (bs ++ v ∷ []) ++ drop (k + 1) l0.base }
base-front l l' l0 bs k v is written e h =
    written ∙ (ap (λ (z : LoadsView). loads z.bucket (set z.base k v)) is ∙ ap (λ (z : List ℕ). loads l0.bucket z) (set-front bs l0.base k v 0 e h)) where
      loads : List ℕ → List ℕ → LoadsView
      loads bucket base = record { bucket = bucket; base = base }

pub zeros-more : (k : ℕ) → ◌++◌ {A = ℕ} (replicate k 0) (0 ∷ []) ≡ replicate (k + 1) 0
zeros-more k = replicate-append-replicate k 1 0

-- a reading more of all
pub record Weighs (xs : List ℕ) (readings : List ℕ) (k : ℕ) (now : Option (List ℕ)) (e e' : LoadHistory) (l0 l : LoadsView) : Type 0 where
  pub count : length readings ≡ k
  pub history : e' ≡ read_from 0 readings e
  pub answers : AreReadings now e 0 readings
  pub loads : l ≡ record { bucket = l0.bucket; base = bases_of (take k xs) readings ++ drop k l0.base }

is_reading : (now now' : Option (List ℕ)) (e e' : LoadHistory) (c n : ℕ) → known_at c e ≤ known_at c e' → known_at c e' ≤ n → ReadsNow now c n now' → IsReading now e c n
is_reading None now' e e' c n a b r = omega arith
is_reading (Some l) now' e e' c n a b r = (omega arith, r.0)

pub weighs-more : (xs : List ℕ) (readings : List ℕ) (k n : ℕ) (now now1 now2 : Option (List ℕ)) (e e1 e2 : LoadHistory) (l0 l l' : LoadsView) → Weighs xs readings k now e e1 l0 l → k < length xs → length xs ≡ length l0.base → now1 ≡ now
    → e2 ≡ reading k n e1 → known_at k e1 ≤ n → ReadsNow now1 k n now2 → l' ≡ record { bucket = l.bucket; base = set l.base k (get_or xs k 0 - n) } → Weighs xs (readings ++ n ∷ []) (k + 1) now e e2 l0 l'
weighs-more xs readings k n now now1 now2 e e1 e2 l0 l l' w h long same history known reads written =
    let count = w.count in
    let size : length (bases_of (take k xs) readings) ≡ k = length-bases (take k xs) readings (length-take-le k xs (omega arith) ∙ sym w.count) ∙ length-take-le k xs (omega arith) in
    record {
      count = omega (arith, length-append readings (n ∷ []));
      history = history ∙ (ap (λ (z : LoadHistory). reading k n z) w.history ∙ (ap (λ (j : ℕ). reading j n (read_from 0 readings e)) (omega arith) ∙ sym (read_from-push 0 readings n e)));
      answers = AreReadings-push now e 0 readings n w.answers (subst (λ (j : ℕ). IsReading now e j n) (omega arith)
          (is_reading now now2 e e1 k n (subst (λ (z : LoadHistory). known_at k e ≤ known_at k z) (sym w.history) (known-more k 0 readings e)) known (subst (λ (z : Option (List ℕ)). ReadsNow z k n now2) same reads)));
      loads = base-front l l' l0 (bases_of (take k xs) readings) k (get_or xs k 0 - n) w.loads written size (omega arith)
          ∙ ap (λ (z : List ℕ). loads l0.bucket (z ++ drop (k + 1) l0.base)) (sym (bases-push xs readings n k w.count h));
    }
  where
    loads : List ℕ → List ℕ → LoadsView
    loads bucket base = record { bucket = bucket; base = base }

pub reads_same : (now : Option (List ℕ)) (c n : ℕ) (now' : Option (List ℕ)) → ReadsNow now c n now' → now' ≡ now
reads_same None c n now' r = r
reads_same (Some l) c n now' r = r.1

pub cores_same : (c : ℕ) (ns : List ℕ) (e : LoadHistory) → (read_from c ns e).cores ≡ e.cores
cores_same c [] e = refl
cores_same c (n ∷ ns) e = cores_same (c + 1) ns (reading c n e)

pub base-wide : (xs readings : List ℕ) (k : ℕ) (now : Option (List ℕ)) (e e' : LoadHistory) (l0 l : LoadsView) → Weighs xs readings k now e e' l0 l → k ≤ length xs → length xs ≡ length l0.base → length l.base ≡ length l0.base
base-wide xs readings k now e e' l0 l w h long =
    ap (λ (z : LoadsView). length z.base) w.loads
    ∙ omega (arith, length-append (bases_of (take k xs) readings) (drop k l0.base), length-bases (take k xs) readings (length-take-le k xs h ∙ sym w.count), length-take-le k xs h, length-drop k l0.base)

-- all are weighed
pub weighs-all : (xs readings : List ℕ) (k : ℕ) (now : Option (List ℕ)) (e e' : LoadHistory) (l0 l : LoadsView) → Weighs xs readings k now e e' l0 l → k ≡ length xs → length xs ≡ length l0.base → l ≡ record { bucket = l0.bucket; base = bases_of xs readings }
weighs-all xs readings k now e e' l0 l w h long =
    w.loads ∙ (ap (λ (z : List ℕ). loads l0.bucket (bases_of z readings ++ drop k l0.base)) (take_all k xs (omega arith))
    ∙ (ap (λ (z : List ℕ). loads l0.bucket (bases_of xs readings ++ z)) (drop_all k l0.base (omega arith))
    ∙ ap (λ (z : List ℕ). loads l0.bucket z) (append-nil (bases_of xs readings)))) where
      loads : List ℕ → List ℕ → LoadsView
      loads bucket base = record { bucket = bucket; base = base }

-- what is weighed is within the limits

bases-small : (xs ns : List ℕ) (m : ℕ) → ((k : ℕ) → get_or xs k 0 ≤ m) → (k : ℕ) → get_or (bases_of xs ns) k 0 ≤ m
bases-small [] ns m h k = omega arith
bases-small (x ∷ xs) [] m h k = omega arith
bases-small (x ∷ xs) (n ∷ ns) m h zero = let a = h 0 in omega arith
bases-small (x ∷ xs) (n ∷ ns) m h (suc k) = bases-small xs ns m (λ j. h (suc j)) k

all-small : (xs : List ℕ) → ((k : ℕ) → get_or xs k 0 ≤ MOST_COST * MOST_PACKETS) → All (λ l. l ≤ MOST_LOAD) xs
all-small xs h k d inside = let e = get_or_default xs k d 0 inside in let a = h k in omega arith

pub are_loads : (cores buckets : ℕ) (l : LoadsView) (xs readings : List ℕ) → l.base ≡ bases_of xs readings → length xs ≡ cores → length readings ≡ length xs → length l.bucket ≡ buckets → ((b : ℕ) → get_or l.bucket b 0 ≤ MOST_COST * MOST_PACKETS) → ((c : ℕ) → get_or xs c 0 ≤ MOST_COST * MOST_PACKETS) → AreLoads cores buckets l
are_loads cores buckets l xs readings e wide same deep small few = record {
  buckets_are = deep;
  cores_are = ap (λ (z : List ℕ). length z) e ∙ (length-bases xs readings (sym same) ∙ wide);
  load = all-small l.bucket small;
  base = subst (λ (z : List ℕ). All (λ n. n ≤ MOST_LOAD) z) (sym e) (all-small (bases_of xs readings) (bases-small xs readings (MOST_COST * MOST_PACKETS) few));
}
