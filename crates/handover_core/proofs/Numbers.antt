-- The numbers of a machine in memory.
use Rattle.std.proofs.Common.{◌≡◌, ℕ, zero, suc, ◌+◌, ◌-◌, ◌*◌, ◌^◌, ◌<◌, ◌≤◌, List, [], ◌∷◌, length, map, take, get_or, Bool, false, if◌then◌else◌, refl, sym, ap, ◌∙◌, subst, arith, add-one, zero-add}
use Rattle.std.proofs.Math.Nat.{mul-le-mul_right}
use Rattle.std.proofs.lemmas.List.{length-map, take_more, take_all}
use Rattle.std.proofs.lemmas.List.Sums.{sum_by-cons, sum_by-append, count_by-le-length}
use Rattle.std.specs.Prelude.{count_by, sum_by, not, vec_len}
use Rattle.indirection.specs.Tries.{upto}
use Rattle.handover_core.specs.declared.worker_core.WorkerCore.{WorkerCore}
use Rattle.handover_core.specs.declared.machine.Machine.TheInside.{Inside}
use Rattle.handover_core.specs.State.{CoreState, MachineView, blank_core}
use Rattle.handover_core.specs.Machine.{end_sent_to, ends_left, steps_left}
use Rattle.handover_core.specs.Cores.{core_state}
use Rattle.handover_core.specs.Inside.{state_of, most_items, IsMachine}
use Rattle.handover_core.proofs.Machines.{duties-length}
use Rattle.handover_core.proofs.Rooms.{taken-length}

pub duties-everywhere : (i : Inside) (b : ℕ) (xs : List WorkerCore) → IsMachine i → xs ≡ i.cores.items → b < length i.buckets.items → (c : ℕ) (d : WorkerCore) → c < length xs → b < length (get_or xs c d).duties.items
duties-everywhere i b xs m e l c d lc = let n = duties-length i m c d (let f = ap (λ (z : List WorkerCore). length z) e in omega arith) in
    subst (λ (z : List WorkerCore). b < length (get_or z c d).duties.items) (sym e) (omega arith)

pub queued-more : (xs : List WorkerCore) (i : ℕ) (d : WorkerCore) → i < length xs
    → sum_by (λ (core : CoreState). length core.queue) (map core_state (take i xs)) + length (get_or xs i d).queue.items ≤ sum_by (λ (core : CoreState). length core.queue) (map core_state xs)
queued-more [] i d l = absurd (omega arith)
queued-more (x ∷ xs) zero d l = let e = sum_by-cons (λ (core : CoreState). length core.queue) (core_state x) (map core_state xs) in omega arith
queued-more (x ∷ xs) (suc i) d l =
    let e = sum_by-cons (λ (core : CoreState). length core.queue) (core_state x) (map core_state xs) in
    let f = sum_by-cons (λ (core : CoreState). length core.queue) (core_state x) (map core_state (take i xs)) in
    let g = queued-more xs i d (omega arith) in omega arith

sum-bound : {A : Type 0} (f : A → ℕ) (d : A) (bound : ℕ) (xs : List A) → ((i : ℕ) → i < length xs → f (get_or xs i d) ≤ bound) → sum_by f xs ≤ length xs * bound
sum-bound f d bound [] h = omega arith
sum-bound f d bound (x ∷ xs) h =
    let e = sum_by-cons f x xs in
    let g = sum-bound f d bound xs (λ i l. h (suc i) (omega arith)) in
    let k = h 0 (omega arith) in
    let z : suc (length xs) * bound ≡ bound + length xs * bound = omega arith in
    omega arith

-- all queues together are short
pub queued-few : (i : Inside) → IsMachine i → sum_by (λ (core : CoreState). length core.queue) (map core_state i.cores.items) ≤ 256 * most_items i
queued-few i m =
    let n = length-map i.cores.items core_state in
    let s = sum-bound (λ (core : CoreState). length core.queue) blank_core (most_items i) (map core_state i.cores.items) (λ c l. let t = taken-length (state_of i) c m.sound in omega arith) in
    let f = m.few_cores in
    let g : length (map core_state i.cores.items) ≤ 256 = omega arith in
    let k = mul-le-mul_right (most_items i) g in omega arith

-- the Ends that are left, by the marks of the cores
count-push : (p : ℕ → Bool) (n : ℕ) → count_by p (upto (suc n)) ≡ count_by p (upto n) + (if p n then 1 else 0)
count-push p n = let e = sum_by-append (λ x. if p x then 1 else 0) (upto n) (n ∷ []) in e ∙ omega arith

count-take : (xs : List Bool) (n : ℕ) → n < length xs → count_by not (take (suc n) xs) ≡ count_by not (take n xs) + (if not (get_or xs n false) then 1 else 0)
count-take xs n l =
    ap (λ (k : ℕ). count_by not (take k xs)) (sym (add-one n))
    ∙ (ap (λ (z : List Bool). count_by not z) (take_more xs n false l)
    ∙ (sum_by-append (λ (x : Bool). if not x then 1 else 0) (take n xs) (get_or xs n false ∷ [])
    ∙ ap (λ (k : ℕ). count_by not (take n xs) + k) (zero-add (if not (get_or xs n false) then 1 else 0))))

count-upto : (xs : List Bool) (q : ℕ → Bool) (n : ℕ) → n ≤ length xs → ((c : ℕ) → c < n → get_or xs c false ≡ q c) → count_by not (take n xs) ≡ count_by (λ c. not (q c)) (upto n)
count-upto xs q zero l h = refl
count-upto xs q (suc n) l h =
    count-take xs n (omega arith)
    ∙ (ap (λ (k : ℕ). k + (if not (get_or xs n false) then 1 else 0)) (count-upto xs q n (omega arith) (λ c k. h c (omega arith)))
    ∙ (ap (λ (b : Bool). count_by (λ c. not (q c)) (upto n) + (if not b then 1 else 0)) (h n (omega arith))
    ∙ sym (count-push (λ c. not (q c)) n)))

pub ends-are : (i : Inside) → IsMachine i → count_by not i.ends.items ≡ ends_left (state_of i)
ends-are i m =
    let n = length-map i.cores.items core_state in
    let k = m.ended in
    ap (count_by not) (sym (take_all (length i.cores.items) i.ends.items (omega arith)))
    ∙ (count-upto i.ends.items (end_sent_to (state_of i)) (length i.cores.items) (omega arith) m.ends
    ∙ ap (λ (k : ℕ). count_by (λ c. not (end_sent_to (state_of i) c)) (upto k)) (sym n))

-- all of it fits
pub record AreSmall (i : Inside) (ends queued : ℕ) : Type 0 where
  pub queue : queued < 2 ^ 43
  pub sends : 2 * ((vec_len i.packets - i.sent) + i.moves + ends) + queued < 2 ^ 63
  pub all : 2 * ((vec_len i.packets - i.sent) + i.moves + ends) + queued + 2 * (i.first_moves + vec_len i.buckets) < 2 ^ 64

pub are-small : (i : Inside) (ends queued : ℕ) → IsMachine i → ends ≡ count_by not i.ends.items → queued ≡ sum_by (λ (core : CoreState). length core.queue) (map core_state i.cores.items) → AreSmall i ends queued
are-small i ends queued m e q =
    let a = queued-few i m in let b = m.sound.shaped.few in let c = m.moves in let d = m.few_cores in let f = m.few_buckets in let g = m.moved in
    let h = count_by-le-length not i.ends.items in let k = m.ended in
    let x = i.packets.ok in let y = i.buckets.ok in
    record { queue = omega arith; sends = omega arith; all = omega arith }

pub steps-are : (i : Inside) (v : MachineView) (ends queued : ℕ) → IsMachine i → state_of i ≡ v → ends ≡ count_by not i.ends.items → queued ≡ sum_by (λ (core : CoreState). length core.queue) (map core_state i.cores.items)
    → 2 * ((vec_len i.packets - i.sent) + i.moves + ends) + queued + 2 * (i.first_moves + vec_len i.buckets) - i.claims - i.releases ≡ steps_left v
steps-are i v ends queued m e a b =
    let c = ends-are i m in let x = i.packets.ok in let y = i.buckets.ok in
    let z : 2 * ((vec_len i.packets - i.sent) + i.moves + ends) + queued + 2 * (i.first_moves + vec_len i.buckets) - i.claims - i.releases ≡ steps_left (state_of i) = omega arith in
    z ∙ ap steps_left e
