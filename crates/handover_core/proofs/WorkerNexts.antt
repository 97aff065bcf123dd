-- A machine in memory after an event of a worker.
use Rattle.std.proofs.Common.{◌≡◌, ℕ, zero, suc, ◌+◌, ◌^◌, ◌<◌, ◌≤◌, List, [], ◌∷◌, ◌++◌, length, map, get_or, set, Bool, true, false, if◌then◌else◌, refl, sym, ap, ◌∙◌, subst, arith, add-zero}
use Rattle.std.proofs.lemmas.List.{length-map, length-set, get_or_default, map-set}
use Rattle.std.specs.Prelude.{vec_capacity, vec_len}
use Rattle.handover_core.specs.declared.item.Kind.{Kind}
use Rattle.handover_core.specs.declared.item.Kind.TheVariants.{First, Next, Mark}
use Rattle.handover_core.specs.declared.item.Item.{Item}
use Rattle.handover_core.specs.declared.item.Item.TheVariants.{Of, End}
use Rattle.handover_core.specs.declared.duty.Duty.{Duty}
use Rattle.handover_core.specs.declared.duty.Duty.TheVariants.{Nothing, Parks, Holds, Leaves}
use Rattle.handover_core.specs.declared.event.Event.TheVariants.{Take}
use Rattle.handover_core.specs.declared.worker_core.WorkerCore.{WorkerCore}
use Rattle.handover_core.specs.declared.machine.Machine.TheInside.{Inside}
use Rattle.handover_core.specs.State.{Hand, Waiting, Held, CoreState, MachineView, core_at, set_core}
use Rattle.handover_core.specs.Machine.{enabled, step, took, freed, is_empty}
use Rattle.handover_core.specs.Bucket.{Piece, piece, nexts, opening, places_from, BucketSnapshot, Task, Idle, Awaits, Works, Finishes, Fits, home, working, passing, over, Stage, IsIn}
use Rattle.handover_core.specs.Cores.{hand_of_duty, CanMeet, core_state, HaveRoom, HasRoom, core_took, cells_freed, CanTake}
use Rattle.handover_core.specs.Sound.{pieces, bucket_snapshot, AreOf}
use Rattle.handover_core.specs.Inside.{state_of, most_items, IsMachine}
use Rattle.handover_core.proofs.Enabled.{is_enabled}
use Rattle.handover_core.proofs.Cases.{by_take}
use Rattle.std.specs.Prelude.{◌==◌}
use Rattle.indirection.proofs.Tests.{by_test}
use Rattle.handover_core.proofs.Pieces.{length-places_from}
use Rattle.handover_core.proofs.Frames.{pieces-here}
use Rattle.handover_core.proofs.Steps.{keeps-sound}
use Rattle.handover_core.proofs.Streamed.{sent_of-le}
use Rattle.handover_core.proofs.Machines.{core-at, duty-index, duty-at}
use Rattle.handover_core.proofs.Rooms.{taken-length, rooms-updated}
use Rattle.handover_core.proofs.Nexts.{same-state, IsNext, IsQuiet, quiet-next}

-- Take in one piece
step-take : (v : MachineView) (c : ℕ) → is_empty (core_at v c).queue ≡ false → step v (Take c) ≡ set_core (record v { free = v.free + cells_freed (core_at v c) (core_at v c).queue }) c (core_took (core_at v c) (core_at v c).queue)
step-take v c e = by_take (λ w. w ≡ set_core (record v { free = v.free + cells_freed (core_at v c) (core_at v c).queue }) c (core_took (core_at v c) (core_at v c).queue)) v c e
    (λ kind b place q i. subst (λ (z : List Item). took v c (Of kind b place ∷ q) ≡ set_core (record v { free = v.free + cells_freed (core_at v c) z }) c (core_took (core_at v c) z)) (sym i) refl)
    (λ q i. subst (λ (z : List Item). took v c (End ∷ q) ≡ set_core (record v { free = v.free + cells_freed (core_at v c) z }) c (core_took (core_at v c) z)) (sym i)
    (ap (λ (n : ℕ). let w : MachineView = set_core (record v { free = n }) c (core_took (core_at v c) (End ∷ q)) in w) (sym (add-zero v.free))))

-- what a core can meet

-- the task of a core, case by case
by_task : (v : BucketSnapshot) (g : Stage) (c : ℕ) (P : Type 0) → IsIn g v → (Fits Idle (v.ended c) (v.hand c) (v.queue c) → P) → (Fits (Awaits v.start v.sent) (v.ended c) (v.hand c) (v.queue c) → P)
    → (Fits (Works v.start v.sent) (v.ended c) (v.hand c) (v.queue c) → P) → ((r : ℕ) → v.start ≤ v.sent → Fits (Finishes r v.start) (v.ended c) (v.hand c) (v.queue c) → P) → P
by_task v home c P i a b w d = by_test c v.owner (λ t. Fits (if t then Awaits v.start v.sent else Idle) (v.ended c) (v.hand c) (v.queue c) → P) (λ _ f. b f) (λ _ f. a f) (i.fits c)
by_task v working c P i a b w d = by_test c v.owner (λ t. Fits (if t then Works v.start v.sent else Idle) (v.ended c) (v.hand c) (v.queue c) → P) (λ _ f. w f) (λ _ f. a f) (i.fits c)
by_task v (passing p r) c P i a b w d = by_test c v.owner (λ t. Fits (if t then Awaits v.start v.sent else (if c == p then Finishes r v.start else Idle)) (v.ended c) (v.hand c) (v.queue c) → P) (λ _ f. b f)
    (λ _ f. by_test c p (λ t. Fits (if t then Finishes r v.start else Idle) (v.ended c) (v.hand c) (v.queue c) → P) (λ _ f. d r i.bounds.2 f) (λ _ f. a f) f) (i.fits c)
by_task v over c P i a b w d = a (i.fits c)

next-run : (p n place : ℕ) (rest : List Piece) → piece Next place ∷ rest ≡ nexts p n → (place ≡ p) × (0 < n)
next-run p zero place rest q = absurd (cc)
next-run p (suc n) place rest q = (let k : piece Next place ≡ piece Next p = cc in ap (λ (x : Piece). x.place) k, omega arith)

next-mark : (p n top place : ℕ) (rest : List Piece) → piece Next place ∷ rest ≡ nexts p n ++ piece Mark top ∷ [] → 0 < n
next-mark p zero top place rest q = absurd (let k : piece Next place ≡ piece Mark top = cc in let e : Next ≡ Mark = ap (λ (x : Piece). x.kind) k in cc)
next-mark p (suc n) top place rest q = omega arith

not-opening : (p n place : ℕ) (rest : List Piece) → piece Next place ∷ rest ≡ opening p n → ⊥
not-opening p zero place rest q = cc
not-opening p (suc n) place rest q = let k : piece Next place ≡ piece First p = cc in let e : Next ≡ First = ap (λ (x : Piece). x.kind) k in cc

same-places : (a n b k : ℕ) → 0 < k → places_from a n ≡ places_from b k → (a ≡ b) × (n ≡ k)
same-places a n b zero l e = absurd (omega arith)
same-places a zero b (suc k) l e = absurd (cc)
same-places a (suc n) b (suc k) l e = (cc, let x = sym (length-places_from a (suc n)) ∙ (ap (λ (z : List ℕ). length z) e ∙ length-places_from b (suc k)) in omega arith)

parks-next : (r : Task) (e : Bool) (first count place top : ℕ) (rest : List Piece) → (s : ℕ) → r ≡ Awaits s top → Fits (Awaits s top) e (Waiting (places_from first count)) (piece Next place ∷ rest) → (place ≡ first + count) × (count + 1 ≤ top)
parks-next r e first count place top rest s i f =
    let x = same-places first count s f.0 f.2 f.4 in
    let y = next-run (s + f.0) f.1 place rest f.5 in
    let a = x.0 in let b = x.1 in let c = y.0 in let d = y.1 in let g = f.3 in
    (omega arith, omega arith)

parks-fits : (v : BucketSnapshot) (g : Stage) (c first count place : ℕ) (rest : List Piece) → IsIn g v → v.hand c ≡ Waiting (places_from first count) → v.queue c ≡ piece Next place ∷ rest → (place ≡ first + count) × (count + 1 ≤ v.sent)
parks-fits v g c first count place rest i h q = by_task v g c ((place ≡ first + count) × (count + 1 ≤ v.sent)) i
    (λ f. absurd (subst (λ (x : Hand). Fits Idle (v.ended c) x (v.queue c)) h f))
    (λ f. parks-next (Awaits v.start v.sent) (v.ended c) first count place v.sent rest v.start refl (subst (λ (z : List Piece). Fits (Awaits v.start v.sent) (v.ended c) (Waiting (places_from first count)) z) q (subst (λ (x : Hand). Fits (Awaits v.start v.sent) (v.ended c) x (v.queue c)) h f)))
    (λ f. absurd (subst (λ (x : Hand). Fits (Works v.start v.sent) (v.ended c) x (v.queue c)) h f))
    (λ r l f. absurd (subst (λ (x : Hand). Fits (Finishes r v.start) (v.ended c) x (v.queue c)) h f))

holds-fits : (v : BucketSnapshot) (g : Stage) (c start done place : ℕ) (rest : List Piece) → IsIn g v → v.hand c ≡ Held start done → v.queue c ≡ piece Next place ∷ rest → done + 1 ≤ v.sent
holds-fits v g c start done place rest i h q = by_task v g c (done + 1 ≤ v.sent) i
    (λ f. absurd (subst (λ (x : Hand). Fits Idle (v.ended c) x (v.queue c)) h f))
    (λ f. absurd (subst (λ (x : Hand). Fits (Awaits v.start v.sent) (v.ended c) x (v.queue c)) h f))
    (λ f. let k = subst (λ (z : List Piece). Fits (Works v.start v.sent) (v.ended c) (Held start done) z) q (subst (λ (x : Hand). Fits (Works v.start v.sent) (v.ended c) x (v.queue c)) h f) in
    let y = (next-run done k.0 place rest k.4).1 in let z = k.3 in omega arith)
    (λ r l f. let k = subst (λ (z : List Piece). Fits (Finishes r v.start) (v.ended c) (Held start done) z) q (subst (λ (x : Hand). Fits (Finishes r v.start) (v.ended c) x (v.queue c)) h f) in
    let y = next-mark done k.0 v.start place rest k.4 in let z = k.3 in omega arith)

meet : (v : BucketSnapshot) (g : Stage) (c place : ℕ) (rest : List Piece) (d : Duty) (kind : Kind) → IsIn g v → v.sent < 2 ^ 32 → hand_of_duty d ≡ v.hand c → v.queue c ≡ piece kind place ∷ rest → CanMeet d kind place
meet v g c place rest Nothing kind i l h q = tt
meet v g c place rest (Leaves start done) kind i l h q = tt
meet v g c place rest (Parks first count) First i l h q = tt
meet v g c place rest (Parks first count) Mark i l h q = tt
meet v g c place rest (Parks first count) Next i l h q = let f = parks-fits v g c first count place rest i (sym h) q in let x = f.1 in (f.0, omega arith)
meet v g c place rest (Holds start done) First i l h q = tt
meet v g c place rest (Holds start done) Mark i l h q = tt
meet v g c place rest (Holds start done) Next i l h q = let f = holds-fits v g c start done place rest i (sym h) q in omega arith

can-take : (i : Inside) (c : ℕ) (w : WorkerCore) (qs : List Item) → IsMachine i → c < length i.cores.items → w ≡ get_or i.cores.items c w → (core_at (state_of i) c).queue ≡ qs → is_empty qs ≡ false → CanTake w qs
can-take i c w [] m l iw e ne = absurd (cc)
can-take i c w (End ∷ q) m l iw e ne = tt
can-take i c w (Of kind b place ∷ q) m l iw e ne =
    let v : MachineView = state_of i in
    let lb = (subst (λ (z : List Item). AreOf (length v.buckets) z) e (m.sound.shaped.items c)).0 in
    let ld = duty-index i c b w m l lb iw in
    let g = m.sound.buckets.buckets b lb in (
      ld,
      λ d. meet (bucket_snapshot v b) g.stage c place (pieces b q) (get_or w.duties.items b d) kind g.is_in
          (let x = sent_of-le v b m.sound.shaped.sent in let y = m.sound.shaped.few in let z = m.sound.shaped.sent in omega arith)
          (duty-at i.cores.items c b w (get_or w.duties.items b d) l ld iw (get_or_default w.duties.items b d (get_or w.duties.items b d) ld))
          (ap (pieces b) e ∙ pieces-here b kind place q),
    )

-- the queue and the list of a core
pub front-is : (i : Inside) (c : ℕ) (w : WorkerCore) → c < length i.cores.items → w ≡ get_or i.cores.items c w → core_at (state_of i) c ≡ core_state w
front-is i c w l e = core-at i.cores.items c w l ∙ ap core_state (sym e)

pub take-can : (i : Inside) (c : ℕ) (w : WorkerCore) → IsMachine i → enabled (state_of i) (Take c) ≡ true → w ≡ get_or i.cores.items c w → CanTake w w.queue.items
take-can i c w m h e =
    let f = is_enabled (state_of i) (Take c) h in
    let n = length-map i.cores.items core_state in
    let l : c < length i.cores.items = (let x = f.0 in omega arith) in
    let q : (core_at (state_of i) c).queue ≡ w.queue.items = ap (λ (s : CoreState). s.queue) (front-is i c w l e) in
    can-take i c w w.queue.items m l e q (subst (λ (z : List Item). is_empty z ≡ false) q f.1)

some-item : (xs : List Item) → is_empty xs ≡ false → 0 < length xs
some-item [] e = absurd (cc)
some-item (x ∷ xs) e = omega arith

pub take-room : (i : Inside) (c : ℕ) (w : WorkerCore) → IsMachine i → enabled (state_of i) (Take c) ≡ true → w ≡ get_or i.cores.items c w → vec_len w.taken < vec_capacity w.taken
take-room i c w m h e =
    let f = is_enabled (state_of i) (Take c) h in
    let n = length-map i.cores.items core_state in
    let l : c < length i.cores.items = (let x = f.0 in omega arith) in
    let q = ap (λ (s : CoreState). length s.queue) (front-is i c w l e) in
    let t = ap (λ (s : CoreState). length s.taken) (front-is i c w l e) in
    let s = some-item (core_at (state_of i) c).queue f.1 in
    let k = taken-length (state_of i) c m.sound in
    let r = subst (λ (x : WorkerCore). HasRoom (i.pool + 1) (most_items i) x) (sym e) (m.rooms c w l) in
    let a = r.list in
    let b = w.taken.ok in omega arith

-- the free cells after a Take are no more than there are
pub take-fits : (i : Inside) (c freed : ℕ) (w : WorkerCore) → IsMachine i → enabled (state_of i) (Take c) ≡ true → w ≡ get_or i.cores.items c w → freed ≡ cells_freed (core_state w) w.queue.items → i.free + freed ≤ i.pool
take-fits i c freed w m h e x =
    let v : MachineView = state_of i in
    let f = is_enabled v (Take c) h in
    let n = length-map i.cores.items core_state in
    let l : c < length i.cores.items = (let x = f.0 in omega arith) in
    let s = keeps-sound v (Take c) h m.sound in
    let k = ap (λ (w : MachineView). w.free) (step-take v c f.1) in
    let p = ap (λ (w : MachineView). w.pool) (step-take v c f.1) in
    let y = ap (λ (s : CoreState). cells_freed s s.queue) (front-is i c w l e) in
    let z = s.counted.cells in omega arith

pub take-next : (i n : Inside) (c freed : ℕ) (w x : WorkerCore) → IsMachine i → enabled (state_of i) (Take c) ≡ true → w ≡ get_or i.cores.items c w → freed ≡ cells_freed (core_state w) w.queue.items → core_state x ≡ core_took (core_state w) w.queue.items
    → ((q t : ℕ) → HasRoom q t w → HasRoom q t x) → IsQuiet i n → n.free ≡ i.free + freed → n.claims ≡ i.claims → n.releases ≡ i.releases → n.buckets ≡ i.buckets → n.cores.items ≡ set i.cores.items c x → IsNext i n (step (state_of i) (Take c))
take-next i n c freed w x m h e y z r quiet free claims releases buckets cores =
    let v : MachineView = state_of i in
    let f = is_enabled v (Take c) h in
    let k = length-map i.cores.items core_state in
    let l : c < length i.cores.items = (let x = f.0 in omega arith) in
    let t = step-take v c f.1 in
    let fr : core_at v c ≡ core_state w = front-is i c w l e in
    let g : freed ≡ cells_freed (core_at v c) (core_at v c).queue = y ∙ sym (ap (λ (s : CoreState). cells_freed s s.queue) fr) in
    let cs : map core_state n.cores.items ≡ set (map core_state i.cores.items) c (core_took (core_at v c) (core_at v c).queue) =
    ap (map core_state) cores ∙ (map-set core_state i.cores.items c x ∙ ap (λ (s : CoreState). set (map core_state i.cores.items) c s) (z ∙ sym (ap (λ (s : CoreState). core_took s s.queue) fr))) in
    quiet-next i n (step v (Take c)) m quiet (ap (λ (w : MachineView). w.packets) t) (ap (λ (w : MachineView). w.sent) t) (ap (λ (w : MachineView). w.dispatched) t)
    (same-state (state_of n) (set_core (record v { free = v.free + cells_freed (core_at v c) (core_at v c).queue }) c (core_took (core_at v c) (core_at v c).queue))
    (ap (λ v. v.items) quiet.packets) quiet.pool quiet.first_moves quiet.sent quiet.moves (free ∙ ap (λ (n : ℕ). i.free + n) g) claims releases (ap (λ v. v.items) quiet.dispatched) (ap (λ v. v.items) buckets) cs ∙ sym t)
    (λ q t h. subst (HaveRoom q t) (sym cores) (rooms-updated q t i.cores.items c w x l e (r q t) h))
    (ap (λ (z : List WorkerCore). length z) cores ∙ length-set i.cores.items c x) (ap (λ v. length v.items) buckets)
