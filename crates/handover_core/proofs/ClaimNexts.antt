-- A machine in memory after a claim or a release.
use Rattle.std.proofs.Common.{◌≡◌, ℕ, zero, suc, ◌+◌, ◌*◌, ◌^◌, ◌<◌, ◌≤◌, List, ◌∷◌, length, map, get_or, set, true, if◌then◌else◌, refl, sym, ap, ◌∙◌, subst, Some, None, arith}
use Rattle.std.proofs.lemmas.List.{length-map, length-set, map-set}
use Rattle.std.specs.Prelude.{slice_index, Option}
use Rattle.handover_core.specs.declared.event.Event.TheVariants.{Claim, Release}
use Rattle.handover_core.specs.declared.bucket_state.BucketState.{BucketState}
use Rattle.handover_core.specs.declared.worker_core.WorkerCore.{WorkerCore}
use Rattle.handover_core.specs.declared.machine.Machine.TheInside.{Inside}
use Rattle.handover_core.specs.State.{Hand, Away, Waiting, Held, Leaving, CoreState, MachineView, blank_bucket, bucket_at, core_at, hand_at, sent_of, set_core, set_bucket, set_hand}
use Rattle.handover_core.specs.Machine.{enabled, step, leave, has_end, waiting_places, claimed, released, shelf_done}
use Rattle.handover_core.specs.Bucket.{places_from, Fits, Awaits, Idle}
use Rattle.handover_core.specs.Cores.{core_state, HaveRoom, HasRoom}
use Rattle.handover_core.specs.Sound.{bucket_snapshot}
use Rattle.handover_core.specs.Inside.{state_of, IsMachine}
use Rattle.handover_core.proofs.Enabled.{is_enabled}
use Rattle.handover_core.proofs.Cases.{hand-waits}
use Rattle.handover_core.proofs.Pieces.{length-places_from}
use Rattle.handover_core.proofs.Steps.{keeps-sound}
use Rattle.handover_core.proofs.Streamed.{sent_of-le}
use Rattle.handover_core.proofs.Stages.{at_owner, waiting-home}
use Rattle.handover_core.proofs.Rooms.{rooms-updated}
use Rattle.handover_core.proofs.DispatcherNexts.{read-of}
use Rattle.handover_core.proofs.WorkerNexts.{front-is}
use Rattle.handover_core.proofs.Nexts.{same-state, IsNext, IsQuiet, quiet-next}

-- a hand and an entry change
hand-next : (i n : Inside) (c b : ℕ) (w x : WorkerCore) (st : BucketState) (h : Hand) (word : ℕ) (shelf : Option ℕ) (free claims releases : ℕ) (next : MachineView) → IsMachine i → c < length i.cores.items → b < length i.buckets.items
    → w ≡ get_or i.cores.items c w → st ≡ get_or i.buckets.items b st → core_state x ≡ set_hand (core_state w) b h → ((q t : ℕ) → HasRoom q t w → HasRoom q t x)
    → next ≡ set_bucket (set_core (record (state_of i) { free = free; claims = claims; releases = releases }) c (set_hand (core_at (state_of i) c) b h)) b (record (bucket_at (state_of i) b) { word = word; shelf = shelf })
    → IsQuiet i n → n.free ≡ free → n.claims ≡ claims → n.releases ≡ releases → n.buckets.items ≡ set i.buckets.items b (record st { word = word; shelf = shelf }) → n.cores.items ≡ set i.cores.items c x → IsNext i n next
hand-next i n c b w x st h word shelf free claims releases next m l lb iw is e r t quiet a d f buckets cores =
    let v : MachineView = state_of i in
    let s : st ≡ bucket_at v b = read-of i.buckets.items b st blank_bucket lb is in
    let cs : map core_state n.cores.items ≡ set (map core_state i.cores.items) c (set_hand (core_at v c) b h) =
    ap (map core_state) cores ∙ (map-set core_state i.cores.items c x ∙ ap (λ (y : CoreState). set (map core_state i.cores.items) c y) (e ∙ ap (λ (y : CoreState). set_hand y b h) (sym (front-is i c w l iw)))) in
    let bs : n.buckets.items ≡ set i.buckets.items b (record (bucket_at v b) { word = word; shelf = shelf }) =
    buckets ∙ ap (λ (y : BucketState). set i.buckets.items b (let z : BucketState = record y { word = word; shelf = shelf } in z)) s in
    let w2 : MachineView = set_bucket (set_core (record v { free = free; claims = claims; releases = releases }) c (set_hand (core_at v c) b h)) b (record (bucket_at v b) { word = word; shelf = shelf }) in
    quiet-next i n next m quiet (ap (λ (y : MachineView). y.packets) t) (ap (λ (y : MachineView). y.sent) t) (ap (λ (y : MachineView). y.dispatched) t)
    (same-state (state_of n) w2 (ap (λ v. v.items) quiet.packets) quiet.pool quiet.first_moves quiet.sent quiet.moves a d f (ap (λ v. v.items) quiet.dispatched) bs cs ∙ sym t)
    (λ q t h. subst (HaveRoom q t) (sym cores) (rooms-updated q t i.cores.items c w x l iw (r q t) h))
    (ap (λ (z : List WorkerCore). length z) cores ∙ length-set i.cores.items c x) (ap (λ (z : List BucketState). length z) buckets ∙ length-set i.buckets.items b (record st { word = word; shelf = shelf }))

-- what a claim reads
head-is : (first count f : ℕ) (rest : List ℕ) → places_from first count ≡ f ∷ rest → first ≡ f
head-is first zero f rest e = absurd (cc)
head-is first (suc n) f rest e = cc

pub record IsClaim (i : Inside) (c b first count : ℕ) (st : BucketState) : Type 0 where
  pub core : c < length i.cores.items
  pub bucket : b < length i.buckets.items
  pub head : slice_index (places_from first count) 0 ≡ first
  pub done : shelf_done st.shelf + count < 2 ^ 32
  pub free : i.free + count ≤ i.pool
  pub claims : i.claims + 1 < 2 ^ 64

claims-few : (i : Inside) → IsMachine i → i.claims + i.releases ≤ 2 * (i.first_moves + length i.buckets.items)
claims-few i m = let t = m.sound.counted.turns in let v = m.sound.counted.moves in omega arith

pub claim-reads : (i : Inside) (c b first count : ℕ) (st : BucketState) → IsMachine i → enabled (state_of i) (Claim c b) ≡ true → st ≡ get_or i.buckets.items b st → Waiting (places_from first count) ≡ hand_at (state_of i) c b → IsClaim i c b first count st
claim-reads i c b first count st m h e hand =
    let v : MachineView = state_of i in
    let f = is_enabled v (Claim c b) h in
    let n = length-map i.cores.items core_state in
    let w = hand-waits (hand_at v c b) (bucket_at v b).word f.2 in
    let k : places_from first count ≡ w.0 ∷ w.1 = let x = hand ∙ w.2 in cc in
    let hd : first ≡ w.0 = head-is first count w.0 w.1 k in
    let g = m.sound.buckets.buckets b f.1 in
    let a = waiting-home (bucket_snapshot v b) c w.0 w.1 w.2 w.3 g.stage g.is_in in
    let fit = subst (λ (x : Hand). Fits (Awaits (bucket_at v b).start (sent_of v b)) ((bucket_snapshot v b).ended (bucket_at v b).owner) x ((bucket_snapshot v b).queue (bucket_at v b).owner))
    (subst (λ (x : ℕ). hand_at v x b ≡ Waiting (places_from first count)) a.0 (sym hand)) (at_owner (bucket_snapshot v b) (Awaits (bucket_at v b).start (sent_of v b)) (λ x. Idle) a.1.fits) in
    let s : st ≡ bucket_at v b = read-of i.buckets.items b st blank_bucket f.1 e in
    let sh : shelf_done st.shelf ≡ (bucket_at v b).start = ap (λ (y : BucketState). shelf_done y.shelf) s ∙ ap shelf_done a.1.shelf in
    let j : count ≡ fit.0 = sym (length-places_from first count) ∙ (ap (λ (z : List ℕ). length z) fit.4 ∙ length-places_from (bucket_at v b).start fit.0) in
    record {
      core = let x = f.0 in omega arith;
      bucket = f.1;
      head = ap (λ (z : List ℕ). slice_index z 0) k ∙ sym hd;
      done = let x = fit.3 in let y = sent_of-le v b m.sound.shaped.sent in let z = m.sound.shaped.few in let u = m.sound.shaped.sent in omega arith;
      free = let x = (keeps-sound v (Claim c b) h m.sound).counted.cells in let y = ap (λ (z : Hand). length (waiting_places z)) hand in let z = length-places_from first count in omega arith;
      claims = let x = claims-few i m in let y = m.moves in let z = m.sound.shaped.few in let u = m.few_buckets in omega arith;
    }

claimed-as : (v : MachineView) (c b first count : ℕ) (ps : List ℕ) → slice_index ps 0 ≡ first → length ps ≡ count
    → claimed v c b ps ≡ set_bucket (set_core (record v { free = v.free + count; claims = v.claims + 1 }) c (set_hand (core_at v c) b (if has_end (core_at v c).taken then leave (Held first (shelf_done (bucket_at v b).shelf + count)) else Held first (shelf_done (bucket_at v b).shelf + count)))) b
    (record (bucket_at v b) { word = 2 * first + 2; shelf = None })
claimed-as v c b first count ps e f = rw (e, f) refl

pub claim-next : (i n : Inside) (c b first count done : ℕ) (w x : WorkerCore) (st su : BucketState) → IsMachine i → enabled (state_of i) (Claim c b) ≡ true → IsClaim i c b first count st → st ≡ get_or i.buckets.items b st → su ≡ get_or i.buckets.items b su → Waiting (places_from first count) ≡ hand_at (state_of i) c b
    → done ≡ shelf_done st.shelf + count → w ≡ get_or i.cores.items c w → core_state x ≡ set_hand (core_state w) b (if has_end (core_state w).taken then leave (Held first done) else Held first done) → ((q t : ℕ) → HasRoom q t w → HasRoom q t x)
    → IsQuiet i n → n.free ≡ i.free + count → n.claims ≡ i.claims + 1 → n.releases ≡ i.releases → n.buckets.items ≡ set i.buckets.items b (record su { word = 2 * first + 2; shelf = None }) → n.cores.items ≡ set i.cores.items c x → IsNext i n (step (state_of i) (Claim c b))
claim-next i n c b first count done w x st su m h k is iu hand d iw e r quiet fr cl re bs cs =
    let v : MachineView = state_of i in
    let s : st ≡ bucket_at v b = read-of i.buckets.items b st blank_bucket k.bucket is in
    let g : done ≡ shelf_done (bucket_at v b).shelf + count = d ∙ ap (λ (y : BucketState). shelf_done y.shelf + count) s in
    let y : Hand = if has_end (core_at v c).taken then leave (Held first (shelf_done (bucket_at v b).shelf + count)) else Held first (shelf_done (bucket_at v b).shelf + count) in
    let z : core_state x ≡ set_hand (core_state w) b y = e ∙ (ap (λ (q : CoreState). set_hand (core_state w) b (if has_end q.taken then leave (Held first done) else Held first done)) (sym (front-is i c w k.core iw))
    ∙ ap (λ (q : ℕ). set_hand (core_state w) b (if has_end (core_at v c).taken then leave (Held first q) else Held first q)) g) in
    hand-next i n c b w x su y (2 * first + 2) None (i.free + count) (i.claims + 1) i.releases (step v (Claim c b)) m k.core k.bucket iw iu z r
    (ap (λ (q : Hand). claimed v c b (waiting_places q)) (sym hand) ∙ claimed-as v c b first count (places_from first count) k.head (length-places_from first count)) quiet fr cl re bs cs

pub record IsRelease (i : Inside) (c b : ℕ) : Type 0 where
  pub core : c < length i.cores.items
  pub bucket : b < length i.buckets.items
  pub releases : i.releases + 1 < 2 ^ 64

pub release-reads : (i : Inside) (c b : ℕ) → IsMachine i → enabled (state_of i) (Release c b) ≡ true → IsRelease i c b
release-reads i c b m h =
    let f = is_enabled (state_of i) (Release c b) h in
    let n = length-map i.cores.items core_state in
    record {
      core = let x = f.0 in omega arith;
      bucket = f.1;
      releases = let x = claims-few i m in let y = m.moves in let z = m.sound.shaped.few in let u = m.few_buckets in omega arith;
    }

pub release-next : (i n : Inside) (c b start done : ℕ) (w x : WorkerCore) (su : BucketState) → IsMachine i → enabled (state_of i) (Release c b) ≡ true → su ≡ get_or i.buckets.items b su → Leaving start done ≡ hand_at (state_of i) c b
    → w ≡ get_or i.cores.items c w → core_state x ≡ set_hand (core_state w) b Away → ((q t : ℕ) → HasRoom q t w → HasRoom q t x)
    → IsQuiet i n → n.free ≡ i.free → n.claims ≡ i.claims → n.releases ≡ i.releases + 1 → n.buckets.items ≡ set i.buckets.items b (record su { word = 2 * done + 1; shelf = Some done }) → n.cores.items ≡ set i.cores.items c x → IsNext i n (step (state_of i) (Release c b))
release-next i n c b start done w x su m h iu hand iw e r quiet fr cl re bs cs =
    let v : MachineView = state_of i in
    let k = release-reads i c b m h in
    hand-next i n c b w x su Away (2 * done + 1) (Some done) i.free i.claims (i.releases + 1) (step v (Release c b)) m k.core k.bucket iw iu e r
    (ap (λ (q : Hand). released v c b q) (sym hand)) quiet fr cl re bs cs
