-- What a machine in memory knows of its cores and buckets.
use Rattle.std.proofs.Common.{◌≡◌, ℕ, ◌<◌, List, length, map, get_or, sym, ap, ◌∙◌, arith}
use Rattle.std.proofs.lemmas.List.{length-map, get_or_default}
use Rattle.std.proofs.Math.ListN.{get_or-map}
use Rattle.std.specs.Prelude.{vec_len}
use Rattle.handover_core.specs.declared.machine.Machine.TheInside.{Inside}
use Rattle.handover_core.specs.declared.worker_core.WorkerCore.{WorkerCore}
use Rattle.handover_core.specs.declared.duty.Duty.{Duty}
use Rattle.handover_core.specs.State.{Away, CoreState, MachineView, blank_core, hand_at, hand_in}
use Rattle.handover_core.specs.Cores.{hand_of_duty, core_state}
use Rattle.handover_core.specs.Inside.{state_of, IsMachine}

-- a core as the state sees it
pub core-at : (cores : List WorkerCore) (c : ℕ) (d : WorkerCore) → c < length cores → get_or (map core_state cores) c blank_core ≡ core_state (get_or cores c d)
core-at cores c d l = get_or_default (map core_state cores) c blank_core (core_state d) (let n = length-map cores core_state in omega arith) ∙ get_or-map core_state cores c d

pub duties-length : (i : Inside) → IsMachine i → (c : ℕ) (d : WorkerCore) → c < length i.cores.items → length (get_or i.cores.items c d).duties.items ≡ length i.buckets.items
duties-length i m c d l =
    let n = length-map i.cores.items core_state in
    sym (length-map (get_or i.cores.items c d).duties.items hand_of_duty) ∙ (ap (λ (s : CoreState). length s.hands) (sym (core-at i.cores.items c d l)) ∙ m.sound.shaped.hands c (omega arith))

-- a duty as the state sees it
pub duty-at : (cores : List WorkerCore) (c b : ℕ) (w : WorkerCore) (d : Duty) → c < length cores → b < length w.duties.items → w ≡ get_or cores c w → d ≡ get_or w.duties.items b d → hand_of_duty d ≡ hand_in (get_or (map core_state cores) c blank_core) b
duty-at cores c b w d l lb i j =
    ap hand_of_duty j ∙ (sym (get_or-map hand_of_duty w.duties.items b d)
    ∙ (get_or_default (map hand_of_duty w.duties.items) b (hand_of_duty d) Away (let n = length-map w.duties.items hand_of_duty in omega arith)
    ∙ (ap (λ (x : WorkerCore). hand_in (core_state x) b) i ∙ ap (λ (s : CoreState). hand_in s b) (sym (core-at cores c w l)))))

pub within-cores : (i : Inside) (v : MachineView) (c : ℕ) → state_of i ≡ v → c < length v.cores → c < length i.cores.items
within-cores i v c e l = let n = length-map i.cores.items core_state in let f = ap (λ (m : MachineView). length m.cores) e in omega arith

pub within-buckets : (i : Inside) (v : MachineView) (b : ℕ) → state_of i ≡ v → b < length v.buckets → b < length i.buckets.items
within-buckets i v b e l = let f = ap (λ (m : MachineView). length m.buckets) e in omega arith

pub duty-index : (i : Inside) (c b : ℕ) (w : WorkerCore) → IsMachine i → c < length i.cores.items → b < length i.buckets.items → w ≡ get_or i.cores.items c w → b < length w.duties.items
duty-index i c b w m lc lb e = let n = duties-length i m c w lc in let f = ap (λ (x : WorkerCore). length x.duties.items) e in omega arith

pub duty-hand : (i : Inside) (v : MachineView) (c b : ℕ) (w : WorkerCore) (d : Duty) → IsMachine i → state_of i ≡ v → c < length i.cores.items → b < length i.buckets.items → w ≡ get_or i.cores.items c w → d ≡ get_or w.duties.items b d → hand_of_duty d ≡ hand_at v c b
duty-hand i v c b w d m e lc lb iw id = duty-at i.cores.items c b w d lc (duty-index i c b w m lc lb iw) iw id ∙ ap (λ (m : MachineView). hand_at m c b) e

-- the numbers of cores and buckets that the code counts to
pub counted-cores : (i : Inside) (v : MachineView) (n : ℕ) → state_of i ≡ v → n ≡ vec_len i.cores → n ≡ length v.cores
counted-cores i v n e a = let k = i.cores.ok in let x = length-map i.cores.items core_state in let f = ap (λ (m : MachineView). length m.cores) e in omega arith

pub counted-buckets : (i : Inside) (v : MachineView) (n : ℕ) → state_of i ≡ v → n ≡ vec_len i.buckets → n ≡ length v.buckets
counted-buckets i v n e a = let k = i.buckets.ok in let f = ap (λ (m : MachineView). length m.buckets) e in omega arith
