-- A new machine is in its first state.
use Rattle.std.proofs.Common.{◌≡◌, ℕ, ◌+◌, ◌-◌, ◌^◌, ◌<◌, ◌≤◌, List, [], length, map, get_or, Bool, false, refl, sym, ap, ◌∙◌, subst, Some, arith}
use Rattle.std.proofs.lemmas.List.{length-map, length-replicate, get_or-replicate}
use Rattle.std.specs.Prelude.{replicate, All, vec_capacity, slice_index}
use Rattle.indirection.specs.Views.{TableView}
use Rattle.indirection.specs.Tables.{IsTable}
use Rattle.handover_core.specs.declared.bucket_state.BucketState.{BucketState}
use Rattle.handover_core.specs.declared.machine.Machine.TheInside.{Inside}
use Rattle.handover_core.specs.State.{Away, CoreState, MachineView, first_state, sent_of}
use Rattle.handover_core.specs.Runs.{IsMade, IsStart}
use Rattle.handover_core.specs.Cores.{core_state, HaveRoom}
use Rattle.handover_core.specs.Sound.{IsSound}
use Rattle.handover_core.specs.Inside.{state_of, most_items, IsMachine}
use Rattle.handover_core.proofs.First.{first-sound}
use Rattle.handover_core.proofs.Nexts.{same-state}

-- a memory in which nothing has happened
pub record IsNew (n : Inside) (t : TableView) (cores : ℕ) : Type 0 where
  pub table : IsTable t
  pub same : cores ≡ t.cores
  pub few : length n.packets.items ≤ 2 ^ 32 - 1
  pub packets : All (λ b. b < length t.owners) n.packets.items
  pub fewest : 2 ≤ n.pool
  pub most : n.pool ≤ 4096
  pub moves : n.moves ≤ length n.packets.items
  pub first_moves : n.first_moves ≡ n.moves
  pub sent : n.sent ≡ 0
  pub free : n.free ≡ n.pool
  pub claims : n.claims ≡ 0
  pub releases : n.releases ≡ 0
  pub dispatched : n.dispatched.items ≡ []
  pub ending : n.ending ≡ false
  pub buckets : n.buckets.items ≡ map (λ owner. record { owner = owner; start = 0; seen = 0; word = 1; shelf = Some 0 }) t.owners
  pub workers : map core_state n.cores.items ≡ replicate cores (record { queue = []; taken = []; hands = replicate (length n.buckets.items) Away })
  pub counts : n.sent_of.items ≡ replicate (length n.buckets.items) 0
  pub ends : n.ends.items ≡ replicate cores false
  pub room : length n.packets.items + n.moves + cores ≤ vec_capacity n.dispatched
  pub rooms : HaveRoom (n.pool + 1) (length n.packets.items + n.moves + cores) n.cores.items

new-made : (n : Inside) (t : TableView) (cores : ℕ) → IsNew n t cores → IsMade t.owners cores n.packets.items n.pool
new-made n t cores x = record {
  owned = rw x.same x.table.owners;
  sorted = x.packets;
  few = let a = x.few in omega arith;
  cells = let a = x.fewest in omega arith;
}

buckets-length : (n : Inside) (t : TableView) (cores : ℕ) → IsNew n t cores → length n.buckets.items ≡ length t.owners
buckets-length n t cores x = ap (λ (z : List BucketState). length z) x.buckets ∙ length-map t.owners (λ (o : ℕ). let b : BucketState = record { owner = o; start = 0; seen = 0; word = 1; shelf = Some 0 } in b)

pub new-state : (n : Inside) (t : TableView) (cores : ℕ) → IsNew n t cores → state_of n ≡ first_state t.owners cores n.packets.items n.pool n.moves
new-state n t cores x = same-state (state_of n) (first_state t.owners cores n.packets.items n.pool n.moves) refl refl x.first_moves x.sent refl x.free x.claims x.releases x.dispatched x.buckets
    (x.workers ∙ ap (λ (k : ℕ). replicate cores (let s : CoreState = record { queue = []; taken = []; hands = replicate k Away } in s)) (buckets-length n t cores x))

pub new-start : (n : Inside) (t : TableView) (cores : ℕ) → IsNew n t cores → IsStart (state_of n)
new-start n t cores x = record { owners = t.owners; cores = cores; packets = n.packets.items; pool = n.pool; moves = n.moves; made = new-made n t cores x; is = new-state n t cores x }

pub new-machine : (n : Inside) (t : TableView) (cores : ℕ) → IsNew n t cores → IsMachine n
new-machine n t cores x =
    let c : length n.cores.items ≡ cores = sym (length-map n.cores.items core_state) ∙ (ap (λ (z : List CoreState). length z) x.workers ∙ length-replicate cores (let s : CoreState = record { queue = []; taken = []; hands = replicate (length n.buckets.items) Away } in s)) in
    let e : state_of n ≡ first_state t.owners cores n.packets.items n.pool n.moves = new-state n t cores x in
    let most : most_items n ≡ length n.packets.items + n.moves + cores = (let a = x.first_moves in omega arith) in
    record {
      sound = subst IsSound (sym e) (first-sound t.owners cores n.packets.items n.pool n.moves (new-made n t cores x));
      counts = λ b l. ap (λ (z : List ℕ). slice_index z b) x.counts ∙ (get_or-replicate (length n.buckets.items) b 0 0 l ∙ ap (λ (m : MachineView). sent_of m b) (sym e));
      counted = ap (λ (z : List ℕ). length z) x.counts ∙ length-replicate (length n.buckets.items) 0;
      ending = x.ending ∙ rw x.dispatched refl;
      ends = λ k l. ap (λ (z : List Bool). get_or z k false) x.ends ∙ (get_or-replicate cores k false false (omega arith) ∙ rw x.dispatched refl);
      ended = ap (λ (z : List Bool). length z) x.ends ∙ (length-replicate cores false ∙ sym c);
      moved = let a = x.first_moves in omega arith;
      moves = let a = x.first_moves in let b = x.moves in omega arith;
      room = let a = x.room in omega arith;
      rooms = rw most x.rooms;
      few_cores = let a = x.table.cores in let b = x.same in omega arith;
      few_buckets = let a = x.table.buckets in let b = buckets-length n t cores x in omega arith;
      few_cells = let a = x.most in omega arith;
    }
