-- A machine in memory after an event.
use Rattle.std.proofs.Common.{◌≡◌, ℕ, ◌+◌, ◌<◌, ◌≤◌, length, true, false, refl, sym, ap, ◌∙◌, subst, arith}
use Rattle.std.specs.Prelude.{slice_index, slice_index_or, vec_capacity}
use Rattle.handover_core.specs.declared.event.Event.{Event}
use Rattle.handover_core.specs.declared.machine.Machine.TheInside.{Inside}
use Rattle.handover_core.specs.State.{MachineView, sent_of}
use Rattle.handover_core.specs.Machine.{enabled, end_sent, end_sent_to, step}
use Rattle.handover_core.specs.Cores.{HaveRoom}
use Rattle.handover_core.specs.Sound.{IsSound}
use Rattle.handover_core.specs.Inside.{state_of, most_items, IsMachine}
use Rattle.handover_core.proofs.Steps.{keeps-sound}

-- a state by its parts
pub same-state : (v w : MachineView) → v.packets ≡ w.packets → v.pool ≡ w.pool → v.first_moves ≡ w.first_moves → v.sent ≡ w.sent → v.moves ≡ w.moves → v.free ≡ w.free → v.claims ≡ w.claims → v.releases ≡ w.releases
    → v.dispatched ≡ w.dispatched → v.buckets ≡ w.buckets → v.cores ≡ w.cores → v ≡ w
same-state v w a b c d e f g h i j k = rw (a, b, c, d, e, f, g, h, i, j, k) refl

-- what an event leaves, and what it knows anew
pub record IsNext (i n : Inside) (w : MachineView) : Type 0 where
  pub state : state_of n ≡ w
  pub packets : length n.packets.items ≡ length i.packets.items
  pub pool : n.pool ≡ i.pool
  pub first_moves : n.first_moves ≡ i.first_moves
  pub counts : (b : ℕ) → b < length i.buckets.items → slice_index n.sent_of.items b ≡ sent_of w b
  pub counted : length n.sent_of.items ≡ length i.sent_of.items
  pub ending : n.ending ≡ end_sent w
  pub ends : (c : ℕ) → c < length i.cores.items → slice_index_or n.ends.items c false ≡ end_sent_to w c
  pub ended : length n.ends.items ≡ length i.ends.items
  pub moves : n.moves ≤ i.moves
  pub room : vec_capacity n.dispatched ≡ vec_capacity i.dispatched
  pub rooms : (q t : ℕ) → HaveRoom q t i.cores.items → HaveRoom q t n.cores.items
  pub cores : length n.cores.items ≡ length i.cores.items
  pub buckets : length n.buckets.items ≡ length i.buckets.items

pub next-machine : (i n : Inside) (e : Event) → IsMachine i → enabled (state_of i) e ≡ true → IsNext i n (step (state_of i) e) → IsMachine n
next-machine i n e m h x =
    let a = x.packets in let b = x.first_moves in let c = x.cores in let d = x.buckets in
    let most : most_items n ≡ most_items i = omega arith in
    record {
      sound = subst IsSound (sym x.state) (keeps-sound (state_of i) e h m.sound);
      counts = λ b l. x.counts b (omega arith) ∙ ap (λ (w : MachineView). sent_of w b) (sym x.state);
      counted = let f = x.counted in let g = m.counted in omega arith;
      ending = x.ending ∙ ap end_sent (sym x.state);
      ends = λ c l. x.ends c (omega arith) ∙ ap (λ (w : MachineView). end_sent_to w c) (sym x.state);
      ended = let f = x.ended in let g = m.ended in omega arith;
      moved = let f = x.moves in let g = m.moved in omega arith;
      moves = let f = m.moves in omega arith;
      room = let f = m.room in let g = x.room in omega arith;
      rooms = rw (x.pool, most) (x.rooms (i.pool + 1) (most_items i) m.rooms);
      few_cores = let f = m.few_cores in omega arith;
      few_buckets = let f = m.few_buckets in omega arith;
      few_cells = let f = m.few_cells in let g = x.pool in omega arith;
    }

-- nothing was sent
pub record IsQuiet (i n : Inside) : Type 0 where
  pub packets : n.packets ≡ i.packets
  pub pool : n.pool ≡ i.pool
  pub first_moves : n.first_moves ≡ i.first_moves
  pub sent : n.sent ≡ i.sent
  pub sent_of : n.sent_of ≡ i.sent_of
  pub moves : n.moves ≡ i.moves
  pub dispatched : n.dispatched ≡ i.dispatched
  pub ending : n.ending ≡ i.ending
  pub ends : n.ends ≡ i.ends

pub quiet-next : (i n : Inside) (w : MachineView) → IsMachine i → IsQuiet i n → w.packets ≡ i.packets.items → w.sent ≡ i.sent → w.dispatched ≡ i.dispatched.items → state_of n ≡ w
    → ((q t : ℕ) → HaveRoom q t i.cores.items → HaveRoom q t n.cores.items) → length n.cores.items ≡ length i.cores.items → length n.buckets.items ≡ length i.buckets.items → IsNext i n w
quiet-next i n w m x p s d state rooms cores buckets = record {
  state = state;
  packets = ap (λ v. length v.items) x.packets;
  pool = x.pool;
  first_moves = x.first_moves;
  counts = λ b l. ap (λ v. slice_index v.items b) x.sent_of ∙ (m.counts b l ∙ rw (p, s) refl);
  counted = ap (λ v. length v.items) x.sent_of;
  ending = x.ending ∙ (m.ending ∙ rw d refl);
  ends = λ c l. ap (λ v. slice_index_or v.items c false) x.ends ∙ (m.ends c l ∙ rw d refl);
  ended = ap (λ v. length v.items) x.ends;
  moves = let e = x.moves in omega arith;
  room = ap (λ v. vec_capacity v) x.dispatched;
  rooms = rooms;
  cores = cores;
  buckets = buckets;
}
