-- What was sent and what is left to send are together what was to be sent at first.
use Rattle.std.proofs.Common.{ℕ, ◌+◌, ◌-◌, [], ◌∷◌, ◌++◌, length, map, arith}
use Rattle.std.proofs.lemmas.List.{length-set}
use Rattle.std.proofs.Common.{length-append}
use Rattle.std.specs.Prelude.{slice_index, slice_set}
use Rattle.handover_core.specs.declared.item.Kind.TheVariants.{Mark}
use Rattle.handover_core.specs.declared.item.Item.{Item}
use Rattle.handover_core.specs.declared.item.Item.TheVariants.{Of, End}
use Rattle.handover_core.specs.declared.event.Event.TheVariants.{Send, Look, Move, Place, SendEnd, Take, Claim, Release}
use Rattle.handover_core.specs.Dispatch.{kind_at}
use Rattle.handover_core.specs.State.{Away, CoreState, MachineView, bucket_at, core_at, hand_at, sent_of, set_core, set_hand}
use Rattle.handover_core.specs.Machine.{step, met, freed, leave, claimed_hand}
use Rattle.handover_core.proofs.Enabled.{IsEnabled}
use Rattle.handover_core.specs.Sound.{IsShaped, ArePosts}
use Rattle.handover_core.proofs.Cases.{by_take, by_claim, by_release}
use Rattle.handover_core.proofs.EndsLeft.{ends_left, ends-item, ends-end, ends-core, ends-free, ends-sent}

pub send-posts : (m : MachineView) → IsShaped m → IsEnabled m Send → ArePosts m → ArePosts (step m Send)
unfolding ends_left
send-posts m h i t =
    let q : ℕ = slice_index m.packets m.sent in
    let o : ℕ = (bucket_at m q).owner in
    let m1 : MachineView = record m { sent = m.sent + 1; free = m.free - 1 } in
    let x : Item = Of (kind_at (bucket_at m q).start (sent_of m q)) q (sent_of m q) in
    let f = ends-item m1 o (kind_at (bucket_at m q).start (sent_of m q)) q (sent_of m q) in
    let g = ends-sent m (m.sent + 1) (m.free - 1) m.moves in
    let n = length-append m.dispatched (record { core = o; item = x } ∷ []) in
    let k = length-set m.cores o (record (core_at m o) { queue = (core_at m o).queue ++ x ∷ [] }) in
    let l = i.0 in omega arith

pub look-posts : (m : MachineView) (b : ℕ) → ArePosts m → ArePosts (step m (Look b))
look-posts m b t = t

pub place-posts : (m : MachineView) (b to : ℕ) → ArePosts m → ArePosts (step m (Place b to))
place-posts m b to t = t

pub move-posts : (m : MachineView) (b to : ℕ) → IsEnabled m (Move b to) → ArePosts m → ArePosts (step m (Move b to))
unfolding ends_left
move-posts m b to i t =
    let o : ℕ = (bucket_at m b).owner in
    let m1 : MachineView = record m { free = m.free - 1; moves = m.moves - 1 } in
    let x : Item = Of Mark b (sent_of m b) in
    let f = ends-item m1 o Mark b (sent_of m b) in
    let g = ends-sent m m.sent (m.free - 1) (m.moves - 1) in
    let n = length-append m.dispatched (record { core = o; item = x } ∷ []) in
    let k = length-set m.cores o (record (core_at m o) { queue = (core_at m o).queue ++ x ∷ [] }) in
    let l = i.6 in omega arith

pub send_end-posts : (m : MachineView) (c : ℕ) → IsEnabled m (SendEnd c) → ArePosts m → ArePosts (step m (SendEnd c))
unfolding ends_left
send_end-posts m c i t =
    let f = ends-end m c i.0 i.2 in
    let n = length-append m.dispatched (record { core = c; item = End } ∷ []) in
    let k = length-set m.cores c (record (core_at m c) { queue = (core_at m c).queue ++ End ∷ [] }) in
    omega arith

core-posts : (m : MachineView) (c : ℕ) (x : CoreState) (free claims releases : ℕ) → ArePosts m → ArePosts (set_core (record m { free = free; claims = claims; releases = releases }) c x)
unfolding ends_left
core-posts m c x free claims releases t =
    let f = ends-core (record m { free = free; claims = claims; releases = releases }) c x in
    let g = ends-free m free claims releases in
    let k = length-set m.cores c x in
    omega arith

pub take-posts : (m : MachineView) (c : ℕ) → IsEnabled m (Take c) → ArePosts m → ArePosts (step m (Take c))
take-posts m c i t = by_take ArePosts m c i.1
    (λ kind b place q e. core-posts m c (record { queue = q; taken = (core_at m c).taken ++ Of kind b place ∷ []; hands = slice_set (core_at m c).hands b (met (hand_at m c b) kind place) }) (m.free + freed (hand_at m c b) kind) m.claims m.releases t)
    (λ q e. core-posts m c (record { queue = q; taken = (core_at m c).taken ++ End ∷ []; hands = map leave (core_at m c).hands }) m.free m.claims m.releases t)

pub claim-posts : (m : MachineView) (c b : ℕ) → IsEnabled m (Claim c b) → ArePosts m → ArePosts (step m (Claim c b))
claim-posts m c b i t = by_claim ArePosts m c b i.2
    (λ first rest e w. core-posts m c (set_hand (core_at m c) b (claimed_hand m c b (first ∷ rest))) (m.free + length (first ∷ rest)) (m.claims + 1) m.releases t)

pub release-posts : (m : MachineView) (c b : ℕ) → IsEnabled m (Release c b) → ArePosts m → ArePosts (step m (Release c b))
release-posts m c b i t = by_release ArePosts m c b i.2 (λ start done e. core-posts m c (set_hand (core_at m c) b Away) m.free m.claims (m.releases + 1) t)
