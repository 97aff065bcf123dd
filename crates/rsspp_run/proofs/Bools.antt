-- Where the machine is finished, its test says so.
use Rattle.std.proofs.Common.{suc, ◌≡◌, ℕ, ◌<◌, ◌&&◌, Bool, true, List, [], ◌∷◌, ◌++◌, length, get_or, refl, sym, ap, subst, arith, eq-eqb}
use Rattle.std.specs.List.{list_all}
use Rattle.std.proofs.lemmas.List.{append-nil}
use Rattle.handover_core.specs.declared.item.Item.{Item}
use Rattle.handover_core.specs.State.{Away, MachineView, blank_core, core_at}
use Rattle.handover_core.specs.Machine.{has_end, is_empty}
use Rattle.handover_core.specs.Promises.{IsFinished}
use Rattle.handover_core.specs.Sound.{IsSound}
use Rattle.rsspp_run.specs.Serial.{is_away, is_idle, is_finished}
use Rattle.rsspp_run.proofs.Overs.{end_in}

list_all_by : {A : Type 0} (p : A → Bool) (xs : List A) (z : A) → ((c : ℕ) → c < length xs → p (get_or xs c z) ≡ true) → list_all p xs ≡ true
list_all_by p [] z h = refl
list_all_by p (x ∷ xs) z h = (λ i. h 0 (omega arith) i && list_all_by p xs z (λ c lt. h (suc c) (omega arith)) i)

-- a core that got its End and has nothing on its queue has taken it
pub end_taken : (m : MachineView) → IsSound m → IsFinished m → (c : ℕ) → c < length m.cores → has_end (core_at m c).taken ≡ true
end_taken m sound over c near =
    let taken = (core_at m c).taken in
    subst (λ (z : List Item). has_end z ≡ true) (append-nil taken)
    (subst (λ (q : List Item). has_end (taken ++ q) ≡ true) (over.queues c near) (subst (λ (z : List Item). has_end z ≡ true) (sym (sound.streamed.streams c)) (end_in c m.dispatched (over.ends c near))))

idle_at : (m : MachineView) → IsSound m → IsFinished m → (c : ℕ) → c < length m.cores → is_idle (core_at m c) ≡ true
idle_at m sound over c near =
    let all : list_all is_away (core_at m c).hands ≡ true = list_all_by is_away (core_at m c).hands Away (λ b lt. ap is_away (over.hands c b near (let n = sound.shaped.hands c near in omega arith))) in
    (λ i. end_taken m sound over c near i && (is_empty (over.queues c near i) && all i))

pub finished_true : (m : MachineView) → IsSound m → IsFinished m → is_finished m ≡ true
finished_true m sound over = (λ i. eq-eqb m.sent (length m.packets) over.sent i && list_all_by is_idle m.cores blank_core (λ c lt. idle_at m sound over c lt) i)
