-- What a worker's event does, by the item, the packets that wait or the table that it meets.
use Rattle.std.proofs.Common.{◌≡◌, ℕ, ◌+◌, ◌*◌, List, [], ◌∷◌, true, false, refl, sym, subst}
use Rattle.std.proofs.lemmas.Bool.{eqb-true}
use Rattle.handover_core.specs.declared.item.Kind.{Kind}
use Rattle.handover_core.specs.declared.item.Item.{Item}
use Rattle.handover_core.specs.declared.item.Item.TheVariants.{Of, End}
use Rattle.handover_core.specs.declared.event.Event.TheVariants.{Take, Claim, Release}
use Rattle.handover_core.specs.State.{Hand, Away, Waiting, Held, Leaving, MachineView, bucket_at, core_at, hand_at}
use Rattle.handover_core.specs.Machine.{is_empty, waits_for, is_leaving, step, took, claimed, released}

by_queue : (P : MachineView → Type 0) (m : MachineView) (c : ℕ) (xs : List Item) → is_empty xs ≡ false → ((kind : Kind) (b place : ℕ) (q : List Item) → xs ≡ Of kind b place ∷ q → P (took m c (Of kind b place ∷ q))) → ((q : List Item) → xs ≡ End ∷ q → P (took m c (End ∷ q))) → P (took m c xs)
by_queue P m c [] e item end = absurd (cc)
by_queue P m c (Of kind b place ∷ q) e item end = item kind b place q refl
by_queue P m c (End ∷ q) e item end = end q refl

pub by_take : (P : MachineView → Type 0) (m : MachineView) (c : ℕ) → is_empty (core_at m c).queue ≡ false
    → ((kind : Kind) (b place : ℕ) (q : List Item) → (core_at m c).queue ≡ Of kind b place ∷ q → P (took m c (Of kind b place ∷ q)))
    → ((q : List Item) → (core_at m c).queue ≡ End ∷ q → P (took m c (End ∷ q))) → P (step m (Take c))
by_take P m c e item end = by_queue P m c (core_at m c).queue e item end

by_hand : (P : List ℕ → Type 0) (h : Hand) (word : ℕ) → waits_for h word ≡ true → ((first : ℕ) (rest : List ℕ) → h ≡ Waiting (first ∷ rest) → word ≡ 2 * first + 1 → P (first ∷ rest)) → (waiting_places : Hand → List ℕ) → ((places : List ℕ) → waiting_places (Waiting places) ≡ places) → P (waiting_places h)
by_hand P Away word e f waiting_places is = absurd (cc)
by_hand P (Held a d) word e f waiting_places is = absurd (cc)
by_hand P (Leaving a d) word e f waiting_places is = absurd (cc)
by_hand P (Waiting []) word e f waiting_places is = absurd (cc)
by_hand P (Waiting (first ∷ rest)) word e f waiting_places is = subst P (sym (is (first ∷ rest))) (f first rest refl (eqb-true word (2 * first + 1) e))

pub by_claim : (P : MachineView → Type 0) (m : MachineView) (c b : ℕ) → waits_for (hand_at m c b) (bucket_at m b).word ≡ true
    → ((first : ℕ) (rest : List ℕ) → hand_at m c b ≡ Waiting (first ∷ rest) → (bucket_at m b).word ≡ 2 * first + 1 → P (claimed m c b (first ∷ rest))) → P (step m (Claim c b))
by_claim P m c b e f = by_hand (λ places. P (claimed m c b places)) (hand_at m c b) (bucket_at m b).word e f Rattle.handover_core.specs.Machine.waiting_places (λ places. refl)

by_leaving : (P : MachineView → Type 0) (m : MachineView) (c b : ℕ) (h : Hand) → is_leaving h ≡ true → ((start done : ℕ) → h ≡ Leaving start done → P (released m c b (Leaving start done))) → P (released m c b h)
by_leaving P m c b Away e f = absurd (cc)
by_leaving P m c b (Waiting places) e f = absurd (cc)
by_leaving P m c b (Held a d) e f = absurd (cc)
by_leaving P m c b (Leaving a d) e f = f a d refl

pub by_release : (P : MachineView → Type 0) (m : MachineView) (c b : ℕ) → is_leaving (hand_at m c b) ≡ true
    → ((start done : ℕ) → hand_at m c b ≡ Leaving start done → P (released m c b (Leaving start done))) → P (step m (Release c b))
by_release P m c b e f = by_leaving P m c b (hand_at m c b) e f

-- a hand that waits for its word
pub hand-waits : (h : Hand) (word : ℕ) → waits_for h word ≡ true → (first : ℕ) × (rest : List ℕ) × (h ≡ Waiting (first ∷ rest)) × (word ≡ 2 * first + 1)
hand-waits Away word e = absurd (cc)
hand-waits (Held a d) word e = absurd (cc)
hand-waits (Leaving a d) word e = absurd (cc)
hand-waits (Waiting []) word e = absurd (cc)
hand-waits (Waiting (first ∷ rest)) word e = (first, rest, refl, eqb-true word (2 * first + 1) e)
