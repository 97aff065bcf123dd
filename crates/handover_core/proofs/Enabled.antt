-- The test whether an event is enabled says what it should.
use Rattle.std.proofs.Common.{◌≡◌, ◌≢◌, ℕ, ◌+◌, ◌*◌, ◌<◌, length, Bool, true, false, ◌&&◌, eqb, ltb, eq-eqb, refl}
use Rattle.std.specs.Prelude.{not}
use Rattle.std.proofs.lemmas.Bool.{ltb-true, eqb-true}
use Rattle.handover_core.specs.declared.event.Event.{Event}
use Rattle.handover_core.specs.declared.event.Event.TheVariants.{Send, Look, Move, Place, SendEnd, Take, Claim, Release}
use Rattle.handover_core.specs.State.{MachineView, bucket_at, core_at, hand_at, sent_of}
use Rattle.handover_core.specs.Machine.{is_empty, waits_for, is_leaving, end_sent, end_sent_to, enabled}

-- when an event is enabled, as facts
abbrev pub IsEnabled : MachineView → Event → Type 0
IsEnabled m Send = (m.sent < length m.packets) × (0 < m.free)
IsEnabled m (Look b) = b < length m.buckets
IsEnabled m (Move b to) =
    (b < length m.buckets) × (to < length m.cores) × (to ≢ (bucket_at m b).owner) × ((bucket_at m b).start < sent_of m b)
    × ((bucket_at m b).seen ≡ 2 * (bucket_at m b).start + 2) × (0 < m.free) × (0 < m.moves) × (end_sent m ≡ false)
IsEnabled m (Place b to) = (b < length m.buckets) × (to < length m.cores) × (to ≢ (bucket_at m b).owner) × (sent_of m b ≡ 0) × (end_sent m ≡ false)
IsEnabled m (SendEnd c) = (c < length m.cores) × (m.sent ≡ length m.packets) × (end_sent_to m c ≡ false)
IsEnabled m (Take c) = (c < length m.cores) × (is_empty (core_at m c).queue ≡ false)
IsEnabled m (Claim c b) = (c < length m.cores) × (b < length m.buckets) × (waits_for (hand_at m c b) (bucket_at m b).word ≡ true)
IsEnabled m (Release c b) = (c < length m.cores) × (b < length m.buckets) × (is_leaving (hand_at m c b) ≡ true)

pub both : (a b : Bool) → (a && b) ≡ true → (a ≡ true) × (b ≡ true)
both true true e = (refl, refl)
both true false e = absurd (cc)
both false true e = absurd (cc)
both false false e = absurd (cc)

pub not-true : (a : Bool) → not a ≡ true → a ≡ false
not-true true e = absurd (cc)
not-true false e = refl

pub not_same : (a b : ℕ) → not (eqb a b) ≡ true → a ≢ b
not_same a b e i = let f = not-true (eqb a b) e in let t = eq-eqb a b i in cc

pub is_enabled : (m : MachineView) (e : Event) → enabled m e ≡ true → IsEnabled m e
is_enabled m Send e = let f = both (ltb m.sent (length m.packets)) (ltb 0 m.free) e in (ltb-true _ _ f.0, ltb-true _ _ f.1)
is_enabled m (Look b) e = ltb-true b (length m.buckets) e
is_enabled m (Move b to) e =
    let f1 = both (ltb b (length m.buckets)) _ e in
    let f2 = both (ltb to (length m.cores)) _ f1.1 in
    let f3 = both (not (eqb to (bucket_at m b).owner)) _ f2.1 in
    let f4 = both (ltb (bucket_at m b).start (sent_of m b)) _ f3.1 in
    let f5 = both (eqb (bucket_at m b).seen (2 * (bucket_at m b).start + 2)) _ f4.1 in
    let f6 = both (ltb 0 m.free) _ f5.1 in
    let f7 = both (ltb 0 m.moves) _ f6.1 in
    (ltb-true _ _ f1.0, ltb-true _ _ f2.0, not_same _ _ f3.0, ltb-true _ _ f4.0, eqb-true _ _ f5.0, ltb-true _ _ f6.0, ltb-true _ _ f7.0, not-true (end_sent m) f7.1)
is_enabled m (Place b to) e =
    let f1 = both (ltb b (length m.buckets)) _ e in
    let f2 = both (ltb to (length m.cores)) _ f1.1 in
    let f3 = both (not (eqb to (bucket_at m b).owner)) _ f2.1 in
    let f4 = both (eqb (sent_of m b) 0) _ f3.1 in
    (ltb-true _ _ f1.0, ltb-true _ _ f2.0, not_same _ _ f3.0, eqb-true _ _ f4.0, not-true (end_sent m) f4.1)
is_enabled m (SendEnd c) e =
    let f1 = both (ltb c (length m.cores)) _ e in
    let f2 = both (eqb m.sent (length m.packets)) _ f1.1 in
    (ltb-true _ _ f1.0, eqb-true _ _ f2.0, not-true (end_sent_to m c) f2.1)
is_enabled m (Take c) e = let f = both (ltb c (length m.cores)) _ e in (ltb-true _ _ f.0, not-true (is_empty (core_at m c).queue) f.1)
is_enabled m (Claim c b) e =
    let f1 = both (ltb c (length m.cores)) _ e in
    let f2 = both (ltb b (length m.buckets)) _ f1.1 in
    (ltb-true _ _ f1.0, ltb-true _ _ f2.0, f2.1)
is_enabled m (Release c b) e =
    let f1 = both (ltb c (length m.cores)) _ e in
    let f2 = both (ltb b (length m.buckets)) _ f1.1 in
    (ltb-true _ _ f1.0, ltb-true _ _ f2.0, f2.1)
