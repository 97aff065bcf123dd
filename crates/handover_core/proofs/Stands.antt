-- Stands after a packet, a mark and a first owner.
use Rattle.std.proofs.Common.{◌≡◌, ◌≢◌, ℕ, ◌+◌, ◌-◌, ◌^◌, ◌<◌, ◌≤◌, if◌then◌else◌, refl, sym, subst, ⊎_elim, arith}
use Rattle.std.proofs.lemmas.Bool.{cases_eq}
use Rattle.indirection.proofs.Tests.{by_test}
use Rattle.handover_core.specs.declared.item.Kind.TheVariants.{First, Next, Mark}
use Rattle.handover_core.specs.Legal.{Stand, new, within, past, stand_by, Continues}
use Rattle.handover_core.specs.Dispatch.{kind_at}
use Rattle.handover_core.specs.Stands.{OwnerStand, OtherStand, AreStands}

pub AreStands-same : (o k s : ℕ) (st st' : ℕ → Stand) → AreStands o k s st → ((c : ℕ) → st' c ≡ st c) → AreStands o k s st'
AreStands-same o k s st st' p e = record { below = p.below; owner = rw e p.owner; others = λ c ne. rw e (p.others c ne) }

pub AreStands-send : (o k s : ℕ) (st st' : ℕ → Stand) → AreStands o k s st → st' o ≡ within (k + 1) → ((c : ℕ) → c ≢ o → st' c ≡ st c) → AreStands o (k + 1) s st'
AreStands-send o k s st st' p e f = let below = p.below in record { below = omega arith; owner = rw e (refl, omega arith); others = λ c ne. rw (f c ne) (p.others c ne) }

owner_of_other : (k s : ℕ) (st : Stand) → s < k → OtherStand s st → OwnerStand k k st
owner_of_other k s new h o = refl
owner_of_other k s (within n) h o = absurd o
owner_of_other k s (past n) h o = (refl, o.0, omega arith)

later : (k s : ℕ) (st : Stand) → s ≤ k → OtherStand s st → OtherStand k st
later k s new h o = tt
later k s (within n) h o = absurd o
later k s (past n) h o = (o.0, omega arith)

pub AreStands-mark : (o k s to : ℕ) (st st' : ℕ → Stand) → AreStands o k s st → s < k → o ≢ to → st' o ≡ past k → ((c : ℕ) → c ≢ o → st' c ≡ st c) → AreStands to k k st'
AreStands-mark o k s to st st' p h ne e f = record {
  below = omega arith;
  owner = let g : to ≢ o = λ q. ne (sym q) in rw (f to g) (owner_of_other k s (st to) h (p.others to g));
  others = λ c nc. ⊎_elim (λ (q : c ≡ o). subst (λ (x : ℕ). OtherStand k (st' x)) (sym q) (rw e (omega arith, omega arith))) (λ (g : c ≡ o → ⊥). rw (f c g) (later k s (st c) p.below (p.others c g))) (cases_eq c o);
}

other_of_owner : (k s : ℕ) (st : Stand) → k ≡ 0 → OwnerStand k s st → OtherStand s st
other_of_owner k s new h o = tt
other_of_owner k s (within n) h o = absurd (omega arith)
other_of_owner k s (past n) h o = absurd (omega arith)

owner_at_none : (k s : ℕ) (st : Stand) → k ≡ 0 → s ≤ k → OtherStand s st → OwnerStand k s st
owner_at_none k s new h b o = omega arith
owner_at_none k s (within n) h b o = absurd o
owner_at_none k s (past n) h b o = absurd (omega arith)

pub AreStands-place : (o k s to : ℕ) (st : ℕ → Stand) → AreStands o k s st → k ≡ 0 → o ≢ to → AreStands to k s st
AreStands-place o k s to st p h ne = record {
  below = p.below;
  owner = owner_at_none k s (st to) h p.below (p.others to (λ q. ne (sym q)));
  others = λ c nc. ⊎_elim (λ (q : c ≡ o). subst (λ (x : ℕ). OtherStand s (st x)) (sym q) (other_of_owner k s (st o) h p.owner)) (λ (g : c ≡ o → ⊥). p.others c g) (cases_eq c o);
}

pub Continues-send : (k s : ℕ) (st : Stand) → OwnerStand k s st → s ≤ k → k < 2 ^ 32 - 1 → Continues st (kind_at s k) k
Continues-send k s new o b h = by_test k s (λ test. Continues new (if test then First else Next) k) (λ _. h) (λ ne. absurd (ne o))
Continues-send k s (within n) o b h = by_test k s (λ test. Continues (within n) (if test then First else Next) k) (λ e. absurd (omega arith)) (λ ne. (sym o.0, h))
Continues-send k s (past n) o b h = by_test k s (λ test. Continues (past n) (if test then First else Next) k) (λ e. (omega arith, h)) (λ ne. absurd (ne o.0))

pub Continues-mark : (k s : ℕ) (st : Stand) → OwnerStand k s st → s < k → Continues st Mark k
Continues-mark k s new o h = absurd (omega arith)
Continues-mark k s (within n) o h = sym o.0
Continues-mark k s (past n) o h = absurd (omega arith)

pub stand_by-packet : (k s : ℕ) → stand_by (kind_at s k) k ≡ within (k + 1)
stand_by-packet k s = by_test k s (λ test. stand_by (if test then First else Next) k ≡ within (k + 1)) (λ _. refl) (λ _. refl)
