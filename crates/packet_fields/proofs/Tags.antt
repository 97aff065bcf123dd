-- The types before a packet.
use Rattle.std.proofs.Common.{◌≡◌, ◌==◌, ℕ, zero, suc, ◌<◌, ◌≤◌, List, [], length, drop, refl, sym, ap, ◌∙◌, arith, Bool, true, false, cond, leb}
use Rattle.std.proofs.lemmas.Bool.{eqb-true, le-leb}
use Rattle.std.proofs.lemmas.List.{drop_all}
use Rattle.packet_fields.specs.Wire.{u16_at}
use Rattle.packet_fields.specs.Frame.{Carried, Nothing, of_type, is_tag, behind_type}

-- a tag is no packet
tag_carries : (kind : ℕ) (packet : List ℕ) → is_tag kind ≡ true → of_type kind packet ≡ Nothing
tag_carries kind packet h = by (kind == 33024) refl
  where
    by : (b : Bool) → (kind == 33024) ≡ b → of_type kind packet ≡ Nothing
    by true e = rw (eqb-true kind 33024 e) refl
    by false e = let second : (kind == 34984) ≡ true = rw e at h in rw (eqb-true kind 34984 second) refl

nothing : (tags : ℕ) → Nothing ≡ behind_type tags []
nothing zero = refl
nothing (suc tags) = refl

either : (b : Bool) (o : Carried) → o ≡ Nothing → Nothing ≡ cond b o Nothing
either true o h = sym h
either false o h = refl

-- behind the last tag that is stepped over
pub last_tag : (bytes : List ℕ) → is_tag (u16_at 0 bytes) ≡ true → Nothing ≡ behind_type 0 bytes
last_tag bytes tagged = either (leb 2 (length bytes)) (of_type (u16_at 0 bytes) (drop 2 bytes)) (tag_carries (u16_at 0 bytes) (drop 2 bytes) tagged)

-- a frame that ends inside a tag
pub short_tag : (tags : ℕ) (bytes : List ℕ) → 2 ≤ length bytes → length bytes < 4 → is_tag (u16_at 0 bytes) ≡ true → Nothing ≡ behind_type tags bytes
short_tag zero bytes long short tagged = last_tag bytes tagged
short_tag (suc tags) bytes long short tagged =
    rw (le-leb 2 (length bytes) long, tagged) (nothing tags ∙ ap (behind_type tags) (sym (drop_all 4 bytes (omega arith))))
