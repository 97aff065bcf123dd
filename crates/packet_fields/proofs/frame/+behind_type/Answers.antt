use Rattle.std.proofs.Common.{◌≡◌, ◌∙◌, ap, sym, true}
use Rattle.packet_fields.specs.Wire.{u16_at}
use Rattle.packet_fields.specs.Frame.{is_tag, behind_type}
use Rattle.packet_fields.proofs.Tags.{last_tag, short_tag}
use Rattle.packet_fields.proofs.frame.+behind_type.Goals as goal

pub returns-then-tags-eq0 : goal.returns-then-tags-eq0
returns-then-tags-eq0 t c =
    let tagged : is_tag (u16_at 0 c.args.bytes.now) ≡ true = ap is_tag (sym c.read_u16-kind.ensures) ∙ (sym c.is_tag.ensures ∙ c.if-not-is_tag.false) in
    last_tag c.args.bytes.now tagged ∙ ap (λ n. behind_type n c.args.bytes.now) (sym c.if-tags-eq0.true)

pub returns-then-bytes-lt4 : goal.returns-then-bytes-lt4
returns-then-bytes-lt4 t c =
    let tagged : is_tag (u16_at 0 c.args.bytes.now) ≡ true = ap is_tag (sym c.read_u16-kind.ensures) ∙ (sym c.is_tag.ensures ∙ c.if-not-is_tag.false) in
    short_tag c.args.tags c.args.bytes.now c.if-bytes-lt2.false c.if-bytes-lt4.true tagged
