use Rattle.packet_fields.specs.KeyText.{ipv6_address_text}
use Rattle.std.proofs.Common.{refl}
use Rattle.packet_fields.proofs.ipv6_text.address_text.Goals as goal

pub returns : goal.returns
unfolding ipv6_address_text
returns c = rw (c.group-a.ensures, c.group-b.ensures, c.group-c.ensures, c.group-d.ensures, c.group-e.ensures, c.group-f.ensures, c.group-g.ensures, c.group-h.ensures) refl
