use Rattle.packet_fields.specs.KeyText.{ipv6_addresses_text}
use Rattle.packet_fields.proofs.KeyTexts.{ipv6_addresses_flat, adds, adds_front}
use Rattle.packet_fields.proofs.ipv6_text.ipv6_addresses_text.Goals as goal

pub returns-clause-ok : goal.returns-clause-ok
returns-clause-ok c =
    adds c.push_all.result c.args.text.now c.push_all.new.self _ (ipv6_addresses_text c.args.key.now)
    (ipv6_addresses_flat c.args.key.now c.address_text-source.result c.address_text-destination.result _ c.address_text-source.ensures c.address_text-destination.ensures c.from.ensures)
    c.push_all.ensures.ok

pub returns-clause-err : goal.returns-clause-err
returns-clause-err c =
    adds_front c.push_all.result c.args.text.now c.push_all.new.self _ (ipv6_addresses_text c.args.key.now)
    (ipv6_addresses_flat c.args.key.now c.address_text-source.result c.address_text-destination.result _ c.address_text-source.ensures c.address_text-destination.ensures c.from.ensures)
    c.push_all.ensures.err
