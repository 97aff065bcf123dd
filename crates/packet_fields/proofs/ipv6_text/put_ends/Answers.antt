use Rattle.packet_fields.specs.KeyText.{ipv6_ends_text}
use Rattle.packet_fields.proofs.KeyTexts.{ipv6_ends_flat, adds, adds_front}
use Rattle.packet_fields.proofs.ipv6_text.put_ends.Goals as goal

pub returns-clause-ok : goal.returns-clause-ok
returns-clause-ok c =
    adds c.push_all.result c.args.text.now c.push_all.new.self _ (ipv6_ends_text c.args.name.now c.args.key.now)
    (ipv6_ends_flat c.args.name.now c.args.key.now c.args.source.now c.args.destination.now _ _ c.requires.source c.from.ensures c.requires.destination c.from-2.ensures)
    c.push_all.ensures.ok

pub returns-clause-err : goal.returns-clause-err
returns-clause-err c =
    adds_front c.push_all.result c.args.text.now c.push_all.new.self _ (ipv6_ends_text c.args.name.now c.args.key.now)
    (ipv6_ends_flat c.args.name.now c.args.key.now c.args.source.now c.args.destination.now _ _ c.requires.source c.from.ensures c.requires.destination c.from-2.ensures)
    c.push_all.ensures.err
