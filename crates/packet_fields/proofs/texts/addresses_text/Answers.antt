use Rattle.packet_fields.specs.KeyText.{addresses_text}
use Rattle.packet_fields.proofs.KeyTexts.{AreOctets, addresses_flat, adds, adds_front}
use Rattle.packet_fields.proofs.texts.addresses_text.Goals as goal

pub returns-clause-ok : goal.returns-clause-ok
returns-clause-ok c =
    let k = c.args.key.now in
    let s = c.octets-s in
    let d = c.octets-d in
    let a : AreOctets k.source s.result.0 s.result.1 s.result.2 s.result.3 = record { first = s.ensures.first; second = s.ensures.second; third = s.ensures.third; fourth = s.ensures.fourth } in
    let b : AreOctets k.destination d.result.0 d.result.1 d.result.2 d.result.3 = record { first = d.ensures.first; second = d.ensures.second; third = d.ensures.third; fourth = d.ensures.fourth } in
    adds c.push_all.result c.args.text.now c.push_all.new.self _ (addresses_text k)
    (addresses_flat k s.result.0 s.result.1 s.result.2 s.result.3 d.result.0 d.result.1 d.result.2 d.result.3 _ a b c.from.ensures)
    c.push_all.ensures.ok

pub returns-clause-err : goal.returns-clause-err
returns-clause-err c =
    let k = c.args.key.now in
    let s = c.octets-s in
    let d = c.octets-d in
    let a : AreOctets k.source s.result.0 s.result.1 s.result.2 s.result.3 = record { first = s.ensures.first; second = s.ensures.second; third = s.ensures.third; fourth = s.ensures.fourth } in
    let b : AreOctets k.destination d.result.0 d.result.1 d.result.2 d.result.3 = record { first = d.ensures.first; second = d.ensures.second; third = d.ensures.third; fourth = d.ensures.fourth } in
    adds_front c.push_all.result c.args.text.now c.push_all.new.self _ (addresses_text k)
    (addresses_flat k s.result.0 s.result.1 s.result.2 s.result.3 d.result.0 d.result.1 d.result.2 d.result.3 _ a b c.from.ensures)
    c.push_all.ensures.err
