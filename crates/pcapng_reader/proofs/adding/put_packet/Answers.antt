use Rattle.std.proofs.Common.{◌∙◌, sym, ap, append_assoc, List, ℕ, ◌++◌, Option}
use Rattle.pcapng_reader.specs.Classic.{classic_header}
use Rattle.pcapng_reader.specs.Steps.{packet_heading}
use Rattle.pcapng_reader.proofs.adding.put_packet.Goals as goal

pub returns-in-None : goal.returns-in-None
returns-in-None c =
    let ready = c.args.ready.now in
    let header = c.args.header.now in
    c.put-in-None-2.ensures
    ∙ (ap (λ (w : List ℕ). w ++ header) (c.put-in-None.ensures ∙ ap (λ (w : List ℕ). ready ++ w) c.capture_header.ensures)
    ∙ (append_assoc ready (classic_header c.args.link) header ∙ ap (λ (o : Option ℕ). ready ++ packet_heading o c.args.link header) (sym c.in-None.is)))
