use Rattle.std.proofs.Common.{◌≡◌, ◌≤◌, List, ℕ, Ok, Err, length, take, sym, ap, arith, subst, length-drop}
use Rattle.std.specs.Io.KnownBytes.{prepend_known}
use Rattle.pcap_reader.specs.Capture.{announced}
use Rattle.pcap_reader.specs.Stream.{TakesHeader}
use Rattle.pcap_reader.proofs.Streams.{takes_header, header_refused}
use Rattle.pcap_reader.proofs.reader.Reader.start.Goals as goal

pub returns-in-Ok-announced_by-clause-header : goal.returns-in-Ok-announced_by-clause-header
returns-in-Ok-announced_by-clause-header g c =
    let left = g.S.Source.left in
    let w1 = c.fill.new.window in
    let form = c.in-Ok-announced_by.form in
    let long : 24 ≤ length w1 = omega (arith, c.if-have-lt-CAPTURE_HEADER.false, ap length c.bytes-have.ensures.value) in
    let good : announced (take 24 w1) ≡ Ok form = subst (λ (w : List ℕ). announced (take 24 w) ≡ Ok form) c.bytes.ensures.value (sym c.in-Ok-announced_by.ensures) in
    subst (λ (w : List ℕ). TakesHeader (left c.args.source.now) (prepend_known w (left c.fill.new.source)) form) (sym c.consume.ensures)
    (takes_header (left c.args.source.now) (left c.fill.new.source) c.in-Ok.window w1 form c.in-Ok.ensures c.fill.ensures.still long good)

pub returns-in-Err-announced_by-clause-refused : goal.returns-in-Err-announced_by-clause-refused
returns-in-Err-announced_by-clause-refused g c =
    let left = g.S.Source.left in
    let w1 = c.fill.new.window in
    let e = c.in-Err-announced_by.e in
    let long : 24 ≤ length w1 = omega (arith, c.if-have-lt-CAPTURE_HEADER.false, ap length c.bytes-have.ensures.value) in
    let bad : announced (take 24 w1) ≡ Err e = subst (λ (w : List ℕ). announced (take 24 w) ≡ Err e) c.bytes.ensures.value (sym c.in-Err-announced_by.ensures) in
    header_refused (left c.args.source.now) (left c.fill.new.source) c.in-Ok.window w1 e c.in-Ok.ensures c.fill.ensures.still long bad

pub returns-in-Ok-announced_by-clause-ahead : goal.returns-in-Ok-announced_by-clause-ahead
returns-in-Ok-announced_by-clause-ahead g c = let room = c.fill.ensures.room in rw c.consume.ensures (simp length-drop (omega arith))
