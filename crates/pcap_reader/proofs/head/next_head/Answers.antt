use Rattle.std.proofs.Common.{rules, inr, ◌≡◌, ◌<◌, ◌+◌, List, ℕ, length, arith, subst, ap}
use Rattle.std.specs.Io.KnownBytes.{Keeps, prepend_known, IsAtEnd}
use Rattle.pcap_reader.proofs.Streams.{IsRead, known_header, takes_record, too_long, cut_short, stops_inside, on_not_err}
use Rattle.pcap_reader.proofs.head.next_head.Goals as goal

pub returns-then-head-gt-LONGEST-clause-comes : goal.returns-then-head-gt-LONGEST-clause-comes
returns-then-head-gt-LONGEST-clause-comes g c =
    let head = c.head_of-head in
    let read : IsRead c.args.form head.result c.fill.new.window = subst (λ (w : List ℕ). IsRead c.args.form head.result w) c.bytes.ensures.value (record { long = search rules; nanos = head.ensures.nanos; captured = head.ensures.captured; original = head.ensures.original }) in
    too_long c.args.form c.args.at head.result _ _ c.args.window.now c.fill.new.window c.fill.ensures.still read c.if-head-gt-LONGEST.true

pub returns-then-have-head-clause-comes : goal.returns-then-have-head-clause-comes
returns-then-have-head-clause-comes g c =
    let head = c.head_of-head in
    let left = g.S.Source.left in
    let w1 = c.fill.new.window in
    let w2 = c.fill-2.new.window in
    let a1 = left c.fill.new.source in
    let a2 = left c.fill-2.new.source in
    let read : IsRead c.args.form head.result w1 = subst (λ (w : List ℕ). IsRead c.args.form head.result w) c.bytes.ensures.value (record { long = search rules; nanos = head.ensures.nanos; captured = head.ensures.captured; original = head.ensures.original }) in
    let header = known_header (left c.args.source.now) a1 a2 c.args.window.now w1 w2 c.fill.ensures.still (subst (λ (w : List ℕ). Keeps (prepend_known w a1) (prepend_known w2 a2)) c.consume.ensures c.fill-2.ensures.still) in
    let same : length c.bytes-have-2.result.now ≡ length w2 = ap length c.bytes-have-2.ensures.value in
    let cut : length w2 < head.result.captured = omega (arith, c.if-have-head.true) in
    let end : IsAtEnd a2 = on_not_err c.fill-2.result (search rules) c.fill-2.ensures.end cut in
    cut_short c.args.form c.args.at (16 + length c.bytes-have-2.result.now) head.result (left c.args.source.now) a2 c.args.window.now w1 w2 header end read (search rules) cut (ap (λ n. 16 + n) same)

pub returns-clause-comes : goal.returns-clause-comes
returns-clause-comes g c =
    let head = c.head_of-head in
    let left = g.S.Source.left in
    let w1 = c.fill.new.window in
    let w2 = c.fill-2.new.window in
    let a1 = left c.fill.new.source in
    let a2 = left c.fill-2.new.source in
    let read : IsRead c.args.form head.result w1 = subst (λ (w : List ℕ). IsRead c.args.form head.result w) c.bytes.ensures.value (record { long = search rules; nanos = head.ensures.nanos; captured = head.ensures.captured; original = head.ensures.original }) in
    let header = known_header (left c.args.source.now) a1 a2 c.args.window.now w1 w2 c.fill.ensures.still (subst (λ (w : List ℕ). Keeps (prepend_known w a1) (prepend_known w2 a2)) c.consume.ensures c.fill-2.ensures.still) in
    let same : length c.bytes-have-2.result.now ≡ length w2 = ap length c.bytes-have-2.ensures.value in
    takes_record c.args.form head.result (left c.args.source.now) a2 c.args.window.now w1 w2 header read (search rules) (omega (arith, c.if-have-head.false))

pub returns-then-is_err-2-clause-stops : goal.returns-then-is_err-2-clause-stops
returns-then-is_err-2-clause-stops g c =
    let head = c.head_of-head in
    let left = g.S.Source.left in
    let w1 = c.fill.new.window in
    let w2 = c.fill-2.new.window in
    let a1 = left c.fill.new.source in
    let a2 = left c.fill-2.new.source in
    let read : IsRead c.args.form head.result w1 = subst (λ (w : List ℕ). IsRead c.args.form head.result w) c.bytes.ensures.value (record { long = search rules; nanos = head.ensures.nanos; captured = head.ensures.captured; original = head.ensures.original }) in
    let header = known_header (left c.args.source.now) a1 a2 c.args.window.now w1 w2 c.fill.ensures.still (subst (λ (w : List ℕ). Keeps (prepend_known w a1) (prepend_known w2 a2)) c.consume.ensures c.fill-2.ensures.still) in
    let cut : length w2 < head.result.captured = search rules in
    let s = stops_inside c.args.form head.result (left c.args.source.now) a2 c.args.window.now w1 w2 header read (search rules) cut in
    (s.0, s.1, s.2, inr s.3)

pub returns-then-have-head-clause-stops : goal.returns-then-have-head-clause-stops
returns-then-have-head-clause-stops g c =
    let head = c.head_of-head in
    let left = g.S.Source.left in
    let w1 = c.fill.new.window in
    let w2 = c.fill-2.new.window in
    let a1 = left c.fill.new.source in
    let a2 = left c.fill-2.new.source in
    let read : IsRead c.args.form head.result w1 = subst (λ (w : List ℕ). IsRead c.args.form head.result w) c.bytes.ensures.value (record { long = search rules; nanos = head.ensures.nanos; captured = head.ensures.captured; original = head.ensures.original }) in
    let header = known_header (left c.args.source.now) a1 a2 c.args.window.now w1 w2 c.fill.ensures.still (subst (λ (w : List ℕ). Keeps (prepend_known w a1) (prepend_known w2 a2)) c.consume.ensures c.fill-2.ensures.still) in
    let same : length c.bytes-have-2.result.now ≡ length w2 = ap length c.bytes-have-2.ensures.value in
    let cut : length w2 < head.result.captured = omega (arith, c.if-have-head.true) in
    let s = stops_inside c.args.form head.result (left c.args.source.now) a2 c.args.window.now w1 w2 header read (search rules) cut in
    (s.0, s.1, s.2, tt)
