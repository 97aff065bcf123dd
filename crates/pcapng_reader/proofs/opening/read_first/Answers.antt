use Rattle.std.proofs.Common.{◌≡◌, ◌+◌, sym, ap, subst, ◌∙◌, take, drop, ◌++◌, List, ℕ}
use Rattle.std.proofs.Math.Seq.{take-add}
use Rattle.std.specs.Io.KnownBytes.{Consumes}
use Rattle.pcapng_reader.proofs.Lifts.{consumes_trans}
use Rattle.pcapng_reader.proofs.opening.read_first.Goals as goal

pub reading-preserved : goal.reading-preserved
reading-preserved g c =
    let left = g.S.Source.left in
    let have = c.reading.have in
    let count = c.in_ok-count.count in
    let new = c.read_at.new.buffer in
    let r = c.in_ok-count.ensures in
    let whole : take (have + count) new ≡ take have c.reading.first ++ take count (drop have new) = take-add have count new ∙ ap (λ (w : List ℕ). w ++ take count (drop have new)) r.front in
    record {
      bytes = subst (λ (w : List ℕ). Consumes (left c.args.source.now) (left c.read_at.new.source) w) (sym whole)
          (consumes_trans (left c.args.source.now) (left c.reading.source) (left c.read_at.new.source) (take have c.reading.first) (take count (drop have new)) c.reading.invariant.bytes r.bytes);
      within = r.within;
      quiet = r.cause.kept ∙ c.reading.invariant.quiet;
      origin = r.origin ∙ c.reading.invariant.origin;
    }
