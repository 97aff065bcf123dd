use Rattle.std.proofs.Common.{◌∙◌, ◌+◌, ℕ, IsSome, sym, ap, subst}
use Rattle.std.proofs.Math.Nat.{zero-mod}
use Rattle.toeplitz.specs.Packet.{packet_hash}
use Rattle.dispatcher_tests.specs.declared.hand.TheConstants.{FRAME}
use Rattle.dispatcher_tests.proofs.Tables.{one_more}
use Rattle.dispatcher_tests.proofs.hand.work_until.Goals as goal

pub loop-place-preserved : goal.loop-place-preserved
unfolding packet_hash
loop-place-preserved c =
    let before = c.loop-place.invariant in let worked = c.work.ensures in
    record {
      done_is = worked.done ∙ ap (λ (n : ℕ). n + 1) before.done_is;
      open_still = subst IsSome (sym worked.custody) before.open_still;
      stands = λ key buckets h. one_more key buckets FRAME c.loop-place.table c.work.new.self (zero-mod buckets) worked.bucket worked.stays_short worked.stands (before.stands key buckets h);
    }
