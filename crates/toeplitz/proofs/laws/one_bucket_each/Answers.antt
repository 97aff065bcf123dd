use Rattle.std.proofs.Common.{◌==◌, ◌%◌, ap, refl, eq-eqb}
use Rattle.std.proofs.Math.Nat.{mod-lt}
use Rattle.std.proofs.lemmas.Bool.{eqb-true}
use Rattle.std.proofs.lemmas.List.Elements.{filter_passes}
use Rattle.toeplitz.specs.Bucket.{bucket_of}
use Rattle.toeplitz.specs.Packet.{hash_by, packet_hash}
use Rattle.toeplitz.proofs.Parts.{parts-total, part-place}
use Rattle.toeplitz.proofs.laws.one_bucket_each.Goals as goal

pub returns-clause-below : goal.returns-clause-below
returns-clause-below c key buckets packet h = mod-lt (packet_hash key packet) h

pub returns-clause-flow : goal.returns-clause-flow
unfolding packet_hash
returns-clause-flow c key buckets a b e = ap (λ k. hash_by k.class key k % buckets) e

pub returns-clause-totals : goal.returns-clause-totals
returns-clause-totals c key buckets packets h = parts-total (bucket_of key buckets) buckets (λ packet. returns-clause-below c key buckets packet h) packets

pub returns-clause-only : goal.returns-clause-only
returns-clause-only c key buckets bucket packets k d h = eqb-true _ _ (filter_passes (λ packet. bucket_of key buckets packet == bucket) packets k d h)

pub returns-clause-place : goal.returns-clause-place
returns-clause-place c key buckets before after packet = part-place (λ p. bucket_of key buckets p == bucket_of key buckets packet) before after packet (eq-eqb _ _ refl)
