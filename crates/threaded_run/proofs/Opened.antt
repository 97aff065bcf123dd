-- What all parties share at the start, and the parties.
use Rattle.std.proofs.Common.{◌≡◌, ℕ, zero, suc, ◌+◌, ◌-◌, List, [], ◌∷◌, ◌++◌, length, replicate, Some, refl, sym, ap, ◌∙◌, arith, length-append}
use Rattle.std.specs.Prelude.{slice_get}
use Rattle.std.proofs.lemmas.List.{length-replicate}
use Rattle.atomic_table.specs.Seated.{TableId}
use Rattle.toeplitz.specs.declared.key.Key.{Key}
use Rattle.core_queue.specs.RuledLane.{SharedLane, AtLane}
use Rattle.packet_pool.specs.RuledPool as pools
use Rattle.packet_pool.specs.RuledPool.{SharedPool, AtPool, IsNewPool, pass_with}
use Rattle.handover_words.specs.ShelfHistory.{fresh}
use Rattle.handover_words.specs.WordShelf.{SharedShelf, AtShelf, IsNewShelf}
use Rattle.load_meter.specs.Meter.{SharedMeter, AtMeter, IsNewMeter}
use Rattle.dispatch_loop.specs.OptionsView.{OptionsView}
use Rattle.threaded_run.specs.Opening.{IsShared}
use Rattle.threaded_run.specs.PartyLists.{new_passes}
use Rattle.threaded_run.proofs.Lists.{front_at, last_at, each_snoc}

copied : {A : Type 0} (x y : A) (n i : ℕ) → slice_get (replicate n x) i ≡ Some y → y ≡ x
copied x y zero i at = absurd (cc)
copied x y (suc n) zero at = cc
copied x y (suc n) (suc i) at = copied x y n i at

-- each pass of a new pool is of that pool
pool_home : (home : TableId) (cells ends i : ℕ) (q : AtPool) → slice_get (pools.new_passes home cells ends) i ≡ Some q → q.home ≡ home
pool_home home cells ends =
    each_snoc (λ (i : ℕ) (q : AtPool). q.home ≡ home) (pools.new_passes home cells ends) (replicate (ends - 1) (pass_with home 0)) (pass_with home cells) (ends - 1) refl (length-replicate (ends - 1) (pass_with home 0))
    (λ i q at. ap (λ (a : AtPool). a.home) (copied (pass_with home 0) q (ends - 1) i at)) refl

pub shared_is : (o : OptionsView) (key : Key) (buckets ends : ℕ) (lanes : List SharedLane) (shelf : SharedShelf) (pool : SharedPool) (meter : SharedMeter) (senders takers : List AtLane) (passes rest : List AtPool) (own : AtPool) (seat : AtShelf) (load : AtMeter)
    → key ≡ o.key → buckets ≡ length o.start.owners → ends ≡ o.cores + 1 → length lanes ≡ o.cores → senders ≡ new_passes key buckets lanes → takers ≡ new_passes key buckets lanes
    → IsNewShelf key buckets ends shelf seat → IsNewPool o.pool ends pool passes → passes ≡ rest ++ own ∷ [] → IsNewMeter o.cores meter load
    → IsShared o (record { lanes = lanes; shelf = shelf; pool = pool; meter = meter }) senders takers rest own seat load
shared_is o key buckets ends lanes shelf pool meter senders takers passes rest own seat load of_key of_buckets of_ends wide sends takes on_shelf in_pool split on_meter =
    let made = in_pool.made in
    let many : length passes ≡ ends - 1 + 1 = ap length made ∙ (length-append (replicate (ends - 1) (pass_with pool.home 0)) (pass_with pool.home o.pool ∷ []) ∙ ap (λ n. n + 1) (length-replicate (ends - 1) (pass_with pool.home 0))) in
    let parts : length passes ≡ length rest + 1 = ap length split ∙ length-append rest (own ∷ []) in
    let home : (i : ℕ) (q : AtPool) → slice_get passes i ≡ Some q → q.home ≡ pool.home = λ i q at. pool_home pool.home o.pool ends i q (ap (λ (l : List AtPool). slice_get l i) (sym made) ∙ at) in
    record {
      lanes = wide;
      senders_are = sends ∙ (λ i. new_passes (of_key i) (of_buckets i) lanes);
      takers_are = takes ∙ (λ i. new_passes (of_key i) (of_buckets i) lanes);
      run = on_shelf.run ∙ (λ i. record { key = of_key i; buckets = of_buckets i; ends = of_ends i });
      seat_is = on_shelf.seated ∙ (λ i. record { home = shelf.home; history = fresh (of_key i) (of_buckets i) (of_ends i) });
      cells_many = omega arith;
      cells_are = λ i q at. home i q (front_at passes rest own q i split at);
      own = home (length rest) own (last_at passes rest own (length rest) split refl);
      meter = on_meter.cores;
      load_is = on_meter.seated;
    }
