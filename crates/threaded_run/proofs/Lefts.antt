-- What the parties of a run leave to its closing.
use Rattle.std.proofs.Common.{◌≡◌, ◌+◌, List, length, sym, ap, ◌∙◌, arith}
use Rattle.std.proofs.lemmas.List.{length-map}
use Rattle.bucket_table.specs.Table.{TableOf}
use Rattle.packet_pool.specs.RuledPool.{AtPool}
use Rattle.core_queue.specs.RuledLane.{AtLane}
use Rattle.handover_words.specs.WordShelf.{AtShelf}
use Rattle.load_meter.specs.Meter.{AtMeter}
use Rattle.worker_loop.specs.WorkerState.{WorkerView}
use Rattle.worker_loop.specs.Workload.{Workload}
use Rattle.dispatch_loop.specs.DispatcherState.{DispatcherState}
use Rattle.dispatch_loop.specs.Terms.{Terms, cores_of, buckets_of}
use Rattle.run_shifts.specs.Parties.{SharedView}
use Rattle.run_shifts.specs.declared.worker_party.WorkerParty.{WorkerParty}
use Rattle.threaded_run.specs.Parties.{AreParties, IsBack}
use Rattle.threaded_run.specs.PartyLists.{new_pass}

module _ {S : Type 0} (j : Workload S) (t : Terms) (place : SharedView) (dispatcher : DispatcherState) (senders : List AtLane) (seat : AtShelf) (load : AtMeter) (cells : AtPool) (worker_parties : List (WorkerParty (WorkerView (TableOf S)) (TableOf S)))
    (parties : AreParties j t place dispatcher senders seat load cells worker_parties) where
  pub terms_are : dispatcher.terms ≡ t
  terms_are = ap (λ (f : DispatcherState). f.terms) parties.fresh

  pub senders_many : length senders ≡ cores_of t
  senders_many = ap length parties.senders_are ∙ (length-map place.lanes (new_pass t.key (buckets_of t)) ∙ parties.lanes)

  pub buckets_are : place.shelf.run.buckets ≡ buckets_of t
  buckets_are = ap (λ r. r.buckets) parties.run

  pub key_is : place.shelf.run.key ≡ t.key
  key_is = ap (λ r. r.key) parties.run

  module _ (senders' : List AtLane) (seat' : AtShelf) (back : IsBack place senders seat senders' seat') where
    pub back_many : length senders' ≡ cores_of t
    back_many = back.many ∙ senders_many

    pub counts : (ps : List (WorkerParty (WorkerView (TableOf S)) (TableOf S))) → length ps ≡ length worker_parties → (length senders' ≡ length place.lanes) × (length ps ≡ length place.lanes)
    counts ps many = (back_many ∙ sym parties.lanes, many ∙ (parties.worker_parties_many ∙ sym parties.lanes))

    pub shares : (ps : List (WorkerParty (WorkerView (TableOf S)) (TableOf S))) → length ps ≡ length worker_parties → seat'.history.shares + length ps ≡ place.shelf.run.ends
    shares ps many =
        let s = back.share ∙ parties.share in let m = many ∙ parties.worker_parties_many in let e = ap (λ r. r.ends) parties.run in omega arith

    pub back_buckets : seat'.history.buckets ≡ buckets_of t
    back_buckets = back.seat_is.buckets ∙ buckets_are

    pub back_key : seat'.history.key ≡ t.key
    back_key = back.seat_is.key ∙ key_is
