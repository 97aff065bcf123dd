-- How a serial run begins.
use Rattle.std.proofs.Common.{◌≡◌, ℕ, ◌+◌, ◌-◌, ◌*◌, ◌^◌, ◌<◌, ◌≤◌, Bool, true, false, List, [], ◌∷◌, map, length, Option, refl, sym, ap, ◌∙◌, subst, arith, All}
use Rattle.std.proofs.lemmas.List.Elements.{All-cons}
use Rattle.std.proofs.lemmas.List.{length-map, length-replicate}
use Rattle.toeplitz.specs.Bucket.{bucket_of}
use Rattle.bucket_table.specs.Table.{TableOf}
use Rattle.packet_fields.specs.declared.packet.PacketInfo.{PacketInfo}
use Rattle.pcap_reader.specs.Reading.{Reading, still}
use Rattle.pcap_reader.specs.Stream.{TakesHeader}
use Rattle.pcap_reader.specs.declared.reader.Progress.TheVariants.{Going}
use Rattle.pcap_reader.proofs.SoFar.{SoFar-start}
use Rattle.indirection.specs.Story.{Parcel}
use Rattle.handover_core.specs.Machine.{steps_left}
use Rattle.handover_core.specs.Runs.{IsMade}
use Rattle.core_queue.specs.declared.history.LaneHistory.{LaneHistory}
use Rattle.core_queue.specs.Local.{LocalState, new_lane}
use Rattle.flow_work.specs.declared.work.TheConstants.{MOST_COST}
use Rattle.worker_loop.specs.Workload.{Workload}
use Rattle.dispatch_loop.specs.Accepted.{IsAccepted}
use Rattle.dispatch_loop.specs.DispatcherState.{DispatcherState}
use Rattle.dispatch_loop.specs.Asks.{is_round_due}
use Rattle.dispatch_loop.specs.Fresh.{fresh_dispatcher_state, AreFresh}
use Rattle.dispatch_loop.specs.OptionsView.{OptionsView}
use Rattle.dispatch_loop.specs.Past.{AreNamed, past, parcels, parcel_of}
use Rattle.dispatch_loop.specs.Terms.{Terms, terms_of, cores_of, buckets_of}
use Rattle.dispatch_loop.specs.Tied.{Tied}
use Rattle.dispatch_loop.proofs.Carrying.{bucket-below}
use Rattle.dispatch_loop.proofs.Starts.{sound, tied-fresh}
use Rattle.rsspp_run.specs.LocalRun.{LocalRunView, history_of}
use Rattle.rsspp_run.specs.Opening.{IsNew}
use Rattle.rsspp_run.specs.Serial.{begins}
use Rattle.rsspp_run.specs.Sweeps.{setting_of, one_if, IsRunBy, IsSweeping}
use Rattle.rsspp_run.proofs.BesideWorkers.{lane_of}
use Rattle.rsspp_run.proofs.Falls.{first_falls}
use Rattle.rsspp_run.proofs.Opening.{workers_begin, dispatcher_begins}

one_few : (b : Bool) → one_if b ≤ 1
one_few true = omega arith
one_few false = omega arith

-- what is left of a run at first is less than the sweeps that it may have
few_at_first : (steps p most cores buckets moves k : ℕ) → steps ≡ 2 * (p + p + cores) + 2 * (p + buckets) → p ≤ most → most ≤ 2 ^ 32 - 1 → cores ≤ 64 → buckets ≤ 2048 → moves ≤ 4096 → k ≤ 1 → 0 + (steps + (moves + 0 + (18 * (most - 0) + 17 * k))) < 1099511627776
few_at_first steps p most cores buckets moves k e few most_few c b m one = omega arith

buckets_in : (t : Terms) (xs : List PacketInfo) → 0 < buckets_of t → All (λ bucket. bucket < buckets_of t) (map (λ (p : Parcel). p.bucket) (parcels t xs))
buckets_in t [] some = λ k d lt. absurd (omega arith)
buckets_in t (x ∷ xs) some = All-cons (λ (bucket : ℕ). bucket < buckets_of t) (bucket_of t.key (buckets_of t) x) (map (λ (p : Parcel). p.bucket) (parcels t xs)) (bucket-below t.key (buckets_of t) x some) (buckets_in t xs some)

module _ {S : Type 0} (packets : Option (List PacketInfo)) (x : Workload S) (o : OptionsView) (accepted : IsAccepted o) (cheap : (p : PacketInfo) → x.cost p ≤ MOST_COST) (number : ℕ) (bytes left : Option (List ℕ)) (f : LocalRunView (TableOf S)) (reader : Reading)
    (new : IsNew o.key (length o.start.owners) o.cores o.pool f) (named : AreNamed packets o.packets bytes) (header : TakesHeader bytes (still reader left) reader.form) (first : (reader.given ≡ 0) × (reader.progress ≡ Going)) where
  abbrev t : Terms
  t = terms_of x.cost o

  same_cores : cores_of (terms_of x.cost o) ≡ o.cores
  same_cores = accepted.cores

  lanes_wide : length (map history_of f.lanes) ≡ cores_of (terms_of x.cost o)
  lanes_wide = length-map f.lanes history_of ∙ (new.lanes_wide ∙ sym same_cores)

  is_fresh : AreFresh packets bytes (terms_of x.cost o) (map history_of f.lanes) f.shelf.history f.meter.history reader left
  is_fresh = record {
    named = named;
    wide = lanes_wide;
    each = λ c e is.
        let l = lane_of f.lanes c (new_lane f.key 0 0) e is in
        let near : c < o.cores = (let n = l.0 in let w = new.lanes_wide in omega arith) in
        let lane = new.lanes c near in
        record { key = ap (λ (z : LaneHistory). z.key) l.1 ∙ ap (λ (z : LocalState). z.history.key) lane; buckets = ap (λ (z : LaneHistory). z.buckets) l.1 ∙ ap (λ (z : LocalState). z.history.buckets) lane; sent = ap (λ (z : LaneHistory). z.sent) l.1 ∙ ap (λ (z : LocalState). z.history.sent) lane };
    words = ap (λ z. z.history.buckets) new.shelf;
    numbers = let m = ap (λ z. z.history.cores) new.meter in let c = same_cores in omega arith;
    given = first.0;
    going = first.1;
    so_far = SoFar-start bytes (still reader left) reader.form header;
  }

  fresh_tied : Tied packets (past bytes []) (fresh_dispatcher_state (terms_of x.cost o)) (map history_of f.lanes) f.shelf.history f.meter.history reader left
  fresh_tied = tied-fresh packets bytes (terms_of x.cost o) (map history_of f.lanes) f.shelf.history f.meter.history reader left (sound x.cost o cheap accepted) is_fresh

  is_made : (xs : List PacketInfo) → length xs ≤ o.packets → IsMade o.start.owners o.start.cores (map (λ (p : Parcel). p.bucket) (parcels (terms_of x.cost o) xs)) o.pool
  is_made xs few = record {
    owned = accepted.start.owners;
    sorted = buckets_in (terms_of x.cost o) xs (let b = accepted.start.some_bucket in omega arith);
    few = let a = length-map (parcels (terms_of x.cost o) xs) (λ (p : Parcel). p.bucket) in let b = length-map xs (parcel_of (terms_of x.cost o)) in let c = accepted.packets.1 in omega arith;
    cells = let p = accepted.pool.0 in omega arith;
  }

  new_of : IsNew o.key (length o.start.owners) o.start.cores o.pool f
  new_of = subst (λ (n : ℕ). IsNew o.key (length o.start.owners) n o.pool f) (sym same_cores) new

  run_begins : (xs : List PacketInfo) → length xs ≤ o.packets → IsRunBy x xs [] (setting_of (terms_of x.cost o) o.pool xs) (begins (setting_of (terms_of x.cost o) o.pool xs)) (fresh_dispatcher_state (terms_of x.cost o)) f
  run_begins xs few = record {
    at = record {
      workers = workers_begin x (setting_of (terms_of x.cost o) o.pool xs) o.key f new_of (is_made xs few);
      dispatcher = dispatcher_begins (terms_of x.cost o) o.pool (parcels (terms_of x.cost o) xs);
    };
    rooms = λ c near. ap (λ (l : LocalState). l.room) (new_of.lanes c (let n : length (begins (setting_of (terms_of x.cost o) o.pool xs)).machine.cores ≡ o.start.cores = length-replicate o.start.cores _ in omega arith));
    is_of = record { rules = refl; parcels_are = refl; packets_are = refl };
    cost = refl;
    told = λ still. refl;
  }

  -- the run of whatever packets the stream has stands at its beginning
  pub run_opens : (d : DispatcherState) → d ≡ fresh_dispatcher_state (terms_of x.cost o) → IsSweeping packets x (terms_of x.cost o) o.pool number 0 bytes d f reader left
  run_opens d is = subst (λ (z : DispatcherState). IsSweeping packets x (terms_of x.cost o) o.pool number 0 bytes z f reader left) (sym is) (record {
    sent = [];
    tied = record { terms = refl; tied = fresh_tied };
    runs = λ xs goes few. record {
      state = begins (setting_of (terms_of x.cost o) o.pool xs);
      by = run_begins xs few;
      is = λ still. refl;
      few = few_at_first (steps_left (begins (setting_of (terms_of x.cost o) o.pool xs)).machine) (length (parcels (terms_of x.cost o) xs)) o.packets o.start.cores (length o.start.owners) (length o.moves) (one_if (is_round_due (fresh_dispatcher_state (terms_of x.cost o))))
          (first_falls (setting_of (terms_of x.cost o) o.pool xs)) (let b = length-map xs (parcel_of (terms_of x.cost o)) in omega arith) (let m = accepted.packets.1 in omega arith) (let m = accepted.start.cores in omega arith) (let m = accepted.start.buckets in omega arith) (let m = accepted.most_orders in omega arith) (one_few (is_round_due (fresh_dispatcher_state (terms_of x.cost o))));
    };
  })
