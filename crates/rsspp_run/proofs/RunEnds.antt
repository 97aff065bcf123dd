-- What a serial run that has ended leaves.
use Rattle.std.proofs.Common.{suc, ◌≡◌, ℕ, ◌<◌, ◌≤◌, ◌^◌, false, List, [], ◌∷◌, ◌++◌, map, length, get_or, flat_map, Option, Some, None, refl, sym, ap, ◌∙◌, arith}
use Rattle.std.proofs.lemmas.List.Concat.{flat_map-cons}
use Rattle.bucket_table.specs.Table.{TableOf}
use Rattle.packet_fields.specs.declared.packet.PacketInfo.{PacketInfo}
use Rattle.pcap_reader.specs.Reading.{Reading}
use Rattle.indirection.specs.JournalView.{journal_view}
use Rattle.indirection.specs.Story.{entries_of}
use Rattle.handover_core.specs.State.{blank_core}
use Rattle.worker_loop.specs.Fresh.{fresh_worker}
use Rattle.toeplitz.specs.Bucket.{bucket_hash}
use Rattle.worker_loop.specs.Workload.{Workload}
use Rattle.worker_loop.specs.Schedule.{worked_of}
use Rattle.dispatch_loop.specs.declared.dispatcher_end.DispatcherEnd.{DispatcherEnd}
use Rattle.dispatch_loop.specs.DispatcherState.{DispatcherState}
use Rattle.dispatch_loop.specs.Past.{parcels}
use Rattle.dispatch_loop.specs.Terms.{Terms}
use Rattle.rsspp_run.specs.LocalRun.{LocalRunView, worker_at, worker_snapshot_at, AreWorkersAt}
use Rattle.rsspp_run.specs.Serial.{RunState, Side, new_side, by_place, end_of, is_finished, Serial}
use Rattle.rsspp_run.specs.Sweeps.{setting_of, HasEnded}
use Rattle.rsspp_run.specs.Ends.{log_in, worked_in}
use Rattle.rsspp_run.proofs.Bools.{finished_true}
use Rattle.worker_loop.proofs.Tallied as tallied
use Rattle.rsspp_run.proofs.WorkedFew.{worked_whole}
use Rattle.rsspp_run.proofs.Told.{entries_told}

maps_same : {A B C : Type 0} (p : A → C) (q : B → C) (xs : List A) (ys : List B) (a : A) (b : B) → length xs ≡ length ys → ((c : ℕ) → c < length xs → p (get_or xs c a) ≡ q (get_or ys c b)) → map p xs ≡ map q ys
maps_same p q [] [] a b e h = refl
maps_same p q [] (y ∷ ys) a b e h = absurd (omega arith)
maps_same p q (x ∷ xs) [] a b e h = absurd (omega arith)
maps_same p q (x ∷ xs) (y ∷ ys) a b e h = (λ i. h 0 (omega arith) i ∷ maps_same p q xs ys a b (omega arith) (λ c lt. h (suc c) (omega arith)) i)

flats_same : {A B C : Type 0} (p : A → List C) (q : B → List C) (xs : List A) (ys : List B) (a : A) (b : B) → length xs ≡ length ys → ((c : ℕ) → c < length xs → p (get_or xs c a) ≡ q (get_or ys c b)) → flat_map p xs ≡ flat_map q ys
flats_same p q [] [] a b e h = refl
flats_same p q [] (y ∷ ys) a b e h = absurd (omega arith)
flats_same p q (x ∷ xs) [] a b e h = absurd (omega arith)
flats_same p q (x ∷ xs) (y ∷ ys) a b e h = flat_map-cons p x xs ∙ ((λ i. h 0 (omega arith) i ++ flats_same p q xs ys a b (omega arith) (λ c lt. h (suc c) (omega arith)) i) ∙ sym (flat_map-cons q y ys))

module _ {S : Type 0} (packets : Option (List PacketInfo)) (x : Workload S) (t : Terms) (pool number : ℕ) (bytes : Option (List ℕ)) (end : DispatcherEnd) (d : DispatcherState) (f : LocalRunView (TableOf S)) (reader : Reading) (left : Option (List ℕ)) (h : HasEnded packets x t pool number bytes end d f reader left) where
  are : AreWorkersAt x h.state f
  are = h.by.at.workers

  -- the journal is what the run's steps tell
  journal_is : d.short ≡ false → entries_of h.state.steps ≡ d.journal.entries
  journal_is still = ap entries_of (h.by.told still) ∙ entries_told 0 (parcels d.terms h.sent) d.journal.entries (h.tied.tied.lawful still).lawful.paired

  start_is : t.start.owners ≡ d.journal.start.owners
  start_is = sym (ap (λ z. z.owners) h.tied.tied.start ∙ ap (λ (z : Terms). z.start.owners) h.tied.terms)

  worked_is : map worked_of h.state.machine.cores ≡ map worked_in f.workers
  worked_is = maps_same worked_of worked_in h.state.machine.cores f.workers blank_core (fresh_worker 0 (bucket_hash f.key 0)) (sym are.workers)
      (λ c near. let u = are.each c near in sym (tallied.worked_is x h.state.machine c (worker_snapshot_at f c) u.tied u.shows ∙ worked_whole h.state.machine c are.sound few))
    where
      few : length h.state.machine.cores ≤ 2 ^ 32
      few = let c = h.by.at.dispatcher.cores in let k = h.tied.tied.sound.table.cores in omega arith

  logs_are : ((c : ℕ) → c < length f.workers → (worker_at f c).state.short ≡ false) → flat_map (λ (s : Side). s.log) h.state.sides ≡ flat_map log_in f.workers
  logs_are calm = flats_same (λ (s : Side). s.log) log_in h.state.sides f.workers new_side (fresh_worker 0 (bucket_hash f.key 0)) (are.sides ∙ sym are.workers)
      (λ c near. let n = are.sides in let w = are.workers in (are.each c (omega arith)).log (calm c (omega arith)))

  -- journal, logs and counts are those of the run by its definition
  pub serial_ends : d.short ≡ false → ((c : ℕ) → c < length f.workers → (worker_at f c).state.short ≡ false)
      → Serial (setting_of t pool h.sent) number (record { journal = journal_view d.journal; custody = by_place (flat_map log_in f.workers); worked = map worked_in f.workers })
  serial_ends still calm = record {
    count = h.count;
    ends = ap (λ (z : RunState). is_finished z.machine) (sym (h.is still)) ∙ finished_true h.state.machine are.sound h.finished;
    is = (λ i. record { journal = record { start = sym start_is i; entries = sym (journal_is still) i }; custody = by_place (sym (logs_are calm) i); worked = sym worked_is i }) ∙ ap (end_of (setting_of t pool h.sent)) (h.is still);
  }
