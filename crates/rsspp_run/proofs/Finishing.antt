-- What a run that has ended came to, from what it left.
use Rattle.std.proofs.Common.{◌≡◌, ℕ, ◌<◌, ◌≤◌, false, List, map, length, flat_map, Option, sym, ◌∙◌, subst, All}
use Rattle.std.specs.Prelude.{IsPermutation}
use Rattle.bucket_table.specs.Table.{TableOf}
use Rattle.bucket_table.specs.declared.custody.Custody.{Custody}
use Rattle.packet_fields.specs.declared.packet.PacketInfo.{PacketInfo}
use Rattle.pcap_reader.specs.Reading.{Reading}
use Rattle.indirection.specs.JournalView.{JournalState, journal_view}
use Rattle.worker_loop.specs.WorkerState.{WorkerView}
use Rattle.worker_loop.specs.Fresh.{fresh_worker}
use Rattle.toeplitz.specs.Bucket.{bucket_hash}
use Rattle.worker_loop.specs.Workload.{Workload}
use Rattle.dispatch_loop.specs.declared.dispatcher_end.DispatcherEnd.TheVariants.{AtEnd}
use Rattle.dispatch_loop.specs.DispatcherState.{DispatcherState}
use Rattle.dispatch_loop.specs.Terms.{Terms}
use Rattle.rsspp_run.specs.Custody.{IsOrdered}
use Rattle.rsspp_run.specs.LocalRun.{LocalRunView, worker_at}
use Rattle.rsspp_run.specs.Ends.{log_in, worked_in, IsSerialRun}
use Rattle.rsspp_run.specs.Serial.{Serial}
use Rattle.rsspp_run.specs.Sweeps.{setting_of, HasEnded}
use Rattle.rsspp_run.proofs.RunCustody.{lawful_is, ordered_is, placed_is}
use Rattle.rsspp_run.proofs.RunEnds.{serial_ends}

module _ {S : Type 0} (packets : Option (List PacketInfo)) (x : Workload S) (t : Terms) (pool number : ℕ) (bytes : Option (List ℕ)) (d : DispatcherState) (f : LocalRunView (TableOf S)) (reader : Reading) (left : Option (List ℕ)) (h : HasEnded packets x t pool number bytes AtEnd d f reader left) where
  of_journal : d.short ≡ false → All (λ (w : WorkerView (TableOf S)). w.state.short ≡ false) f.workers → (custody : List Custody) → IsOrdered custody → IsPermutation (flat_map log_in f.workers) custody → IsSerialRun t pool number h.sent d.journal custody (map worked_in f.workers)
  of_journal still calm custody order logs =
      let each : (c : ℕ) → c < length f.workers → (worker_at f c).state.short ≡ false = λ c lt. calm c (fresh_worker 0 (bucket_hash f.key 0)) lt in
      let is = ordered_is packets x t pool number bytes d f reader left h still each custody order logs in
      record {
        is = subst (λ (cs : List Custody). Serial (setting_of t pool h.sent) number (record { journal = journal_view d.journal; custody = cs; worked = map worked_in f.workers }))
            (placed_is packets x t pool number bytes d f reader left h still each ∙ sym is)
            (serial_ends packets x t pool number bytes AtEnd d f reader left h still each);
        lawful = lawful_is packets x t pool number bytes d f reader left h still each;
        custody_is = is;
        few = subst (λ (z : Terms). length h.sent ≤ z.packets) h.tied.terms h.tied.tied.few;
      }

  pub is_serial : d.short ≡ false → All (λ (w : WorkerView (TableOf S)). w.state.short ≡ false) f.workers → (journal : JournalState) (custody : List Custody) (worked : List ℕ) → journal ≡ d.journal → IsOrdered custody → IsPermutation (flat_map log_in f.workers) custody → worked ≡ map worked_in f.workers → IsSerialRun t pool number h.sent journal custody worked
  is_serial still calm journal custody worked same order logs counts =
      subst (λ (y : JournalState × List ℕ). IsSerialRun t pool number h.sent y.0 custody y.1) (λ i. (sym same i, sym counts i)) (of_journal still calm custody order logs)
