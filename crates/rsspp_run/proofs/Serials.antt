-- The answers of a serial run, by how its stream ended.
use Rattle.std.proofs.Common.{◌≡◌, ℕ, List, Option, None, Some, Ok, Err, refl, subst}
use Rattle.bucket_table.specs.Table.{TableOf}
use Rattle.packet_fields.specs.declared.packet.PacketInfo.{PacketInfo}
use Rattle.pcap_reader.specs.declared.fault.ReadError.TheVariants as reading
use Rattle.pcap_reader.specs.declared.fault.ReadError.{ReadError}
use Rattle.pcap_reader.specs.Stream.{MayBlame}
use Rattle.pcap_reader.specs.Reading.{Reading}
use Rattle.worker_loop.specs.Workload.{Workload}
use Rattle.dispatch_loop.specs.declared.dispatcher_end.DispatcherEnd.{DispatcherEnd}
use Rattle.dispatch_loop.specs.declared.dispatcher_end.DispatcherEnd.TheVariants as end
use Rattle.dispatch_loop.specs.DispatcherState.{DispatcherState}
use Rattle.dispatch_loop.specs.Past.{past, IsFed, IsOver}
use Rattle.dispatch_loop.specs.Rules.{BlamesRead}
use Rattle.dispatch_loop.specs.Terms.{Terms}
use Rattle.rsspp_run.specs.declared.run_end.RunFault.{RunFault}
use Rattle.rsspp_run.specs.declared.run_end.RunFault.TheVariants as faults
use Rattle.rsspp_run.specs.LocalRun.{LocalRunView}
use Rattle.rsspp_run.specs.OneTable.{AreAll}
use Rattle.rsspp_run.specs.Refused.{fault_of_error, refusal, Blames}
use Rattle.rsspp_run.specs.Sweeps.{HasEnded}
use Rattle.rsspp_run.proofs.Folds.{both_known}

pub ended_so : (how : DispatcherEnd) → refusal how ≡ Ok tt → how ≡ end.AtEnd
ended_so end.AtEnd ok = refl
ended_so (end.Refused e) ok = absurd (cc)
ended_so (end.TooMany n) ok = absurd (cc)

-- the stream of the packets that were sent has ended
pub over_then : {S : Type 0} (packets : Option (List PacketInfo)) (x : Workload S) (t : Terms) (pool number : ℕ) (bytes : Option (List ℕ)) (how : DispatcherEnd) (d : DispatcherState) (f : LocalRunView (TableOf S)) (reader : Reading) (left : Option (List ℕ))
    → (h : HasEnded packets x t pool number bytes how d f reader left) → IsOver t.packets (past bytes h.sent) None how left
over_then packets x t pool number bytes how d f reader left h =
    let fed = subst (λ (z : Option DispatcherEnd). IsFed d.terms.packets (past bytes h.sent) d.held z reader left) h.end_is h.tied.tied.fed in
    subst (λ (z : Terms). IsOver z.packets (past bytes h.sent) None how left) h.tied.terms (subst (λ (o : Option PacketInfo). IsOver d.terms.packets (past bytes h.sent) o how left) fed.held_is fed)

pub all_read : (limit : ℕ) (bytes left : Option (List ℕ)) (all : List PacketInfo) → IsOver limit (past bytes all) None end.AtEnd left → AreAll limit bytes all
all_read limit bytes left all o = both_known bytes _ _ o.ends o.all

-- a read fault is blamed on a read that failed, and nothing else is
pub blamed_end : (how : DispatcherEnd) (fault : RunFault) (before now : ℕ) → refusal how ≡ Err fault → BlamesRead (Some how) before now → Blames fault before now
blamed_end end.AtEnd fault before now err b = absurd (cc)
blamed_end (end.Refused reading.NoMemory) fault before now err b = subst (λ (z : RunFault). Blames z before now) (let q : faults.NoMemory ≡ fault = cc in q) b
blamed_end (end.Refused reading.ReadFault) fault before now err b = subst (λ (z : RunFault). Blames z before now) (let q : faults.ReadFault ≡ fault = cc in q) b
blamed_end (end.Refused (reading.Broken e)) fault before now err b = subst (λ (z : RunFault). Blames z before now) (let q : faults.Capture e ≡ fault = cc in q) b
blamed_end (end.TooMany n) fault before now err b = subst (λ (z : RunFault). Blames z before now) (let q : faults.TooMany n ≡ fault = cc in q) b

pub blamed_start : (e : ReadError) (before now : ℕ) → MayBlame e before now → Blames (fault_of_error e) before now
blamed_start reading.NoMemory before now h = h
blamed_start reading.ReadFault before now h = h
blamed_start (reading.Broken e) before now h = h

-- no stream ends for want of memory
pub never_short : (limit : ℕ) (bytes left : Option (List ℕ)) (all : List PacketInfo) (how : DispatcherEnd) → IsOver limit (past bytes all) None how left → refusal how ≡ Err faults.NoMemory → ⊥
never_short limit bytes left all end.AtEnd o err = cc
never_short limit bytes left all (end.Refused reading.NoMemory) o err = o.ends
never_short limit bytes left all (end.Refused reading.ReadFault) o err = let no : faults.ReadFault ≡ faults.NoMemory = cc in cc
never_short limit bytes left all (end.Refused (reading.Broken e)) o err = let no : faults.Capture e ≡ faults.NoMemory = cc in cc
never_short limit bytes left all (end.TooMany n) o err = let no : faults.TooMany n ≡ faults.NoMemory = cc in cc

pub start_short : (e : ReadError) → fault_of_error e ≡ faults.NoMemory → e ≡ reading.NoMemory
start_short reading.NoMemory same = refl
start_short reading.ReadFault same = cc
start_short (reading.Broken e) same = cc
