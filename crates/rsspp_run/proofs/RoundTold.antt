-- The round that the dispatcher makes is the run's.
use Rattle.std.proofs.Common.{zero, suc, ◌≡◌, ℕ, ◌+◌, ◌-◌, ◌<◌, ◌≤◌, ◌^◌, List, [], ◌∷◌, map, drop, length, get_or, Option, Some, sym, ap, ◌∙◌, arith}
use Rattle.std.specs.Prelude.{slice_index}
use Rattle.bucket_table.specs.Table.{TableOf}
use Rattle.packet_fields.specs.declared.packet.PacketInfo.{PacketInfo}
use Rattle.indirection.proofs.Told.{parcels_of-told}
use Rattle.indirection.specs.Tries.{owner_after, owners_after, upto}
use Rattle.indirection.specs.Views.{LoadsView}
use Rattle.indirection.specs.Story.{Parcel, RoundHead, Step, tries_of, parcels_of, sent_to}
use Rattle.indirection.specs.Due.{Rules, RoundDue, position}
use Rattle.indirection.specs.Lawful.{cost_in, recent}
use Rattle.handover_core.specs.State.{core_at}
use Rattle.load_meter.specs.declared.history.LoadHistory.{LoadHistory}
use Rattle.worker_loop.specs.Workload.{Workload}
use Rattle.worker_loop.specs.Counts.{HaveCosts}
use Rattle.worker_loop.specs.Schedule.{worked_cost}
use Rattle.worker_loop.proofs.Tallied.{cost_is}
use Rattle.flow_work.specs.declared.work.TheConstants.{MOST_COST}
use Rattle.dispatch_loop.specs.Costs.{cost_at}
use Rattle.dispatch_loop.specs.Terms.{cores_of, buckets_of, rules_of}
use Rattle.dispatch_loop.specs.DispatcherState.{DispatcherState}
use Rattle.dispatch_loop.specs.Asks.{due_now}
use Rattle.dispatch_loop.specs.Past.{parcels, story}
use Rattle.dispatch_loop.specs.Does.{AreReadings, bases_of, loads_of}
use Rattle.dispatch_loop.specs.Steps.{round_by}
use Rattle.dispatch_loop.specs.Tied.{IsDealt, IsLawfulStill}
use Rattle.dispatch_loop.proofs.Dues.{round_due}
use Rattle.dispatch_loop.proofs.LawfulParts.{by-elements, base-get}
use Rattle.dispatch_loop.proofs.Weighed.{length-bases}
use Rattle.rsspp_run.specs.Serial.{Setting, RunState, loads_now, round_now}
use Rattle.rsspp_run.specs.LocalRun.{LocalRunView, lane_at, worker_snapshot_at, AreWorkersAt}
use Rattle.rsspp_run.proofs.WorkedFew.{cost_whole}

-- the readings are what the meter tells
pub readings_at : (loads : List ℕ) (e : LoadHistory) (from : ℕ) (ns : List ℕ) (c : ℕ) → AreReadings (Some loads) e from ns → c < length ns → slice_index loads (from + c) ≡ get_or ns c 0
readings_at loads e from [] c a lt = absurd (omega arith)
readings_at loads e from (n ∷ ns) zero a lt = ap (λ (k : ℕ). get_or loads k 0) (let q : from + 0 ≡ from = omega arith in q) ∙ a.0.1
readings_at loads e from (n ∷ ns) (suc c) a lt = ap (λ (k : ℕ). get_or loads k 0) (let q : from + suc c ≡ from + 1 + c = omega arith in q) ∙ readings_at loads e (from + 1) ns c a.1 (omega arith)

module _ {S : Type 0} (x : Workload S) (r : RunState) (f : LocalRunView (TableOf S)) (are : AreWorkersAt x r f) (cores : length r.machine.cores ≤ 2 ^ 32)
    (costs : ℕ → ℕ → ℕ) (small : (b place : ℕ) → costs b place ≤ MOST_COST) (have : (c : ℕ) → c < length r.machine.cores → HaveCosts costs x.cost (lane_at f c).history.taken) where
  -- the meter tells what the packets cost that each core has worked
  pub load_is : (c : ℕ) → c < length r.machine.cores → slice_index f.meter.loads c ≡ worked_cost costs (core_at r.machine c)
  load_is c near =
      let u = are.each c near in
      ap (λ (o : Option (List ℕ)). get_or (loads_or o) c 0) u.told.is ∙ (u.told.number ∙ (cost_is x r.machine c (worker_snapshot_at f c) costs u.tied u.shows (have c near) ∙ cost_whole costs small r.machine c are.sound cores)) where
        loads_or : Option (List ℕ) → List ℕ
        loads_or Rattle.std.specs.Prelude.None = []
        loads_or (Some ls) = ls

module _ (j : Setting) (r : RunState) (d : DispatcherState) (ps : List PacketInfo) (meter : LoadHistory) (rules : j.rules ≡ rules_of d.terms) (told : r.steps ≡ story d ps) (dealt : IsDealt d (story d ps)) (wide : length d.loads ≡ buckets_of d.terms) (l : IsLawfulStill d ps meter) (due : due_now d ≡ RoundDue) where
  terms : Rules
  terms = rules_of d.terms

  ss : List Step
  ss = story d ps

  xs : List Parcel
  xs = parcels d.terms ps

  parts : parcels_of (story d ps) ≡ parcels d.terms ps
  parts = parcels_of-told d.journal.entries 0 (parcels d.terms ps)

  whole : d.since ≡ d.terms.round
  whole = (round_due d due).1

  buckets_told : d.loads ≡ map (cost_in (recent (rules_of d.terms) (story d ps))) (upto (buckets_of d.terms))
  buckets_told = by-elements d.loads (cost_in (recent (rules_of d.terms) (story d ps))) (buckets_of d.terms) wide (λ b k. l.loads b k ∙ (ap (λ (n : ℕ). cost_in (drop (d.sent - n) (parcels d.terms ps)) b) whole
      ∙ (ap (λ (n : ℕ). cost_in (drop (n - d.terms.round) (parcels d.terms ps)) b) dealt.sent ∙ ap (λ (z : List Parcel). cost_in (drop (length (parcels_of (story d ps)) - d.terms.round) z) b) (sym parts))))

  owners_told : d.owners ≡ owners_after d.terms.start.owners (tries_of (story d ps))
  owners_told = by-elements d.owners (owner_after d.terms.start.owners (tries_of (story d ps))) (buckets_of d.terms) dealt.owners_wide dealt.owners

  module _ (readings : List ℕ) (count : length readings ≡ cores_of d.terms) (loads : (c : ℕ) → c < cores_of d.terms → get_or readings c 0 ≡ worked_cost (cost_at j.parcels) (core_at r.machine c)) where
    bases_told : bases_of d.sent_to readings ≡ map (λ c. sent_to c d.terms.start.owners (story d ps) - worked_cost (cost_at j.parcels) (core_at r.machine c)) (upto (cores_of d.terms))
    bases_told = by-elements (bases_of d.sent_to readings) (λ c. sent_to c d.terms.start.owners (story d ps) - worked_cost (cost_at j.parcels) (core_at r.machine c)) (cores_of d.terms)
        (length-bases d.sent_to readings (let w = dealt.cores_wide in omega arith) ∙ dealt.cores_wide)
        (λ c near. base-get d.sent_to readings c (let w = dealt.cores_wide in omega arith) ∙ (λ i. dealt.cores c near i - loads c near i))

    abbrev head : Rules → List Step → LoadsView → RoundHead
    head rules steps loads = record { at = position steps; loads = loads; proposals = rules.propose loads (owners_after rules.start (tries_of steps)) }

    loads_told : loads_now j r ≡ loads_of d readings
    loads_told =
        (λ i. record { bucket = map (cost_in (recent (rules i) (told i))) (upto (length (rules i).start)); base = map (λ c. sent_to c (rules i).start (told i) - worked_cost (cost_at j.parcels) (core_at r.machine c)) (upto (rules i).cores) })
        ∙ (λ i. record { bucket = sym buckets_told i; base = sym bases_told i })

    pub round_told : round_now j r ≡ round_by d readings
    round_told =
        (λ i. head (rules i) (told i) (loads_told i))
        ∙ (λ i. record { at = sym dealt.sent i; loads = loads_of d readings; proposals = (rules_of d.terms).propose (loads_of d readings) (sym owners_told i) })
