-- From the clauses of a plan text to the outcome of a plan.
use Rattle.std.proofs.Common.{◌≡◌, ◌≢◌, refl, Some, Result, Err}
use Rattle.std.specs.Io.KnownBytes.{IsAtEnd}
use Rattle.rss_base.specs.Written.{GetsFront}
use Rattle.balancer.specs.PlanAnswer.{Spells, Refuses, MayBlameRead, MayBlameWrite}
use Rattle.balancer.specs.PlanForm.{Instance}
use Rattle.balancer.specs.PlanText.{plan_of}
use Rattle.balancer.specs.declared.plan_fault.PlanFault.{PlanFault}
use Rattle.balancer.specs.declared.plan_fault.PlanFault.TheVariants as planning
use Rattle.rsspp_main.specs.Plan.{plan_fault, ExplainsPlan}
use Rattle.rsspp_main.specs.Run.{Ends, Silent}

-- a fault of the plan text
pub plan_failed : (old new : Ends) (fault : PlanFault) → Refuses old.left fault → (fault ≢ planning.WriteFault → Silent old new)
    → (◌≡◌ {A = Result (Unit {0}) PlanFault} (Err fault) (Err planning.WriteFault) → (p : Instance) × Spells old.left p × IsAtEnd new.left × GetsFront old.may_hold new.may_hold (plan_of p))
    → MayBlameRead fault old.read_faults new.read_faults → MayBlameWrite fault old.write_faults new.write_faults → ExplainsPlan old new (Some (plan_fault fault))
plan_failed old new planning.ReadFault refuses silent front reads writes = (reads, silent (λ e. cc), writes)
plan_failed old new planning.WriteFault refuses silent front reads writes = let f = front refl in (writes, f.0, f.1, f.2, f.3, reads)
plan_failed old new (planning.BadLine k) refuses silent front reads writes = (refuses, silent (λ e. cc), record { reads = reads; writes = writes })
plan_failed old new planning.NoMemory refuses silent front reads writes = (silent (λ e. cc), record { reads = reads; writes = writes })
