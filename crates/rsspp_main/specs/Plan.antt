-- What each outcome of a plan says of the bytes that were read and written.
use Rattle.std.specs.Prelude.{◌≡◌, Option, None, Some, IfSome, Err}
use Rattle.std.specs.Io.KnownBytes.{IsAtEnd}
use Rattle.rss_base.specs.Faults.{Rose}
use Rattle.rss_base.specs.Written.{Gets, GetsFront}
use Rattle.balancer.specs.PlanAnswer.{Spells}
use Rattle.balancer.specs.PlanForm.{Instance, instance_of}
use Rattle.balancer.specs.PlanText.{plan_of}
use Rattle.balancer.specs.declared.plan_fault.PlanFault.{PlanFault}
use Rattle.balancer.specs.declared.plan_fault.PlanFault.TheVariants as planning
use Rattle.rsspp_main.specs.declared.fault.TopFault.{TopFault}
use Rattle.rsspp_main.specs.declared.fault.TopFault.TheVariants.{Words, Capture, Block, Line, ReadFault, Undrawn, WriteFault, NoMemory, TooMany}
use Rattle.rsspp_main.specs.Run.{Ends, NoCallFailed, NoReadFailed, NoWriteFailed, Silent}

-- a fault of a plan, as the fault of the whole
abbrev pub plan_fault : PlanFault → TopFault
plan_fault planning.ReadFault = ReadFault
plan_fault planning.WriteFault = WriteFault
plan_fault (planning.BadLine line) = Line line
plan_fault planning.NoMemory = NoMemory

-- None is the outcome of a run that was done: the text spelled an instance and was read to its end, and the output got its plan
abbrev pub ExplainsPlan : Ends → Ends → Option TopFault → Type 0
ExplainsPlan old new None = (p : Instance) × Spells old.left p × IsAtEnd new.left × Gets old.may_hold new.may_hold (plan_of p) × NoCallFailed old new
ExplainsPlan old new (Some (Line k)) = IfSome old.left (λ bytes. instance_of bytes ≡ Err k) × Silent old new × NoCallFailed old new
ExplainsPlan old new (Some ReadFault) = Rose old.read_faults new.read_faults × Silent old new × NoWriteFailed old new
ExplainsPlan old new (Some WriteFault) =
    Rose old.write_faults new.write_faults × (p : Instance) × Spells old.left p × IsAtEnd new.left × GetsFront old.may_hold new.may_hold (plan_of p) × NoReadFailed old new
ExplainsPlan old new (Some NoMemory) = Silent old new × NoCallFailed old new
ExplainsPlan old new (Some Undrawn) = ⊥
ExplainsPlan old new (Some (Capture e)) = ⊥
ExplainsPlan old new (Some (Block e)) = ⊥
ExplainsPlan old new (Some (TooMany n)) = ⊥
ExplainsPlan old new (Some (Words w)) = ⊥
