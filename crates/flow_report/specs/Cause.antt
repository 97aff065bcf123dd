-- When a report may be refused.
use Rattle.std.specs.Prelude.{◌≡◌, ◌≤◌, ℕ, Result, OnOk, IfErr}
use Rattle.rss_base.specs.Faults.{Rose}
use Rattle.flow_report.specs.declared.fault.ReportFault.{ReportFault}
use Rattle.flow_report.specs.declared.fault.ReportFault.TheVariants.{NoMemory, WriteFault}

-- a failed write was counted where one is answered, and else none was
abbrev pub Blames : ReportFault → ℕ → ℕ → Type 0
Blames NoMemory before now = now ≡ before
Blames WriteFault before now = Rose before now

-- the count of failed writes tells whether one is answered
pub record HasReportCause {T : Type 0} (before now : ℕ) (result : Result T ReportFault) : Type 0 where
  pub later : before ≤ now
  pub blames : IfErr result (λ fault. Blames fault before now)
  pub kept : OnOk result (now ≡ before)
