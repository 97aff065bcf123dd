-- The next event is found part by part.
use Rattle.std.proofs.Common.{◌≡◌, ◌++◌, false, ◌∙◌, Some, None}
use Rattle.std.specs.Prelude.{find}
use Rattle.handover_core.specs.declared.event.Event.{Event}
use Rattle.handover_core.specs.declared.event.Event.TheVariants.{Send, SendEnd, Take, Claim, Release}
use Rattle.handover_core.specs.State.{MachineView}
use Rattle.handover_core.specs.Machine.{enabled, each_core, each_pair, next_event}
use Rattle.handover_core.proofs.Searches.{find-first, find-second, found-one}

pub next-end : (m : MachineView) (e : Event) → enabled m Send ≡ false → find (enabled m) (each_core m SendEnd) ≡ Some e → next_event m ≡ Some e
next-end m e s f = found-one (enabled m) Send (each_core m SendEnd ++ (each_core m Take ++ (each_pair m Claim ++ each_pair m Release))) s
    ∙ find-first (enabled m) (each_core m SendEnd) (each_core m Take ++ (each_pair m Claim ++ each_pair m Release)) e f

behind-ends : (m : MachineView) → enabled m Send ≡ false → find (enabled m) (each_core m SendEnd) ≡ None → next_event m ≡ find (enabled m) (each_core m Take ++ (each_pair m Claim ++ each_pair m Release))
behind-ends m s f = found-one (enabled m) Send (each_core m SendEnd ++ (each_core m Take ++ (each_pair m Claim ++ each_pair m Release))) s
    ∙ find-second (enabled m) (each_core m SendEnd) (each_core m Take ++ (each_pair m Claim ++ each_pair m Release)) f

pub next-take : (m : MachineView) (e : Event) → enabled m Send ≡ false → find (enabled m) (each_core m SendEnd) ≡ None → find (enabled m) (each_core m Take) ≡ Some e → next_event m ≡ Some e
next-take m e s f g = behind-ends m s f ∙ find-first (enabled m) (each_core m Take) (each_pair m Claim ++ each_pair m Release) e g

pub next-claim : (m : MachineView) (e : Event) → enabled m Send ≡ false → find (enabled m) (each_core m SendEnd) ≡ None → find (enabled m) (each_core m Take) ≡ None → find (enabled m) (each_pair m Claim) ≡ Some e → next_event m ≡ Some e
next-claim m e s f g h = behind-ends m s f ∙ (find-second (enabled m) (each_core m Take) (each_pair m Claim ++ each_pair m Release) g ∙ find-first (enabled m) (each_pair m Claim) (each_pair m Release) e h)

pub next-release : (m : MachineView) → enabled m Send ≡ false → find (enabled m) (each_core m SendEnd) ≡ None → find (enabled m) (each_core m Take) ≡ None → find (enabled m) (each_pair m Claim) ≡ None → next_event m ≡ find (enabled m) (each_pair m Release)
next-release m s f g h = behind-ends m s f ∙ (find-second (enabled m) (each_core m Take) (each_pair m Claim ++ each_pair m Release) g ∙ find-second (enabled m) (each_pair m Claim) (each_pair m Release) h)
