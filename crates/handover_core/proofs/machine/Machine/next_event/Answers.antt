use Rattle.std.proofs.Common.{sym, ◌∙◌}
use Rattle.handover_core.proofs.NextEvents.{next-end, next-take, next-claim, next-release}
use Rattle.handover_core.proofs.machine.Machine.next_event.Goals as goal

pub returns-in-Some : goal.returns-in-Some
returns-in-Some c = sym (next-end c.args.self.now c.in-Some.event (sym c.enabled.ensures ∙ c.if-enabled.false) (sym c.next_end.ensures ∙ c.in-Some.is))

pub returns-in-Some-next_take : goal.returns-in-Some-next_take
returns-in-Some-next_take c =
    sym (next-take c.args.self.now c.in-Some-next_take.event (sym c.enabled.ensures ∙ c.if-enabled.false) (sym c.next_end.ensures ∙ c.in_default.is) (sym c.next_take.ensures ∙ c.in-Some-next_take.is))

pub returns-in-Some-next_claim : goal.returns-in-Some-next_claim
returns-in-Some-next_claim c =
    sym (next-claim c.args.self.now c.in-Some-next_claim.event (sym c.enabled.ensures ∙ c.if-enabled.false) (sym c.next_end.ensures ∙ c.in_default.is) (sym c.next_take.ensures ∙ c.in_default-next_take.is)
    (sym c.next_claim.ensures ∙ c.in-Some-next_claim.is))

pub returns : goal.returns
returns c =
    c.next_release.ensures
    ∙ sym (next-release c.args.self.now (sym c.enabled.ensures ∙ c.if-enabled.false) (sym c.next_end.ensures ∙ c.in_default.is) (sym c.next_take.ensures ∙ c.in_default-next_take.is) (sym c.next_claim.ensures ∙ c.in_default-next_claim.is))
