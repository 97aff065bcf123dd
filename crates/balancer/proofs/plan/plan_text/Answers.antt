use Rattle.std.proofs.Common.{List, ℕ, ◌∙◌, subst}
use Rattle.rss_base.specs.Written.{Gets, GetsFront}
use Rattle.balancer.specs.PlanRead.{instance_of_plan}
use Rattle.balancer.proofs.plan.plan_text.Goals as goal

pub returns-in-Ok-write_whole-clause-done : goal.returns-in-Ok-write_whole-clause-done
returns-in-Ok-write_whole-clause-done g c = (
  instance_of_plan c.in-Ok.plan,
  c.in-Ok.ensures.comes.0,
  subst (λ (text : List ℕ). Gets (g.K.Sink.may_hold c.args.out.now) (g.K.Sink.may_hold c.write_whole.new.sink) text) (c.bytes.ensures ∙ c.in-Ok-make_text.ensures) c.in-Ok-write_whole.ensures.ok,
  c.in-Ok.ensures.comes.1,
)

pub returns-clause-front : goal.returns-clause-front
returns-clause-front g c = λ _. (
  instance_of_plan c.in-Ok.plan,
  c.in-Ok.ensures.comes.0,
  c.in-Ok.ensures.comes.1,
  subst (λ (text : List ℕ). GetsFront (g.K.Sink.may_hold c.args.out.now) (g.K.Sink.may_hold c.write_whole.new.sink) text) (c.bytes.ensures ∙ c.in-Ok-make_text.ensures) c.in-Err-write_whole.ensures.err,
)
