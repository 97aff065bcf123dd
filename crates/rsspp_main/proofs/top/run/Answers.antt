use Rattle.rsspp_main.proofs.top.run.Goals as goal

pub returns-in-Some-hashing-clause-outcome : goal.returns-in-Some-hashing-clause-outcome
returns-in-Some-hashing-clause-outcome g c = rw (c.in-Demo.is, c.in-Some-hashing.is) (c.run_demo.ensures.outcome (g.S.Source.left c.args.source.now) (g.S.Source.faults c.args.source.now))
