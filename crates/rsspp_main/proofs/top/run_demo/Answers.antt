use Rattle.std.proofs.Common.{refl}
use Rattle.rsspp_main.proofs.top.run_demo.Goals as goal

pub returns-in-Ok : goal.returns-in-Ok
returns-in-Ok g c = record {
  outcome = λ left reads. rw c.in-Some.is (c.in-Ok.ensures.outcome left reads, refl, tt);
}

pub returns-in-Err : goal.returns-in-Err
returns-in-Err g c = record {
  outcome = λ left reads. rw c.in-Some.is (c.in-Err.ensures.outcome left reads, refl, tt);
}

pub returns-in-Ok-threaded_demo : goal.returns-in-Ok-threaded_demo
returns-in-Ok-threaded_demo g c = record {
  outcome = λ left reads. rw c.in-None.is (c.in-Ok-threaded_demo.ensures.outcome left reads, refl, c.in-Ok-threaded_demo.ensures.trace);
}

pub returns-in-Err-threaded_demo : goal.returns-in-Err-threaded_demo
returns-in-Err-threaded_demo g c = record {
  outcome = λ left reads. rw c.in-None.is (c.in-Err-threaded_demo.ensures.outcome left reads, refl, tt);
}
