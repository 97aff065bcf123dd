use Rattle.std.proofs.Common.{Err, ap, subst}
use Rattle.std.specs.Io.KnownBytes.{Keeps}
use Rattle.pcapng_reader.specs.Lent.{classic_known}
use Rattle.rsspp_main.proofs.Inputs.{named_kept, not_begun, quiet_of, rose_of}
use Rattle.rsspp_main.proofs.InputReads.{given_of, is_read, run_broken, run_done, run_ended}
use Rattle.rsspp_main.proofs.serial.run_input.Goals as goal

pub returns-in-Err-clause-refused : goal.returns-in-Err-clause-refused
returns-in-Err-clause-refused g c =
    let faults = g.S.Source.faults in
    let e = c.in-Err.ensures in
    rw c.fault_of_opening.ensures (not_begun c.args.options.now.packets _ _ _ _ c.in-Err.error e.few
    (quiet_of faults g.S.Source.origin c.args.source.now c.read.new.source c.in-Err.error e.refused)
    (rose_of faults g.S.Source.origin c.args.source.now c.read.new.source c.in-Err.error e.refused))

pub run_to_report-run-requires-clause-named : goal.run_to_report-run-requires-clause-named
run_to_report-run-requires-clause-named g c κs within =
    let left = g.S.Source.left in
    let given = given_of left c.over-input.result in
    let keeps = subst (λ (s : g.row.S.Denot). Keeps (classic_known (left s)) given) c.in-Ok.ensures.begun c.over-input.ensures.left in
    named_kept g.N.RunName.packets c.args.options.now.packets (classic_known (left c.args.source.now)) given keeps c.requires.named

pub returns-in-Some-clause-refused : goal.returns-in-Some-clause-refused
returns-in-Some-clause-refused g c =
    let left = g.S.Source.left in
    let faults = g.S.Source.faults in
    let read = c.in-Ok.ensures in
    let start = c.over-input.result in
    let over = c.over-input.ensures in
    let run = c.run_to_report-run in
    let broken = c.broken-broken.ensures in
    let inner = c.into_inner.ensures in
    let old = c.args.source.now in
    let last = run.new.source in
    let b = c.broken-broken.result in
    let r = is_read left faults g.S.Source.origin old start last b read.begun read.few read.quiet over.left over.origin over.whole over.now run.ensures.origin
    broken.value broken.broken broken.none broken.plain inner.same_reference inner.now c.source-1.given.1 in
    let all = c.in-Ok-run.ensures.run in
    run_broken left faults old start last _ b r c.args.options.now.packets c.in-Some.e all.0 all.1 c.in-Ok-run.ensures.end c.in-Some.is c.in-Ok-run.ensures.cause

pub returns-in-None-clause-whole : goal.returns-in-None-clause-whole
returns-in-None-clause-whole g c =
    let left = g.S.Source.left in
    let faults = g.S.Source.faults in
    let read = c.in-Ok.ensures in
    let start = c.over-input.result in
    let over = c.over-input.ensures in
    let run = c.run_to_report-run in
    let broken = c.broken-broken.ensures in
    let inner = c.into_inner.ensures in
    let old = c.args.source.now in
    let last = run.new.source in
    let b = c.broken-broken.result in
    let r = is_read left faults g.S.Source.origin old start last b read.begun read.few read.quiet over.left over.origin over.whole over.now run.ensures.origin
    broken.value broken.broken broken.none broken.plain inner.same_reference inner.now c.source-1.given.1 in
    let all = c.in-Ok-run.ensures.run in
    run_done left faults old start last _ b r c.args.options.now.packets all.0 all.1 c.in-Ok-run.ensures.end c.in-None.is c.in-Ok-run.ensures.cause

pub returns-in-Err-run-clause-refused : goal.returns-in-Err-run-clause-refused
returns-in-Err-run-clause-refused g c =
    let left = g.S.Source.left in
    let faults = g.S.Source.faults in
    let read = c.in-Ok.ensures in
    let start = c.over-input.result in
    let over = c.over-input.ensures in
    let run = c.run_to_report-run in
    let broken = c.broken-broken.ensures in
    let inner = c.into_inner.ensures in
    let old = c.args.source.now in
    let last = run.new.source in
    let b = c.broken-broken.result in
    let r = is_read left faults g.S.Source.origin old start last b read.begun read.few read.quiet over.left over.origin over.whole over.now run.ensures.origin
    broken.value broken.broken broken.none broken.plain inner.same_reference inner.now c.source-1.given.1 in
    let e = c.in-Err-run.ensures in
    let fault = c.in-Err-run.fault in
    rw c.fault_of_run_over.ensures (run_ended left faults old start last _ b r c.args.options.now.packets fault e.refused e.cause (λ short. e.memory (ap Err short)))
