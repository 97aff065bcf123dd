use Rattle.std.proofs.Common.{◌≡◌, ◌∙◌, ℕ, List, [], inl, refl, sym, ap, subst, None, Some}
use Rattle.std.specs.Prelude.{MatchResult}
use Rattle.toeplitz.specs.declared.key.Key.{Key}
use Rattle.dispatch_loop.specs.OptionsView.{OptionsView}
use Rattle.pcapng_reader.specs.Lent.{Begun}
use Rattle.rsspp_main.specs.Listing.{ExplainsListing, Lists, classic_outcomes, listing}
use Rattle.rsspp_main.specs.Run.{ends}
use Rattle.rsspp_main.proofs.Inputs.{nothing_taken, not_listed, listing_over, quiet_of, rose_of}
use Rattle.rsspp_main.proofs.InputReads.{given_of, is_read}
use Rattle.rsspp_main.proofs.Listings.{gets_none}
use Rattle.rsspp_main.proofs.modes.hash_listing.Goals as goal

pub returns-in-Err-clause-outcome : goal.returns-in-Err-clause-outcome
returns-in-Err-clause-outcome g c = inl (record { few = nothing_taken _; reads = refl; unwritten = record { silent = λ bytes h. h; writes = refl } })

pub returns-in-Err-read-clause-outcome : goal.returns-in-Err-read-clause-outcome
returns-in-Err-read-clause-outcome g c =
    let left = g.S.Source.left in
    let faults = g.S.Source.faults in
    let writes = g.K.Sink.faults in
    let holds = g.K.Sink.may_hold in
    let o = c.args.command.now.options in
    let e = c.in-Err-read.ensures in
    let error = c.in-Err-read.error in
    let old = ends (left c.args.source.now) (faults c.args.source.now) (writes c.args.out.now) (holds c.args.out.now) in
    let new = ends (left c.read.new.source) (faults c.read.new.source) (writes c.args.out.now) (holds c.args.out.now) in
    rw c.fault_of_opening.ensures (not_listed o.packets (listing o.key o.start.owners) old new error e.few
    (quiet_of faults g.S.Source.origin c.args.source.now c.read.new.source error e.refused)
    (rose_of faults g.S.Source.origin c.args.source.now c.read.new.source error e.refused)
    (record { silent = λ bytes h. h; writes = refl })
    (record { front = ([], [], refl, gets_none (holds c.args.out.now)); whole = λ calm. gets_none (holds c.args.out.now) }))

pub returns-clause-outcome : goal.returns-clause-outcome
returns-clause-outcome g c =
    let left = g.S.Source.left in
    let faults = g.S.Source.faults in
    let writes = g.K.Sink.faults in
    let holds = g.K.Sink.may_hold in
    let o = c.args.command.now.options in
    let text = listing o.key o.start.owners in
    let read = c.in-Ok-read.ensures in
    let begins = c.over-input.result in
    let over = c.over-input.ensures in
    let run = c.list_hashes-listed in
    let broken = c.broken-broken.ensures in
    let inner = c.into_inner.ensures in
    let last = run.new.source in
    let b = c.broken-broken.result in
    let r = is_read left faults g.S.Source.origin c.args.source.now begins last b read.begun read.few read.quiet over.left over.origin over.whole over.now run.ensures.origin
    broken.value broken.broken broken.none broken.plain inner.same_reference inner.now c.source-1.given.1 in
    let old = ends (left c.args.source.now) (faults c.args.source.now) (writes c.args.out.now) (holds c.args.out.now) in
    let new = ends (left last.source.now) (faults last.source.now) (writes run.new.out) (holds run.new.out) in
    let given = given_of left begins in
    let rest = given_of left last in
    let untouched = (last ≡ begins) × (run.new.out ≡ c.args.out.now) in
    let start = ends (left c.args.source.now) (faults begins.source.now) (writes c.args.out.now) (holds c.args.out.now) in
    let i = c.options.inside in
    let by_key = subst (λ (k : Key). MatchResult run.result (λ _. Lists (classic_outcomes i.packets given rest untouched) (listing k i.start.owners) start new None) (λ fault. Lists (classic_outcomes i.packets given rest untouched) (listing k i.start.owners) start new (Some fault)))
    c.in-Ok.ensures (run.ensures.outcome (left c.args.source.now) (left last.source.now)) in
    let lists = subst (λ (v : OptionsView). MatchResult run.result (λ _. Lists (classic_outcomes v.packets given rest untouched) (listing v.key v.start.owners) start new None) (λ fault. Lists (classic_outcomes v.packets given rest untouched) (listing v.key v.start.owners) start new (Some fault)))
    c.options.view_is by_key in
    let explained = listing_over o.packets text old new given rest b untouched r.through (faults begins.source.now) r.quiet run.result lists (λ same. record {
      few = (r.still same.0).0;
      reads = (r.still same.0).2;
      unwritten = record { silent = subst (λ (k : g.row.K.Denot). (bytes : List ℕ) → holds c.args.out.now bytes → holds k bytes) (sym same.1) (λ bytes h. h); writes = ap writes same.1 };
    }) in
    subst (λ (s : g.row.S.Denot). MatchResult c.answer_to_listing.result (λ _. ExplainsListing o.packets text old (ends (left s) (faults s) (writes run.new.out) (holds run.new.out)) None) (λ fault. ExplainsListing o.packets text old (ends (left s) (faults s) (writes run.new.out) (holds run.new.out)) (Some fault)))
    (sym r.now_is) (rw c.answer_to_listing.ensures explained)

pub returns-clause-origin : goal.returns-clause-origin
returns-clause-origin g c =
    let origins = c.list_hashes-listed.ensures.origin ∙ c.over-input.ensures.origin in
    let name = c.into_inner.ensures.same_reference ∙ ap (λ (b : Begun g.S.Source.Origin). b.lent) origins in
    let ended = c.source-1.given.1 (sym name) ∙ c.into_inner.ensures.now in
    ap g.S.Source.origin ended ∙ (ap (λ (b : Begun g.S.Source.Origin). b.under) origins ∙ c.in-Ok-read.ensures.origin)
