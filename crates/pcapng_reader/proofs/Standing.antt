-- Each step of the reading stands.
use Rattle.std.proofs.Common.{◌≡◌, inl, inr, ℕ, ◌+◌, ◌-◌, ◌*◌, ◌≤◌, ◌<◌, nat_lt, Bool, true, false, [], length, refl, sym, ap, ◌∙◌, arith, length-drop, if◌then◌else◌}
use Rattle.std.proofs.lemmas.Bool.{cases_lt}
use Rattle.pcapng_reader.specs.declared.fault.NgBreak.{NgBreak}
use Rattle.pcapng_reader.specs.declared.stage.Adds.{Adds}
use Rattle.pcapng_reader.specs.declared.stage.Adds.TheVariants.{Nothing, Section, Options, Described, Packet as Waits}
use Rattle.pcapng_reader.specs.declared.stage.Block.{Block}
use Rattle.pcapng_reader.specs.declared.stage.Stage.{Stage}
use Rattle.pcapng_reader.specs.declared.stage.Stage.TheVariants.{Between, Inside, Broken, Ended}
use Rattle.pcapng_reader.specs.declared.look.Look.TheVariants as looks
use Rattle.pcapng_reader.specs.declared.turn.Turn.TheVariants as turns
use Rattle.pcapng_reader.specs.Progress.{Progress, BlockFits, work_inside, work_at, work}
use Rattle.pcapng_reader.specs.Looks.{Looks, Turns, Passes, StandsWhole}
use Rattle.pcapng_reader.specs.Steps.{settled, finished, opened_at, passed_over, closed, Stands, Nears}
use Rattle.pcapng_reader.proofs.Insides.{below}
use Rattle.pcapng_reader.proofs.Tellings.{settled_tells, broken_between, ended_between, broken_inside, opened_tells, passed_tells, closed_tells}

work_of : (p : Progress) (s : Stage) → p.stage ≡ s → work p ≡ (4_294_967_296 - p.number) * 8_589_934_592 + work_at s
work_of p s e = ap (λ (s : Stage). (4_294_967_296 - p.number) * 8_589_934_592 + work_at s) e

some_work : (adds : Adds) (rest : ℕ) → rest ≤ work_inside adds rest
some_work (Options link snap) rest = omega arith
some_work Nothing rest = omega arith
some_work Section rest = omega arith
some_work (Described i) rest = omega arith
some_work (Waits link nanos original) rest = omega arith

little_work : (adds : Adds) (rest : ℕ) → work_inside adds rest ≤ rest + 1
little_work (Options link snap) rest = omega arith
little_work Nothing rest = omega arith
little_work Section rest = omega arith
little_work (Described i) rest = omega arith
little_work (Waits link nanos original) rest = omega arith

between_work : (b : Bool) → (if b then 8_589_934_591 else 8_589_934_590) ≤ 8_589_934_591
between_work true = omega arith
between_work false = omega arith

pub broken_turn : (p : Progress) (block : Block) (ended : Bool) (e : NgBreak) → p.stage ≡ Inside block → 4 ≤ block.rest → Turns p.number block p.ahead ended (turns.Breaks e) → Stands p (finished (Broken e) p) ended false
broken_turn p block ended e stage tail turn =
    let some = some_work block.adds block.rest in
    let old = work_of p (Inside block) stage in
    record {
      kept = λ rest end. broken_inside p block e rest stage (turn p.scope p.held rest end);
      more = λ h. cc;
      less = λ h. omega (arith, old, some, tail);
      over = λ h. cc;
      going = λ h. cc;
    }

pub passes_turn : (p : Progress) (block : Block) (ended : Bool) (count : ℕ) (adds : Adds) → p.stage ≡ Inside block → Passes block p.ahead count adds → Stands p (passed_over block count adds p) ended false
passes_turn p block ended count adds stage turn =
    let old = work_of p (Inside block) stage in
    let less = turn.less in
    record {
      kept = λ rest end. passed_tells p block count adds rest stage turn.there (turn.story p.scope p.number p.held rest);
      more = λ h. cc;
      less = λ h. omega (arith, old, less);
      over = λ h. cc;
      going = λ h. cc;
    }

pub whole_turn : (p : Progress) (block : Block) (ended : Bool) → p.stage ≡ Inside block → BlockFits block (length p.scope.interfaces) (length p.held) p.number → StandsWhole block p.ahead → Stands p (closed block p) ended false
whole_turn p block ended stage fits turn =
    let old = work_of p (Inside block) stage in
    let some = some_work block.adds block.rest in
    let new = between_work (nat_lt 0 block.rest) in
    record {
      kept = λ rest end. closed_tells p block (length p.scope.interfaces) rest stage turn.settled fits.adds (turn.story p.scope p.number p.held rest);
      more = λ h. cc;
      less = λ h. omega (arith, old, some, new, fits.numbered);
      over = λ h. cc;
      going = λ h. cc;
    }

pub end_look : (p : Progress) (ended : Bool) → p.stage ≡ Between 0 → p.held ≡ [] → Looks p.scope p.number p.ahead ended looks.End → Stands p (finished Ended p) ended false
end_look p ended stage none look =
    let old = work_of p (Between 0) stage in
    record {
      kept = λ rest end. ended_between p rest stage none look.1 (end look.0);
      more = λ h. cc;
      less = λ h. omega (arith, old);
      over = λ h. look.0;
      going = λ h. cc;
    }

pub broken_look : (p : Progress) (ended : Bool) (e : NgBreak) → p.stage ≡ Between 0 → p.held ≡ [] → Looks p.scope p.number p.ahead ended (looks.Breaks e) → Stands p (finished (Broken e) p) ended false
broken_look p ended e stage none look =
    let old = work_of p (Between 0) stage in
    record {
      kept = λ rest end. broken_between p e rest stage none (look rest end);
      more = λ h. cc;
      less = λ h. omega (arith, old);
      over = λ h. cc;
      going = λ h. cc;
    }

pub opens_look : (p : Progress) (ended : Bool) (front held : ℕ) (block : Block) → p.stage ≡ Between 0 → p.held ≡ [] → block.rest < 4_294_967_296 → Looks p.scope p.number p.ahead ended (looks.Opens front held block) → Stands p (opened_at front held block p) ended false
opens_look p ended front held block stage none small look =
    let old = work_of p (Between 0) stage in
    let new = little_work block.adds block.rest in
    record {
      kept = λ rest end. opened_tells p block front held rest stage none look.there (look.story rest end);
      more = λ h. cc;
      less = λ h. omega (arith, old, new, small);
      over = λ h. cc;
      going = λ h. cc;
    }

-- the block before is let go, and then a step is made
pub settled_step : (p q : Progress) (skip : ℕ) (ended lacks : Bool) → p.stage ≡ Between skip → skip ≤ length p.ahead → (skip ≡ 0 → p.held ≡ []) → Stands (settled skip p) q ended lacks → Stands p q ended lacks
settled_step p q skip ended lacks stage there none s =
    let old = work_of p (Between skip) stage in
    record {
      kept = λ rest end. s.kept rest end ∙ settled_tells p skip rest stage there;
      more = λ h. let m = s.more h in (m.0, m.1, nearer m.2);
      less = λ h. let less = s.less h in let most = settled_work skip in omega (arith, old, less, most);
      over = s.over;
      going = s.going;
    }
  where
    settled_work : (skip : ℕ) → 8_589_934_590 ≤ work_at (Between skip)
    settled_work skip = by_test (nat_lt 0 skip)
      where
        by_test : (b : Bool) → 8_589_934_590 ≤ (if b then 8_589_934_591 else 8_589_934_590)
        by_test true = omega arith
        by_test false = omega arith

    nearer : Nears (settled skip p) q → Nears p q
    nearer h = elim (cases_lt 0 skip) [
      | inl some ↦
          let at : work_at (Between skip) ≡ 8_589_934_591 = rw (below 0 skip some) refl in
          let old = work_of p (Between skip) stage in
          inl (elim h [ inl less ↦ omega (arith, old, at, less) | inr same ↦ omega (arith, old, at, same.0) ])
      | inr few ↦
          let zero : skip ≡ 0 = omega arith in
          let held : length p.held ≡ 0 = ap length (none zero) in
          let ahead = length-drop skip p.ahead in
          let old : work p ≡ work (settled skip p) = work_of p (Between skip) stage ∙ ap (λ k. (4_294_967_296 - p.number) * 8_589_934_592 + work_at (Between k)) zero in
          elim h [ inl less ↦ inl (omega (arith, old, less)) | inr same ↦ inr (same.0 ∙ sym old, omega (arith, same.1, held, ahead, zero)) ]
    ]
