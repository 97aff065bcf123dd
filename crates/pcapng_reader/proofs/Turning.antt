-- What is done inside a block is so, whatever follows.
use Rattle.std.proofs.Common.{◌≡◌, ◌≢◌, ℕ, ◌+◌, ◌-◌, ◌≤◌, ◌<◌, ◌==◌, Bool, true, false, List, [], ◌++◌, length, drop, refl, sym, ap, subst, ◌∙◌, arith, length-append, append-nil, Some}
use Rattle.std.proofs.lemmas.Bool.Decides.{nat_tests}
use Rattle.pcapng_reader.specs.declared.fault.NgKind.TheVariants as breaks
use Rattle.pcapng_reader.specs.declared.stage.Adds.{Adds}
use Rattle.pcapng_reader.specs.declared.stage.Adds.TheVariants.{Options, Described}
use Rattle.pcapng_reader.specs.declared.stage.Block.{Block}
use Rattle.pcapng_reader.specs.Numbers.{number_at}
use Rattle.pcapng_reader.specs.Options.{padded}
use Rattle.pcapng_reader.specs.Scope.{Scope}
use Rattle.pcapng_reader.specs.Blocks.{before, story_at}
use Rattle.pcapng_reader.specs.Progress.{story_inside, waiting, AddsFit, work_inside, tail_of}
use Rattle.pcapng_reader.specs.Looks.{passed, Passes, IsSettled, StandsWhole, lacking, Turns}
use Rattle.pcapng_reader.proofs.Places.{number_at-append}
use Rattle.pcapng_reader.proofs.Insides.{inside_short, inside_tail, inside_whole, inside_passes, same_scope, broken_story}
use Rattle.pcapng_reader.proofs.Settling.{Tells, settles_story, skips_story}

-- more bytes are needed, or the input ends inside the block
pub lacking_turns : (n : ℕ) (block : Block) (ahead : List ℕ) (ended : Bool) → length ahead < block.rest → (ended ≡ false → length ahead < 262_144) → Turns n block ahead ended (lacking n block (length ahead) ended)
lacking_turns n block ahead false short few = (refl, few refl)
lacking_turns n block ahead true short few = λ scope held rest end.
    let all : ahead ++ rest ≡ ahead = ap (λ (w : List ℕ). ahead ++ w) (end refl) ∙ append-nil ahead in
    ap (λ (w : List ℕ). story_inside scope n block held w) all ∙ inside_short scope n block held ahead short

-- an interface's resolution is known
pub settles_passes : (block : Block) (ahead : List ℕ) (link snap resolution : ℕ) → block.adds ≡ Options link snap → 4 ≤ block.rest → block.rest ≤ block.total → ((more : List ℕ) → Tells block (ahead ++ more) resolution) →
    Passes block ahead 0 (Described (record { link = link; snap = snap; resolution = resolution }))
settles_passes block ahead link snap resolution adds a b tells = record {
  there = omega arith;
  tail = omega arith;
  fits = λ others held f. subst (λ (a : Adds). AddsFit a others held) adds f;
  less = rw adds (omega arith);
  story = λ scope n held rest. settles_story scope n block link snap resolution held (ahead ++ rest) adds a b (tells rest);
}

-- an option is let go
pub skips_passes : (block : Block) (ahead : List ℕ) (link snap size : ℕ) → block.adds ≡ Options link snap → block.rest ≤ block.total → 8 ≤ length ahead → number_at block.order 2 0 ahead ≢ 0 → number_at block.order 2 0 ahead ≢ 9 →
    number_at block.order 2 2 ahead ≡ size → 4 + padded size + 4 ≤ block.rest → 4 + padded size ≤ length ahead → Passes block ahead (4 + padded size) block.adds
skips_passes block ahead link snap size adds a long some other told fits there = record {
  there = there;
  tail = fits;
  fits = λ others held f. f;
  less = rw adds (omega arith);
  story = λ scope n held rest. skips_story scope n block link snap held ahead rest size adds a long some other told fits there;
}

less_inside : (adds : Adds) (rest count : ℕ) → IsSettled adds → 0 < count → count + 4 ≤ rest → work_inside adds (rest - count) < work_inside adds rest
less_inside adds rest count s a b = by_adds adds s
  where
    by_adds : (adds : Adds) → IsSettled adds → work_inside adds (rest - count) < work_inside adds rest
    by_adds (Options link snap) s = absurd s
    by_adds _ s = omega arith

-- bytes of a block are stepped over
pub over_passes : (block : Block) (ahead : List ℕ) (count : ℕ) → IsSettled block.adds → block.rest ≤ block.total → 0 < count → count ≤ length ahead → count + 4 ≤ block.rest → Passes block ahead count block.adds
over_passes block ahead count settled a some there fits = record {
  there = there;
  tail = fits;
  fits = λ others held f. f;
  less = less_inside block.adds block.rest count settled some fits;
  story = λ scope n held rest.
      let longer : count ≤ length (ahead ++ rest) = simp length-append (omega arith) in
      inside_passes scope n block held (ahead ++ rest) count block.adds longer fits a (λ whole. same_scope block.adds block (passed block count block.adds) scope (ahead ++ rest) (drop count (ahead ++ rest)) settled refl) refl;
}

differs : (a b : ℕ) → (a ≡ b → ⊥) → (a == b) ≡ false
differs a b h = grind (arith, nat_tests)

equals : (a b : ℕ) → a ≡ b → (a == b) ≡ true
equals a b h = grind (arith, nat_tests)

-- the total length at the end is another
pub tail_turns : (n : ℕ) (block : Block) (ahead : List ℕ) (tail : ℕ) → 4 ≤ block.rest → block.rest ≤ length ahead → tail ≡ number_at block.order 4 (block.rest - 4) ahead → (tail ≡ block.total → ⊥) →
    (scope : Scope) (held rest : List ℕ) → story_inside scope n block held (ahead ++ rest) ≡ record { packets = []; broken = Some (record { block = n; kind = breaks.Tail; value = tail }) }
tail_turns n block ahead tail a there told other scope held rest =
    let longer : block.rest ≤ length (ahead ++ rest) = simp length-append (omega arith) in
    let same : tail_of block (ahead ++ rest) ≡ tail = number_at-append block.order 4 (block.rest - 4) ahead rest (omega arith) ∙ sym told in
    inside_tail scope n block held (ahead ++ rest) longer (ap (λ t. t == block.total) same ∙ differs tail block.total other)
    ∙ ap (λ t. broken_story n breaks.Tail t) same

-- the block stands whole
pub whole_turns : (block : Block) (ahead : List ℕ) (tail : ℕ) → IsSettled block.adds → 4 ≤ block.rest → block.rest ≤ length ahead → tail ≡ number_at block.order 4 (block.rest - 4) ahead → tail ≡ block.total → StandsWhole block ahead
whole_turns block ahead tail settled a there told same = record {
  there = there;
  settled = settled;
  story = λ scope n held rest.
      let longer : block.rest ≤ length (ahead ++ rest) = simp length-append (omega arith) in
      let total : tail_of block (ahead ++ rest) ≡ block.total = number_at-append block.order 4 (block.rest - 4) ahead rest (omega arith) ∙ (sym told ∙ same) in
      inside_whole scope n block held (ahead ++ rest) longer (equals (tail_of block (ahead ++ rest)) block.total total)
      ∙ ap (λ (s : Scope). before (waiting block.adds held) (story_at s (n + 1) (drop block.rest (ahead ++ rest)))) (same_scope block.adds block block scope (ahead ++ rest) [] settled refl);
}
