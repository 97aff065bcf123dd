-- The story inside a block, as its bytes are let go.
use Rattle.std.proofs.Common.{◌≡◌, inl, inr, ℕ, ◌+◌, ◌-◌, ◌≤◌, ◌<◌, ◌==◌, not, nat_lt, Bool, true, false, List, [], ◌∷◌, length, drop, refl, sym, ap, ◌∙◌, arith, length-drop, Some}
use Rattle.std.proofs.lemmas.List.{drop-drop}
use Rattle.std.proofs.lemmas.Bool.{cases_lt}
use Rattle.std.proofs.lemmas.Bool.Decides.{nat_tests}
use Rattle.pcapng_reader.specs.declared.byte_order.ByteOrder.{ByteOrder}
use Rattle.pcapng_reader.specs.declared.fault.NgKind.TheVariants as breaks
use Rattle.pcapng_reader.specs.declared.fault.NgKind.{NgKind}
use Rattle.pcapng_reader.specs.declared.stage.Adds.{Adds}
use Rattle.pcapng_reader.specs.declared.stage.Adds.TheVariants.{Nothing, Section, Options, Described, Packet as Waits}
use Rattle.pcapng_reader.specs.declared.stage.Block.{Block}
use Rattle.pcapng_reader.specs.Scope.{Scope}
use Rattle.pcapng_reader.specs.Breaks.{row, first_row}
use Rattle.pcapng_reader.specs.Blocks.{Packet, Story, before, unless, story_at}
use Rattle.pcapng_reader.specs.Progress.{story_inside, scope_by, waiting, tail_of}
use Rattle.pcapng_reader.specs.Looks.{passed, IsSettled}
use Rattle.pcapng_reader.proofs.Places.{number_at-drop}

pub below : (a b : ℕ) → a < b → nat_lt a b ≡ true
below a b h = grind (arith, nat_tests)

pub above : (a b : ℕ) → b ≤ a → nat_lt a b ≡ false
above a b h = grind (arith, nat_tests)

abbrev pub broken_story : ℕ → NgKind → ℕ → Story
broken_story n kind value = record { packets = []; broken = Some (record { block = n; kind = kind; value = value }) }

-- the input ends inside the block
pub inside_short : (scope : Scope) (n : ℕ) (block : Block) (held input : List ℕ) → length input < block.rest →
    story_inside scope n block held input ≡ record { packets = []; broken = Some (record { block = n; kind = breaks.Short; value = block.total - block.rest + length input }) }
unfolding story_inside
inside_short scope n block held input h = rw (below (length input) block.rest h) refl

-- what is left of a block that is there to its end
abbrev pub ends_by : Bool → ℕ → ℕ → List Packet → Story → Story
ends_by good n tail packets story = unless (first_row n (row (not good) breaks.Tail tail ∷ [])) (before packets story)

pub inside_long : (scope : Scope) (n : ℕ) (block : Block) (held input : List ℕ) → block.rest ≤ length input →
    story_inside scope n block held input
    ≡ ends_by (tail_of block input == block.total) n (tail_of block input) (waiting block.adds held) (story_at (scope_by block.adds block scope input) (n + 1) (drop block.rest input))
unfolding story_inside
inside_long scope n block held input h = rw (above (length input) block.rest h) refl

-- the total length at the end is another
pub inside_tail : (scope : Scope) (n : ℕ) (block : Block) (held input : List ℕ) → block.rest ≤ length input → (tail_of block input == block.total) ≡ false →
    story_inside scope n block held input ≡ record { packets = []; broken = Some (record { block = n; kind = breaks.Tail; value = tail_of block input }) }
inside_tail scope n block held input h t =
    inside_long scope n block held input h
    ∙ ap (λ good. ends_by good n (tail_of block input) (waiting block.adds held) (story_at (scope_by block.adds block scope input) (n + 1) (drop block.rest input))) t

pub inside_whole : (scope : Scope) (n : ℕ) (block : Block) (held input : List ℕ) → block.rest ≤ length input → (tail_of block input == block.total) ≡ true →
    story_inside scope n block held input ≡ before (waiting block.adds held) (story_at (scope_by block.adds block scope input) (n + 1) (drop block.rest input))
inside_whole scope n block held input h t =
    inside_long scope n block held input h
    ∙ ap (λ good. ends_by good n (tail_of block input) (waiting block.adds held) (story_at (scope_by block.adds block scope input) (n + 1) (drop block.rest input))) t

-- what a block adds doesn't depend on the bytes that are still to come, once its options were read
pub same_scope : (adds : Adds) (block other : Block) (scope : Scope) (input rest : List ℕ) → IsSettled adds → block.order ≡ other.order → scope_by adds block scope input ≡ scope_by adds other scope rest
same_scope Nothing block other scope input rest s e = refl
same_scope Section block other scope input rest s e = ap (λ (o : ByteOrder). record { order = o; interfaces = []; link = scope.link }) e
same_scope (Options link snap) block other scope input rest s e = absurd s
same_scope (Described interface) block other scope input rest s e = refl
same_scope (Waits link nanos original) block other scope input rest s e = refl

-- bytes of a block are let go, where it adds the same without them
pub inside_passes : (scope : Scope) (n : ℕ) (block : Block) (held input : List ℕ) (count : ℕ) (adds : Adds) → count ≤ length input → count + 4 ≤ block.rest → block.rest ≤ block.total →
    (block.rest ≤ length input → scope_by block.adds block scope input ≡ scope_by adds (passed block count adds) scope (drop count input)) → waiting block.adds held ≡ waiting adds held →
    story_inside scope n block held input ≡ story_inside scope n (passed block count adds) held (drop count input)
inside_passes scope n block held input count adds a b w same awaits_block = elim (cases_lt (length input) block.rest) [
  | inl short ↦
      let fewer : length (drop count input) < block.rest - count = simp length-drop (omega arith) in
      let value : block.total - block.rest + length input ≡ block.total - (block.rest - count) + length (drop count input) = simp length-drop (omega arith) in
      inside_short scope n block held input short
      ∙ (ap (λ v. broken_story n breaks.Short v) value ∙ sym (inside_short scope n (passed block count adds) held (drop count input) fewer))
  | inr long ↦
      let enough : block.rest - count ≤ length (drop count input) = simp length-drop (omega arith) in
      let at : block.rest - 4 ≡ count + (block.rest - count - 4) = omega arith in
      let tail : tail_of block input ≡ tail_of (passed block count adds) (drop count input) = number_at-drop block.order 4 (block.rest - 4) (block.rest - count - 4) count input at in
      let whole : count + (block.rest - count) ≡ block.rest = omega arith in
      let behind : drop block.rest input ≡ drop (block.rest - count) (drop count input) = ap (λ m. drop m input) (sym whole) ∙ sym (drop-drop (block.rest - count) count input) in
      inside_long scope n block held input long
      ∙ (ap (λ t. ends_by (t == block.total) n t (waiting block.adds held) (story_at (scope_by block.adds block scope input) (n + 1) (drop block.rest input))) tail
      ∙ (ap (λ (ps : List Packet). ends_by (tail_of (passed block count adds) (drop count input) == block.total) n (tail_of (passed block count adds) (drop count input)) ps (story_at (scope_by block.adds block scope input) (n + 1) (drop block.rest input))) awaits_block
      ∙ (ap (λ (s : Scope). ends_by (tail_of (passed block count adds) (drop count input) == block.total) n (tail_of (passed block count adds) (drop count input)) (waiting adds held) (story_at s (n + 1) (drop block.rest input))) (same long)
      ∙ (ap (λ (bs : List ℕ). ends_by (tail_of (passed block count adds) (drop count input) == block.total) n (tail_of (passed block count adds) (drop count input)) (waiting adds held) (story_at (scope_by adds (passed block count adds) scope (drop count input)) (n + 1) bs)) behind
      ∙ sym (inside_long scope n (passed block count adds) held (drop count input) enough)))))
]
