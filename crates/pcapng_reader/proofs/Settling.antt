-- An interface's options, as they are read one by one.
use Rattle.std.proofs.Common.{◌≡◌, ◌≢◌, ℕ, ◌+◌, ◌-◌, ◌≤◌, ◌<◌, ◌==◌, ◌&&◌, not, nat_lt, Bool, true, false, List, ◌++◌, length, take, drop, get_or, refl, sym, ap, ◌∙◌, arith, length-drop, length-take, length-append, take-append-drop, slice_index, if◌then◌else◌}
use Rattle.std.proofs.lemmas.List.{drop-take, get_or-take, get_or-drop, get_or_append_left}
use Rattle.std.proofs.lemmas.Bool.Decides.{nat_tests}
use Rattle.pcapng_reader.specs.declared.byte_order.ByteOrder.{ByteOrder}
use Rattle.pcapng_reader.specs.declared.stage.Adds.{Adds}
use Rattle.pcapng_reader.specs.declared.stage.Adds.TheVariants.{Options, Described}
use Rattle.pcapng_reader.specs.declared.stage.Block.{Block}
use Rattle.pcapng_reader.specs.Numbers.{number_at}
use Rattle.pcapng_reader.specs.Options.{padded, option_length, has_option, resolution_of}
use Rattle.pcapng_reader.specs.Scope.{Scope}
use Rattle.pcapng_reader.specs.Progress.{story_inside, scope_by, scope_and, waiting}
use Rattle.pcapng_reader.specs.Looks.{passed}
use Rattle.pcapng_reader.proofs.Places.{number_at-append}
use Rattle.pcapng_reader.proofs.Insides.{below, above, inside_passes}
use Rattle.pcapng_reader.proofs.Resolution.{other_option, first_tells, none_tells}

-- a number in the options of which a front was read ahead
pub region_number : (o : ByteOrder) (n i m : ℕ) (ahead more : List ℕ) → i + n ≤ length ahead → i + n ≤ m → number_at o n i (take m (ahead ++ more)) ≡ number_at o n i ahead
region_number o n i m ahead more a b =
    let all : List ℕ = ahead ++ more in
    let long : i + n ≤ length (take m all) = simp (length-take, length-append) (omega arith) in
    sym (number_at-append o n i (take m all) (drop m all) long) ∙ (ap (λ (w : List ℕ). number_at o n i w) (take-append-drop m all) ∙ number_at-append o n i ahead more a)

-- no option stands in fewer than four bytes
pub no_option_short : (o : ByteOrder) (bytes : List ℕ) → length bytes < 4 → has_option o bytes ≡ false
unfolding has_option
no_option_short o bytes h = rw (below (length bytes) 4 h) refl

and_false : (b c : Bool) → c ≡ false → (b && c) ≡ false
and_false true c h = h
and_false false c h = refl

-- the options end at the code 0
pub no_option_end : (o : ByteOrder) (bytes : List ℕ) → number_at o 2 0 bytes ≡ 0 → has_option o bytes ≡ false
unfolding has_option
no_option_end o bytes h = and_false (not (nat_lt (length bytes) 4)) _ (rw h refl)

-- the options end where one doesn't fit
pub no_option_fits : (o : ByteOrder) (bytes : List ℕ) → length bytes < option_length o bytes → has_option o bytes ≡ false
unfolding has_option
no_option_fits o bytes h =
    and_false (not (nat_lt (length bytes) 4)) _ (and_false (not (number_at o 2 0 bytes == 0)) _ (rw (below (length bytes) (option_length o bytes) h) refl))

differs : (a b : ℕ) → a ≢ b → (a == b) ≡ false
differs a b h = grind (arith, nat_tests)

pub option_here : (o : ByteOrder) (bytes : List ℕ) → 4 ≤ length bytes → (number_at o 2 0 bytes == 0) ≡ false → option_length o bytes ≤ length bytes → has_option o bytes ≡ true
unfolding has_option
option_here o bytes a b c = rw (above (length bytes) 4 a) (rw b (rw (above (length bytes) (option_length o bytes) c) refl))

-- the options of an interface tell this resolution, where they are there to their end
abbrev pub Tells : Block → List ℕ → ℕ → Type 0
Tells block input resolution = block.rest ≤ length input → resolution_of block.order (take (block.rest - 4) input) ≡ resolution

-- no option stands at the front of what is left of the options
pub tells_none : (block : Block) (input : List ℕ) → (block.rest ≤ length input → has_option block.order (take (block.rest - 4) input) ≡ false) → Tells block input 6
tells_none block input h whole = none_tells block.order (take (block.rest - 4) input) (h whole)

-- the first option tells a resolution
pub tells_first : (block : Block) (ahead more : List ℕ) (size : ℕ) → 8 ≤ length ahead → number_at block.order 2 0 ahead ≡ 9 → number_at block.order 2 2 ahead ≡ size → 4 + padded size + 4 ≤ block.rest →
    Tells block (ahead ++ more) (if size == 1 then slice_index ahead 4 else 6)
tells_first block ahead more size long nine told fits whole =
    let region : List ℕ = take (block.rest - 4) (ahead ++ more) in
    let region_long : length region ≡ block.rest - 4 = simp length-take (omega arith) in
    let room : size ≤ padded size = omega arith in
    let code : number_at block.order 2 0 region ≡ 9 = region_number block.order 2 0 (block.rest - 4) ahead more (omega arith) (omega arith) ∙ nine in
    let sized : number_at block.order 2 2 region ≡ size = region_number block.order 2 2 (block.rest - 4) ahead more (omega arith) (omega arith) ∙ told in
    let here : has_option block.order region ≡ true =
    option_here block.order region (omega (arith, region_long)) (rw code refl) (rw sized (omega (arith, region_long))) in
    let value : List ℕ = take (number_at block.order 2 2 region) (drop 4 region) in
    let value_long : length value ≡ size = simp (length-take, length-drop) (omega (arith, sized, region_long, room)) in
    let byte : size ≡ 1 → get_or region 4 0 ≡ get_or ahead 4 0 = λ one. get_or-take (block.rest - 4) (ahead ++ more) 4 0 (omega (arith, one, fits)) ∙ get_or_append_left ahead more 0 4 (omega arith) in
    first_tells block.order region here code
    ∙ (ap (λ n. if n == 1 then slice_index value 0 else 6) value_long ∙ byte_told size region value (ap (λ n. take n (drop 4 region)) sized) byte)
  where
    byte_told : (size : ℕ) (region value : List ℕ) → value ≡ take size (drop 4 region) → (size ≡ 1 → get_or region 4 0 ≡ get_or ahead 4 0) → (if size == 1 then slice_index value 0 else 6) ≡ (if size == 1 then slice_index ahead 4 else 6)
    byte_told size region value b e = by_test (size == 1) refl
      where
        by_test : (t : Bool) → (size == 1) ≡ t → (if t then slice_index value 0 else 6) ≡ (if t then slice_index ahead 4 else 6)
        by_test false h = refl
        by_test true h =
            let one : size ≡ 1 = grind (arith, nat_tests) in
            ap (λ (w : List ℕ). get_or w 0 0) b ∙ (get_or-take size (drop 4 region) 0 0 (omega arith) ∙ (get_or-drop 4 region 0 0 ∙ e one))

-- an interface's resolution is known
pub settles_story : (scope : Scope) (n : ℕ) (block : Block) (link snap resolution : ℕ) (held input : List ℕ) → block.adds ≡ Options link snap → 4 ≤ block.rest → block.rest ≤ block.total → Tells block input resolution →
    story_inside scope n block held input ≡ story_inside scope n (passed block 0 (Described (record { link = link; snap = snap; resolution = resolution }))) held (drop 0 input)
settles_story scope n block link snap resolution held input adds a b tells =
    inside_passes scope n block held input 0 (Described (record { link = link; snap = snap; resolution = resolution })) (omega arith) (omega arith) b
    (λ whole. ap (λ (a : Adds). scope_by a block scope input) adds ∙ ap (λ r. scope_and scope (record { link = link; snap = snap; resolution = r })) (tells whole))
    (ap (λ (a : Adds). waiting a held) adds)

-- an option that tells none is let go
pub skips_story : (scope : Scope) (n : ℕ) (block : Block) (link snap : ℕ) (held ahead more : List ℕ) (size : ℕ) → block.adds ≡ Options link snap → block.rest ≤ block.total → 8 ≤ length ahead →
    number_at block.order 2 0 ahead ≢ 0 → number_at block.order 2 0 ahead ≢ 9 → number_at block.order 2 2 ahead ≡ size → 4 + padded size + 4 ≤ block.rest → 4 + padded size ≤ length ahead →
    story_inside scope n block held (ahead ++ more) ≡ story_inside scope n (passed block (4 + padded size) block.adds) held (drop (4 + padded size) (ahead ++ more))
skips_story scope n block link snap held ahead more size adds a long some other told fits there =
    let input : List ℕ = ahead ++ more in
    let count : ℕ = 4 + padded size in
    let longer : length ahead ≤ length input = simp length-append (omega arith) in
    inside_passes scope n block held input count block.adds (omega (arith, longer, there)) fits a
    (λ whole.
    let region : List ℕ = take (block.rest - 4) input in
    let region_long : length region ≡ block.rest - 4 = simp length-take (omega (arith, whole)) in
    let code : number_at block.order 2 0 region ≡ number_at block.order 2 0 ahead = region_number block.order 2 0 (block.rest - 4) ahead more (omega arith) (omega arith) in
    let sized : number_at block.order 2 2 region ≡ size = region_number block.order 2 2 (block.rest - 4) ahead more (omega arith) (omega arith) ∙ told in
    let here : has_option block.order region ≡ true = option_here block.order region (omega (arith, region_long)) (differs (number_at block.order 2 0 region) 0 (λ e. some (sym code ∙ e))) (rw sized (omega (arith, region_long))) in
    let next : resolution_of block.order region ≡ resolution_of block.order (drop (option_length block.order region) region) = other_option block.order region here (λ e. other (sym code ∙ e)) in
    let split : count + (block.rest - count - 4) ≡ block.rest - 4 = omega arith in
    let left : drop (option_length block.order region) region ≡ take (block.rest - count - 4) (drop count input) =
    ap (λ s. drop (4 + padded s) region) sized ∙ (ap (λ m. drop count (take m input)) (sym split) ∙ drop-take count (block.rest - count - 4) input) in
    ap (λ (a : Adds). scope_by a block scope input) adds
    ∙ (ap (λ r. scope_and scope (record { link = link; snap = snap; resolution = r })) (next ∙ ap (λ (w : List ℕ). resolution_of block.order w) left)
    ∙ ap (λ (a : Adds). scope_by a (passed block count block.adds) scope (drop count input)) (sym adds)))
    refl
