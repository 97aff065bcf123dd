-- What a look at the bytes that were read ahead tells is so, whatever follows them.
use Rattle.std.proofs.Common.{◌≡◌, inl, inr, ℕ, ◌+◌, ◌≤◌, ◌<◌, ◌==◌, nat_lt, min, lit≤, Bool, true, false, List, [], ◌++◌, length, take, drop, refl, sym, ap, subst, ◌∙◌, arith, length-drop, length-take, length-append, append-nil, Option, None, Some, slice_get, if◌then◌else◌}
use Rattle.std.proofs.lemmas.List.{drop-append-le, take-append-le, take_all}
use Rattle.std.proofs.lemmas.Bool.{cases_lt}
use Rattle.std.proofs.lemmas.Bool.Decides.{nat_tests}
use Rattle.pcapng_reader.specs.declared.kind.BlockKind.{BlockKind}
use Rattle.pcapng_reader.specs.declared.kind.BlockKind.TheVariants as kinds
use Rattle.pcapng_reader.specs.declared.fault.NgKind.TheVariants as breaks
use Rattle.pcapng_reader.specs.declared.fault.NgBreak.{NgBreak}
use Rattle.pcapng_reader.specs.declared.interface.Interface.{Interface}
use Rattle.pcapng_reader.specs.declared.look.Look.TheVariants as looks
use Rattle.pcapng_reader.specs.Numbers.{number_at}
use Rattle.pcapng_reader.specs.Scope.{Scope}
use Rattle.pcapng_reader.specs.Front.{kind_of, total_length, least_total, looked_at, is_record, interface_named, bytes_at, captured_of}
use Rattle.pcapng_reader.specs.Breaks.{first_row, earlier_break, rest_rows, front_break, first_break}
use Rattle.pcapng_reader.specs.Blocks.{story_at}
use Rattle.pcapng_reader.specs.Progress.{story_inside, AddsFit}
use Rattle.pcapng_reader.specs.Looks.{block_of, adds_of, opened, packet_of, opened_record, looked_with, looked_behind, Looks}
use Rattle.pcapng_reader.proofs.Stories.{not_below}
use Rattle.pcapng_reader.proofs.Tales.{story_at-broken}
use Rattle.pcapng_reader.proofs.Fronts.{sound_frame, sound_looked, sound_description, sound_named, sound_record, same_order, not_section}
use Rattle.pcapng_reader.proofs.Insides.{below}
use Rattle.pcapng_reader.proofs.Opens.{opens_story, rest_break, section_after, description_after, other_after, record_after}

-- the front of a block is read whole, or the input ends inside it
pub same_front : (bytes rest : List ℕ) (ended : Bool) → (length bytes < 28 → ended ≡ true) → (ended ≡ true → rest ≡ []) → take 28 (bytes ++ rest) ≡ take 28 bytes
same_front bytes rest ended short end = elim (cases_lt (length bytes) 28) [
  | inl less ↦ ap (λ (w : List ℕ). take 28 (bytes ++ w)) (end (short less)) ∙ ap (take 28) (append-nil bytes)
  | inr enough ↦ take-append-le 28 bytes rest enough
]

broken_front : (scope : Scope) (n : ℕ) (bytes : List ℕ) (e : NgBreak) → front_break scope n (take 28 bytes) ≡ Some e → first_break scope n bytes ≡ Some e
unfolding first_break
broken_front scope n bytes e h = ap (λ (o : Option NgBreak). earlier_break o (first_row n (rest_rows scope.order bytes))) h

-- the front breaks the block
pub looks_broken : (scope : Scope) (n : ℕ) (bytes : List ℕ) (ended : Bool) (e : NgBreak) → 0 < length bytes → (length bytes < 28 → ended ≡ true) → front_break scope n (take 28 bytes) ≡ Some e →
    (rest : List ℕ) → (ended ≡ true → rest ≡ []) → story_at scope n (bytes ++ rest) ≡ record { packets = []; broken = Some e }
looks_broken scope n bytes ended e some short h rest end =
    let same = same_front bytes rest ended short end in
    let more : 0 < length (bytes ++ rest) = simp length-append (omega arith) in
    let front : front_break scope n (take 28 (bytes ++ rest)) ≡ Some e = ap (λ (w : List ℕ). front_break scope n w) same ∙ h in
    story_at-broken scope n (bytes ++ rest) e more (broken_front scope n (bytes ++ rest) e front)

-- the story of a block that holds no packet
other_story : (kind : BlockKind) (scope : Scope) (n : ℕ) (bytes : List ℕ) → is_record kind ≡ false → kind_of scope.order (take 28 bytes) ≡ kind → 0 < length bytes → front_break scope n (take 28 bytes) ≡ None →
    looked_at kind + 4 ≤ total_length scope.order (take 28 bytes) → looked_at kind ≤ length bytes →
    story_at scope n bytes ≡ story_inside scope n (block_of scope.order (take 28 bytes) (looked_at kind) (adds_of kind scope.order (take 28 bytes))) [] (drop (looked_at kind) bytes)
other_story kinds.Section scope n bytes r k some sound room there =
    let after = section_after scope bytes (drop 16 bytes) 16 k in
    opens_story scope n bytes 16 0 (adds_of kinds.Section scope.order (take 28 bytes)) some sound room there after.0 after.1
other_story kinds.Description scope n bytes r k some sound room there =
    let after = description_after scope bytes k in
    opens_story scope n bytes 16 0 (adds_of kinds.Description scope.order (take 28 bytes)) some sound room there after.0 after.1
other_story kinds.Other scope n bytes r k some sound room there =
    let after = other_after scope bytes (drop 8 bytes) 8 k in
    opens_story scope n bytes 8 0 (adds_of kinds.Other scope.order (take 28 bytes)) some sound room there after.0 after.1
other_story kinds.Simple scope n bytes r k some sound room there = cc
other_story kinds.Enhanced scope n bytes r k some sound room there = cc

numbered : (n : ℕ) → n < 4_294_967_296 → (n == 4_294_967_295) ≡ false → n < 4_294_967_295
numbered n a b = grind (arith, nat_tests)

room_of : (kind : BlockKind) (total : ℕ) → is_record kind ≡ false → least_total kind ≤ total → looked_at kind + 4 ≤ total
room_of kinds.Section total r h = omega arith
room_of kinds.Description total r h = omega arith
room_of kinds.Other total r h = omega arith
room_of kinds.Simple total r h = cc
room_of kinds.Enhanced total r h = cc

fits_of : (kind : BlockKind) (scope : Scope) (n : ℕ) (front : List ℕ) → is_record kind ≡ false → kind_of scope.order front ≡ kind → front_break scope n front ≡ None → AddsFit (adds_of kind scope.order front) (length scope.interfaces) 0
fits_of kinds.Section scope n front r k h = refl
fits_of kinds.Description scope n front r k h = (sound_description scope n front h k, refl)
fits_of kinds.Other scope n front r k h = refl
fits_of kinds.Simple scope n front r k h = cc
fits_of kinds.Enhanced scope n front r k h = cc

-- a block that holds no packet opens
pub looks_other : (kind : BlockKind) (scope : Scope) (n : ℕ) (bytes : List ℕ) (ended : Bool) → is_record kind ≡ false → kind_of scope.order (take 28 bytes) ≡ kind → n < 4_294_967_296 → 0 < length bytes →
    (length bytes < 28 → ended ≡ true) → front_break scope n (take 28 bytes) ≡ None → Looks scope n bytes ended (opened kind scope.order (take 28 bytes))
looks_other kind scope n bytes ended r k small some short sound =
    let front : List ℕ = take 28 bytes in
    let frame = sound_frame scope n front sound in
    let least : least_total kind ≤ total_length scope.order front = subst (λ (k : BlockKind). least_total k ≤ total_length scope.order front) k frame.1 in
    let looked : looked_at kind ≤ length front = subst (λ (k : BlockKind). looked_at k ≤ length front) k (sound_looked scope n front sound) in
    let room : looked_at kind + 4 ≤ total_length scope.order front = room_of kind (total_length scope.order front) r least in
    let front_length : length front ≤ length bytes = simp length-take (omega arith) in
    record {
      there = omega (arith, looked, front_length);
      limit = omega arith;
      fits = record { tail = omega (arith, room); within = omega arith; numbered = numbered n small frame.0; adds = fits_of kind scope n front r k sound };
      story = λ rest end.
          let same = same_front bytes rest ended short end in
          let more : 0 < length (bytes ++ rest) = simp length-append (omega arith) in
          let there : looked_at kind ≤ length (bytes ++ rest) = simp length-append (omega (arith, looked, front_length)) in
          let none : looked_at kind + 0 ≡ looked_at kind = omega arith in
          let story = other_story kind scope n (bytes ++ rest) r (ap (λ (w : List ℕ). kind_of scope.order w) same ∙ k) more (ap (λ (w : List ℕ). front_break scope n w) same ∙ sound) (subst (λ (w : List ℕ). looked_at kind + 4 ≤ total_length scope.order w) (sym same) room) there in
          subst (λ m. story_at scope n (bytes ++ rest) ≡ story_inside scope n (block_of scope.order front (looked_at kind) (adds_of kind scope.order front)) [] (drop m (bytes ++ rest))) (sym none)
          (subst (λ (w : List ℕ). story_at scope n (bytes ++ rest) ≡ story_inside scope n (block_of scope.order w (looked_at kind) (adds_of kind scope.order w)) [] (drop (looked_at kind) (bytes ++ rest))) same story);
    }

-- a record whose captured bytes are there opens
pub looks_record : (kind : BlockKind) (interface : Interface) (scope : Scope) (n : ℕ) (bytes : List ℕ) (ended : Bool) → is_record kind ≡ true → kind_of scope.order (take 28 bytes) ≡ kind →
    slice_get scope.interfaces (interface_named kind scope.order (take 28 bytes)) ≡ Some interface → n < 4_294_967_296 → 0 < length bytes → (length bytes < 28 → ended ≡ true) → front_break scope n (take 28 bytes) ≡ None →
    bytes_at kind + captured_of kind scope.order interface (take 28 bytes) ≤ length bytes → Looks scope n bytes ended (opened_record kind scope.order interface (take 28 bytes))
looks_record kind interface scope n bytes ended r k named small some short sound there =
    let front : List ℕ = take 28 bytes in
    let order = same_order scope.order front (not_section scope.order front kind k (λ e. let bad = subst (λ (k : BlockKind). is_record k ≡ true) e r in cc)) in
    let held : ℕ = captured_of kind scope.order interface front in
    let seen : ℕ = bytes_at kind + held in
    let frame = sound_frame scope n front sound in
    let fits = sound_record scope n front kind interface sound k r named in
    let told : number_at scope.order 4 4 front ≡ total_length scope.order front = ap (λ o. number_at o 4 4 front) (sym order) in
    let room : seen + 4 ≤ total_length scope.order front = omega (arith, fits.1, told) in
    record {
      there = there;
      limit = fits.0;
      fits = record { tail = omega (arith, room); within = omega arith; numbered = numbered n small frame.0; adds = omega arith };
      story = λ rest end.
          let same = same_front bytes rest ended short end in
          let more : 0 < length (bytes ++ rest) = simp length-append (omega arith) in
          let longer : length bytes ≤ length (bytes ++ rest) = simp length-append (omega arith) in
          let P : List ℕ → Type 0 = λ (w : List ℕ).
          story_at scope n (bytes ++ rest)
          ≡ story_inside scope n (block_of scope.order w (bytes_at kind + captured_of kind scope.order interface w) (packet_of kind scope.order interface w)) (take (captured_of kind scope.order interface w) (drop (bytes_at kind) (bytes ++ rest)))
          (drop (bytes_at kind + captured_of kind scope.order interface w) (bytes ++ rest)) in
          let after = record_after scope (bytes ++ rest) kind interface (ap (λ (w : List ℕ). kind_of scope.order w) same ∙ k) r (ap (λ (w : List ℕ). slice_get scope.interfaces (interface_named kind scope.order w)) same ∙ named) in
          let whole = take 28 (bytes ++ rest) in
          let story = opens_story scope n (bytes ++ rest) (bytes_at kind) (captured_of kind scope.order interface whole) (packet_of kind scope.order interface whole) more
          (ap (λ (w : List ℕ). front_break scope n w) same ∙ sound)
          (subst (λ (w : List ℕ). bytes_at kind + captured_of kind scope.order interface w + 4 ≤ total_length scope.order w) (sym same) room)
          (subst (λ (w : List ℕ). bytes_at kind + captured_of kind scope.order interface w ≤ length (bytes ++ rest)) (sym same) (omega (arith, there, longer)))
          after.0 after.1 in
          let left : List ℕ = drop (bytes_at kind) bytes in
          let enough : held ≤ length left = simp length-drop (omega (arith, there)) in
          let bytes_same : take held (drop (bytes_at kind) (bytes ++ rest)) ≡ take held left =
          ap (take held) (drop-append-le (bytes_at kind) bytes rest (omega (arith, there))) ∙ take-append-le held left rest enough in
          subst P same story
          ∙ ap (λ (w : List ℕ). story_inside scope n (block_of scope.order front seen (packet_of kind scope.order interface front)) w (drop seen (bytes ++ rest))) bytes_same;
    }

-- a record whose captured bytes are cut off by the input's end
pub looks_cut : (kind : BlockKind) (interface : Interface) (scope : Scope) (n : ℕ) (bytes : List ℕ) (ended : Bool) → is_record kind ≡ true → kind_of scope.order (take 28 bytes) ≡ kind →
    slice_get scope.interfaces (interface_named kind scope.order (take 28 bytes)) ≡ Some interface → 0 < length bytes → ended ≡ true → front_break scope n (take 28 bytes) ≡ None →
    length bytes < bytes_at kind + captured_of kind scope.order interface (take 28 bytes) →
    Looks scope n bytes ended (looks.Breaks (record { block = n; kind = breaks.Short; value = length bytes }))
looks_cut kind interface scope n bytes ended r k named some over sound short = λ rest end.
    let front : List ℕ = take 28 bytes in
    let order = same_order scope.order front (not_section scope.order front kind k (λ e. let bad = subst (λ (k : BlockKind). is_record k ≡ true) e r in cc)) in
    let fits = sound_record scope n front kind interface sound k r named in
    let told : number_at scope.order 4 4 front ≡ total_length scope.order front = ap (λ o. number_at o 4 4 front) (sym order) in
    let less : length bytes < total_length scope.order front = omega (arith, fits.1, told, short) in
    let all : bytes ++ rest ≡ bytes = ap (λ (w : List ℕ). bytes ++ w) (end over) ∙ append-nil bytes in
    ap (λ (w : List ℕ). story_at scope n w) all ∙ cut scope n bytes some sound less
  where
    cut : (scope : Scope) (n : ℕ) (bytes : List ℕ) → 0 < length bytes → front_break scope n (take 28 bytes) ≡ None → length bytes < total_length scope.order (take 28 bytes) →
        story_at scope n bytes ≡ record { packets = []; broken = Some (record { block = n; kind = breaks.Short; value = length bytes }) }
    cut scope n bytes some sound less =
        let row = rest_break scope n bytes sound in
        let short : first_row n (rest_rows scope.order bytes) ≡ Some (record { block = n; kind = breaks.Short; value = length bytes }) = rw (below (length bytes) (total_length scope.order (take 28 bytes)) less) refl in
        story_at-broken scope n bytes (record { block = n; kind = breaks.Short; value = length bytes }) some (row ∙ short)

is_below : (a b : ℕ) → nat_lt a b ≡ true → a < b
is_below a b h = grind (arith, nat_tests)

small_at : (kind : BlockKind) → bytes_at kind ≤ 28
small_at kinds.Enhanced = lit≤ tt
small_at kinds.Section = lit≤ tt
small_at kinds.Description = lit≤ tt
small_at kinds.Simple = lit≤ tt
small_at kinds.Other = lit≤ tt

-- what is told of a block whose front is sound
pub looks_behind : (scope : Scope) (n : ℕ) (bytes : List ℕ) (ended : Bool) → n < 4_294_967_296 → 0 < length bytes → (length bytes < 28 → ended ≡ true) → front_break scope n (take 28 bytes) ≡ None →
    Looks scope n bytes ended (looked_behind (kind_of scope.order (take 28 bytes)) scope n (take 28 bytes) (length bytes) ended)
looks_behind scope n bytes ended small some short sound = by_kind (is_record (kind_of scope.order (take 28 bytes))) refl
  where
    by_there : (interface : Interface) → is_record (kind_of scope.order (take 28 bytes)) ≡ true →
        slice_get scope.interfaces (interface_named (kind_of scope.order (take 28 bytes)) scope.order (take 28 bytes)) ≡ Some interface → (b : Bool) →
        nat_lt (length bytes) (bytes_at (kind_of scope.order (take 28 bytes)) + captured_of (kind_of scope.order (take 28 bytes)) scope.order interface (take 28 bytes)) ≡ b → (o : Bool) → ended ≡ o →
        Looks scope n bytes ended (if b then (if o then looks.Breaks (record { block = n; kind = breaks.Short; value = length bytes }) else looks.More) else opened_record (kind_of scope.order (take 28 bytes)) scope.order interface (take 28 bytes))
    by_there interface r named false fits o over = looks_record (kind_of scope.order (take 28 bytes)) interface scope n bytes ended r refl named small some short sound (not_below _ _ fits)
    by_there interface r named true fits true over = looks_cut (kind_of scope.order (take 28 bytes)) interface scope n bytes ended r refl named some over sound (is_below _ _ fits)
    by_there interface r named true fits false over =
        let limit = (sound_record scope n (take 28 bytes) (kind_of scope.order (take 28 bytes)) interface sound refl r named).0 in
        let less = is_below _ _ fits in
        let at = small_at (kind_of scope.order (take 28 bytes)) in
        (over, omega (arith, limit, less, at))

    by_named : (o : Option Interface) → slice_get scope.interfaces (interface_named (kind_of scope.order (take 28 bytes)) scope.order (take 28 bytes)) ≡ o → is_record (kind_of scope.order (take 28 bytes)) ≡ true →
        Looks scope n bytes ended (looked_with o n (kind_of scope.order (take 28 bytes)) scope.order (take 28 bytes) (length bytes) ended)
    by_named None named r = absurd (sound_named scope n (take 28 bytes) (kind_of scope.order (take 28 bytes)) sound refl r named)
    by_named (Some interface) named r = by_there interface r named _ refl ended refl

    by_kind : (b : Bool) → is_record (kind_of scope.order (take 28 bytes)) ≡ b →
        Looks scope n bytes ended (if b then looked_with (slice_get scope.interfaces (interface_named (kind_of scope.order (take 28 bytes)) scope.order (take 28 bytes))) n (kind_of scope.order (take 28 bytes)) scope.order (take 28 bytes) (length bytes) ended
        else opened (kind_of scope.order (take 28 bytes)) scope.order (take 28 bytes))
    by_kind true r = by_named _ refl r
    by_kind false r = looks_other (kind_of scope.order (take 28 bytes)) scope n bytes ended r refl small some short sound

-- the front of what was read ahead
pub front_read : (bytes : List ℕ) → take (min (length bytes) 28) bytes ≡ take 28 bytes
front_read bytes = elim (cases_lt (length bytes) 28) [
  | inl less ↦
      let least : min (length bytes) 28 ≡ length bytes = omega arith in
      ap (λ n. take n bytes) least ∙ (take_all (length bytes) bytes (omega arith) ∙ sym (take_all 28 bytes (omega arith)))
  | inr enough ↦
      let least : min (length bytes) 28 ≡ 28 = omega arith in
      ap (λ n. take n bytes) least
]
