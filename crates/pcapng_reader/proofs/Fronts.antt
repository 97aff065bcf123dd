-- What a front tells that nothing breaks.
use Rattle.std.proofs.Common.{◌≡◌, ℕ, ◌+◌, ◌%◌, ◌≤◌, ◌<◌, ◌==◌, ◌&&◌, not, nat_lt, Bool, true, false, List, length, refl, sym, ap, subst, ◌∙◌, arith, Option, None, Some, slice_get, if◌then◌else◌}
use Rattle.std.proofs.lemmas.Bool.Decides.{nat_tests}
use Rattle.pcapng_reader.specs.declared.byte_order.ByteOrder.{ByteOrder}
use Rattle.pcapng_reader.specs.declared.kind.BlockKind.{BlockKind}
use Rattle.pcapng_reader.specs.declared.kind.BlockKind.TheVariants.{Section, Description}
use Rattle.pcapng_reader.specs.declared.interface.Interface.{Interface}
use Rattle.pcapng_reader.specs.Numbers.{number_at}
use Rattle.pcapng_reader.specs.Options.{padded}
use Rattle.pcapng_reader.specs.Scope.{Scope}
use Rattle.pcapng_reader.specs.Front.{is_section, kind_of, order_in, total_length, least_total, looked_at, is_record, interface_named, bytes_at, captured_of}
use Rattle.pcapng_reader.specs.Breaks.{Row, first_row, frame_rows, section_rows, record_rows, record_break, front_break, is_bad_link, is_kind_description}
use Rattle.pcapng_reader.proofs.Stories.{no_row, neither, later_rows, second, not_below}

-- the three parts of a sound front
sound_parts : (scope : Scope) (n : ℕ) (front : List ℕ) → front_break scope n front ≡ None →
    (first_row n (frame_rows scope.order n front) ≡ None) × (first_row n (section_rows scope.order (length scope.interfaces) front) ≡ None)
    × ((if is_record (kind_of scope.order front)
    then record_break n scope.link (kind_of scope.order front) scope.order (slice_get scope.interfaces (interface_named (kind_of scope.order front) scope.order front)) front
    else None) ≡ None)
sound_parts scope n front h =
    let a = neither (first_row n (frame_rows scope.order n front)) _ h in
    let b = neither (first_row n (section_rows scope.order (length scope.interfaces) front)) _ a.1 in
    (a.0, b.0, b.1)

-- a block has a number, and its total length is large enough for its kind
pub sound_frame : (scope : Scope) (n : ℕ) (front : List ℕ) → front_break scope n front ≡ None → ((n == 4_294_967_295) ≡ false) × (least_total (kind_of scope.order front) ≤ total_length scope.order front)
sound_frame scope n front h =
    let frame = (sound_parts scope n front h).0 in
    let rows : List Row = frame_rows scope.order n front in
    let total : ℕ = total_length scope.order front in
    let numbered = no_row n rows frame in
    let begun = no_row n (later_rows rows) numbered.1 in
    let ordered = no_row n (later_rows (later_rows rows)) begun.1 in
    let sized = no_row n (later_rows (later_rows (later_rows rows))) ordered.1 in
    (numbered.0, not_below total (least_total (kind_of scope.order front)) (second (not (total % 4 == 0)) (nat_lt total (least_total (kind_of scope.order front))) sized.0))

-- an interface has a place
pub sound_description : (scope : Scope) (n : ℕ) (front : List ℕ) → front_break scope n front ≡ None → kind_of scope.order front ≡ Description → length scope.interfaces < 256
sound_description scope n front h kind =
    let rows : List Row = section_rows scope.order (length scope.interfaces) front in
    let first = no_row n rows (sound_parts scope n front h).1 in
    let places = (no_row n (later_rows rows) first.1).0 in
    let there : (is_kind_description Description && not (nat_lt (length scope.interfaces) 256)) ≡ false =
    subst (λ (k : BlockKind). (is_kind_description k && not (nat_lt (length scope.interfaces) 256)) ≡ false) kind places in
    grind (arith, nat_tests)

-- a record names an interface
pub sound_named : (scope : Scope) (n : ℕ) (front : List ℕ) (kind : BlockKind) → front_break scope n front ≡ None → kind_of scope.order front ≡ kind → is_record kind ≡ true →
    slice_get scope.interfaces (interface_named kind scope.order front) ≡ None → ⊥
sound_named scope n front kind h k r none =
    let part = subst (λ (kind : BlockKind). (if is_record kind then record_break n scope.link kind scope.order (slice_get scope.interfaces (interface_named kind scope.order front)) front else None) ≡ None) k (sound_parts scope n front h).2 in
    let named : record_break n scope.link kind scope.order (slice_get scope.interfaces (interface_named kind scope.order front)) front ≡ None = rw r at part in
    let bad = subst (λ (o : Option Interface). record_break n scope.link kind scope.order o front ≡ None) none named in
    cc

-- no row of the table of a record of an interface applies
pub sound_rows : (scope : Scope) (n : ℕ) (front : List ℕ) (kind : BlockKind) (interface : Interface) → front_break scope n front ≡ None → kind_of scope.order front ≡ kind → is_record kind ≡ true →
    slice_get scope.interfaces (interface_named kind scope.order front) ≡ Some interface → first_row n (record_rows scope.link kind scope.order interface front) ≡ None
sound_rows scope n front kind interface h k r some =
    let part = subst (λ (kind : BlockKind). (if is_record kind then record_break n scope.link kind scope.order (slice_get scope.interfaces (interface_named kind scope.order front)) front else None) ≡ None) k (sound_parts scope n front h).2 in
    let named : record_break n scope.link kind scope.order (slice_get scope.interfaces (interface_named kind scope.order front)) front ≡ None = rw r at part in
    subst (λ (o : Option Interface). record_break n scope.link kind scope.order o front ≡ None) some named

-- the captured bytes of a record of an interface are no more than the limit, and have room
pub sound_record : (scope : Scope) (n : ℕ) (front : List ℕ) (kind : BlockKind) (interface : Interface) → front_break scope n front ≡ None → kind_of scope.order front ≡ kind → is_record kind ≡ true →
    slice_get scope.interfaces (interface_named kind scope.order front) ≡ Some interface →
    (captured_of kind scope.order interface front ≤ 262_144) × (bytes_at kind + captured_of kind scope.order interface front + 4 ≤ number_at scope.order 4 4 front)
sound_record scope n front kind interface h k r some =
    let rows : List Row = record_rows scope.link kind scope.order interface front in
    let linked = no_row n rows (sound_rows scope n front kind interface h k r some) in
    let limited = no_row n (later_rows rows) linked.1 in
    let fits = no_row n (later_rows (later_rows rows)) limited.1 in
    let captured : ℕ = captured_of kind scope.order interface front in
    let room : bytes_at kind + padded captured + 4 ≤ number_at scope.order 4 4 front = not_below (number_at scope.order 4 4 front) (bytes_at kind + padded captured + 4) fits.0 in
    let more : captured ≤ padded captured = omega arith in
    (not_below 262_144 captured limited.0, omega (arith, room, more))

-- the link of a record's interface may be read behind the records before
pub sound_link : (scope : Scope) (n : ℕ) (front : List ℕ) (kind : BlockKind) (interface : Interface) → front_break scope n front ≡ None → kind_of scope.order front ≡ kind → is_record kind ≡ true →
    slice_get scope.interfaces (interface_named kind scope.order front) ≡ Some interface → is_bad_link scope.link interface.link ≡ false
sound_link scope n front kind interface h k r some = (no_row n (record_rows scope.link kind scope.order interface front) (sound_rows scope n front kind interface h k r some)).0

-- a block that is no section header is in the byte order of its section
pub same_order : (order : ByteOrder) (front : List ℕ) → is_section front ≡ false → order_in order front ≡ order
unfolding order_in
same_order order front h = rw h refl

pub not_section : (order : ByteOrder) (front : List ℕ) (kind : BlockKind) → kind_of order front ≡ kind → (kind ≡ Section → ⊥) → is_section front ≡ false
unfolding kind_of
not_section order front kind h other = by_test (is_section front) refl
  where
    by_test : (b : Bool) → is_section front ≡ b → is_section front ≡ false
    by_test false e = e
    by_test true e = let s = rw e at h in absurd (other (sym s))

-- the fields that are looked at are there
pub sound_looked : (scope : Scope) (n : ℕ) (front : List ℕ) → front_break scope n front ≡ None → looked_at (kind_of scope.order front) ≤ length front
sound_looked scope n front h =
    let rows : List Row = frame_rows scope.order n front in
    let numbered = no_row n rows (sound_parts scope n front h).0 in
    let begun = no_row n (later_rows rows) numbered.1 in
    let ordered = no_row n (later_rows (later_rows rows)) begun.1 in
    let sized = no_row n (later_rows (later_rows (later_rows rows))) ordered.1 in
    let looked = no_row n (later_rows (later_rows (later_rows (later_rows rows)))) sized.1 in
    not_below (length front) (looked_at (kind_of scope.order front)) looked.0

-- a record's captured bytes are inside its block
pub record_room : (scope : Scope) (n : ℕ) (front : List ℕ) (kind : BlockKind) (order : ByteOrder) (named : ℕ) (interface : Interface) → front_break scope n front ≡ None → order ≡ scope.order → kind ≡ kind_of order front → is_record kind ≡ true →
    named ≡ interface_named kind order front → slice_get scope.interfaces named ≡ Some interface → bytes_at kind + captured_of kind order interface front ≤ total_length order front
record_room scope n front kind order named interface sound o k r i some =
    let K : kind_of scope.order front ≡ kind = sym (k ∙ ap (λ (o : ByteOrder). kind_of o front) o) in
    let there : slice_get scope.interfaces (interface_named kind scope.order front) ≡ Some interface =
    ap (λ m. slice_get scope.interfaces m) (sym (i ∙ ap (λ (o : ByteOrder). interface_named kind o front) o)) ∙ some in
    let fits = sound_record scope n front kind interface sound K r there in
    let same = same_order scope.order front (not_section scope.order front kind K (λ e. let bad = subst (λ (k : BlockKind). is_record k ≡ true) e r in cc)) in
    let told : number_at scope.order 4 4 front ≡ total_length scope.order front = ap (λ (o : ByteOrder). number_at o 4 4 front) (sym same) in
    subst (λ (o : ByteOrder). bytes_at kind + captured_of kind o interface front ≤ total_length o front) (sym o) (omega (arith, fits.1, told))
