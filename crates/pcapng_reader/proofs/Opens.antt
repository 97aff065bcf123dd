-- The story of a block whose front was read is the story inside it.
use Rattle.std.proofs.Common.{◌≡◌, inl, inr, ℕ, ◌+◌, ◌-◌, ◌≤◌, ◌<◌, ◌==◌, true, List, [], ◌∷◌, ◌++◌, length, take, drop, refl, sym, ap, ◌∙◌, arith, length-drop, Option, None, Some, slice_get}
use Rattle.std.proofs.lemmas.List.{drop-drop}
use Rattle.std.proofs.lemmas.Bool.{cases_lt}
use Rattle.pcapng_reader.specs.declared.byte_order.ByteOrder.{ByteOrder}
use Rattle.pcapng_reader.specs.declared.kind.BlockKind.{BlockKind}
use Rattle.pcapng_reader.specs.declared.kind.BlockKind.TheVariants as kinds
use Rattle.pcapng_reader.specs.declared.fault.NgKind.TheVariants as breaks
use Rattle.pcapng_reader.specs.declared.fault.NgBreak.{NgBreak}
use Rattle.pcapng_reader.specs.declared.interface.Interface.{Interface}
use Rattle.pcapng_reader.specs.declared.stage.Adds.{Adds}
use Rattle.pcapng_reader.specs.declared.stage.Adds.TheVariants.{Nothing, Section, Options}
use Rattle.pcapng_reader.specs.declared.stage.Block.{Block}
use Rattle.pcapng_reader.specs.Numbers.{number_at}
use Rattle.pcapng_reader.specs.Options.{resolution_of}
use Rattle.pcapng_reader.specs.Scope.{Scope}
use Rattle.pcapng_reader.specs.Front.{kind_of, order_in, total_length, is_record, interface_named, bytes_at, captured_of}
use Rattle.pcapng_reader.specs.Breaks.{first_row, earlier_break, rest_rows, front_break, first_break, total_again}
use Rattle.pcapng_reader.specs.Blocks.{Packet, extent, packet_by, block_packets_by, block_packets, after_by, scope_after, link_with, before, unless, story_at}
use Rattle.pcapng_reader.specs.Progress.{story_inside, scope_by, waiting, tail_of, link_told}
use Rattle.pcapng_reader.specs.Looks.{block_of, packet_of}
use Rattle.pcapng_reader.proofs.Places.{number_at-drop}
use Rattle.pcapng_reader.proofs.Tales.{story_at-step}
use Rattle.pcapng_reader.proofs.Fronts.{same_order, not_section}
use Rattle.pcapng_reader.proofs.Insides.{below, above, inside_short, inside_long, ends_by, broken_story}

-- what is wrong with a block whose front is sound is wrong behind it
pub rest_break : (scope : Scope) (n : ℕ) (bytes : List ℕ) → front_break scope n (take 28 bytes) ≡ None → first_break scope n bytes ≡ first_row n (rest_rows scope.order bytes)
unfolding first_break
rest_break scope n bytes h = ap (λ (o : Option NgBreak). earlier_break o (first_row n (rest_rows scope.order bytes))) h

pub opens_story : (scope : Scope) (n : ℕ) (bytes : List ℕ) (front held : ℕ) (adds : Adds) → 0 < length bytes → front_break scope n (take 28 bytes) ≡ None →
    front + held + 4 ≤ total_length scope.order (take 28 bytes) → front + held ≤ length bytes → block_packets scope bytes ≡ waiting adds (take held (drop front bytes)) →
    scope_after scope bytes ≡ scope_by adds (block_of scope.order (take 28 bytes) (front + held) adds) scope (drop (front + held) bytes) →
    story_at scope n bytes ≡ story_inside scope n (block_of scope.order (take 28 bytes) (front + held) adds) (take held (drop front bytes)) (drop (front + held) bytes)
opens_story scope n bytes front held adds some sound room there packets after =
    let total : ℕ = total_length scope.order (take 28 bytes) in
    let seen : ℕ = front + held in
    let block : Block = block_of scope.order (take 28 bytes) seen adds in
    let rest : List ℕ = drop seen bytes in
    let again : ℕ = total_again scope.order bytes in
    let step : story_at scope n bytes ≡ unless (first_row n (rest_rows scope.order bytes)) (before (block_packets scope bytes) (story_at (scope_after scope bytes) (n + 1) (drop total bytes))) =
    story_at-step scope n bytes some ∙ ap (λ (o : Option NgBreak). unless o (before (block_packets scope bytes) (story_at (scope_after scope bytes) (n + 1) (drop total bytes)))) (rest_break scope n bytes sound) in
    elim (cases_lt (length bytes) total) [
      | inl short ↦
          let fewer : length rest < block.rest = simp length-drop (omega arith) in
          let value : length bytes ≡ block.total - block.rest + length rest = simp length-drop (omega arith) in
          let cut : story_at scope n bytes ≡ broken_story n breaks.Short (length bytes) =
          step ∙ (rw (below (length bytes) total short) refl) in
          cut ∙ (ap (λ v. broken_story n breaks.Short v) value ∙ sym (inside_short scope n block (take held (drop front bytes)) rest fewer))
      | inr long ↦
          let enough : block.rest ≤ length rest = simp length-drop (omega arith) in
          let at : total - 4 ≡ seen + (block.rest - 4) = omega arith in
          let tail : again ≡ tail_of block rest = number_at-drop block.order 4 (total - 4) (block.rest - 4) seen bytes at in
          let whole : seen + block.rest ≡ total = omega arith in
          let behind : drop total bytes ≡ drop block.rest rest = ap (λ m. drop m bytes) (sym whole) ∙ sym (drop-drop block.rest seen bytes) in
          let all : story_at scope n bytes ≡ ends_by (again == total) n again (block_packets scope bytes) (story_at (scope_after scope bytes) (n + 1) (drop total bytes)) =
          step ∙ (rw (above (length bytes) total long) refl) in
          all
          ∙ (ap (λ t. ends_by (t == total) n t (block_packets scope bytes) (story_at (scope_after scope bytes) (n + 1) (drop total bytes))) tail
          ∙ (ap (λ (ps : List Packet). ends_by (tail_of block rest == total) n (tail_of block rest) ps (story_at (scope_after scope bytes) (n + 1) (drop total bytes))) packets
          ∙ (ap (λ (s : Scope). ends_by (tail_of block rest == total) n (tail_of block rest) (waiting adds (take held (drop front bytes))) (story_at s (n + 1) (drop total bytes))) after
          ∙ (ap (λ (bs : List ℕ). ends_by (tail_of block rest == total) n (tail_of block rest) (waiting adds (take held (drop front bytes))) (story_at (scope_by adds block scope rest) (n + 1) bs)) behind
          ∙ sym (inside_long scope n block (take held (drop front bytes)) rest enough)))))
    ]

-- a section header
pub section_after : (scope : Scope) (bytes input : List ℕ) (seen : ℕ) → kind_of scope.order (take 28 bytes) ≡ kinds.Section →
    (block_packets scope bytes ≡ []) × (scope_after scope bytes ≡ scope_by Section (block_of scope.order (take 28 bytes) seen Section) scope input)
unfolding block_packets scope_after
section_after scope bytes input seen h = (ap (λ (k : BlockKind). block_packets_by k scope bytes) h, ap (λ (k : BlockKind). after_by k scope bytes) h)

-- an interface
pub description_after : (scope : Scope) (bytes : List ℕ) → kind_of scope.order (take 28 bytes) ≡ kinds.Description →
    let adds = Options (number_at scope.order 2 8 (take 28 bytes)) (number_at scope.order 4 12 (take 28 bytes)) in
    (block_packets scope bytes ≡ []) × (scope_after scope bytes ≡ scope_by adds (block_of scope.order (take 28 bytes) 16 adds) scope (drop 16 bytes))
unfolding block_packets scope_after
description_after scope bytes h =
    let other = not_section scope.order (take 28 bytes) kinds.Description h (λ e. cc) in
    let order : scope.order ≡ order_in scope.order (take 28 bytes) = sym (same_order scope.order (take 28 bytes) other) in
    let interface : ByteOrder → Interface = λ o. record {
      link = number_at scope.order 2 8 (take 28 bytes);
      snap = number_at scope.order 4 12 (take 28 bytes);
      resolution = resolution_of o (take (extent scope.order bytes - 16 - 4) (drop 16 bytes));
    } in (
      ap (λ (k : BlockKind). block_packets_by k scope bytes) h,
      ap (λ (k : BlockKind). after_by k scope bytes) h
          ∙ ap (λ (o : ByteOrder). record { order = scope.order; interfaces = scope.interfaces ++ interface o ∷ []; link = scope.link }) order,
    )

-- a block without packets tells no link
pub no_link : (link : Option ℕ) → link_with link [] ≡ link
no_link None = refl
no_link (Some l) = refl

-- a block that is stepped over
pub other_after : (scope : Scope) (bytes input : List ℕ) (seen : ℕ) → kind_of scope.order (take 28 bytes) ≡ kinds.Other →
    (block_packets scope bytes ≡ []) × (scope_after scope bytes ≡ scope_by Nothing (block_of scope.order (take 28 bytes) seen Nothing) scope input)
unfolding block_packets scope_after
other_after scope bytes input seen h = (
  ap (λ (k : BlockKind). block_packets_by k scope bytes) h,
  ap (λ (k : BlockKind). after_by k scope bytes) h ∙ ap (λ (l : Option ℕ). record { order = scope.order; interfaces = scope.interfaces; link = l }) (no_link scope.link),
)

told_link : (link : Option ℕ) (p : Packet) → link_with link (p ∷ []) ≡ link_told link p.link
told_link None p = refl
told_link (Some l) p = refl

by_record : (kind : BlockKind) (scope : Scope) (bytes : List ℕ) (interface : Interface) → is_record kind ≡ true → slice_get scope.interfaces (interface_named kind scope.order (take 28 bytes)) ≡ Some interface →
    (block_packets_by kind scope bytes ≡ packet_by kind scope.order (Some interface) bytes) × (after_by kind scope bytes ≡ record { order = scope.order; interfaces = scope.interfaces; link = link_with scope.link (block_packets_by kind scope bytes) })
by_record kinds.Section scope bytes interface r some = cc
by_record kinds.Description scope bytes interface r some = cc
by_record kinds.Other scope bytes interface r some = cc
by_record kinds.Simple scope bytes interface r some = (ap (λ (o : Option Interface). packet_by kinds.Simple scope.order o bytes) some, refl)
by_record kinds.Enhanced scope bytes interface r some = (ap (λ (o : Option Interface). packet_by kinds.Enhanced scope.order o bytes) some, refl)

-- a record
pub record_after : (scope : Scope) (bytes : List ℕ) (kind : BlockKind) (interface : Interface) → kind_of scope.order (take 28 bytes) ≡ kind → is_record kind ≡ true →
    slice_get scope.interfaces (interface_named kind scope.order (take 28 bytes)) ≡ Some interface →
    let adds = packet_of kind scope.order interface (take 28 bytes) in
    let held = captured_of kind scope.order interface (take 28 bytes) in
    (block_packets scope bytes ≡ waiting adds (take held (drop (bytes_at kind) bytes)))
    × (scope_after scope bytes ≡ scope_by adds (block_of scope.order (take 28 bytes) (bytes_at kind + held) adds) scope (drop (bytes_at kind + held) bytes))
unfolding block_packets scope_after
record_after scope bytes kind interface h r some =
    let by = by_record kind scope bytes interface r some in (
      ap (λ (k : BlockKind). block_packets_by k scope bytes) h ∙ by.0,
      ap (λ (k : BlockKind). after_by k scope bytes) h
          ∙ (by.1
          ∙ (ap (λ (ps : List Packet). record { order = scope.order; interfaces = scope.interfaces; link = link_with scope.link ps }) by.0
          ∙ ap (λ (l : Option ℕ). record { order = scope.order; interfaces = scope.interfaces; link = l }) (told_link scope.link _))),
    )
