-- The packets of a pcapng capture are of one link, and their numbers fit a record of a classic capture.
use Rattle.std.proofs.Common.{◌≡◌, ◌⊎◌, inl, inr, ℕ, zero, suc, ◌+◌, ◌^◌, ◌≤◌, ◌<◌, ◌==◌, ◌||◌, not, Bool, true, false, List, [], ◌∷◌, ◌++◌, length, take, drop, slice_index, refl, subst, arith, length-take, Option, None, Some, slice_get}
use Rattle.std.specs.Prelude.{All, ⊤}
use Rattle.std.proofs.lemmas.List.{get_or_past}
use Rattle.std.proofs.lemmas.List.Elements.{All-take, All-drop, All-nil, All-cons, All-append}
use Rattle.std.proofs.lemmas.Bool.{cases_lt}
use Rattle.std.proofs.lemmas.Bool.Decides.{nat_tests}
use Rattle.byteorder.specs.Numbers.{big_from-lt, little_from-lt}
use Rattle.pcapng_reader.specs.declared.byte_order.ByteOrder.{ByteOrder}
use Rattle.pcapng_reader.specs.declared.byte_order.ByteOrder.TheVariants.{Little, Big}
use Rattle.pcapng_reader.specs.declared.kind.BlockKind.{BlockKind}
use Rattle.pcapng_reader.specs.declared.kind.BlockKind.TheVariants.{Section, Description, Simple, Enhanced, Other}
use Rattle.pcapng_reader.specs.declared.fault.NgBreak.{NgBreak}
use Rattle.pcapng_reader.specs.declared.interface.Interface.{Interface}
use Rattle.pcapng_reader.specs.Numbers.{number_at}
use Rattle.pcapng_reader.specs.Scope.{Scope}
use Rattle.pcapng_reader.specs.Front.{kind_of, is_record, interface_named, original_of}
use Rattle.pcapng_reader.specs.Breaks.{first_row, first_break, is_bad_link, front_break, rest_rows}
use Rattle.pcapng_reader.specs.Blocks.{Packet, Story, extent, packet_at, packet_by, block_packets_by, block_packets, link_with, after_by, scope_after, before, unless, story_from, story_at, story_of, at_first}
use Rattle.pcapng_reader.proofs.Stories.{neither, second}
use Rattle.pcapng_reader.proofs.Fronts.{sound_named, sound_record, sound_link}
use Rattle.pcapng_reader.proofs.Opens.{no_link}
use Rattle.rsspp_main.specs.Packets.{AreBytes}

-- a packet of a link that is read, whose numbers fit a record of a classic capture, but for its length on the wire
pub record IsSound (first : ℕ) (p : Packet) : Type 0 where
  pub known : (first ≡ 1) ⊎ (first ≡ 101)
  pub link : p.link ≡ first
  pub nanos : p.nanos ≤ 4_294_967_295_999_999_999
  pub captured : length p.bytes ≤ 262_144

-- all packets are of one link
abbrev pub AreSound : ℕ → List Packet → Type 0
AreSound link [] = ⊤
AreSound link (p ∷ ps) = IsSound link p × AreSound link ps

-- the same behind packets whose link is known, if there was one
abbrev pub AreSoundBehind : Option ℕ → List Packet → Type 0
AreSoundBehind (Some link) packets = AreSound link packets
AreSoundBehind None [] = ⊤
AreSoundBehind None (p ∷ ps) = AreSound p.link (p ∷ ps)

-- a link that is not bad
good_link : (link : ℕ) → not (link == 1 || link == 101) ≡ false → (link ≡ 1) ⊎ (link ≡ 101)
good_link link h = by_test (link == 1) refl
  where
    by_test : (b : Bool) → (link == 1) ≡ b → (link ≡ 1) ⊎ (link ≡ 101)
    by_test true e = inl (grind (arith, nat_tests))
    by_test false e = inr (grind (arith, nat_tests))

-- the packet of a record that nothing breaks
sound_packet : (scope : Scope) (n : ℕ) (bytes : List ℕ) (kind : BlockKind) (interface : Interface) → front_break scope n (take 28 bytes) ≡ None → kind_of scope.order (take 28 bytes) ≡ kind → is_record kind ≡ true →
    slice_get scope.interfaces (interface_named kind scope.order (take 28 bytes)) ≡ Some interface → (link : ℕ) → (link ≡ 1) ⊎ (link ≡ 101) → interface.link ≡ link → IsSound link (packet_at kind scope.order interface bytes)
sound_packet scope n bytes kind interface h k r some link known same =
    let limit = (sound_record scope n (take 28 bytes) kind interface h k r some).0 in
    record {
      known = known;
      link = same;
      nanos = omega arith;
      captured = simp length-take (omega (arith, limit));
    }

first : (a b : Bool) → (a || b) ≡ false → a ≡ false
first false b h = refl
first true b h = cc

-- it is sound behind the packets before it, and so are those behind it
record_first : (scope : Scope) (n : ℕ) (bytes : List ℕ) (kind : BlockKind) (interface : Interface) (later : List Packet) (link : Option ℕ) → scope.link ≡ link → front_break scope n (take 28 bytes) ≡ None → kind_of scope.order (take 28 bytes) ≡ kind → is_record kind ≡ true →
    slice_get scope.interfaces (interface_named kind scope.order (take 28 bytes)) ≡ Some interface →
    AreSoundBehind (link_with link (packet_at kind scope.order interface bytes ∷ [])) later → AreSoundBehind link (packet_at kind scope.order interface bytes ∷ later)
record_first scope n bytes kind interface later None e h k r some behind =
    let good = subst (λ (o : Option ℕ). is_bad_link o interface.link ≡ false) e (sound_link scope n (take 28 bytes) kind interface h k r some) in
    (sound_packet scope n bytes kind interface h k r some interface.link (good_link interface.link good) refl, behind)
record_first scope n bytes kind interface later (Some link) e h k r some behind =
    let good = subst (λ (o : Option ℕ). is_bad_link o interface.link ≡ false) e (sound_link scope n (take 28 bytes) kind interface h k r some) in
    let known = good_link interface.link (first _ _ good) in
    let same : interface.link ≡ link = is_same interface.link link (second _ _ good) in
    (sound_packet scope n bytes kind interface h k r some link (subst (λ l. (l ≡ 1) ⊎ (l ≡ 101)) same known) same, behind)
  where
    is_same : (a b : ℕ) → not (a == b) ≡ false → a ≡ b
    is_same a b t = grind (arith, nat_tests)

record_by : (scope : Scope) (n : ℕ) (bytes : List ℕ) (kind : BlockKind) (o : Option Interface) (later : List Packet) → front_break scope n (take 28 bytes) ≡ None → kind_of scope.order (take 28 bytes) ≡ kind → is_record kind ≡ true →
    slice_get scope.interfaces (interface_named kind scope.order (take 28 bytes)) ≡ o →
    AreSoundBehind (link_with scope.link (packet_by kind scope.order o bytes)) later → AreSoundBehind scope.link (packet_by kind scope.order o bytes ++ later)
record_by scope n bytes kind None later h k r none behind = absurd (sound_named scope n (take 28 bytes) kind h k r none)
record_by scope n bytes kind (Some interface) later h k r some behind = record_first scope n bytes kind interface later scope.link refl h k r some behind

-- a block more in front
block_by : (kind : BlockKind) (scope : Scope) (n : ℕ) (bytes : List ℕ) (later : List Packet) → front_break scope n (take 28 bytes) ≡ None → kind_of scope.order (take 28 bytes) ≡ kind →
    AreSoundBehind (after_by kind scope bytes).link later → AreSoundBehind scope.link (block_packets_by kind scope bytes ++ later)
block_by Section scope n bytes later h k behind = behind
block_by Description scope n bytes later h k behind = behind
block_by Simple scope n bytes later h k behind = record_by scope n bytes Simple (slice_get scope.interfaces (interface_named Simple scope.order (take 28 bytes))) later h k refl refl behind
block_by Enhanced scope n bytes later h k behind = record_by scope n bytes Enhanced (slice_get scope.interfaces (interface_named Enhanced scope.order (take 28 bytes))) later h k refl refl behind
block_by Other scope n bytes later h k behind = subst (λ (l : Option ℕ). AreSoundBehind l later) (no_link scope.link) behind

sound_front : (scope : Scope) (n : ℕ) (bytes : List ℕ) → first_break scope n bytes ≡ None → front_break scope n (take 28 bytes) ≡ None
unfolding first_break
sound_front scope n bytes h = (neither (front_break scope n (take 28 bytes)) (first_row n (rest_rows scope.order bytes)) h).0

block_first : (scope : Scope) (n : ℕ) (bytes : List ℕ) (later : List Packet) → first_break scope n bytes ≡ None → AreSoundBehind (scope_after scope bytes).link later → AreSoundBehind scope.link (block_packets scope bytes ++ later)
unfolding block_packets scope_after
block_first scope n bytes later h behind = block_by (kind_of scope.order (take 28 bytes)) scope n bytes later (sound_front scope n bytes h) refl behind

sound_none : (link : Option ℕ) → AreSoundBehind link []
sound_none None = tt
sound_none (Some l) = tt

-- the packets of a story
sound_story : (k : ℕ) (scope : Scope) (n : ℕ) (bytes : List ℕ) → AreSoundBehind scope.link (story_from k scope n bytes).packets
unfolding story_from
sound_story zero scope n bytes = sound_none scope.link
sound_story (suc k) scope n [] = sound_none scope.link
sound_story (suc k) scope n (b ∷ bs) =
    by_break k scope n (b ∷ bs) (first_break scope n (b ∷ bs)) refl (sound_story k (scope_after scope (b ∷ bs)) (n + 1) (drop (extent scope.order (b ∷ bs)) (b ∷ bs)))
  where
    by_break : (k : ℕ) (scope : Scope) (n : ℕ) (bytes : List ℕ) (o : Option NgBreak) → first_break scope n bytes ≡ o →
        AreSoundBehind (scope_after scope bytes).link (story_from k (scope_after scope bytes) (n + 1) (drop (extent scope.order bytes) bytes)).packets →
        AreSoundBehind scope.link (unless o (before (block_packets scope bytes) (story_from k (scope_after scope bytes) (n + 1) (drop (extent scope.order bytes) bytes)))).packets
    by_break k scope n bytes (Some e) h later = sound_none scope.link
    by_break k scope n bytes None h later = block_first scope n bytes _ h later

pub packets_sound : (bytes : List ℕ) → AreSoundBehind None (story_of bytes).packets
unfolding story_at
packets_sound bytes = sound_story (length bytes) at_first 0 bytes

-- a number in bytes has no more than those
byte_at : (bytes : List ℕ) → AreBytes bytes → (k : ℕ) → slice_index bytes k < 256
byte_at bytes h k = elim (cases_lt k (length bytes)) [
  | inl there ↦ h k 0 there
  | inr past ↦ let none = get_or_past bytes k 0 past in omega (arith, none)
]

number_fits : (order : ByteOrder) (n i : ℕ) (bytes : List ℕ) → AreBytes bytes → number_at order n i bytes < 256 ^ n
unfolding number_at
number_fits Little n i bytes h = little_from-lt 0 n (drop i bytes) (byte_at (drop i bytes) (All-drop (λ b. b < 256) i bytes h))
number_fits Big n i bytes h = big_from-lt 0 n (drop i bytes) (byte_at (drop i bytes) (All-drop (λ b. b < 256) i bytes h))

-- the length on the wire fits a record too
abbrev pub Fits : Packet → Type 0
Fits p = p.original < 256 ^ 4

original_fits : (kind : BlockKind) (order : ByteOrder) (front : List ℕ) → AreBytes front → original_of kind order front < 256 ^ 4
original_fits Section order front h = number_fits order 4 8 front h
original_fits Description order front h = number_fits order 4 8 front h
original_fits Simple order front h = number_fits order 4 8 front h
original_fits Enhanced order front h = number_fits order 4 24 front h
original_fits Other order front h = number_fits order 4 8 front h

packet_fits : (kind : BlockKind) (order : ByteOrder) (o : Option Interface) (bytes : List ℕ) → AreBytes bytes → All Fits (packet_by kind order o bytes)
packet_fits kind order None bytes h = All-nil Fits
packet_fits kind order (Some interface) bytes h = All-cons Fits (packet_at kind order interface bytes) [] (original_fits kind order (take 28 bytes) (All-take (λ b. b < 256) 28 bytes h)) (All-nil Fits)

block_fits : (kind : BlockKind) (scope : Scope) (bytes : List ℕ) → AreBytes bytes → All Fits (block_packets_by kind scope bytes)
block_fits Section scope bytes h = All-nil Fits
block_fits Description scope bytes h = All-nil Fits
block_fits Simple scope bytes h = packet_fits Simple scope.order _ bytes h
block_fits Enhanced scope bytes h = packet_fits Enhanced scope.order _ bytes h
block_fits Other scope bytes h = All-nil Fits

story_fits : (k : ℕ) (scope : Scope) (n : ℕ) (bytes : List ℕ) → AreBytes bytes → All Fits (story_from k scope n bytes).packets
unfolding story_from block_packets
story_fits zero scope n bytes h = All-nil Fits
story_fits (suc k) scope n [] h = All-nil Fits
story_fits (suc k) scope n (b ∷ bs) h =
    let bytes : List ℕ = b ∷ bs in
    by_break (first_break scope n bytes) (block_packets scope bytes) _ (block_fits (kind_of scope.order (take 28 bytes)) scope bytes h)
    (story_fits k (scope_after scope bytes) (n + 1) (drop (extent scope.order bytes) bytes) (All-drop (λ b. b < 256) (extent scope.order bytes) bytes h))
  where
    by_break : (o : Option NgBreak) (packets : List Packet) (story : Story) → All Fits packets → All Fits story.packets → All Fits (unless o (before packets story)).packets
    by_break (Some e) packets story a b = All-nil Fits
    by_break None packets story a b = All-append Fits packets story.packets a b

pub packets_fit : (bytes : List ℕ) → AreBytes bytes → All Fits (story_of bytes).packets
unfolding story_at
packets_fit bytes h = story_fits (length bytes) at_first 0 bytes h
