-- The story of a list of bytes is its one reading.
use Rattle.std.proofs.Common.{◌≡◌, ℕ, zero, suc, ◌+◌, ◌≤◌, ◌<◌, ◌||◌, ◌%◌, ◌==◌, not, lit≤, Bool, true, false, nat_lt, List, [], ◌∷◌, length, take, drop, refl, sym, ap, subst, ◌∙◌, arith, length-drop, length-append, Option, None, Some}
use Rattle.std.proofs.lemmas.List.{take-append-drop, length-take-le}
use Rattle.std.proofs.lemmas.Bool.Decides.{nat_tests}
use Rattle.std.proofs.Math.Seq.{drop-append_seam}
use Rattle.pcapng_reader.specs.declared.kind.BlockKind.{BlockKind}
use Rattle.pcapng_reader.specs.declared.kind.BlockKind.TheVariants.{Section, Description, Simple, Enhanced, Other}
use Rattle.pcapng_reader.specs.declared.fault.NgBreak.{NgBreak}
use Rattle.pcapng_reader.specs.Scope.{Scope}
use Rattle.pcapng_reader.specs.Front.{kind_of, total_length, least_total}
use Rattle.pcapng_reader.specs.Breaks.{Row, first_row, earlier_break, frame_rows, front_break, rest_rows, first_break}
use Rattle.pcapng_reader.specs.Blocks.{Packet, Story, extent, block_packets, scope_after, before, unless, story_from, story_at, story_of, at_first}
use Rattle.pcapng_reader.specs.Reading.{Begins, TailEnds, Reads}

abbrev pub first_applies : List Row → Bool
first_applies [] = false
first_applies (r ∷ rs) = r.applies

abbrev pub later_rows : List Row → List Row
later_rows [] = []
later_rows (r ∷ rs) = rs

-- no row of a table applies
pub no_row : (n : ℕ) (rows : List Row) → first_row n rows ≡ None → (first_applies rows ≡ false) × (first_row n (later_rows rows) ≡ None)
no_row n [] h = (refl, refl)
no_row n (r ∷ rs) h = by_test r.applies refl
  where
    by_test : (b : Bool) → r.applies ≡ b → (r.applies ≡ false) × (first_row n rs ≡ None)
    by_test false e = (e, rw e at h)
    by_test true e = let bad = rw e at h in cc

pub neither : (a b : Option NgBreak) → earlier_break a b ≡ None → (a ≡ None) × (b ≡ None)
neither None b h = (refl, h)
neither (Some e) b h = cc

least_above : (kind : BlockKind) → 12 ≤ least_total kind
least_above Section = lit≤ tt
least_above Description = lit≤ tt
least_above Simple = lit≤ tt
least_above Enhanced = lit≤ tt
least_above Other = lit≤ tt

pub not_below : (a b : ℕ) → nat_lt a b ≡ false → b ≤ a
not_below a b h = grind (arith, nat_tests)

pub second : (a b : Bool) → (a || b) ≡ false → b ≡ false
second false b h = h
second true b h = cc

-- an unbroken block has all its bytes, and at least twelve
pub whole_block : (scope : Scope) (n : ℕ) (bytes : List ℕ) → first_break scope n bytes ≡ None → (12 ≤ total_length scope.order (take 28 bytes)) × (total_length scope.order (take 28 bytes) ≤ length bytes)
unfolding first_break
whole_block scope n bytes h =
    let front : List ℕ = take 28 bytes in
    let parts = neither (front_break scope n front) (first_row n (rest_rows scope.order bytes)) h in
    let frame = (neither (first_row n (frame_rows scope.order n front)) _ parts.0).0 in
    let rows : List Row = frame_rows scope.order n front in
    let total : ℕ = total_length scope.order front in
    let numbered = no_row n rows frame in
    let begun = no_row n (later_rows rows) numbered.1 in
    let ordered = no_row n (later_rows (later_rows rows)) begun.1 in
    let sized = no_row n (later_rows (later_rows (later_rows rows))) ordered.1 in
    let there = no_row n (rest_rows scope.order bytes) parts.1 in
    let least : least_total (kind_of scope.order front) ≤ total = not_below total (least_total (kind_of scope.order front)) (second (not (total % 4 == 0)) (nat_lt total (least_total (kind_of scope.order front))) sized.0) in
    let above = least_above (kind_of scope.order front) in
    (omega (arith, least, above), not_below (length bytes) total there.0)

-- the story of some bytes is that of their first block, and then the rest
pub story_step : (k : ℕ) (scope : Scope) (n : ℕ) (bytes : List ℕ) → 0 < length bytes → story_from (suc k) scope n bytes ≡ unless (first_break scope n bytes) (before (block_packets scope bytes) (story_from k (scope_after scope bytes) (n + 1) (drop (extent scope.order bytes) bytes)))
unfolding story_from
story_step k scope n [] h = absurd (omega arith)
story_step k scope n (b ∷ bs) h = refl

pub story_end : (k : ℕ) (scope : Scope) (n : ℕ) → story_from k scope n [] ≡ record { packets = []; broken = None }
unfolding story_from
story_end zero scope n = refl
story_end (suc k) scope n = refl

pub empty_of : (xs : List ℕ) → length xs ≤ 0 → xs ≡ []
empty_of [] h = refl
empty_of (x ∷ xs) h = absurd (omega arith)

abbrev made : List Packet → Option NgBreak → Story
made packets broken = record { packets = packets; broken = broken }

-- a reading from a block on is the story from there on
pub one_story_from : (k : ℕ) (scope : Scope) (n : ℕ) (bytes : List ℕ) (blocks : List (List ℕ)) (packets : List Packet) (last : Scope) (tail : List ℕ) (ending : Option NgBreak) →
    length bytes ≤ k → Begins scope n bytes blocks packets last tail → TailEnds last (n + length blocks) tail ending → story_from k scope n bytes ≡ made packets ending
one_story_from k scope n bytes [] packets last tail None a b t =
    ap (λ (w : List ℕ). story_from k scope n w) (sym b.2 ∙ t) ∙ (story_end k scope n ∙ ap (λ (ps : List Packet). made ps None) (sym b.0))
one_story_from zero scope n bytes [] packets last tail (Some e) a b t = let same = ap length b.2 in absurd (omega (arith, same, t.0))
one_story_from (suc k) scope n bytes [] packets last tail (Some e) a b t =
    let same : length tail ≡ length bytes = ap length b.2 in
    let broken : first_break scope n bytes ≡ Some e =
    ap (λ (w : List ℕ). first_break scope n w) (sym b.2) ∙ (ap (λ (s : Scope). first_break s n tail) (sym b.1) ∙ (ap (λ m. first_break last m tail) (sym add_none) ∙ t.1)) in
    story_step k scope n bytes (omega (arith, same, t.0)) ∙ (ap (λ (o : Option NgBreak). unless o (before (block_packets scope bytes) (story_from k (scope_after scope bytes) (n + 1) (drop (extent scope.order bytes) bytes)))) broken
    ∙ ap (λ (ps : List Packet). made ps (Some e)) (sym b.0))
  where
    add_none : n + 0 ≡ n
    add_none = omega arith
one_story_from zero scope n bytes (block ∷ blocks) packets last tail ending a b t =
    let long : length bytes ≡ length block + length b.0 = ap length b.2 ∙ length-append block b.0 in
    let some = b.3.some in
    absurd (omega arith)
one_story_from (suc k) scope n bytes (block ∷ blocks) packets last tail ending a b t =
    let rest = b.0 in
    let long : length bytes ≡ length block + length rest = ap length b.2 ∙ length-append block rest in
    let some = b.3.some in
    let behind : drop (extent scope.order bytes) bytes ≡ rest = ap (λ m. drop m bytes) (sym b.3.whole) ∙ (ap (drop (length block)) b.2 ∙ drop-append_seam block rest) in
    let shift : n + suc (length blocks) ≡ (n + 1) + length blocks = omega arith in
    let later = one_story_from k (scope_after scope bytes) (n + 1) rest blocks b.1 last tail ending (omega arith) b.5 (subst (λ m. TailEnds last m tail ending) shift t) in
    story_step k scope n bytes (omega arith)
    ∙ (ap (λ (o : Option NgBreak). unless o (before (block_packets scope bytes) (story_from k (scope_after scope bytes) (n + 1) (drop (extent scope.order bytes) bytes)))) b.3.sound
    ∙ (ap (λ (w : List ℕ). before (block_packets scope bytes) (story_from k (scope_after scope bytes) (n + 1) w)) behind
    ∙ (ap (λ (s : Story). before (block_packets scope bytes) s) later ∙ ap (λ (ps : List Packet). made ps ending) (sym b.4))))

abbrev ReadFrom : Scope → ℕ → List ℕ → Story → Type 0
ReadFrom scope n bytes story =
    (blocks : List (List ℕ)) × (last : Scope) × (tail : List ℕ) × Begins scope n bytes blocks story.packets last tail × TailEnds last (n + length blocks) tail story.broken

-- the story from a block on is a reading from there on
pub each_story_from : (k : ℕ) (scope : Scope) (n : ℕ) (bytes : List ℕ) → length bytes ≤ k → ReadFrom scope n bytes (story_from k scope n bytes)
each_story_from zero scope n bytes a =
    let none = empty_of bytes a in
    subst (λ (w : List ℕ). ReadFrom scope n w (story_from 0 scope n w)) (sym none) (subst (λ (s : Story). ReadFrom scope n [] s) (sym (story_end 0 scope n)) ([], scope, [], (refl, refl, refl), refl))
each_story_from (suc k) scope n [] a = subst (λ (s : Story). ReadFrom scope n [] s) (sym (story_end (suc k) scope n)) ([], scope, [], (refl, refl, refl), refl)
each_story_from (suc k) scope n (b ∷ bs) a =
    let bytes : List ℕ = b ∷ bs in
    let next = scope_after scope bytes in
    let rest = drop (extent scope.order bytes) bytes in
    let some : 0 < length bytes = omega arith in
    subst (λ (s : Story). ReadFrom scope n bytes s) (sym (story_step k scope n bytes some))
    (by_break k scope n bytes a some (first_break scope n bytes) refl (λ short. each_story_from k next (n + 1) rest short))
  where
    by_break : (k : ℕ) (scope : Scope) (n : ℕ) (bytes : List ℕ) → length bytes ≤ suc k → 0 < length bytes → (o : Option NgBreak) → first_break scope n bytes ≡ o →
        (length (drop (extent scope.order bytes) bytes) ≤ k → ReadFrom (scope_after scope bytes) (n + 1) (drop (extent scope.order bytes) bytes) (story_from k (scope_after scope bytes) (n + 1) (drop (extent scope.order bytes) bytes))) →
        ReadFrom scope n bytes (unless o (before (block_packets scope bytes) (story_from k (scope_after scope bytes) (n + 1) (drop (extent scope.order bytes) bytes))))
    by_break k scope n bytes a some (Some e) h later =
        let add_none : n ≡ n + 0 = omega arith in
        ([], scope, bytes, (refl, refl, refl), (some, subst (λ m. first_break scope m bytes ≡ Some e) add_none h))
    by_break k scope n bytes a some None h later =
        let size = whole_block scope n bytes h in
        let all : ℕ = extent scope.order bytes in
        let fits : all ≤ length bytes = omega (arith, size.0, size.1) in
        let front : length (take all bytes) ≡ all = length-take-le all bytes fits in
        let r = later (simp length-drop (omega (arith, size.0, fits))) in
        let shift : (n + 1) + length r.0 ≡ n + suc (length r.0) = omega arith in (
          take all bytes ∷ r.0,
          r.1,
          r.2,
          (drop all bytes, (story_from k (scope_after scope bytes) (n + 1) (drop all bytes)).packets, sym (take-append-drop all bytes), record { some = omega (arith, size.0, front); whole = front; sound = h }, refl, r.3),
          subst (λ m. TailEnds r.1 m r.2 (story_from k (scope_after scope bytes) (n + 1) (drop all bytes)).broken) shift r.4,
        )

pub each_reading : (bytes : List ℕ) → Reads bytes (story_of bytes).packets (story_of bytes).broken
unfolding story_at
each_reading bytes =
    let r = each_story_from (length bytes) at_first 0 bytes (omega arith) in
    let none_more : 0 + length r.0 ≡ length r.0 = omega arith in
    (r.0, r.1, r.2, r.3, subst (λ m. TailEnds r.1 m r.2 (story_from (length bytes) at_first 0 bytes).broken) none_more r.4)

pub one_reading : (bytes : List ℕ) (packets : List Packet) (ending : Option NgBreak) → Reads bytes packets ending → (packets ≡ (story_of bytes).packets) × (ending ≡ (story_of bytes).broken)
unfolding story_at
one_reading bytes packets ending r =
    let none_more : length r.0 ≡ 0 + length r.0 = omega arith in
    let same = one_story_from (length bytes) at_first 0 bytes r.0 packets r.1 r.2 ending (omega arith) r.3 (subst (λ m. TailEnds r.1 m r.2 ending) none_more r.4) in
    (ap (λ (s : Story). s.packets) (sym same), ap (λ (s : Story). s.broken) (sym same))
