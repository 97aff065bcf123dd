-- The story from a block on, block by block.
use Rattle.std.proofs.Common.{◌≡◌, ℕ, zero, suc, ◌+◌, ◌-◌, ◌≤◌, ◌<◌, List, [], ◌∷◌, length, drop, refl, sym, ap, ◌∙◌, arith, length-drop, Option, None, Some}
use Rattle.pcapng_reader.specs.declared.fault.NgBreak.{NgBreak}
use Rattle.pcapng_reader.specs.Scope.{Scope}
use Rattle.pcapng_reader.specs.Breaks.{first_break}
use Rattle.pcapng_reader.specs.Blocks.{Story, extent, block_packets, scope_after, before, unless, story_from, story_at}
use Rattle.pcapng_reader.proofs.Stories.{whole_block, story_step, story_end}

-- the bound on the blocks doesn't matter where it is large enough
pub same_story : (k m : ℕ) (scope : Scope) (n : ℕ) (bytes : List ℕ) → length bytes ≤ k → length bytes ≤ m → story_from k scope n bytes ≡ story_from m scope n bytes
same_story k m scope n [] a b = story_end k scope n ∙ sym (story_end m scope n)
same_story zero m scope n (x ∷ xs) a b = absurd (omega arith)
same_story (suc k) zero scope n (x ∷ xs) a b = absurd (omega arith)
same_story (suc k) (suc m) scope n (x ∷ xs) a b =
    let bytes : List ℕ = x ∷ xs in
    let some : 0 < length bytes = omega arith in
    story_step k scope n bytes some
    ∙ (by_break (first_break scope n bytes) refl (λ short shorter. same_story k m (scope_after scope bytes) (n + 1) (drop (extent scope.order bytes) bytes) short shorter) ∙ sym (story_step m scope n bytes some))
  where
    by_break : (o : Option NgBreak) → first_break scope n (x ∷ xs) ≡ o →
        (length (drop (extent scope.order (x ∷ xs)) (x ∷ xs)) ≤ k → length (drop (extent scope.order (x ∷ xs)) (x ∷ xs)) ≤ m →
        story_from k (scope_after scope (x ∷ xs)) (n + 1) (drop (extent scope.order (x ∷ xs)) (x ∷ xs)) ≡ story_from m (scope_after scope (x ∷ xs)) (n + 1) (drop (extent scope.order (x ∷ xs)) (x ∷ xs))) →
        unless (first_break scope n (x ∷ xs)) (before (block_packets scope (x ∷ xs)) (story_from k (scope_after scope (x ∷ xs)) (n + 1) (drop (extent scope.order (x ∷ xs)) (x ∷ xs))))
        ≡ unless (first_break scope n (x ∷ xs)) (before (block_packets scope (x ∷ xs)) (story_from m (scope_after scope (x ∷ xs)) (n + 1) (drop (extent scope.order (x ∷ xs)) (x ∷ xs))))
    by_break (Some e) h later = rw h refl
    by_break None h later =
        let bytes : List ℕ = x ∷ xs in
        let size = whole_block scope n bytes h in
        let rest : List ℕ = drop (extent scope.order bytes) bytes in
        let short : length rest ≤ k = simp length-drop (omega (arith, size.0)) in
        let shorter : length rest ≤ m = simp length-drop (omega (arith, size.0)) in
        ap (λ (s : Story). unless (first_break scope n bytes) (before (block_packets scope bytes) s)) (later short shorter)

-- the story of a block and what follows
pub story_at-step : (scope : Scope) (n : ℕ) (bytes : List ℕ) → 0 < length bytes →
    story_at scope n bytes ≡ unless (first_break scope n bytes) (before (block_packets scope bytes) (story_at (scope_after scope bytes) (n + 1) (drop (extent scope.order bytes) bytes)))
unfolding story_at
story_at-step scope n bytes some = by_break (first_break scope n bytes) refl
  where
    j : ℕ
    j = length bytes - 1

    step : story_from (length bytes) scope n bytes ≡ unless (first_break scope n bytes) (before (block_packets scope bytes) (story_from (length bytes - 1) (scope_after scope bytes) (n + 1) (drop (extent scope.order bytes) bytes)))
    step =
        let all : length bytes ≡ suc (length bytes - 1) = omega (arith, some) in
        ap (λ k. story_from k scope n bytes) all ∙ story_step (length bytes - 1) scope n bytes some

    by_break : (o : Option NgBreak) → first_break scope n bytes ≡ o → story_from (length bytes) scope n bytes
        ≡ unless (first_break scope n bytes) (before (block_packets scope bytes) (story_from (length (drop (extent scope.order bytes) bytes)) (scope_after scope bytes) (n + 1) (drop (extent scope.order bytes) bytes)))
    by_break (Some e) h = step ∙ rw h refl
    by_break None h =
        let size = whole_block scope n bytes h in
        let rest : List ℕ = drop (extent scope.order bytes) bytes in
        let short : length rest ≤ length bytes - 1 = simp length-drop (omega (arith, size.0, some)) in
        step ∙ ap (λ (s : Story). unless (first_break scope n bytes) (before (block_packets scope bytes) s)) (same_story (length bytes - 1) (length rest) (scope_after scope bytes) (n + 1) rest short (omega arith))

-- the story of a broken block
pub story_at-broken : (scope : Scope) (n : ℕ) (bytes : List ℕ) (e : NgBreak) → 0 < length bytes → first_break scope n bytes ≡ Some e → story_at scope n bytes ≡ record { packets = []; broken = Some e }
story_at-broken scope n bytes e some h =
    story_at-step scope n bytes some
    ∙ ap (λ (o : Option NgBreak). unless o (before (block_packets scope bytes) (story_at (scope_after scope bytes) (n + 1) (drop (extent scope.order bytes) bytes)))) h

pub story_at-end : (scope : Scope) (n : ℕ) → story_at scope n [] ≡ record { packets = []; broken = None }
unfolding story_at
story_at-end scope n = story_end 0 scope n
