-- Lines of words are read back from their bytes.
use Rattle.std.proofs.Common.{◌≡◌, ℕ, arith, List, [], ◌∷◌, ◌++◌, length, refl, sym, ap, ◌∙◌, append_assoc, length-append, Bool, true, false, ◌||◌, ◌==◌}
use Rattle.std.proofs.lemmas.Bool.{true≢false}
use Rattle.std.specs.List.{AllByRecursion, flat_map, list_any}
use Rattle.flow_report.specs.JournalText.{spaced, line_bytes}

-- a space or a line feed ends a word
abbrev pub ends : ℕ → Bool
ends byte = (byte == 32) || (byte == 10)

-- no byte of a word ends it
abbrev pub IsWord : List ℕ → Type 0
IsWord word = list_any ends word ≡ false

-- a line has a word
abbrev pub IsLine : List (List ℕ) → Type 0
IsLine [] = ⊥
IsLine (word ∷ words) = IsWord word × AllByRecursion IsWord words

or_left : (a b : Bool) → (a || b) ≡ false → a ≡ false
or_left true b h = h
or_left false b h = refl

or_right : (a b : Bool) → (a || b) ≡ false → b ≡ false
or_right true b h = absurd (true≢false h)
or_right false b h = h

apart : (x y : ℕ) → ends x ≡ true → ends y ≡ false → x ≡ y → ⊥
apart x y p q e = true≢false (sym p ∙ (ap ends e ∙ q))

-- a word ends where its list does
pub words_apart : (v w r s : List ℕ) (x y : ℕ) → IsWord v → IsWord w → ends x ≡ true → ends y ≡ true → v ++ x ∷ r ≡ w ++ y ∷ s → (v ≡ w) × (x ∷ r ≡ y ∷ s)
words_apart [] [] r s x y p q h k e = (refl, e)
words_apart [] (b ∷ w) r s x y p q h k e = let here : x ≡ b = cc in absurd (apart x b h (or_left (ends b) (list_any ends w) q) here)
words_apart (a ∷ v) [] r s x y p q h k e = let here : y ≡ a = cc in absurd (apart y a k (or_left (ends a) (list_any ends v) p) here)
words_apart (a ∷ v) (b ∷ w) r s x y p q h k e =
    let first : a ≡ b = cc in
    let later : v ++ x ∷ r ≡ w ++ y ∷ s = cc in
    let rest = words_apart v w r s x y (or_right (ends a) (list_any ends v) p) (or_right (ends b) (list_any ends w) q) h k later in
    let tail = rest.0 in
    (cc, rest.1)

-- what stands behind a word begins with a byte that ends it
record Behind (bytes : List ℕ) : Type 0 where
  byte : ℕ
  later : List ℕ
  is : bytes ≡ byte ∷ later
  ended : ends byte ≡ true

behind : (words : List (List ℕ)) (r : List ℕ) → Behind (spaced words ++ 10 ∷ r)
behind [] r = record { byte = 10; later = r; is = refl; ended = refl }
behind (w ∷ ws) r = record { byte = 32; later = (w ++ spaced ws) ++ 10 ∷ r; is = refl; ended = refl }

word_first : (v w : List ℕ) (vs ws : List (List ℕ)) (r s : List ℕ) → IsWord v → IsWord w → v ++ (spaced vs ++ 10 ∷ r) ≡ w ++ (spaced ws ++ 10 ∷ s) → (v ≡ w) × (spaced vs ++ 10 ∷ r ≡ spaced ws ++ 10 ∷ s)
word_first v w vs ws r s p q e =
    let a = behind vs r in
    let b = behind ws s in
    let both = words_apart v w a.later b.later a.byte b.byte p q a.ended b.ended (sym (ap (λ z. v ++ z) a.is) ∙ (e ∙ ap (λ z. w ++ z) b.is)) in
    (both.0, a.is ∙ (both.1 ∙ sym b.is))

spaced_apart : (vs ws : List (List ℕ)) (r s : List ℕ) → AllByRecursion IsWord vs → AllByRecursion IsWord ws → spaced vs ++ 10 ∷ r ≡ spaced ws ++ 10 ∷ s → (vs ≡ ws) × (r ≡ s)
spaced_apart [] [] r s p q e = (refl, cc)
spaced_apart [] (w ∷ ws) r s p q e = let no : ◌≡◌ {A = ℕ} 10 32 = cc in absurd (omega arith)
spaced_apart (v ∷ vs) [] r s p q e = let no : ◌≡◌ {A = ℕ} 32 10 = cc in absurd (omega arith)
spaced_apart (v ∷ vs) (w ∷ ws) r s p q e =
    let later : (v ++ spaced vs) ++ 10 ∷ r ≡ (w ++ spaced ws) ++ 10 ∷ s = cc in
    let whole = sym (append_assoc v (spaced vs) (10 ∷ r)) ∙ (later ∙ append_assoc w (spaced ws) (10 ∷ s)) in
    let first = word_first v w vs ws r s p.0 q.0 whole in
    let rest = spaced_apart vs ws r s p.1 q.1 first.1 in
    let head = first.0 in
    let tail = rest.0 in
    (cc, rest.1)

regroup : (w : List ℕ) (ws : List (List ℕ)) (r : List ℕ) → line_bytes (w ∷ ws) ++ r ≡ w ++ (spaced ws ++ 10 ∷ r)
regroup w ws r = simp append_assoc

-- a line ends where its bytes do
pub lines_apart : (v w : List (List ℕ)) (r s : List ℕ) → IsLine v → IsLine w → line_bytes v ++ r ≡ line_bytes w ++ s → (v ≡ w) × (r ≡ s)
lines_apart [] w r s p q e = absurd p
lines_apart (v ∷ vs) [] r s p q e = absurd q
lines_apart (v ∷ vs) (w ∷ ws) r s p q e =
    let first = word_first v w vs ws r s p.0 q.0 (sym (regroup v vs r) ∙ (e ∙ regroup w ws s)) in
    let rest = spaced_apart vs ws r s p.1 q.1 first.1 in
    let head = first.0 in
    let tail = rest.0 in
    (cc, rest.1)

some_bytes : (w : List (List ℕ)) (r : List ℕ) → IsLine w → [] ≡ line_bytes w ++ r → ⊥
some_bytes [] r p e = p
some_bytes (w ∷ ws) r p e =
    let long : 0 ≡ length (w ++ (spaced ws ++ 10 ∷ r)) = ap length (e ∙ regroup w ws r) in
    omega (arith, simp length-append at long)

-- texts that have the same bytes have the same lines
pub same_lines : (vs ws : List (List (List ℕ))) → AllByRecursion IsLine vs → AllByRecursion IsLine ws → flat_map line_bytes vs ≡ flat_map line_bytes ws → vs ≡ ws
same_lines [] [] p q e = refl
same_lines [] (w ∷ ws) p q e = absurd (some_bytes w (flat_map line_bytes ws) q.0 e)
same_lines (v ∷ vs) [] p q e = absurd (some_bytes v (flat_map line_bytes vs) p.0 (sym e))
same_lines (v ∷ vs) (w ∷ ws) p q e =
    let first = lines_apart v w (flat_map line_bytes vs) (flat_map line_bytes ws) p.0 q.0 e in
    let head = first.0 in
    let tail = same_lines vs ws p.1 q.1 first.1 in
    cc
