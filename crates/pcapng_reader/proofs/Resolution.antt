-- The time resolution that options tell, option by option.
use Rattle.std.proofs.Common.{◌≡◌, ◌⊎◌, inl, inr, ◌≢◌, ℕ, zero, suc, ◌-◌, ◌≤◌, ◌==◌, Bool, true, false, List, [], ◌∷◌, length, drop, refl, sym, ap, ◌∙◌, arith, length-drop, Some, find}
use Rattle.std.proofs.lemmas.Bool.Decides.{nat_tests}
use Rattle.pcapng_reader.specs.declared.byte_order.ByteOrder.{ByteOrder}
use Rattle.pcapng_reader.specs.Numbers.{number_at}
use Rattle.pcapng_reader.specs.Options.{NgOption, option_length, has_option, first_option, options, told_by, resolution_of}

-- an option has a header
has_header : (order : ByteOrder) (bytes : List ℕ) → has_option order bytes ≡ true → 4 ≤ length bytes
unfolding has_option
has_header order bytes h = grind (arith, nat_tests)

more_options : (k : ℕ) (order : ByteOrder) (bytes : List ℕ) → has_option order bytes ≡ true → options (suc k) order bytes ≡ first_option order bytes ∷ options k order (drop (option_length order bytes) bytes)
unfolding options
more_options k order bytes h = rw h refl

no_options : (k : ℕ) (order : ByteOrder) (bytes : List ℕ) → has_option order bytes ≡ false → options k order bytes ≡ []
unfolding options
no_options zero order bytes h = refl
no_options (suc k) order bytes h = rw h refl

either : (b : Bool) → (b ≡ true) ⊎ (b ≡ false)
either true = inl refl
either false = inr refl

-- no option stands in no bytes
none_at_end : (order : ByteOrder) (bytes : List ℕ) → length bytes ≤ 0 → has_option order bytes ≡ false
none_at_end order bytes a = elim (either (has_option order bytes)) [
  | inl some ↦ let long = has_header order bytes some in absurd (omega (arith, long))
  | inr none ↦ none
]

-- the bound on the options doesn't matter where it is large enough
pub same_options : (k m : ℕ) (order : ByteOrder) (bytes : List ℕ) → length bytes ≤ k → length bytes ≤ m → options k order bytes ≡ options m order bytes
same_options zero m order bytes a b = let e = none_at_end order bytes a in no_options zero order bytes e ∙ sym (no_options m order bytes e)
same_options (suc k) zero order bytes a b = let e = none_at_end order bytes b in no_options (suc k) order bytes e ∙ sym (no_options zero order bytes e)
same_options (suc k) (suc m) order bytes a b = elim (either (has_option order bytes)) [
  | inr e ↦ no_options (suc k) order bytes e ∙ sym (no_options (suc m) order bytes e)
  | inl e ↦
      let long = has_header order bytes e in
      let rest = drop (option_length order bytes) bytes in
      more_options k order bytes e
      ∙ (ap (λ (os : List NgOption). first_option order bytes ∷ os) (same_options k m order rest (simp length-drop (omega (arith, long))) (simp length-drop (omega (arith, long)))) ∙ sym (more_options m order bytes e))
]

-- the first option tells no time resolution
pub other_option : (order : ByteOrder) (bytes : List ℕ) → has_option order bytes ≡ true → number_at order 2 0 bytes ≢ 9 → resolution_of order bytes ≡ resolution_of order (drop (option_length order bytes) bytes)
unfolding resolution_of
other_option order bytes h differs =
    let other : (number_at order 2 0 bytes == 9) ≡ false = grind (arith, nat_tests) in
    let long = has_header order bytes h in
    let j : ℕ = length bytes - 1 in
    let all : length bytes ≡ suc j = omega (arith, long) in
    let rest = drop (option_length order bytes) bytes in
    let short : length rest ≤ j = simp length-drop (omega (arith, long)) in
    ap (λ k. told_by (find (λ o. o.code == 9) (options k order bytes))) all
    ∙ (ap (λ (os : List NgOption). told_by (find (λ o. o.code == 9) os)) (more_options j order bytes h)
    ∙ (rw other refl ∙ ap (λ (os : List NgOption). told_by (find (λ o. o.code == 9) os)) (same_options j (length rest) order rest short (omega arith))))

-- the first option tells one
pub first_tells : (order : ByteOrder) (bytes : List ℕ) → has_option order bytes ≡ true → number_at order 2 0 bytes ≡ 9 → resolution_of order bytes ≡ told_by (Some (first_option order bytes))
unfolding resolution_of
first_tells order bytes h nine =
    let long = has_header order bytes h in
    let j : ℕ = length bytes - 1 in
    let all : length bytes ≡ suc j = omega (arith, long) in
    ap (λ k. told_by (find (λ o. o.code == 9) (options k order bytes))) all
    ∙ (ap (λ (os : List NgOption). told_by (find (λ o. o.code == 9) os)) (more_options j order bytes h) ∙ rw nine refl)

-- no option is there
pub none_tells : (order : ByteOrder) (bytes : List ℕ) → has_option order bytes ≡ false → resolution_of order bytes ≡ 6
unfolding resolution_of
none_tells order bytes h = ap (λ (os : List NgOption). told_by (find (λ o. o.code == 9) os)) (no_options (length bytes) order bytes h)
