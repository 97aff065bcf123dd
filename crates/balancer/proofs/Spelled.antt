-- The numbers of a text, part by part.
use Rattle.std.proofs.Common.{◌≡◌, ℕ, suc, zero, ◌+◌, ◌-◌, ◌*◌, ◌^◌, ◌<◌, ◌≤◌, List, [], ◌∷◌, ◌++◌, append_assoc, length, get_or, take, Bool, true, false, ◌&&◌, Option, Some, None, refl, sym, ap, ◌∙◌, arith}
use Rattle.std.specs.Prelude.{option_map, nat_le}
use Rattle.std.specs.List.{list_all}
use Rattle.std.proofs.Math.Nat.{pow-le-pow_right, pow-suc}
use Rattle.std.proofs.lemmas.Bool.Decides.{nat_tests}
use Rattle.std.proofs.lemmas.List.Sums.{fold_more}
use Rattle.balancer.specs.Lines.{parts}
use Rattle.balancer.specs.Numbers.{is_digit, digits_value, number_of, numbers_of, both}

-- digits

pub digit_at : (ds : List ℕ) (i : ℕ) → i < length ds → list_all is_digit ds ≡ true → (48 ≤ get_or ds i 0) × (get_or ds i 0 ≤ 57)
digit_at [] i h a = absurd (omega arith)
digit_at (d ∷ ds) zero h a = within d (split (is_digit d) (list_all is_digit ds) a).0 where
  split : (x y : Bool) → (x && y) ≡ true → (x ≡ true) × (y ≡ true)
  split true y g = (refl, g)
  split false y g = absurd (cc)

  at_most : (a b : ℕ) → nat_le a b ≡ true → a ≤ b
  at_most a b g = grind (arith, nat_tests)

  within : (d : ℕ) → is_digit d ≡ true → (48 ≤ d) × (d ≤ 57)
  within d g = let s = split (nat_le 48 d) (nat_le d 57) g in (at_most 48 d s.0, at_most d 57 s.1)
digit_at (d ∷ ds) (suc i) h a = digit_at ds i (omega arith) (rest (is_digit d) (list_all is_digit ds) a) where
  rest : (x y : Bool) → (x && y) ≡ true → y ≡ true
  rest true y g = g
  rest false y g = absurd (cc)

pub value-more : (ds : List ℕ) (i : ℕ) → i < length ds → digits_value (take (i + 1) ds) ≡ digits_value (take i ds) * 10 + (get_or ds i 0 - 48)
value-more ds i h = fold_more (λ n digit. n * 10 + (digit - 48)) 0 ds i 0 h

pub value-small : (i v d : ℕ) → i < 13 → v < 10 ^ i → d ≤ 57 → (v * 10 + (d - 48) < 10 ^ (i + 1)) × (v * 10 + (d - 48) < 2 ^ 64)
value-small i v d few h g =
    let more : 10 ^ (i + 1) ≡ 10 ^ i * 10 = ap (λ (n : ℕ). 10 ^ n) (plus i) ∙ pow-suc 10 i in
    let low : i ≤ 12 = omega arith in
    let some : 0 < 10 = omega arith in
    let most : 10 ^ i ≤ 10 ^ 12 = pow-le-pow_right some low in
    (omega arith, omega arith) where
      plus : (i : ℕ) → i + 1 ≡ suc i
      plus i = omega arith

-- the numbers so far, and those of the rest
abbrev pub So : List ℕ → List ℕ → List ℕ → Type 0
So text done rest = numbers_of (parts text) ≡ option_map (λ (ns : List ℕ). done ++ ns) (numbers_of (parts rest))

pub so-start : (text : List ℕ) → So text [] text
so-start text = same (numbers_of (parts text)) where
  same : (o : Option (List ℕ)) → o ≡ option_map (λ (ns : List ℕ). [] ++ ns) o
  same None = refl
  same (Some ns) = refl

pub so-more : (text done rest part behind : List ℕ) (n : ℕ) → So text done rest → parts rest ≡ part ∷ parts behind → number_of part ≡ Some n → So text (done ++ n ∷ []) behind
so-more text done rest part behind n so e g = so ∙ (ap (λ (ps : List (List ℕ)). option_map (λ (ns : List ℕ). done ++ ns) (numbers_of ps)) e
    ∙ (ap (λ (o : Option ℕ). option_map (λ (ns : List ℕ). done ++ ns) (both o (numbers_of (parts behind)))) g ∙ moved (numbers_of (parts behind)))) where
      moved : (o : Option (List ℕ)) → option_map (λ (ns : List ℕ). done ++ ns) (both (Some n) o) ≡ option_map (λ (ns : List ℕ). (done ++ n ∷ []) ++ ns) o
      moved None = refl
      moved (Some ns) = ap Some (sym (append_assoc done (n ∷ []) ns))

pub so-none : (text done rest part : List ℕ) (ps : List (List ℕ)) → So text done rest → parts rest ≡ part ∷ ps → number_of part ≡ None → numbers_of (parts text) ≡ None
so-none text done rest part ps so e g = so ∙ (ap (λ (ps : List (List ℕ)). option_map (λ (ns : List ℕ). done ++ ns) (numbers_of ps)) e
    ∙ ap (λ (o : Option ℕ). option_map (λ (ns : List ℕ). done ++ ns) (both o (numbers_of ps))) g)

pub so-all : (text done rest : List ℕ) (n : ℕ) → So text done rest → parts rest ≡ rest ∷ [] → number_of rest ≡ Some n → numbers_of (parts text) ≡ Some (done ++ n ∷ [])
so-all text done rest n so e g = so ∙ (ap (λ (ps : List (List ℕ)). option_map (λ (ns : List ℕ). done ++ ns) (numbers_of ps)) e
    ∙ ap (λ (o : Option ℕ). option_map (λ (ns : List ℕ). done ++ ns) (both o (Some []))) g)
