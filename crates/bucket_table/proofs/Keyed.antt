-- Entries that are a function of their keys, after an insert.
use Rattle.std.proofs.Common.{◌≡◌, Bool, true, false, List, [], ◌∷◌, ◌++◌, map, refl, sym, ap, subst, ◌∙◌, Some, None, if◌then◌else◌}
use Rattle.std.specs.List.{AllByRecursion, IsDistinct, list_any}
use Rattle.std.specs.Map.{lookup}
use Rattle.indexmap.specs.IndexMap.{insert_entry}

-- the entries of the keys, by a function
abbrev pub keyed : {K S : Type 0} → (K → S) → List K → List (K × S)
keyed f ks = map (λ k. (k, f k)) ks

module _ {K S : Type 0} (same : K → K → Bool) (exact : (a b : K) → same a b ≡ true → a ≡ b) where
  -- functions that agree at keys other than this one
  pub keyed_apart : (f g : K → S) (key : K) → ((k : K) → same key k ≡ false → g k ≡ f k) → (ks : List K) → AllByRecursion (λ y. same key y ≡ false) ks → keyed f ks ≡ keyed g ks
  keyed_apart f g key others [] h = refl
  keyed_apart f g key others (k ∷ ks) h =
      ap (λ s. (k, s) ∷ keyed f ks) (sym (others k h.0)) ∙ ap (λ l. (k, g k) ∷ l) (keyed_apart f g key others ks h.1)

  -- what is found at a key
  pub found_keyed : (f : K → S) (ks : List K) (key : K) → lookup (same key) (keyed f ks) ≡ (if list_any (same key) ks then Some (f key) else None)
  found_keyed f [] key = refl
  found_keyed f (k ∷ ks) key = at_head (same key k) refl (found_keyed f ks key)
    where
      at_head : (b : Bool) → same key k ≡ b → lookup (same key) (keyed f ks) ≡ (if list_any (same key) ks then Some (f key) else None) → lookup (same key) (keyed f (k ∷ ks)) ≡ (if list_any (same key) (k ∷ ks) then Some (f key) else None)
      at_head true e later = rw e (ap (λ (k : K). Some (f k)) (sym (exact key k e)))
      at_head false e later = rw e later

  -- an insert, where the function changes at the key alone
  pub insert_keyed : (f g : K → S) (ks : List K) (key : K) (v : S) → IsDistinct same ks → g key ≡ v → ((k : K) → same key k ≡ false → g k ≡ f k) → insert_entry same (keyed f ks) key v ≡ keyed g (if list_any (same key) ks then ks else ks ++ key ∷ [])
  unfolding IsDistinct
  insert_keyed f g [] key v distinct here others = ap (λ s. (key, s) ∷ []) (sym here)
  insert_keyed f g (k ∷ ks) key v distinct here others = at_head (same key k) refl (insert_keyed f g ks key v distinct.1 here others)
    where
      behind : (b : Bool) → keyed g (if b then ks else ks ++ key ∷ []) ≡ keyed g (if b then ks else ks ++ key ∷ []) → (k, g k) ∷ keyed g (if b then ks else ks ++ key ∷ []) ≡ keyed g (if b then k ∷ ks else (k ∷ ks) ++ key ∷ [])
      behind true _ = refl
      behind false _ = refl

      at_head : (b : Bool) → same key k ≡ b → insert_entry same (keyed f ks) key v ≡ keyed g (if list_any (same key) ks then ks else ks ++ key ∷ []) → insert_entry same (keyed f (k ∷ ks)) key v ≡ keyed g (if list_any (same key) (k ∷ ks) then k ∷ ks else (k ∷ ks) ++ key ∷ [])
      at_head true e later =
          let one : key ≡ k = exact key k e in
          let rest = keyed_apart f g key others ks (subst (λ (x : K). AllByRecursion (λ y. same x y ≡ false) ks) (sym one) distinct.0) in
          rw e (ap (λ s. (k, s) ∷ keyed f ks) (sym here ∙ ap g one) ∙ ap (λ l. (k, g k) ∷ l) rest)
      at_head false e later =
          rw e (ap (λ s. (k, s) ∷ insert_entry same (keyed f ks) key v) (sym (others k e)) ∙ (ap (λ l. (k, g k) ∷ l) later ∙ behind (list_any (same key) ks) refl))
