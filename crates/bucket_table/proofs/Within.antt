-- Each state of a table can stand for some of the packets that were done.
use Rattle.std.proofs.Common.{◌≡◌, ℕ, ◌+◌, ◌≤◌, ◌<◌, arith, Bool, true, false, List, [], ◌∷◌, length, Option, Some, None, refl, sym, subst, unwrap_or}
use Rattle.std.specs.Map.{lookup}
use Rattle.indexmap.specs.IndexMap.{insert_entry}
use Rattle.bucket_table.specs.Kept.{StandsWithin, AllWithin, IsSoundTable}

module _ {K S : Type 0} (stands_for : S → ℕ → Type 0) where
  -- one more packet is done, of another flow
  within_later : (done : ℕ) (es : List (K × S)) → AllWithin stands_for done es → AllWithin stands_for (done + 1) es
  within_later done [] h = tt
  within_later done (e ∷ es) h = ((h.0.0, omega arith, h.0.2), within_later done es h.1)

  -- a state is put in
  within_inserted : (eq : K → K → Bool) (done : ℕ) (es : List (K × S)) (key : K) (v : S) → AllWithin stands_for done es → StandsWithin stands_for done v → AllWithin stands_for done (insert_entry eq es key v)
  within_inserted eq done [] key v h w = (w, tt)
  within_inserted eq done (e ∷ es) key v h w = at_head (eq key e.0) refl (within_inserted eq done es key v h.1 w)
    where
      at_head : (b : Bool) → eq key e.0 ≡ b → AllWithin stands_for done (insert_entry eq es key v) → AllWithin stands_for done (insert_entry eq (e ∷ es) key v)
      at_head true q later = rw q (w, h.1)
      at_head false q later = rw q (h.0, later)

  few_inserted : (eq : K → K → Bool) (es : List (K × S)) (key : K) (v : S) → length (insert_entry eq es key v) ≤ length es + 1
  few_inserted eq [] key v = omega arith
  few_inserted eq (e ∷ es) key v = at_head (eq key e.0) refl (few_inserted eq es key v)
    where
      at_head : (b : Bool) → eq key e.0 ≡ b → length (insert_entry eq es key v) ≤ length es + 1 → length (insert_entry eq (e ∷ es) key v) ≤ length (e ∷ es) + 1
      at_head true q later = rw q (omega arith)
      at_head false q later = rw q (omega arith)

  -- the state that is found
  within_found : (test : K → Bool) (done : ℕ) (es : List (K × S)) (s : S) → AllWithin stands_for done es → lookup test es ≡ Some s → StandsWithin stands_for done s
  within_found test done [] s h found = cc
  within_found test done (e ∷ es) s h found = at_head (test e.0) refl (within_found test done es s h.1)
    where
      at_head : (b : Bool) → test e.0 ≡ b → (lookup test es ≡ Some s → StandsWithin stands_for done s) → StandsWithin stands_for done s
      at_head true q later =
          let one : e.1 ≡ s = let here = rw q at found in cc in
          let P : S → Type 0 = λ x. StandsWithin stands_for done x in
          subst P one h.0
      at_head false q later = later (rw q at found)

  -- the state that is found, or the opening where none is
  pub within_so_far : (test : K → Bool) (done : ℕ) (es : List (K × S)) (o : Option S) (opening : S) → AllWithin stands_for done es → stands_for opening 0 → o ≡ lookup test es → StandsWithin stands_for done (unwrap_or o opening)
  within_so_far test done es None opening h none is = (0, omega arith, none)
  within_so_far test done es (Some s) opening h none is = within_found test done es s h (sym is)

  -- what is true of a table stays true with one packet more
  pub kept_grown : (eq : K → K → Bool) (old new : List (K × S)) (done sum length most : ℕ) (key : K) (opening v : S) (short : Bool) →
      IsSoundTable stands_for old done sum → done < most → length ≤ 4294967295 → (short ≡ true → new ≡ old) → (short ≡ false → new ≡ insert_entry eq old key v) →
      (short ≡ false → (k : ℕ) → k < most → stands_for (unwrap_or (lookup (eq key) old) opening) k → stands_for v (k + 1)) → (short ≡ false → stands_for opening 0) →
      IsSoundTable stands_for new (done + 1) (sum + length)
  kept_grown eq old new done sum length most key opening v true kept room small refused worked more none =
      let P : List (K × S) → Type 0 = λ es. IsSoundTable stands_for es (done + 1) (sum + length) in
      subst P (sym (refused refl)) record {
        states = within_later done old kept.states;
        few = omega (arith, kept.few);
        bytes = omega (arith, kept.bytes);
      }
  kept_grown eq old new done sum length most key opening v false kept room small refused worked more none =
      let P : List (K × S) → Type 0 = λ es. IsSoundTable stands_for es (done + 1) (sum + length) in
      let so_far = within_so_far (eq key) done old (lookup (eq key) old) opening kept.states (none refl) refl in
      let few : so_far.0 < most = omega (arith, so_far.1) in
      let few_more : so_far.0 + 1 ≤ done + 1 = omega (arith, so_far.1) in
      subst P (sym (worked refl)) record {
        states = within_inserted eq (done + 1) old key v (within_later done old kept.states) (so_far.0 + 1, few_more, more refl so_far.0 few so_far.2);
        few = omega (arith, kept.few, few_inserted eq old key v);
        bytes = omega (arith, kept.bytes);
      }
