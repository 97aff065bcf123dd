-- A text spells an instance exactly where its lines do.
use Rattle.std.proofs.Common.{◌≡◌, ◌⊎◌, ℕ, ◌+◌, ◌<◌, ◌≤◌, List, [], ◌∷◌, drop, map, length, Bool, true, false, if◌then◌else◌, ◌==◌, ltb, Option, Some, None, Result, Ok, Err, refl, sym, ap, ◌∙◌, subst, inl, inr, ◌↔◌, ⊎_elim, arith, ne_eqb}
use Rattle.std.specs.Prelude.{ok_or}
use Rattle.std.proofs.lemmas.Bool.{cases_lt, le-ltb}
use Rattle.balancer.specs.Lines.{lines}
use Rattle.balancer.specs.PlanForm.{Bucket, cores_line, limit_line, base_line, bucket_line, in_front, go_on, buckets_from, Instance, instance_with, instance_in, instance_of, first}
use Rattle.balancer.specs.PlanLines.{AreBucketLines, HasLines}
use Rattle.balancer.proofs.Choices.{less_is}

abbrev owners_of : List Bucket → List ℕ
owners_of bs = map (λ (b : Bucket). b.owner) bs

abbrev loads_of : List Bucket → List ℕ
loads_of bs = map (λ (b : Bucket). b.load) bs

-- what an answer was made of

front_is : (x : Result Bucket ℕ) (r : Result (List Bucket) ℕ) (bs : List Bucket) → in_front x r ≡ Ok bs → (b : Bucket) × (cs : List Bucket) × (x ≡ Ok b) × (r ≡ Ok cs) × (bs ≡ b ∷ cs)
front_is (Err k) r bs e = absurd (cc)
front_is (Ok b) (Err k) bs e = absurd (cc)
front_is (Ok b) (Ok cs) bs e = let f : b ∷ cs ≡ bs = cc in (b, cs, refl, refl, sym f)

some_is : {A : Type 0} (o : Option A) (k : ℕ) (a : A) → ok_or o k ≡ Ok a → o ≡ Some a
some_is None k a e = absurd (cc)
some_is (Some c) k a e = let f : c ≡ a = cc in ap Some f

go_is : {A B : Type 0} (x : Result A ℕ) (f : A → Result B ℕ) (b : B) → go_on x f ≡ Ok b → (a : A) × (x ≡ Ok a) × (f a ≡ Ok b)
go_is (Ok a) f b e = (a, refl, e)
go_is (Err k) f b e = absurd (cc)

first_is : {A : Type 0} (form : List ℕ → Option A) (ls : List (List ℕ)) (a : A) → first form ls ≡ Some a → (l : List ℕ) × (rest : List (List ℕ)) × (ls ≡ l ∷ rest) × (form l ≡ Some a)
first_is form [] a e = absurd (cc)
first_is form (l ∷ ls) a e = (l, ls, refl, e)

-- the lines of buckets

at_end : (number : ℕ) (bs : List Bucket) (t : Bool) → ◌≡◌ {A = Result (List Bucket) ℕ} (if t then Err number else Ok []) (Ok bs) → (t ≡ false) × (bs ≡ [])
at_end number bs true e = absurd (cc)
at_end number bs false e = let f : [] ≡ bs = cc in (refl, sym f)

at_more : (number : ℕ) (r : Result (List Bucket) ℕ) (bs : List Bucket) (t : Bool) → (if t then r else Err number) ≡ Ok bs → (t ≡ true) × (r ≡ Ok bs)
at_more number r bs true e = (refl, e)
at_more number r bs false e = absurd (cc)

lines_spell : (cores number : ℕ) (ls : List (List ℕ)) (bs : List Bucket) → buckets_from cores number ls ≡ Ok bs → AreBucketLines cores ls (owners_of bs) (loads_of bs)
lines_spell cores number [] bs e = subst (λ (cs : List Bucket). AreBucketLines cores [] (owners_of cs) (loads_of cs)) (sym (at_end number bs (number == 4) e).1) tt
lines_spell cores number (l ∷ ls) bs e =
    let m = at_more number (in_front (ok_or (bucket_line cores l) number) (buckets_from cores (number + 1) ls)) bs (ltb number 2052) e in
    let f = front_is (ok_or (bucket_line cores l) number) (buckets_from cores (number + 1) ls) bs m.1 in
    subst (λ (cs : List Bucket). AreBucketLines cores (l ∷ ls) (owners_of cs) (loads_of cs)) (sym f.4) (some_is (bucket_line cores l) number f.0 f.2, lines_spell cores (number + 1) ls f.1 f.3)

lines_few : (cores number : ℕ) (ls : List (List ℕ)) (bs : List Bucket) → buckets_from cores number ls ≡ Ok bs → number ≤ 2052 → length ls + number ≤ 2052
lines_few cores number [] bs e h = omega arith
lines_few cores number (l ∷ ls) bs e h =
    let m = at_more number (in_front (ok_or (bucket_line cores l) number) (buckets_from cores (number + 1) ls)) bs (ltb number 2052) e in
    let f = front_is (ok_or (bucket_line cores l) number) (buckets_from cores (number + 1) ls) bs m.1 in
    ⊎_elim (λ (g : number < 2052). let r = lines_few cores (number + 1) ls f.1 f.3 (omega arith) in omega arith)
    (λ (g : 2052 ≤ number). let x : false ≡ true = sym (le-ltb number 2052 g) ∙ m.0 in absurd (cc)) (cases_lt number 2052)

lines_some : (cores : ℕ) (ls : List (List ℕ)) (bs : List Bucket) → buckets_from cores 4 ls ≡ Ok bs → 1 ≤ length ls
lines_some cores [] bs e = absurd (cc)
lines_some cores (l ∷ ls) bs e = omega arith

-- and back
spelled : (cores number : ℕ) (ls : List (List ℕ)) (os ws : List ℕ) → AreBucketLines cores ls os ws → length ls + number ≤ 2052 → 4 ≤ number → (number ≡ 4 → 1 ≤ length ls) → (bs : List Bucket) × (buckets_from cores number ls ≡ Ok bs) × (owners_of bs ≡ os) × (loads_of bs ≡ ws)
spelled cores number [] [] [] a few from some = ([], ap (λ (t : Bool). if t then Err number else Ok []) (ne_eqb number 4 (λ e. let h = some e in absurd (omega arith))), refl, refl)
spelled cores number [] [] (w ∷ ws) a few from some = absurd a
spelled cores number [] (o ∷ os) ws a few from some = absurd a
spelled cores number (l ∷ ls) [] ws a few from some = absurd a
spelled cores number (l ∷ ls) (o ∷ os) [] a few from some = absurd a
spelled cores number (l ∷ ls) (o ∷ os) (w ∷ ws) a few from some =
    let r = spelled cores (number + 1) ls os ws a.1 (omega arith) (omega arith) (λ e. absurd (omega arith)) in (
      record { owner = o; load = w } ∷ r.0,
      ap (λ (t : Bool). if t then in_front (ok_or (bucket_line cores l) number) (buckets_from cores (number + 1) ls) else Err number) (less_is number 2052 (omega arith))
          ∙ (ap (λ (x : Option Bucket). in_front (ok_or x number) (buckets_from cores (number + 1) ls)) a.0 ∙ ap (λ (y : Result (List Bucket) ℕ). in_front (Ok (record { owner = o; load = w })) y) r.1),
      ap (λ (z : List ℕ). o ∷ z) r.2,
      ap (λ (z : List ℕ). w ∷ z) r.3,
    )

-- the whole text

forth : (text : List ℕ) (p : Instance) → instance_of text ≡ Ok p → HasLines text p
forth text p e =
    let ls : List (List ℕ) = lines text in
    let g1 = go_is (ok_or (first cores_line ls) 1) (λ cores. go_on (ok_or (first limit_line (drop 1 ls)) 2) (λ limit. go_on (ok_or (first (base_line cores) (drop 2 ls)) 3) (λ base. go_on (buckets_from cores 4 (drop 3 ls)) (λ bs. Ok (instance_with cores limit base bs))))) p e in
    let f1 = first_is cores_line ls g1.0 (some_is (first cores_line ls) 1 g1.0 g1.1) in
    let g2 = go_is (ok_or (first limit_line (drop 1 ls)) 2) (λ limit. go_on (ok_or (first (base_line g1.0) (drop 2 ls)) 3) (λ base. go_on (buckets_from g1.0 4 (drop 3 ls)) (λ bs. Ok (instance_with g1.0 limit base bs)))) p g1.2 in
    let f2 = first_is limit_line (drop 1 ls) g2.0 (some_is (first limit_line (drop 1 ls)) 2 g2.0 g2.1) in
    let g3 = go_is (ok_or (first (base_line g1.0) (drop 2 ls)) 3) (λ base. go_on (buckets_from g1.0 4 (drop 3 ls)) (λ bs. Ok (instance_with g1.0 g2.0 base bs))) p g2.2 in
    let f3 = first_is (base_line g1.0) (drop 2 ls) g3.0 (some_is (first (base_line g1.0) (drop 2 ls)) 3 g3.0 g3.1) in
    let g4 = go_is (buckets_from g1.0 4 (drop 3 ls)) (λ bs. Ok (instance_with g1.0 g2.0 g3.0 bs)) p g3.2 in
    let is : instance_with g1.0 g2.0 g3.0 g4.0 ≡ p = cc (g4.2) in
    let one : f1.1 ≡ f2.0 ∷ f2.1 = sym (ap (drop 1) f1.2) ∙ f2.2 in
    let two : f2.1 ≡ f3.0 ∷ f3.1 = sym (ap (drop 2) f1.2 ∙ ap (drop 1) one) ∙ f3.2 in
    let three : drop 3 ls ≡ f3.1 = ap (drop 3) f1.2 ∙ (ap (drop 2) one ∙ ap (drop 1) two) in
    let spells : buckets_from g1.0 4 f3.1 ≡ Ok g4.0 = ap (buckets_from g1.0 4) (sym three) ∙ g4.1 in
    let few = lines_few g1.0 4 f3.1 g4.0 spells (omega arith) in
    subst (λ (q : Instance). HasLines text q) is (record {
      first = f1.0;
      second = f2.0;
      third = f3.0;
      others = f3.1;
      lines_are = f1.2 ∙ ap (λ (z : List (List ℕ)). f1.0 ∷ z) (one ∙ ap (λ (z : List (List ℕ)). f2.0 ∷ z) two);
      cores = f1.3;
      limit = f2.3;
      base = f3.3;
      some = lines_some g1.0 f3.1 g4.0 spells;
      most = omega arith;
      buckets = lines_spell g1.0 4 f3.1 g4.0 spells;
    })

back : (text : List ℕ) (p : Instance) → HasLines text p → instance_of text ≡ Ok p
back text p h =
    let few = h.most in
    let r = spelled p.cores 4 h.others p.owners p.loads.bucket h.buckets (omega arith) (omega arith) (λ e. h.some) in
    ap instance_in h.lines_are
    ∙ (ap (λ (o : Option ℕ). go_on (ok_or o 1) (λ cores. go_on (ok_or (limit_line h.second) 2) (λ limit. go_on (ok_or (base_line cores h.third) 3) (λ base. go_on (buckets_from cores 4 h.others) (λ bs. Ok (instance_with cores limit base bs)))))) h.cores
    ∙ (ap (λ (o : Option ℕ). go_on (ok_or o 2) (λ limit. go_on (ok_or (base_line p.cores h.third) 3) (λ base. go_on (buckets_from p.cores 4 h.others) (λ bs. Ok (instance_with p.cores limit base bs))))) h.limit
    ∙ (ap (λ (o : Option (List ℕ)). go_on (ok_or o 3) (λ base. go_on (buckets_from p.cores 4 h.others) (λ bs. Ok (instance_with p.cores p.limit base bs)))) h.base
    ∙ (ap (λ (x : Result (List Bucket) ℕ). go_on x (λ bs. Ok (instance_with p.cores p.limit p.loads.base bs))) r.1
    ∙ (ap (λ (ws : List ℕ). let q : Result Instance ℕ = Ok (record { cores = p.cores; limit = p.limit; loads = record { bucket = ws; base = p.loads.base }; owners = owners_of r.0 }) in q) r.3
    ∙ ap (λ (os : List ℕ). let q : Result Instance ℕ = Ok (record { cores = p.cores; limit = p.limit; loads = record { bucket = p.loads.bucket; base = p.loads.base }; owners = os }) in q) r.2)))))

pub same_instance : (text : List ℕ) (p : Instance) → (instance_of text ≡ Ok p) ↔ HasLines text p
same_instance text p = (forth text p, back text p)

-- a text spells an instance or has a first bad line, and not both
pub one_answer : (text : List ℕ) → ((p : Instance) × (instance_of text ≡ Ok p)) ⊎ ((k : ℕ) × (instance_of text ≡ Err k))
one_answer text = either (instance_of text) where
  either : (r : Result Instance ℕ) → ((p : Instance) × (r ≡ Ok p)) ⊎ ((k : ℕ) × (r ≡ Err k))
  either (Ok p) = inl (p, refl)
  either (Err k) = inr (k, refl)
