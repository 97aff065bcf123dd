-- The lines of the buckets, one after another.
use Rattle.std.proofs.Common.{◌≡◌, ◌≢◌, ℕ, ◌+◌, ◌<◌, List, [], ◌∷◌, ◌++◌, append_assoc, Bool, if◌then◌else◌, Option, Some, None, Result, Ok, Err, refl, sym, ap, ◌∙◌, ne_eqb}
use Rattle.std.specs.Prelude.{ok_or, ⊤}
use Rattle.std.proofs.lemmas.List.{append-nil, map-append}
use Rattle.balancer.specs.Lines.{lines}
use Rattle.balancer.specs.NextLine.{NoLine}
use Rattle.balancer.specs.PlanForm.{Bucket, bucket_line, in_front, buckets_from}
use Rattle.balancer.specs.PlanReading.{TakesAs}
use Rattle.balancer.specs.PlanRead.{Lists, SpellsBuckets}
use Rattle.balancer.proofs.Choices.{less_is}

-- buckets in front of those behind them
abbrev pub behind : List Bucket → Result (List Bucket) ℕ → Result (List Bucket) ℕ
behind bs (Ok rest) = Ok (bs ++ rest)
behind bs (Err k) = Err k

-- these are the buckets of the lines before the one of this number
abbrev pub BucketsSoFar : ℕ → ℕ → Option (List ℕ) → Option (List ℕ) → List ℕ → List ℕ → Type 0
BucketsSoFar cores number None now owners loads = ⊤
BucketsSoFar cores number (Some xs) None owners loads = ⊥
BucketsSoFar cores number (Some xs) (Some ys) owners loads = (bs : List Bucket) × Lists bs owners loads × (buckets_from cores 4 (lines xs) ≡ behind bs (buckets_from cores number (lines ys)))

pub buckets-start : (cores : ℕ) (before : Option (List ℕ)) → BucketsSoFar cores 4 before before [] []
buckets-start cores None = tt
buckets-start cores (Some xs) = ([], record { owners_are = refl; loads_are = refl }, same (buckets_from cores 4 (lines xs))) where
  same : (r : Result (List Bucket) ℕ) → r ≡ behind [] r
  same (Ok bs) = refl
  same (Err k) = refl

at_line : (cores number : ℕ) (l : List ℕ) (ls : List (List ℕ)) → number < 2052 → buckets_from cores number (l ∷ ls) ≡ in_front (ok_or (bucket_line cores l) number) (buckets_from cores (number + 1) ls)
at_line cores number l ls h = ap (λ (t : Bool). if t then in_front (ok_or (bucket_line cores l) number) (buckets_from cores (number + 1) ls) else Err number) (less_is number 2052 h)

pub buckets-more : (cores number : ℕ) (before now after : Option (List ℕ)) (owners loads : List ℕ) (b : Bucket) → number < 2052 → BucketsSoFar cores number before now owners loads → TakesAs (bucket_line cores) now after b
    → BucketsSoFar cores (number + 1) before after (owners ++ b.owner ∷ []) (loads ++ b.load ∷ [])
buckets-more cores number None now after owners loads b h so t = tt
buckets-more cores number (Some xs) None after owners loads b h so t = absurd so
buckets-more cores number (Some xs) (Some ys) None owners loads b h so t = absurd t
buckets-more cores number (Some xs) (Some ys) (Some zs) owners loads b h so t = (
  so.0 ++ b ∷ [],
  record {
    owners_are = map-append (λ (b : Bucket). b.owner) so.0 (b ∷ []) ∙ ap (λ (z : List ℕ). z ++ b.owner ∷ []) so.1.owners_are;
    loads_are = map-append (λ (b : Bucket). b.load) so.0 (b ∷ []) ∙ ap (λ (z : List ℕ). z ++ b.load ∷ []) so.1.loads_are;
  },
  so.2 ∙ (ap (λ (ls : List (List ℕ)). behind so.0 (buckets_from cores number ls)) t.1
      ∙ (ap (behind so.0) (at_line cores number t.0 (lines zs) h ∙ ap (λ (o : Option Bucket). in_front (ok_or o number) (buckets_from cores (number + 1) (lines zs))) t.2)
      ∙ moved so.0 (buckets_from cores (number + 1) (lines zs)))),
)
  where
    moved : (bs : List Bucket) (r : Result (List Bucket) ℕ) → behind bs (in_front (Ok b) r) ≡ behind (bs ++ b ∷ []) r
    moved bs (Ok rest) = ap Ok (sym (append_assoc bs (b ∷ []) rest))
    moved bs (Err k) = refl

pub buckets-all : (cores number : ℕ) (before now : Option (List ℕ)) (owners loads : List ℕ) → number ≢ 4 → BucketsSoFar cores number before now owners loads → NoLine now → SpellsBuckets cores before owners loads
buckets-all cores number None now owners loads h so t = tt
buckets-all cores number (Some xs) None owners loads h so t = absurd so
buckets-all cores number (Some xs) (Some ys) owners loads h so t = (
  so.0,
  so.1,
  so.2 ∙ (ap (λ (ls : List (List ℕ)). behind so.0 (buckets_from cores number ls)) t
      ∙ (ap (λ (t : Bool). behind so.0 (if t then Err number else Ok [])) (ne_eqb number 4 h) ∙ ap Ok (append-nil so.0))),
)
