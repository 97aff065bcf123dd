-- One more step of a story.
use Rattle.std.proofs.Common.{◌≡◌, ℕ, ◌+◌, List, [], ◌∷◌, ◌++◌, append_assoc, refl, sym, ap, ◌∙◌, if◌then◌else◌, ◌==◌}
use Rattle.std.proofs.lemmas.List.{append-nil}
use Rattle.std.proofs.lemmas.List.Sums.{sum_by-append, length-filter}
use Rattle.indirection.specs.declared.outcome.Outcome.{Outcome}
use Rattle.indirection.specs.Tries.{Ask, Try, ask_bucket, ask_to, owner_by, owner_from, tail_by, tail_from, tails, tail_list}
use Rattle.indirection.specs.Buckets.{total_by}
use Rattle.indirection.specs.Story.{Parcel, RoundHead, Step, Rounds, Tries, Sends, parcels_of, tries_of, count_in, try_of}

pub parcels_of-append : (xs ys : List Step) → parcels_of (xs ++ ys) ≡ parcels_of xs ++ parcels_of ys
parcels_of-append [] ys = refl
parcels_of-append (Rounds h ∷ xs) ys = parcels_of-append xs ys
parcels_of-append (Tries a o ∷ xs) ys = parcels_of-append xs ys
parcels_of-append (Sends p ∷ xs) ys = ap (λ (zs : List Parcel). p ∷ zs) (parcels_of-append xs ys)

pub tries_of-append : (xs ys : List Step) → tries_of (xs ++ ys) ≡ tries_of xs ++ tries_of ys
tries_of-append [] ys = refl
tries_of-append (Rounds h ∷ xs) ys = tries_of-append xs ys
tries_of-append (Tries a o ∷ xs) ys = ap (λ (zs : List Try). try_of a o ∷ zs) (tries_of-append xs ys)
tries_of-append (Sends p ∷ xs) ys = tries_of-append xs ys

pub owner_from-append : (b o : ℕ) (xs ys : List Try) → owner_from b o (xs ++ ys) ≡ owner_from b (owner_from b o xs) ys
owner_from-append b o [] ys = refl
owner_from-append b o (t ∷ xs) ys = owner_from-append b (if ask_bucket t.ask == b then owner_by o (ask_to t.ask) t.outcome else o) xs ys

pub tail_from-append : (b s : ℕ) (xs ys : List Try) → tail_from b s (xs ++ ys) ≡ tail_from b (tail_from b s xs) ys
tail_from-append b s [] ys = refl
tail_from-append b s (t ∷ xs) ys = tail_from-append b (if ask_bucket t.ask == b then tail_by s t.outcome else s) xs ys

pub tails-append : (b : ℕ) (xs ys : List Try) → tails b (xs ++ ys) ≡ tails b xs ++ tails b ys
tails-append b [] ys = refl
tails-append b (t ∷ xs) ys = ap (λ (z : List ℕ). (if ask_bucket t.ask == b then tail_list t.outcome else []) ++ z) (tails-append b xs ys) ∙ sym (append_assoc (if ask_bucket t.ask == b then tail_list t.outcome else []) (tails b xs) (tails b ys))

pub count_in-append : (b : ℕ) (xs ys : List Parcel) → count_in b (xs ++ ys) ≡ count_in b xs + count_in b ys
count_in-append b xs ys = sum_by-append _ xs ys

pub count_in-total : (b : ℕ) (xs : List Parcel) → count_in b xs ≡ total_by (λ (p : Parcel). p.bucket) b xs
count_in-total b xs = sym (length-filter (λ (p : Parcel). p.bucket == b) xs)

pub tries_of-round : (ss : List Step) (h : RoundHead) → tries_of (ss ++ Rounds h ∷ []) ≡ tries_of ss
tries_of-round ss h = tries_of-append ss (Rounds h ∷ []) ∙ append-nil (tries_of ss)

pub tries_of-send : (ss : List Step) (p : Parcel) → tries_of (ss ++ Sends p ∷ []) ≡ tries_of ss
tries_of-send ss p = tries_of-append ss (Sends p ∷ []) ∙ append-nil (tries_of ss)

pub parcels_of-round : (ss : List Step) (h : RoundHead) → parcels_of (ss ++ Rounds h ∷ []) ≡ parcels_of ss
parcels_of-round ss h = parcels_of-append ss (Rounds h ∷ []) ∙ append-nil (parcels_of ss)

pub parcels_of-try : (ss : List Step) (a : Ask) (o : Outcome) → parcels_of (ss ++ Tries a o ∷ []) ≡ parcels_of ss
parcels_of-try ss a o = parcels_of-append ss (Tries a o ∷ []) ∙ append-nil (parcels_of ss)
