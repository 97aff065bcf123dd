-- What the story sends to a core are the costs of the packets that it owns at their positions.
use Rattle.std.proofs.Common.{◌≡◌, ℕ, ◌+◌, Bool, true, false, List, [], ◌∷◌, ◌++◌, filter, sum_by, append_assoc, if◌then◌else◌, ◌==◌, refl, sym, ap, ◌∙◌, arith}
use Rattle.std.specs.List.{enumerate_from}
use Rattle.std.proofs.lemmas.List.{append-nil}
use Rattle.std.proofs.lemmas.List.Sums.{sum_by-cons}
use Rattle.indirection.specs.JournalView.{JournalView}
use Rattle.indirection.specs.Tries.{owner_after}
use Rattle.indirection.specs.Story.{Parcel, Step, Rounds, Tries, Sends, told, parcels_of, tries_of, cost_to, sent_from, sent_to}
use Rattle.indirection.specs.Owner.{owner_of}
use Rattle.indirection.specs.Due.{Rules, position}
use Rattle.indirection.specs.Lawful.{IsLawfulSoFar}
use Rattle.indirection.specs.JournalFacts.{owns_at, cost_owned}
use Rattle.indirection.proofs.Steps.{tries_of-append, tries_of-round, tries_of-send, parcels_of-round, parcels_of-try}
use Rattle.indirection.proofs.Told.{parcels_of-told}
use Rattle.indirection.proofs.Positions.{owner_of-sent, position-send}

-- the costs of the packets that a core owns, the first of which is at position n
abbrev owned_from : JournalView → ℕ → ℕ → List Parcel → ℕ
owned_from j c n xs = sum_by (λ (placed : ℕ × Parcel). placed.1.cost) (filter (owns_at j c) (enumerate_from n xs))

kept : (t : Bool) (x : ℕ × Parcel) (zs : List (ℕ × Parcel)) → sum_by (λ (placed : ℕ × Parcel). placed.1.cost) (if t then x ∷ zs else zs) ≡ (if t then x.1.cost else 0) + sum_by (λ (placed : ℕ × Parcel). placed.1.cost) zs
kept true x zs = sum_by-cons (λ (placed : ℕ × Parcel). placed.1.cost) x zs
kept false x zs = omega arith

owned_from-cons : (j : JournalView) (c n : ℕ) (p : Parcel) (xs : List Parcel) → owned_from j c n (p ∷ xs) ≡ (if owner_of j p.bucket n == c then p.cost else 0) + owned_from j c (n + 1) xs
owned_from-cons j c n p xs = kept (owner_of j p.bucket n == c) (n, p) (filter (owns_at j c) (enumerate_from (n + 1) xs))

-- what the steps behind `done` send to the core
sent_behind : (rules : Rules) (xs : List Parcel) (j : JournalView) (c : ℕ) → IsLawfulSoFar rules xs j → (done ss after : List Step) → told 0 xs j.entries ≡ done ++ (ss ++ after) →
    sent_from c j.start (tries_of done) ss ≡ owned_from j c (position done) (parcels_of ss)
sent_behind rules xs j c lawful done [] after parts = refl
sent_behind rules xs j c lawful done (Rounds h ∷ ss) after parts =
    let later = sent_behind rules xs j c lawful (done ++ Rounds h ∷ []) ss after (parts ∙ sym (append_assoc done (Rounds h ∷ []) (ss ++ after))) in
    rw (tries_of-round done h, parcels_of-round done h) at later
sent_behind rules xs j c lawful done (Tries a o ∷ ss) after parts =
    let later = sent_behind rules xs j c lawful (done ++ Tries a o ∷ []) ss after (parts ∙ sym (append_assoc done (Tries a o ∷ []) (ss ++ after))) in
    rw (tries_of-append done (Tries a o ∷ []), parcels_of-try done a o) at later
sent_behind rules xs j c lawful done (Sends p ∷ ss) after parts =
    let later = sent_behind rules xs j c lawful (done ++ Sends p ∷ []) ss after (parts ∙ sym (append_assoc done (Sends p ∷ []) (ss ++ after))) in
    let rest : sent_from c j.start (tries_of done) ss ≡ owned_from j c (position done + 1) (parcels_of ss) = rw (tries_of-send done p, position-send done p) at later in
    let owner : owner_of j p.bucket (position done) ≡ owner_after j.start (tries_of done) p.bucket = owner_of-sent rules xs j done (ss ++ after) p p.bucket lawful parts in
    ap (λ (k : ℕ). cost_to c j.start (tries_of done) p + k) rest
    ∙ (ap (λ (o : ℕ). (if o == c then p.cost else 0) + owned_from j c (position done + 1) (parcels_of ss)) (sym owner)
    ∙ sym (owned_from-cons j c (position done) p (parcels_of ss)))

-- of a front of the story, and of all of it
pub sent_owned : (rules : Rules) (xs : List Parcel) (j : JournalView) (c : ℕ) → IsLawfulSoFar rules xs j → (before after : List Step) → told 0 xs j.entries ≡ before ++ after → sent_to c j.start before ≡ cost_owned j c (parcels_of before)
sent_owned rules xs j c lawful before after parts = sent_behind rules xs j c lawful [] before after parts

pub sent_owned-all : (rules : Rules) (xs : List Parcel) (j : JournalView) (c : ℕ) → IsLawfulSoFar rules xs j → sent_to c j.start (told 0 xs j.entries) ≡ cost_owned j c xs
sent_owned-all rules xs j c lawful =
    sent_owned rules xs j c lawful (told 0 xs j.entries) [] (sym (append-nil (told 0 xs j.entries))) ∙ ap (λ (ps : List Parcel). cost_owned j c ps) (parcels_of-told j.entries 0 xs)
