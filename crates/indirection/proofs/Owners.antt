-- One more entry of a journal, and the owner of a bucket.
use Rattle.std.proofs.Common.{◌≡◌, ℕ, ◌+◌, ◌<◌, ◌≤◌, get_or, Bool, true, false, List, [], ◌∷◌, ◌++◌, filter, length, take, append_assoc, refl, sym, ap, ◌∙◌, if◌then◌else◌}
use Rattle.std.specs.Prelude.{nat_le, slice_index}
use Rattle.std.proofs.lemmas.List.{append-nil, take_more}
use Rattle.indirection.specs.JournalView.{JournalView}
use Rattle.std.proofs.lemmas.List.Elements.{filter-append}
use Rattle.std.proofs.lemmas.Bool.{le-leb, lt-leb}
use Rattle.indirection.specs.declared.proposal.Proposal.{Proposal}
use Rattle.indirection.specs.declared.outcome.Outcome.{Outcome}
use Rattle.indirection.specs.declared.entry.Entry.{Entry}
use Rattle.indirection.specs.declared.entry.Entry.TheVariants.{Round, Order}
use Rattle.indirection.specs.Tries.{Proposed, Try, ask_at, round_tries, entry_tries, tries, owner_from}
use Rattle.indirection.specs.Story.{entry_at}
use Rattle.indirection.specs.Owner.{owner_of}
use Rattle.indirection.proofs.Steps.{owner_from-append}

pub tries-append : (xs ys : List Entry) → tries (xs ++ ys) ≡ tries xs ++ tries ys
tries-append [] ys = refl
tries-append (e ∷ xs) ys = ap (λ (ts : List Try). entry_tries e ++ ts) (tries-append xs ys) ∙ sym (append_assoc (entry_tries e) (tries xs) (tries ys))

-- the tries at positions up to one
abbrev pub up_to : ℕ → List Try → List Try
up_to at ts = filter (λ t. nat_le (ask_at t.ask) at) ts

-- the tries of a round stand together
up_to-round : (at here : ℕ) (ps : List Proposal) (os : List Outcome) → up_to at (round_tries here ps os) ≡ (if nat_le here at then round_tries here ps os else [])
up_to-round at here [] os = elim (nat_le here at) as (λ within. ◌≡◌ {A = List Try} [] (if within then [] else [])) [ true ↦ refl | false ↦ refl ]
up_to-round at here (p ∷ ps) [] = elim (nat_le here at) as (λ within. ◌≡◌ {A = List Try} [] (if within then [] else [])) [ true ↦ refl | false ↦ refl ]
up_to-round at here (p ∷ ps) (o ∷ os) =
    elim (nat_le here at) as (λ within. up_to at (round_tries here ps os) ≡ (if within then round_tries here ps os else []) →
    (if within then record { ask = Proposed here p; outcome = o } ∷ up_to at (round_tries here ps os) else up_to at (round_tries here ps os))
    ≡ (if within then record { ask = Proposed here p; outcome = o } ∷ round_tries here ps os else []))
    [ true ↦ λ same. ap (λ (ts : List Try). record { ask = Proposed here p; outcome = o } ∷ ts) same | false ↦ λ same. same ]
    (up_to-round at here ps os)

-- so do those of any entry
pub up_to-entry : (at : ℕ) (e : Entry) → up_to at (entry_tries e) ≡ (if nat_le (entry_at e) at then entry_tries e else [])
up_to-entry at (Round r) = up_to-round at r.at r.proposals r.outcomes
up_to-entry at (Order e) = refl

up_to-push : (at : ℕ) (es : List Entry) (e : Entry) → up_to at (tries (es ++ e ∷ [])) ≡ up_to at (tries es) ++ (if nat_le (entry_at e) at then entry_tries e else [])
up_to-push at es e =
    ap (λ (ts : List Try). up_to at ts) (tries-append es (e ∷ []) ∙ ap (λ (ts : List Try). tries es ++ ts) (append-nil (entry_tries e)))
    ∙ (filter-append (λ (t : Try). nat_le (ask_at t.ask) at) (tries es) (entry_tries e)
    ∙ ap (λ (ts : List Try). up_to at (tries es) ++ ts) (up_to-entry at e))

-- tries that are made or not
owner_from-if : (b owner : ℕ) (made : Bool) (ts : List Try) → owner_from b owner (if made then ts else []) ≡ (if made then owner_from b owner ts else owner)
owner_from-if b owner true ts = refl
owner_from-if b owner false ts = refl

-- one more entry changes the owner where its position is within
pub owner_of-push : (start : List ℕ) (es : List Entry) (e : Entry) (b at : ℕ) →
    owner_of (record { start = start; entries = es ++ e ∷ [] }) b at
    ≡ (if nat_le (entry_at e) at then owner_from b (owner_of (record { start = start; entries = es }) b at) (entry_tries e) else owner_of (record { start = start; entries = es }) b at)
owner_of-push start es e b at =
    ap (λ (ts : List Try). owner_from b (slice_index start b) ts) (up_to-push at es e)
    ∙ (owner_from-append b (slice_index start b) (up_to at (tries es)) (if nat_le (entry_at e) at then entry_tries e else [])
    ∙ owner_from-if b (owner_from b (slice_index start b) (up_to at (tries es))) (nat_le (entry_at e) at) (entry_tries e))

abbrev pub front_of : List ℕ → ℕ → List Entry → JournalView
front_of start n es = record { start = start; entries = take n es }

owner_of-next : (start : List ℕ) (es : List Entry) (n : ℕ) (e : Entry) (b at : ℕ) → n < length es → e ≡ get_or es n e →
    owner_of (front_of start (n + 1) es) b at
    ≡ (if nat_le (entry_at e) at then owner_from b (owner_of (front_of start n es) b at) (entry_tries e) else owner_of (front_of start n es) b at)
owner_of-next start es n e b at inside is =
    ap (λ (zs : List Entry). owner_of (record { start = start; entries = zs }) b at) (take_more es n e inside ∙ ap (λ (x : Entry). take n es ++ x ∷ []) (sym is))
    ∙ owner_of-push start (take n es) e b at

-- the next entry is at a position within
pub owner_of-within : (start : List ℕ) (es : List Entry) (n : ℕ) (e : Entry) (b at owner : ℕ) → n < length es → e ≡ get_or es n e → entry_at e ≤ at →
    owner ≡ owner_of (front_of start n es) b at → owner_from b owner (entry_tries e) ≡ owner_of (front_of start (n + 1) es) b at
owner_of-within start es n e b at owner inside is within same =
    ap (λ (o : ℕ). owner_from b o (entry_tries e)) same
    ∙ (sym (ap (λ (t : Bool). if t then owner_from b (owner_of (front_of start n es) b at) (entry_tries e) else owner_of (front_of start n es) b at) (le-leb (entry_at e) at within))
    ∙ sym (owner_of-next start es n e b at inside is))

-- the next entry is at a position beyond
pub owner_of-beyond : (start : List ℕ) (es : List Entry) (n : ℕ) (e : Entry) (b at owner : ℕ) → n < length es → e ≡ get_or es n e → at < entry_at e →
    owner ≡ owner_of (front_of start n es) b at → owner ≡ owner_of (front_of start (n + 1) es) b at
owner_of-beyond start es n e b at owner inside is beyond same =
    same
    ∙ (sym (ap (λ (t : Bool). if t then owner_from b (owner_of (front_of start n es) b at) (entry_tries e) else owner_of (front_of start n es) b at) (lt-leb (entry_at e) at beyond))
    ∙ sym (owner_of-next start es n e b at inside is))
