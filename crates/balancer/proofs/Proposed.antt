-- The proposals of a greedy round are of different buckets, each from its owner, and no more than the limit.
use Rattle.std.proofs.Common.{◌≡◌, ◌≢◌, ℕ, zero, suc, ◌<◌, ◌≤◌, List, [], ◌∷◌, ◌++◌, length, get_or, set, Bool, true, false, ◌||◌, ◌==◌, All, Option, None, Some, refl, sym, ap, ◌∙◌, subst, arith, eq-eqb}
use Rattle.std.specs.List.{list_any}
use Rattle.std.proofs.lemmas.List.{get_or-set_other}
use Rattle.std.proofs.lemmas.List.Elements.{All-cons}
use Rattle.indirection.specs.declared.proposal.Proposal.{Proposal}
use Rattle.indirection.specs.Views.{LoadsView}
use Rattle.balancer.specs.declared.policy_name.PolicyName.{PolicyName}
use Rattle.balancer.specs.declared.policy_name.PolicyName.TheVariants.{Greedy}
use Rattle.balancer.specs.Greedy.{RoundState, AreBest, IsBest, choices, greatest, led, greedy, moved, opening}
use Rattle.balancer.specs.Policies.{AreApart, AreProposals, proposals_by}
use Rattle.balancer.proofs.AllMoves.{greedy_moves}
use Rattle.balancer.proofs.Ties.{greedy_best}

neither : (a b : Bool) → (a || b) ≡ false → (a ≡ false) × (b ≡ false)
neither true b h = absurd (cc)
neither false b h = (refl, h)

-- no element of the list, nor the one behind it
none_of : (f : ℕ → Bool) (xs : List ℕ) (x : ℕ) → list_any f (xs ++ x ∷ []) ≡ false → (list_any f xs ≡ false) × (f x ≡ false)
none_of f [] x h = (refl, (neither (f x) false h).0)
none_of f (y ∷ xs) x h =
    let two = neither (f y) (list_any f (xs ++ x ∷ [])) h in let rest = none_of f xs x two.1 in
    ((λ i. two.0 i || list_any f xs) ∙ rest.0, rest.1)

-- a bucket that wasn't taken
abbrev IsFree : List ℕ → Proposal → Type 0
IsFree taken q = list_any (λ x. x == q.bucket) taken ≡ false

apart_from : (taken : List ℕ) (b : ℕ) (q : Proposal) → IsFree (taken ++ b ∷ []) q → q.bucket ≢ b
apart_from taken b q h e = let is : (b == q.bucket) ≡ true = eq-eqb b q.bucket (sym e) in let no = (none_of (λ x. x == q.bucket) taken b h).1 in absurd (cc)

all_free : (s : RoundState) (ps : List Proposal) → AreBest s ps → All (IsFree s.taken) ps
all_free s [] best = λ k d h. absurd (omega arith)
all_free s (p ∷ ps) best = All-cons (IsFree s.taken) p ps best.0.allowed.once
    (λ k d h. (none_of (λ x. x == (get_or ps k d).bucket) s.taken p.bucket (all_free (moved s p) ps best.1 k d h)).0)

all_apart : (s : RoundState) (ps : List Proposal) → AreBest s ps → AreApart ps
all_apart s [] best = tt
all_apart s (p ∷ ps) best = ((λ k d h. apart_from s.taken p.bucket (get_or ps k d) (all_free (moved s p) ps best.1 k d h)), all_apart (moved s p) ps best.1)

-- each is proposed from the owner before the round
all_owned : (s : RoundState) (ps : List Proposal) → AreBest s ps → All (λ (q : Proposal). q.from ≡ get_or s.owners q.bucket 0) ps
all_owned s [] best = λ k d h. absurd (omega arith)
all_owned s (p ∷ ps) best = All-cons (λ (q : Proposal). q.from ≡ get_or s.owners q.bucket 0) p ps (ap (λ (q : Proposal). q.from) best.0.is)
    (λ k d h. all_owned (moved s p) ps best.1 k d h
    ∙ get_or-set_other s.owners p.bucket (get_or ps k d).bucket p.to 0 (apart_from s.taken p.bucket (get_or ps k d) (all_free (moved s p) ps best.1 k d h)))

led_few : (n : ℕ) (rest : RoundState → List Proposal) → ((s : RoundState) → length (rest s) ≤ n) → (s : RoundState) (o : Option Proposal) → length (led rest s o) ≤ suc n
led_few n rest h s None = omega arith
led_few n rest h s (Some p) = let e = h (moved s p) in omega arith

pub few_proposals : (n : ℕ) (s : RoundState) → length (greedy n s) ≤ n
few_proposals zero s = omega arith
few_proposals (suc n) s = led_few n (greedy n) (few_proposals n) s (greatest (choices s))

-- a greedy round is one of a policy
pub greedy_proposals : (limit : ℕ) (s : RoundState) → AreProposals s.cores limit s.owners (greedy limit s)
greedy_proposals limit s = record {
  few = few_proposals limit s;
  moves = greedy_moves limit s;
  once = all_apart s (greedy limit s) (greedy_best limit s);
  from = all_owned s (greedy limit s) (greedy_best limit s);
}

-- the policies by name propose so
pub named_proposals : (name : PolicyName) (cores limit : ℕ) (loads : LoadsView) (owners : List ℕ) → AreProposals cores limit owners (proposals_by name cores limit loads owners)
named_proposals Greedy cores limit loads owners = greedy_proposals limit (opening cores loads owners)
