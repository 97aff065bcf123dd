-- The proposals of a round are moves of its table.
use Rattle.std.proofs.Common.{◌≡◌, ℕ, ◌<◌, List, [], ◌∷◌, length, get_or, set, refl, sym, ap, ◌∙◌, subst, arith}
use Rattle.std.proofs.lemmas.List.{length-set}
use Rattle.std.proofs.lemmas.List.Elements.{All-cons}
use Rattle.indirection.specs.declared.proposal.Proposal.{Proposal}
use Rattle.balancer.specs.Greedy.{RoundState, AreBest, IsBest, load_in, moved, greedy}
use Rattle.balancer.specs.PlanText.{owners_behind}
use Rattle.balancer.specs.Moves.{IsMove, AreMoves}
use Rattle.balancer.proofs.Ties.{greedy_best}

is_move : (s : RoundState) (p : Proposal) → IsBest s p → IsMove s.cores (length s.owners) p
is_move s p b =
    let owner : p.from ≡ get_or s.owners p.bucket 0 = ap (λ (q : Proposal). q.from) b.is in
    record {
      bucket = b.allowed.bucket;
      from = subst (λ (c : ℕ). c < s.cores) (sym owner) b.allowed.owner;
      to = b.allowed.core;
      apart = λ q. let h = b.allowed.fits in let f : load_in s (get_or s.owners p.bucket 0) ≡ load_in s p.to = ap (load_in s) (sym owner ∙ q) in omega arith;
    }

best_moves : (s : RoundState) (ps : List Proposal) → AreBest s ps → AreMoves s.cores (length s.owners) ps
best_moves s [] b = λ k d h. absurd (omega arith)
best_moves s (p ∷ ps) b = All-cons (λ q. IsMove s.cores (length s.owners) q) p ps (is_move s p b.0)
    (subst (λ (n : ℕ). AreMoves s.cores n ps) (length-set s.owners p.bucket p.to) (best_moves (moved s p) ps b.1))

pub greedy_moves : (limit : ℕ) (s : RoundState) → AreMoves s.cores (length s.owners) (greedy limit s)
greedy_moves limit s = best_moves s (greedy limit s) (greedy_best limit s)

pub length-behind : (owners : List ℕ) (ps : List Proposal) → length (owners_behind owners ps) ≡ length owners
length-behind owners [] = refl
length-behind owners (p ∷ ps) = length-behind (set owners p.bucket p.to) ps ∙ length-set owners p.bucket p.to
