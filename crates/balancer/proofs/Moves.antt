-- A move of a weighed round.
use Rattle.std.proofs.Common.{◌≡◌, ◌≢◌, ℕ, suc, zero, ◌+◌, ◌-◌, ◌^◌, ◌<◌, ◌≤◌, List, [], ◌∷◌, ◌++◌, append_assoc, map, length, get_or, set, Option, Some, None, refl, sym, ap, ◌∙◌, subst, arith}
use Rattle.std.proofs.lemmas.List.{map-append, length-set}
use Rattle.std.proofs.lemmas.List.Elements.{All-set}
use Rattle.indirection.specs.declared.proposal.Proposal.{Proposal}
use Rattle.indirection.specs.Views.{LoadsView}
use Rattle.balancer.specs.Imbalance.{core_loads}
use Rattle.balancer.specs.Greedy.{RoundState, IsAllowed, choices, greatest, greedy, led, moved, load_in, IsBest}
use Rattle.balancer.specs.Standing.{AreLoads, IsWeighed, round_state_of}
use Rattle.balancer.proofs.Carried.{carried_at, length_is, carried-le}
use Rattle.balancer.proofs.Falls.{core_loads-moved}
use Rattle.balancer.proofs.Ties.{best_is}

-- what a proposal keeps of the buckets, the cores and their loads
pub record IsReady (s : RoundState) (carried : List ℕ) (p : Proposal) : Type 0 where
  pub allowed : IsAllowed s p.bucket p.to
  pub load : p.bucket < length s.loads.bucket
  pub from_is : p.from ≡ get_or s.owners p.bucket 0
  pub from : p.from < length carried
  pub to : p.to < length carried
  pub some : get_or s.loads.bucket p.bucket 0 ≤ get_or carried p.from 0
  pub apart : p.from ≢ p.to
  pub fits : get_or carried p.to 0 + get_or s.loads.bucket p.bucket 0 < 2 ^ 64

pub ready : (s : RoundState) (carried : List ℕ) (p : Proposal) → IsWeighed s carried → greatest (choices s) ≡ Some p → IsReady s carried p
ready s carried p w e = record {
  allowed = a;
  load = subst (λ (n : ℕ). p.bucket < n) (sym w.loads.buckets_are) a.bucket;
  from_is = owner;
  from = subst (λ (n : ℕ). p.from < n) (sym long) core;
  to = subst (λ (n : ℕ). p.to < n) (sym long) a.core;
  some = let h = a.fits in let v = here in omega arith;
  apart = λ q. let h = a.fits in let f : load_in s (get_or s.owners p.bucket 0) ≡ load_in s p.to = ap (load_in s) (sym owner ∙ q) in omega arith;
  fits = let h = a.fits in let v = here in let m = carried-le s carried w p.from (subst (λ (n : ℕ). p.from < n) (sym long) core) in let n = carried-le s carried w p.to (subst (λ (n : ℕ). p.to < n) (sym long) a.core) in omega arith;
} where
  best : IsBest s p
  best = best_is s p e

  a : IsAllowed s p.bucket p.to
  a = best.allowed

  owner : p.from ≡ get_or s.owners p.bucket 0
  owner = ap (λ (q : Proposal). q.from) best.is

  core : p.from < s.cores
  core = subst (λ (n : ℕ). n < s.cores) (sym owner) a.owner

  long : length carried ≡ s.cores
  long = length_is s carried w

  here : get_or carried p.from 0 ≡ load_in s (get_or s.owners p.bucket 0)
  here = carried_at s carried w p.from core ∙ ap (load_in s) owner

-- the loads of the cores, after the move
carried-moved : (s : RoundState) (carried : List ℕ) (p : Proposal) → IsWeighed s carried → IsReady s carried p
    → set (set carried p.from (get_or carried p.from 0 - get_or s.loads.bucket p.bucket 0)) p.to (get_or carried p.to 0 + get_or s.loads.bucket p.bucket 0) ≡ core_loads s.cores s.loads (set s.owners p.bucket p.to)
carried-moved s carried p w r =
    let load : ℕ = get_or s.loads.bucket p.bucket 0 in
    let from : get_or carried p.from 0 ≡ load_in s p.from = carried_at s carried w p.from (subst (λ (n : ℕ). p.from < n) (length_is s carried w) r.from) in
    let to : get_or carried p.to 0 ≡ load_in s p.to = carried_at s carried w p.to (subst (λ (n : ℕ). p.to < n) (length_is s carried w) r.to) in
    ap (λ (x : ℕ). set (set carried p.from (x - load)) p.to (get_or carried p.to 0 + load)) from
    ∙ (ap (λ (x : ℕ). set (set carried p.from (load_in s p.from - load)) p.to (x + load)) to
    ∙ (ap (λ (z : List ℕ). set (set z p.from (load_in s p.from - load)) p.to (load_in s p.to + load)) w.carried_are
    ∙ (ap (λ (c : ℕ). set (set (core_loads s.cores s.loads s.owners) c (load_in s c - load)) p.to (load_in s p.to + load)) r.from_is
    ∙ sym (core_loads-moved s p.bucket p.to r.allowed))))

pub weighed-moved : (s : RoundState) (carried after owners : List ℕ) (p : Proposal) → IsWeighed s carried → IsReady s carried p
    → owners ≡ set s.owners p.bucket p.to
    → after ≡ set (set carried p.from (get_or carried p.from 0 - get_or s.loads.bucket p.bucket 0)) p.to (get_or carried p.to 0 + get_or s.loads.bucket p.bucket 0)
    → IsWeighed (moved s p) after
weighed-moved s carried after owners p w r e f =
    let long : length (set s.owners p.bucket p.to) ≡ length s.owners = length-set s.owners p.bucket p.to in
    record {
      carried_are = f ∙ carried-moved s carried p w r;
      owners = All-set (λ o. o < s.cores) s.owners p.bucket p.to r.allowed.core w.owners;
      cores = w.cores;
      buckets = subst (λ (n : ℕ). n ≤ 2048) (sym long) w.buckets;
      loads = subst (λ (n : ℕ). AreLoads s.cores n s.loads) (sym long) w.loads;
    }

pub same_round_state : (loads : LoadsView) (carried after owners owners' : List ℕ) (ps ps' : List Proposal) (p : Proposal) → length after ≡ length carried → owners' ≡ set owners p.bucket p.to → ps' ≡ ps ++ p ∷ []
    → moved (round_state_of (length carried) loads owners ps) p ≡ round_state_of (length after) loads owners' ps'
same_round_state loads carried after owners owners' ps ps' p n o t =
    ap (λ (k : ℕ). let s : RoundState = record { cores = k; loads = loads; owners = set owners p.bucket p.to; taken = map (λ (p : Proposal). p.bucket) ps ++ p.bucket ∷ [] } in s) (sym n)
    ∙ (ap (λ (os : List ℕ). let s : RoundState = record { cores = length after; loads = loads; owners = os; taken = map (λ (p : Proposal). p.bucket) ps ++ p.bucket ∷ [] } in s) (sym o)
    ∙ ap (λ (ts : List ℕ). let s : RoundState = record { cores = length after; loads = loads; owners = owners'; taken = ts } in s)
    (sym (ap (λ (qs : List Proposal). map (λ (p : Proposal). p.bucket) qs) t ∙ map-append (λ (p : Proposal). p.bucket) ps (p ∷ []))))

-- the round goes on

led_by : (k : ℕ) (s : RoundState) (o : Option Proposal) → greatest (choices s) ≡ o → greedy (suc k) s ≡ led (greedy k) s o
led_by k s o e = ap (led (greedy k) s) e

pub greedy_none : (n : ℕ) (s : RoundState) → greatest (choices s) ≡ None → greedy n s ≡ []
greedy_none zero s e = refl
greedy_none (suc k) s e = led_by k s None e

pub round_step : (limit n : ℕ) (whole ps : List Proposal) (s : RoundState) (p : Proposal) → n < limit → greatest (choices s) ≡ Some p → whole ≡ ps ++ greedy (limit - n) s → whole ≡ (ps ++ p ∷ []) ++ greedy (limit - (n + 1)) (moved s p)
round_step limit n whole ps s p h e so =
    let more : limit - n ≡ suc (limit - (n + 1)) = omega arith in
    so ∙ (ap (λ (k : ℕ). ps ++ greedy k s) more ∙ (ap (λ (z : List Proposal). ps ++ z) (led_by (limit - (n + 1)) s (Some p) e) ∙ sym (append_assoc ps (p ∷ []) (greedy (limit - (n + 1)) (moved s p)))))
