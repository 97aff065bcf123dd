use Rattle.std.proofs.Common.{◌≡◌, ℕ, ◌+◌, ◌<◌, ◌≤◌, ◌==◌, ◌∷◌, [], List, Some, length, take, drop, ap, sym, ◌∙◌, subst, refl, arith, length-drop}
use Rattle.std.specs.List.{position_or_len}
use Rattle.balancer.specs.Lines.{parts}
use Rattle.balancer.proofs.Pieces.{part_cut, part_whole}
use Rattle.balancer.proofs.Spelled.{So, so-start, so-more, so-none, so-all}
use Rattle.balancer.proofs.number.push_numbers.Goals as goal

-- the first part of a text, and what is behind it
cut_at : (rest part behind : List ℕ) (end : ℕ) → end ≡ position_or_len (λ x. x == 32) rest → end < length rest → part ≡ take end rest → behind ≡ drop (end + 1) rest → parts rest ≡ part ∷ parts behind
cut_at rest part behind end e h p b =
    part_cut rest (subst (λ (n : ℕ). n < length rest) e h)
    ∙ (ap (λ (n : ℕ). take n rest ∷ parts (drop (n + 1) rest)) (sym e)
    ∙ (ap (λ (z : List ℕ). z ∷ parts (drop (end + 1) rest)) (sym p) ∙ ap (λ (z : List ℕ). part ∷ parts z) (sym b)))

all_of : (rest : List ℕ) (end : ℕ) → end ≡ position_or_len (λ x. x == 32) rest → length rest ≤ end → parts rest ≡ rest ∷ []
all_of rest end e h = part_whole rest (subst (λ (n : ℕ). length rest ≤ n) e h)

pub parts-init : goal.parts-init
parts-init c = record {
  end = c.place_of-end.ensures;
  so = subst (λ (ns : List ℕ). So c.args.text.now ns c.args.text.now) (sym c.requires.empty) (so-start c.args.text.now);
  room = let h = ap (λ (ns : List ℕ). length ns) c.requires.empty in omega (arith, h, c.args.numbers.now.ok, c.requires.room);
  kept = refl;
}

pub parts-preserved : goal.parts-preserved
parts-preserved c =
    let cuts = cut_at c.parts.rest.now c.around.result.0.now c.around.result.1.now c.parts.end c.parts.invariant.end c.parts-test.true c.around.ensures.before c.around.ensures.behind in
    record {
      end = c.place_of-end-in-parts.ensures;
      so = subst (λ (ns : List ℕ). So c.args.text.now ns c.around.result.1.now) (sym c.push_reserved.ensures.items)
          (so-more c.args.text.now c.parts.numbers.items c.parts.rest.now c.around.result.0.now c.around.result.1.now c.in-Some.number c.parts.invariant.so cuts (sym c.number_of.ensures ∙ c.in-Some.is));
      room = let h = ap (λ (z : List ℕ). length z) c.around.ensures.behind in let g = length-drop (c.parts.end + 1) c.parts.rest.now in omega (arith, h, g, c.push_reserved.ensures.len, c.push_reserved.ensures.capacity, c.parts.invariant.room, c.parts-test.true);
      kept = c.push_reserved.ensures.capacity ∙ c.parts.invariant.kept;
    }

pub returns-in_default-clause-value : goal.returns-in_default-clause-value
returns-in_default-clause-value c =
    let cuts = cut_at c.parts.rest.now c.around.result.0.now c.around.result.1.now c.parts.end c.parts.invariant.end c.parts-test.true c.around.ensures.before c.around.ensures.behind in
    so-none c.args.text.now c.parts.numbers.items c.parts.rest.now c.around.result.0.now (parts c.around.result.1.now) c.parts.invariant.so cuts (sym c.number_of.ensures ∙ c.in_default.is)

pub returns-in_default-number_of-clause-value : goal.returns-in_default-number_of-clause-value
returns-in_default-number_of-clause-value c = so-none c.args.text.now c.parts.numbers.items c.parts.rest.now c.parts.rest.now [] c.parts.invariant.so
    (all_of c.parts.rest.now c.parts.end c.parts.invariant.end c.parts-test.false) (sym c.number_of-2.ensures ∙ c.in_default-number_of.is)

pub returns-clause-value : goal.returns-clause-value
returns-clause-value c = so-all c.args.text.now c.parts.numbers.items c.parts.rest.now c.in-Some-number_of.number c.parts.invariant.so
    (all_of c.parts.rest.now c.parts.end c.parts.invariant.end c.parts-test.false) (sym c.number_of-2.ensures ∙ c.in-Some-number_of.is)
    ∙ ap Some (sym c.push_reserved-2.ensures.items)
