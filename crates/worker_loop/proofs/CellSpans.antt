-- How cells draw stretches.
use Rattle.std.proofs.Common.{◌≡◌, ℕ, suc, ◌+◌, true, false, if◌then◌else◌, eqb, List, [], ◌∷◌, ◌++◌, map, Option, Some, None, refl, sym, ap, ◌∙◌, subst, arith, append_assoc}
use Rattle.indirection.proofs.Tests.{by_test}
use Rattle.packet_fields.specs.declared.packet.PacketInfo.{PacketInfo}
use Rattle.packet_pool.specs.declared.cell.Facts.{Facts}
use Rattle.handover_core.specs.declared.item.Kind.{Kind}
use Rattle.handover_core.specs.declared.item.Kind.TheVariants.{First, Next, Mark}
use Rattle.handover_core.specs.Legal.{Stand, within, stand_by, Continues}
use Rattle.core_queue.specs.declared.item.Seen.{Seen}
use Rattle.core_queue.specs.declared.item.Seen.TheVariants.{Packet, Close}
use Rattle.core_queue.specs.Cells.{plain}
use Rattle.handover_words.specs.declared.history.Stretch.{Stretch}
use Rattle.toeplitz.specs.declared.bucket_hash.BucketHash.{BucketHash}
use Rattle.worker_loop.specs.Chains.{CellsLead, is_mark, packets_to_mark, has_mark, upto_mark, cells_of}
use Rattle.handover_core.specs.Spans.{Span, Spans, spans_from, spans_by, spans_of}
use Rattle.worker_loop.specs.Custodies.{cell_spans, ended_spans}

pub spans_append : (d : Spans) (xs ys : List Facts) → cell_spans d (xs ++ ys) ≡ cell_spans (cell_spans d xs) ys
spans_append d [] ys = refl
spans_append d (x ∷ xs) ys = spans_append (spans_by x.kind x.place d) xs ys

-- a list draws for a bucket what the bucket's cells draw
pub spans_plain : (b : ℕ) (d : Spans) (xs : List Seen) → spans_from b d (map plain xs) ≡ cell_spans d (cells_of b xs)
spans_plain b d [] = refl
spans_plain b d (Packet f ∷ xs) = by_test f.bucket b (λ t. spans_from b (if t then spans_by f.kind f.place d else d) (map plain xs) ≡ cell_spans d (if t then f ∷ cells_of b xs else cells_of b xs))
    (λ _. spans_plain b (spans_by f.kind f.place d) xs) (λ _. spans_plain b d xs)
spans_plain b d (Close ∷ xs) = spans_plain b d xs

pub history_append : (b : ℕ) (es fs : List Stretch) → ended_spans b (es ++ fs) ≡ ended_spans b es ++ ended_spans b fs
history_append b [] fs = refl
history_append b (e ∷ es) fs = ap (λ (z : List Span). (if eqb e.bucket b then (e.from, e.to) ∷ [] else []) ++ z) (history_append b es fs)
    ∙ sym (append_assoc (if eqb e.bucket b then (e.from, e.to) ∷ [] else []) (ended_spans b es) (ended_spans b fs))

-- what the cells of a stint draw, up to its mark, from where its stretch has come to
pub record Runs (from d : ℕ) (fs : List Facts) (before after : Spans) : Type 0 where
  pub at_mark : has_mark fs ≡ true → (after.closed ≡ before.closed ++ (from, d + packets_to_mark fs) ∷ []) × (after.open_one ≡ None)
  pub at_end : has_mark fs ≡ false → (after.closed ≡ before.closed) × (after.open_one ≡ Some (from, d + packets_to_mark fs))

module _ (x : Option (List PacketInfo)) (r : BucketHash) (b : ℕ) where
  run_mark : (from d place : ℕ) (f : Facts) (fs : List Facts) (s : Spans) → place ≡ d → f.kind ≡ Mark → f.place ≡ place → s.open_one ≡ Some (from, d) → Runs from d (f ∷ fs) s (cell_spans s (upto_mark (f ∷ fs)))
  run_mark from d place f fs s at kind is one =
      let up : upto_mark (f ∷ fs) ≡ f ∷ [] = ap (λ k. f ∷ (if is_mark k then [] else upto_mark fs)) kind in
      let has : has_mark (f ∷ fs) ≡ true = ap (λ k. if is_mark k then true else has_mark fs) kind in
      let none : packets_to_mark (f ∷ fs) ≡ 0 = ap {B = ℕ} (λ k. if is_mark k then 0 else suc (packets_to_mark fs)) kind in
      let to : f.place ≡ d + packets_to_mark (f ∷ fs) = omega arith in
      let last : cell_spans s (upto_mark (f ∷ fs)) ≡ spans_by Mark f.place s = ap (cell_spans s) up ∙ ap (λ k. spans_by k f.place s) kind in
      let drawn : spans_by Mark f.place s ≡ record { closed = s.closed ++ (from, f.place) ∷ []; open_one = None } = ap (λ (o : Option Span). spans_by Mark f.place (record { closed = s.closed; open_one = o })) one in
      record {
        at_mark = λ _. (ap (λ (y : Spans). y.closed) (last ∙ drawn) ∙ ap (λ (n : ℕ). s.closed ++ (from, n) ∷ []) to, ap (λ (y : Spans). y.open_one) (last ∙ drawn));
        at_end = λ q. let z : true ≡ false = sym has ∙ q in absurd (cc);
      }

  run_next : (from d : ℕ) (f : Facts) (fs : List Facts) (s : Spans) → f.kind ≡ Next → f.place ≡ d → s.open_one ≡ Some (from, d)
      → ((t : Spans) → t.closed ≡ s.closed → t.open_one ≡ Some (from, d + 1) → Runs from (d + 1) fs t (cell_spans t (upto_mark fs))) → Runs from d (f ∷ fs) s (cell_spans s (upto_mark (f ∷ fs)))
  run_next from d f fs s kind at one ih =
      let up : upto_mark (f ∷ fs) ≡ f ∷ upto_mark fs = ap (λ k. f ∷ (if is_mark k then [] else upto_mark fs)) kind in
      let has : has_mark (f ∷ fs) ≡ has_mark fs = ap (λ k. if is_mark k then true else has_mark fs) kind in
      let n : packets_to_mark (f ∷ fs) ≡ suc (packets_to_mark fs) = ap {B = ℕ} (λ k. if is_mark k then 0 else suc (packets_to_mark fs)) kind in
      let to : (d + 1) + packets_to_mark fs ≡ d + packets_to_mark (f ∷ fs) = omega arith in
      let t : Spans = record { closed = s.closed; open_one = Some (from, d + 1) } in
      let drawn : spans_by f.kind f.place s ≡ t = ap (λ k. spans_by k f.place s) kind ∙ (ap (λ p. spans_by Next p s) at ∙ ap (λ (o : Option Span). spans_by Next d (record { closed = s.closed; open_one = o })) one) in
      let all : cell_spans s (upto_mark (f ∷ fs)) ≡ cell_spans t (upto_mark fs) = ap (cell_spans s) up ∙ ap (λ (y : Spans). cell_spans y (upto_mark fs)) drawn in
      let rest = ih t refl refl in
      record {
        at_mark = λ q. let h = rest.at_mark (sym has ∙ q) in (ap (λ (y : Spans). y.closed) all ∙ (h.0 ∙ ap (λ (m : ℕ). s.closed ++ (from, m) ∷ []) to), ap (λ (y : Spans). y.open_one) all ∙ h.1);
        at_end = λ q. let h = rest.at_end (sym has ∙ q) in (ap (λ (y : Spans). y.closed) all ∙ h.0, ap (λ (y : Spans). y.open_one) all ∙ (h.1 ∙ ap (λ (m : ℕ). Some (from, m)) to));
      }

  run_none : (from d : ℕ) (s : Spans) → s.open_one ≡ Some (from, d) → Runs from d [] s s
  run_none from d s one = let z : d ≡ d + 0 = omega arith in record { at_mark = λ q. absurd (cc); at_end = λ _. (refl, one ∙ ap (λ (m : ℕ). Some (from, m)) z) }

  run_at : (from d : ℕ) (f : Facts) (fs : List Facts) (e : Stand) (s : Spans) (k : Kind) → f.kind ≡ k → CellsLead x r b (within d) (f ∷ fs) e → s.open_one ≡ Some (from, d)
      → ((t : Spans) → CellsLead x r b (within (d + 1)) fs e → t.open_one ≡ Some (from, d + 1) → Runs from (d + 1) fs t (cell_spans t (upto_mark fs))) → Runs from d (f ∷ fs) s (cell_spans s (upto_mark (f ∷ fs)))
  run_at from d f fs e s First is h one ih = absurd (subst (λ k. Continues (within d) k f.place) is h.1)
  run_at from d f fs e s Next is h one ih =
      let c = subst (λ k. Continues (within d) k f.place) is h.1 in
      let rest : CellsLead x r b (within (d + 1)) fs e = subst (λ (y : Kind × ℕ). CellsLead x r b (stand_by y.0 y.1) fs e) (λ i. (is i, c.0 i)) h.3 in
      run_next from d f fs s is c.0 one (λ t _ o. ih t rest o)
  run_at from d f fs e s Mark is h one ih =
      let c = subst (λ k. Continues (within d) k f.place) is h.1 in
      run_mark from d f.place f fs s c is refl one

  pub run_on : (from d : ℕ) (fs : List Facts) (e : Stand) (s : Spans) → CellsLead x r b (within d) fs e → s.open_one ≡ Some (from, d) → Runs from d fs s (cell_spans s (upto_mark fs))
  run_on from d [] e s h one = run_none from d s one
  run_on from d (f ∷ fs) e s h one = run_at from d f fs e s f.kind refl h one (λ t c o. run_on from (d + 1) fs e t c o)

  -- a stint from its First on
  pub run_first : (f : Facts) (fs : List Facts) (e s0 : Stand) (s : Spans) → f.kind ≡ First → CellsLead x r b s0 (f ∷ fs) e
      → Runs f.place f.place (f ∷ fs) (record { closed = spans_of s; open_one = None }) (cell_spans s (upto_mark (f ∷ fs)))
  run_first f fs e s0 s kind h =
      let up : upto_mark (f ∷ fs) ≡ f ∷ upto_mark fs = ap (λ k. f ∷ (if is_mark k then [] else upto_mark fs)) kind in
      let has : has_mark (f ∷ fs) ≡ has_mark fs = ap (λ k. if is_mark k then true else has_mark fs) kind in
      let n : packets_to_mark (f ∷ fs) ≡ suc (packets_to_mark fs) = ap {B = ℕ} (λ k. if is_mark k then 0 else suc (packets_to_mark fs)) kind in
      let to : (f.place + 1) + packets_to_mark fs ≡ f.place + packets_to_mark (f ∷ fs) = omega arith in
      let t : Spans = record { closed = spans_of s; open_one = Some (f.place, f.place + 1) } in
      let all : cell_spans s (upto_mark (f ∷ fs)) ≡ cell_spans t (upto_mark fs) = ap (cell_spans s) up ∙ ap (λ k. cell_spans (spans_by k f.place s) (upto_mark fs)) kind in
      let chain : CellsLead x r b (within (f.place + 1)) fs e = subst (λ k. CellsLead x r b (stand_by k f.place) fs e) kind h.3 in
      let rest = run_on f.place (f.place + 1) fs e t chain refl in
      record {
        at_mark = λ q. let g = rest.at_mark (sym has ∙ q) in (ap (λ (y : Spans). y.closed) all ∙ (g.0 ∙ ap (λ (m : ℕ). spans_of s ++ (f.place, m) ∷ []) to), ap (λ (y : Spans). y.open_one) all ∙ g.1);
        at_end = λ q. let g = rest.at_end (sym has ∙ q) in (ap (λ (y : Spans). y.closed) all ∙ g.0, ap (λ (y : Spans). y.open_one) all ∙ (g.1 ∙ ap (λ (m : ℕ). Some (f.place, m)) to));
      }
