-- How items draw stretches.
use Rattle.std.proofs.Common.{◌≡◌, ◌≢◌, ℕ, zero, suc, eqb, if◌then◌else◌, Bool, List, [], ◌∷◌, ◌++◌, refl, ap, ◌∙◌, eq-eqb, ne_eqb}
use Rattle.indirection.proofs.Tests.{by_test}
use Rattle.handover_core.specs.declared.item.Kind.{Kind}
use Rattle.handover_core.specs.declared.item.Item.{Item}
use Rattle.handover_core.specs.declared.item.Item.TheVariants.{Of, End}
use Rattle.handover_core.specs.declared.post.Post.{Post}
use Rattle.handover_core.specs.Dispatch.{stream, ends}
use Rattle.handover_core.proofs.Streams.{stream-append}
use Rattle.handover_core.specs.Spans.{Spans, spans_from, spans_by}

abbrev pub post_to : ℕ → Item → List Post
post_to c x = record { core = c; item = x } ∷ []

pub spans_from_append : (b : ℕ) (d : Spans) (xs ys : List Item) → spans_from b d (xs ++ ys) ≡ spans_from b (spans_from b d xs) ys
spans_from_append b d [] ys = refl
spans_from_append b d (Of kind bucket place ∷ xs) ys = spans_from_append b (if eqb bucket b then spans_by kind place d else d) xs ys
spans_from_append b d (End ∷ xs) ys = spans_from_append b d xs ys

pub spans_stream : (b c : ℕ) (d : Spans) (ps qs : List Post) → spans_from b d (stream c (ps ++ qs)) ≡ spans_from b (spans_from b d (stream c ps)) (stream c qs)
spans_stream b c d ps qs = ap (spans_from b d) (stream-append c ps qs) ∙ spans_from_append b d (stream c ps) (stream c qs)

-- an item of another bucket, and one to another core, draws nothing
pub spans_other : (b c core q place : ℕ) (kind : Kind) (d : Spans) → q ≢ b → spans_from b d (stream c (post_to core (Of kind q place))) ≡ d
spans_other b c core q place kind d ne = by_test core c (λ t. spans_from b d ((if t then Of kind q place ∷ [] else []) ++ []) ≡ d)
    (λ _. ap (λ t. if t then spans_by kind place d else d) (ne_eqb q b ne)) (λ _. refl)

pub spans_away : (b c core : ℕ) (x : Item) (d : Spans) → core ≢ c → spans_from b d (stream c (post_to core x)) ≡ d
spans_away b c core x d ne = ap (λ (t : Bool). spans_from b d ((if t then x ∷ [] else []) ++ [])) (ne_eqb core c ne)

pub spans_here : (b c core place : ℕ) (kind : Kind) (d : Spans) → core ≡ c → spans_from b d (stream c (post_to core (Of kind b place))) ≡ spans_by kind place d
spans_here b c core place kind d e = ap (λ (t : Bool). spans_from b d ((if t then Of kind b place ∷ [] else []) ++ [])) (eq-eqb core c e) ∙ ap (λ (t : Bool). if t then spans_by kind place d else d) (eq-eqb b b refl)

-- End draws nothing
pub spans_ends : (b c n : ℕ) (d : Spans) → spans_from b d (stream c (ends n)) ≡ d
spans_ends b c zero d = refl
spans_ends b c (suc n) d = spans_stream b c d (ends n) (post_to n End) ∙ (ap (λ (y : Spans). spans_from b y (stream c (post_to n End))) (spans_ends b c n d)
    ∙ by_test n c (λ t. spans_from b d ((if t then End ∷ [] else []) ++ []) ≡ d) (λ _. refl) (λ _. refl))
