-- The stretches of a bucket in a list of items: each from its First to its Mark, the last one, if no Mark ends it, to one past its last place.
use Rattle.std.specs.Prelude.{ℕ, ◌+◌, ◌==◌, if◌then◌else◌, List, [], ◌∷◌, ◌++◌, Option, Some, None}
use Rattle.indirection.specs.Stints.{Stint}
use Rattle.handover_core.specs.declared.item.Kind.{Kind}
use Rattle.handover_core.specs.declared.item.Kind.TheVariants.{First, Next, Mark}
use Rattle.handover_core.specs.declared.item.Item.{Item}
use Rattle.handover_core.specs.declared.item.Item.TheVariants.{Of, End}

-- places of a bucket: from the first to one past the last
abbrev pub Span : Type 0
Span = ℕ × ℕ

-- the stretches that are over, oldest first, and the one that goes on
pub record Spans : Type 0 where
  pub closed : List Span
  pub open_one : Option Span

abbrev pub no_spans : Spans
no_spans = record { closed = []; open_one = None }

abbrev pub last_span : Option Span → List Span
last_span None = []
last_span (Some s) = s ∷ []

-- where the open stretch began; it begins here if there is none
abbrev pub from_or : ℕ → Option Span → ℕ
from_or place None = place
from_or place (Some s) = s.0

-- the open stretch, closed here
abbrev pub upto_here : ℕ → Option Span → List Span
upto_here place None = []
upto_here place (Some s) = (s.0, place) ∷ []

-- what an item of the bucket does: a First opens a stretch, a Next takes it on, and a Mark closes it
abbrev pub spans_by : Kind → ℕ → Spans → Spans
spans_by First place d = record { closed = d.closed ++ last_span d.open_one; open_one = Some (place, place + 1) }
spans_by Next place d = record { closed = d.closed; open_one = Some (from_or place d.open_one, place + 1) }
spans_by Mark place d = record { closed = d.closed ++ upto_here place d.open_one; open_one = None }

abbrev pub spans_from : ℕ → Spans → List Item → Spans
spans_from b d [] = d
spans_from b d (Of kind bucket place ∷ xs) = spans_from b (if bucket == b then spans_by kind place d else d) xs
spans_from b d (End ∷ xs) = spans_from b d xs

abbrev pub spans_of : Spans → List Span
spans_of d = d.closed ++ last_span d.open_one

abbrev pub spans_in : ℕ → List Item → List Span
spans_in b xs = spans_of (spans_from b no_spans xs)

-- the stretches of these stints that a core has
abbrev pub spans_at : ℕ → List Stint → List Span
spans_at c [] = []
spans_at c (s ∷ ss) = (if s.core == c then (s.from, s.to) ∷ [] else []) ++ spans_at c ss
