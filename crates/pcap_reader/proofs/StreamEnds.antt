-- Each list of bytes has exactly one end of its stream.
use Rattle.std.proofs.Common.{◌≡◌, inl, inr, ℕ, ◌<◌, ◌≤◌, List, length, refl, ap, arith}
use Rattle.std.proofs.lemmas.Bool.{cases_lt}
use Rattle.pcap_reader.specs.Capture.{Captured, Ending, AtEnd, Breaks, Reads}
use Rattle.pcap_reader.specs.StreamEnd.{StreamEnd, Whole, Broken, TooMany, EndsStream}
use Rattle.pcap_reader.proofs.Records.{each_reading, one_reading_only}

within : (limit : ℕ) (bytes : List ℕ) (records : List Captured) (ending : Ending) → Reads bytes records ending → length records ≤ limit → (end : StreamEnd) × EndsStream limit bytes end
within limit bytes records AtEnd r few = (Whole, (records, r, few))
within limit bytes records (Breaks e) r few = (Broken e, (records, r, few))

pub each_stream_end : (limit : ℕ) (bytes : List ℕ) → (end : StreamEnd) × EndsStream limit bytes end
each_stream_end limit bytes =
    let r = each_reading bytes in
    elim (cases_lt limit (length r.0)) [
      | inl many ↦ (TooMany, (r.0, r.1, r.2, many))
      | inr few ↦ within limit bytes r.0 r.1 r.2 few
    ]

-- no stream of few records has one too many
few_or_many : (limit : ℕ) (bytes : List ℕ) (rs : List Captured) (ending : Ending) → Reads bytes rs ending → length rs ≤ limit → (others : List Captured) × (other : Ending) × Reads bytes others other × (limit < length others) → ⊥
few_or_many limit bytes rs ending r few m =
    let same = ap length (one_reading_only bytes rs m.0 ending m.1 r m.2).0 in omega (arith, m.3)

pub one_stream_end : (limit : ℕ) (bytes : List ℕ) (e f : StreamEnd) → EndsStream limit bytes e → EndsStream limit bytes f → e ≡ f
one_stream_end limit bytes Whole Whole s t = refl
one_stream_end limit bytes TooMany TooMany s t = refl
one_stream_end limit bytes Whole (Broken e) s t =
    let same = (one_reading_only bytes s.0 t.0 AtEnd (Breaks e) s.1 t.1).1 in cc
one_stream_end limit bytes (Broken e) Whole s t =
    let same = (one_reading_only bytes s.0 t.0 (Breaks e) AtEnd s.1 t.1).1 in cc
one_stream_end limit bytes (Broken e) (Broken f) s t =
    let same = (one_reading_only bytes s.0 t.0 (Breaks e) (Breaks f) s.1 t.1).1 in cc
one_stream_end limit bytes Whole TooMany s t = absurd (few_or_many limit bytes s.0 AtEnd s.1 s.2 t)
one_stream_end limit bytes TooMany Whole s t = absurd (few_or_many limit bytes t.0 AtEnd t.1 t.2 s)
one_stream_end limit bytes (Broken e) TooMany s t = absurd (few_or_many limit bytes s.0 (Breaks e) s.1 s.2 t)
one_stream_end limit bytes TooMany (Broken e) s t = absurd (few_or_many limit bytes t.0 (Breaks e) t.1 t.2 s)
