-- A record by the kind of its flow.
use Rattle.std.proofs.Common.{◌≡◌, ℕ, ◌%◌, List, ◌++◌, length, refl, sym, ap, ◌∙◌}
use Rattle.std.proofs.lemmas.Bool.{ne_eqb}
use Rattle.traffic_gen.specs.Draw.{flow_of}
use Rattle.traffic_gen.specs.Packet.{tcp_frame, udp_frame, flow_frame, frame_of}
use Rattle.traffic_gen.specs.Traffic.{record_header, record_of}

flow_frame-even : (flow index : ℕ) → flow % 2 ≡ 0 → flow_frame flow index ≡ tcp_frame flow index
flow_frame-even flow index even = rw even refl

flow_frame-odd : (flow index : ℕ) → (flow % 2 ≡ 0 → ⊥) → flow_frame flow index ≡ udp_frame flow index
flow_frame-odd flow index odd = rw (ne_eqb (flow % 2) 0 odd) refl

-- the frame of a flow of an even number, and of an odd one
pub frame_is-even : (flow number index : ℕ) → flow ≡ flow_of number index → flow % 2 ≡ 0 → tcp_frame flow index ≡ frame_of number index
unfolding frame_of
frame_is-even flow number index e even = sym (flow_frame-even flow index even) ∙ ap (λ f. flow_frame f index) e

pub frame_is-odd : (flow number index : ℕ) → flow ≡ flow_of number index → (flow % 2 ≡ 0 → ⊥) → udp_frame flow index ≡ frame_of number index
unfolding frame_of
frame_is-odd flow number index e odd = sym (flow_frame-odd flow index odd) ∙ ap (λ f. flow_frame f index) e

-- a record by its frame
pub record_is : (number index : ℕ) (frame : List ℕ) → frame ≡ frame_of number index → record_header (length frame) index ++ frame ≡ record_of number index
unfolding record_of
record_is number index frame e = ap (λ (f : List ℕ). record_header (length f) index ++ f) e
