-- What is given of traffic, and what is left.
use Rattle.std.proofs.Common.{◌≡◌, ℕ, zero, suc, ◌*◌, true, false, cond, lit≤, ◌+◌, ◌-◌, ◌<◌, ◌≤◌, List, [], ◌++◌, length, take, drop, refl, sym, ap, ◌∙◌, arith}
use Rattle.std.proofs.lemmas.List.{drop-append-le, drop-drop, length-drop, length-take, take-append-le}
use Rattle.std.proofs.Math.Seq.{take-add, take-append-add}
use Rattle.std.proofs.Math.ListN.{length-append}
use borrow.Rule.Slice.PartMut.{put_mid, post_of}
use Rattle.std.specs.List.{flat_map, range_with_len}
use Rattle.traffic_gen.specs.Draw.{flow_of}
use Rattle.traffic_gen.specs.Packet.{is_tcp_flow, tcp_frame, udp_frame, flow_frame, frame_of}
use Rattle.traffic_gen.specs.Traffic.{file_header, record_of, records_from, traffic}

pub records_from-none : (number first n : ℕ) → n ≡ 0 → records_from number first n ≡ []
unfolding records_from
records_from-none number first n none = rw none refl

pub records_from-more : (number first count : ℕ) → first < count → records_from number first (count - first) ≡ record_of number first ++ records_from number (first + 1) (count - (first + 1))
unfolding records_from
records_from-more number first count more = let e : count - first ≡ suc (count - (first + 1)) = omega arith in rw e refl

pub traffic_is : (count number : ℕ) → file_header ++ records_from number 0 (count - 0) ≡ traffic count number
unfolding traffic
traffic_is count number = let e : count - 0 ≡ count = omega arith in rw e refl

pub record_of-some : (number index : ℕ) → 0 < length (record_of number index)
unfolding record_of
record_of-some number index = omega arith

-- a part more stands in the buffer
pub given_more : (into all ahead rest sub : List ℕ) (done given : ℕ) → done ≤ length into → take done into ≡ take done all → ahead ++ rest ≡ drop done all → given ≤ length ahead → given ≤ length sub → take given sub ≡ take given ahead → take (done + given) (put_mid done (length into - done) into sub) ≡ take (done + given) all
given_more into all ahead rest sub done given within so_far left there fits part =
    let front : length (take done into) ≡ done = omega (arith, length-take done into) in
    let post = post_of done (length into - done) into in
    let new : take (done + given) (take done into ++ (sub ++ post)) ≡ take done into ++ take given sub =
    ap (λ n. take (n + given) (take done into ++ (sub ++ post))) (sym front)
    ∙ take-append-add (take done into) (sub ++ post) given
    ∙ ap (λ (l : List ℕ). take done into ++ l) (take-append-le given sub post fits) in
    let old : take (done + given) all ≡ take done all ++ take given ahead =
    take-add done given all
    ∙ ap (λ (l : List ℕ). take done all ++ l) (ap (take given) (sym left) ∙ take-append-le given ahead rest there) in
    new ∙ ap (λ (l : List ℕ). l ++ take given sub) so_far ∙ ap (λ (l : List ℕ). take done all ++ l) part ∙ sym old

-- and is left no longer
pub left_less : (all ahead rest : List ℕ) (done given : ℕ) → ahead ++ rest ≡ drop done all → given ≤ length ahead → drop given ahead ++ rest ≡ drop (done + given) all
left_less all ahead rest done given left there =
    sym (drop-append-le given ahead rest there) ∙ ap (drop given) left ∙ drop-drop given done all

pub there_more : (all ahead rest : List ℕ) (done given : ℕ) → done ≤ length all → ahead ++ rest ≡ drop done all → given ≤ length ahead → done + given ≤ length all
there_more all ahead rest done given so_far left there =
    omega (arith, length-append ahead rest, ap length left, length-drop done all)

-- no frame is longer than 54 bytes, and no record than 70
flow_frame-short : (flow index : ℕ) → length (flow_frame flow index) ≤ 54
flow_frame-short flow index =
    elim (is_tcp_flow flow) as (λ b. length (cond b (tcp_frame flow index) (udp_frame flow index)) ≤ 54) [ true ↦ lit≤ tt | false ↦ lit≤ tt ]

pub frame_of-short : (number index : ℕ) → length (frame_of number index) ≤ 54
unfolding frame_of
frame_of-short number index = flow_frame-short (flow_of number index) index

record_of-short : (number index : ℕ) → length (record_of number index) ≤ 70
unfolding record_of
record_of-short number index = omega (arith, frame_of-short number index)

records-short : (number first n : ℕ) → length (flat_map (record_of number) (range_with_len first n)) ≤ 70 * n
records-short number first zero = omega arith
records-short number first (suc n) =
    omega (arith, length-append (record_of number first) (flat_map (record_of number) (range_with_len (first + 1) n)), record_of-short number first, records-short number (first + 1) n)

pub length-traffic : (count number : ℕ) → length (traffic count number) ≤ 24 + 70 * count
unfolding traffic records_from
length-traffic count number = omega (arith, records-short number 0 count)
