-- What a reading took of its source's bytes.
use Rattle.std.proofs.Common.{◌≡◌, inl, inr, ℕ, ◌+◌, ◌≤◌, List, [], ◌∷◌, ◌++◌, length, take, drop, sum_by, refl, sym, ap, subst, ◌∙◌, append_assoc, arith, length-take, length-append, Option, None, Some, Result, Ok, Err}
use Rattle.std.proofs.Math.Seq.{drop-append_seam, take-append_seam}
use Rattle.std.proofs.lemmas.List.{take-append-drop, append-nil}
use Rattle.std.proofs.lemmas.List.Sums.{sum_by-cons}
use Rattle.std.specs.Io.KnownBytes.{IsAtEnd, prepend_known}
use Rattle.pcap_reader.specs.declared.form.Form.{Form}
use Rattle.pcap_reader.specs.declared.fault.Break.{Break}
use Rattle.pcap_reader.specs.declared.fault.Break.TheVariants.{ShortHeader, ShortRecord}
use Rattle.pcap_reader.specs.declared.fault.ReadError.{ReadError}
use Rattle.pcap_reader.specs.declared.fault.ReadError.TheVariants.{Broken, ReadFault}
use Rattle.pcap_reader.specs.declared.reader.Progress.{Progress}
use Rattle.pcap_reader.specs.declared.reader.Progress.TheVariants.{Going}
use Rattle.pcap_reader.specs.Capture.{Captured, Begins, Ending, AtEnd, Breaks, TailEnds, Reads, IsCapture}
use Rattle.pcap_reader.specs.Reading.{Reading, still, Proceeds, ProceedsFrom, Advances}
use Rattle.pcap_reader.specs.Stream.{SoFar, Stops, StopsAtHeader, MOST_AHEAD}
use Rattle.pcap_reader.specs.Taken.{BeginsWith, capture_length, TakesNoMore, TakesOnly, HasStarted, Gives}
use Rattle.pcap_reader.proofs.SoFar.{SoFar-start, SoFar-push, SoFar-end, SoFar-break, SoFar-begins, left_at_end}

-- records in front of a longer tail stand in front of the front of it
Begins-front : (form : Form) (xs : List ℕ) (rs : List Captured) (u y : List ℕ) → Begins form xs rs (u ++ y) → (zs : List ℕ) × (xs ≡ zs ++ y) × Begins form zs rs u
Begins-front form xs [] u y b = (u, b, refl)
Begins-front form xs (r ∷ rs) u y b =
    let later = Begins-front form b.1 rs u y b.4 in (
      b.0 ++ (r.bytes ++ later.0),
      b.3 ∙ (ap (λ (w : List ℕ). b.0 ++ (r.bytes ++ w)) later.1 ∙ (ap (λ (w : List ℕ). b.0 ++ w) (sym (append_assoc r.bytes later.0 y)) ∙ sym (append_assoc b.0 (r.bytes ++ later.0) y))),
      (b.0, later.0, b.2, refl, later.2),
    )

-- how long records and what is behind them are
Begins-length : (form : Form) (zs : List ℕ) (rs : List Captured) (u : List ℕ) → Begins form zs rs u → length zs ≡ sum_by (λ (r : Captured). 16 + length r.bytes) rs + length u
Begins-length form zs [] u b = let same = ap length b in omega arith
Begins-length form zs (r ∷ rs) u b =
    let later = Begins-length form b.1 rs u b.4 in
    let here : length zs ≡ length b.0 + (length r.bytes + length b.1) = ap length b.3 ∙ (length-append b.0 (r.bytes ++ b.1) ∙ ap (λ n. length b.0 + n) (length-append r.bytes b.1)) in
    let counted = sum_by-cons (λ (s : Captured). 16 + length s.bytes) r rs in
    omega (arith, here, later, b.2.whole, counted)

-- a part of the bytes with a good header, these records and this tail, behind which the rest stands
record Part (bytes rest : List ℕ) (form : Form) (rs : List Captured) (u : List ℕ) : Type 0 where
  pub taken : List ℕ
  pub parts : bytes ≡ taken ++ rest
  pub so_far : SoFar (Some taken) form rs (Some u)
  pub long : length taken ≡ capture_length rs + length u

part : (bytes rest : List ℕ) (form : Form) (rs : List Captured) (u : List ℕ) → SoFar (Some bytes) form rs (Some (u ++ rest)) → Part bytes rest form rs u
part bytes rest form rs u s =
    let front = Begins-front form (drop 24 bytes) rs u rest s.2 in
    let header = take 24 bytes in
    let size : length header ≡ 24 = simp length-take (omega (arith, s.0)) in
    let whole : length (header ++ front.0) ≡ length header + length front.0 = length-append header front.0 in
    let counted = Begins-length form front.0 rs u front.2 in
    let first : take 24 (header ++ front.0) ≡ header = subst (λ n. take n (header ++ front.0) ≡ header) size (take-append_seam header front.0) in
    let behind : drop 24 (header ++ front.0) ≡ front.0 = subst (λ n. drop n (header ++ front.0) ≡ front.0) size (drop-append_seam header front.0) in
    record {
      taken = header ++ front.0;
      parts = sym (take-append-drop 24 bytes) ∙ (ap (λ w. header ++ w) front.1 ∙ sym (append_assoc header front.0 rest));
      so_far = (omega (arith, whole, size), rw first s.1, subst (λ w. Begins form w rs u) (sym behind) front.2);
      long = omega (arith, whole, size, counted);
    }

-- what was read ahead is all that was taken behind the records
pub SoFar-no_more : (left now : Option (List ℕ)) (form : Form) (rs : List Captured) (ahead : List ℕ) → SoFar left form rs (prepend_known ahead now) → length ahead ≤ MOST_AHEAD → TakesNoMore left now rs
SoFar-no_more None now form rs ahead s few = tt
SoFar-no_more (Some bytes) None form rs ahead s few = absurd s
SoFar-no_more (Some bytes) (Some rest) form rs ahead s few =
    let p = part bytes rest form rs ahead s in
    (p.taken, p.parts, omega (arith, p.long, few))

-- an error stops the reading behind these records
pub SoFar-stopped : (left before now : Option (List ℕ)) (form : Form) (rs : List Captured) (error : ReadError) → SoFar left form rs before → Stops form error before now → TakesNoMore left now rs
SoFar-stopped None before now form rs error s stops = tt
SoFar-stopped (Some bytes) None now form rs error s stops = absurd s
SoFar-stopped (Some bytes) (Some tail) None form rs error s stops = absurd stops.1
SoFar-stopped (Some bytes) (Some tail) (Some rest) form rs error s stops =
    let p = part bytes rest form rs stops.0 (subst (λ (w : List ℕ). SoFar (Some bytes) form rs (Some w)) stops.1 s) in
    (p.taken, p.parts, omega (arith, p.long, stops.2))

-- a failed read stops it behind all whole records of what was read
pub SoFar-failed : (left before now : Option (List ℕ)) (form : Form) (rs : List Captured) → SoFar left form rs before → Stops form ReadFault before now → TakesOnly left now rs
SoFar-failed None before now form rs s stops = tt
SoFar-failed (Some bytes) None now form rs s stops = absurd s
SoFar-failed (Some bytes) (Some tail) None form rs s stops = absurd stops.1
SoFar-failed (Some bytes) (Some tail) (Some rest) form rs s stops =
    let p = part bytes rest form rs stops.0 (subst (λ (w : List ℕ). SoFar (Some bytes) form rs (Some w)) stops.1 s) in
    let body : (ending : Ending) → TailEnds form (length rs) stops.0 ending → Reads p.taken rs ending = λ ending ends.
    inr (form, stops.0, record { header = p.so_far.0; form_is = p.so_far.1; records_are = p.so_far.2; ends = ends }) in
    elim stops.3 [
      | inl none ↦ (p.taken, AtEnd, p.parts, body AtEnd none)
      | inr cut ↦ (p.taken, Breaks (ShortRecord (length rs) (length stops.0)), p.parts, body (Breaks (ShortRecord (length rs) (length stops.0))) (refl, refl, cut))
    ]

-- the same at the header
pub header_stopped : (left now : Option (List ℕ)) (error : ReadError) → StopsAtHeader error left now → TakesNoMore left now []
header_stopped None now error stops = tt
header_stopped (Some bytes) None error stops = absurd stops.1
header_stopped (Some bytes) (Some rest) error stops = (stops.0, stops.1, omega (arith, stops.2))

pub header_failed : (left now : Option (List ℕ)) → StopsAtHeader ReadFault left now → TakesOnly left now []
header_failed None now stops = tt
header_failed (Some bytes) None stops = absurd stops.1
header_failed (Some bytes) (Some rest) stops =
    (stops.0, Breaks (ShortHeader (length stops.0)), stops.1, inl (ShortHeader (length stops.0), refl, refl, inl (stops.3, refl)))

-- a reader that is going on advances
going_on : (old new : Reading) (b n : Option (List ℕ)) (a : Result (Option Captured) ReadError) → old.progress ≡ Going → Proceeds old new b n a → Advances old new b n a
going_on old new b n a going h = subst (λ (p : Progress). ProceedsFrom p old new b n a) going h

-- a reading that has come so far
record HasCome (left now : Option (List ℕ)) (reader : Reading) (rs : List Captured) : Type 0 where
  pub so_far : SoFar left reader.form rs (still reader now)
  pub going : reader.progress ≡ Going
  pub given : reader.given ≡ length rs

come : (left b n : Option (List ℕ)) (old new : Reading) (rs more : List Captured) → HasCome left b old rs → Gives more old new b n → HasCome left n new (rs ++ more)
come left b n old new rs [] h g =
    subst (λ (w : List Captured). HasCome left n new w) (sym (append-nil rs))
    (subst (λ (w : Option (List ℕ)). HasCome left w new rs) (sym g.1) (subst (λ (r : Reading). HasCome left b r rs) (sym g.0) h))
come left b n old new rs (r ∷ more) h g =
    let moved = going_on old g.0 b g.1 (Ok (Some r)) h.going g.2 in
    let pushed = subst (λ (f : Form). SoFar left f (rs ++ r ∷ []) (still g.0 g.1)) (sym moved.form) (SoFar-push left (still old b) (still g.0 g.1) old.form rs r h.so_far moved.comes) in
    let one : HasCome left g.1 g.0 (rs ++ r ∷ []) = record {
      so_far = pushed;
      going = moved.progress;
      given = omega (arith, moved.given, h.given, length-append rs (r ∷ []));
    } in
    subst (λ (w : List Captured). HasCome left n new w) (append_assoc rs (r ∷ []) more) (come left g.1 n g.0 new (rs ++ r ∷ []) more one g.3)

come_from : (bytes : List ℕ) (first last : Reading) (left now : Option (List ℕ)) (rs : List Captured) → HasStarted bytes first left → Gives rs first last left now → HasCome (Some bytes) now last rs
come_from bytes first last left now rs h g =
    come (Some bytes) left now first last [] rs (record { so_far = SoFar-start (Some bytes) (still first left) first.form h.header; going = h.going; given = h.given }) g

pub given : (bytes : List ℕ) (first last : Reading) (left now : Option (List ℕ)) (records : List Captured) → HasStarted bytes first left → Gives records first last left now → BeginsWith bytes records
given bytes first last left now records h g =
    SoFar-begins (Some bytes) (still last now) last.form records (come_from bytes first last left now records h g).so_far

pub failed : (bytes : List ℕ) (first mid last : Reading) (left between now : Option (List ℕ)) (records : List Captured) → HasStarted bytes first left → Gives records first mid left between → Proceeds mid last between now (Err ReadFault) → TakesOnly (Some bytes) now records
failed bytes first mid last left between now records h g p =
    let c = come_from bytes first mid left between records h g in
    SoFar-failed (Some bytes) (still mid between) now mid.form records c.so_far (going_on mid last between now (Err ReadFault) c.going p).ahead

pub broken : (bytes : List ℕ) (first mid last : Reading) (left between now : Option (List ℕ)) (records : List Captured) (e : Break) → HasStarted bytes first left → Gives records first mid left between → Proceeds mid last between now (Err (Broken e)) → Reads bytes records (Breaks e) × TakesNoMore (Some bytes) now records
broken bytes first mid last left between now records e h g p =
    let c = come_from bytes first mid left between records h g in
    let a = going_on mid last between now (Err (Broken e)) c.going p in (
      SoFar-break (Some bytes) (still mid between) mid.form records mid.given e c.so_far a.comes c.given,
      SoFar-stopped (Some bytes) (still mid between) now mid.form records (Broken e) c.so_far a.ahead,
    )

pub ended : (bytes : List ℕ) (first mid last : Reading) (left between now : Option (List ℕ)) (records : List Captured) → HasStarted bytes first left → Gives records first mid left between → Proceeds mid last between now (Ok None) → IsCapture bytes records × IsAtEnd now
ended bytes first mid last left between now records h g p =
    let c = come_from bytes first mid left between records h g in
    let a = going_on mid last between now (Ok None) c.going p in
    (SoFar-end (Some bytes) (still mid between) mid.form records c.so_far a.comes.0, left_at_end now last.ahead a.comes.1)
