-- The known bytes that are still to come, through the calls that read ahead.
use Rattle.std.proofs.Common.{◌≡◌, inr, ℕ, ◌+◌, ◌*◌, ◌≤◌, ◌<◌, List, [], ◌++◌, length, take, drop, refl, sym, ap, subst, ◌∙◌, append_assoc, arith, length-take, length-append, Option, None, Some, IfSome, Result, Ok, Err, OnOk, false}
use Rattle.std.specs.Io.KnownBytes.{Consumes, Keeps, IsAtEnd, prepend_known}
use Rattle.std.proofs.lemmas.List.{take-append-drop, append-nil, take-append-le, drop-append-le}
use Rattle.std.specs.Result.{is_err}
use Rattle.std.proofs.lemmas.Bool.{true≢false}
use Rattle.pcap_reader.specs.declared.form.Form.{Form}
use Rattle.pcap_reader.specs.declared.fault.Break.TheVariants.{TooLong, ShortRecord}
use Rattle.pcap_reader.specs.declared.fault.Break.{Break}
use Rattle.pcap_reader.specs.declared.head.Head.{Head}
use Rattle.pcap_reader.specs.Capture.{number_at, unit, IsHeaderOf, IsCut, captured_length, TailBreaks, HeaderBreaks, announced}
use Rattle.pcap_reader.specs.Stream.{TakesRecord, TakesHeader, record_at, MOST_AHEAD}
use Rattle.pcap_reader.proofs.Records.{number_at-append}

-- what was read ahead is a front of what is to come
pub known_front : (a0 a1 : Option (List ℕ)) (w0 w1 : List ℕ) → Keeps (prepend_known w0 a0) (prepend_known w1 a1) → IfSome (prepend_known w0 a0) (λ xs. (ys : List ℕ) × (xs ≡ w1 ++ ys))
known_front None a1 w0 w1 k = tt
known_front (Some x0) None w0 w1 k = absurd k
known_front (Some x0) (Some x1) w0 w1 k = (x1, sym k)

-- 16 bytes were taken between two calls
pub known_header : (a0 a1 a2 : Option (List ℕ)) (w0 w1 w2 : List ℕ) → Keeps (prepend_known w0 a0) (prepend_known w1 a1) → Keeps (prepend_known (drop 16 w1) a1) (prepend_known w2 a2) → Consumes (prepend_known w0 a0) (prepend_known w2 a2) (take 16 w1)
known_header None a1 a2 w0 w1 w2 k l = tt
known_header (Some x0) None a2 w0 w1 w2 k l = absurd k
known_header (Some x0) (Some x1) None w0 w1 w2 k l = absurd l
known_header (Some x0) (Some x1) (Some x2) w0 w1 w2 k l =
    sym k ∙ (ap (λ w. w ++ x1) (sym (take-append-drop 16 w1)) ∙ (append_assoc (take 16 w1) (drop 16 w1) x1 ∙ ap (λ w. take 16 w1 ++ w) (sym l)))

-- a number of the header, as it stands in what was read ahead
in_header : (form : Form) (n i : ℕ) (w : List ℕ) → 16 ≤ length w → i + n ≤ 16 → number_at form.order n i w ≡ number_at form.order n i (take 16 w)
in_header form n i w long fits =
    ap (number_at form.order n i) (sym (take-append-drop 16 w)) ∙ number_at-append form.order n i (take 16 w) (drop 16 w) (simp length-take (omega arith))

-- the head is what the first 16 bytes tell
pub record IsRead (form : Form) (head : Head) (bytes : List ℕ) : Type 0 where
  pub long : 16 ≤ length bytes
  pub nanos : head.nanos ≡ number_at form.order 4 0 bytes * 1000000000 + number_at form.order 4 4 bytes * unit form.fraction
  pub captured : head.captured ≡ number_at form.order 4 8 bytes
  pub original : head.original ≡ number_at form.order 4 12 bytes

header_of : (form : Form) (head : Head) (w1 w2 : List ℕ) → IsRead form head w1 → head.captured ≤ 262144 → head.captured ≤ length w2 → IsHeaderOf form (record_at form head w2) (take 16 w1)
header_of form head w1 w2 r small fits =
    let long = r.long in
    let got : length (take head.captured w2) ≡ head.captured = simp length-take (omega arith) in
    record {
      whole = simp length-take (omega arith);
      link = refl;
      nanos = r.nanos ∙ (ap (λ n. n * 1000000000 + number_at form.order 4 4 w1 * unit form.fraction) (in_header form 4 0 w1 long (omega arith))
          ∙ ap (λ n. number_at form.order 4 0 (take 16 w1) * 1000000000 + n * unit form.fraction) (in_header form 4 4 w1 long (omega arith)));
      captured = got ∙ (r.captured ∙ in_header form 4 8 w1 long (omega arith));
      limit = omega (arith, got);
      original = r.original ∙ in_header form 4 12 w1 long (omega arith);
    }

-- the record is whole
pub takes_record : (form : Form) (head : Head) (a0 a2 : Option (List ℕ)) (w0 w1 w2 : List ℕ) → Consumes (prepend_known w0 a0) (prepend_known w2 a2) (take 16 w1) → IsRead form head w1 → head.captured ≤ 262144 → head.captured ≤ length w2 → TakesRecord form (prepend_known w0 a0) (prepend_known (drop head.captured w2) a2) (record_at form head w2)
takes_record form head None a2 w0 w1 w2 k r small fits = tt
takes_record form head (Some x0) None w0 w1 w2 k r small fits = absurd k
takes_record form head (Some x0) (Some x2) w0 w1 w2 k r small fits = (
  take 16 w1,
  header_of form head w1 w2 r small fits,
  k ∙ ap (λ w. take 16 w1 ++ w) (ap (λ w. w ++ x2) (sym (take-append-drop head.captured w2)) ∙ append_assoc (take head.captured w2) (drop head.captured w2) x2),
)

-- the captured length is above the limit
pub too_long : (form : Form) (n : ℕ) (head : Head) (a0 a1 : Option (List ℕ)) (w0 w1 : List ℕ) → Keeps (prepend_known w0 a0) (prepend_known w1 a1) → IsRead form head w1 → 262144 < head.captured → IfSome (prepend_known w0 a0) (λ tail. TailBreaks form n tail (TooLong n head.captured))
too_long form n head None a1 w0 w1 k r over = tt
too_long form n head (Some x0) None w0 w1 k r over = absurd k
too_long form n head (Some x0) (Some x1) w0 w1 k r over =
    let told : captured_length form (w1 ++ x1) ≡ head.captured = number_at-append form.order 4 8 w1 x1 (omega (arith, r.long)) ∙ sym r.captured in
    subst (λ (w : List ℕ). TailBreaks form n w (TooLong n head.captured)) k (refl, sym told, simp length-append (omega (arith, r.long)), omega (arith, told))

-- the input ends behind the record's header
pub cut_short : (form : Form) (n have : ℕ) (head : Head) (a0 a2 : Option (List ℕ)) (w0 w1 w2 : List ℕ) → Consumes (prepend_known w0 a0) (prepend_known w2 a2) (take 16 w1) → IsAtEnd a2 → IsRead form head w1 → head.captured ≤ 262144 → length w2 < head.captured → have ≡ 16 + length w2 → IfSome (prepend_known w0 a0) (λ tail. TailBreaks form n tail (ShortRecord n have))
cut_short form n have head None a2 w0 w1 w2 k end r small cut e = tt
cut_short form n have head (Some x0) None w0 w1 w2 k end r small cut e = absurd k
cut_short form n have head (Some x0) (Some x2) w0 w1 w2 k end r small cut e =
    let all : w0 ++ x0 ≡ take 16 w1 ++ w2 = k ∙ ap (λ w. take 16 w1 ++ w) (ap (λ w. w2 ++ w) end ∙ append-nil w2) in
    let front : length (take 16 w1) ≡ 16 = simp length-take (omega (arith, r.long)) in
    let long : length (take 16 w1 ++ w2) ≡ 16 + length w2 = simp length-append (omega arith) in
    let told : captured_length form (take 16 w1 ++ w2) ≡ head.captured =
    number_at-append form.order 4 8 (take 16 w1) w2 (omega arith) ∙ (sym (in_header form 4 8 w1 r.long (omega arith)) ∙ sym r.captured) in
    subst (λ (w : List ℕ). TailBreaks form n w (ShortRecord n have)) (sym all)
    (refl, e ∙ sym long, inr (omega arith, omega arith, omega arith))

-- what was read ahead is read too
consumed_on : (a0 a2 : Option (List ℕ)) (w0 w2 h : List ℕ) → Consumes (prepend_known w0 a0) (prepend_known w2 a2) h → Consumes (prepend_known w0 a0) a2 (h ++ w2)
consumed_on None a2 w0 w2 h k = tt
consumed_on (Some x0) None w0 w2 h k = absurd k
consumed_on (Some x0) (Some x2) w0 w2 h k = k ∙ sym (append_assoc h w2 x2)

-- a record's header was read, and less than its captured bytes
pub stops_inside : (form : Form) (head : Head) (a0 a2 : Option (List ℕ)) (w0 w1 w2 : List ℕ) → Consumes (prepend_known w0 a0) (prepend_known w2 a2) (take 16 w1) → IsRead form head w1 → head.captured ≤ 262144 → length w2 < head.captured
    → (unused : List ℕ) × Consumes (prepend_known w0 a0) a2 unused × (length unused ≤ MOST_AHEAD) × IsCut form unused
stops_inside form head a0 a2 w0 w1 w2 k r small cut =
    let front : length (take 16 w1) ≡ 16 = simp length-take (omega (arith, r.long)) in
    let long : length (take 16 w1 ++ w2) ≡ 16 + length w2 = simp length-append (omega arith) in
    let told : captured_length form (take 16 w1 ++ w2) ≡ head.captured =
    number_at-append form.order 4 8 (take 16 w1) w2 (omega arith) ∙ (sym (in_header form 4 8 w1 r.long (omega arith)) ∙ sym r.captured) in
    (take 16 w1 ++ w2, consumed_on a0 a2 w0 w2 (take 16 w1) k, omega arith, inr (omega arith, omega arith, omega arith))

-- a call that didn't fail is Ok
pub on_not_err : {T E P : Type 0} (r : Result T E) → is_err r ≡ false → OnOk r P → P
on_not_err (Ok x) e p = p
on_not_err (Err y) e p = absurd (true≢false e)

-- the header was read ahead
header_front : (x0 x1 w1 : List ℕ) → w1 ++ x1 ≡ x0 → 24 ≤ length w1 → (24 ≤ length x0) × (take 24 x0 ≡ take 24 w1) × (drop 24 x0 ≡ drop 24 w1 ++ x1)
header_front x0 x1 w1 k long = (
  subst (λ (w : List ℕ). 24 ≤ length w) k (simp length-append (omega arith)),
  ap (take 24) (sym k) ∙ take-append-le 24 w1 x1 long,
  ap (drop 24) (sym k) ∙ drop-append-le 24 w1 x1 long,
)

pub takes_header : (a0 a1 : Option (List ℕ)) (w0 w1 : List ℕ) (form : Form) → w0 ≡ [] → Keeps (prepend_known w0 a0) (prepend_known w1 a1) → 24 ≤ length w1 → announced (take 24 w1) ≡ Ok form → TakesHeader a0 (prepend_known (drop 24 w1) a1) form
takes_header None a1 w0 w1 form z k long good = tt
takes_header (Some x0) None w0 w1 form z k long good = absurd k
takes_header (Some x0) (Some x1) w0 w1 form z k long good =
    let h = header_front x0 x1 w1 (k ∙ ap (λ w. w ++ x0) z) long in
    (h.0, ap announced h.1 ∙ good, sym h.2)

pub header_refused : (a0 a1 : Option (List ℕ)) (w0 w1 : List ℕ) (e : Break) → w0 ≡ [] → Keeps (prepend_known w0 a0) (prepend_known w1 a1) → 24 ≤ length w1 → announced (take 24 w1) ≡ Err e → IfSome a0 (λ bytes. HeaderBreaks bytes e)
header_refused None a1 w0 w1 e z k long bad = tt
header_refused (Some x0) None w0 w1 e z k long bad = absurd k
header_refused (Some x0) (Some x1) w0 w1 e z k long bad =
    let h = header_front x0 x1 w1 (k ∙ ap (λ w. w ++ x0) z) long in
    inr (h.0, ap announced h.1 ∙ bad)
