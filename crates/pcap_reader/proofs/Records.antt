-- A list of bytes has one reading.
use Rattle.std.proofs.Common.{◌≡◌, inl, inr, ℕ, suc, zero, ◌+◌, ◌*◌, ◌≤◌, List, [], ◌∷◌, ◌++◌, length, take, drop, refl, sym, ap, subst, ◌∙◌, arith, length-drop, length-take, length-append, Ok, Err, Result}
use Rattle.std.proofs.Math.Seq.{drop-append_seam, take-append_seam}
use Rattle.std.proofs.lemmas.List.{drop-append-le, take-append-drop}
use Rattle.std.proofs.lemmas.Bool.{cases_lt}
use Rattle.byteorder.specs.Endian.{little_number, big_number}
use Rattle.byteorder.specs.Numbers.{big_from-append, little_from-append}
use Rattle.rss_base.specs.declared.link.Link.{Link}
use Rattle.pcap_reader.specs.declared.form.Order.{Order}
use Rattle.pcap_reader.specs.declared.form.Order.TheVariants.{Little, Big}
use Rattle.pcap_reader.specs.declared.form.Form.{Form}
use Rattle.pcap_reader.specs.declared.fault.Break.{Break}
use Rattle.pcap_reader.specs.declared.fault.Break.TheVariants.{ShortHeader, BadMagic, BadVersion, BadLink, TooLong, ShortRecord}
use Rattle.pcap_reader.specs.Capture.{number_at, unit, announced, HeaderBreaks, Captured, IsHeaderOf, Begins, captured_length, Ending, AtEnd, Breaks, TailEnds, Reads}

-- a list of no elements
empty_of : (xs : List ℕ) → length xs ≡ 0 → xs ≡ []
empty_of [] h = refl
empty_of (x ∷ xs) h = absurd (omega arith)

-- a number depends on its own bytes alone
pub number_at-append : (o : Order) (n i : ℕ) (xs ys : List ℕ) → i + n ≤ length xs → number_at o n i (xs ++ ys) ≡ number_at o n i xs
unfolding number_at
number_at-append Little n i xs ys h =
    ap (little_number n) (drop-append-le i xs ys (omega arith)) ∙ little_from-append n (drop i xs) ys (simp length-drop (omega arith))
number_at-append Big n i xs ys h =
    ap (big_number n) (drop-append-le i xs ys (omega arith)) ∙ big_from-append n (drop i xs) ys (simp length-drop (omega arith))

-- fronts of one length of one list are one
pub front_of : (a b x y : List ℕ) → length a ≡ length b → a ++ x ≡ b ++ y → (a ≡ b) × (x ≡ y)
front_of a b x y h e = (
  sym (take-append_seam a x) ∙ (ap (λ n. take n (a ++ x)) h ∙ (ap (take (length b)) e ∙ take-append_seam b y)),
  sym (drop-append_seam a x) ∙ (ap (λ n. drop n (a ++ x)) h ∙ (ap (drop (length b)) e ∙ drop-append_seam b y)),
)

abbrev made : Link → ℕ → ℕ → List ℕ → Captured
made l n o bs = record { link = l; nanos = n; original = o; bytes = bs }

same_parts : (k l : Link) (a b c d : ℕ) (x y : List ℕ) → k ≡ l → a ≡ b → c ≡ d → x ≡ y → made k a c x ≡ made l b d y
same_parts k l a b c d x y h p q r = ap (λ m. made m a c x) h ∙ (ap (λ n. made l n c x) p ∙ (ap (λ n. made l b n x) q ∙ ap (made l b d) r))

-- two records of one header and the same bytes are one
same_record : (form : Form) (r s : Captured) (header : List ℕ) → IsHeaderOf form r header → IsHeaderOf form s header → r.bytes ≡ s.bytes → r ≡ s
same_record form r s header p q e = same_parts r.link s.link r.nanos s.nanos r.original s.original r.bytes s.bytes (p.link ∙ sym q.link) (p.nanos ∙ sym q.nanos) (p.original ∙ sym q.original) e

-- the first record and what is behind it are determined
pub one_record : (form : Form) (r s : Captured) (h k x y : List ℕ) → IsHeaderOf form r h → IsHeaderOf form s k → h ++ (r.bytes ++ x) ≡ k ++ (s.bytes ++ y) → (r ≡ s) × (x ≡ y)
one_record form r s h k x y p q e =
    let fronts = front_of h k (r.bytes ++ x) (s.bytes ++ y) (p.whole ∙ sym q.whole) e in
    let q' : IsHeaderOf form s h = subst (λ (w : List ℕ). IsHeaderOf form s w) (sym fronts.0) q in
    let rest = front_of r.bytes s.bytes x y (p.captured ∙ sym q'.captured) fronts.1 in
    (same_record form r s h p q' rest.0, rest.1)

-- the captured length stands in the header
pub length_told : (form : Form) (r : Captured) (h x : List ℕ) → IsHeaderOf form r h → captured_length form (h ++ x) ≡ length r.bytes
length_told form r h x p = number_at-append form.order 4 8 h x (omega (arith, p.whole)) ∙ sym p.captured

-- no capture ends where a whole record stands
pub no_end : (form : Form) (n : ℕ) (r : Captured) (h x : List ℕ) (ending : Ending) → IsHeaderOf form r h → TailEnds form n (h ++ (r.bytes ++ x)) ending → ⊥
no_end form n r h x ending p t =
    let long : length (h ++ (r.bytes ++ x)) ≡ 16 + (length r.bytes + length x) = simp length-append (omega (arith, p.whole)) in
    let told = length_told form r h (r.bytes ++ x) p in
    no_end_at form n (h ++ (r.bytes ++ x)) (length r.bytes) (length x) ending long told p.limit t
  where
    no_end_at : (form : Form) (n : ℕ) (tail : List ℕ) (captured more : ℕ) (ending : Ending) → length tail ≡ 16 + (captured + more) → captured_length form tail ≡ captured → captured ≤ 262144 → TailEnds form n tail ending → ⊥
    no_end_at form n tail captured more AtEnd a b c t = let z = ap length t in omega arith
    no_end_at form n tail captured more (Breaks (ShortHeader have)) a b c t = t
    no_end_at form n tail captured more (Breaks (BadMagic v)) a b c t = t
    no_end_at form n tail captured more (Breaks (BadVersion v w)) a b c t = t
    no_end_at form n tail captured more (Breaks (BadLink v)) a b c t = t
    no_end_at form n tail captured more (Breaks (TooLong at long)) a b c t = omega (arith, t.3)
    no_end_at form n tail captured more (Breaks (ShortRecord at have)) a b c t = elim t.2 [ inl s ↦ omega arith | inr s ↦ omega arith ]

-- a capture ends in one way
pub one_end : (form : Form) (n : ℕ) (tail : List ℕ) (e f : Ending) → TailEnds form n tail e → TailEnds form n tail f → e ≡ f
one_end form n tail AtEnd AtEnd s t = refl
one_end form n tail (Breaks (ShortHeader a)) f s t = absurd s
one_end form n tail (Breaks (BadMagic a)) f s t = absurd s
one_end form n tail (Breaks (BadVersion a b)) f s t = absurd s
one_end form n tail (Breaks (BadLink a)) f s t = absurd s
one_end form n tail AtEnd (Breaks (ShortHeader u)) s t = absurd t
one_end form n tail AtEnd (Breaks (BadMagic u)) s t = absurd t
one_end form n tail AtEnd (Breaks (BadVersion u v)) s t = absurd t
one_end form n tail AtEnd (Breaks (BadLink u)) s t = absurd t
one_end form n tail (Breaks (TooLong at long)) (Breaks (ShortHeader u)) s t = absurd t
one_end form n tail (Breaks (TooLong at long)) (Breaks (BadMagic u)) s t = absurd t
one_end form n tail (Breaks (TooLong at long)) (Breaks (BadVersion u v)) s t = absurd t
one_end form n tail (Breaks (TooLong at long)) (Breaks (BadLink u)) s t = absurd t
one_end form n tail (Breaks (ShortRecord at have)) (Breaks (ShortHeader u)) s t = absurd t
one_end form n tail (Breaks (ShortRecord at have)) (Breaks (BadMagic u)) s t = absurd t
one_end form n tail (Breaks (ShortRecord at have)) (Breaks (BadVersion u v)) s t = absurd t
one_end form n tail (Breaks (ShortRecord at have)) (Breaks (BadLink u)) s t = absurd t
one_end form n tail AtEnd (Breaks (TooLong at long)) s t = let z = ap length s in absurd (omega (arith, t.2))
one_end form n tail AtEnd (Breaks (ShortRecord at have)) s t = let z = ap length s in absurd (elim t.2 [ inl c ↦ omega arith | inr c ↦ omega arith ])
one_end form n tail (Breaks (TooLong at long)) AtEnd s t = let z = ap length t in absurd (omega (arith, s.2))
one_end form n tail (Breaks (TooLong at long)) (Breaks (TooLong at' long')) s t = ap (λ m. Breaks (TooLong m long)) (s.0 ∙ sym t.0) ∙ ap (λ m. Breaks (TooLong at' m)) (s.1 ∙ sym t.1)
one_end form n tail (Breaks (TooLong at long)) (Breaks (ShortRecord at' have')) s t = absurd (elim t.2 [ inl c ↦ omega (arith, s.2, s.3) | inr c ↦ omega (arith, s.2, s.3) ])
one_end form n tail (Breaks (ShortRecord at have)) AtEnd s t = let z = ap length t in absurd (elim s.2 [ inl c ↦ omega arith | inr c ↦ omega arith ])
one_end form n tail (Breaks (ShortRecord at have)) (Breaks (TooLong at' long')) s t = absurd (elim s.2 [ inl c ↦ omega (arith, t.2, t.3) | inr c ↦ omega (arith, t.2, t.3) ])
one_end form n tail (Breaks (ShortRecord at have)) (Breaks (ShortRecord at' have')) s t =
    ap (λ m. Breaks (ShortRecord m have)) (s.0 ∙ sym t.0) ∙ ap (λ m. Breaks (ShortRecord at' m)) (s.1 ∙ sym t.1)

-- the records of a body and its end are determined. n records were before
pub one_body : (form : Form) (n : ℕ) (bytes : List ℕ) (rs ss : List Captured) (x y : List ℕ) (e f : Ending) → Begins form bytes rs x → TailEnds form (n + length rs) x e → Begins form bytes ss y → TailEnds form (n + length ss) y f → (rs ≡ ss) × (e ≡ f)
one_body form n bytes [] [] x y e f a s b t = (refl, one_end form (n + 0) x e f s (subst (λ (w : List ℕ). TailEnds form (n + 0) w f) (sym b ∙ a) t))
one_body form n bytes [] (r ∷ ss) x y e f a s b t =
    absurd (no_end form (n + 0) r b.0 b.1 e b.2 (subst (λ (w : List ℕ). TailEnds form (n + 0) w e) (sym a ∙ b.3) s))
one_body form n bytes (r ∷ rs) [] x y e f a s b t =
    absurd (no_end form (n + 0) r a.0 a.1 f a.2 (subst (λ (w : List ℕ). TailEnds form (n + 0) w f) (sym b ∙ a.3) t))
one_body form n bytes (r ∷ rs) (r' ∷ ss) x y e f a s b t =
    let first = one_record form r r' a.0 b.0 a.1 b.1 a.2 b.2 (sym a.3 ∙ b.3) in
    let shift : (k : ℕ) → n + suc k ≡ (n + 1) + k = λ k. omega arith in
    let rest = one_body form (n + 1) a.1 rs ss x y e f a.4 (subst (λ m. TailEnds form m x e) (shift (length rs)) s) (subst (λ (w : List ℕ). Begins form w ss y) (sym first.1) b.4) (subst (λ m. TailEnds form m y f) (shift (length ss)) t) in
    (ap (λ (h : Captured). h ∷ rs) first.0 ∙ ap (λ (hs : List Captured). r' ∷ hs) rest.0, rest.1)

-- the record that these bytes begin with
abbrev first_record : Form → List ℕ → Captured
first_record form bytes =
    made form.link (number_at form.order 4 0 (take 16 bytes) * 1000000000 + number_at form.order 4 4 (take 16 bytes) * unit form.fraction)
    (number_at form.order 4 12 (take 16 bytes)) (take (captured_length form bytes) (drop 16 bytes))

-- its header is the first 16 bytes
first_header : (form : Form) (bytes : List ℕ) → captured_length form bytes ≤ 262144 → 16 + captured_length form bytes ≤ length bytes → IsHeaderOf form (first_record form bytes) (take 16 bytes)
first_header form bytes small fits =
    let long : length (take 16 bytes) ≡ 16 = simp length-take (omega arith) in
    let got : length (take (captured_length form bytes) (drop 16 bytes)) ≡ captured_length form bytes = simp (length-take, length-drop) (omega arith) in
    let told : number_at form.order 4 8 (take 16 bytes) ≡ captured_length form bytes =
    sym (number_at-append form.order 4 8 (take 16 bytes) (drop 16 bytes) (omega arith)) ∙ ap (number_at form.order 4 8) (take-append-drop 16 bytes) in
    record { whole = long; link = refl; nanos = refl; captured = got ∙ sym told; limit = omega arith; original = refl }

-- each body has records and an end
pub each_body : (form : Form) (n k : ℕ) (bytes : List ℕ) → length bytes ≤ k → (rs : List Captured) × (x : List ℕ) × (e : Ending) × Begins form bytes rs x × TailEnds form (n + length rs) x e
each_body form n zero bytes h = ([], bytes, AtEnd, refl, empty_of bytes (omega arith))
each_body form n (suc k) bytes h = elim (cases_lt 0 (length bytes)) [
  | inr none ↦ ([], bytes, AtEnd, refl, empty_of bytes (omega arith))
  | inl some ↦ elim (cases_lt (length bytes) 16) [
    | inl cut ↦ ([], bytes, Breaks (ShortRecord (n + 0) (length bytes)), refl, (refl, refl, inl (some, cut)))
    | inr whole ↦ elim (cases_lt 262144 (captured_length form bytes)) [
      | inl over ↦ ([], bytes, Breaks (TooLong (n + 0) (captured_length form bytes)), refl, (refl, refl, whole, over))
      | inr small ↦ elim (cases_lt (length bytes) (16 + captured_length form bytes)) [
        | inl cut ↦ ([], bytes, Breaks (ShortRecord (n + 0) (length bytes)), refl, (refl, refl, inr (whole, small, cut)))
        | inr fits ↦
            let rest = drop (captured_length form bytes) (drop 16 bytes) in
            let later = each_body form (n + 1) k rest (simp length-drop (omega arith)) in
            let shift : (n + 1) + length later.0 ≡ n + suc (length later.0) = omega arith in
            let parts : bytes ≡ take 16 bytes ++ (take (captured_length form bytes) (drop 16 bytes) ++ rest) =
            sym (take-append-drop 16 bytes) ∙ ap (λ w. take 16 bytes ++ w) (sym (take-append-drop (captured_length form bytes) (drop 16 bytes))) in (
              first_record form bytes ∷ later.0,
              later.1,
              later.2,
              (take 16 bytes, rest, first_header form bytes small fits, parts, later.3),
              subst (λ m. TailEnds form m later.1 later.2) shift later.4,
            )
      ]
    ]
  ]
]

-- what follows of a header
pub each_header : (bytes : List ℕ) (r : Result Form Break) → announced (take 24 bytes) ≡ r → 24 ≤ length bytes → (records : List Captured) × (ending : Ending) × Reads bytes records ending
each_header bytes (Ok form) a long =
    let body = each_body form 0 (length (drop 24 bytes)) (drop 24 bytes) (omega arith) in
    let zero_more : 0 + length body.0 ≡ length body.0 = omega arith in
    (body.0, body.2, inr (form, body.1, record { header = long; form_is = a; records_are = body.3; ends = subst (λ m. TailEnds form m body.1 body.2) zero_more body.4 }))
each_header bytes (Err e) a long = ([], Breaks e, inl (e, refl, refl, inr (long, a)))

pub each_reading : (bytes : List ℕ) → (records : List Captured) × (ending : Ending) × Reads bytes records ending
each_reading bytes = elim (cases_lt (length bytes) 24) [
  | inl short ↦ ([], Breaks (ShortHeader (length bytes)), inl (ShortHeader (length bytes), refl, refl, inl (short, refl)))
  | inr long ↦ each_header bytes (announced (take 24 bytes)) refl long
]

-- a header breaks in one way
one_header : (bytes : List ℕ) (e f : Break) → HeaderBreaks bytes e → HeaderBreaks bytes f → e ≡ f
one_header bytes e f (inl a) (inl b) = a.1 ∙ sym b.1
one_header bytes e f (inl a) (inr b) = absurd (omega (arith, a.0, b.0))
one_header bytes e f (inr a) (inl b) = absurd (omega (arith, a.0, b.0))
one_header bytes e f (inr a) (inr b) = let p = a.1 in let q = b.1 in cc

-- a good header isn't broken
good_header : (bytes : List ℕ) (e : Break) (form : Form) → HeaderBreaks bytes e → 24 ≤ length bytes → announced (take 24 bytes) ≡ Ok form → ⊥
good_header bytes e form (inl a) long good = omega (arith, a.0)
good_header bytes e form (inr a) long good = let p = a.1 in cc

one_form : (bytes : List ℕ) (f g : Form) → announced (take 24 bytes) ≡ Ok f → announced (take 24 bytes) ≡ Ok g → f ≡ g
one_form bytes f g p q = cc

pub one_reading_only : (bytes : List ℕ) (records others : List Captured) (ending other : Ending) → Reads bytes records ending → Reads bytes others other → (records ≡ others) × (ending ≡ other)
one_reading_only bytes records others ending other (inl a) (inl b) =
    (a.1 ∙ sym b.1, a.2 ∙ (ap Breaks (one_header bytes a.0 b.0 a.3 b.3) ∙ sym b.2))
one_reading_only bytes records others ending other (inl a) (inr b) = absurd (good_header bytes a.0 b.0 a.3 b.2.header b.2.form_is)
one_reading_only bytes records others ending other (inr a) (inl b) = absurd (good_header bytes b.0 a.0 b.3 a.2.header a.2.form_is)
one_reading_only bytes records others ending other (inr a) (inr b) =
    let same = one_form bytes a.0 b.0 a.2.form_is b.2.form_is in
    let zero_more : (m : ℕ) → m ≡ 0 + m = λ m. omega arith in
    one_body a.0 0 (drop 24 bytes) records others a.1 b.1 ending other a.2.records_are (subst (λ m. TailEnds a.0 m a.1 ending) (zero_more (length records)) a.2.ends)
    (subst (λ (f : Form). Begins f (drop 24 bytes) others b.1) (sym same) b.2.records_are)
    (subst (λ m. TailEnds a.0 m b.1 other) (zero_more (length others)) (subst (λ (f : Form). TailEnds f (length others) b.1 other) (sym same) b.2.ends))
