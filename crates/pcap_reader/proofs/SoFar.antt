-- A reading of a capture, call by call.
use Rattle.std.proofs.Common.{◌≡◌, inr, ℕ, List, [], ◌∷◌, ◌++◌, length, drop, refl, sym, subst, ◌∙◌, arith, length-append, Option, None, Some, IfSome}
use Rattle.std.specs.Io.KnownBytes.{IsAtEnd, prepend_known}
use Rattle.pcap_reader.specs.declared.form.Form.{Form}
use Rattle.pcap_reader.specs.declared.fault.Break.{Break}
use Rattle.pcap_reader.specs.Capture.{Captured, IsHeaderOf, Begins, TailBreaks, Ending, AtEnd, Breaks, TailEnds, Reads}
use Rattle.pcap_reader.specs.Stream.{TakesRecord, TakesHeader, SoFar}
use Rattle.pcap_reader.proofs.Records.{each_body}

-- one record more
Begins-push : (form : Form) (bytes : List ℕ) (rs : List Captured) (x y header : List ℕ) (r : Captured) → Begins form bytes rs x → IsHeaderOf form r header → x ≡ header ++ (r.bytes ++ y) → Begins form bytes (rs ++ r ∷ []) y
Begins-push form bytes [] x y header r b h e = (header, y, h, b ∙ e, refl)
Begins-push form bytes (s ∷ rs) x y header r b h e = (b.0, b.1, b.2, b.3, Begins-push form b.1 rs x y header r b.4 h e)

-- the records behind records
Begins-append : (form : Form) (bytes : List ℕ) (rs ss : List Captured) (x y : List ℕ) → Begins form bytes rs x → Begins form x ss y → Begins form bytes (rs ++ ss) y
Begins-append form bytes [] ss x y b d = subst (λ (w : List ℕ). Begins form w ss y) (sym b) d
Begins-append form bytes (r ∷ rs) ss x y b d = (b.0, b.1, b.2, b.3, Begins-append form b.1 rs ss x y b.4 d)

pub SoFar-start : (left still : Option (List ℕ)) (form : Form) → TakesHeader left still form → SoFar left form [] still
SoFar-start None still form h = tt
SoFar-start (Some xs) None form h = absurd h
SoFar-start (Some xs) (Some ys) form h = (h.0, h.1, sym h.2)

pub SoFar-push : (left before after : Option (List ℕ)) (form : Form) (rs : List Captured) (r : Captured) → SoFar left form rs before → TakesRecord form before after r → SoFar left form (rs ++ r ∷ []) after
SoFar-push None before after form rs r s t = tt
SoFar-push (Some xs) None after form rs r s t = absurd s
SoFar-push (Some xs) (Some ys) None form rs r s t = absurd t
SoFar-push (Some xs) (Some ys) (Some zs) form rs r s t = (s.0, s.1, Begins-push form (drop 24 xs) rs ys zs t.0 r s.2 t.1 t.2)

pub SoFar-end : (left before : Option (List ℕ)) (form : Form) (rs : List Captured) → SoFar left form rs before → IsAtEnd before → IfSome left (λ bytes. Reads bytes rs AtEnd)
SoFar-end None before form rs s e = tt
SoFar-end (Some xs) None form rs s e = absurd s
SoFar-end (Some xs) (Some ys) form rs s e = inr (form, ys, record { header = s.0; form_is = s.1; records_are = s.2; ends = e })

pub SoFar-break : (left before : Option (List ℕ)) (form : Form) (rs : List Captured) (n : ℕ) (e : Break) → SoFar left form rs before → IfSome before (λ tail. TailBreaks form n tail e) → n ≡ length rs → IfSome left (λ bytes. Reads bytes rs (Breaks e))
SoFar-break None before form rs n e s b same = tt
SoFar-break (Some xs) None form rs n e s b same = absurd s
SoFar-break (Some xs) (Some ys) form rs n e s b same =
    inr (form, ys, record { header = s.0; form_is = s.1; records_are = s.2; ends = subst (λ m. TailBreaks form m ys e) same b })

-- the bytes begin with these whole records
pub SoFar-begins : (left before : Option (List ℕ)) (form : Form) (rs : List Captured) → SoFar left form rs before → IfSome left (λ bytes. (more : List Captured) × (ending : Ending) × Reads bytes (rs ++ more) ending)
SoFar-begins None before form rs s = tt
SoFar-begins (Some xs) None form rs s = absurd s
SoFar-begins (Some xs) (Some ys) form rs s =
    let later = each_body form (length rs) (length ys) ys (omega arith) in (
      later.0,
      later.2,
      inr (
        form,
        later.1,
        record {
          header = s.0;
          form_is = s.1;
          records_are = Begins-append form (drop 24 xs) rs later.0 ys later.1 s.2 later.3;
          ends = subst (λ m. TailEnds form m later.1 later.2) (sym (length-append rs later.0)) later.4;
        },
      ),
    )

-- the source has nothing left where nothing is to come
pub left_at_end : (left : Option (List ℕ)) (ahead : List ℕ) → IsAtEnd (prepend_known ahead left) → IsAtEnd left
left_at_end None ahead e = tt
left_at_end (Some xs) ahead e = no_more ahead xs e
  where
    no_more : (bs xs : List ℕ) → bs ++ xs ≡ [] → xs ≡ []
    no_more [] xs e = e
    no_more (b ∷ bs) xs e = cc
