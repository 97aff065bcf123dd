-- What is told over a source that may not tell its bytes.
use Rattle.std.proofs.Common.{◌≡◌, ◌⊎◌, inl, inr, ℕ, ◌≤◌, ◌<◌, lit≤, ◌==◌, Bool, true, false, List, [], ◌++◌, length, take, refl, sym, ap, ◌∙◌, arith, append_assoc, Option, None, Some, Result, Ok, Err, IfOk}
use Rattle.std.proofs.lemmas.Bool.Decides.{nat_tests}
use Rattle.std.specs.Io.KnownBytes.{Consumes, Keeps, IsAtEnd, ReadConsumes}
use Rattle.pcapng_reader.specs.declared.fault.NgBreak.{NgBreak}
use Rattle.pcapng_reader.specs.declared.stage.Stage.{Stage}
use Rattle.pcapng_reader.specs.declared.stage.Stage.TheVariants.{Plain, Between, Inside, Broken, Ended}
use Rattle.pcapng_reader.specs.Classic.{is_pcapng, break_of}
use Rattle.pcapng_reader.specs.Progress.{Told, told_of, behind, told_at, Progress, tells, known, text_known, StaysTold, GivesTold}
use Rattle.pcapng_reader.specs.Stages.{break_at}
use Rattle.pcapng_reader.specs.Steps.{hands_on, Stands}
use Rattle.pcapng_reader.specs.Lent.{classic_known, told_known, TakesUpToFour, HandsOn, SameBreak}
use Rattle.pcapng_reader.proofs.Stories.{empty_of}
use Rattle.pcapng_reader.proofs.Tellings.{tells_at}

pub stays_refl : (a : Option Told) → StaysTold a a
stays_refl None = tt
stays_refl (Some t) = refl

pub stays_trans : (a b c : Option Told) → StaysTold a b → StaysTold b c → StaysTold a c
stays_trans None b c p q = tt
stays_trans (Some t) None c p q = absurd p
stays_trans (Some t) (Some u) None p q = absurd q
stays_trans (Some t) (Some u) (Some v) p q = q ∙ p

-- a step tells the same
pub step_stays : (old new : Progress) (ended lacks : Bool) (left : Option (List ℕ)) → Stands old new ended lacks → (ended ≡ true → IsAtEnd left) → StaysTold (known old left) (known new left)
step_stays old new ended lacks None s end = tt
step_stays old new ended lacks (Some rest) s end = s.kept rest end

-- bytes that are read ahead are still to be told
pub pull_stays : (p : Progress) (a b : Option (List ℕ)) (piece : List ℕ) → Consumes a b piece → StaysTold (known p a) (known (record p { ahead = p.ahead ++ piece }) b)
unfolding tells
pull_stays p None b piece h = tt
pull_stays p (Some x) None piece h = absurd h
pull_stays p (Some x) (Some y) piece h =
    ap (λ (w : List ℕ). behind p.ready (told_at p.stage p.scope p.number p.held w)) (append_assoc p.ahead piece y ∙ ap (λ (w : List ℕ). p.ahead ++ w) (sym h))

pub keeps_stays : (p : Progress) (a b : Option (List ℕ)) → Keeps a b → StaysTold (known p a) (known p b)
keeps_stays p None b h = tt
keeps_stays p (Some x) None h = absurd h
keeps_stays p (Some x) (Some y) h = ap (λ (w : List ℕ). tells p w) h

-- what is ready was given
pub give_known : (old new : Progress) (left : Option (List ℕ)) (given : List ℕ) → ((rest : List ℕ) → tells old rest ≡ behind given (tells new rest)) → GivesTold (known old left) (known new left) given
give_known old new None given h = tt
give_known old new (Some rest) given h = h rest

pub stays_gives : (a b c : Option Told) (given : List ℕ) → StaysTold a b → GivesTold b c given → GivesTold a c given
stays_gives None b c given p q = tt
stays_gives (Some t) None c given p q = absurd p
stays_gives (Some t) (Some u) None given p q = absurd q
stays_gives (Some t) (Some u) (Some v) given p q = sym p ∙ q

-- bytes that are handed on
pub hands_on_is : (p : Progress) → hands_on p ≡ true → (p.stage ≡ Plain) × (p.ready ≡ [])
hands_on_is p h = by_stage p.stage refl
  where
    by_stage : (s : Stage) → p.stage ≡ s → (p.stage ≡ Plain) × (p.ready ≡ [])
    by_stage Plain e =
        let none : (length p.ready == 0) ≡ true = rw e at h in
        let zero : length p.ready ≡ 0 = grind (arith, nat_tests) in
        (e, empty_of p.ready (omega (arith, zero)))
    by_stage (Between skip) e = let bad = rw e at h in cc
    by_stage (Inside block) e = let bad = rw e at h in cc
    by_stage (Broken b) e = let bad = rw e at h in cc
    by_stage Ended e = let bad = rw e at h in cc

-- bytes of an input that isn't pcapng, behind those that are ready
ready_tells : (p : Progress) (rest : List ℕ) → p.stage ≡ Plain → p.held ≡ [] → p.ahead ≡ [] → tells p rest ≡ record { text = p.ready ++ rest; broken = None }
ready_tells p rest plain held ahead =
    tells_at p Plain rest plain
    ∙ (ap (λ (w : List ℕ). record { text = p.ready ++ (w ++ (p.ahead ++ rest)); broken = None }) held ∙ ap (λ (w : List ℕ). record { text = p.ready ++ (w ++ rest); broken = None }) ahead)

plain_tells : (p : Progress) (rest : List ℕ) → hands_on p ≡ true → p.held ≡ [] → p.ahead ≡ [] → tells p rest ≡ record { text = rest; broken = None }
plain_tells p rest h held ahead =
    let is = hands_on_is p h in
    ready_tells p rest is.0 held ahead ∙ ap (λ (w : List ℕ). record { text = w ++ rest; broken = None }) is.1

pub hands_known : (p : Progress) (a b : Option (List ℕ)) (piece : List ℕ) → hands_on p ≡ true → p.held ≡ [] → p.ahead ≡ [] → Consumes a b piece → GivesTold (known p a) (known p b) piece
hands_known p None b piece h held ahead r = tt
hands_known p (Some x) None piece h held ahead r = absurd r
hands_known p (Some x) (Some y) piece h held ahead r =
    plain_tells p x h held ahead ∙ (ap (λ (w : List ℕ). record { text = w; broken = None }) r ∙ ap (behind piece) (sym (plain_tells p y h held ahead)))

pub hands_end : (p : Progress) (b : Option (List ℕ)) → hands_on p ≡ true → p.held ≡ [] → p.ahead ≡ [] → IsAtEnd b → IsAtEnd (text_known (known p b))
hands_end p None h held ahead end = tt
hands_end p (Some y) h held ahead end = ap (λ (t : Told). t.text) (plain_tells p y h held ahead) ∙ end

pub none_known : (p : Progress) (left : Option (List ℕ)) → ((rest : List ℕ) → (tells p rest).text ≡ []) → IsAtEnd (text_known (known p left))
none_known p None h = tt
none_known p (Some rest) h = h rest

-- what was told at the beginning is still to be told
pub begin_known : (p : Progress) (a b : Option (List ℕ)) (first : List ℕ) → Consumes a b first → (length first < 4 → IsAtEnd b) → ((rest : List ℕ) → (length first < 4 → rest ≡ []) → tells p rest ≡ told_of (first ++ rest)) →
    StaysTold (told_known a) (known p b)
begin_known p None b first r end h = tt
begin_known p (Some x) None first r end h = absurd r
begin_known p (Some x) (Some y) first r end h = h y end ∙ ap told_of (sym r)

-- an input that isn't pcapng is handed on from its beginning
pub begin_plain : (p : Progress) (a b : Option (List ℕ)) (first : List ℕ) → Consumes a b first → (length first < 4 → IsAtEnd b) →
    ((rest : List ℕ) → (length first < 4 → rest ≡ []) → is_pcapng (first ++ rest) ≡ false → (p.stage ≡ Plain) × (length p.ready ≤ 4)) → HandsOn p a
begin_plain p None b first r end h = tt
begin_plain p (Some x) None first r end h = absurd r
begin_plain p (Some x) (Some y) first r end h = λ other. h y end (ap is_pcapng (sym r) ∙ other)

-- and stays so
pub plain_stays : (old new : Progress) (begun : Option (List ℕ)) → HandsOn old begun → (old.stage ≡ Plain → (new.stage ≡ Plain) × (length new.ready ≤ length old.ready)) → HandsOn new begun
plain_stays old new None h s = tt
plain_stays old new (Some bytes) h s = λ other.
    let was = h other in
    let is = s was.0 in
    (is.0, omega (arith, was.1, is.1))

-- and only its ready bytes are still to be given before those of its source
pub plain_takes : (p : Progress) (begun left : Option (List ℕ)) (bytes : List ℕ) → HandsOn p begun → begun ≡ Some bytes → is_pcapng bytes ≡ false → (p.stage ≡ Plain → (p.held ≡ []) × (p.ahead ≡ [])) →
    TakesUpToFour (text_known (known p left)) left
plain_takes p None left bytes h e other none = cc
plain_takes p (Some x) None bytes h e other none = ([], lit≤ tt, tt)
plain_takes p (Some x) (Some rest) bytes h e other none =
    let same : x ≡ bytes = cc in
    let is = h (ap is_pcapng same ∙ other) in
    let nothing = none is.0 in
    (p.ready, is.1, ap (λ (t : Told). t.text) (ready_tells p rest is.0 nothing.0 nothing.1))

pub classic_keeps : (a : Option (List ℕ)) (t : Option Told) → StaysTold (told_known a) t → Keeps (classic_known a) (text_known t)
classic_keeps None t h = tt
classic_keeps (Some x) None h = absurd h
classic_keeps (Some x) (Some t) h = ap (λ (u : Told). u.text) h

pub stays_breaks : (a b c : Option Told) → SameBreak a b → StaysTold b c → SameBreak a c
stays_breaks None b c p q = tt
stays_breaks (Some t) None c p q = absurd p
stays_breaks (Some t) (Some u) None p q = absurd q
stays_breaks (Some t) (Some u) (Some v) p q = ap (λ (x : Told). x.broken) q ∙ p

pub gives_breaks : (a b c : Option Told) (given : List ℕ) → SameBreak a b → GivesTold b c given → SameBreak a c
gives_breaks None b c given p q = tt
gives_breaks (Some t) None c given p q = absurd p
gives_breaks (Some t) (Some u) None given p q = absurd q
gives_breaks (Some t) (Some u) (Some v) given p q = sym (ap (λ (x : Told). x.broken) q) ∙ p

pub begins_breaks : (a t : Option Told) → StaysTold a t → SameBreak a t
begins_breaks None t h = tt
begins_breaks (Some x) None h = absurd h
begins_breaks (Some x) (Some t) h = ap (λ (u : Told). u.broken) h

pub gives_consumes : (a b : Option Told) (given : List ℕ) → GivesTold a b given → Consumes (text_known a) (text_known b) given
gives_consumes None b given h = tt
gives_consumes (Some t) None given h = absurd h
gives_consumes (Some t) (Some u) given h = ap (λ (x : Told). x.text) h

pub stays_keeps : (a b : Option Told) → StaysTold a b → Keeps (text_known a) (text_known b)
stays_keeps None b h = tt
stays_keeps (Some t) None h = absurd h
stays_keeps (Some t) (Some u) h = ap (λ (x : Told). x.text) h

found_stage : (s : Stage) (e : NgBreak) → break_at s ≡ Some e → s ≡ Broken e
found_stage (Broken x) e h = cc
found_stage Plain e h = cc
found_stage (Between skip) e h = cc
found_stage (Inside block) e h = cc
found_stage Ended e h = cc

-- a break that was found is the first one
pub found_known : (p : Progress) (begun left : Option (List ℕ)) (bytes : List ℕ) (e : NgBreak) → SameBreak (told_known begun) (known p left) → begun ≡ Some bytes → break_at p.stage ≡ Some e → break_of bytes ≡ Some e
found_known p None left bytes e s b h = cc
found_known p (Some x) None bytes e s b h = absurd s
found_known p (Some x) (Some rest) bytes e s b h =
    let same : x ≡ bytes = cc in
    let told = ap (λ (t : Told). t.broken) (tells_at p (Broken e) rest (found_stage p.stage e h)) in
    sym (s ∙ ap break_of same) ∙ told

-- the first break, once nothing is left
pub broken_known : (p : Progress) (begun left : Option (List ℕ)) (bytes : List ℕ) (found : Option NgBreak) → SameBreak (told_known begun) (known p left) → begun ≡ Some bytes → IsAtEnd (text_known (known p left)) →
    ((rest : List ℕ) → (tells p rest).text ≡ [] → (found ≡ (tells p rest).broken) × (found ≡ None → (rest ≡ []) ⊎ (p.stage ≡ Ended))) → found ≡ break_of bytes
broken_known p None left bytes found s e t h = cc
broken_known p (Some x) None bytes found s e t h = absurd s
broken_known p (Some x) (Some rest) bytes found s e t h =
    let same : x ≡ bytes = cc in
    (h rest t).0 ∙ (s ∙ ap break_of same)

pub none_left : (p : Progress) (left : Option (List ℕ)) (found : Option NgBreak) → (p.stage ≡ Ended → IsAtEnd left) → IsAtEnd (text_known (known p left)) →
    ((rest : List ℕ) → (tells p rest).text ≡ [] → (found ≡ (tells p rest).broken) × (found ≡ None → (rest ≡ []) ⊎ (p.stage ≡ Ended))) → found ≡ None → IsAtEnd left
none_left p None found over t h n = tt
none_left p (Some rest) found over t h n = elim ((h rest t).1 n) [ inl none ↦ none | inr ended ↦ over ended ]

pub consumes_trans : (a b c : Option (List ℕ)) (bs cs : List ℕ) → Consumes a b bs → Consumes b c cs → Consumes a c (bs ++ cs)
consumes_trans None b c bs cs p q = tt
consumes_trans (Some x) None c bs cs p q = absurd p
consumes_trans (Some x) (Some y) None bs cs p q = absurd q
consumes_trans (Some x) (Some y) (Some z) bs cs p q = p ∙ (ap (λ (l : List ℕ). bs ++ l) q ∙ sym (append_assoc bs cs z))

-- what a read gives where bytes are handed on
pub hands_given : {F : Type 0} (r : Result ℕ F) (p q : Progress) (a b now : Option (List ℕ)) (into : List ℕ) → StaysTold (known p a) (known q b) → hands_on q ≡ true → q.held ≡ [] → q.ahead ≡ [] → ReadConsumes b now r into →
    IfOk r (λ n. GivesTold (known p a) (known q now) (take n into))
hands_given (Ok n) p q a b now into s h held ahead r = stays_gives (known p a) (known q b) (known q now) (take n into) s (hands_known q b now (take n into) h held ahead r.0)
hands_given (Err f) p q a b now into s h held ahead r = tt

pub hands_none : {F : Type 0} (r : Result ℕ F) (q : Progress) (b now : Option (List ℕ)) (into : List ℕ) → hands_on q ≡ true → q.held ≡ [] → q.ahead ≡ [] → ReadConsumes b now r into →
    IfOk r (λ n. n ≡ 0 → 0 < length into → IsAtEnd (text_known (known q now)))
hands_none (Ok n) q b now into h held ahead r = λ zero some. hands_end q now h held ahead (r.1 zero some)
hands_none (Err f) q b now into h held ahead r = tt
