-- What is given, and how a reading begins.
use Rattle.std.proofs.Common.{◌≡◌, ◌⊎◌, inl, inr, ℕ, ◌+◌, ◌-◌, ◌≤◌, ◌<◌, ◌==◌, nat_lt, min, Bool, true, false, List, [], ◌∷◌, ◌++◌, length, take, drop, refl, sym, ap, subst, ◌∙◌, arith, append_assoc, append-nil, length-append, length-take, length-drop, take-append-drop, Option, None, Some}
use Rattle.std.proofs.lemmas.List.{drop-drop, drop-take, take-take, take_all}
use Rattle.std.proofs.lemmas.Bool.{cases_lt}
use Rattle.std.proofs.lemmas.Bool.Decides.{nat_tests}
use Rattle.pcapng_reader.specs.declared.byte_order.ByteOrder.TheVariants.{Big}
use Rattle.pcapng_reader.specs.declared.fault.NgBreak.{NgBreak}
use Rattle.pcapng_reader.specs.declared.stage.Block.{Block}
use Rattle.pcapng_reader.specs.declared.stage.Stage.{Stage}
use Rattle.pcapng_reader.specs.declared.stage.Stage.TheVariants.{Plain, Between, Inside, Broken, Ended}
use Rattle.pcapng_reader.specs.Numbers.{number_at}
use Rattle.pcapng_reader.specs.Scope.{Scope}
use Rattle.pcapng_reader.specs.Front.{is_section}
use Rattle.pcapng_reader.specs.Blocks.{Packet, Story, story_at, at_first}
use Rattle.pcapng_reader.specs.Classic.{is_pcapng}
use Rattle.pcapng_reader.specs.Progress.{Told, told_of, behind, text_with, story_inside, told_at, Progress, tells, awaits_block, waits_at, IsPrompt, StageFits, Suits}
use Rattle.pcapng_reader.specs.Stages.{kept_back, break_at}
use Rattle.pcapng_reader.specs.Steps.{fresh, hands_on_at, opened_at}
use Rattle.pcapng_reader.proofs.Places.{number_at-append}
use Rattle.pcapng_reader.proofs.Stories.{empty_of, not_below}
use Rattle.pcapng_reader.proofs.Insides.{above}
use Rattle.pcapng_reader.proofs.Tellings.{tells_at, told}

abbrev pub made : List ℕ → List ℕ → List ℕ → Stage → Scope → ℕ → Progress
made ready held ahead stage scope number = record { ready = ready; held = held; ahead = ahead; stage = stage; scope = scope; number = number }

pub same_progress : (r r' h h' a a' : List ℕ) (s : Stage) (c c' : Scope) (n n' : ℕ) → r ≡ r' → h ≡ h' → a ≡ a' → c ≡ c' → n ≡ n' → made r h a s c n ≡ made r' h' a' s c' n'
same_progress r r' h h' a a' s c c' n n' er eh ea ec en =
    ap (λ (x : List ℕ). made x h a s c n) er
    ∙ (ap (λ (x : List ℕ). made r' x a s c n) eh ∙ (ap (λ (x : List ℕ). made r' h' x s c n) ea ∙ (ap (λ (x : Scope). made r' h' a' s x n) ec ∙ ap (λ x. made r' h' a' s c' x) en)))

-- what a stage asks, of the bytes that a reading shows
pub stage_fits : (window ready : List ℕ) (held : ℕ) (stage : Stage) (scope : Scope) (n : ℕ) (p : Progress) → made ready (take held window) (drop held window) stage scope n ≡ p → Suits stage scope n (length ready) held (length window) →
    StageFits p.stage p.scope p.number (length p.ready) (length p.held) (length p.ahead)
stage_fits window ready held stage scope n p e s =
    let front : held ≡ length (take held window) = simp length-take (omega (arith, s.within)) in
    let rest : length window - held ≡ length (drop held window) = simp length-drop (omega arith) in
    subst (λ (p : Progress). StageFits p.stage p.scope p.number (length p.ready) (length p.held) (length p.ahead)) e
    (subst (λ a. StageFits stage scope n (length ready) (length (take held window)) a) rest (subst (λ h. StageFits stage scope n (length ready) h (length window - held)) front s.fits))

-- a reading that has read nothing
pub fresh_parts : (window ready : List ℕ) (held : ℕ) (stage : Stage) (scope : Scope) (n : ℕ) → made ready (take held window) (drop held window) stage scope n ≡ fresh → Suits stage scope n (length ready) held (length window) →
    (ready ≡ []) × (held ≡ 0) × (window ≡ []) × (stage ≡ Plain) × (scope ≡ at_first) × (n ≡ 0)
fresh_parts window ready held stage scope n e s =
    let plain : stage ≡ Plain = ap (λ (p : Progress). p.stage) e in
    let fits : (held ≡ 0) × (length window - held ≡ 0) = subst (λ (x : Stage). StageFits x scope n (length ready) held (length window - held)) plain s.fits in
    (ap (λ (p : Progress). p.ready) e, fits.0, empty_of window (omega (arith, fits.0, fits.1)), plain, ap (λ (p : Progress). p.scope) e, ap (λ (p : Progress). p.number) e)

-- an input that begins as pcapng
pub section_first : (first rest : List ℕ) → length first ≡ 4 → is_section first ≡ true → is_pcapng (first ++ rest) ≡ true
section_first first rest four section =
    let long : 4 ≤ length (first ++ rest) = simp length-append (omega arith) in
    let told : (number_at Big 4 0 (first ++ rest) == 0x0a0d_0d0a) ≡ true = ap (λ n. n == 0x0a0d_0d0a) (number_at-append Big 4 0 first rest (omega arith)) ∙ section in
    rw (above (length (first ++ rest)) 4 long) told

pub begins_pcapng : (first rest : List ℕ) → length first ≡ 4 → is_section first ≡ true → tells (made [] [] first (Between 0) at_first 0) rest ≡ told_of (first ++ rest)
begins_pcapng first rest four section = tells_at (made [] [] first (Between 0) at_first 0) (Between 0) rest refl ∙ rw (section_first first rest four section) refl

-- another input
pub begins_plain : (first rest : List ℕ) → length first ≤ 4 → (length first < 4 → rest ≡ []) → (length first ≡ 4 → is_section first ≡ false) → tells (made first [] [] Plain at_first 0) rest ≡ told_of (first ++ rest)
begins_plain first rest few short other = tells_at (made first [] [] Plain at_first 0) Plain rest refl ∙ rw (is_not first rest few short other) refl
  where
    is_not : (first rest : List ℕ) → length first ≤ 4 → (length first < 4 → rest ≡ []) → (length first ≡ 4 → is_section first ≡ false) → is_pcapng (first ++ rest) ≡ false
    is_not first rest few short other = by_length (nat_lt (length first) 4) refl
      where
        by_length : (b : Bool) → nat_lt (length first) 4 ≡ b → is_pcapng (first ++ rest) ≡ false
        by_length true e =
            let less : length first < 4 = grind (arith, nat_tests) in
            let all : first ++ rest ≡ first = ap (λ (w : List ℕ). first ++ w) (short less) ∙ append-nil first in
            ap (λ (w : List ℕ). is_pcapng w) all ∙ rw e refl
        by_length false e =
            let four : length first ≡ 4 = omega (arith, not_below _ _ e) in
            let long : 4 ≤ length (first ++ rest) = simp length-append (omega arith) in
            let told : (number_at Big 4 0 (first ++ rest) == 0x0a0d_0d0a) ≡ false = ap (λ n. n == 0x0a0d_0d0a) (number_at-append Big 4 0 first rest (omega arith)) ∙ other four in
            rw (above (length (first ++ rest)) 4 long) told

-- held bytes are given before what is still to be read
held_first : (stage : Stage) (scope : Scope) (n count : ℕ) (held input : List ℕ) → waits_at stage count ≡ false → told_at stage scope n held input ≡ behind held (told_at stage scope n [] input)
held_first Plain scope n count held input w = refl
held_first (Between skip) scope n count held input w = refl
held_first (Inside block) scope n count held input w = cc
held_first (Broken e) scope n count held input w = ap (λ (t : List ℕ). told t (Some e)) (sym (append-nil held))
held_first Ended scope n count held input w = ap (λ (t : List ℕ). told t None) (sym (append-nil held))

split_text : (ready held text : List ℕ) (f s : ℕ) → (s ≡ 0) ⊎ (f ≡ length ready) → ready ++ (held ++ text) ≡ (take f ready ++ take s held) ++ (drop f ready ++ (drop s held ++ text))
split_text ready held text f s (inl none) =
    let front = take-append-drop f ready in
    rw none (rw (append-nil (take f ready)) (ap (λ (w : List ℕ). w ++ (held ++ text)) (sym front) ∙ append_assoc (take f ready) (drop f ready) (held ++ text)))
split_text ready held text f s (inr all) =
    let none : drop f ready ≡ [] = empty_of (drop f ready) (simp length-drop (omega arith)) in
    let whole : take f ready ≡ ready = take_all f ready (omega arith) in
    rw (none, whole) (sym (append_assoc ready (take s held) (drop s held ++ text) ∙ ap (λ (w : List ℕ). ready ++ w) (sym (append_assoc (take s held) (drop s held) text) ∙ ap (λ (w : List ℕ). w ++ text) (take-append-drop s held))))

-- bytes were given of what is ready and held
pub gives_view : (window ready given : List ℕ) (held f s count : ℕ) (stage : Stage) (scope : Scope) (n : ℕ) (rest : List ℕ) → waits_at stage count ≡ false → s ≤ held → held ≤ length window → (s ≡ 0) ⊎ (f ≡ length ready) →
    given ≡ take f ready ++ take s window →
    tells (made ready (take held window) (drop held window) stage scope n) rest ≡ behind given (tells (made (drop f ready) (take (held - s) (drop s window)) (drop (held - s) (drop s window)) stage scope n) rest)
gives_view window ready given held f s count stage scope n rest awaits_block few there either all =
    let whole : s + (held - s) ≡ held = omega arith in
    let left : take (held - s) (drop s window) ≡ drop s (take held window) = sym (drop-take s (held - s) window) ∙ ap (λ m. drop s (take m window)) whole in
    let ahead : drop (held - s) (drop s window) ≡ drop held window = drop-drop (held - s) s window ∙ ap (λ m. drop m window) whole in
    let front : take s window ≡ take s (take held window) = sym (take-take s held window few) in
    let input : List ℕ = drop held window ++ rest in
    let t : Told = told_at stage scope n [] input in
    let old = tells_at (made ready (take held window) (drop held window) stage scope n) stage rest refl ∙ ap (λ (x : Told). behind ready x) (held_first stage scope n count (take held window) input awaits_block) in
    let new = ap (λ (w : List ℕ). tells (made (drop f ready) (take (held - s) (drop s window)) w stage scope n) rest) ahead
    ∙ (ap (λ (w : List ℕ). tells (made (drop f ready) w (drop held window) stage scope n) rest) left
    ∙ (tells_at (made (drop f ready) (drop s (take held window)) (drop held window) stage scope n) stage rest refl ∙ ap (λ (x : Told). behind (drop f ready) x) (held_first stage scope n count (drop s (take held window)) input awaits_block))) in
    old
    ∙ (ap (λ (w : List ℕ). told w t.broken) (split_text ready (take held window) t.text f s either)
    ∙ (ap (λ (w : List ℕ). told ((take f ready ++ w) ++ (drop f ready ++ (drop s (take held window) ++ t.text))) t.broken) (sym front)
    ∙ (ap (λ (w : List ℕ). told (w ++ (drop f ready ++ (drop s (take held window) ++ t.text))) t.broken) (sym all) ∙ ap (λ (x : Told). behind given x) (sym new))))

append_none : (xs ys : List ℕ) → xs ++ ys ≡ [] → (xs ≡ []) × (ys ≡ [])
append_none [] ys h = (refl, h)
append_none (x ∷ xs) ys h = cc

no_text : (link : Option ℕ) (packets : List Packet) (count : ℕ) → IsPrompt link count → count ≡ 0 → text_with link packets ≡ [] → ⊥
no_text None packets count p z h = cc
no_text (Some l) packets count p z h = omega (arith, p, z)

-- once nothing is left to be told, the first break is known, or the end
pub broken_told : (p : Progress) (rest : List ℕ) → StageFits p.stage p.scope p.number (length p.ready) (length p.held) (length p.ahead) → (tells p rest).text ≡ [] →
    (break_at p.stage ≡ (tells p rest).broken) × (break_at p.stage ≡ None → (rest ≡ []) ⊎ (p.stage ≡ Ended))
broken_told p rest fits empty = by_stage p.stage refl
  where
    by_stage : (s : Stage) → p.stage ≡ s → (break_at p.stage ≡ (tells p rest).broken) × (break_at p.stage ≡ None → (rest ≡ []) ⊎ (p.stage ≡ Ended))
    by_stage Plain e =
        let t = tells_at p Plain rest e in
        let text : p.ready ++ (p.held ++ (p.ahead ++ rest)) ≡ [] = sym (ap (λ (x : Told). x.text) t) ∙ empty in
        let none = (append_none p.ahead rest (append_none p.held (p.ahead ++ rest) (append_none p.ready _ text).1).1).1 in
        (ap break_at e ∙ sym (ap (λ (x : Told). x.broken) t), λ h. inl none)
    by_stage (Between skip) e =
        let t = tells_at p (Between skip) rest e in
        let story : Story = story_at p.scope p.number (drop skip (p.ahead ++ rest)) in
        let text : p.ready ++ (p.held ++ text_with p.scope.link story.packets) ≡ [] = sym (ap (λ (x : Told). x.text) t) ∙ empty in
        let a = append_none p.ready _ text in
        let b = append_none p.held _ a.1 in
        let la = ap length a.0 in
        let lb = ap length b.0 in
        let f = subst (λ (s : Stage). StageFits s p.scope p.number (length p.ready) (length p.held) (length p.ahead)) e fits in
        absurd (no_text p.scope.link story.packets (length p.ready + length p.held) f.2 (omega (arith, la, lb)) b.1)
    by_stage (Inside block) e =
        let t = tells_at p (Inside block) rest e in
        let story : Story = story_inside p.scope p.number block p.held (p.ahead ++ rest) in
        let text : p.ready ++ text_with p.scope.link story.packets ≡ [] = sym (ap (λ (x : Told). x.text) t) ∙ empty in
        let a = append_none p.ready _ text in
        let la = ap length a.0 in
        let f = subst (λ (s : Stage). StageFits s p.scope p.number (length p.ready) (length p.held) (length p.ahead)) e fits in
        absurd (no_text p.scope.link story.packets (length p.ready) f.1 (omega (arith, la)) a.1)
    by_stage (Broken b) e = (ap break_at e ∙ sym (ap (λ (x : Told). x.broken) (tells_at p (Broken b) rest e)), λ h. let bad = sym (ap break_at e) ∙ h in cc)
    by_stage Ended e = (ap break_at e ∙ sym (ap (λ (x : Told). x.broken) (tells_at p Ended rest e)), λ h. inr e)

pub not_broken : (s : Stage) → ((e : NgBreak) → s ≡ Broken e → ⊥) → break_at s ≡ None
not_broken (Broken e) h = absurd (h e refl)
not_broken Plain h = refl
not_broken (Between skip) h = refl
not_broken (Inside block) h = refl
not_broken Ended h = refl

-- where nothing is given, nothing is left
pub gives_none : (stage : Stage) (scope : Scope) (n room held : ℕ) (ready window ahead rest : List ℕ) → waits_at stage (length ready + held) ≡ false → hands_on_at stage ready ≡ false → min room (length ready + held - kept_back stage) ≡ 0 → 0 < room →
    (ready ≡ []) × (held ≡ 0) × ((tells (made [] [] ahead stage scope n) rest).text ≡ [])
gives_none Plain scope n room held ready window ahead rest w h z r = absurd (omega (arith, some ready h))
  where
    some : (xs : List ℕ) → (length xs == 0) ≡ false → 0 < length xs
    some xs e = grind (arith, nat_tests)
gives_none (Between skip) scope n room held ready window ahead rest w h z r = absurd (omega (arith, is_two _ w))
  where
    is_two : (count : ℕ) → nat_lt count 2 ≡ false → 2 ≤ count
    is_two count e = grind (arith, nat_tests)
gives_none (Inside block) scope n room held ready window ahead rest w h z r = cc
gives_none (Broken e) scope n room held ready window ahead rest w h z r = (empty_of ready (omega arith), omega arith, ap (λ (x : Told). x.text) (tells_at (made [] [] ahead (Broken e) scope n) (Broken e) rest refl))
gives_none Ended scope n room held ready window ahead rest w h z r = (empty_of ready (omega arith), omega arith, ap (λ (x : Told). x.text) (tells_at (made [] [] ahead Ended scope n) Ended rest refl))

-- the front of a block was read
pub open_view : (window ready : List ℕ) (h front held : ℕ) (block : Block) (stage : Stage) (scope : Scope) (n : ℕ) (p : Progress) → made ready (take h window) (drop h window) stage scope n ≡ p → p.held ≡ [] → h ≤ length window →
    made ready (take held (drop front window)) (drop held (drop front window)) (Inside block) scope n ≡ opened_at front held block p
open_view window ready h front held block stage scope n p e none there =
    let gone : take h window ≡ [] = ap (λ (p : Progress). p.held) e ∙ none in
    let long : length (take h window) ≡ h = simp length-take (omega arith) in
    let zero : h ≡ 0 = sym long ∙ ap length gone in
    let ahead : p.ahead ≡ window = sym (ap (λ (p : Progress). p.ahead) e) ∙ ap (λ m. drop m window) zero in
    same_progress ready p.ready _ (take held (drop front p.ahead)) _ (drop (front + held) p.ahead) (Inside block) scope p.scope n p.number (ap (λ (p : Progress). p.ready) e) (ap (λ (w : List ℕ). take held (drop front w)) (sym ahead))
    (drop-drop held front window ∙ ap (λ (w : List ℕ). drop (front + held) w) (sym ahead)) (ap (λ (p : Progress). p.scope) e) (ap (λ (p : Progress). p.number) e)

-- how many bytes are given of both parts
pub counts : (window ready : List ℕ) (held : ℕ) (stage : Stage) (scope : Scope) (n : ℕ) (p : Progress) (count f room : ℕ) → made ready (take held window) (drop held window) stage scope n ≡ p → Suits stage scope n (length ready) held (length window) → awaits_block p ≡ false →
    count ≡ min room (length ready + held - kept_back stage) → f ≡ min count (length ready) →
    (waits_at stage (length ready + held) ≡ false) × (length (take f ready) + length (take (count - f) window) ≡ count) × (count - f ≤ held) × ((count - f ≡ 0) ⊎ (f ≡ length ready))
counts window ready held stage scope n p count f room e s w a b =
    let front : length (take held window) ≡ held = simp length-take (omega (arith, s.within)) in
    let still : waits_at stage (length ready + held) ≡ false = subst (λ h. waits_at stage (length ready + h) ≡ false) front (subst (λ (q : Progress). awaits_block q ≡ false) (sym e) w) in
    let few : count - f ≤ held = omega arith in
    (still, simp length-take (omega (arith, few, s.within)), few, elim (cases_lt count (length ready)) [ inl less ↦ inl (omega arith) | inr more ↦ inr (omega arith) ])

-- where no bytes are held, all that was read ahead is still to be read
pub whole_window : (window ready : List ℕ) (h : ℕ) (stage : Stage) (scope : Scope) (n : ℕ) (p : Progress) → made ready (take h window) (drop h window) stage scope n ≡ p → p.held ≡ [] → h ≤ length window → window ≡ p.ahead
whole_window window ready h stage scope n p e none there =
    let gone : take h window ≡ [] = ap (λ (p : Progress). p.held) e ∙ none in
    let long : length (take h window) ≡ h = simp length-take (omega arith) in
    let zero : h ≡ 0 = sym long ∙ ap length gone in
    sym (ap (λ m. drop m window) zero) ∙ ap (λ (p : Progress). p.ahead) e

-- more bytes were read ahead
pub suits_more : (stage : Stage) (scope : Scope) (n ready held window more : ℕ) → (stage ≡ Plain → ⊥) → Suits stage scope n ready held window → window ≤ more → Suits stage scope n ready held more
suits_more stage scope n ready held window more going s a = record { within = omega (arith, s.within); limit = s.limit; fits = by_stage stage refl }
  where
    by_stage : (x : Stage) → stage ≡ x → StageFits stage scope n ready held (more - held)
    by_stage Plain e = absurd (going e)
    by_stage (Between skip) e =
        let f = subst (λ (s : Stage). StageFits s scope n ready held (window - held)) e s.fits in
        subst (λ (s : Stage). StageFits s scope n ready held (more - held)) (sym e) (omega (arith, f.0), f.1, f.2)
    by_stage (Inside block) e = subst (λ (s : Stage). StageFits s scope n ready held (more - held)) (sym e) (subst (λ (s : Stage). StageFits s scope n ready held (window - held)) e s.fits)
    by_stage (Broken b) e = subst (λ (s : Stage). StageFits s scope n ready held (more - held)) (sym e) tt
    by_stage Ended e = subst (λ (s : Stage). StageFits s scope n ready held (more - held)) (sym e) tt
