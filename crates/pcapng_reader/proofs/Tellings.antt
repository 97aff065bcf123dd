-- Each step of the reading leaves what is still to be told.
use Rattle.std.proofs.Common.{◌≡◌, ℕ, ◌+◌, ◌≤◌, List, [], ◌∷◌, ◌++◌, length, take, drop, refl, sym, ap, ◌∙◌, arith, append_assoc, append-nil, Option, None, Some}
use Rattle.std.proofs.lemmas.List.{drop-append-le}
use Rattle.pcapng_reader.specs.declared.fault.NgBreak.{NgBreak}
use Rattle.pcapng_reader.specs.declared.stage.Adds.{Adds}
use Rattle.pcapng_reader.specs.declared.stage.Adds.TheVariants.{Nothing, Section, Options, Described, Packet as Waits}
use Rattle.pcapng_reader.specs.declared.stage.Block.{Block}
use Rattle.pcapng_reader.specs.declared.stage.Stage.{Stage}
use Rattle.pcapng_reader.specs.declared.stage.Stage.TheVariants.{Between, Inside, Broken, Ended}
use Rattle.pcapng_reader.specs.Scope.{Scope}
use Rattle.pcapng_reader.specs.Blocks.{Packet, Story, before, story_at}
use Rattle.pcapng_reader.specs.Classic.{classic_header, record_header, records_text}
use Rattle.pcapng_reader.specs.Progress.{Told, behind, text_with, told_with, scope_by, waiting, story_inside, told_at, Progress, tells, AddsFit}
use Rattle.pcapng_reader.specs.Looks.{IsSettled, passed}
use Rattle.pcapng_reader.specs.Steps.{settled, finished, last_header, opened_at, passed_over, heading, closed}
use Rattle.pcapng_reader.proofs.Tales.{story_at-end}

-- what is told at a stage that is known
pub tells_at : (p : Progress) (s : Stage) (rest : List ℕ) → p.stage ≡ s → tells p rest ≡ behind p.ready (told_at s p.scope p.number p.held (p.ahead ++ rest))
unfolding tells
tells_at p s rest e = ap (λ (s : Stage). behind p.ready (told_at s p.scope p.number p.held (p.ahead ++ rest))) e

abbrev pub told : List ℕ → Option NgBreak → Told
told text broken = record { text = text; broken = broken }

-- the block before is let go
pub settled_tells : (p : Progress) (skip : ℕ) (rest : List ℕ) → p.stage ≡ Between skip → skip ≤ length p.ahead → tells (settled skip p) rest ≡ tells p rest
settled_tells p skip rest e h =
    let story : List ℕ → Story = λ input. story_at p.scope p.number input in
    let text : List ℕ → List ℕ = λ input. text_with p.scope.link (story input).packets in
    let input = drop-append-le skip p.ahead rest h in
    tells_at (settled skip p) (Between 0) rest refl
    ∙ (ap (λ (w : List ℕ). told ((p.ready ++ p.held) ++ text w) (story w).broken) (sym input)
    ∙ (ap (λ (w : List ℕ). told w (story (drop skip (p.ahead ++ rest))).broken) (append_assoc p.ready p.held (text (drop skip (p.ahead ++ rest)))) ∙ sym (tells_at p (Between skip) rest e)))

no_packets : (link : Option ℕ) → text_with link [] ≡ last_header link
no_packets None = append-nil (classic_header 1)
no_packets (Some l) = refl

-- the reading ends where no packet is left
finished_tells : (p : Progress) (ending : Stage) (broken : Option NgBreak) (rest : List ℕ) → told_at ending p.scope p.number [] (p.ahead ++ rest) ≡ told [] broken →
    tells p rest ≡ behind p.ready (told_with p.scope.link (record { packets = []; broken = broken })) → tells (finished ending p) rest ≡ tells p rest
finished_tells p ending broken rest a b =
    tells_at (finished ending p) ending rest refl
    ∙ (ap (λ (t : Told). behind (p.ready ++ last_header p.scope.link) t) a
    ∙ (ap (λ (w : List ℕ). told w broken) (append-nil (p.ready ++ last_header p.scope.link) ∙ ap (λ (w : List ℕ). p.ready ++ w) (sym (no_packets p.scope.link))) ∙ sym b))

-- what is told between blocks, where nothing is held
pub between_tells : (p : Progress) (rest : List ℕ) → p.stage ≡ Between 0 → p.held ≡ [] → tells p rest ≡ behind p.ready (told_with p.scope.link (story_at p.scope p.number (p.ahead ++ rest)))
between_tells p rest e none =
    tells_at p (Between 0) rest e
    ∙ ap (λ (w : List ℕ). behind p.ready (behind w (told_with p.scope.link (story_at p.scope p.number (p.ahead ++ rest))))) none

pub broken_between : (p : Progress) (e : NgBreak) (rest : List ℕ) → p.stage ≡ Between 0 → p.held ≡ [] → story_at p.scope p.number (p.ahead ++ rest) ≡ record { packets = []; broken = Some e } →
    tells (finished (Broken e) p) rest ≡ tells p rest
broken_between p e rest stage none h =
    finished_tells p (Broken e) (Some e) rest refl (between_tells p rest stage none ∙ ap (λ (s : Story). behind p.ready (told_with p.scope.link s)) h)

pub ended_between : (p : Progress) (rest : List ℕ) → p.stage ≡ Between 0 → p.held ≡ [] → p.ahead ≡ [] → rest ≡ [] → tells (finished Ended p) rest ≡ tells p rest
ended_between p rest stage none empty end =
    let input : p.ahead ++ rest ≡ [] = ap (λ (w : List ℕ). w ++ rest) empty ∙ end in
    let story = ap (λ (w : List ℕ). story_at p.scope p.number w) input ∙ story_at-end p.scope p.number in
    finished_tells p Ended None rest refl (between_tells p rest stage none ∙ ap (λ (s : Story). behind p.ready (told_with p.scope.link s)) story)

pub broken_inside : (p : Progress) (block : Block) (e : NgBreak) (rest : List ℕ) → p.stage ≡ Inside block → story_inside p.scope p.number block p.held (p.ahead ++ rest) ≡ record { packets = []; broken = Some e } →
    tells (finished (Broken e) p) rest ≡ tells p rest
broken_inside p block e rest stage h =
    finished_tells p (Broken e) (Some e) rest refl (tells_at p (Inside block) rest stage ∙ ap (λ (s : Story). behind p.ready (told_with p.scope.link s)) h)

-- a block was opened
pub opened_tells : (p : Progress) (block : Block) (front held : ℕ) (rest : List ℕ) → p.stage ≡ Between 0 → p.held ≡ [] → front + held ≤ length p.ahead →
    story_at p.scope p.number (p.ahead ++ rest) ≡ story_inside p.scope p.number block (take held (drop front p.ahead)) (drop (front + held) (p.ahead ++ rest)) →
    tells (opened_at front held block p) rest ≡ tells p rest
opened_tells p block front held rest stage none there h =
    let new = opened_at front held block p in
    let input = drop-append-le (front + held) p.ahead rest there in
    tells_at new (Inside block) rest refl
    ∙ (ap (λ (w : List ℕ). behind p.ready (told_with p.scope.link (story_inside p.scope p.number block (take held (drop front p.ahead)) w))) (sym input)
    ∙ (ap (λ (s : Story). behind p.ready (told_with p.scope.link s)) (sym h) ∙ sym (between_tells p rest stage none)))

-- bytes of a block were let go
pub passed_tells : (p : Progress) (block : Block) (count : ℕ) (adds : Adds) (rest : List ℕ) → p.stage ≡ Inside block → count ≤ length p.ahead →
    story_inside p.scope p.number block p.held (p.ahead ++ rest) ≡ story_inside p.scope p.number (passed block count adds) p.held (drop count (p.ahead ++ rest)) →
    tells (passed_over block count adds p) rest ≡ tells p rest
passed_tells p block count adds rest stage there h =
    let new = passed_over block count adds p in
    let input = drop-append-le count p.ahead rest there in
    tells_at new (Inside (passed block count adds)) rest refl
    ∙ (ap (λ (w : List ℕ). behind p.ready (told_with p.scope.link (story_inside p.scope p.number (passed block count adds) p.held w))) (sym input)
    ∙ (ap (λ (s : Story). behind p.ready (told_with p.scope.link s)) (sym h) ∙ sym (tells_at p (Inside block) rest stage)))

-- the packet of a block is given behind its heading
closed_text : (adds : Adds) (block : Block) (scope : Scope) (others : ℕ) (held : List ℕ) (packets : List Packet) → IsSettled adds → AddsFit adds others (length held) →
    text_with scope.link (waiting adds held ++ packets) ≡ heading adds scope.link (length held) ++ (held ++ text_with (scope_by adds block scope []).link packets)
closed_text Nothing block scope others held packets s f = ap (λ (w : List ℕ). w ++ text_with scope.link packets) (sym (no_bytes held f))
  where
    no_bytes : (xs : List ℕ) → length xs ≡ 0 → xs ≡ []
    no_bytes [] h = refl
    no_bytes (x ∷ xs) h = absurd (omega arith)
closed_text Section block scope others held packets s f = ap (λ (w : List ℕ). w ++ text_with scope.link packets) (sym (no_bytes held f))
  where
    no_bytes : (xs : List ℕ) → length xs ≡ 0 → xs ≡ []
    no_bytes [] h = refl
    no_bytes (x ∷ xs) h = absurd (omega arith)
closed_text (Options link snap) block scope others held packets s f = absurd s
closed_text (Described interface) block scope others held packets s f = ap (λ (w : List ℕ). w ++ text_with scope.link packets) (sym (no_bytes held f.1))
  where
    no_bytes : (xs : List ℕ) → length xs ≡ 0 → xs ≡ []
    no_bytes [] h = refl
    no_bytes (x ∷ xs) h = absurd (omega arith)
closed_text (Waits link nanos original) block scope others held packets s f = by_link scope.link
  where
    by_link : (first : Option ℕ) →
        text_with first (record { link = link; nanos = nanos; original = original; bytes = held } ∷ packets)
        ≡ heading (Waits link nanos original) first (length held) ++ (held ++ text_with (scope_by (Waits link nanos original) block (record { order = scope.order; interfaces = scope.interfaces; link = first }) []).link packets)
    by_link None =
        let header : List ℕ = record_header nanos (length held) original in
        ap (λ (w : List ℕ). classic_header link ++ w) (append_assoc header held (records_text packets)) ∙ sym (append_assoc (classic_header link) header (held ++ records_text packets))
    by_link (Some l) = append_assoc (record_header nanos (length held) original) held (records_text packets)

-- a block was whole
pub closed_tells : (p : Progress) (block : Block) (others : ℕ) (rest : List ℕ) → p.stage ≡ Inside block → IsSettled block.adds → AddsFit block.adds others (length p.held) →
    story_inside p.scope p.number block p.held (p.ahead ++ rest) ≡ before (waiting block.adds p.held) (story_at (scope_by block.adds block p.scope []) (p.number + 1) (drop block.rest (p.ahead ++ rest))) →
    tells (closed block p) rest ≡ tells p rest
closed_tells p block others rest stage settled fits h =
    let new = closed block p in
    let story : Story = story_at (scope_by block.adds block p.scope []) (p.number + 1) (drop block.rest (p.ahead ++ rest)) in
    let head : List ℕ = heading block.adds p.scope.link (length p.held) in
    let text = closed_text block.adds block p.scope others p.held story.packets settled fits in
    tells_at new (Between block.rest) rest refl
    ∙ (ap (λ (w : List ℕ). told w story.broken) (append_assoc p.ready head (p.held ++ text_with (scope_by block.adds block p.scope []).link story.packets) ∙ ap (λ (w : List ℕ). p.ready ++ w) (sym text))
    ∙ (ap (λ (s : Story). behind p.ready (told_with p.scope.link s)) (sym h) ∙ sym (tells_at p (Inside block) rest stage)))
