-- What a core does with a bucket goes on fitting its task.
use Rattle.std.proofs.Common.{◌≡◌, ℕ, zero, suc, ◌+◌, ◌<◌, List, [], ◌∷◌, ◌++◌, length, Bool, true, false, if◌then◌else◌, refl, sym, ap, ◌∙◌, subst, arith}
use Rattle.indirection.proofs.Tests.{by_test}
use Rattle.handover_core.specs.declared.item.Kind.TheVariants.{First, Next, Mark}
use Rattle.handover_core.specs.State.{Hand, Away, Waiting, Held, Leaving}
use Rattle.handover_core.specs.Dispatch.{kind_at}
use Rattle.handover_core.specs.Machine.{met, leave}
use Rattle.handover_core.specs.Bucket.{Piece, piece, nexts, opening, places_from, Task, Idle, Awaits, Works, Finishes, Fits}
use Rattle.handover_core.proofs.Pieces.{nexts-push, opening-push, places_from-push, length-places_from}

-- an item is taken

TakesFitting : Task → Bool → Hand → Piece → List Piece → Type 0
TakesFitting r e h x rest = Fits r e (met h x.kind x.place) rest

away-take : (s k : ℕ) (e : Bool) (x : Piece) (rest : List Piece) (n : ℕ) → s + n ≡ k → x ∷ rest ≡ opening s n → Fits (Awaits s k) e (met Away x.kind x.place) rest
away-take s k e x rest zero a q = absurd (cc)
away-take s k e x rest (suc n) a q =
    let kx : piece First s ≡ x = cc in
    let r : rest ≡ nexts (s + 1) n = cc in
    subst (λ (x : Piece). Fits (Awaits s k) e (met Away x.kind x.place) rest) kx (1, n, omega arith, omega arith, refl, r)

waiting-take : (s k : ℕ) (e : Bool) (ps : List ℕ) (x : Piece) (rest : List Piece) (j n : ℕ) → 0 < j → s + j + n ≡ k → ps ≡ places_from s j → x ∷ rest ≡ nexts (s + j) n → Fits (Awaits s k) e (met (Waiting ps) x.kind x.place) rest
waiting-take s k e ps x rest j zero l a p q = absurd (cc)
waiting-take s k e ps x rest j (suc n) l a p q =
    let kx : piece Next (s + j) ≡ x = cc in
    let r : rest ≡ nexts (s + j + 1) n = cc in
    let m : s + j + 1 ≡ s + suc j = omega arith in
    let f : ps ++ (s + j) ∷ [] ≡ places_from s (suc j) = ap (λ (z : List ℕ). z ++ (s + j) ∷ []) p ∙ places_from-push s j in
    subst (λ (x : Piece). Fits (Awaits s k) e (met (Waiting ps) x.kind x.place) rest) kx (suc j, n, omega arith, omega arith, f, r ∙ ap (λ (z : ℕ). nexts z n) m)

works-take : (a top : ℕ) (e : Bool) (start done : ℕ) (x : Piece) (rest : List Piece) (n : ℕ) → start ≡ a → a < done → done + n ≡ top → x ∷ rest ≡ nexts done n → e ≡ false → Fits (Works a top) e (met (Held start done) x.kind x.place) rest
works-take a top e start done x rest zero i l d q o = absurd (cc)
works-take a top e start done x rest (suc n) i l d q o =
    let kx : piece Next done ≡ x = cc in
    let r : rest ≡ nexts (done + 1) n = cc in
    subst (λ (x : Piece). Fits (Works a top) e (met (Held start done) x.kind x.place) rest) kx (n, i, omega arith, omega arith, r, o)

finishes-take : (a top : ℕ) (e : Bool) (start done : ℕ) (x : Piece) (rest : List Piece) (n : ℕ) → start ≡ a → a < done → done + n ≡ top → x ∷ rest ≡ nexts done n ++ piece Mark top ∷ [] → e ≡ false → Fits (Finishes a top) e (met (Held start done) x.kind x.place) rest
finishes-take a top e start done x rest zero i l d q o =
    let kx : piece Mark top ≡ x = cc in
    let r : rest ≡ [] = cc in
    subst (λ (x : Piece). Fits (Finishes a top) e (met (Held start done) x.kind x.place) rest) kx (i, l, omega arith, r)
finishes-take a top e start done x rest (suc n) i l d q o =
    let kx : piece Next done ≡ x = cc in
    let r : rest ≡ nexts (done + 1) n ++ piece Mark top ∷ [] = cc in
    subst (λ (x : Piece). Fits (Finishes a top) e (met (Held start done) x.kind x.place) rest) kx (n, i, omega arith, omega arith, r, o)

pub fits-take : (r : Task) (e : Bool) (h : Hand) (x : Piece) (rest : List Piece) → Fits r e h (x ∷ rest) → Fits r e (met h x.kind x.place) rest
fits-take Idle e Away x rest f = absurd (cc)
fits-take Idle e (Waiting ps) x rest f = absurd f
fits-take Idle e (Held a d) x rest f = absurd f
fits-take Idle e (Leaving a d) x rest f = absurd f
fits-take (Awaits s k) e Away x rest f = away-take s k e x rest f.0 f.1 f.2
fits-take (Awaits s k) e (Waiting ps) x rest f = waiting-take s k e ps x rest f.0 f.1 f.2 f.3 f.4 f.5
fits-take (Awaits s k) e (Held a d) x rest f = absurd f
fits-take (Awaits s k) e (Leaving a d) x rest f = absurd f
fits-take (Works s k) e Away x rest f = absurd f
fits-take (Works s k) e (Waiting ps) x rest f = absurd f
fits-take (Works s k) e (Held a d) x rest f = works-take s k e a d x rest f.0 f.1 f.2 f.3 f.4 f.5
fits-take (Works s k) e (Leaving a d) x rest f = let q = f.3 in absurd (cc)
fits-take (Finishes s k) e Away x rest f = absurd f
fits-take (Finishes s k) e (Waiting ps) x rest f = absurd f
fits-take (Finishes s k) e (Held a d) x rest f = finishes-take s k e a d x rest f.0 f.1 f.2 f.3 f.4 f.5
fits-take (Finishes s k) e (Leaving a d) x rest f = let q = f.3 in absurd (cc)

-- End is taken, with nothing of the bucket behind it

works-end : (a top start done : ℕ) (n : ℕ) → start ≡ a → a < done → done + n ≡ top → [] ≡ nexts done n → Fits (Works a top) true (Leaving start done) []
works-end a top start done zero i l d q = (i, l, omega arith, refl, refl)
works-end a top start done (suc n) i l d q = absurd (cc)

finishes-end : (top done n : ℕ) → [] ≡ nexts done n ++ piece Mark top ∷ [] → ⊥
finishes-end top done zero q = cc
finishes-end top done (suc n) q = cc

pub fits-end : (r : Task) (e : Bool) (h : Hand) → Fits r e h [] → Fits r true (leave h) []
fits-end Idle e Away f = f
fits-end Idle e (Waiting ps) f = absurd f
fits-end Idle e (Held a d) f = absurd f
fits-end Idle e (Leaving a d) f = absurd f
fits-end (Awaits s k) e Away f = f
fits-end (Awaits s k) e (Waiting ps) f = f
fits-end (Awaits s k) e (Held a d) f = absurd f
fits-end (Awaits s k) e (Leaving a d) f = absurd f
fits-end (Works s k) e Away f = absurd f
fits-end (Works s k) e (Waiting ps) f = absurd f
fits-end (Works s k) e (Held a d) f = works-end s k a d f.0 f.1 f.2 f.3 f.4
fits-end (Works s k) e (Leaving a d) f = (f.0, f.1, f.2, f.3, refl)
fits-end (Finishes s k) e Away f = absurd f
fits-end (Finishes s k) e (Waiting ps) f = absurd f
fits-end (Finishes s k) e (Held a d) f = absurd (finishes-end k d f.0 f.4)
fits-end (Finishes s k) e (Leaving a d) f = f

-- a packet is sent to the owner

opening-send : (s k n : ℕ) → s + n ≡ k → opening s n ++ piece (kind_at s k) k ∷ [] ≡ opening s (suc n)
opening-send s k zero a = by_test k s (λ t. opening s zero ++ piece (if t then First else Next) k ∷ [] ≡ opening s 1) (λ e. ap (λ (z : ℕ). piece First z ∷ []) e) (λ ne. absurd (ne (omega arith)))
opening-send s k (suc n) a = by_test k s (λ t. opening s (suc n) ++ piece (if t then First else Next) k ∷ [] ≡ opening s (suc (suc n))) (λ e. absurd (omega arith))
    (λ ne. ap (λ (z : ℕ). opening s (suc n) ++ piece Next z ∷ []) (sym a) ∙ opening-push s n)

nexts-send : (s k d n : ℕ) → s < d → d + n ≡ k → nexts d n ++ piece (kind_at s k) k ∷ [] ≡ nexts d (suc n)
nexts-send s k d n l a = by_test k s (λ t. nexts d n ++ piece (if t then First else Next) k ∷ [] ≡ nexts d (suc n)) (λ e. absurd (omega arith))
    (λ ne. ap (λ (z : ℕ). nexts d n ++ piece Next z ∷ []) (sym a) ∙ nexts-push d n)

pub awaits-send : (s k : ℕ) (e : Bool) (h : Hand) (q : List Piece) → Fits (Awaits s k) e h q → Fits (Awaits s (k + 1)) e h (q ++ piece (kind_at s k) k ∷ [])
awaits-send s k e Away q f = let a = f.1 in (suc f.0, omega arith, ap (λ (z : List Piece). z ++ piece (kind_at s k) k ∷ []) f.2 ∙ opening-send s k f.0 f.1)
awaits-send s k e (Waiting ps) q f =
    let a = f.3 in let l = f.2 in
    (f.0, suc f.1, f.2, omega arith, f.4, ap (λ (z : List Piece). z ++ piece (kind_at s k) k ∷ []) f.5 ∙ nexts-send s k (s + f.0) f.1 (omega arith) f.3)
awaits-send s k e (Held a d) q f = absurd f
awaits-send s k e (Leaving a d) q f = absurd f

pub works-send : (s k : ℕ) (e : Bool) (h : Hand) (q : List Piece) → e ≡ false → Fits (Works s k) e h q → Fits (Works s (k + 1)) e h (q ++ piece (kind_at s k) k ∷ [])
works-send s k e Away q o f = absurd f
works-send s k e (Waiting ps) q o f = absurd f
works-send s k e (Held a d) q o f =
    let b = f.3 in
    (suc f.0, f.1, f.2, omega arith, ap (λ (z : List Piece). z ++ piece (kind_at s k) k ∷ []) f.4 ∙ nexts-send s k d f.0 f.2 f.3, o)
works-send s k e (Leaving a d) q o f = let t = f.4 in absurd (cc)

-- a mark is sent to the owner

pub works-mark : (s k : ℕ) (e : Bool) (h : Hand) (q : List Piece) → e ≡ false → Fits (Works s k) e h q → Fits (Finishes s k) e h (q ++ piece Mark k ∷ [])
works-mark s k e Away q o f = absurd f
works-mark s k e (Waiting ps) q o f = absurd f
works-mark s k e (Held a d) q o f = (f.0, f.1, f.2, f.3, ap (λ (z : List Piece). z ++ piece Mark k ∷ []) f.4, o)
works-mark s k e (Leaving a d) q o f = let t = f.4 in absurd (cc)

-- what waits is claimed

nexts-none : (d n : ℕ) → nexts d n ≡ [] → n ≡ 0
nexts-none d zero q = refl
nexts-none d (suc n) q = absurd (cc)

pub awaits-claim : (s k : ℕ) (e : Bool) (places : List ℕ) (q : List Piece) → Fits (Awaits s k) e (Waiting places) q → (e ≡ true → q ≡ []) → Fits (Works s k) e (if e then Leaving s (s + length places) else Held s (s + length places)) q
awaits-claim s k true places q f none =
    let n : length places ≡ f.0 = ap (λ (z : List ℕ). length z) f.4 ∙ length-places_from s f.0 in
    let z : f.1 ≡ 0 = nexts-none (s + f.0) f.1 (sym f.5 ∙ none refl) in
    let l = f.2 in let a = f.3 in
    (refl, omega arith, omega arith, none refl, refl)
awaits-claim s k false places q f none =
    let n : length places ≡ f.0 = ap (λ (z : List ℕ). length z) f.4 ∙ length-places_from s f.0 in
    let l = f.2 in let a = f.3 in
    (f.1, refl, omega arith, omega arith, f.5 ∙ ap (λ (z : ℕ). nexts (s + z) f.1) (sym n), refl)

-- a core that has nothing to do with the bucket

pub idle-awaits : (s k : ℕ) (e : Bool) (h : Hand) (q : List Piece) → s ≡ k → Fits Idle e h q → Fits (Awaits s k) e h q
idle-awaits s k e Away q i f = (0, omega arith, f)
idle-awaits s k e (Waiting ps) q i f = absurd f
idle-awaits s k e (Held a d) q i f = absurd f
idle-awaits s k e (Leaving a d) q i f = absurd f

opening-none : (s k n : ℕ) → s + n ≡ k → k ≡ 0 → opening s n ≡ []
opening-none s k zero a z = refl
opening-none s k (suc n) a z = absurd (omega arith)

pub awaits-none : (s k : ℕ) (e : Bool) (h : Hand) (q : List Piece) → k ≡ 0 → Fits (Awaits s k) e h q → Fits Idle e h q
awaits-none s k e Away q z f = f.2 ∙ opening-none s k f.0 f.1 z
awaits-none s k e (Waiting ps) q z f = let a = f.2 in let b = f.3 in absurd (omega arith)
awaits-none s k e (Held a d) q z f = absurd f
awaits-none s k e (Leaving a d) q z f = absurd f

first-place : (s first j : ℕ) (rest : List ℕ) → 0 < j → first ∷ rest ≡ places_from s j → first ≡ s
first-place s first zero rest l q = absurd (omega arith)
first-place s first (suc j) rest l q = cc

pub awaits-first : (s k : ℕ) (e : Bool) (first : ℕ) (rest : List ℕ) (q : List Piece) → Fits (Awaits s k) e (Waiting (first ∷ rest)) q → (first ≡ s) × (s < k)
awaits-first s k e first rest q f = let a = f.2 in let b = f.3 in (first-place s first f.0 rest f.2 f.4, omega arith)
