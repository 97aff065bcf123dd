-- Each event keeps the counts of cells, moves and stints.
use Rattle.std.proofs.Common.{◌≡◌, ℕ, ◌+◌, ◌*◌, ◌<◌, List, [], ◌∷◌, ◌++◌, length, map, get_or, set, Bool, if◌then◌else◌, ◌==◌, refl, sym, ap, ◌∙◌, arith, length-append, eq-eqb, ne_eqb}
use Rattle.std.proofs.lemmas.List.Sums.{sum_by-set, sum_by-append, sum_by-cons}
use Rattle.std.proofs.lemmas.Bool.{lt-ltb, le-ltb}
use Rattle.std.specs.Prelude.{count_by, sum_by, not, nat_lt}
use Rattle.indirection.proofs.Tests.{by_test}
use Rattle.handover_core.specs.declared.item.Kind.{Kind}
use Rattle.handover_core.specs.declared.item.Kind.TheVariants.{First, Next, Mark}
use Rattle.handover_core.specs.declared.item.Item.{Item}
use Rattle.handover_core.specs.declared.item.Item.TheVariants.{Of, End}
use Rattle.handover_core.specs.Dispatch.{kind_at}
use Rattle.handover_core.specs.declared.post.Post.{Post}
use Rattle.handover_core.specs.State.{Hand, Away, Waiting, Held, Leaving, CoreState, MachineView, blank_bucket, blank_core, bucket_at, core_at}
use Rattle.handover_core.specs.declared.bucket_state.BucketState.{BucketState}
use Rattle.handover_core.specs.Machine.{is_end, met, freed, leave, waiting_places}
use Rattle.handover_core.specs.Sound.{cells_in, is_mark_item, due}

-- the cells of a list of items
pub cells_of : List Item → ℕ
cells_of xs = count_by (λ x. not (is_end x)) xs

unfoldable pub waiting_in : List Hand → ℕ
waiting_in hs = sum_by (λ h. length (waiting_places h)) hs

pub cells-split : (s : CoreState) → cells_in s ≡ cells_of s.queue + waiting_in s.hands
unfolding cells_of waiting_in
cells-split s = refl

pub cells-nothing : cells_of [] ≡ 0
unfolding cells_of
cells-nothing = refl

pub cells-push_item : (xs : List Item) (kind : Kind) (b place : ℕ) → cells_of (xs ++ Of kind b place ∷ []) ≡ cells_of xs + 1
unfolding cells_of
cells-push_item xs kind b place = let e = sum_by-append (λ (x : Item). if not (is_end x) then 1 else 0) xs (Of kind b place ∷ []) in e ∙ omega arith

pub cells-push_end : (xs : List Item) → cells_of (xs ++ End ∷ []) ≡ cells_of xs
unfolding cells_of
cells-push_end xs = let e = sum_by-append (λ (x : Item). if not (is_end x) then 1 else 0) xs (End ∷ []) in e ∙ omega arith

pub cells-item : (kind : Kind) (b place : ℕ) (xs : List Item) → cells_of (Of kind b place ∷ xs) ≡ 1 + cells_of xs
unfolding cells_of
cells-item kind b place xs = sum_by-cons (λ (x : Item). if not (is_end x) then 1 else 0) (Of kind b place) xs

pub cells-end : (xs : List Item) → cells_of (End ∷ xs) ≡ cells_of xs
unfolding cells_of
cells-end xs = sum_by-cons (λ (x : Item). if not (is_end x) then 1 else 0) End xs ∙ omega arith

-- the cells of all cores, where one core was changed
pub cells-set : (m : MachineView) (c : ℕ) (s : CoreState) → c < length m.cores → sum_by cells_in (set m.cores c s) + cells_in (core_at m c) ≡ sum_by cells_in m.cores + cells_in s
cells-set m c s l = sum_by-set cells_in m.cores c s blank_core l

-- where one hand was changed
pub waiting-set : (hs : List Hand) (b : ℕ) (h : Hand) → b < length hs → waiting_in (set hs b h) + length (waiting_places (get_or hs b Away)) ≡ waiting_in hs + length (waiting_places h)
unfolding waiting_in
waiting-set hs b h l = sum_by-set (λ (h : Hand). length (waiting_places h)) hs b h Away l

waiting_places-leave : (h : Hand) → length (waiting_places (leave h)) ≡ length (waiting_places h)
waiting_places-leave Away = refl
waiting_places-leave (Waiting places) = refl
waiting_places-leave (Held a d) = refl
waiting_places-leave (Leaving a d) = refl

pub waiting-leave : (hs : List Hand) → waiting_in (map leave hs) ≡ waiting_in hs
unfolding waiting_in
waiting-leave [] = refl
waiting-leave (h ∷ hs) =
    sum_by-cons (λ (h : Hand). length (waiting_places h)) (leave h) (map leave hs)
    ∙ (ap (λ (n : ℕ). n + sum_by (λ (h : Hand). length (waiting_places h)) (map leave hs)) (waiting_places-leave h)
    ∙ (ap (λ (n : ℕ). length (waiting_places h) + n) (waiting-leave hs)
    ∙ sym (sum_by-cons (λ (h : Hand). length (waiting_places h)) h hs)))

-- an item's cell stays with the core or is freed
pub met-cells : (h : Hand) (kind : Kind) (place : ℕ) → length (waiting_places (met h kind place)) + freed h kind ≡ length (waiting_places h) + 1
met-cells Away First place = refl
met-cells Away Next place = refl
met-cells Away Mark place = refl
met-cells (Waiting places) First place = refl
met-cells (Waiting places) Next place = let e = length-append places (place ∷ []) in omega arith
met-cells (Waiting places) Mark place = refl
met-cells (Held a d) First place = refl
met-cells (Held a d) Next place = refl
met-cells (Held a d) Mark place = refl
met-cells (Leaving a d) First place = refl
met-cells (Leaving a d) Next place = refl
met-cells (Leaving a d) Mark place = refl

-- the marks sent after one more item
unfoldable pub marks_of : List Post → ℕ
marks_of ds = count_by (λ p. is_mark_item p.item) ds

pub marks-packet : (ds : List Post) (o s k b place : ℕ) → marks_of (ds ++ record { core = o; item = Of (kind_at s k) b place } ∷ []) ≡ marks_of ds
unfolding marks_of
marks-packet ds o s k b place =
    sum_by-append (λ (p : Post). if is_mark_item p.item then 1 else 0) ds (record { core = o; item = Of (kind_at s k) b place } ∷ [])
    ∙ by_test k s (λ t. count_by (λ p. is_mark_item p.item) ds + (0 + (if is_mark_item (Of (if t then First else Next) b place) then 1 else 0)) ≡ count_by (λ p. is_mark_item p.item) ds) (λ _. omega arith) (λ _. omega arith)

pub marks-mark : (ds : List Post) (o b place : ℕ) → marks_of (ds ++ record { core = o; item = Of Mark b place } ∷ []) ≡ marks_of ds + 1
unfolding marks_of
marks-mark ds o b place = let e = sum_by-append (λ (p : Post). if is_mark_item p.item then 1 else 0) ds (record { core = o; item = Of Mark b place } ∷ []) in e ∙ omega arith

pub marks-end : (ds : List Post) (o : ℕ) → marks_of (ds ++ record { core = o; item = End } ∷ []) ≡ marks_of ds
unfolding marks_of
marks-end ds o = let e = sum_by-append (λ (p : Post). if is_mark_item p.item then 1 else 0) ds (record { core = o; item = End } ∷ []) in e ∙ omega arith

-- how many claims and releases are due

pub due_of : ℕ → ℕ → ℕ
due_of word start = if nat_lt word (2 * start + 1) then 3 else (if word == 2 * start + 1 then 2 else (if word == 2 * start + 2 then 1 else 0))

pub due-is : (s : BucketState) → due s ≡ due_of s.word s.start
unfolding due_of
due-is s = refl

pub due-before : (w s : ℕ) → w < 2 * s + 1 → due_of w s ≡ 3
unfolding due_of
due-before w s l = ap (λ (t : Bool). if t then 3 else (if w == 2 * s + 1 then 2 else (if w == 2 * s + 2 then 1 else 0))) (lt-ltb w (2 * s + 1) l)

pub due-home : (w s : ℕ) → w ≡ 2 * s + 1 → due_of w s ≡ 2
unfolding due_of
due-home w s e =
    ap (λ (t : Bool). if t then 3 else (if w == 2 * s + 1 then 2 else (if w == 2 * s + 2 then 1 else 0))) (le-ltb w (2 * s + 1) (omega arith))
    ∙ ap (λ (t : Bool). if t then 2 else (if w == 2 * s + 2 then 1 else 0)) (eq-eqb w (2 * s + 1) e)

pub due-held : (w s : ℕ) → w ≡ 2 * s + 2 → due_of w s ≡ 1
unfolding due_of
due-held w s e =
    ap (λ (t : Bool). if t then 3 else (if w == 2 * s + 1 then 2 else (if w == 2 * s + 2 then 1 else 0))) (le-ltb w (2 * s + 1) (omega arith))
    ∙ (ap (λ (t : Bool). if t then 2 else (if w == 2 * s + 2 then 1 else 0)) (ne_eqb w (2 * s + 1) (λ f. omega arith))
    ∙ ap (λ (t : Bool). if t then 1 else 0) (eq-eqb w (2 * s + 2) e))

pub due-over : (w s : ℕ) → 2 * s + 2 < w → due_of w s ≡ 0
unfolding due_of
due-over w s l =
    ap (λ (t : Bool). if t then 3 else (if w == 2 * s + 1 then 2 else (if w == 2 * s + 2 then 1 else 0))) (le-ltb w (2 * s + 1) (omega arith))
    ∙ (ap (λ (t : Bool). if t then 2 else (if w == 2 * s + 2 then 1 else 0)) (ne_eqb w (2 * s + 1) (λ f. omega arith))
    ∙ ap (λ (t : Bool). if t then 1 else 0) (ne_eqb w (2 * s + 2) (λ f. omega arith)))

-- what is due of all buckets, where one was changed
pub due-set : (m : MachineView) (b : ℕ) (s : BucketState) → b < length m.buckets → sum_by due (set m.buckets b s) + due (bucket_at m b) ≡ sum_by due m.buckets + due s
due-set m b s l = sum_by-set due m.buckets b s blank_bucket l
