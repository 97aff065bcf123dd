-- What the tables of all buckets have done adds up to the packets of the run.
use Rattle.std.proofs.Common.{zero, suc, ◌≡◌, ℕ, ◌+◌, ◌<◌, ◌≤◌, Bool, eqb, if◌then◌else◌, List, [], ◌∷◌, length, Option, Some, refl, ap, ◌∙◌, ⊎_elim, arith, All, eq-eqb, ne_eqb}
use Rattle.std.specs.Prelude.{slice_get, sum_by}
use Rattle.std.proofs.lemmas.Bool.{cases_eq}
use Rattle.std.proofs.lemmas.List.Sums.{sum_by-cons}
use Rattle.std.proofs.Math.Nat.{mod-lt}
use Rattle.bucket_table.specs.Table.{TableOf}
use Rattle.packet_fields.specs.declared.key.FlowKey.{FlowKey}
use Rattle.packet_fields.specs.declared.packet.PacketInfo.{PacketInfo}
use Rattle.toeplitz.specs.Bucket.{bucket_hash}
use Rattle.toeplitz.specs.Packet.{packet_hash}
use Rattle.indirection.specs.Story.{Parcel, count_in}
use Rattle.worker_loop.specs.Workload.{workload}
use Rattle.worker_loop.specs.Keys.{HasBucket}
use Rattle.worker_loop.proofs.Keys.{keys_in}
use Rattle.dispatch_loop.specs.Past.{parcel_of, parcels}
use Rattle.dispatch_loop.specs.Terms.{Terms, buckets_of}
use Rattle.rsspp_run.specs.Ends.{AreTablesOf}

-- the packets of so many buckets, from bucket k on
abbrev among : ℕ → ℕ → List Parcel → ℕ
among k zero xs = 0
among k (suc m) xs = count_in k xs + among (suc k) m xs

count_one : (b : ℕ) (p : Parcel) (ps : List Parcel) → count_in b (p ∷ ps) ≡ (if eqb p.bucket b then 1 else 0) + count_in b ps
count_one b p ps = sum_by-cons (λ (q : Parcel). if eqb q.bucket b then 1 else 0) p ps

count_here : (b : ℕ) (p : Parcel) (ps : List Parcel) → p.bucket ≡ b → count_in b (p ∷ ps) ≡ 1 + count_in b ps
count_here b p ps e = count_one b p ps ∙ ap (λ (t : Bool). (if t then 1 else 0) + count_in b ps) (eq-eqb p.bucket b e)

count_away : (b : ℕ) (p : Parcel) (ps : List Parcel) → (p.bucket ≡ b → ⊥) → count_in b (p ∷ ps) ≡ 0 + count_in b ps
count_away b p ps ne = count_one b p ps ∙ ap (λ (t : Bool). (if t then 1 else 0) + count_in b ps) (ne_eqb p.bucket b ne)

none_among : (k m : ℕ) → among k m [] ≡ 0
none_among k zero = refl
none_among k (suc m) = let r = none_among (suc k) m in omega arith

before_all : (k m : ℕ) (p : Parcel) (ps : List Parcel) → p.bucket < k → among k m (p ∷ ps) ≡ among k m ps
before_all k zero p ps lt = refl
before_all k (suc m) p ps lt = let c = count_away k p ps (λ e. absurd (omega arith)) in let r = before_all (suc k) m p ps (omega arith) in omega arith

one_among : (k m : ℕ) (p : Parcel) (ps : List Parcel) → k ≤ p.bucket → p.bucket < k + m → among k m (p ∷ ps) ≡ 1 + among k m ps
one_among k zero p ps from to = absurd (omega arith)
one_among k (suc m) p ps from to = ⊎_elim
    (λ (e : p.bucket ≡ k). let c = count_here k p ps e in let r = before_all (suc k) m p ps (omega arith) in omega arith)
    (λ (ne : p.bucket ≡ k → ⊥). let c = count_away k p ps ne in let r = one_among (suc k) m p ps (above p.bucket k from ne) (omega arith) in omega arith)
    (cases_eq p.bucket k)
  where
    above : (a k : ℕ) → k ≤ a → (a ≡ k → ⊥) → suc k ≤ a
    above a k le ne = omega arith

-- each packet of the run is of one of the buckets
run_among : (t : Terms) (all : List PacketInfo) → 1 ≤ buckets_of t → among 0 (buckets_of t) (parcels t all) ≡ length all
run_among t [] some = none_among 0 (buckets_of t)
run_among t (p ∷ ps) some =
    let lt : (parcel_of t p).bucket < buckets_of t = mod-lt (packet_hash t.key p) (omega arith) in
    let o = one_among 0 (buckets_of t) (parcel_of t p) (parcels t ps) (omega arith) (omega arith) in let r = run_among t ps some in omega arith

module _ {S : Type 0} where
  tables_among : (k : ℕ) (xs : List Parcel) (ts : List (TableOf S)) → ((b : ℕ) (table : TableOf S) → slice_get ts b ≡ Some table → table.done ≡ count_in (k + b) xs)
      → sum_by (λ (table : TableOf S). table.done) ts ≡ among k (length ts) xs
  tables_among k xs [] each = refl
  tables_among k xs (u ∷ us) each =
      let first : u.done ≡ count_in k xs = each 0 u refl ∙ ap (λ (n : ℕ). count_in n xs) (let z : k + 0 ≡ k = omega arith in z) in
      let rest = tables_among (suc k) xs us (λ b table is. each (suc b) table is ∙ ap (λ (n : ℕ). count_in n xs) (let z : k + suc b ≡ suc k + b = omega arith in z)) in
      let s = sum_by-cons (λ (table : TableOf S). table.done) u us in omega arith

module _ {S : Type 0} (opening : S) (after : S → PacketInfo → S) (packets : Option (List PacketInfo)) (t : Terms) (all : List PacketInfo) (tables : List (TableOf S)) (are : AreTablesOf opening after packets t all tables) where
  pub done_all : 1 ≤ buckets_of t → sum_by (λ (table : TableOf S). table.done) tables ≡ length all
  done_all some =
      tables_among 0 (parcels t all) tables (λ b table is. (are.each b table is).0.done_is ∙ ap (λ (n : ℕ). count_in n (parcels t all)) (let z : b ≡ 0 + b = omega arith in z))
      ∙ (ap (λ (n : ℕ). among 0 n (parcels t all)) are.count ∙ run_among t all some)

  pub keys_own : (b : ℕ) (table : TableOf S) → slice_get tables b ≡ Some table → All (λ (e : FlowKey × S). HasBucket (bucket_hash t.key (buckets_of t)) b e.0) table.flows
  keys_own b table is = let h = are.each b table is in keys_in (workload opening after (λ _. 0) packets) (bucket_hash t.key (buckets_of t)) b table h.0.stands h.1
