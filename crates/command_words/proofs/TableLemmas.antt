-- Owners that are read, as a table takes them.
use Rattle.std.proofs.Common.{◌≡◌, ◌<◌, ◌≤◌, ◌-◌, ℕ, List, length, Some, None, sym, arith, refl}
use Rattle.std.specs.Prelude.{nat_le, option_map}
use Rattle.std.specs.List.{All}
use Rattle.std.proofs.lemmas.Bool.{leb-true, ne_eqb}
use Rattle.std.proofs.lemmas.List.Quantifiers.{position-Some}
use Rattle.indirection.specs.Tables.{first_bad}
use Rattle.indirection.specs.Views.{TableView}
use Rattle.command_words.specs.Values.{each_in, if_length, number_within}
use Rattle.command_words.specs.Words.{Text}
use Rattle.command_words.proofs.ValueRanges.{each_holds, within}

-- cores that are read are below the number of cores
pub owners_below : (cores : ℕ) (ts : List Text) (xs : List ℕ) → 1 ≤ cores → Some xs ≡ each_in (number_within 0 (cores - 1)) ts → All (λ owner. owner < cores) xs
owners_below cores ts xs low h =
    each_holds (λ owner. owner < cores) (number_within 0 (cores - 1)) ts xs (λ w n e. let most = (within 0 (cores - 1) w n e).1 in omega arith) (sym h)

-- among owners that are all cores, none is bad
pub no_bad_core : (cores : ℕ) (xs : List ℕ) (place : ℕ) → All (λ owner. owner < cores) xs → first_bad cores xs ≡ Some place → ⊥
no_bad_core cores xs place all h =
    let found = position-Some (λ core. nat_le cores core) xs place 0 h in
    let bad : cores ≤ _ = leb-true cores _ found.1 in
    let good = all place 0 found.0 in
    omega arith

-- owners of another number make no table
pub other_length : (cores buckets : ℕ) (xs : List ℕ) → (length xs ≡ buckets → ⊥) → None ≡ option_map (λ list. let t : TableView = record { cores = cores; owners = list } in t) (if_length buckets xs)
other_length cores buckets xs other = rw (ne_eqb (length xs) buckets other) refl
