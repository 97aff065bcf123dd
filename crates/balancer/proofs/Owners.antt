-- A list of owners that are cores is a table.
use Rattle.std.proofs.Common.{◌≡◌, ℕ, ◌<◌, List, length, get_or, All, true, refl, arith}
use Rattle.std.specs.Prelude.{nat_le}
use Rattle.std.proofs.lemmas.Bool.Decides.{nat_tests}
use Rattle.std.proofs.lemmas.List.Elements.{All-get_or}
use Rattle.std.proofs.lemmas.List.Quantifiers.{position-Some}
use Rattle.indirection.specs.declared.table_fault.TableFault.{TableFault}
use Rattle.indirection.specs.declared.table_fault.TableFault.TheVariants.{NoMemory, BadCount, BadCore}
use Rattle.indirection.specs.Tables.{IsRefusedBy}

pub memory_only : (cores buckets : ℕ) (list : List ℕ) (fault : TableFault) → IsRefusedBy cores buckets list fault → length list ≡ buckets → All (λ owner. owner < cores) list → fault ≡ NoMemory
memory_only cores buckets list (BadCount have want) r long owners = absurd (r.0 long)
memory_only cores buckets list (BadCore place core) r long owners =
    let found = position-Some (λ core. nat_le cores core) list place 0 r.1 in
    let below = All-get_or (λ owner. owner < cores) list place 0 found.0 owners in
    absurd (at_most cores (get_or list place 0) found.1 below)
  where
    at_most : (a b : ℕ) → nat_le a b ≡ true → b < a → ⊥
    at_most a b t h = grind (arith, nat_tests)
memory_only cores buckets list NoMemory r long owners = refl
