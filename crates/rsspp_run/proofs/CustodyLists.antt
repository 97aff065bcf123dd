-- The logs of a list of workers.
use Rattle.std.proofs.Common.{◌≡◌, ℕ, zero, suc, List, [], ◌∷◌, ◌++◌, length, get_or, refl, sym, ap, ◌∙◌, append_assoc}
use Rattle.std.proofs.lemmas.List.{append-nil}
use Rattle.std.proofs.lemmas.List.Concat.{flat_map-cons}
use Rattle.std.specs.List.{flat_map}
use Rattle.bucket_table.specs.declared.custody.Custody.{Custody}
use Rattle.rsspp_run.specs.Custody.{all_logs}

-- the first core's log stands before the others'
pub logs_front : (logs : ℕ → List Custody) (n : ℕ) → all_logs logs (suc n) ≡ logs zero ++ all_logs (λ c. logs (suc c)) n
logs_front logs zero = sym (append-nil (logs zero))
logs_front logs (suc n) = ap (λ (z : List Custody). z ++ logs (suc n)) (logs_front logs n) ∙ append_assoc (logs zero) (all_logs (λ c. logs (suc c)) n) (logs (suc n))

pub logs_list : {X : Type 0} (f : X → List Custody) (d : X) (xs : List X) → all_logs (λ c. f (get_or xs c d)) (length xs) ≡ flat_map f xs
logs_list f d [] = refl
logs_list f d (x ∷ xs) = logs_front (λ c. f (get_or (x ∷ xs) c d)) (length xs) ∙ (ap (λ (z : List Custody). f x ++ z) (logs_list f d xs) ∙ sym (flat_map-cons f x xs))
