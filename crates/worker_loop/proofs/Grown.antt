-- A table that grew by some packets, and then by more.
use Rattle.std.proofs.Common.{◌≡◌, false, true, Bool, List, [], ◌∷◌, ◌++◌, Option, IsTrue, refl, sym, ap, ◌∙◌, subst, append_assoc}
use Rattle.std.proofs.lemmas.List.{append-nil}
use Rattle.packet_fields.specs.declared.packet.PacketInfo.{PacketInfo}
use Rattle.bucket_table.specs.Table.{TableOf, StandsFor}
use Rattle.bucket_table.specs.declared.custody.Begun.{Begun}
use Rattle.worker_loop.specs.Workload.{Workload, Grew}

was_fine : (old new : Bool) → (IsTrue old → IsTrue new) → new ≡ false → old ≡ false
was_fine false new h is = refl
was_fine true new h is = absurd (let z : false ≡ true = sym is ∙ h refl in cc)

module _ {S : Type 0} (j : Workload S) where
  pub grew_none : (t : TableOf S) → Grew j t [] t
  grew_none t packets s fine = subst (λ (ps : List PacketInfo). StandsFor j.opening j.after ps t) (sym (append-nil packets)) s

  -- one packet more
  pub grew_more : (t u v : TableOf S) (before : List PacketInfo) (p : PacketInfo) → (IsTrue u.short → IsTrue v.short) → Grew j t before u → Grew j u (p ∷ []) v → Grew j t (before ++ p ∷ []) v
  grew_more t u v before p short first more packets s fine =
      subst (λ (ps : List PacketInfo). StandsFor j.opening j.after ps v) (append_assoc packets before (p ∷ [])) (more (packets ++ before) (first packets s (was_fine u.short v.short short fine)) fine)

  -- nothing is left
  pub grew_all : (t u : TableOf S) (before rest all : List PacketInfo) → Grew j t before u → rest ≡ [] → before ++ rest ≡ all → Grew j t all u
  grew_all t u before rest all g none is = subst (λ (ps : List PacketInfo). Grew j t ps u) (sym (append-nil before) ∙ (ap (λ (z : List PacketInfo). before ++ z) (sym none) ∙ is)) g

  -- a custody changes nothing that it stands for
  pub grew_custody : (t u : TableOf S) (c : Option Begun) (more : List PacketInfo) → Grew j (record t { custody = c }) more u → Grew j t more u
  grew_custody t u c more g packets s fine = g packets (record { flows = s.flows; done = s.done; bytes = s.bytes }) fine
