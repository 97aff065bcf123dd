-- The story of a journal, cut in front of one of its entries, or of one of its tries.
use Rattle.std.proofs.Common.{◌≡◌, ℕ, ◌-◌, max, List, [], ◌∷◌, ◌++◌, map, take, drop, length, append_assoc, refl, sym, ap, ◌∙◌}
use Rattle.std.proofs.lemmas.List.{take-append-drop}
use Rattle.std.proofs.Math.Seq.{take-append_seam}
use Rattle.indirection.specs.declared.entry.Entry.{Entry}
use Rattle.indirection.specs.Tries.{Try, entry_tries, tries}
use Rattle.indirection.specs.Story.{Parcel, Step, Rounds, Tries, Sends, entry_at, entry_steps, told, parcels_of, tries_of, try_of}
use Rattle.indirection.proofs.Steps.{parcels_of-append, tries_of-append}
use Rattle.indirection.proofs.Told.{parcels_of-sends, tries_of-sends, parcels_of-entry, tries_of-entry}

-- the story behind an entry begins at `later` with the packets `rest`; before it stand these steps
pub record IsCut (at : ℕ) (xs : List Parcel) (es : List Entry) (e : Entry) (fs : List Entry) : Type 0 where
  pub before : List Step
  pub later : ℕ
  pub rest : List Parcel
  pub parts : told at xs (es ++ e ∷ fs) ≡ before ++ (entry_steps e ++ told later rest fs)
  pub tries_are : tries_of before ≡ tries es
  pub parcels_are : parcels_of before ++ rest ≡ xs

pub cut : (es : List Entry) (at : ℕ) (xs : List Parcel) (e : Entry) (fs : List Entry) → IsCut at xs es e fs
cut [] at xs e fs = record {
  before = map Sends (take (entry_at e - at) xs);
  later = max at (entry_at e);
  rest = drop (entry_at e - at) xs;
  parts = refl;
  tries_are = tries_of-sends (take (entry_at e - at) xs);
  parcels_are = ap (λ (ps : List Parcel). ps ++ drop (entry_at e - at) xs) (parcels_of-sends (take (entry_at e - at) xs)) ∙ take-append-drop (entry_at e - at) xs;
}
cut (d ∷ es) at xs e fs =
    let now : List Parcel = take (entry_at d - at) xs in
    let inner : IsCut (max at (entry_at d)) (drop (entry_at d - at) xs) es e fs = cut es (max at (entry_at d)) (drop (entry_at d - at) xs) e fs in
    record {
      before = map Sends now ++ (entry_steps d ++ inner.before);
      later = inner.later;
      rest = inner.rest;
      parts = ap (λ (ss : List Step). map Sends now ++ (entry_steps d ++ ss)) inner.parts
          ∙ (ap (λ (ss : List Step). map Sends now ++ ss) (sym (append_assoc (entry_steps d) inner.before (entry_steps e ++ told inner.later inner.rest fs)))
          ∙ sym (append_assoc (map Sends now) (entry_steps d ++ inner.before) (entry_steps e ++ told inner.later inner.rest fs)));
      tries_are = tries_of-append (map Sends now) (entry_steps d ++ inner.before)
          ∙ (ap (λ (ts : List Try). ts ++ tries_of (entry_steps d ++ inner.before)) (tries_of-sends now)
          ∙ (tries_of-append (entry_steps d) inner.before
          ∙ (ap (λ (ts : List Try). ts ++ tries_of inner.before) (tries_of-entry d)
          ∙ ap (λ (ts : List Try). entry_tries d ++ ts) inner.tries_are)));
      parcels_are = ap (λ (ps : List Parcel). ps ++ inner.rest) (parcels_of-append (map Sends now) (entry_steps d ++ inner.before)
          ∙ (ap (λ (ps : List Parcel). ps ++ parcels_of (entry_steps d ++ inner.before)) (parcels_of-sends now)
          ∙ ap (λ (ps : List Parcel). now ++ ps) (parcels_of-append (entry_steps d) inner.before ∙ ap (λ (ps : List Parcel). ps ++ parcels_of inner.before) (parcels_of-entry d))))
          ∙ (append_assoc now (parcels_of inner.before) inner.rest
          ∙ (ap (λ (ps : List Parcel). now ++ ps) inner.parcels_are
          ∙ take-append-drop (entry_at d - at) xs));
    }

-- the packets in front of a cut
pub taken : (before rest xs : List Parcel) (n : ℕ) → before ++ rest ≡ xs → n ≡ length before → before ≡ take n xs
taken before rest xs n parts is = sym (ap (λ (k : ℕ). take k xs) is ∙ (ap (λ (ps : List Parcel). take (length before) ps) (sym parts) ∙ take-append_seam before rest))

-- a try among those of the steps: before it stand steps with the tries before it
pub record IsTryCut (ss : List Step) (before : List Try) (t : Try) : Type 0 where
  pub front : List Step
  pub after : List Step
  pub parts : ss ≡ front ++ Tries t.ask t.outcome ∷ after
  pub tries_are : tries_of front ≡ before

more_cut : (x : Step) (ss : List Step) (before new : List Try) (t : Try) (c : IsTryCut ss before t) → tries_of (x ∷ c.front) ≡ new → IsTryCut (x ∷ ss) new t
more_cut x ss before new t c are = record { front = x ∷ c.front; after = c.after; parts = ap (λ (zs : List Step). x ∷ zs) c.parts; tries_are = are }

pub try_cut : (ss : List Step) (before : List Try) (t : Try) (behind : List Try) → tries_of ss ≡ before ++ t ∷ behind → IsTryCut ss before t
try_cut [] [] t behind is = absurd (cc)
try_cut [] (b ∷ before) t behind is = absurd (cc)
try_cut (Rounds h ∷ ss) before t behind is = let c = try_cut ss before t behind is in more_cut (Rounds h) ss before before t c c.tries_are
try_cut (Sends p ∷ ss) before t behind is = let c = try_cut ss before t behind is in more_cut (Sends p) ss before before t c c.tries_are
try_cut (Tries a o ∷ ss) [] t behind is =
    let same : try_of a o ≡ t = cc in
    record { front = []; after = ss; parts = ap (λ (x : Try). Tries x.ask x.outcome ∷ ss) same; tries_are = refl }
try_cut (Tries a o ∷ ss) (b ∷ before) t behind is =
    let same : try_of a o ≡ b = cc in
    let rest : tries_of ss ≡ before ++ t ∷ behind = cc in
    let c = try_cut ss before t behind rest in
    more_cut (Tries a o) ss before (b ∷ before) t c (ap (λ (x : Try). x ∷ tries_of c.front) same ∙ ap (λ (ts : List Try). b ∷ ts) c.tries_are)

-- a packet among those of the steps: before it stand steps with the packets before it
pub record IsParcelCut (ss : List Step) (before : List Parcel) (p : Parcel) : Type 0 where
  pub front : List Step
  pub after : List Step
  pub parts : ss ≡ front ++ Sends p ∷ after
  pub parcels_are : parcels_of front ≡ before

more_parcel_cut : (x : Step) (ss : List Step) (before new : List Parcel) (p : Parcel) (c : IsParcelCut ss before p) → parcels_of (x ∷ c.front) ≡ new → IsParcelCut (x ∷ ss) new p
more_parcel_cut x ss before new p c are = record { front = x ∷ c.front; after = c.after; parts = ap (λ (zs : List Step). x ∷ zs) c.parts; parcels_are = are }

pub parcel_cut : (ss : List Step) (before : List Parcel) (p : Parcel) (behind : List Parcel) → parcels_of ss ≡ before ++ p ∷ behind → IsParcelCut ss before p
parcel_cut [] [] p behind is = absurd (cc)
parcel_cut [] (b ∷ before) p behind is = absurd (cc)
parcel_cut (Rounds h ∷ ss) before p behind is = let c = parcel_cut ss before p behind is in more_parcel_cut (Rounds h) ss before before p c c.parcels_are
parcel_cut (Tries a o ∷ ss) before p behind is = let c = parcel_cut ss before p behind is in more_parcel_cut (Tries a o) ss before before p c c.parcels_are
parcel_cut (Sends q ∷ ss) [] p behind is =
    let same : q ≡ p = cc in
    record { front = []; after = ss; parts = ap (λ (x : Parcel). Sends x ∷ ss) same; parcels_are = refl }
parcel_cut (Sends q ∷ ss) (b ∷ before) p behind is =
    let same : q ≡ b = cc in
    let rest : parcels_of ss ≡ before ++ p ∷ behind = cc in
    let c = parcel_cut ss before p behind rest in
    more_parcel_cut (Sends q) ss before (b ∷ before) p c (ap (λ (x : Parcel). x ∷ parcels_of c.front) same ∙ ap (λ (ps : List Parcel). b ∷ ps) c.parcels_are)
