-- The parts of a journal text that are written one by one.
use Rattle.std.proofs.Common.{◌≡◌, subst, append_assoc, List, [], ◌∷◌, ◌++◌, ℕ, length, map, codes, refl, sym, ap, ◌∙◌}
use Rattle.std.specs.List.{flat_map, zip}
use Rattle.std.proofs.lemmas.Grind.{flat_map-append}
use Rattle.std.proofs.lemmas.List.{append-nil}
use Rattle.std.proofs.lemmas.List.Folds.{flat_map-map}
use Rattle.rss_base.specs.Written.{Gets, GetsFront}
use Rattle.rss_base.proofs.Pieces.{Gets-trans}
use Rattle.bucket_table.specs.declared.custody.Custody.{Custody}
use Rattle.indirection.specs.declared.proposal.Proposal.{Proposal}
use Rattle.indirection.specs.declared.outcome.Outcome.{Outcome}
use Rattle.indirection.specs.declared.entry.Entry.{Entry}
use Rattle.indirection.specs.declared.entry.Entry.TheVariants.{Round}
use Rattle.indirection.specs.Views.{RoundView}
use Rattle.indirection.specs.JournalView.{JournalView}
use Rattle.flow_report.proofs.Lines.{front_first, front_behind, front_last}
use Rattle.flow_report.specs.JournalText.{line_bytes, table_line, round_line, proposal_line, entry_lines, custody_line, journal_bytes}

-- the line of a proposal with what came of it
abbrev pub tried_bytes : Proposal × Outcome → List ℕ
tried_bytes tried = line_bytes (proposal_line tried.0 tried.1)

-- the lines of entries, and of custody
abbrev pub entries_bytes : List Entry → List ℕ
entries_bytes es = flat_map line_bytes (flat_map entry_lines es)

abbrev pub held_bytes : List Custody → List ℕ
held_bytes cs = flat_map line_bytes (map custody_line cs)

pub entries_join : (xs ys : List Entry) → entries_bytes (xs ++ ys) ≡ entries_bytes xs ++ entries_bytes ys
entries_join xs ys = ap (flat_map line_bytes) (flat_map-append entry_lines xs ys) ∙ flat_map-append line_bytes (flat_map entry_lines xs) (flat_map entry_lines ys)

pub held_join : (xs ys : List Custody) → held_bytes (xs ++ ys) ≡ held_bytes xs ++ held_bytes ys
held_join xs ys =
    flat_map-map line_bytes custody_line (xs ++ ys)
    ∙ (flat_map-append (λ c. line_bytes (custody_line c)) xs ys
    ∙ (ap (λ w. w ++ flat_map (λ c. line_bytes (custody_line c)) ys) (sym (flat_map-map line_bytes custody_line xs))
    ∙ ap (λ w. held_bytes xs ++ w) (sym (flat_map-map line_bytes custody_line ys))))

pub tried_are : (tried : List (Proposal × Outcome)) → flat_map line_bytes (map (λ t. proposal_line t.0 t.1) tried) ≡ flat_map tried_bytes tried
tried_are tried = flat_map-map line_bytes (λ (t : Proposal × Outcome). proposal_line t.0 t.1) tried

pub zip_next : (ps qs : List Proposal) (os rs : List Outcome) (p : Proposal) (o : Outcome) → ps ≡ p ∷ qs → os ≡ o ∷ rs → zip ps os ≡ (p, o) ∷ zip qs rs
zip_next ps qs os rs p o a b = rw (a, b) refl

pub zip_no_left : (ps : List Proposal) (os : List Outcome) → length ps ≡ 0 → zip ps os ≡ []
zip_no_left [] os none = refl
zip_no_left (p ∷ ps) os none = absurd (cc)

pub zip_no_right : (ps : List Proposal) (os : List Outcome) → length os ≡ 0 → zip ps os ≡ []
zip_no_right [] os none = refl
zip_no_right (p ∷ ps) [] none = refl
zip_no_right (p ∷ ps) (o ∷ os) none = absurd (cc)

-- the lines of proposals with what came of them
abbrev pub rest_bytes : List Proposal → List Outcome → List ℕ
rest_bytes ps os = flat_map line_bytes (map (λ tried. proposal_line tried.0 tried.1) (zip ps os))

-- the lines of a round
pub round_is : (e : Entry) (r : RoundView) (at : ℕ) (loads bases : List ℕ) (ps : List Proposal) (os : List Outcome) → e ≡ Round r
    → at ≡ r.at → loads ≡ r.loads.bucket → bases ≡ r.loads.base → ps ≡ r.proposals → os ≡ r.outcomes
    → line_bytes (round_line at loads bases) ++ rest_bytes ps os ≡ flat_map line_bytes (entry_lines e)
round_is e r at loads bases ps os is a b d p o =
    (λ i. line_bytes (round_line (a i) (b i) (d i)) ++ rest_bytes (p i) (o i)) ∙ sym (ap (λ (x : Entry). flat_map line_bytes (entry_lines x)) is)

-- the first and the last line
abbrev pub head_bytes : List ℕ
head_bytes = line_bytes (codes "journal" ∷ [])

abbrev pub end_bytes : List ℕ
end_bytes = line_bytes (codes "end" ∷ [])

-- the text in its five parts
pub text_is : (j : JournalView) (custody : List Custody) (owners : List ℕ) (es : List Entry) → owners ≡ j.start → es ≡ j.entries
    → head_bytes ++ (line_bytes (table_line owners) ++ (entries_bytes es ++ (held_bytes custody ++ end_bytes))) ≡ journal_bytes j custody
text_is j custody owners es o e =
    let last = (codes "end" ∷ []) ∷ [] in
    let lines = flat_map entry_lines j.entries in
    let held = map custody_line custody in
    (λ i. head_bytes ++ (line_bytes (table_line (o i)) ++ (entries_bytes (e i) ++ (held_bytes custody ++ end_bytes))))
    ∙ ap (λ w. head_bytes ++ (line_bytes (table_line j.start) ++ w))
    (sym (flat_map-append line_bytes lines (held ++ last) ∙ ap (λ w. flat_map line_bytes lines ++ w) (flat_map-append line_bytes held last ∙ ap (λ w. held_bytes custody ++ w) (append-nil end_bytes))))

-- the five parts written one after the other, and a front where one of them fails
module _ (j : JournalView) (custody : List Custody) (owners : List ℕ) (es : List Entry) (starts : owners ≡ j.start) (goes : es ≡ j.entries) (a b : List ℕ → Type 0) where
  two : List ℕ
  two = head_bytes ++ line_bytes (table_line owners)

  three : List ℕ
  three = two ++ entries_bytes es

  four : List ℕ
  four = three ++ held_bytes custody

  whole : four ++ end_bytes ≡ journal_bytes j custody
  unfolding two three four
  whole =
      let t = line_bytes (table_line owners) in
      let behind = held_bytes custody ++ end_bytes in
      append_assoc ((head_bytes ++ t) ++ entries_bytes es) (held_bytes custody) end_bytes
      ∙ (append_assoc (head_bytes ++ t) (entries_bytes es) behind
      ∙ (append_assoc head_bytes t (entries_bytes es ++ behind) ∙ text_is j custody owners es starts goes))

  pub fails_first : GetsFront a b head_bytes → GetsFront a b (journal_bytes j custody)
  fails_first g =
      let later = line_bytes (table_line owners) ++ (entries_bytes es ++ (held_bytes custody ++ end_bytes)) in
      subst (λ w. GetsFront a b w) (text_is j custody owners es starts goes) (front_first a b head_bytes later g)

  module _ (headed : Gets a b head_bytes) (c : List ℕ → Type 0) where
    pub fails_second : GetsFront b c (line_bytes (table_line owners)) → GetsFront a c (journal_bytes j custody)
    fails_second g =
        let later = entries_bytes es ++ (held_bytes custody ++ end_bytes) in
        subst (λ w. GetsFront a c w) (text_is j custody owners es starts goes) (front_behind a b c head_bytes (line_bytes (table_line owners)) later headed g)

    module _ (tabled : Gets b c (line_bytes (table_line owners))) (d : List ℕ → Type 0) where
      got_two : Gets a c two
      unfolding two
      got_two = Gets-trans a b c head_bytes (line_bytes (table_line owners)) (head_bytes ++ line_bytes (table_line owners)) headed tabled refl

      pub fails_third : GetsFront c d (entries_bytes es) → GetsFront a d (journal_bytes j custody)
      unfolding two three four
      fails_third g =
          let later = held_bytes custody ++ end_bytes in
          let parts : two ++ (entries_bytes es ++ later) ≡ four ++ end_bytes =
          sym (append_assoc three (held_bytes custody) end_bytes ∙ append_assoc two (entries_bytes es) later) in
          subst (λ w. GetsFront a d w) (parts ∙ whole) (front_behind a c d two (entries_bytes es) later got_two g)

      module _ (entered : Gets c d (entries_bytes es)) (e : List ℕ → Type 0) where
        got_three : Gets a d three
        unfolding three
        got_three = Gets-trans a c d two (entries_bytes es) (two ++ entries_bytes es) got_two entered refl

        pub fails_fourth : GetsFront d e (held_bytes custody) → GetsFront a e (journal_bytes j custody)
        unfolding three four
        fails_fourth g =
            let parts : three ++ (held_bytes custody ++ end_bytes) ≡ four ++ end_bytes = sym (append_assoc three (held_bytes custody) end_bytes) in
            subst (λ w. GetsFront a e w) (parts ∙ whole) (front_behind a d e three (held_bytes custody) end_bytes got_three g)

        module _ (held : Gets d e (held_bytes custody)) (f : List ℕ → Type 0) where
          got_four : Gets a e four
          unfolding four
          got_four = Gets-trans a d e three (held_bytes custody) (three ++ held_bytes custody) got_three held refl

          pub fails_last : GetsFront e f end_bytes → GetsFront a f (journal_bytes j custody)
          fails_last g = subst (λ w. GetsFront a f w) whole (front_last a e f four end_bytes got_four g)

          pub all_written : Gets e f end_bytes → Gets a f (journal_bytes j custody)
          all_written g = Gets-trans a e f four end_bytes (journal_bytes j custody) got_four g (sym whole)
