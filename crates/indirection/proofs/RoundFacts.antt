-- What a round of a lawful journal weighs and proposes, what it takes the cores to have worked.
use Rattle.std.proofs.Common.{◌≡◌, ℕ, ◌+◌, ◌-◌, ◌<◌, ◌≤◌, List, [], ◌∷◌, ◌++◌, map, take, drop, length, append_assoc, sym, ap, ◌∙◌, subst, arith}
use Rattle.std.specs.Prelude.{slice_index}
use Rattle.std.proofs.lemmas.List.{append-nil}
use Rattle.indirection.specs.declared.entry.Entry.{Entry}
use Rattle.indirection.specs.declared.entry.Entry.TheVariants.{Round}
use Rattle.indirection.specs.Views.{RoundView}
use Rattle.indirection.specs.JournalView.{JournalView}
use Rattle.indirection.specs.Each.{Each, EachFrom}
use Rattle.indirection.specs.Tries.{Try, round_tries, owners_after, tries, upto}
use Rattle.indirection.specs.Story.{Parcel, RoundHead, Step, Rounds, Tries, Sends, told, parcels_of, tries_of, try_of, cost_to, sent_from, sent_to, worked_from, worked_by}
use Rattle.indirection.specs.Due.{Rules}
use Rattle.indirection.specs.Lawful.{Fits, IsRound, IsLawfulSoFar, cost_in}
use Rattle.indirection.specs.JournalFacts.{IsRoundBehind, cost_owned, worked_at}
use Rattle.indirection.proofs.Each.{EachFrom-front, EachFrom-rest, EachFrom-at, EachFrom-keeps}
use Rattle.indirection.proofs.Steps.{parcels_of-append}
use Rattle.indirection.proofs.Told.{parcels_of-tries}
use Rattle.indirection.proofs.Splits.{IsCut, cut, taken}
use Rattle.indirection.proofs.KeptEntries.{steps_of}
use Rattle.indirection.proofs.SentOwned.{sent_owned}

-- a round before its tries
abbrev pub head_of : RoundView → RoundHead
head_of r = record { at = r.at; loads = r.loads; proposals = r.proposals }

abbrev pub tries_in : RoundView → List Step
tries_in r = steps_of (round_tries r.at r.proposals r.outcomes)

-- a round in the story: the steps before it, and that it may stand behind them
pub record IsFound (rules : Rules) (xs : List Parcel) (j : JournalView) (before after : List Step) (r : RoundView) : Type 0 where
  pub parts : told 0 xs j.entries ≡ before ++ Rounds (head_of r) ∷ after
  pub round : IsRound rules before (head_of r)
  pub parcels_are : parcels_of before ≡ take r.at xs

pub found : (rules : Rules) (xs : List Parcel) (j : JournalView) (before after : List Step) (rest : List Parcel) (r : RoundView) → IsLawfulSoFar rules xs j →
    told 0 xs j.entries ≡ before ++ Rounds (head_of r) ∷ after → parcels_of before ++ rest ≡ xs → IsFound rules xs j before after r
found rules xs j before after rest r lawful parts parcels =
    let fits = EachFrom-at (Fits rules) [] before (Rounds (head_of r)) after (subst (λ (ss : List Step). Each (Fits rules) ss) parts lawful.steps) in
    record { parts = parts; round = fits.1; parcels_are = taken (parcels_of before) rest xs r.at parcels fits.1.at }

-- what was sent to a core before the round
sent_before : (rules : Rules) (xs : List Parcel) (j : JournalView) (before after : List Step) (r : RoundView) (c : ℕ) → IsLawfulSoFar rules xs j → IsFound rules xs j before after r → sent_to c rules.start before ≡ cost_owned j c (take r.at xs)
sent_before rules xs j before after r c lawful f =
    ap (λ (start : List ℕ). sent_to c start before) (sym lawful.start)
    ∙ (sent_owned rules xs j c lawful before (Rounds (head_of r) ∷ after) f.parts
    ∙ ap (λ (ps : List Parcel). cost_owned j c ps) f.parcels_are)

pub lawful_weighing : (rules : Rules) (xs : List Parcel) (j : JournalView) (front behind : List Entry) (r : RoundView) → IsLawfulSoFar rules xs j → j.entries ≡ front ++ Round r ∷ behind → IsRoundBehind rules xs j front r
lawful_weighing rules xs j front behind r lawful parts = record {
  loads = f.round.loads ∙ ap (λ (ps : List Parcel). map (cost_in ps) (upto (length rules.start))) (ap (λ (n : ℕ). drop (n - rules.round) (parcels_of c.before)) (sym f.round.at) ∙ ap (λ (ps : List Parcel). drop (r.at - rules.round) ps) f.parcels_are);
  bases = f.round.bases;
  base = λ core l. subst (λ (n : ℕ). slice_index r.loads.base core ≤ n) (sent_before rules xs j c.before after r core lawful f) (f.round.base core l);
  proposals = f.round.proposals ∙ ap (λ (ts : List Try). rules.propose r.loads (owners_after rules.start ts)) c.tries_are ∙ ap (λ (start : List ℕ). rules.propose r.loads (owners_after start (tries front))) (sym lawful.start);
} where
  c : IsCut 0 xs front (Round r) behind
  c = cut front 0 xs (Round r) behind

  after : List Step
  after = tries_in r ++ told c.later c.rest behind

  f : IsFound rules xs j c.before after r
  f = found rules xs j c.before after c.rest r lawful (ap (λ (es : List Entry). told 0 xs es) parts ∙ c.parts) c.parcels_are

-- ---- what a core had worked

worked_from-push : (c : ℕ) (start : List ℕ) (ts : List Try) (sent known : ℕ) (ss : List Step) (x : Step) →
    worked_from c start ts sent known (ss ++ x ∷ []) ≡ worked_from c start (ts ++ tries_of ss) (sent + sent_from c start ts ss) (worked_from c start ts sent known ss) (x ∷ [])
worked_from-push c start ts sent known [] x = ap (λ (us : List Try). worked_from c start us sent known (x ∷ [])) (sym (append-nil ts)) ∙ ap (λ (n : ℕ). worked_from c start (ts ++ []) n known (x ∷ [])) (omega arith)
worked_from-push c start ts sent known (Rounds h ∷ ss) x = worked_from-push c start ts sent (sent - slice_index h.loads.base c) ss x
worked_from-push c start ts sent known (Tries a o ∷ ss) x =
    worked_from-push c start (ts ++ try_of a o ∷ []) sent known ss x
    ∙ ap (λ (us : List Try). worked_from c start us (sent + sent_from c start (ts ++ try_of a o ∷ []) ss) (worked_from c start (ts ++ try_of a o ∷ []) sent known ss) (x ∷ [])) (append_assoc ts (try_of a o ∷ []) (tries_of ss))
worked_from-push c start ts sent known (Sends p ∷ ss) x =
    worked_from-push c start ts (sent + cost_to c start ts p) known ss x
    ∙ ap (λ (n : ℕ). worked_from c start (ts ++ tries_of ss) n (worked_from c start ts (sent + cost_to c start ts p) known ss) (x ∷ [])) (omega arith)

worked_by-round : (c : ℕ) (start : List ℕ) (ss : List Step) (h : RoundHead) → worked_by c start (ss ++ Rounds h ∷ []) ≡ sent_to c start ss - slice_index h.loads.base c
worked_by-round c start ss h = worked_from-push c start [] 0 0 ss (Rounds h) ∙ omega arith

-- it never falls from step to step
never_falls : (rules : Rules) (c known : ℕ) → c < rules.cores → (ss : List Step) (x : Step) → known ≤ worked_by c rules.start ss → Fits rules ss x → known ≤ worked_by c rules.start (ss ++ x ∷ [])
never_falls rules c known core ss (Rounds h) low fits = let more = fits.1.worked c core in let now = worked_by-round c rules.start ss h in omega arith
never_falls rules c known core ss (Tries a o) low fits = let same : worked_by c rules.start (ss ++ Tries a o ∷ []) ≡ worked_by c rules.start ss = worked_from-push c rules.start [] 0 0 ss (Tries a o) in omega arith
never_falls rules c known core ss (Sends p) low fits = let same : worked_by c rules.start (ss ++ Sends p ∷ []) ≡ worked_by c rules.start ss = worked_from-push c rules.start [] 0 0 ss (Sends p) in omega arith

-- an earlier round and a later one
worked_between : (rules : Rules) (xs : List Parcel) (j : JournalView) (before between after : List Step) (q r : RoundView) (c : ℕ) → c < rules.cores → IsLawfulSoFar rules xs j →
    IsFound rules xs j before (between ++ Rounds (head_of r) ∷ after) q → IsFound rules xs j (before ++ Rounds (head_of q) ∷ between) after r → worked_at j c xs q ≤ worked_at j c xs r
worked_between rules xs j before between after q r c core lawful fq fr =
    let each : Each (Fits rules) (before ++ (Rounds (head_of q) ∷ (between ++ Rounds (head_of r) ∷ after))) = subst (λ (ss : List Step). Each (Fits rules) ss) fq.parts lawful.steps in
    let rest : EachFrom (Fits rules) (before ++ Rounds (head_of q) ∷ []) (between ++ Rounds (head_of r) ∷ after) = (EachFrom-rest (Fits rules) [] before (Rounds (head_of q) ∷ (between ++ Rounds (head_of r) ∷ after)) each).1 in
    let between_fits = EachFrom-front (Fits rules) (before ++ Rounds (head_of q) ∷ []) between (Rounds (head_of r) ∷ after) rest in
    let known : ℕ = sent_to c rules.start before - slice_index q.loads.base c in
    let first : known ≤ worked_by c rules.start (before ++ Rounds (head_of q) ∷ []) = omega (arith, worked_by-round c rules.start before (head_of q)) in
    let last : known ≤ worked_by c rules.start ((before ++ Rounds (head_of q) ∷ []) ++ between) =
    EachFrom-keeps (Fits rules) (λ (ss : List Step). known ≤ worked_by c rules.start ss) (λ ss x low fits. never_falls rules c known core ss x low fits) (before ++ Rounds (head_of q) ∷ []) between first between_fits in
    let joined : known ≤ worked_by c rules.start (before ++ Rounds (head_of q) ∷ between) = subst (λ (ss : List Step). known ≤ worked_by c rules.start ss) (append_assoc before (Rounds (head_of q) ∷ []) between) last in
    let law = fr.round.worked c core in
    let sq = sent_before rules xs j before (between ++ Rounds (head_of r) ∷ after) q c lawful fq in
    let sr = sent_before rules xs j (before ++ Rounds (head_of q) ∷ between) after r c lawful fr in
    omega arith

pub lawful_working : (rules : Rules) (xs : List Parcel) (j : JournalView) (front middle behind : List Entry) (q r : RoundView) (c : ℕ) → IsLawfulSoFar rules xs j → j.entries ≡ front ++ Round q ∷ (middle ++ Round r ∷ behind) → c < rules.cores → worked_at j c xs q ≤ worked_at j c xs r
lawful_working rules xs j front middle behind q r c lawful parts core =
    worked_between rules xs j a.before between after q r c core lawful
    (found rules xs j a.before (between ++ Rounds (head_of r) ∷ after) a.rest q lawful whole a.parcels_are)
    (found rules xs j (a.before ++ Rounds (head_of q) ∷ between) after b.rest r lawful (whole ∙ sym (append_assoc a.before (Rounds (head_of q) ∷ between) (Rounds (head_of r) ∷ after))) parcels) where
      a : IsCut 0 xs front (Round q) (middle ++ Round r ∷ behind)
      a = cut front 0 xs (Round q) (middle ++ Round r ∷ behind)

      b : IsCut a.later a.rest middle (Round r) behind
      b = cut middle a.later a.rest (Round r) behind

      between : List Step
      between = tries_in q ++ b.before

      after : List Step
      after = tries_in r ++ told b.later b.rest behind

      whole : told 0 xs j.entries ≡ a.before ++ Rounds (head_of q) ∷ (between ++ Rounds (head_of r) ∷ after)
      whole = ap (λ (es : List Entry). told 0 xs es) parts ∙ (a.parts ∙ ap (λ (ss : List Step). a.before ++ Rounds (head_of q) ∷ ss) (ap (λ (ss : List Step). tries_in q ++ ss) b.parts ∙ sym (append_assoc (tries_in q) b.before (Rounds (head_of r) ∷ after))))

      parcels : parcels_of (a.before ++ Rounds (head_of q) ∷ between) ++ b.rest ≡ xs
      parcels =
          ap (λ (ps : List Parcel). ps ++ b.rest) (parcels_of-append a.before (Rounds (head_of q) ∷ between)
          ∙ ap (λ (ps : List Parcel). parcels_of a.before ++ ps) (parcels_of-append (tries_in q) b.before ∙ ap (λ (ps : List Parcel). ps ++ parcels_of b.before) (parcels_of-tries (round_tries q.at q.proposals q.outcomes))))
          ∙ (append_assoc (parcels_of a.before) (parcels_of b.before) b.rest
          ∙ (ap (λ (ps : List Parcel). parcels_of a.before ++ ps) b.parcels_are ∙ a.parcels_are))
