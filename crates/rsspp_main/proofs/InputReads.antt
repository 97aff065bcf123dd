-- From what the calls of a reading over a lent source say to what is said of that source.
use Rattle.std.proofs.Common.{◌≡◌, ◌⊎◌, inl, inr, ℕ, List, sym, ap, subst, ◌∙◌, Option, None, Some, false}
use Rattle.std.specs.Borrow.{GName}
use Rattle.std.specs.Io.KnownBytes.{Keeps, IsAtEnd}
use Rattle.packet_fields.specs.declared.packet.PacketInfo.{PacketInfo}
use Rattle.pcapng_reader.specs.declared.fault.NgBreak.{NgBreak}
use Rattle.pcapng_reader.specs.Classic.{break_of, is_pcapng}
use Rattle.pcapng_reader.specs.Lent.{Begun, Lent, TakesUpToFour, classic_known}
use Rattle.pcapng_reader.specs.Progress.{known, text_known}
use Rattle.pcapng_reader.specs.Stages.{break_at}
use Rattle.rsspp_run.specs.OneTable.{AreAll}
use Rattle.rsspp_run.specs.Refused.{Refuses, Blames}
use Rattle.rsspp_run.specs.declared.run_end.RunFault.{RunFault}
use Rattle.rsspp_run.specs.declared.run_end.RunFault.TheVariants as running
use Rattle.rsspp_main.specs.declared.fault.TopFault.TheVariants.{Block}
use Rattle.rsspp_main.specs.Input.{IsUnbroken}
use Rattle.rsspp_main.specs.Reports.{fault_behind}
use Rattle.rsspp_main.specs.Run.{EndsBeforeText}
use Rattle.rsspp_main.proofs.Inputs.{Through, by_block, run_refused, run_whole}

-- what is still to be given of a reading over a lent source
abbrev pub given_of : {S : Type 0} → (S → Option (List ℕ)) → Lent S → Option (List ℕ)
given_of left n = text_known (known n.progress (left n.source.now))

-- what a reading was begun over, and that of one begun over these bytes
abbrev pub begun_of : {S O : Type 0} → (S → Option (List ℕ)) → (S → O) → Lent S → Begun O
begun_of left origin n = record { bytes = left n.begun; under = origin n.source.now; lent = n.source.ghost_name }

abbrev pub begun_over : {O : Type 0} → Option (List ℕ) → O → GName → Begun O
begun_over bytes under name = record { bytes = bytes; under = under; lent = name }

-- a reading over a source that was `old`, from its `start` to what it came to, and the source as it was given back: what was read, and what is left where nothing was given
pub record IsRead {S : Type 0} (left : S → Option (List ℕ)) (faults : S → ℕ) (old : S) (start last : Lent S) (now : S) (broken : Option NgBreak) : Type 0 where
  pub through : Through (left old) (given_of left start) (given_of left last) (left last.source.now) broken
  pub now_is : now ≡ last.source.now
  pub quiet : faults start.source.now ≡ faults old
  pub still : last ≡ start → TakesUpToFour (left old) (left last.source.now) × (broken ≡ None) × (faults last.source.now ≡ faults old)

module _ {S O : Type 0} (left : S → Option (List ℕ)) (faults : S → ℕ) (origin : S → O) (old : S) (start last : Lent S) (broken : Option NgBreak) where
  -- by what its opening, its beginning, the run over it, its break and the source that it gives back say
  pub is_read : {opened read inner now : S} {name handed : GName} → opened ≡ old → TakesUpToFour (left old) (left read) → faults read ≡ faults old
      → Keeps (classic_known (left opened)) (given_of left start) → begun_of left origin start ≡ begun_over (left opened) (origin read) name → break_at start.progress.stage ≡ None → start.source.now ≡ read
      → begun_of left origin last ≡ begun_of left origin start
      → broken ≡ break_at last.progress.stage → ((bytes : List ℕ) → left last.begun ≡ Some bytes → IsAtEnd (given_of left last) → broken ≡ break_of bytes)
      → (IsAtEnd (given_of left last) → broken ≡ None → IsAtEnd (left last.source.now)) → ((bytes : List ℕ) → left last.begun ≡ Some bytes → is_pcapng bytes ≡ false → TakesUpToFour (given_of left last) (left last.source.now))
      → handed ≡ last.source.ghost_name → inner ≡ last.source.now → (name ≡ handed → now ≡ inner) → IsRead left faults old start last now broken
  is_read begins few quiet keeps over whole start_is goes value told none plain same inner_is given =
      let origins = goes ∙ over in
      let begun : left last.begun ≡ left old = ap (λ (b : Begun O). b.bytes) origins ∙ ap left begins in
      record {
        through = record {
          keeps = subst (λ (s : S). Keeps (classic_known (left s)) (given_of left start)) begins keeps;
          told = λ bytes is. told bytes (begun ∙ is);
          none = none;
          plain = λ bytes is. plain bytes (begun ∙ is);
        };
        now_is = given (sym (same ∙ ap (λ (b : Begun O). b.lent) origins)) ∙ inner_is;
        quiet = ap faults start_is ∙ quiet;
        still = λ unmoved.
            let now = ap (λ (n : Lent S). n.source.now) unmoved ∙ start_is in (
              subst (λ (s : S). TakesUpToFour (left old) (left s)) (sym now) few,
              value ∙ (ap (λ (n : Lent S). break_at n.progress.stage) unmoved ∙ whole),
              ap faults now ∙ quiet,
            );
      }

-- what a run over such a reading says of the source
module _ {S : Type 0} (left : S → Option (List ℕ)) (faults : S → ℕ) (old : S) (start last : Lent S) (now : S) (b : Option NgBreak) (r : IsRead left faults old start last now b) (limit : ℕ) where
  -- a block breaks behind the last record
  pub run_broken : (e : NgBreak) (all : List PacketInfo) → AreAll limit (given_of left start) all → IsAtEnd (given_of left last) → b ≡ Some e → faults last.source.now ≡ faults start.source.now
      → EndsBeforeText limit (left old) (left now) (faults old) (faults now) (Block e)
  run_broken e all h end is cause = subst (λ (s : S). EndsBeforeText limit (left old) (left s) (faults old) (faults s) (Block e)) (sym r.now_is)
      (by_block limit (left old) (given_of left start) (given_of left last) (left last.source.now) b r.through (faults old) (faults last.source.now) e all h end is (cause ∙ r.quiet))

  -- the run was done, and no block breaks
  pub run_done : (all : List PacketInfo) → AreAll limit (given_of left start) all → IsAtEnd (given_of left last) → b ≡ None → faults last.source.now ≡ faults start.source.now
      → IsUnbroken (left old) × IsAtEnd (left now) × (faults now ≡ faults old)
  run_done all h end is cause =
      let whole = run_whole limit (left old) (given_of left start) (given_of left last) (left last.source.now) b r.through all h end is in
      subst (λ (s : S). IsUnbroken (left old) × IsAtEnd (left s) × (faults s ≡ faults old)) (sym r.now_is) (whole.1, whole.2, cause ∙ r.quiet)

  -- the run was refused
  pub run_ended : (fault : RunFault) → Refuses limit (given_of left start) (given_of left last) fault → Blames fault (faults start.source.now) (faults last.source.now)
      → (fault ≡ running.NoMemory → (last ≡ start) ⊎ ((all : List PacketInfo) × AreAll limit (given_of left start) all × IsAtEnd (given_of left last)))
      → EndsBeforeText limit (left old) (left now) (faults old) (faults now) (fault_behind b fault)
  run_ended fault stops blames memory = subst (λ (s : S). EndsBeforeText limit (left old) (left s) (faults old) (faults s) (fault_behind b fault)) (sym r.now_is)
      (run_refused limit (left old) (given_of left start) (given_of left last) (left last.source.now) b r.through (faults old) (faults last.source.now) fault stops
      (subst (λ n. Blames fault n (faults last.source.now)) r.quiet blames)
      (λ short. elim (memory short) [
        | inl unmoved ↦ inl ((r.still unmoved).0, (r.still unmoved).1)
        | inr all ↦ inr all
      ]))
