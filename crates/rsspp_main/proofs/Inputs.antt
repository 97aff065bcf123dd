-- From the reading of the classic capture that an input stands for to what is said of the input.
use Rattle.std.proofs.Common.{◌≡◌, ◌⊎◌, inl, inr, ℕ, List, [], ◌∷◌, ◌++◌, map, refl, sym, ap, subst, ◌∙◌, arith, Option, None, Some, Result, Ok, Err, Bool, false, true, if◌then◌else◌, IfSome}
use Rattle.std.specs.Prelude.{MatchResult}
use Rattle.std.proofs.lemmas.List.{append-nil}
use Rattle.std.specs.Io.KnownBytes.{Consumes, Keeps, IsAtEnd}
use Rattle.rss_base.specs.Faults.{Rose}
use Rattle.rss_base.specs.Written.{Gets, GetsFront}
use Rattle.pcap_reader.specs.Capture.{Captured, Breaks, Reads}
use Rattle.pcap_reader.specs.Taken.{BeginsWith, TakesNoMore, TakesOnly}
use Rattle.pcap_reader.specs.declared.fault.Break.TheVariants.{ShortHeader}
use Rattle.pcapng_reader.specs.declared.fault.NgBreak.{NgBreak}
use Rattle.pcapng_reader.specs.declared.fault.NgError.{NgError}
use Rattle.pcapng_reader.specs.declared.fault.NgError.TheVariants as beginning
use Rattle.pcapng_reader.specs.Blocks.{story_of}
use Rattle.pcapng_reader.specs.Classic.{classic, classic_of, break_of, is_pcapng}
use Rattle.pcapng_reader.specs.Lent.{TakesUpToFour, classic_known}
use Rattle.pcapng_reader.specs.Lent as lent
use Rattle.packet_fields.specs.declared.packet.PacketInfo.{PacketInfo}
use Rattle.dispatch_loop.specs.Past.{AreNamed}
use Rattle.dispatch_loop.specs.Packets.{packet_of}
use Rattle.dispatch_loop.specs.Stops.{HasRecordMore}
use Rattle.rsspp_run.specs.OneTable.{AreAll}
use Rattle.rsspp_run.specs.Refused.{Refuses, Blames}
use Rattle.rsspp_run.specs.declared.run_end.RunFault.{RunFault}
use Rattle.rsspp_run.specs.declared.run_end.RunFault.TheVariants as running
use Rattle.rsspp_main.specs.declared.fault.TopFault.{TopFault}
use Rattle.rsspp_main.specs.declared.fault.TopFault.TheVariants.{Words, Capture, Block, Line, ReadFault, Undrawn, WriteFault, NoMemory, TooMany}
use Rattle.rsspp_main.specs.Input.{IsUnbroken, BreaksBy, ReadsNoFurther}
use Rattle.rsspp_main.specs.Listing.{Lists, ExplainsListing, Listed, classic_outcomes, with_break}
use Rattle.rsspp_main.specs.Reports.{fault_behind, opening_fault, run_fault}
use Rattle.rsspp_main.specs.Run.{Ends, ends, HasRead, NoReadFailed, ReadsAtMostFour, EndsBeforeText, Unwritten}
use Rattle.rsspp_main.specs.Stops.{Accepts, StopsIn, StopsWith}

-- what a reading of an input tells: its bytes, what was to be given of the classic capture and what is left of it, what the source has left, and the break that was found
pub record Through (left given rest now : Option (List ℕ)) (broken : Option NgBreak) : Type 0 where
  pub keeps : Keeps (classic_known left) given
  pub told : (bytes : List ℕ) → left ≡ Some bytes → IsAtEnd rest → broken ≡ break_of bytes
  pub none : IsAtEnd rest → broken ≡ None → IsAtEnd now
  pub plain : (bytes : List ℕ) → left ≡ Some bytes → is_pcapng bytes ≡ false → TakesUpToFour rest now

-- what holds of known bytes holds of those that they keep
kept : (P : List ℕ → Type 0) (known given : Option (List ℕ)) → Keeps known given → IfSome given P → IfSome known P
kept P None given k h = tt
kept P (Some x) None k h = absurd k
kept P (Some x) (Some y) k h = subst P k h

-- the other way round
pub named_kept : (packets : Option (List PacketInfo)) (limit : ℕ) (known given : Option (List ℕ)) → Keeps known given → AreNamed packets limit known → AreNamed packets limit given
named_kept None limit known given k h = tt
named_kept (Some all) limit None given k h = absurd h
named_kept (Some all) limit (Some x) None k h = absurd k
named_kept (Some all) limit (Some x) (Some y) k h = subst (λ (b : Option (List ℕ)). AreNamed (Some all) limit b) (ap Some (sym k)) h

no_more : (known given rest : Option (List ℕ)) (records : List Captured) → Keeps known given → TakesNoMore given rest records → TakesNoMore known rest records
no_more None given rest records k h = tt
no_more (Some x) None rest records k h = absurd k
no_more (Some x) (Some y) rest records k h = subst (λ (b : List ℕ). TakesNoMore (Some b) rest records) k h

only : (known given rest : Option (List ℕ)) (records : List Captured) → Keeps known given → TakesOnly given rest records → TakesOnly known rest records
only None given rest records k h = tt
only (Some x) None rest records k h = absurd k
only (Some x) (Some y) rest records k h = subst (λ (b : List ℕ). TakesOnly (Some b) rest records) k h

pub goes_on_kept : (known given rest : Option (List ℕ)) (records : List Captured) → Keeps known given → HasRecordMore given rest records → HasRecordMore known rest records
goes_on_kept known given rest records k h =
    (h.0, kept (λ bytes. BeginsWith bytes (records ++ h.0 ∷ [])) known given k h.1, no_more known given rest (records ++ h.0 ∷ []) k h.2)

stops_kept : (limit : ℕ) (known given rest : Option (List ℕ)) (records : List Captured) (fault : TopFault) → Keeps known given → StopsWith limit given rest records fault → StopsWith limit known rest records fault
stops_kept limit known given rest records (Capture e) k h = (h.0, kept (λ bytes. Reads bytes records (Breaks e)) known given k h.1, no_more known given rest records k h.2)
stops_kept limit known given rest records (TooMany n) k h = (h.0, h.1, goes_on_kept known given rest records k h.2)
stops_kept limit known given rest records ReadFault k h = (h.0, only known given rest records k h.1)
stops_kept limit known given rest records NoMemory k h = h
stops_kept limit known given rest records Undrawn k h = h
stops_kept limit known given rest records WriteFault k h = h
stops_kept limit known given rest records (Block e) k h = h
stops_kept limit known given rest records (Line l) k h = h
stops_kept limit known given rest records (Words w) k h = h

-- what was found of the blocks
found : (left : Option (List ℕ)) (b c : Option NgBreak) → ((bytes : List ℕ) → left ≡ Some bytes → b ≡ break_of bytes) → b ≡ c → IfSome left (λ bytes. break_of bytes ≡ c)
found None b c h is = tt
found (Some bytes) b c h is = sym (h bytes refl) ∙ is

keeps_up : (left rest now : Option (List ℕ)) → ((bytes : List ℕ) → left ≡ Some bytes → is_pcapng bytes ≡ false → TakesUpToFour rest now) → ReadsNoFurther left rest now
keeps_up None rest now h = tt
keeps_up (Some bytes) rest now h = h bytes refl

consumes_none : (left : Option (List ℕ)) → Consumes left left []
consumes_none None = tt
consumes_none (Some bytes) = refl

-- where nothing was read no more than four bytes were
pub nothing_taken : (left : Option (List ℕ)) → TakesUpToFour left left
nothing_taken left = ([], omega arith, consumes_none left)

module _ (limit : ℕ) (left given rest now : Option (List ℕ)) (b : Option NgBreak) (t : Through left given rest now b) where
  pub all_kept : (all : List PacketInfo) → AreAll limit given all → AreAll limit (classic_known left) all
  all_kept all h = kept _ (classic_known left) given t.keeps h

  unbroken : IsAtEnd rest → b ≡ None → IsUnbroken left
  unbroken end is = found left b None (λ bytes told. t.told bytes told end) is

  breaks : (e : NgBreak) → IsAtEnd rest → b ≡ Some e → BreaksBy left e
  breaks e end is = found left b (Some e) (λ bytes told. t.told bytes told end) is

  follows : ReadsNoFurther left rest now
  follows = keeps_up left rest now t.plain

  stops_in : (records : List Captured) (fault : TopFault) → StopsWith limit given rest records fault → StopsIn limit left now records fault
  stops_in records fault s = (rest, stops_kept limit (classic_known left) given rest records fault t.keeps s, follows)

  -- a run that was done over an input of which no block breaks
  pub run_whole : (all : List PacketInfo) → AreAll limit given all → IsAtEnd rest → b ≡ None → HasRead limit left now all
  run_whole all h end is = (all_kept all h, unbroken end is, t.none end is)

  module _ (before after : ℕ) where
    -- a block breaks behind the last record
    pub by_block : (e : NgBreak) (all : List PacketInfo) → AreAll limit given all → IsAtEnd rest → b ≡ Some e → after ≡ before → EndsBeforeText limit left now before after (Block e)
    by_block e all h end is quiet = ((all, (all_kept all h, breaks e end is)), quiet)

    -- where the run was refused, and no block is found to break
    by_fault : (fault : RunFault) → Refuses limit given rest fault → Blames fault before after → (fault ≡ running.NoMemory → TakesUpToFour left now ⊎ ((all : List PacketInfo) × AreAll limit given all × IsAtEnd rest × (b ≡ None)))
        → EndsBeforeText limit left now before after (run_fault fault)
    by_fault (running.Capture e) stops blames memory = ((stops.0, stops_in stops.0 (Capture e) stops.1), blames)
    by_fault (running.TooMany n) stops blames memory = ((stops.0, stops_in stops.0 (TooMany n) stops.1), blames)
    by_fault running.ReadFault stops blames memory = ((stops.0, stops_in stops.0 ReadFault stops.1), blames)
    by_fault running.NoMemory stops blames memory = (
      elim (memory refl) [
        | inl few ↦ inl few
        | inr read ↦ inr (read.0, run_whole read.0 read.1 read.2 read.3)
      ],
      blames,
    )

    -- what a run that was refused says of the input
    pub run_refused : (fault : RunFault) → Refuses limit given rest fault → Blames fault before after
        → (fault ≡ running.NoMemory → (TakesUpToFour left now × (b ≡ None)) ⊎ ((all : List PacketInfo) × AreAll limit given all × IsAtEnd rest))
        → EndsBeforeText limit left now before after (fault_behind b fault)
    run_refused fault stops blames memory = by_break fault b refl stops blames memory
      where
        by_break : (fault : RunFault) (c : Option NgBreak) → b ≡ c → Refuses limit given rest fault → Blames fault before after
            → (fault ≡ running.NoMemory → (TakesUpToFour left now × (b ≡ None)) ⊎ ((all : List PacketInfo) × AreAll limit given all × IsAtEnd rest))
            → EndsBeforeText limit left now before after (fault_behind c fault)
        by_break fault None is stops blames memory = by_fault fault stops blames (λ short. elim (memory short) [
          | inl few ↦ inl few.0
          | inr read ↦ inr (read.0, read.1, read.2, is)
        ])
        by_break running.NoMemory (Some e) is stops blames memory = elim (memory refl) [
          | inl few ↦ absurd (let never = sym few.1 ∙ is in cc)
          | inr read ↦ by_block e read.0 read.1 read.2 is blames
        ]
        by_break (running.Capture x) (Some e) is stops blames memory = by_fault (running.Capture x) stops blames (λ short. absurd cc)
        by_break (running.TooMany n) (Some e) is stops blames memory = by_fault (running.TooMany n) stops blames (λ short. absurd cc)
        by_break running.ReadFault (Some e) is stops blames memory = by_fault running.ReadFault stops blames (λ short. absurd cc)

-- no record of a classic capture was read
none_read : (limit : ℕ) (left now : Option (List ℕ)) → TakesUpToFour left now → StopsIn limit left now [] ReadFault
none_read limit None now few = (None, (omega arith, tt), tt)
none_read limit (Some bytes) now few = (
  Some (classic_of bytes),
  (omega arith, ([], Breaks (ShortHeader 0), refl, inl (ShortHeader 0, refl, refl, inl (omega arith, refl)))),
  λ plain. by_bytes (is_pcapng bytes) plain,
)
  where
    by_bytes : (u : Bool) → u ≡ false → TakesUpToFour (Some (if u then classic (story_of bytes).packets else bytes)) now
    by_bytes false e = few
    by_bytes true e = absurd cc

-- what an error at the beginning says of the count of failed reads
pub quiet_of : {S O : Type 0} (faults : S → ℕ) (origin : S → O) (old new : S) (e : NgError) → lent.LeavesOnError faults origin old new e → e ≡ beginning.NoMemory → faults new ≡ faults old
quiet_of faults origin old new beginning.NoMemory r is = ap faults r
quiet_of faults origin old new beginning.ReadFault r is = absurd cc

pub rose_of : {S O : Type 0} (faults : S → ℕ) (origin : S → O) (old new : S) (e : NgError) → lent.LeavesOnError faults origin old new e → e ≡ beginning.ReadFault → Rose (faults old) (faults new)
rose_of faults origin old new beginning.NoMemory r is = absurd cc
rose_of faults origin old new beginning.ReadFault r is = r.0

-- the input could not be begun
pub not_begun : (limit : ℕ) (left now : Option (List ℕ)) (before after : ℕ) (error : NgError) → TakesUpToFour left now → (error ≡ beginning.NoMemory → after ≡ before) → (error ≡ beginning.ReadFault → Rose before after)
    → EndsBeforeText limit left now before after (opening_fault error)
not_begun limit left now before after beginning.NoMemory few quiet rose = (inl few, quiet refl)
not_begun limit left now before after beginning.ReadFault few quiet rose = (([], none_read limit left now few), rose refl)

module _ (limit : ℕ) (text : List PacketInfo → List ℕ) (old new : Ends) where
  -- the same of a listing
  pub not_listed : (error : NgError) → TakesUpToFour old.left new.left → (error ≡ beginning.NoMemory → NoReadFailed old new) → (error ≡ beginning.ReadFault → Rose old.read_faults new.read_faults) → Unwritten old new → Listed old new (text [])
      → ExplainsListing limit text old new (Some (opening_fault error))
  not_listed beginning.NoMemory few quiet rose unwritten listed = inl (record { few = few; reads = quiet refl; unwritten = unwritten })
  not_listed beginning.ReadFault few quiet rose unwritten listed = ([], none_read limit old.left new.left few, listed, rose refl)

  module _ (given rest : Option (List ℕ)) (b : Option NgBreak) (begun : Type 0) (t : Through old.left given rest new.left b) where
    accepted : (records : List Captured) → Accepts limit given records → Accepts limit (classic_known old.left) records
    accepted records a = (a.0, kept _ (classic_known old.left) given t.keeps a.1)

    stopped : (records : List Captured) (fault : TopFault) → StopsWith limit given rest records fault → StopsIn limit old.left new.left records fault
    stopped records fault s = stops_in limit old.left given rest new.left b t records fault s

    -- the text of a listing that was whole is the listing so far
    listed_whole : (written : List ℕ) → Gets old.may_hold new.may_hold written → Listed old new written
    listed_whole written got = record { front = (written, [], sym (append-nil written), got); whole = λ calm. got }

    listed_front : (written : List ℕ) → GetsFront old.may_hold new.may_hold written → Rose old.write_faults new.write_faults → Listed old new written
    listed_front written front rose = record { front = front; whole = λ calm. absurd (calm rose) }

    -- what a listing of the classic capture says of the input
    listing_through : (begun → ReadsAtMostFour old new) → (r : Result (Unit {0}) TopFault)
        → MatchResult r (λ _. Lists (classic_outcomes limit given rest begun) text old new None) (λ fault. Lists (classic_outcomes limit given rest begun) text old new (Some fault))
        → MatchResult (with_break b r) (λ _. ExplainsListing limit text old new None) (λ fault. ExplainsListing limit text old new (Some fault))
    listing_through opened r h = by_break r b refl h
      where
        same : (fault : TopFault) → (fault ≡ WriteFault → b ≡ None) → Lists (classic_outcomes limit given rest begun) text old new (Some fault) → ExplainsListing limit text old new (Some fault)
        same (Capture e) is h = (h.0, stopped h.0 (Capture e) h.1, h.2, h.3)
        same (TooMany n) is h = (h.0, stopped h.0 (TooMany n) h.1, h.2, h.3)
        same ReadFault is h = (h.0, stopped h.0 ReadFault h.1, h.2, h.3)
        same (Block e) is h = absurd h.1
        same WriteFault is h = (h.0, (accepted h.0 h.1.0, unbroken limit old.left given rest new.left b t h.1.1 (is refl), t.none h.1.1 (is refl)), h.2, h.3, h.4)
        same NoMemory is (inl start) = inl (opened start)
        same NoMemory is (inr more) = inr (more.0, (more.1.0, (rest, goes_on_kept (classic_known old.left) given rest more.0 t.keeps more.1.1, follows limit old.left given rest new.left b t)), more.2, more.3)
        same Undrawn is h = h
        same (Line k) is h = h
        same (Words w) is h = h

        by_break : (r : Result (Unit {0}) TopFault) (c : Option NgBreak) → b ≡ c
            → MatchResult r (λ _. Lists (classic_outcomes limit given rest begun) text old new None) (λ fault. Lists (classic_outcomes limit given rest begun) text old new (Some fault))
            → MatchResult (with_break c r) (λ _. ExplainsListing limit text old new None) (λ fault. ExplainsListing limit text old new (Some fault))
        by_break (Ok u) None is h = (h.0, (accepted h.0 h.1.0, unbroken limit old.left given rest new.left b t h.1.1 is, t.none h.1.1 is), h.2, h.3)
        by_break (Ok u) (Some e) is h = (h.0, (accepted h.0 h.1.0, breaks limit old.left given rest new.left b t e h.1.1 is), listed_whole (text (map packet_of h.0)) h.2, h.3.reads)
        by_break (Err fault) None is h = same fault (λ _. is) h
        by_break (Err WriteFault) (Some e) is h = (h.0, (accepted h.0 h.1.0, breaks limit old.left given rest new.left b t e h.1.1 is), listed_front (text (map packet_of h.0)) h.2 h.3, h.4)
        by_break (Err (Capture x)) (Some e) is h = same (Capture x) (λ w. absurd cc) h
        by_break (Err (TooMany n)) (Some e) is h = same (TooMany n) (λ w. absurd cc) h
        by_break (Err ReadFault) (Some e) is h = same ReadFault (λ w. absurd cc) h
        by_break (Err (Block x)) (Some e) is h = same (Block x) (λ w. absurd cc) h
        by_break (Err NoMemory) (Some e) is h = same NoMemory (λ w. absurd cc) h
        by_break (Err Undrawn) (Some e) is h = same Undrawn (λ w. absurd cc) h
        by_break (Err (Line k)) (Some e) is h = same (Line k) (λ w. absurd cc) h
        by_break (Err (Words w)) (Some e) is h = same (Words w) (λ w. absurd cc) h

    -- the same, where the count of failed reads is told of the beginning of the classic capture
    pub listing_over : (first : ℕ) → first ≡ old.read_faults → (r : Result (Unit {0}) TopFault)
        → MatchResult r (λ _. Lists (classic_outcomes limit given rest begun) text (ends old.left first old.write_faults old.may_hold) new None) (λ fault. Lists (classic_outcomes limit given rest begun) text (ends old.left first old.write_faults old.may_hold) new (Some fault))
        → (begun → ReadsAtMostFour old new) → MatchResult (with_break b r) (λ _. ExplainsListing limit text old new None) (λ fault. ExplainsListing limit text old new (Some fault))
    listing_over first is r h opened = listing_through opened r
        (subst (λ n. MatchResult r (λ _. Lists (classic_outcomes limit given rest begun) text (ends old.left n old.write_faults old.may_hold) new None) (λ fault. Lists (classic_outcomes limit given rest begun) text (ends old.left n old.write_faults old.may_hold) new (Some fault))) is h)
