-- Which status comes, by what the words ask for and how the input ends.
use Rattle.std.proofs.Common.{◌≡◌, ◌⊎◌, ◌<◌, ◌≤◌, inl, inr, ℕ, List, [], arith, refl, sym, ap, subst, Option, None, Some, IsSome, Result, Ok, Err, OnOk, OnErr}
use Rattle.rss_base.specs.Faults.{NoneFailed, HasCause}
use Rattle.rss_base.specs.Written.{Gets, GetsFront}
use Rattle.std.proofs.lemmas.List.{append-nil}
use Rattle.pcap_reader.specs.StreamEnd.{EndsStream}
use Rattle.pcap_reader.specs.StreamEnd as stream
use Rattle.pcap_reader.specs.declared.fault.Break.{Break}
use Rattle.pcapng_reader.specs.declared.fault.NgBreak.{NgBreak}
use Rattle.pcapng_reader.specs.Classic.{classic_of, break_of}
use Rattle.packet_fields.specs.declared.packet.PacketInfo.{PacketInfo}
use Rattle.balancer.specs.PlanForm.{Instance, instance_of}
use Rattle.command_words.specs.declared.command.Command.{Command}
use Rattle.command_words.specs.declared.mode.Mode.{Mode}
use Rattle.command_words.specs.declared.mode.Mode.TheVariants as mode
use Rattle.command_words.specs.declared.word_fault.WordFault.{WordFault}
use Rattle.command_words.specs.declared.word_fault.WordFault.TheVariants as word
use Rattle.traffic_gen.specs.Traffic.{traffic}
use Rattle.rsspp_main.specs.declared.fault.TopFault.{TopFault}
use Rattle.rsspp_main.specs.declared.fault.TopFault.TheVariants.{Words, Capture, Block, Line, ReadFault, Undrawn, WriteFault, NoMemory, TooMany}
use Rattle.bucket_table.specs.declared.flow_hash_key.FlowHashKey.{FlowHashKey}
use Rattle.rsspp_main.specs.Answers.{Answers, Does, HasNumbers, MakesTables, NamesRun, NamesRunOf, ReadsCapture, fault_of_word}
use Rattle.rsspp_main.specs.Demo.{ExplainsDemo}
use Rattle.rsspp_main.specs.Threads.{WritesRun}
use Rattle.rsspp_main.specs.declared.trace.Trace.{Trace}
use Rattle.rsspp_main.specs.Listing.{listing, ExplainsListing}
use Rattle.rsspp_main.specs.Notes.{Says}
use Rattle.rsspp_main.specs.Plan.{ExplainsPlan}
use Rattle.rsspp_main.specs.Run.{Ends, Explains, ExplainsText, Untouched, report_by}
use Rattle.rsspp_main.specs.Status.{status_of}
use Rattle.rsspp_main.proofs.InputEnds.{Tells, known, tells, tells_listing, done_by, broken_by, block_by, too_many_by}

-- what the writing of a line says of the notes
pub said : {E : Type 0} (r : Result (Unit {0}) E) (before now : ℕ) (held holds : List ℕ → Type 0) (line : List ℕ) → OnOk r (Gets held holds line) → OnErr r (GetsFront held holds line) → HasCause before now r → Says before now held holds line
said (Ok u) before now held holds line ok err cause = record { front = (line, [], sym (append-nil line), ok); whole = λ quiet. ok }
said (Err e) before now held holds line ok err cause = record { front = err; whole = λ quiet. absurd (quiet cause.failed) }

none_drawn : (drawn : Option FlowHashKey) → drawn ≡ None → IsSome drawn → ⊥
none_drawn (Some key) none some = cc
none_drawn None none some = cc

-- the end of the input that a mode about a capture tells
does_tell : (drawn : Option FlowHashKey) (packets : Option (List PacketInfo)) (told : Option Trace) (m : Mode) (c : Command) (old new : Ends) (fault : Option TopFault) → ReadsCapture m → HasNumbers drawn m → Does drawn packets told m c old new fault → (bytes : List ℕ) → old.left ≡ Some bytes → Tells c.options.packets bytes old new fault
does_tell (Some key) packets run mode.Report c old new fault asks has d bytes told = tells c.options.packets old new bytes told (WritesRun packets c c.serial run) fault d.0
does_tell None packets run mode.Report c old new fault asks has d bytes told = absurd (none_drawn None refl (has tt))
does_tell drawn packets run mode.Hash c old new fault asks has d bytes told = tells_listing c.options.packets old new bytes told (listing c.options.key c.options.start.owners) fault d.0
does_tell drawn packets run mode.Plan c old new fault asks has d bytes told = absurd asks
does_tell drawn packets run mode.Make c old new fault asks has d bytes told = absurd asks
does_tell drawn packets run mode.Demo c old new fault asks has d bytes told = absurd asks

-- want of memory, or what the mode says
of_command : (drawn : Option FlowHashKey) (packets : Option (List PacketInfo)) (told : Option Trace) (r : Result Command WordFault) (c : Command) (old new : Ends) (fault : Option TopFault) → Answers drawn packets told r old new fault → r ≡ Ok c → (fault ≡ Some NoMemory) ⊎ Does drawn packets told c.mode c old new fault
of_command drawn packets told r c old new fault a is = by_answer (subst (λ (r : Result Command WordFault). Answers drawn packets told r old new fault) is a)
  where
    by_answer : Answers drawn packets told (Ok c) old new fault → (fault ≡ Some NoMemory) ⊎ Does drawn packets told c.mode c old new fault
    by_answer (inl lack) = inl lack.0
    by_answer (inr d) = inr d

six : (fault : Option TopFault) → fault ≡ Some NoMemory → status_of fault ≡ 6
six fault e = ap status_of e

pub done : (drawn : Option FlowHashKey) (packets : Option (List PacketInfo)) (told : Option Trace) (r : Result Command WordFault) (old new : Ends) (fault : Option TopFault) → Answers drawn packets told r old new fault →
    (c : Command) (bytes : List ℕ) → r ≡ Ok c → ReadsCapture c.mode → HasNumbers drawn c.mode → old.left ≡ Some bytes → EndsStream c.options.packets (classic_of bytes) stream.Whole → break_of bytes ≡ None → NoneFailed old.read_faults new.read_faults → NoneFailed old.write_faults new.write_faults → (status_of fault ≡ 0) ⊎ (status_of fault ≡ 6)
done drawn packets run r old new fault a c bytes is asks has told end whole quiet calm = elim (of_command drawn packets run r c old new fault a is) [
  | inl lack ↦ inr (six fault lack)
  | inr d ↦ done_by c.options.packets old new bytes end whole quiet calm fault (does_tell drawn packets run c.mode c old new fault asks has d bytes told)
]

pub broken : (drawn : Option FlowHashKey) (packets : Option (List PacketInfo)) (told : Option Trace) (r : Result Command WordFault) (old new : Ends) (fault : Option TopFault) → Answers drawn packets told r old new fault →
    (c : Command) (bytes : List ℕ) (e : Break) → r ≡ Ok c → ReadsCapture c.mode → HasNumbers drawn c.mode → old.left ≡ Some bytes → EndsStream c.options.packets (classic_of bytes) (stream.Broken e) → NoneFailed old.read_faults new.read_faults → (status_of fault ≡ 3) ⊎ (status_of fault ≡ 6)
broken drawn packets run r old new fault a c bytes e is asks has told end quiet = elim (of_command drawn packets run r c old new fault a is) [
  | inl lack ↦ inr (six fault lack)
  | inr d ↦ broken_by c.options.packets old new bytes e end quiet fault (does_tell drawn packets run c.mode c old new fault asks has d bytes told)
]

pub block : (drawn : Option FlowHashKey) (packets : Option (List PacketInfo)) (told : Option Trace) (r : Result Command WordFault) (old new : Ends) (fault : Option TopFault) → Answers drawn packets told r old new fault →
    (c : Command) (bytes : List ℕ) (e : NgBreak) → r ≡ Ok c → ReadsCapture c.mode → HasNumbers drawn c.mode → old.left ≡ Some bytes → EndsStream c.options.packets (classic_of bytes) stream.Whole → break_of bytes ≡ Some e → NoneFailed old.read_faults new.read_faults → (status_of fault ≡ 3) ⊎ (status_of fault ≡ 6)
block drawn packets run r old new fault a c bytes e is asks has told end breaks quiet = elim (of_command drawn packets run r c old new fault a is) [
  | inl lack ↦ inr (six fault lack)
  | inr d ↦ block_by c.options.packets old new bytes e end breaks quiet fault (does_tell drawn packets run c.mode c old new fault asks has d bytes told)
]

pub too_many : (drawn : Option FlowHashKey) (packets : Option (List PacketInfo)) (told : Option Trace) (r : Result Command WordFault) (old new : Ends) (fault : Option TopFault) → Answers drawn packets told r old new fault →
    (c : Command) (bytes : List ℕ) → r ≡ Ok c → ReadsCapture c.mode → HasNumbers drawn c.mode → old.left ≡ Some bytes → EndsStream c.options.packets (classic_of bytes) stream.TooMany → NoneFailed old.read_faults new.read_faults → (status_of fault ≡ 7) ⊎ (status_of fault ≡ 6)
too_many drawn packets run r old new fault a c bytes is asks has told end quiet = elim (of_command drawn packets run r c old new fault a is) [
  | inl lack ↦ inr (six fault lack)
  | inr d ↦ too_many_by c.options.packets old new bytes end quiet fault (does_tell drawn packets run c.mode c old new fault asks has d bytes told)
]

made_by : (text : List ℕ) (old new : Ends) → NoneFailed old.write_faults new.write_faults → (fault : Option TopFault) → ExplainsText text old new fault → status_of fault ≡ 0
made_by text old new calm None h = refl
made_by text old new calm (Some (Words w)) h = absurd h
made_by text old new calm (Some (Capture e)) h = absurd h
made_by text old new calm (Some (Block e)) h = absurd h
made_by text old new calm (Some (Line k)) h = absurd h
made_by text old new calm (Some ReadFault) h = absurd h
made_by text old new calm (Some Undrawn) h = absurd h
made_by text old new calm (Some WriteFault) h = absurd (calm h.1)
made_by text old new calm (Some NoMemory) h = absurd h
made_by text old new calm (Some (TooMany n)) h = absurd h

pub made : (drawn : Option FlowHashKey) (packets : Option (List PacketInfo)) (told : Option Trace) (r : Result Command WordFault) (old new : Ends) (fault : Option TopFault) → Answers drawn packets told r old new fault →
    (c : Command) → r ≡ Ok c → c.mode ≡ mode.Make → NoneFailed old.write_faults new.write_faults → (status_of fault ≡ 0) ⊎ (status_of fault ≡ 6)
made drawn packets told r old new fault a c is asks calm = elim (of_command drawn packets told r c old new fault a is) [
  | inl lack ↦ inr (six fault lack)
  | inr d ↦ inl (made_by (traffic c.count c.number) old new calm fault (subst (λ (m : Mode). Does drawn packets told m c old new fault) asks d).0)
]

shown_by : (packets : Option (List PacketInfo)) (report_of : List PacketInfo → List ℕ) (c : Command) (old new : Ends) → c.count ≤ c.options.packets → NoneFailed old.write_faults new.write_faults → (fault : Option TopFault) → ExplainsDemo packets report_of c old new fault → (status_of fault ≡ 0) ⊎ (status_of fault ≡ 6)
shown_by packets report_of c old new few calm None h = inl refl
shown_by packets report_of c old new few calm (Some (Words w)) h = absurd h
shown_by packets report_of c old new few calm (Some (Capture e)) h = absurd h
shown_by packets report_of c old new few calm (Some (Block e)) h = absurd h
shown_by packets report_of c old new few calm (Some (Line k)) h = absurd h
shown_by packets report_of c old new few calm (Some ReadFault) h = absurd h
shown_by packets report_of c old new few calm (Some Undrawn) h = absurd h
shown_by packets report_of c old new few calm (Some WriteFault) h = absurd (calm h.5)
shown_by packets report_of c old new few calm (Some NoMemory) h = inr refl
shown_by packets report_of c old new few calm (Some (TooMany n)) h = absurd (let more = h.1 in omega arith)

-- a demo that was begun
demo_done : (drawn : Option FlowHashKey) (packets : Option (List PacketInfo)) (told : Option Trace) (c : Command) (old new : Ends) (fault : Option TopFault) → IsSome drawn → Does drawn packets told mode.Demo c old new fault → ExplainsDemo packets (report_by c.options.work) c old new fault
demo_done (Some key) packets told c old new fault has d = d.0
demo_done None packets told c old new fault has d = absurd (none_drawn None refl has)

pub shown : (drawn : Option FlowHashKey) (packets : Option (List PacketInfo)) (told : Option Trace) (r : Result Command WordFault) (old new : Ends) (fault : Option TopFault) → Answers drawn packets told r old new fault →
    (c : Command) → r ≡ Ok c → c.mode ≡ mode.Demo → IsSome drawn → c.count ≤ c.options.packets → NoneFailed old.write_faults new.write_faults → (status_of fault ≡ 0) ⊎ (status_of fault ≡ 6)
shown drawn packets told r old new fault a c is asks has few calm = elim (of_command drawn packets told r c old new fault a is) [
  | inl lack ↦ inr (six fault lack)
  | inr d ↦ shown_by packets (report_by c.options.work) c old new few calm fault (demo_done drawn packets told c old new fault has (subst (λ (m : Mode). Does drawn packets told m c old new fault) asks d))
]

long_by : (packets : Option (List PacketInfo)) (report_of : List PacketInfo → List ℕ) (c : Command) (old new : Ends) → c.options.packets < c.count → (fault : Option TopFault) → ExplainsDemo packets report_of c old new fault → (status_of fault ≡ 7) ⊎ (status_of fault ≡ 6)
long_by packets report_of c old new more None h = absurd (let few = h.0 in omega arith)
long_by packets report_of c old new more (Some (Words w)) h = absurd h
long_by packets report_of c old new more (Some (Capture e)) h = absurd h
long_by packets report_of c old new more (Some (Block e)) h = absurd h
long_by packets report_of c old new more (Some (Line k)) h = absurd h
long_by packets report_of c old new more (Some ReadFault) h = absurd h
long_by packets report_of c old new more (Some Undrawn) h = absurd h
long_by packets report_of c old new more (Some WriteFault) h = absurd (let few = h.0 in omega arith)
long_by packets report_of c old new more (Some NoMemory) h = inr refl
long_by packets report_of c old new more (Some (TooMany n)) h = inl refl

pub too_long : (drawn : Option FlowHashKey) (packets : Option (List PacketInfo)) (told : Option Trace) (r : Result Command WordFault) (old new : Ends) (fault : Option TopFault) → Answers drawn packets told r old new fault →
    (c : Command) → r ≡ Ok c → c.mode ≡ mode.Demo → IsSome drawn → c.options.packets < c.count → (status_of fault ≡ 7) ⊎ (status_of fault ≡ 6)
too_long drawn packets told r old new fault a c is asks has more = elim (of_command drawn packets told r c old new fault a is) [
  | inl lack ↦ inr (six fault lack)
  | inr d ↦ long_by packets (report_by c.options.work) c old new more fault (demo_done drawn packets told c old new fault has (subst (λ (m : Mode). Does drawn packets told m c old new fault) asks d))
]

planned_by : (old new : Ends) (bytes : List ℕ) (p : Instance) → old.left ≡ Some bytes → instance_of bytes ≡ Ok p → NoneFailed old.read_faults new.read_faults → NoneFailed old.write_faults new.write_faults → (fault : Option TopFault) → ExplainsPlan old new fault → (status_of fault ≡ 0) ⊎ (status_of fault ≡ 6)
planned_by old new bytes p told spells quiet calm None h = inl refl
planned_by old new bytes p told spells quiet calm (Some (Words w)) h = absurd h
planned_by old new bytes p told spells quiet calm (Some (Capture e)) h = absurd h
planned_by old new bytes p told spells quiet calm (Some (Block e)) h = absurd h
planned_by old new bytes p told spells quiet calm (Some (Line k)) h = let bad = known old.left bytes (λ b. instance_of b ≡ Err k) told h.0 in cc
planned_by old new bytes p told spells quiet calm (Some ReadFault) h = absurd (quiet h.0)
planned_by old new bytes p told spells quiet calm (Some Undrawn) h = absurd h
planned_by old new bytes p told spells quiet calm (Some WriteFault) h = absurd (calm h.0)
planned_by old new bytes p told spells quiet calm (Some NoMemory) h = inr refl
planned_by old new bytes p told spells quiet calm (Some (TooMany n)) h = absurd h

pub planned : (drawn : Option FlowHashKey) (packets : Option (List PacketInfo)) (told : Option Trace) (r : Result Command WordFault) (old new : Ends) (fault : Option TopFault) → Answers drawn packets told r old new fault →
    (c : Command) (bytes : List ℕ) (p : Instance) → r ≡ Ok c → c.mode ≡ mode.Plan → old.left ≡ Some bytes → instance_of bytes ≡ Ok p → NoneFailed old.read_faults new.read_faults → NoneFailed old.write_faults new.write_faults → (status_of fault ≡ 0) ⊎ (status_of fault ≡ 6)
planned drawn packets run r old new fault a c bytes p is asks told spells quiet calm = elim (of_command drawn packets run r c old new fault a is) [
  | inl lack ↦ inr (six fault lack)
  | inr d ↦ planned_by old new bytes p told spells quiet calm fault (subst (λ (m : Mode). Does drawn packets run m c old new fault) asks d).0
]

bad_line_by : (old new : Ends) (bytes : List ℕ) (line : ℕ) → old.left ≡ Some bytes → instance_of bytes ≡ Err line → NoneFailed old.read_faults new.read_faults → (fault : Option TopFault) → ExplainsPlan old new fault → (status_of fault ≡ 3) ⊎ (status_of fault ≡ 6)
bad_line_by old new bytes line told bad quiet None h = let good = known old.left bytes (λ b. instance_of b ≡ Ok h.0) told h.1 in cc
bad_line_by old new bytes line told bad quiet (Some (Words w)) h = absurd h
bad_line_by old new bytes line told bad quiet (Some (Capture e)) h = absurd h
bad_line_by old new bytes line told bad quiet (Some (Block e)) h = absurd h
bad_line_by old new bytes line told bad quiet (Some (Line k)) h = inl refl
bad_line_by old new bytes line told bad quiet (Some ReadFault) h = absurd (quiet h.0)
bad_line_by old new bytes line told bad quiet (Some Undrawn) h = absurd h
bad_line_by old new bytes line told bad quiet (Some WriteFault) h = let good = known old.left bytes (λ b. instance_of b ≡ Ok h.1) told h.2 in cc
bad_line_by old new bytes line told bad quiet (Some NoMemory) h = inr refl
bad_line_by old new bytes line told bad quiet (Some (TooMany n)) h = absurd h

pub bad_line : (drawn : Option FlowHashKey) (packets : Option (List PacketInfo)) (told : Option Trace) (r : Result Command WordFault) (old new : Ends) (fault : Option TopFault) → Answers drawn packets told r old new fault →
    (c : Command) (bytes : List ℕ) (line : ℕ) → r ≡ Ok c → c.mode ≡ mode.Plan → old.left ≡ Some bytes → instance_of bytes ≡ Err line → NoneFailed old.read_faults new.read_faults → (status_of fault ≡ 3) ⊎ (status_of fault ≡ 6)
bad_line drawn packets run r old new fault a c bytes line is asks told bad quiet = elim (of_command drawn packets run r c old new fault a is) [
  | inl lack ↦ inr (six fault lack)
  | inr d ↦ bad_line_by old new bytes line told bad quiet fault (subst (λ (m : Mode). Does drawn packets run m c old new fault) asks d).0
]

-- a mode that makes flow tables, without numbers to hash by
undrawn_by : (drawn : Option FlowHashKey) (packets : Option (List PacketInfo)) (told : Option Trace) (m : Mode) (c : Command) (old new : Ends) (fault : Option TopFault) → MakesTables m → drawn ≡ None → Does drawn packets told m c old new fault → status_of fault ≡ 4
undrawn_by None packets told mode.Report c old new fault makes none d = ap status_of d.0
undrawn_by None packets told mode.Demo c old new fault makes none d = ap status_of d.0
undrawn_by (Some key) packets told m c old new fault makes none d = absurd cc
undrawn_by drawn packets told mode.Hash c old new fault makes none d = absurd makes
undrawn_by drawn packets told mode.Plan c old new fault makes none d = absurd makes
undrawn_by drawn packets told mode.Make c old new fault makes none d = absurd makes

pub undrawn : (drawn : Option FlowHashKey) (packets : Option (List PacketInfo)) (told : Option Trace) (r : Result Command WordFault) (old new : Ends) (fault : Option TopFault) → Answers drawn packets told r old new fault →
    (c : Command) → r ≡ Ok c → MakesTables c.mode → drawn ≡ None → (status_of fault ≡ 4) ⊎ (status_of fault ≡ 6)
undrawn drawn packets told r old new fault a c is makes none = elim (of_command drawn packets told r c old new fault a is) [
  | inl lack ↦ inr (six fault lack)
  | inr d ↦ inl (undrawn_by drawn packets told c.mode c old new fault makes none d)
]

-- words that are refused
pub refused : (drawn : Option FlowHashKey) (packets : Option (List PacketInfo)) (told : Option Trace) (r : Result Command WordFault) (old new : Ends) (fault : Option TopFault) → Answers drawn packets told r old new fault → (e : WordFault) → r ≡ Err e → (status_of fault ≡ 2) ⊎ (status_of fault ≡ 6)
refused drawn packets told r old new fault a e is = by_answer (subst (λ (r : Result Command WordFault). Answers drawn packets told r old new fault) is a)
  where
    by_answer : Answers drawn packets told (Err e) old new fault → (status_of fault ≡ 2) ⊎ (status_of fault ≡ 6)
    by_answer h = elim h.0 [ inl w ↦ inl (ap status_of w) | inr lack ↦ inr (six fault lack) ]

-- no mode refuses words
explains_none : (limit : ℕ) (Writes : List PacketInfo → List ℕ → Type 0) (old new : Ends) (fault : Option TopFault) → Explains limit Writes old new fault → status_of fault ≡ 2 → ⊥
explains_none limit Writes old new None h e = cc
explains_none limit Writes old new (Some (Words w)) h e = h.0
explains_none limit Writes old new (Some (Capture f)) h e = cc
explains_none limit Writes old new (Some (Block f)) h e = cc
explains_none limit Writes old new (Some (Line k)) h e = h.0
explains_none limit Writes old new (Some (TooMany n)) h e = cc
explains_none limit Writes old new (Some ReadFault) h e = cc
explains_none limit Writes old new (Some Undrawn) h e = h.0
explains_none limit Writes old new (Some WriteFault) h e = cc
explains_none limit Writes old new (Some NoMemory) h e = cc

listing_none : (limit : ℕ) (text : List PacketInfo → List ℕ) (old new : Ends) (fault : Option TopFault) → ExplainsListing limit text old new fault → status_of fault ≡ 2 → ⊥
listing_none limit text old new None h e = cc
listing_none limit text old new (Some (Words w)) h e = h
listing_none limit text old new (Some (Capture f)) h e = cc
listing_none limit text old new (Some (Block f)) h e = cc
listing_none limit text old new (Some (Line k)) h e = h
listing_none limit text old new (Some (TooMany n)) h e = cc
listing_none limit text old new (Some ReadFault) h e = cc
listing_none limit text old new (Some Undrawn) h e = h
listing_none limit text old new (Some WriteFault) h e = cc
listing_none limit text old new (Some NoMemory) h e = cc

text_none : (text : List ℕ) (old new : Ends) (fault : Option TopFault) → ExplainsText text old new fault → status_of fault ≡ 2 → ⊥
text_none text old new None h e = cc
text_none text old new (Some (Words w)) h e = h
text_none text old new (Some (Capture f)) h e = h
text_none text old new (Some (Block f)) h e = h
text_none text old new (Some (Line k)) h e = h
text_none text old new (Some (TooMany n)) h e = h
text_none text old new (Some ReadFault) h e = h
text_none text old new (Some Undrawn) h e = h
text_none text old new (Some WriteFault) h e = cc
text_none text old new (Some NoMemory) h e = h

plan_none : (old new : Ends) (fault : Option TopFault) → ExplainsPlan old new fault → status_of fault ≡ 2 → ⊥
plan_none old new None h e = cc
plan_none old new (Some (Words w)) h e = h
plan_none old new (Some (Capture f)) h e = h
plan_none old new (Some (Block f)) h e = h
plan_none old new (Some (Line k)) h e = cc
plan_none old new (Some (TooMany n)) h e = h
plan_none old new (Some ReadFault) h e = cc
plan_none old new (Some Undrawn) h e = h
plan_none old new (Some WriteFault) h e = cc
plan_none old new (Some NoMemory) h e = cc

demo_none : (packets : Option (List PacketInfo)) (report_of : List PacketInfo → List ℕ) (c : Command) (old new : Ends) (fault : Option TopFault) → ExplainsDemo packets report_of c old new fault → status_of fault ≡ 2 → ⊥
demo_none packets report_of c old new None h e = cc
demo_none packets report_of c old new (Some (Words w)) h e = h
demo_none packets report_of c old new (Some (Capture f)) h e = h
demo_none packets report_of c old new (Some (Block f)) h e = h
demo_none packets report_of c old new (Some (Line k)) h e = h
demo_none packets report_of c old new (Some (TooMany n)) h e = cc
demo_none packets report_of c old new (Some ReadFault) h e = h
demo_none packets report_of c old new (Some Undrawn) h e = h
demo_none packets report_of c old new (Some WriteFault) h e = cc
demo_none packets report_of c old new (Some NoMemory) h e = cc

four_is_not_two : (fault : Option TopFault) → fault ≡ Some Undrawn → status_of fault ≡ 2 → ⊥
four_is_not_two fault is two = let four : status_of fault ≡ 4 = ap status_of is in omega arith

does_none : (drawn : Option FlowHashKey) (packets : Option (List PacketInfo)) (told : Option Trace) (m : Mode) (c : Command) (old new : Ends) (fault : Option TopFault) → Does drawn packets told m c old new fault → status_of fault ≡ 2 → ⊥
does_none (Some key) packets told mode.Report c old new fault d e = explains_none c.options.packets (WritesRun packets c c.serial told) old new fault d.0 e
does_none None packets told mode.Report c old new fault d e = absurd (four_is_not_two fault d.0 e)
does_none drawn packets told mode.Hash c old new fault d e = listing_none c.options.packets (listing c.options.key c.options.start.owners) old new fault d.0 e
does_none drawn packets told mode.Plan c old new fault d e = plan_none old new fault d.0 e
does_none drawn packets told mode.Make c old new fault d e = text_none (traffic c.count c.number) old new fault d.0 e
does_none (Some key) packets told mode.Demo c old new fault d e = demo_none packets (report_by c.options.work) c old new fault d.0 e
does_none None packets told mode.Demo c old new fault d e = absurd (four_is_not_two fault d.0 e)

pub words : (drawn : Option FlowHashKey) (packets : Option (List PacketInfo)) (told : Option Trace) (r : Result Command WordFault) (old new : Ends) (fault : Option TopFault) → Answers drawn packets told r old new fault → status_of fault ≡ 2 → (e : WordFault) × (r ≡ Err e)
words drawn packets told (Err e) old new fault a two = (e, refl)
words drawn packets told (Ok c) old new fault (inl lack) two = absurd (let memory = ap status_of lack.0 in cc)
words drawn packets told (Ok c) old new fault (inr d) two = absurd (does_none drawn packets told c.mode c old new fault d two)

-- a run without a name may be of any words
pub none_named : (r : Result Command WordFault) (left : Option (List ℕ)) → NamesRun None r left
none_named (Err e) left = tt
none_named (Ok c) left = by_mode c.mode
  where
    by_mode : (m : Mode) → NamesRunOf None m c left
    by_mode mode.Report = tt
    by_mode mode.Hash = tt
    by_mode mode.Plan = tt
    by_mode mode.Make = tt
    by_mode mode.Demo = tt

-- words that gave no command
pub unread : (drawn : Option FlowHashKey) (packets : Option (List PacketInfo)) (r : Result Command WordFault) (old new : Ends) (e : WordFault) → Untouched old new → (e ≡ word.NoMemory) ⊎ (r ≡ Err e) → Answers drawn packets None r old new (Some (fault_of_word e))
unread drawn packets r old new e u (inl lack) = rw lack (of_any r)
  where
    of_any : (r : Result Command WordFault) → Answers drawn packets None r old new (Some NoMemory)
    of_any (Ok c) = inl (refl, u, refl)
    of_any (Err f) = (inr refl, u, refl)
unread drawn packets r old new e u (inr is) = rw is (of_fault e, u, refl)
  where
    of_fault : (e : WordFault) → (◌≡◌ {A = Option TopFault} (Some (fault_of_word e)) (Some (Words e))) ⊎ (◌≡◌ {A = Option TopFault} (Some (fault_of_word e)) (Some NoMemory))
    of_fault word.NoMemory = inr refl
    of_fault word.Words = inl refl
    of_fault word.Mode = inl refl
    of_fault word.Values = inl refl
    of_fault (word.Option which) = inl refl
