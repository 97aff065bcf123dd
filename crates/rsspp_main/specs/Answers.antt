-- What the words ask for, and what a run says of it.
use Rattle.std.specs.Prelude.{◌≡◌, ◌⊎◌, ℕ, List, Option, None, Some, IsSome, MatchOption, Result, Ok, Err}
use Rattle.packet_fields.specs.declared.packet.PacketInfo.{PacketInfo}
use Rattle.bucket_table.specs.declared.flow_hash_key.FlowHashKey.{FlowHashKey}
use Rattle.pcapng_reader.specs.Lent.{classic_known}
use Rattle.dispatch_loop.specs.Past.{AreNamed}
use Rattle.command_words.specs.declared.command.Command.{Command}
use Rattle.command_words.specs.declared.mode.Mode.{Mode}
use Rattle.command_words.specs.declared.mode.Mode.TheVariants.{Report, Hash, Plan, Make, Demo}
use Rattle.command_words.specs.declared.word_fault.WordFault.{WordFault}
use Rattle.command_words.specs.declared.word_fault.WordFault.TheVariants as word
use Rattle.traffic_gen.specs.Traffic.{traffic}
use Rattle.rsspp_main.specs.declared.fault.TopFault.{TopFault}
use Rattle.rsspp_main.specs.declared.fault.TopFault.TheVariants.{Words, Undrawn, NoMemory}
use Rattle.rsspp_main.specs.Demo.{ExplainsDemo}
use Rattle.rsspp_main.specs.Listing.{listing, ExplainsListing}
use Rattle.rsspp_main.specs.Plan.{ExplainsPlan}
use Rattle.rsspp_main.specs.Threads.{WritesRun, IsTold, ToldOfDemo}
use Rattle.rsspp_main.specs.declared.trace.Trace.{Trace}
use Rattle.rsspp_main.specs.Run.{Ends, Explains, ExplainsText, Untouched, report_by}

-- the fault of words, as the fault of the whole
abbrev pub fault_of_word : WordFault → TopFault
fault_of_word word.NoMemory = NoMemory
fault_of_word w = Words w

-- a run over flow tables that isn't begun, since no numbers to hash by were drawn
abbrev pub IsUndrawn : Option Trace → Ends → Ends → Option TopFault → Type 0
IsUndrawn told old new fault = (fault ≡ Some Undrawn) × Untouched old new × (told ≡ None)

-- what each mode says of a run whose packets have these names, and of the run that is told, by the numbers to hash by that were drawn
abbrev pub Does : Option FlowHashKey → Option (List PacketInfo) → Option Trace → Mode → Command → Ends → Ends → Option TopFault → Type 0
Does drawn packets told Report c old new fault =
    MatchOption drawn (IsUndrawn told old new fault) (λ _. Explains c.options.packets (WritesRun packets c c.serial told) old new fault × IsTold c.serial fault told)
Does drawn packets told Hash c old new fault = ExplainsListing c.options.packets (listing c.options.key c.options.start.owners) old new fault × (told ≡ None)
Does drawn packets told Plan c old new fault = ExplainsPlan old new fault × (told ≡ None)
Does drawn packets told Make c old new fault = ExplainsText (traffic c.count c.number) old new fault × (told ≡ None)
Does drawn packets told Demo c old new fault =
    MatchOption drawn (IsUndrawn told old new fault) (λ _. ExplainsDemo packets (report_by c.options.work) c old new fault × IsTold c.serial fault told × ToldOfDemo c told)

-- words that are refused leave everything untouched, and so does want of memory before a command is read; a command is done by its mode
abbrev pub Answers : Option FlowHashKey → Option (List PacketInfo) → Option Trace → Result Command WordFault → Ends → Ends → Option TopFault → Type 0
Answers drawn packets told (Err e) old new fault = ((fault ≡ Some (Words e)) ⊎ (fault ≡ Some NoMemory)) × Untouched old new × (told ≡ None)
Answers drawn packets told (Ok c) old new fault = ((fault ≡ Some NoMemory) × Untouched old new × (told ≡ None)) ⊎ Does drawn packets told c.mode c old new fault

-- where packets are named, they are those of the capture that the words ask to run over: the classic one that the input stands for, or the generated one; other words ask for no run
abbrev pub NamesRunOf : Option (List PacketInfo) → Mode → Command → Option (List ℕ) → Type 0
NamesRunOf packets Report c left = AreNamed packets c.options.packets (classic_known left)
NamesRunOf packets Demo c left = AreNamed packets c.options.packets (Some (traffic c.count c.number))
NamesRunOf packets Hash c left = Unit {0}
NamesRunOf packets Plan c left = Unit {0}
NamesRunOf packets Make c left = Unit {0}

abbrev pub NamesRun : Option (List PacketInfo) → Result Command WordFault → Option (List ℕ) → Type 0
NamesRun packets (Err e) left = Unit {0}
NamesRun packets (Ok c) left = NamesRunOf packets c.mode c left

-- the mode is about the capture on the source
abbrev pub ReadsCapture : Mode → Type 0
ReadsCapture Report = Unit {0}
ReadsCapture Hash = Unit {0}
ReadsCapture Plan = ⊥
ReadsCapture Make = ⊥
ReadsCapture Demo = ⊥

-- the mode makes flow tables
abbrev pub MakesTables : Mode → Type 0
MakesTables Report = Unit {0}
MakesTables Demo = Unit {0}
MakesTables Hash = ⊥
MakesTables Plan = ⊥
MakesTables Make = ⊥

-- the numbers to hash by were drawn, where the mode makes flow tables
abbrev pub HasNumbers : Option FlowHashKey → Mode → Type 0
HasNumbers drawn mode = MakesTables mode → IsSome drawn
