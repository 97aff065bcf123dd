-- The line that a run writes on its notes.
use Rattle.std.specs.Prelude.{ℕ, List, [], ◌∷◌, ◌++◌, Option, None, Some, codes}
use Rattle.std.specs.Fmt.{decimal}
use Rattle.rss_base.specs.Faults.{NoneFailed}
use Rattle.rss_base.specs.Hex.{hex_text}
use Rattle.rss_base.specs.Written.{Gets, GetsFront}
use Rattle.pcap_reader.specs.declared.fault.Break.{Break}
use Rattle.pcap_reader.specs.declared.fault.Break.TheVariants.{ShortHeader, BadMagic, BadVersion, BadLink, TooLong, ShortRecord}
use Rattle.pcapng_reader.specs.declared.fault.NgBreak.{NgBreak}
use Rattle.pcapng_reader.specs.declared.fault.NgKind.{NgKind}
use Rattle.pcapng_reader.specs.declared.fault.NgKind.TheVariants as breaks
use Rattle.command_words.specs.declared.word_fault.WordFault.{WordFault}
use Rattle.command_words.specs.declared.word_fault.WordFault.TheVariants as word
use Rattle.command_words.specs.Words.{dashed, option_text}
use Rattle.rsspp_main.specs.declared.fault.TopFault.{TopFault}
use Rattle.rsspp_main.specs.declared.fault.TopFault.TheVariants.{Words, Capture, Block, Line, ReadFault, Undrawn, WriteFault, NoMemory, TooMany}

-- the line of a capture that is refused
abbrev pub break_line : Break → List ℕ
break_line (ShortHeader have) = codes "rsspp: capture refused: header ends after " ++ (decimal have ++ (codes " bytes" ++ 10 ∷ []))
break_line (BadMagic value) = codes "rsspp: capture refused: magic " ++ (hex_text 8 value ++ 10 ∷ [])
break_line (BadVersion major minor) = codes "rsspp: capture refused: version " ++ (decimal major ++ (codes "." ++ (decimal minor ++ 10 ∷ [])))
break_line (BadLink value) = codes "rsspp: capture refused: link " ++ (decimal value ++ 10 ∷ [])
break_line (TooLong at length) =
    codes "rsspp: capture refused: record " ++ (decimal at ++ (codes " has length " ++ (decimal length ++ 10 ∷ [])))
break_line (ShortRecord at have) =
    codes "rsspp: capture refused: record " ++ (decimal at ++ (codes " ends after " ++ (decimal have ++ (codes " bytes" ++ 10 ∷ []))))

-- what is wrong with a block, in a word
abbrev pub kind_text : NgKind → List ℕ
kind_text breaks.Short = codes "short"
kind_text breaks.Order = codes "order"
kind_text breaks.Length = codes "length"
kind_text breaks.Version = codes "version"
kind_text breaks.Interface = codes "interface"
kind_text breaks.Link = codes "link"
kind_text breaks.Long = codes "long"
kind_text breaks.Tail = codes "tail"
kind_text breaks.Interfaces = codes "interfaces"
kind_text breaks.Blocks = codes "blocks"

-- the line of a pcapng capture that is refused: the number of the block, what is wrong with it, and the number that goes with that
abbrev pub block_line : NgBreak → List ℕ
block_line e =
    codes "rsspp: capture refused: block " ++ (decimal e.block ++ (codes " " ++ (kind_text e.kind ++ (codes " " ++ (decimal e.value ++ 10 ∷ [])))))

-- the line of words that are refused
abbrev pub word_line : WordFault → List ℕ
word_line word.NoMemory = codes "rsspp: want of memory" ++ 10 ∷ []
word_line word.Words = codes "rsspp: words refused" ++ 10 ∷ []
word_line word.Mode = codes "rsspp: bad mode" ++ 10 ∷ []
word_line word.Values = codes "rsspp: bad values" ++ 10 ∷ []
word_line (word.Option which) = codes "rsspp: bad option " ++ (dashed (option_text which) ++ 10 ∷ [])

-- the line of a fault
abbrev pub line_of : TopFault → List ℕ
line_of (Words w) = word_line w
line_of (Capture e) = break_line e
line_of (Block e) = block_line e
line_of (Line k) = codes "rsspp: plan refused: line " ++ (decimal k ++ 10 ∷ [])
line_of ReadFault = codes "rsspp: read fault" ++ 10 ∷ []
line_of Undrawn = codes "rsspp: read fault" ++ 10 ∷ []
line_of WriteFault = codes "rsspp: write fault" ++ 10 ∷ []
line_of NoMemory = codes "rsspp: want of memory" ++ 10 ∷ []
line_of (TooMany n) = codes "rsspp: more than " ++ (decimal n ++ (codes " packets" ++ 10 ∷ []))

-- a run that was done says nothing
abbrev pub note_of : Option TopFault → List ℕ
note_of None = []
note_of (Some fault) = line_of fault

-- a front of the text was written, and all of it where no write failed
pub record Says (before now : ℕ) (held holds : List ℕ → Type 0) (text : List ℕ) : Type 0 where
  pub front : GetsFront held holds text
  pub whole : NoneFailed before now → Gets held holds text
