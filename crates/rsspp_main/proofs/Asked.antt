-- What a command writes, by whether it names a number of a serial run.
use Rattle.std.proofs.Common.{◌≡◌, ℕ, List, sym, subst, Option, None, Some}
use Rattle.packet_fields.specs.declared.packet.PacketInfo.{PacketInfo}
use Rattle.command_words.specs.declared.command.Command.{Command}
use Rattle.rsspp_main.specs.declared.fault.TopFault.{TopFault}
use Rattle.rsspp_main.specs.declared.fault.TopFault.TheVariants.{Words, Capture, Block, Line, ReadFault, Undrawn, WriteFault, NoMemory, TooMany}
use Rattle.rsspp_main.specs.declared.trace.Trace.{Trace}
use Rattle.rsspp_main.specs.Reports.{WritesSerial}
use Rattle.rsspp_main.specs.Run.{Ends, Explains, report_by, run_terms}
use Rattle.rsspp_main.specs.Threads.{IsThreadedText, WritesRun}

module _ (packets : Option (List PacketInfo)) (c : Command) (told : Option Trace) (old new : Ends) where
  by_number : (number : ℕ) (fault : Option TopFault) → Explains c.options.packets (WritesSerial packets c number) old new fault → Explains c.options.packets (WritesRun packets c (Some number) told) old new fault
  by_number number None h = h
  by_number number (Some (Words w)) h = h
  by_number number (Some (Capture e)) h = h
  by_number number (Some (Block e)) h = h
  by_number number (Some (Line k)) h = h
  by_number number (Some ReadFault) h = h
  by_number number (Some Undrawn) h = h
  by_number number (Some WriteFault) h = h
  by_number number (Some NoMemory) h = h
  by_number number (Some (TooMany n)) h = h

  by_threads : (fault : Option TopFault) → Explains c.options.packets (IsThreadedText packets (report_by c.options.work) c.journal (run_terms c.options) told) old new fault → Explains c.options.packets (WritesRun packets c None told) old new fault
  by_threads None h = h
  by_threads (Some (Words w)) h = h
  by_threads (Some (Capture e)) h = h
  by_threads (Some (Block e)) h = h
  by_threads (Some (Line k)) h = h
  by_threads (Some ReadFault) h = h
  by_threads (Some Undrawn) h = h
  by_threads (Some WriteFault) h = h
  by_threads (Some NoMemory) h = h
  by_threads (Some (TooMany n)) h = h

  -- a serial run is the run of a command that names its number
  pub serial_run : (number : ℕ) (fault : Option TopFault) → c.serial ≡ Some number → Explains c.options.packets (WritesSerial packets c number) old new fault → Explains c.options.packets (WritesRun packets c c.serial told) old new fault
  serial_run number fault is h = subst (λ (o : Option ℕ). Explains c.options.packets (WritesRun packets c o told) old new fault) (sym is) (by_number number fault h)

  -- a run in threads is that of a command that names none
  pub threaded_run : (fault : Option TopFault) → c.serial ≡ None → Explains c.options.packets (IsThreadedText packets (report_by c.options.work) c.journal (run_terms c.options) told) old new fault → Explains c.options.packets (WritesRun packets c c.serial told) old new fault
  threaded_run fault is h = subst (λ (o : Option ℕ). Explains c.options.packets (WritesRun packets c o told) old new fault) (sym is) (by_threads fault h)
