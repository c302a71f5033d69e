-- A fault of the sink in a part of a run is one in the run.
use Rattle.std.specs.Prelude.{◌≡◌, ℕ, ◌≤◌, List, Option, Some}
use Rattle.std.proofs.Common.{sym, subst, arith, ⊎_elim}
use Rattle.btr_io.specs.declared.sink.Sink.{Ghosts as SinkGhosts}
use Rattle.btr_io.specs.Faults.{Rose as StreamRose}
use Rattle.btr_words.specs.declared.command.Command.{Command}
use Rattle.btr_words.specs.declared.command.Command.TheVariants.{Format}
use Rattle.btr_top.specs.declared.ending.Ending.{Ending}
use Rattle.btr_top.specs.declared.ending.Ending.TheVariants.{OutOfMemory}
use Rattle.btr_top.specs.Ending.{status_of, text_of, Writes, Shows}
use Rattle.btr_top.specs.Run.{WritesAtEnd}

-- `format` writes nothing but its line.
pub format_at_end : (command : Option Command) (blocks : ℕ) → command ≡ Some (Format blocks) → WritesAtEnd command
format_at_end command blocks is = subst WritesAtEnd (sym is) tt

module _ {K : Type 0} (sink : SinkGhosts K) (before sent after : K) where
  -- A fault in the text of the ending.
  pub rose_after : sink.faults before ≤ sink.faults sent → StreamRose (sink.faults sent) (sink.faults after) → StreamRose (sink.faults before) (sink.faults after)
  rose_after later rose = omega (arith, later, rose)

  rose_written : (text : List ℕ) (wanted status : ℕ) → Writes sink text wanted sent after status → StreamRose (sink.faults before) (sink.faults sent) → StreamRose (sink.faults before) (sink.faults after)
  rose_written text wanted status writes rose =
      ⊎_elim
      (λ all. omega (arith, all.no_fault, rose))
      (λ failed. omega (arith, failed.rose, rose))
      writes

  -- A fault before the text of the ending.
  pub rose_before : (e : Ending) (status : ℕ) → Shows sink e sent after status → StreamRose (sink.faults before) (sink.faults sent) → StreamRose (sink.faults before) (sink.faults after)
  rose_before e status shows rose =
      ⊎_elim
      (λ writes. rose_written (text_of e) (status_of e) status writes rose)
      (λ short. rose_written (text_of OutOfMemory) 9 status short.1 rose)
      shows
