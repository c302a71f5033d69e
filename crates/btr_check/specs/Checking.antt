-- What the functions promise that a check is made of: the verdict on a part of a device, and what was found out of the trees.
use Rattle.std.specs.Prelude.{ℕ, List, Result, Ok, Err, Option, Some, None, MatchOption}
use Rattle.btr_disk.specs.declared.disk.Disk.{Ghosts}
use Rattle.btr_disk.specs.Bytes.{Image}
use Rattle.btr_super.specs.declared.superblock.Super.{Super}
use Rattle.btr_super.specs.declared.choosing.ChooseFault.{ChooseFault}
use Rattle.btr_super.specs.declared.choosing.ChooseFault.TheVariants as choice
use Rattle.btr_tree.specs.PageNodes.{Pages}
use Rattle.btr_hist.specs.declared.entry.Entry.{Entry}
use Rattle.btr_open.specs.declared.judged.WholeLog.{WholeLog}
use Rattle.btr_open.specs.declared.opening.OpenCause.{OpenCause}
use Rattle.btr_open.specs.declared.opening.OpenCause.TheVariants as cause
use Rattle.btr_open.specs.Seen.{IsJudgedLog, first_reading}
use Rattle.btr_verify.specs.declared.verifying.VerifyFault.{VerifyFault}
use Rattle.btr_verify.specs.declared.verifying.VerifyFault.TheVariants as verify
use Rattle.btr_check.specs.declared.checker.Checker.{Checker}
use Rattle.btr_check.specs.declared.verdict.Verdict.{Verdict}
use Rattle.btr_check.specs.declared.verdict.Verdict.TheVariants.{Stands, Wrong, NotAStore, Fault, Want}
use Rattle.btr_check.specs.Rule.{MayStand}
use Rattle.btr_check.specs.Whole.{LeadAll, IsFirstWrongAt}
use Rattle.btr_check.specs.Verdict.{named_block}
use Rattle.btr_check.specs.Check.{VerdictHolds}
use Rattle.btr_check.specs.Checker.{HasSeen}

-- ---- the verdict on a part

-- No superblock was chosen.
abbrev pub verdict_of_choice : ChooseFault → Verdict
verdict_of_choice choice.NotAStore = NotAStore
verdict_of_choice (choice.Damaged block) = Wrong block
verdict_of_choice choice.Fault = Fault

-- The log of this superblock's store was not read whole.
abbrev pub verdict_of_cause : Super → OpenCause → Verdict
verdict_of_cause found cause.NotAStore = NotAStore
verdict_of_cause found (cause.Damaged block) = Wrong (named_block found block)
verdict_of_cause found cause.Fault = Fault
verdict_of_cause found cause.Want = Want

-- The log is legal, with this number of entries, and its trees were judged.
abbrev pub verdict_of_trees : ℕ → Result (Option ℕ) VerifyFault → Verdict
verdict_of_trees entries (Ok None) = Stands entries
verdict_of_trees entries (Ok (Some block)) = Wrong block
verdict_of_trees entries (Err verify.Fault) = Fault
verdict_of_trees entries (Err verify.Want) = Want

-- The log of a superblock was read whole on a device with these bytes, and the checker has seen its entries.
abbrev pub IsCheckedLog : Image → Super → Checker → WholeLog → Type 0
IsCheckedLog image found c w = IsJudgedLog MayStand HasSeen image (first_reading found) c w

module _ {D : Type 0} (disk : Ghosts D) where
  -- The verdict is right of the device as it was before the calls between two states of it.
  abbrev pub VerdictBetween : D → D → Verdict → Type 0
  VerdictBetween old new verdict =
      VerdictHolds disk.is_observable (disk.size old) (disk.contents old) (disk.faults old) (disk.faults new) verdict

  -- The log of a superblock was read whole, and the checker has seen its entries.
  abbrev pub WasChecked : D → Super → Checker → WholeLog → Type 0
  WasChecked old found c w = disk.is_observable → IsCheckedLog (disk.contents old) found c w

-- ---- the trees

-- Nothing was found, and each root leads to the tree of its version; or the first wrong node is in the block.
abbrev pub AreTreesFound : Pages → List Entry → List ℕ → Option ℕ → Type 0
AreTreesFound pages h roots found =
    MatchOption found (LeadAll pages h roots) (λ block. (n : ℕ) × IsFirstWrongAt pages h roots n block)
