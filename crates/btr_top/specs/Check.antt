-- The command `check`: why it ends as it does.
use Rattle.std.specs.Prelude.{◌≡◌, ◌⊎◌, List, length}
use Rattle.btr_disk.specs.declared.disk.Disk.{Ghosts}
use Rattle.btr_disk.specs.Causes.{Rose}
use Rattle.btr_disk.specs.Moments.{WroteNothing}
use Rattle.btr_super.specs.Choose.{HasNoSuper}
use Rattle.btr_hist.specs.declared.entry.Entry.{Entry}
use Rattle.btr_check.specs.declared.verdict.Verdict.{Verdict}
use Rattle.btr_check.specs.declared.verdict.Verdict.TheVariants as verdicts
use Rattle.btr_check.specs.Verdict.{HoldsLegal, IsWrong, IsVerdict}
use Rattle.btr_top.specs.declared.ending.Ending.{Ending}
use Rattle.btr_top.specs.declared.ending.Ending.TheVariants.{OutOfMemory, NoDevice, NoStore, Damaged, Stands}

-- How a check with this verdict ends.
abbrev pub ending_of_verdict : Verdict → Ending
ending_of_verdict (verdicts.Stands entries) = Stands entries
ending_of_verdict (verdicts.Wrong block) = Damaged block
ending_of_verdict verdicts.NotAStore = NoStore
ending_of_verdict verdicts.Fault = NoDevice
ending_of_verdict verdicts.Want = OutOfMemory

module _ {D : Type 0} (disk : Ghosts D) where
  -- The device holds a legal history.
  abbrev pub HoldsLegalStore : D → Type 0
  HoldsLegalStore old = (h : List Entry) × HoldsLegal (disk.size old) (disk.contents old) h

  -- What is true of the device if `check` ends so. It holds a legal history of that many entries; or that block is the first wrong one; or
  -- there is no store; or a call of it failed.
  abbrev pub CheckCause : D → D → Ending → Type 0
  CheckCause old new (Stands entries) =
      disk.is_observable → (h : List Entry) × HoldsLegal (disk.size old) (disk.contents old) h × (entries ≡ length h)
  CheckCause old new (Damaged block) = disk.is_observable → IsWrong (disk.size old) (disk.contents old) block
  CheckCause old new NoStore = disk.is_observable → HasNoSuper (disk.size old) (disk.contents old)
  CheckCause old new NoDevice = Rose (disk.faults old) (disk.faults new)
  CheckCause old new OutOfMemory = Unit {0}
  CheckCause old new e = ⊥

  -- If a verdict is right of the device, `check` ends by it, or the device failed, or memory ran out.
  abbrev pub EndsByVerdict : D → Ending → Type 0
  EndsByVerdict old e =
      disk.is_observable → (v : Verdict) → IsVerdict (disk.size old) (disk.contents old) v
      → (e ≡ ending_of_verdict v) ⊎ (e ≡ NoDevice) ⊎ (e ≡ OutOfMemory)

  -- Nothing was written and nothing synced: what a read returns, and what a crash may leave, are the same before and after.
  abbrev pub IsUnsynced : D → D → Type 0
  IsUnsynced old new = disk.is_observable → WroteNothing disk.calls disk.contents disk.images_now disk.images_since old new

  -- Why `check` ends so, and that no other end is right. However it ends, it wrote nothing and synced nothing.
  pub record CheckEnds (old new : D) (e : Ending) : Type 0 where
    pub cause : CheckCause old new e
    pub by_verdict : EndsByVerdict old e
    pub unsynced : IsUnsynced old new
