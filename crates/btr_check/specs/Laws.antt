-- What holds of all devices.
use Rattle.std.specs.Prelude.{◌≡◌, ℕ}
use Rattle.btr_disk.specs.Bytes.{Image}
use Rattle.btr_super.specs.declared.superblock.Super.{Super}
use Rattle.btr_super.specs.Choose.{IsChosen}
use Rattle.btr_check.specs.declared.verdict.Verdict.{Verdict}
use Rattle.btr_check.specs.Whole.{IsLegalLog, IsNamedStart, EndsAtSeal, LeadAll}
use Rattle.btr_check.specs.Verdict.{HoldsLegal, IsVerdict}

-- If the log of the chosen superblock's store is legal, the superblock names a start of it, and its end if the store is sealed, and the
-- root of each entry leads to the tree of its version, the device holds a legal history: that of the entries that were seen.
abbrev pub LegalLogStands : Type 0
LegalLogStands =
    (size : ℕ) (image : Image) (s : Super) → IsChosen size image s → (whole : IsLegalLog image s)
    → IsNamedStart s whole.seen.marks → EndsAtSeal s whole.log.gate → LeadAll whole.log.pages whole.seen.entries whole.seen.roots
    → HoldsLegal size image whole.seen.entries

-- At most one verdict is right of a device.
abbrev pub OneVerdictHolds : Type 0
OneVerdictHolds = (size : ℕ) (image : Image) (v w : Verdict) → IsVerdict size image v → IsVerdict size image w → v ≡ w
