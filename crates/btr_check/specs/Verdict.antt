-- Which verdict is right of a device with these bytes.
use Rattle.std.specs.Prelude.{◌≡◌, ◌⊎◌, ℕ, ◌+◌, ◌*◌, min, if◌then◌else◌, List, length}
use Rattle.btr_disk.specs.Bytes.{Image}
use Rattle.btr_super.specs.declared.superblock.Super.{Super}
use Rattle.btr_super.specs.Super.{has_seal}
use Rattle.btr_super.specs.Choose.{HasNoSuper, IsChosen, IsDamagedSuper}
use Rattle.btr_hist.specs.declared.entry.Entry.{Entry}
use Rattle.btr_hist.specs.Legal.{Legal}
use Rattle.btr_engine.specs.Holds.{HoldsHistory}
use Rattle.btr_check.specs.declared.verdict.Verdict.{Verdict}
use Rattle.btr_check.specs.declared.verdict.Verdict.TheVariants.{Stands, Wrong, NotAStore, Fault, Want}
use Rattle.btr_open.specs.Seen.{IsDamagedLogBy, first_reading}
use Rattle.btr_check.specs.Rule.{MayStand}
use Rattle.btr_check.specs.Whole.{IsLegalLog, IsNamedStart, EndsAtSeal, IsFirstWrongAt}

-- ---- a device that is right

-- The device holds the history, and the history is legal: its distillates have the cuts and the points of the definition too.
pub record HoldsLegal (size : ℕ) (image : Image) (h : List Entry) : Type 0 where
  pub holds : HoldsHistory size image h
  pub legal : Legal h

-- ---- a device that is wrong

-- The block that is named if this block of the log is damaged: this one. But the log of a sealed store has to end at the tail: if the
-- block is after the tail, the tail is named.
abbrev pub named_block : Super → ℕ → ℕ
named_block s block = if has_seal s then min block s.tail else block

-- The log breaks the format or the rule first in the block `at`, by which a block is named.
pub record HasDamagedLog (image : Image) (s : Super) (block : ℕ) : Type 0 where
  pub at : ℕ
  pub damaged : IsDamagedLogBy MayStand image (first_reading s) at
  pub of : block ≡ named_block s at

-- The log is legal, but the superblock names no start of it. The block is the body of the superblock.
pub record HasWrongName (image : Image) (s : Super) (block : ℕ) : Type 0 where
  pub whole : IsLegalLog image s
  pub unnamed : IsNamedStart s whole.seen.marks → ⊥
  pub of : block ≡ 2 * s.side + 1

-- The log is legal, and the superblock names a start of it, but the store is sealed and the log goes on after the tail that the superblock
-- names. The block is that of the tail.
pub record HasOpenTail (image : Image) (s : Super) (block : ℕ) : Type 0 where
  pub whole : IsLegalLog image s
  pub named : IsNamedStart s whole.seen.marks
  pub goes_on : EndsAtSeal s whole.log.gate → ⊥
  pub of : block ≡ s.tail

-- The log is legal, and the superblock names a start of it, and its end if the store is sealed, but the tree of a version has its first
-- wrong node in this block. The trees of the entries before are right.
pub record HasWrongTree (image : Image) (s : Super) (block : ℕ) : Type 0 where
  pub whole : IsLegalLog image s
  pub named : IsNamedStart s whole.seen.marks
  pub ends : EndsAtSeal s whole.log.gate
  pub n : ℕ
  pub first : IsFirstWrongAt whole.log.pages whole.seen.entries whole.seen.roots n block

-- This block of the store of a superblock is the first wrong one. The tests are in this order: the log from its first gate on, the
-- start that the superblock names, the end that it names if the store is sealed, the trees.
abbrev pub IsWrongStore : Image → Super → ℕ → Type 0
IsWrongStore image s block =
    HasDamagedLog image s block ⊎ (HasWrongName image s block ⊎ (HasOpenTail image s block ⊎ HasWrongTree image s block))

-- This block is the first wrong one: that of an open superblock, or one of the chosen store.
abbrev pub IsWrong : ℕ → Image → ℕ → Type 0
IsWrong size image block =
    IsDamagedSuper size image block ⊎ ((s : Super) × IsChosen size image s × IsWrongStore image s block)

-- ---- verdicts

-- The verdict is right of a device of `size` blocks with these bytes. That the device failed, or that memory ran out, says nothing of it.
abbrev pub IsVerdict : ℕ → Image → Verdict → Type 0
IsVerdict size image (Stands entries) = (h : List Entry) × HoldsLegal size image h × (entries ≡ length h)
IsVerdict size image (Wrong block) = IsWrong size image block
IsVerdict size image NotAStore = HasNoSuper size image
IsVerdict size image Fault = ⊥
IsVerdict size image Want = ⊥
