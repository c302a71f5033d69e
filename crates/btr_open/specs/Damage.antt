-- Which block of a device breaks the format of a store, as an opening tests it.
use Rattle.std.specs.Prelude.{◌⊎◌, ℕ}
use Rattle.btr_disk.specs.Bytes.{Image}
use Rattle.btr_super.specs.declared.superblock.Super.{Super}
use Rattle.btr_super.specs.Choose.{HasNoSuper, IsChosen, IsDamagedSuper}
use Rattle.btr_open.specs.Start.{IsWrongStart}
use Rattle.btr_open.specs.Walk.{IsDamagedLog}

-- This block of the store of a superblock is damaged: one of the start that the superblock names, or the first one of the log after it.
abbrev pub IsDamagedStore : Image → Super → ℕ → Type 0
IsDamagedStore image s block = IsWrongStart image s block ⊎ IsDamagedLog image s block

-- This block is damaged: that of an open superblock, or one of the chosen store.
abbrev pub IsDamaged : ℕ → Image → ℕ → Type 0
IsDamaged size image block =
    IsDamagedSuper size image block ⊎ ((s : Super) × IsChosen size image s × IsDamagedStore image s block)

-- The device has a store, and no block of it is damaged.
abbrev pub IsUndamaged : ℕ → Image → Type 0
IsUndamaged size image = (HasNoSuper size image → ⊥) × ((block : ℕ) → IsDamaged size image block → ⊥)
