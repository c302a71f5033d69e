-- The record of a device in memory, undone from the newest call back to the last sync that succeeded.
use Rattle.std.specs.Prelude.{ℕ, ◌+◌, ◌-◌, ◌&&◌, nat_le, Bool, true, List, [], ◌∷◌}
use Rattle.btr_disk.specs.Bytes.{Image, Same}
use Rattle.btr_disk.specs.CallRecord.{IsBefore, replaced_before}
use Rattle.btr_disk.specs.declared.call_record.Call.{Call}
use Rattle.btr_disk.specs.declared.call_record.Call.TheVariants.{Nothing, Wrote, Synced}

-- Each write since the last sync lies inside a device of `size` bytes, and what it replaced is at the end of the `replaced` bytes that the
-- record then has. Lists of calls have the newest first.
abbrev pub is_replayable : List Call → ℕ → ℕ → Bool
is_replayable [] replaced size = true
is_replayable (Nothing ∷ earlier) replaced size = is_replayable earlier replaced size
is_replayable (Wrote address n ∷ earlier) replaced size =
    nat_le (address + n) size && (nat_le n replaced && is_replayable earlier (replaced - n) size)
is_replayable (Synced ∷ earlier) replaced size = true

-- The image is what a read returned at the last sync that succeeded, or of a device without one, when it was made.
abbrev pub WasAtLastSync : Image → List Call → List ℕ → Image → Type 0
WasAtLastSync now [] replaced image = Same now image
WasAtLastSync now (Nothing ∷ earlier) replaced image = WasAtLastSync now earlier replaced image
WasAtLastSync now (Wrote address n ∷ earlier) replaced image =
    (past : Image)
    × IsBefore (Wrote address n) replaced now past
    × WasAtLastSync past earlier (replaced_before (Wrote address n) replaced) image
WasAtLastSync now (Synced ∷ earlier) replaced image = Same now image
