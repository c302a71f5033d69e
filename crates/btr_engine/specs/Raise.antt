-- The raise: the superblock of a higher format that replaces the chosen one before the extent of an entry that needs it, and the calls of
-- the device.
use Rattle.std.specs.Prelude.{◌≡◌, ◌⊎◌, ℕ, ◌+◌, ◌-◌, ◌*◌, ◌<◌, ◌≤◌, nat_lt, true, false, Option, Some, None, if◌then◌else◌}
use Rattle.btr_disk.specs.Bytes.{Image, Same, SameBut}
use Rattle.btr_disk.specs.Causes.{CountedTimes}
use Rattle.btr_super.specs.declared.superblock.Super.{Super}
use Rattle.btr_super.specs.Super.{is_log_start, has_seal}
use Rattle.btr_hist.specs.declared.entry.Entry.{Entry}
use Rattle.btr_entry.specs.Format.{format_of}

-- ---- superblocks

-- The superblock can be followed by one on the other side with the next number, which keeps the table too.
pub record IsFollowable (s : Super) : Type 0 where
  pub side : s.side ≤ 1
  pub seq : s.seq + 4 ≤ s.tail + s.format
  pub format_from : 1 ≤ s.format
  pub format_to : s.format ≤ 4
  pub tail : 4 ≤ s.tail
  pub start : is_log_start s.checkpoint s.tail ≡ true

-- The superblock that follows another one in this format: it is on the other side and has the next number. It says of the log what the
-- other one says.
abbrev pub raised : Super → ℕ → Super
raised s format =
    record { seq = s.seq + 1; side = 1 - s.side; blocks = s.blocks; tail = s.tail; checkpoint = s.checkpoint; format = format }

-- The superblock that replaces this one before the extent of the entry is written: one of the entry's format, if that is higher.
abbrev pub raise_for : Super → Entry → Option Super
raise_for s e = if nat_lt s.format (format_of e) then Some (raised s (format_of e)) else None

-- The superblock that is chosen after a raise, or if there was none.
abbrev pub super_after : Super → Option Super → Super
super_after s None = s
super_after s (Some next) = next

-- The superblock follows the other one, and says the same of the log. It has a higher format, and is not that of a sealed store.
pub record Raises (s next : Super) : Type 0 where
  pub other : next.side ≡ 1 - s.side
  pub later : next.seq ≡ s.seq + 1
  pub same_blocks : next.blocks ≡ s.blocks
  pub same_tail : next.tail ≡ s.tail
  pub same_checkpoint : next.checkpoint ≡ s.checkpoint
  pub higher : s.format < next.format
  pub unsealed : has_seal next ≡ false

-- The superblock, if there is one, may replace the chosen one before an extent is written.
abbrev pub MayRaise : Super → Option Super → Type 0
MayRaise s None = Unit {0}
MayRaise s (Some next) = Raises s next

-- All outside the two blocks of the side of the raised superblock, if there is one, is as before.
abbrev pub KeepsButRaise : Option Super → Image → Image → Type 0
KeepsButRaise None old new = Same old new
KeepsButRaise (Some next) old new = SameBut (8192 * next.side) 8192 old new

-- ---- calls of the device

-- The calls of a raise: none without one, else five or seven, which replace the superblock.
abbrev pub CountsRaise : Option Super → ℕ → ℕ → Type 0
CountsRaise None old new = new ≡ old
CountsRaise (Some next) old new = CountedTimes 5 old new ⊎ CountedTimes 7 old new

abbrev pub most_raise : Option Super → ℕ
most_raise None = 0
most_raise (Some next) = 7

-- The calls that make an entry durable: a write and a sync for its extent and then for the gate before it. A raise comes before them.
abbrev pub CountsWrite : Option Super → ℕ → ℕ → Type 0
CountsWrite None old new = CountedTimes 4 old new
CountsWrite (Some next) old new = CountedTimes 9 old new ⊎ CountedTimes 11 old new

abbrev pub most_calls : Option Super → ℕ
most_calls raise = most_raise raise + 4

-- These calls, if the superblock is not known that was chosen. An entry of format 1 raises none.
abbrev pub CountsEntry : Entry → ℕ → ℕ → Type 0
CountsEntry e old new = CountedTimes 4 old new ⊎ ((1 < format_of e) × (CountedTimes 9 old new ⊎ CountedTimes 11 old new))

abbrev pub most_calls_of : Entry → ℕ
most_calls_of e = if nat_lt 1 (format_of e) then 11 else 4
