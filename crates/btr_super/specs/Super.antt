-- Superblocks: the bytes of one, and the table that it keeps.
use Rattle.std.specs.Prelude.{◌≡◌, ◌⊎◌, ℕ, ◌+◌, ◌-◌, ◌^◌, ◌<◌, ◌≤◌, nat_eq, nat_le, nat_lt, Bool, ◌&&◌, ◌||◌, if◌then◌else◌}
use Rattle.std.specs.Prelude.{List, ◌++◌, codes}
use Rattle.std.specs.Int.{w32, w64, to_be_bytes}
use Rattle.btr_disk.specs.Gate.{zeros}
use Rattle.btr_super.specs.declared.superblock.Super.{Super}

-- The store is sealed: its superblock has format 4, and no other store's has.
abbrev pub has_seal : Super → Bool
has_seal s = nat_eq s.format 4

-- The number in a superblock's body that says so.
abbrev pub seal_word : Super → ℕ
seal_word s = if has_seal s then 1 else 0

-- The 4096 bytes of a superblock's body; numbers have their highest byte first.
unfoldable pub super_bytes : Super → List ℕ
super_bytes s =
    codes "BTR-SUPR"
    ++ to_be_bytes w32 s.format
    ++ zeros 4
    ++ to_be_bytes w64 s.seq
    ++ to_be_bytes w64 s.blocks
    ++ to_be_bytes w64 s.tail
    ++ to_be_bytes w64 s.checkpoint
    ++ to_be_bytes w64 (seal_word s)
    ++ zeros 4040

-- The log is read from its beginning, or from a gate after that of a checkpoint.
abbrev pub IsLogStart : ℕ → ℕ → Type 0
IsLogStart checkpoint tail = ((checkpoint ≡ 0) × (tail ≡ 4)) ⊎ ((4 ≤ checkpoint) × (checkpoint < tail))

-- Whether it is read so.
abbrev pub is_log_start : ℕ → ℕ → Bool
is_log_start checkpoint tail = (nat_eq checkpoint 0 && nat_eq tail 4) || (nat_le 4 checkpoint && nat_lt checkpoint tail)

-- The table that a superblock keeps on a device of `size` blocks.
pub record IsSuper (size : ℕ) (s : Super) : Type 0 where
  pub known_format : (1 ≤ s.format) × (s.format ≤ 4)
  pub has_side : s.side ≤ 1
  pub seq_from : 1 ≤ s.seq
  pub seq_to : s.seq ≤ s.tail - 4 + s.format
  pub blocks_from : 8 ≤ s.blocks
  pub blocks_to : s.blocks ≤ 2 ^ 32
  pub inside : s.blocks ≤ size
  pub tail_from : 4 ≤ s.tail
  pub tail_to : s.tail < s.blocks
  pub start : IsLogStart s.checkpoint s.tail

-- Each field fits the number that spells it.
pub record FitsFields (s : Super) : Type 0 where
  pub format : s.format < 2 ^ 32
  pub seq : s.seq < 2 ^ 64
  pub blocks : s.blocks < 2 ^ 64
  pub tail : s.tail < 2 ^ 64
  pub checkpoint : s.checkpoint < 2 ^ 64

-- The superblock of a store that has no entry: side A, the first number, and the log from its beginning.
abbrev pub first_super : ℕ → Super
first_super blocks = record { seq = 1; side = 0; blocks = blocks; tail = 4; checkpoint = 0; format = 1 }
