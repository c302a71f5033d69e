-- What a device in memory means: its images now, those since a call number, and which of its calls fail.
use Rattle.std.specs.Prelude.{◌≡◌, ℕ, ◌==◌, Bool, List, length, take, drop, IsTrue, IsFalse}
use Rattle.std.specs.List.{list_any}
use Rattle.btr_disk.specs.Bytes.{Image}
use Rattle.btr_disk.specs.CallRecord.{CanRecord, HasCapacity, Records, contents_of, call_count, MayLeaveNow, MayLeaveSince}
use Rattle.btr_disk.specs.declared.call_record.Call.TheVariants.{Wrote}
use Rattle.btr_disk.specs.declared.memory.MemDisk.{MemDisk}

-- What a crash may leave now.
abbrev pub images_of : MemDisk → Image → Type 0
images_of disk = MayLeaveNow (contents_of disk.bytes.items) disk.made

-- What a crash may leave now, or may have left after the call number or a later call.
abbrev pub since_of : MemDisk → ℕ → Image → Type 0
since_of disk = MayLeaveSince (contents_of disk.bytes.items) disk.made

-- What a read returns.
abbrev pub memory_contents : MemDisk → Image
memory_contents disk = contents_of disk.bytes.items

-- The number of calls that were made.
abbrev pub memory_calls : MemDisk → ℕ
memory_calls disk = call_count disk.made

-- No call was made of the device and none failed. The calls of this list will fail, and it can remember this much.
pub record IsUnusedDisk (failing : List ℕ) (calls blocks : ℕ) (disk : MemDisk) : Type 0 where
  pub no_calls : memory_calls disk ≡ 0
  pub no_faults : disk.faults ≡ 0
  pub list : disk.failing.items ≡ failing
  pub capacity : HasCapacity calls blocks disk.made

-- The number of the next call is in the list of those that fail.
abbrev pub is_listed : MemDisk → Bool
is_listed disk = list_any (λ call. call == length disk.made.calls.items) disk.failing.items

-- A call that is listed fails, and so does a call for which the record has no room, or no room for the bytes that it replaces. No other
-- call fails. The list and the capacity stay.
pub record FailsAsListed (bytes : ℕ) (old new : MemDisk) (fails : Type 0) : Type 0 where
  pub listed : IsTrue (is_listed old) → fails
  pub full : (CanRecord old.made bytes → ⊥) → fails
  pub alone : IsFalse (is_listed old) → CanRecord old.made bytes → fails → ⊥
  pub list : new.failing.items ≡ old.failing.items
  pub capacity : new.made.capacity ≡ old.made.capacity

-- A write of n bytes at the address is in the record, with the bytes that it replaces.
abbrev pub RecordsWrite : ℕ → ℕ → MemDisk → MemDisk → Type 0
RecordsWrite address n old new = Records (Wrote address n) (take n (drop address old.bytes.items)) old.made new.made
