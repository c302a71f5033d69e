-- What a device in memory remembers of its calls, and the images that follow from it.
use Rattle.std.specs.Prelude.{◌≡◌, ◌⊎◌, ℕ, ◌+◌, ◌-◌, ◌*◌, ◌<◌, ◌≤◌, Bool, List, [], ◌∷◌, ◌++◌, length, take, drop, reverse}
use Rattle.std.specs.Prelude.{slice_index, vec_len}
use Rattle.btr_disk.specs.Bytes.{Image, Has, Same, SameBut, AreBytes}
use Rattle.btr_disk.specs.Causes.{Counted}
use Rattle.btr_disk.specs.Torn.{IsTornAt, Tore}
use Rattle.btr_disk.specs.declared.call_record.Call.{Call}
use Rattle.btr_disk.specs.declared.call_record.Call.TheVariants.{Nothing, Wrote, Synced}
use Rattle.btr_disk.specs.declared.call_record.CallRecord.{CallRecord}

-- The byte at each address, and 0 past the last.
abbrev pub contents_of : List ℕ → Image
contents_of bytes k = slice_index bytes k

-- The address was written since the last sync that succeeded. Lists of calls have the newest first.
abbrev pub IsUnsyncedAt : List Call → ℕ → Type 0
IsUnsyncedAt [] k = ⊥
IsUnsyncedAt (Nothing ∷ earlier) k = IsUnsyncedAt earlier k
IsUnsyncedAt (Wrote address n ∷ earlier) k = ((address ≤ k) × (k < address + n)) ⊎ IsUnsyncedAt earlier k
IsUnsyncedAt (Synced ∷ earlier) k = ⊥

-- What a crash may leave: any bytes at the unsynced addresses and in the torn blocks, and the contents elsewhere.
pub record MayLeave (contents : Image) (calls : List Call) (torn : List Bool) (c : Image) : Type 0 where
  pub bytes : AreBytes c
  pub synced : (k : ℕ) → (IsUnsyncedAt calls k → ⊥) → (IsTornAt torn k → ⊥) → c k ≡ contents k

-- `past` is what a read returned before the call.
abbrev pub IsBefore : Call → List ℕ → Image → Image → Type 0
IsBefore Nothing replaced now past = Same now past
IsBefore (Wrote address n) replaced now past = SameBut address n now past × Has past address (drop (length replaced - n) replaced)
IsBefore Synced replaced now past = Same now past

-- What earlier writes replaced, the newest last.
abbrev pub replaced_before : Call → List ℕ → List ℕ
replaced_before Nothing replaced = replaced
replaced_before (Wrote address n) replaced = take (length replaced - n) replaced
replaced_before Synced replaced = replaced

-- What a crash after call number t, or after a later one of these calls, may have left.
abbrev pub MayHaveLeft : Image → List Call → List ℕ → ℕ → Image → Type 0
MayHaveLeft now [] replaced t c = MayLeave now [] [] c
MayHaveLeft now (call ∷ earlier) replaced t c =
    MayLeave now (call ∷ earlier) [] c
    ⊎ ((t ≤ length earlier)
    × ((past : Image) × IsBefore call replaced now past × MayHaveLeft past earlier (replaced_before call replaced) t c))

-- The calls of the record, the newest first.
abbrev pub newest_first : CallRecord → List Call
newest_first made = reverse made.calls.items

-- What a crash may leave now, of a device that has these contents.
abbrev pub MayLeaveNow : Image → CallRecord → Image → Type 0
MayLeaveNow now made = MayLeave now (newest_first made) made.torn.flags.items

-- What a crash may leave now, or may have left after the call number or a later call of the record.
abbrev pub MayLeaveSince : Image → CallRecord → ℕ → Image → Type 0
MayLeaveSince now made t c = MayLeaveNow now made c ⊎ MayHaveLeft now (newest_first made) made.replaced.items t c

-- How many calls were made, with those that the record left out.
abbrev pub call_count : CallRecord → ℕ
call_count made = length made.calls.items + made.unrecorded

-- No call was made.
pub record IsEmpty (made : CallRecord) : Type 0 where
  pub no_calls : made.calls.items ≡ []
  pub none_replaced : made.replaced.items ≡ []
  pub none_unrecorded : made.unrecorded ≡ 0

-- The call is in the record, and so are the bytes that it replaced.
pub record Records (call : Call) (bytes : List ℕ) (old new : CallRecord) : Type 0 where
  pub none_unrecorded : old.unrecorded ≡ 0
  pub still_none : new.unrecorded ≡ 0
  pub calls : new.calls.items ≡ old.calls.items ++ call ∷ []
  pub replaced : new.replaced.items ≡ old.replaced.items ++ bytes
  pub torn : new.torn.flags.items ≡ old.torn.flags.items
  pub capacity : new.capacity ≡ old.capacity

-- The record is full: the call was counted alone.
pub record IsLeftOut (old new : CallRecord) : Type 0 where
  pub some_unrecorded : 0 < new.unrecorded
  pub unrecorded : Counted old.unrecorded new.unrecorded
  pub calls : new.calls.items ≡ old.calls.items
  pub replaced : new.replaced.items ≡ old.replaced.items
  pub torn : new.torn.flags.items ≡ old.torn.flags.items
  pub capacity : new.capacity ≡ old.capacity

-- Blocks were marked as torn, and nothing else changed.
pub record TearsOnly (first count : ℕ) (old new : CallRecord) : Type 0 where
  pub calls : new.calls.items ≡ old.calls.items
  pub replaced : new.replaced.items ≡ old.replaced.items
  pub unrecorded : new.unrecorded ≡ old.unrecorded
  pub torn : Tore first count old.torn.flags.items new.torn.flags.items
  pub capacity : new.capacity ≡ old.capacity

-- The record has room for one more call that replaces this many bytes.
pub record CanRecord (made : CallRecord) (bytes : ℕ) : Type 0 where
  pub none_unrecorded : made.unrecorded ≡ 0
  pub call_fits : vec_len made.calls < made.capacity.calls
  pub bytes_fit : vec_len made.replaced + bytes ≤ 4096 * made.capacity.blocks

-- The record can hold this many calls, and the bytes of this many blocks.
pub record HasCapacity (calls blocks : ℕ) (made : CallRecord) : Type 0 where
  pub calls_fit : made.capacity.calls ≡ calls
  pub blocks_fit : made.capacity.blocks ≡ blocks
