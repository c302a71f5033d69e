-- The laws of the moments of a device in memory, which its ghost members cite.
use Rattle.std.specs.Prelude.{ℕ, ◌≤◌, Bool, List, [], ◌∷◌, length}
use Rattle.std.proofs.Common.{inl, inr, arith}
use Rattle.std.proofs.lemmas.List.{length-reverse}
use Rattle.btr_disk.specs.Bytes.{Image}
use Rattle.btr_disk.specs.CallRecord.{MayLeave, MayHaveLeft, MayLeaveNow, MayLeaveSince, newest_first, call_count, replaced_before}
use Rattle.btr_disk.specs.declared.call_record.Call.{Call}
use Rattle.btr_disk.specs.declared.call_record.CallRecord.{CallRecord}

-- Torn blocks add images.
pub MayLeave-torn : (now : Image) (calls : List Call) (torn : List Bool) (c : Image) → MayLeave now calls [] c → MayLeave now calls torn c
MayLeave-torn now calls torn c left =
    record { bytes = left.bytes; synced = λ k no _. left.synced k no (λ none. absurd (cc)) }

at_end : (now : Image) (calls : List Call) (replaced : List ℕ) (t : ℕ) (c : Image)
    → length calls ≤ t → MayHaveLeft now calls replaced t c → MayLeave now calls [] c
at_end now [] replaced t c le left = left
at_end now (call ∷ earlier) replaced t c le (inl left) = left
at_end now (call ∷ earlier) replaced t c le (inr past) = absurd (omega (arith, past.0))

earlier_too : (now : Image) (calls : List Call) (replaced : List ℕ) (s t : ℕ) (c : Image)
    → s ≤ t → MayHaveLeft now calls replaced t c → MayHaveLeft now calls replaced s c
earlier_too now [] replaced s t c le left = left
earlier_too now (call ∷ earlier) replaced s t c le (inl left) = inl left
earlier_too now (call ∷ earlier) replaced s t c le (inr past) =
    inr (omega (arith, past.0), (past.1.0, past.1.1, earlier_too past.1.0 earlier (replaced_before call replaced) s t c le past.1.2))

module _ (now : Image) (made : CallRecord) where
  pub counts_now_of : (t : ℕ) (c : Image) → MayLeaveNow now made c → MayLeaveSince now made t c
  counts_now_of t c left = inl left

  pub only_now_of : (c : Image) → MayLeaveSince now made (call_count made) c → MayLeaveNow now made c
  only_now_of c (inl left) = left
  only_now_of c (inr left) =
      MayLeave-torn now (newest_first made) made.torn.flags.items c
      (at_end now (newest_first made) made.replaced.items (call_count made) c (omega (arith, length-reverse made.calls.items)) left)

  pub fewer_later_of : (s t : ℕ) (c : Image) → s ≤ t → MayLeaveSince now made t c → MayLeaveSince now made s c
  fewer_later_of s t c le (inl left) = inl left
  fewer_later_of s t c le (inr left) = inr (earlier_too now (newest_first made) made.replaced.items s t c le left)
