-- Counts of a device: the calls that were made, and the faults, of which each failure is one.
use Rattle.std.specs.Prelude.{◌≡◌, ℕ, ◌+◌, ◌-◌, ◌^◌, ◌≤◌, min, Result, OnOk, OnErr}

-- The count rose, or it is at the greatest value of a u64.
abbrev pub Rose : ℕ → ℕ → Type 0
Rose old new = min (old + 1) (2 ^ 64 - 1) ≤ new

-- One call was counted: the count rose by one, and only from 2 ^ 64 - 1 on it may stay.
pub record Counted (old new : ℕ) : Type 0 where
  pub later : old ≤ new
  pub rose : Rose old new
  pub exact : new ≤ old + 1

-- Exactly n calls were counted: the count rose by n, and only from 2 ^ 64 - 1 on it may stay.
pub record CountedTimes (n old new : ℕ) : Type 0 where
  pub rose : min (old + n) (2 ^ 64 - 1) ≤ new
  pub exact : new ≤ old + n

-- At most n calls were counted, and exactly n if all of them succeeded.
pub record CountsCalls {T E : Type 0} (n old new : ℕ) (result : Result T E) : Type 0 where
  pub later : old ≤ new
  pub at_most : new ≤ old + n
  pub all : OnOk result (CountedTimes n old new)

-- The count of faults never falls, and a call fails only if it rose.
pub record HasCause {T E : Type 0} (old new : ℕ) (result : Result T E) : Type 0 where
  pub later : old ≤ new
  pub failed : OnErr result (Rose old new)

-- The count of faults never falls, and it rose if a fault is returned.
pub record CausesFault (before now : ℕ) (fault : Type 0) : Type 0 where
  pub later : before ≤ now
  pub rose : fault → Rose before now

-- The device has as many blocks as before, and its counts have not fallen.
pub record KeepsCounts {D : Type 0} (size calls faults : D → ℕ) (old new : D) : Type 0 where
  pub same_size : size new ≡ size old
  pub more_calls : calls old ≤ calls new
  pub more_faults : faults old ≤ faults new

-- Calls of a device: it has as many blocks as before, at most n calls were counted, and a fault has its cause.
pub record UsesDevice {D T E : Type 0} (n : ℕ) (size calls faults : D → ℕ) (old new : D) (result : Result T E) (fault : Type 0)
    : Type 0 where
  pub same_size : size new ≡ size old
  pub counted : CountsCalls n (calls old) (calls new) result
  pub cause : CausesFault (faults old) (faults new) fault
