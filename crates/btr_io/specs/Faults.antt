-- The counts of a source or a sink: the calls that were made, and the faults, whose count rises exactly when a call fails.
use Rattle.std.specs.Prelude.{◌≡◌, ℕ, ◌+◌, ◌-◌, ◌^◌, ◌≤◌, min, Result, OnOk, OnErr}

-- The count rose, or it is at the greatest u64.
abbrev pub Rose : ℕ → ℕ → Type 0
Rose before now = min (before + 1) (2 ^ 64 - 1) ≤ now

-- Exactly n calls were counted: the count rose by n, and only from 2 ^ 64 - 1 on it may stay.
pub record CountedTimes (n before now : ℕ) : Type 0 where
  pub rose : min (before + n) (2 ^ 64 - 1) ≤ now
  pub exact : now ≤ before + n

-- The counts before and after a call with this result: an Ok keeps the count, and an Err raises it.
pub record HasCause {T E : Type 0} (before now : ℕ) (result : Result T E) : Type 0 where
  pub never_falls : before ≤ now
  pub same : OnOk result (now ≡ before)
  pub cause : OnErr result (Rose before now)
