-- What a check promises: the verdict on a device, and why there is none.
use Rattle.std.specs.Prelude.{◌≡◌, ℕ}
use Rattle.btr_disk.specs.Bytes.{Image}
use Rattle.btr_disk.specs.Causes.{Rose}
use Rattle.btr_check.specs.declared.verdict.Verdict.{Verdict}
use Rattle.btr_check.specs.declared.verdict.Verdict.TheVariants.{Stands, Wrong, NotAStore, Fault, Want}
use Rattle.btr_check.specs.Verdict.{IsVerdict}

-- The verdict is right for a device with these bytes, if `known` holds of them. `before` and `after` are its counts of faults.
abbrev pub VerdictHolds : Type 0 → ℕ → Image → ℕ → ℕ → Verdict → Type 0
VerdictHolds known size image before after (Stands entries) = known → IsVerdict size image (Stands entries)
VerdictHolds known size image before after (Wrong block) = known → IsVerdict size image (Wrong block)
VerdictHolds known size image before after NotAStore = known → IsVerdict size image NotAStore
VerdictHolds known size image before after Fault = Rose before after
VerdictHolds known size image before after Want = Unit {0}

-- The check returned this verdict, unless the device failed or memory ran out.
abbrev pub IsUnlessEnded : Verdict → Verdict → Type 0
IsUnlessEnded verdict Fault = Unit {0}
IsUnlessEnded verdict Want = Unit {0}
IsUnlessEnded verdict result = result ≡ verdict
