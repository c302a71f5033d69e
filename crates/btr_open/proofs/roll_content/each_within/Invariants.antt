use Rattle.std.proofs.Common.{◌≡◌, ◌<◌, ◌≤◌, ℕ}
use Rattle.std.specs.Prelude.{slice_get, Some}
use Rattle.btr_roll.specs.declared.roll.RollVersion.{RollVersion}
use Rattle.btr_open.proofs.roll_content.each_within.Given as goal

-- The versions so far were made by these entries.
abbrev pub invariant-loop-version : goal.invariant-loop-version
invariant-loop-version l =
    (k : ℕ) (v : RollVersion) → k < l.version-index → slice_get l.versions k ≡ Some v → (1 ≤ v.entry) × (v.entry ≤ l.entries)
