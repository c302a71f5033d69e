use Rattle.std.proofs.Common.{◌≡◌, ◌*◌, ◌≤◌, length, take}
use Rattle.std.specs.List.{flat_map}
use Rattle.btr_roll.specs.Roll.{version_bytes}
use Rattle.btr_roll.proofs.lengths.versions_length.Given as goal

-- The bytes so far are those of the earlier versions.
abbrev pub invariant-loop-version : goal.invariant-loop-version
invariant-loop-version l = (l.bytes ≡ length (flat_map version_bytes (take l.version-index l.versions))) × (l.bytes ≤ 33 * l.version-index)
