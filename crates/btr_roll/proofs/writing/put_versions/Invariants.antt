use Rattle.std.proofs.Common.{◌≡◌, ◌++◌, take}
use Rattle.std.specs.List.{flat_map}
use Rattle.btr_roll.specs.Roll.{version_bytes}
use Rattle.btr_roll.proofs.writing.put_versions.Given as goal

abbrev pub invariant-loop-version : goal.invariant-loop-version
invariant-loop-version l = l.out.items ≡ l.initial.out.items ++ flat_map version_bytes (take l.version-index l.versions)
