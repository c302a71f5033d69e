use Rattle.std.proofs.Common.{◌≡◌, ◌≤◌, ◌-◌, ◌++◌, length}
use Rattle.std.specs.List.{flat_map, AllByRecursion}
use Rattle.btr_roll.specs.Roll.{version_bytes, VersionFits}
use Rattle.btr_roll.proofs.reading.read_versions.Given as goal

abbrev pub invariant-loop-rest : goal.invariant-loop-rest
invariant-loop-rest l = record {
  few : length l.versions.items ≤ l.count;
  each : AllByRecursion (VersionFits l.output) l.versions.items;
  parts : l.bytes ≡ flat_map version_bytes l.versions.items ++ l.rest;
}

abbrev pub decreases-loop-rest : goal.decreases-loop-rest
decreases-loop-rest l = l.count - length l.versions.items
