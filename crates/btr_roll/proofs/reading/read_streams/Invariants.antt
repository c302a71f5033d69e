use Rattle.std.proofs.Common.{◌≡◌, ◌≤◌, ◌-◌, ◌++◌, length}
use Rattle.std.specs.List.{flat_map, AllByRecursion}
use Rattle.btr_roll.specs.Roll.{stream_bytes, StreamFits}
use Rattle.btr_roll.proofs.reading.read_streams.Given as goal

abbrev pub invariant-loop-alloc : goal.invariant-loop-alloc
invariant-loop-alloc l = record {
  few : length l.streams.items ≤ l.count;
  each : AllByRecursion (StreamFits l.format) l.streams.items;
  parts : l.bytes ≡ flat_map (stream_bytes l.format) l.streams.items ++ l.rest;
}

abbrev pub decreases-loop-alloc : goal.decreases-loop-alloc
decreases-loop-alloc l = l.count - length l.streams.items
