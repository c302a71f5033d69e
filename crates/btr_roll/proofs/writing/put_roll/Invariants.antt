use Rattle.std.proofs.Common.{◌≡◌, ◌++◌, take}
use Rattle.std.specs.List.{flat_map}
use Rattle.btr_roll.specs.Roll.{stream_bytes}
use Rattle.btr_roll.proofs.writing.put_roll.Given as goal

abbrev pub invariant-loop-stream : goal.invariant-loop-stream
invariant-loop-stream l = l.out.items ≡ l.initial.out.items ++ flat_map (stream_bytes l.format) (take l.stream-index l.streams)
