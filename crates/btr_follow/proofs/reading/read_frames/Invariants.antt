-- The frames so far fit, and are those of the bytes before the rest.
use Rattle.std.proofs.Common.{◌≡◌, ◌++◌, length}
use Rattle.std.specs.List.{flat_map, AllByRecursion}
use Rattle.btr_follow.specs.Frames.{frame_bytes, FrameFits}
use Rattle.btr_follow.proofs.reading.read_frames.Given as goal

abbrev pub invariant-loop-number : goal.invariant-loop-number
invariant-loop-number l = record {
  fit : AllByRecursion FrameFits l.frames.items;
  parts : l.bytes ≡ flat_map frame_bytes l.frames.items ++ l.rest;
}

abbrev pub decreases-loop-number : goal.decreases-loop-number
decreases-loop-number l = length l.rest
