use Rattle.std.proofs.Common.{◌≡◌, ◌+◌, ◌*◌, ◌≤◌, length, take}
use Rattle.std.specs.List.{flat_map}
use Rattle.btr_base.specs.declared.limits.TheConstants.{MAX_VERSIONS}
use Rattle.btr_roll.specs.Roll.{stream_bytes}
use Rattle.btr_roll.proofs.lengths.streams_length.Given as goal

-- The bytes so far are those of the earlier streams.
abbrev pub invariant-loop-stream : goal.invariant-loop-stream
invariant-loop-stream l =
    (l.bytes ≡ length (flat_map (stream_bytes l.format) (take l.stream-index l.streams))) × (l.bytes ≤ (84 + 33 * MAX_VERSIONS) * l.stream-index)
