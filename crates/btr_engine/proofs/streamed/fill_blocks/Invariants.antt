use Rattle.std.proofs.Common.{◌≡◌, ◌*◌, true, length, take, drop}
use Rattle.btr_engine.specs.Streamed.{streamed_bytes}
use Rattle.btr_engine.proofs.streamed.fill_blocks.Given as goal

-- As many bytes as before, and those of the blocks so far.
abbrev pub invariant-loop-i : goal.invariant-loop-i
invariant-loop-i l =
    (length l.to ≡ length l.fn.to)
    × (take (4096 * l.i) l.to ≡ take (4096 * l.i) (drop (4096 * l.first) (streamed_bytes true l.stream l.nodes)))
