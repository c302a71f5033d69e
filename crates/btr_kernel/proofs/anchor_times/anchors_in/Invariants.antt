use Rattle.std.proofs.Common.{◌≡◌, ◌++◌, drop}
use Rattle.std.specs.List.{filter}
use Rattle.btr_base.specs.Range.{covered}
use Rattle.btr_hist.specs.Kernel.{anchors}
use Rattle.btr_kernel.proofs.anchor_times.anchors_in.Given as goal

-- The anchors so far, and those of the points from here on.
abbrev pub invariant-loop-i : goal.invariant-loop-i
invariant-loop-i l =
    l.times.items ++ filter (covered l.ranges) (anchors (drop l.i l.points)) ≡ filter (covered l.ranges) (anchors l.points)
