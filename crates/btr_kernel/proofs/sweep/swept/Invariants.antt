use Rattle.std.proofs.Common.{◌≡◌, ◌++◌, drop}
use Rattle.btr_hist.specs.Distil.{value_of, points_from}
use Rattle.btr_kernel.specs.Swept.{IsSweep}
use Rattle.btr_kernel.proofs.sweep.swept.Given as goal

-- The points so far, and those of the anchors from here on.
abbrev pub invariant-loop-time : goal.invariant-loop-time
invariant-loop-time l = record {
  sweep : IsSweep l.first l.second l.sweep;
  made : l.made.items ++ points_from (value_of l.spec (record { first = l.first; second = l.second })) (drop l.time-index l.times) ≡ points_from (value_of l.spec (record { first = l.first; second = l.second })) l.times;
}
