use Rattle.std.proofs.Common.{◌≡◌, take}
use Rattle.btr_window.specs.Accumulate.{add_points, AreStarts}
use Rattle.btr_window.proofs.accumulate.add_points.Given as goal

-- The points so far are added.
abbrev pub invariant-loop-point : goal.invariant-loop-point
invariant-loop-point l = record {
  cells : l.cells.items ≡ add_points l.grid.first l.grid.width l.fn.cells.items (take l.point-index l.points);
  starts : AreStarts l.grid l.cells.items;
}
