-- The loop over the points of an output.
use Rattle.std.proofs.Common.{◌≡◌, ◌++◌, map, take}
use Rattle.btr_store.specs.LoadLines.{refused_point}
use Rattle.btr_store.proofs.load_lines.add_rows.Given as goal

abbrev pub invariant-loop-point : goal.invariant-loop-point
invariant-loop-point l = l.rows.items ≡ l.fn.rows.items ++ map refused_point (take l.point-index l.points)
