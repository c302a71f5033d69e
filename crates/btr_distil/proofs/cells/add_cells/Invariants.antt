use Rattle.std.proofs.Common.{◌≡◌, ◌++◌, take}
use Rattle.std.specs.List.{filter_map}
use Rattle.btr_cell.specs.Cells.{cell_point}
use Rattle.btr_distil.proofs.cells.add_cells.Given as goal

-- The points of the windows so far are added.
abbrev pub invariant-loop-cell : goal.invariant-loop-cell
invariant-loop-cell l =
    l.points.items ≡ l.fn.points.items ++ filter_map (cell_point l.which l.from) (take l.cell-index l.cells)
