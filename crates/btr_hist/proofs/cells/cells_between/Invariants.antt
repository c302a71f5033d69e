use Rattle.std.proofs.Common.{◌≡◌, ◌++◌, map, drop}
use Rattle.btr_base.specs.Windows.{window_of, cell_of, windows_with}
use Rattle.btr_hist.proofs.WindowWalk.{dedup_after}
use Rattle.btr_hist.proofs.cells.cells_between.Given as goal

abbrev pub invariant-loop-point : goal.invariant-loop-point
invariant-loop-point l =
    l.cells.items ++ map (cell_of l.grid.first l.grid.width l.points) (dedup_after l.last (map (λ p. window_of l.grid.first l.grid.width p.time) (drop l.point-index l.point-items)))
    ≡ map (cell_of l.grid.first l.grid.width l.points) (windows_with l.grid.first l.grid.width l.point-items)
