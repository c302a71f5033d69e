use Rattle.std.proofs.Common.{◌≡◌, take}
use Rattle.std.specs.List.{filter}
use Rattle.btr_base.specs.declared.point.Point.{Point}
use Rattle.btr_base.specs.Range.{covered}
use Rattle.btr_tree.specs.History.{Past, bag}
use Rattle.btr_tree.specs.Root.{IsTree}
use Rattle.btr_hist.specs.Distil.{cell_points}
use Rattle.btr_distil.proofs.cells.cells_over.Given as goal

-- The points in the ranges so far.
abbrev pub invariant-loop-range : goal.invariant-loop-range
invariant-loop-range l =
    (h : Past) → IsTree h l.tree
    → l.points.items ≡ filter (λ (q : Point). covered (take l.range-index l.range-items) q.time) (cell_points (record { which = l.which; p = l.p }) (bag h))
