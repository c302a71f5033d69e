use Rattle.std.proofs.Common.{◌≡◌, take}
use Rattle.std.specs.List.{filter}
use Rattle.btr_base.specs.declared.point.Point.{Point}
use Rattle.btr_base.specs.Range.{covered}
use Rattle.btr_tree.specs.History.{Past, bag}
use Rattle.btr_tree.specs.Root.{IsTree}
use Rattle.btr_kernel.proofs.gather.gather.Given as goal

-- The points in the ranges so far.
abbrev pub invariant-loop-part : goal.invariant-loop-part
invariant-loop-part l =
    (h : Past) → IsTree h l.tree → l.points.items ≡ filter (λ (p : Point). covered (take l.part-index l.part-items) p.time) (bag h)
