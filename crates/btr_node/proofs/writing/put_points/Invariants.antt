use Rattle.std.proofs.Common.{◌≡◌, ◌+◌, ◌*◌, ◌++◌, take}
use Rattle.std.specs.List.{flat_map}
use Rattle.btr_node.specs.Page.{point_bytes}
use Rattle.btr_node.proofs.writing.put_points.Given as goal

abbrev pub invariant-loop-i : goal.invariant-loop-i
invariant-loop-i l = take (64 + 16 * l.i) l.to ≡ take 64 l.fn.to ++ flat_map point_bytes (take l.i l.points)
