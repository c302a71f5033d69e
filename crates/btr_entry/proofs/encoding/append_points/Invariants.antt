use Rattle.std.proofs.Common.{◌≡◌, ◌++◌, take}
use Rattle.std.specs.List.{flat_map}
use Rattle.btr_entry.specs.Grammar.{point, ValuesFit}
use Rattle.btr_entry.proofs.encoding.append_points.Given as goal

abbrev pub invariant-loop-point : goal.invariant-loop-point
invariant-loop-point l = record {
  bytes : l.out.items ≡ l.initial.out.items ++ flat_map point (take l.point-index l.points);
  values : ValuesFit (take l.point-index l.points);
}
