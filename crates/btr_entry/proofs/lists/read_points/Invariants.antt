use Rattle.std.proofs.Common.{length}
use Rattle.std.specs.List.{AllByRecursion}
use Rattle.btr_entry.specs.Grammar.{point}
use Rattle.btr_entry.specs.Fields.{PointFits}
use Rattle.btr_entry.proofs.ItemLemmas.{Taken}
use Rattle.btr_entry.proofs.lists.read_points.Given as goal

abbrev pub invariant-loop-rest : goal.invariant-loop-rest
invariant-loop-rest l = record {
  taken : Taken point l.bytes l.points.items l.rest;
  room : AllByRecursion PointFits l.points.items;
}

abbrev pub decreases-loop-rest : goal.decreases-loop-rest
decreases-loop-rest l = length l.rest
