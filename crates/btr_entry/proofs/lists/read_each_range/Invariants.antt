use Rattle.std.proofs.Common.{length}
use Rattle.std.specs.List.{AllByRecursion}
use Rattle.btr_base.specs.Range.{IsRange}
use Rattle.btr_entry.specs.Grammar.{range}
use Rattle.btr_entry.proofs.ItemLemmas.{Taken}
use Rattle.btr_entry.proofs.lists.read_each_range.Given as goal

abbrev pub invariant-loop-rest : goal.invariant-loop-rest
invariant-loop-rest l = record {
  taken : Taken range l.bytes l.ranges.items l.rest;
  each : AllByRecursion IsRange l.ranges.items;
}

abbrev pub decreases-loop-rest : goal.decreases-loop-rest
decreases-loop-rest l = length l.rest
