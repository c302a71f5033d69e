use Rattle.std.proofs.Common.{take, drop, ◌↔◌, IsTrue}
use Rattle.std.specs.List.{AllByRecursion}
use Rattle.btr_base.specs.Range.{IsRange, AreApart}
use Rattle.btr_base.proofs.RangeLemmas.{ApartFrom}
use Rattle.btr_base.proofs.ranges.are_apart.Given as goal

-- The ranges so far are apart, and the rest begins after their end.
abbrev pub invariant-loop-range : goal.invariant-loop-range
invariant-loop-range l = record {
  each : AllByRecursion IsRange (take l.range-index l.ranges);
  apart : AreApart l.ranges ↔ (IsTrue l.apart × ApartFrom l.end (drop l.range-index l.ranges));
}
