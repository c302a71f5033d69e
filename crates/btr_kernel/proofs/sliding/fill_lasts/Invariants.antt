use Rattle.std.proofs.Common.{◌≡◌, ◌+◌, ◌≤◌, length, slice_range}
use Rattle.btr_base.specs.Agg.{agg}
use Rattle.btr_kernel.specs.Parts.{AreLasts}
use Rattle.btr_kernel.proofs.sliding.fill_lasts.Given as goal

-- The aggregates of the points from here on.
abbrev pub invariant-loop-place : goal.invariant-loop-place
invariant-loop-place l = record {
  low : l.from ≤ l.place;
  count : l.place + length l.lasts.items ≡ l.to;
  all : l.all ≡ agg (slice_range l.points l.place l.to);
  lasts : AreLasts l.to l.points l.lasts.items;
}

abbrev pub decreases-loop-place : goal.decreases-loop-place
decreases-loop-place l = l.place
