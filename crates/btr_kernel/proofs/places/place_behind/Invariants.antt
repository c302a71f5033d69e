use Rattle.std.proofs.Common.{◌≡◌, ◌≤◌, min}
use Rattle.btr_kernel.specs.Places.{place_of}
use Rattle.btr_kernel.proofs.places.place_behind.Given as goal

-- No point from here on is before the time, up to where the walk began.
abbrev pub invariant-loop-place : goal.invariant-loop-place
invariant-loop-place l = record {
  low : l.place ≤ l.from;
  same : min l.place (place_of l.time l.points) ≡ min l.from (place_of l.time l.points);
}

abbrev pub decreases-loop-place : goal.decreases-loop-place
decreases-loop-place l = l.place
