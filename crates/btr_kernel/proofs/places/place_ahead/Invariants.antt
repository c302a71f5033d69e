use Rattle.std.proofs.Common.{◌-◌, ◌≤◌, length}
use Rattle.btr_kernel.specs.Places.{place_of}
use Rattle.btr_kernel.proofs.places.place_ahead.Given as goal

abbrev pub invariant-loop-place : goal.invariant-loop-place
invariant-loop-place l = l.place ≤ place_of l.time l.points

abbrev pub decreases-loop-place : goal.decreases-loop-place
decreases-loop-place l = length l.points - l.place
