use Rattle.std.proofs.Common.{◌+◌, ◌≤◌, pos, ◌<ℤ◌, ◌≤ℤ◌, subst, sym, arith, get_or, w64}
use Rattle.std.proofs.lemmas.Int.{ints, to_z-of_z}
use Rattle.btr_base.specs.declared.point.Point.{Point}
use Rattle.btr_kernel.specs.Places.{place_of}
use Rattle.btr_kernel.proofs.PlaceLemmas.{place-after, place-before, place-within}
use Rattle.btr_kernel.proofs.places.place_ahead.Goals as goal

pub loop-place-preserved : goal.loop-place-preserved
loop-place-preserved c =
    let b = c.args.points.now in
    let k = c.loop-place.place in
    let d : Point = record { time = pos 0; value = pos 0 } in
    let fits = to_z-of_z w64 c.args.time c.ranges.time in
    let early : (get_or b k d).time <ℤ c.args.time = omega (arith, ints) in
    subst (λ t. k + 1 ≤ place_of t b) (sym fits) (place-after c.args.time b k d c.requires.order (omega arith) early)

pub returns-else-points-place : goal.returns-else-points-place
returns-else-points-place c =
    let b = c.args.points.now in
    let k = c.loop-place.place in
    let d : Point = record { time = pos 0; value = pos 0 } in
    let fits = to_z-of_z w64 c.args.time c.ranges.time in
    let late : c.args.time ≤ℤ (get_or b k d).time = omega (arith, ints) in
    let low : k ≤ place_of c.args.time b = subst (λ t. k ≤ place_of t b) fits c.loop-place.invariant in
    omega (arith, place-before c.args.time b k d c.requires.order (omega arith) late)

pub returns-after-loop-place : goal.returns-after-loop-place
returns-after-loop-place c =
    let b = c.args.points.now in
    let k = c.loop-place.place in
    let fits = to_z-of_z w64 c.args.time c.ranges.time in
    let low : k ≤ place_of c.args.time b = subst (λ t. k ≤ place_of t b) fits c.loop-place.invariant in
    omega (arith, place-within c.args.time b)
