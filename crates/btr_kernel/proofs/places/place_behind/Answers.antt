use Rattle.std.proofs.Common.{◌≡◌, ◌-◌, ◌≤◌, min, pos, ◌<ℤ◌, ◌≤ℤ◌, subst, sym, arith, get_or, w64}
use Rattle.std.proofs.lemmas.Int.{ints, to_z-of_z}
use Rattle.btr_base.specs.declared.point.Point.{Point}
use Rattle.btr_kernel.specs.Places.{place_of}
use Rattle.btr_kernel.proofs.PlaceLemmas.{place-after, place-before}
use Rattle.btr_kernel.proofs.places.place_behind.Goals as goal

pub loop-place-preserved : goal.loop-place-preserved
loop-place-preserved c =
    let b = c.args.points.now in
    let k = c.loop-place.place in
    let d : Point = record { time = pos 0; value = pos 0 } in
    let fits = to_z-of_z w64 c.args.time c.ranges.time in
    let late : c.args.time ≤ℤ (get_or b (k - 1) d).time = omega (arith, ints) in
    let high = subst (λ t. place_of t b ≤ k - 1) (sym fits) (place-before c.args.time b (k - 1) d c.requires.order (omega arith) late) in
    record {
      low = omega arith;
      same = omega (arith, high, c.loop-place.invariant.same);
    }

pub returns-else-points-place : goal.returns-else-points-place
returns-else-points-place c =
    let b = c.args.points.now in
    let k = c.loop-place.place in
    let d : Point = record { time = pos 0; value = pos 0 } in
    let fits = to_z-of_z w64 c.args.time c.ranges.time in
    let early : (get_or b (k - 1) d).time <ℤ c.args.time = omega (arith, ints) in
    let same : min k (place_of c.args.time b) ≡ min c.args.from (place_of c.args.time b) = subst (λ t. min k (place_of t b) ≡ min c.args.from (place_of t b)) fits c.loop-place.invariant.same in
    omega (arith, same, place-after c.args.time b (k - 1) d c.requires.order (omega arith) early)
