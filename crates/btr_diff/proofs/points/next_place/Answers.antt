use Rattle.std.proofs.Common.{◌+◌, arith, w64}
use Rattle.std.proofs.lemmas.Int.{ints, to_z-of_z}
use Rattle.btr_base.proofs.PointLemmas.{times-rise}
use Rattle.btr_diff.proofs.points.next_place.Goals as goal

pub returns-then-points-last-clause-from : goal.returns-then-points-last-clause-from
returns-then-points-last-clause-from c d lt =
    let last = c.last_before-last.result in
    let fits = to_z-of_z w64 c.args.longer_end c.ranges.longer_end in
    let late = c.last_before-last.ensures.from d (omega arith) in
    let rise = times-rise c.args.points.now (last + 1) (last + 1 + 1) d c.requires.order (omega arith) lt in
    omega (arith, ints)
