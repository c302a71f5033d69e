use Rattle.std.proofs.Common.{◌∙◌}
use Rattle.btr_distil.proofs.SightLemmas.{computed-is}
use Rattle.btr_distil.proofs.planning.output_over.Goals as goal

pub returns : goal.returns
returns c =
    let s = c.args.sight.now in
    λ h k first second. c.from_points.ensures ∙ computed-is s.spec s.new_first s.new_second c.args.ranges.now c.in_ok-points.points.items c.in_ok-points.ensures h k first second
