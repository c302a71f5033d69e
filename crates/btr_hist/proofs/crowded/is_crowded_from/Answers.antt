use Rattle.std.proofs.Common.{◌+◌, ◌∙◌, pos, ap, sym, drop, length}
use Rattle.std.proofs.lemmas.List.{get_or_default}
use Rattle.std.proofs.lemmas.Bool.{le-ltb}
use Rattle.btr_base.specs.declared.point.Point.{Point}
use Rattle.btr_base.specs.Crowded.{bottom_start, is_crowded}
use Rattle.btr_hist.proofs.CrowdedWalk.{crowd-at, crowd-few}
use Rattle.btr_hist.proofs.crowded.is_crowded_from.Goals as goal

pub returns-then-last-points : goal.returns-then-last-points
returns-then-last-points c d =
    let b = c.args.points.now in
    let i = c.args.index in
    let z : Point = record { time = pos 0; value = pos 0 } in
    c.share_bottom.ensures
    ∙ crowd-at b i z c.requires.order c.requires.within c.if-last-points.true
    ∙ ap (λ (q : Point). is_crowded (drop i b) (bottom_start q.time)) (get_or_default b i z d c.requires.within)

pub returns-else-last-points : goal.returns-else-last-points
returns-else-last-points c d =
    let b = c.args.points.now in
    let i = c.args.index in
    le-ltb (i + 252) (length b) c.if-last-points.false ∙ sym (crowd-few b i d c.requires.order c.requires.within c.if-last-points.false)
