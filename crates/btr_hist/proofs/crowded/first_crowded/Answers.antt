use Rattle.std.proofs.Common.{◌≡◌, ◌∙◌, ap, pos, ℤ, Option, Some, get_or, sym, rules, w64}
use Rattle.std.proofs.lemmas.Int.{to_z-of_z}
use mir.Val.{SFits}
use Rattle.btr_base.specs.declared.point.Point.{Point}
use Rattle.btr_base.specs.Crowded.{bottom_start}
use Rattle.btr_hist.proofs.CrowdedWalk.{crowded-found, crowded-passed}
use Rattle.btr_hist.proofs.crowded.first_crowded.Goals as goal

pub returns-then-is_crowded_from : goal.returns-then-is_crowded_from
returns-then-is_crowded_from c =
    let z : Point = record { time = pos 0; value = pos 0 } in
    let here = sym (c.is_crowded_from.ensures z) ∙ c.if-is_crowded_from.true in
    let found = crowded-found c.args.points.now c.loop-index.index z c.loop-index-test.true c.loop-index.invariant here in
    let p : Point = get_or c.args.points.now c.loop-index.index z in
    let time_fits : SFits w64 p.time = search rules in
    let fits : SFits w64 c.bottom_start.result = search rules in
    let start : c.bottom_start.result ≡ bottom_start p.time = c.bottom_start.ensures ∙ ap bottom_start (to_z-of_z w64 p.time time_fits) in
    ap {A = ℤ} {B = Option ℤ} Some (to_z-of_z w64 c.bottom_start.result fits ∙ start) ∙ sym found

pub loop-index-preserved : goal.loop-index-preserved
loop-index-preserved c =
    let z : Point = record { time = pos 0; value = pos 0 } in
    let here = sym (c.is_crowded_from.ensures z) ∙ c.if-is_crowded_from.false in
    crowded-passed c.args.points.now c.loop-index.index z c.loop-index-test.true c.loop-index.invariant here
