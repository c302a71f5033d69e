use Rattle.std.proofs.Common.{◌≡◌, Some, None, sym, ap, ◌∙◌, arith, w64, to_z, of_z}
use Rattle.std.specs.List.{last_or}
use Rattle.std.proofs.lemmas.Int.{ints, to_z-of_z}
use Rattle.btr_base.specs.declared.point.Point.{Point}
use Rattle.btr_scan.proofs.Firsts.{last-place}
use Rattle.btr_kernel.proofs.LastLemmas.{value_at-last, value_then, value_then-same, value_then-other}
use Rattle.btr_kernel.proofs.latest.value_at.Goals as goal

pub returns-then-last-t : goal.returns-then-last-t
returns-then-last-t c =
    let p : Point = c.in_ok-last.last.now in
    let found : Some p ≡ last_or None c.args.points.now = c.in_ok-last.ensures.value ∙ last-place c.args.points.now in
    let fits : to_z w64 (of_z w64 p.value) ≡ p.value = grind (arith, to_z-of_z) in
    let same : p.time ≡ c.args.t = omega (arith, ints) in
    ap Some fits
    ∙ sym (value_then-same c.args.t p same)
    ∙ ap (value_then c.args.t) found
    ∙ sym (value_at-last c.args.t c.args.points.now c.requires)

pub returns : goal.returns
returns c =
    let p : Point = c.in_ok-last.last.now in
    let found : Some p ≡ last_or None c.args.points.now = c.in_ok-last.ensures.value ∙ last-place c.args.points.now in
    sym (value_then-other c.args.t p (λ e. omega (arith, ints)))
    ∙ ap (value_then c.args.t) found
    ∙ sym (value_at-last c.args.t c.args.points.now c.requires)
