use Rattle.std.proofs.Common.{◌≡◌, Some, None, ap, ◌∙◌, arith, w64, to_z, of_z}
use Rattle.std.specs.List.{last_or}
use Rattle.std.specs.Option.{option_map}
use Rattle.std.proofs.lemmas.Int.{to_z-of_z}
use Rattle.btr_base.specs.declared.point.Point.{Point}
use Rattle.btr_scan.proofs.Firsts.{last-place}
use Rattle.btr_kernel.proofs.latest.last_value.Goals as goal

pub returns : goal.returns
returns c =
    let p : Point = c.in_ok-last.field-0.now in
    let found : Some p ≡ last_or None c.args.points.now = c.in_ok-last.ensures.value ∙ last-place c.args.points.now in
    let fits : to_z w64 (of_z w64 p.value) ≡ p.value = grind (arith, to_z-of_z) in
    ap Some fits ∙ ap (option_map (λ (q : Point). q.value)) found
