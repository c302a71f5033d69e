use Rattle.std.proofs.Common.{◌≡◌, pos, ◌∙◌, sym, ap, arith, get_or, w64, to_z, of_z}
use Rattle.std.proofs.lemmas.Int.{to_z-of_z}
use Rattle.btr_base.specs.declared.point.Point.{Point}
use Rattle.btr_base.specs.Agg.{joined, one_point}
use Rattle.btr_kernel.proofs.PartLemmas.{agg-part_count, agg-part_more}
use Rattle.btr_kernel.proofs.sliding.extended.Goals as goal

pub join-all-requires : goal.join-all-requires
join-all-requires c =
    let b = c.args.points.now in
    omega (arith, ap (λ s. s.count) c.loop-i.invariant, agg-part_count b c.args.mid c.loop-i.i (omega arith) (omega arith), ap (λ s. s.count) c.of.ensures.numbers)

pub loop-i-preserved : goal.loop-i-preserved
loop-i-preserved c =
    let b = c.args.points.now in
    let i = c.loop-i.i in
    let d : Point = record { time = pos 0; value = pos 0 } in
    let fits : to_z w64 (of_z w64 (get_or b i d).value) ≡ (get_or b i d).value = grind (arith, to_z-of_z) in
    let one : c.of.result ≡ one_point (get_or b i d).value = c.of.ensures.numbers ∙ ap one_point fits in
    c.join-all.ensures.numbers
    ∙ (λ k. joined (c.loop-i.invariant k) (one k))
    ∙ sym (agg-part_more b c.args.mid i d (omega arith) (omega arith))
