use Rattle.std.proofs.Common.{◌≡◌, ◌+◌, ◌-◌, pos, ◌∙◌, sym, ap, subst, arith, length, get_or, slice_range, w64, to_z, of_z}
use Rattle.std.proofs.lemmas.Int.{to_z-of_z}
use Rattle.std.proofs.lemmas.List.{length_push}
use Rattle.btr_base.specs.declared.point.Point.{Point}
use Rattle.btr_base.specs.Agg.{agg, joined, one_point}
use Rattle.btr_kernel.specs.Parts.{AreLasts}
use Rattle.btr_kernel.proofs.PartLemmas.{agg-part_count, agg-part_less, lasts-push}
use Rattle.btr_kernel.proofs.sliding.fill_lasts.Goals as goal

pub join-all-requires : goal.join-all-requires
join-all-requires c =
    let b = c.args.points.now in
    let inv = c.loop-place.invariant in
    omega (arith, ap (λ s. s.count) inv.all, agg-part_count b c.loop-place.place c.args.to (omega arith) c.requires.within, ap (λ s. s.count) c.of.ensures.numbers)

pub loop-place-preserved : goal.loop-place-preserved
loop-place-preserved c =
    let b = c.args.points.now in
    let inv = c.loop-place.invariant in
    let place = c.loop-place.place in
    let k = place - 1 in
    let d : Point = record { time = pos 0; value = pos 0 } in
    let next : k + 1 ≡ place = omega arith in
    let fits : to_z w64 (of_z w64 (get_or b k d).value) ≡ (get_or b k d).value = grind (arith, to_z-of_z) in
    let one : c.of.result ≡ one_point (get_or b k d).value = c.of.ensures.numbers ∙ ap one_point fits in
    let rest : c.loop-place.all ≡ agg (slice_range b (k + 1) c.args.to) = inv.all ∙ ap (λ n. agg (slice_range b n c.args.to)) (sym next) in
    let all : c.join-all.result ≡ agg (slice_range b k c.args.to) =
    c.join-all.ensures.numbers
    ∙ (λ i. joined (one i) (rest i))
    ∙ sym (agg-part_less b k c.args.to d (omega arith) c.requires.within) in
    let items = c.in_ok-push.ensures.items in
    record {
      low = omega arith;
      count = omega (arith, ap length items, length_push c.loop-place.lasts.items c.join-all.result);
      all = all;
      lasts = subst (AreLasts c.args.to b) (sym items) (lasts-push b c.loop-place.lasts.items c.join-all.result place c.args.to (omega arith) inv.count inv.lasts all);
    }
