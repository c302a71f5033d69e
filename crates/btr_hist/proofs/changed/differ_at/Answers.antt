use Rattle.std.proofs.Common.{◌≡◌, ℤ, pos, ◌+ℤ◌, ◌∙◌, ap, arith, w64, to_z, of_z, List}
use Rattle.std.proofs.lemmas.Int.{ints, to_z-of_z}
use Rattle.btr_base.specs.declared.point.Point.{Point}
use Rattle.btr_base.specs.Bag.{within}
use Rattle.btr_base.specs.Changes.{points_at}
use Rattle.btr_base.specs.Point.{InDomain}
use Rattle.btr_hist.proofs.Differ.{points-time, differ-is}
use Rattle.btr_hist.proofs.changed.differ_at.Goals as goal

-- The points of the time, with its bounds as machine words.
at-time : (t : ℤ) (ps b : List Point) → InDomain t → ps ≡ within (to_z w64 (of_z w64 t)) (to_z w64 (of_z w64 (to_z w64 (of_z w64 t) +ℤ pos 1))) b → ps ≡ points_at t b
at-time t ps b inside is =
    let low = inside.0 in
    let high = inside.1 in
    let word : to_z w64 (of_z w64 t) ≡ t = to_z-of_z w64 t (omega (arith, ints)) in
    let next : to_z w64 (of_z w64 (t +ℤ pos 1)) ≡ t +ℤ pos 1 = to_z-of_z w64 (t +ℤ pos 1) (omega (arith, ints)) in
    is ∙ ap (λ z. within z (to_z w64 (of_z w64 (z +ℤ pos 1))) b) word ∙ points-time t (to_z w64 (of_z w64 (t +ℤ pos 1))) b next

pub returns : goal.returns
returns c =
    differ-is c.args.time c.ne.result c.args.a.now c.args.b.now c.points_between.result.now c.points_between-2.result.now c.ne.ensures
    (at-time c.args.time c.points_between.result.now c.args.a.now c.requires.domain c.points_between.ensures)
    (at-time c.args.time c.points_between-2.result.now c.args.b.now c.requires.domain c.points_between-2.ensures)
