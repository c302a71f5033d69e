use Rattle.std.proofs.Common.{◌≡◌, true, Ordering, Less, Equal, Greater, Some, refl, sym, ◌∙◌, arith}
use Rattle.std.specs.Ordering.{int_cmp, is_le, is_some_and, ordering_then, partial_ordering_then}
use Rattle.std.proofs.lemmas.Int.{ints}
use Rattle.btr_base.specs.declared.point.Point.{Point}
use Rattle.btr_base.specs.Point.{point_cmp, is_not_after}
use Rattle.btr_base.proofs.PointLemmas.{in_order-append}
use Rattle.btr_base.proofs.bag.may_follow.Goals as goal

partial-le : (x y : Ordering) → is_some_and is_le (partial_ordering_then (Some x) (Some y)) ≡ is_le (ordering_then x y)
partial-le Less y = refl
partial-le Equal y = refl
partial-le Greater y = refl

le-before : (p q : Point) → is_le (point_cmp p q) ≡ true → is_not_after p q ≡ true
le-before p q h = grind (arith, ints)

pub returns-in-Some-Some : goal.returns-in-Some-Some
returns-in-Some-Some c le =
    let last = c.in-Some-Some.last.now in
    let first = c.in-Some-Some.first.now in
    let before = le-before last first (sym (c.le.ensures ∙ partial-le (int_cmp last.time first.time) (int_cmp last.value first.value)) ∙ le) in
    in_order-append c.args.a.now c.args.b.now last first c.requires.a c.requires.b c.in-Some-Some.ensures.item.3.1 c.in-Some-Some.ensures'.item.3.1 before
