use Rattle.std.proofs.Common.{◌≡◌, Bool, true, false, not, List, ◌↔◌, ◌∙◌, sym, refl, arith, IsTrue}
use Rattle.std.specs.Prelude.{pos}
use Rattle.std.specs.Ordering.{partial_le, is_lt}
use Rattle.std.specs.List.{IsAllAdjacentAnswer}
use Rattle.std.proofs.lemmas.Int.{ints}
use Rattle.btr_base.specs.declared.point.Point.{Point}
use Rattle.btr_base.specs.Point.{point_cmp}
use Rattle.btr_base.specs.Bag.{IsInOrder}
use Rattle.btr_base.proofs.PointLemmas.{in_order-from_sorted, sorted-from_in_order}
use Rattle.btr_base.specs.contracts.point.PointPartialOrd.TheImpl as impl
use Rattle.btr_entry.proofs.lists.are_in_order.Goals as goal

in_order : (le : Point → Point → Bool) (xs : List Point) (r : Bool) → IsAllAdjacentAnswer (λ x y b. le x y ≡ b) xs r → ((x y : Point) → le x y ≡ not (is_lt (point_cmp y x))) → IsTrue r ↔ IsInOrder xs
in_order le xs true h same = (λ _. in_order-from_sorted xs (λ k d _ lt. let e = sym (same _ _) ∙ h k d lt in grind arith), λ _. refl)
in_order le xs false h same = (
  λ e. absurd cc,
  λ ordered.
      let d : Point = record { time = pos 0; value = pos 0 } in
      let one = sym (same _ _) ∙ h.2 d in
      let other = sorted-from_in_order xs ordered h.0 d (omega arith) h.1 in
      absurd (grind arith),
)

pub returns : goal.returns
returns c = in_order (λ x y. partial_le (impl.partial_cmp-value).it x y) c.args.points.now c.is_sorted.result c.is_sorted.ensures.cases (λ x y. grind (arith, ints))
