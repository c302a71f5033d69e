-- Lemmas on the slots that a range meets.
use Rattle.std.specs.Prelude.{◌≡◌, ℕ, ◌+◌, ◌<◌, ◌≤◌, ℤ, pos, ◌+ℤ◌, ◌≤ℤ◌, List, ◌++◌}
use Rattle.std.proofs.Common.{suc, sym, ap, ◌∙◌, arith, subst, append_assoc, inl, inr}
use Rattle.std.proofs.Math.Nat.{eq-or-lt_of_le}
use Rattle.std.proofs.lemmas.Int.{ints}
use Rattle.btr_base.specs.declared.point.Point.{Point}
use Rattle.btr_base.specs.Bag.{within}
use Rattle.btr_base.specs.Span.{width, SpanValue, slot_of}
use Rattle.btr_base.proofs.WithinLemmas.{within-append}
use Rattle.btr_tree.specs.Shape.{slot_start}
use Rattle.btr_tree.proofs.NodeLemmas.{slot-end}
use Rattle.btr_tree.proofs.RangeSlotLemmas.{slot_of-start, slot_of-end}

-- The points of one more slot.
pub rows-more : (before here next : List Point) (from to : ℤ) (old mid new : List Point) → next ≡ before ++ here → mid ≡ old ++ within from to before → new ≡ mid ++ within from to here → new ≡ old ++ within from to next
rows-more before here next from to old mid new e p q =
    q
    ∙ ap (λ x. x ++ within from to here) p
    ∙ append_assoc old (within from to before) (within from to here)
    ∙ sym (ap (λ x. old ++ x) (ap (within from to) e ∙ within-append from to before here))

-- A range that ends in the span ends in the last slot that it meets, or at that slot's end.
pub last-reaches : (span : SpanValue) (below : ℕ) (to : ℤ) (last : ℕ) (part : SpanValue) → span.height ≡ suc below → last < 64 → to ≤ℤ (span.start +ℤ pos (width span.height)) → ((i : ℕ) → last < i → i < 64 → to ≤ℤ (slot_of span i).start) → part ≡ slot_of span last → to ≤ℤ (part.start +ℤ pos (width part.height))
last-reaches span below to last part e place high behind is =
    let up : last + 1 ≤ 64 = omega arith in
    let end = slot_of-end span below last e in
    let reaches : to ≤ℤ slot_start below span.start (last + 1) =
    elim (eq-or-lt_of_le up) [
      | inl all ↦
          let whole : slot_start below span.start (last + 1) ≡ span.start +ℤ pos (width span.height) = ap (slot_start below span.start) all ∙ slot-end below span.start ∙ ap (λ k. span.start +ℤ pos (width k)) (sym e) in
          omega (arith, ints)
      | inr less ↦
          let begin = behind (last + 1) (omega arith) less in
          let begins = slot_of-start span below (last + 1) e in
          omega (arith, ints)
    ]
    in
    subst (λ (u : SpanValue). to ≤ℤ (u.start +ℤ pos (width u.height))) (sym is) (omega (arith, ints))
