use Rattle.std.proofs.Common.{rules, List, ℕ, ℤ, ◌≡◌, ◌||◌, [], ◌∷◌, drop, zero, suc, sym, ap, ◌∙◌, subst, arith, w64, SFits, to_z, of_z}
use Rattle.std.proofs.lemmas.Bool.{or_left}
use Rattle.std.proofs.lemmas.Int.{ints, to_z-of_z}
use Rattle.std.proofs.lemmas.List.{take_rest, nil_from_length}
use Rattle.std.proofs.Math.Bool.{or-false}
use Rattle.btr_base.specs.declared.point.Point.{Point}
use Rattle.btr_base.specs.Bag.{IsInOrder}
use Rattle.btr_base.specs.Point.{InDomain, AreInDomain}
use Rattle.btr_base.specs.Range.{RangeValue, contains, covered}
use Rattle.btr_base.specs.Cut.{lengthened}
use Rattle.btr_base.specs.Changes.{slot_around}
use Rattle.btr_base.proofs.PointLemmas.{drop-in_order}
use Rattle.btr_diff.specs.declared.comparison.Comparison.{Comparison}
use Rattle.btr_diff.specs.Comparison.{reach}
use Rattle.btr_diff.proofs.ChangedSlots.{is_reached, IsNext, adds-alone, reached-next, reached-jump}
use Rattle.btr_diff.proofs.points.add_each.Goals as goal

drop-inside : (n : ℕ) (b : List Point) → AreInDomain b → AreInDomain (drop n b)
drop-inside zero b h = h
drop-inside (suc n) [] h = tt
drop-inside (suc n) (q ∷ b) h = drop-inside n b h.1

pub returns : goal.returns
returns c =
    let by = c.args.comparison in
    let b = c.args.new.now in
    let now = c.loop-first.out in
    let none : c.loop-first.left.now ≡ [] = nil_from_length c.loop-first.left.now c.in_default.ensures.cases in
    adds-alone by c.args.out.now now b c.requires.domain (λ t. sym (or-false (covered now t)) ∙ ap (λ x. covered now t || is_reached by x t) (sym none) ∙ c.loop-first.invariant.times t)

-- The slot around the time of a point, and the same with its lead.
record AreAround (by : Comparison) (t : ℤ) (slot longer : RangeValue) : Type 0 where
  slot_is : slot ≡ slot_around by.p t
  longer_is : longer ≡ reach by t

are-around : (by : Comparison) (t : ℤ) (slot longer : RangeValue) → InDomain t → slot ≡ slot_around by.p (to_z w64 (of_z w64 t)) → longer ≡ lengthened by.lead slot → AreAround by t slot longer
are-around by t slot longer inside is longer_is =
    let low = inside.0 in
    let high = inside.1 in
    let fits : SFits w64 t = omega (arith, ints) in
    let same = is ∙ ap (slot_around by.p) (to_z-of_z w64 t fits) in
    record { slot_is = same; longer_is = longer_is ∙ ap (lengthened by.lead) same }

pub loop-first-preserved : goal.loop-first-preserved
loop-first-preserved c =
    let by = c.args.comparison in
    let q = c.in-Some.first.now in
    let rest = c.in-Some.rest.now in
    let i = c.loop-first.invariant in
    let next = c.in-Some.ensures.cases.0 in
    let inside : AreInDomain (q ∷ rest) = subst AreInDomain next i.inside in
    let around = are-around by q.time c.slot_around-slot.result c.lengthened-longer.result inside.0 c.slot_around-slot.ensures c.lengthened-longer.ensures in
    record {
      order = (subst IsInOrder next i.order).1;
      inside = inside.1;
      times = λ t.
          reached-next by c.loop-first.out c.add.new.self q rest c.lengthened-longer.result around.longer_is c.in_ok-add.ensures.times t
          ∙ ap (λ x. covered c.loop-first.out t || is_reached by x t) (sym next)
          ∙ i.times t;
    }

pub loop-first-preserved-then-begins_before : goal.loop-first-preserved-then-begins_before
loop-first-preserved-then-begins_before c =
    let by = c.args.comparison in
    let q = c.in-Some.first.now in
    let rest = c.in-Some.rest.now in
    let n = c.next_place.result in
    let was = c.loop-first.out in
    let now = c.add.new.self in
    let i = c.loop-first.invariant in
    let next = c.in-Some.ensures.cases.0 in
    let order : IsInOrder (q ∷ rest) = subst IsInOrder next i.order in
    let inside : AreInDomain (q ∷ rest) = subst AreInDomain next i.inside in
    let around = are-around by q.time c.slot_around-slot.result c.lengthened-longer.result inside.0 c.slot_around-slot.ensures c.lengthened-longer.ensures in
    let left = take_rest rest n in
    let more = c.in_ok-add.ensures.times in
    let fits : SFits w64 c.slot.inside.to = search rules in
    let longer_fits : SFits w64 c.longer.inside.to = search rules in
    let end : to_z w64 (of_z w64 c.slot.inside.to) ≡ (slot_around by.p q.time).to = to_z-of_z w64 c.slot.inside.to fits ∙ ap (λ r. r.to) c.slot.view_is ∙ ap (λ (r : RangeValue). r.to) around.slot_is in
    let longer_end : to_z w64 (of_z w64 c.longer.inside.to) ≡ (reach by q.time).to = to_z-of_z w64 c.longer.inside.to longer_fits ∙ ap (λ r. r.to) c.longer.view_is ∙ ap (λ (r : RangeValue). r.to) around.longer_is in
    let at = c.next_place.ensures in
    let found : IsNext (to_z w64 (of_z w64 c.slot.inside.to)) (to_z w64 (of_z w64 c.longer.inside.to)) rest n = record { within = at.within; before = at.before } in
    let place : IsNext (slot_around by.p q.time).to (reach by q.time).to rest n = subst (λ v. IsNext (slot_around by.p q.time).to v rest n) longer_end (subst (λ u. IsNext u (to_z w64 (of_z w64 c.longer.inside.to)) rest n) end found) in
    record {
      order = subst IsInOrder (sym left) (drop-in_order n rest order.1);
      inside = subst AreInDomain (sym left) (drop-inside n rest inside.1);
      times = λ t.
          ap (λ x. covered now t || is_reached by x t) left
          ∙ sym (reached-jump by (covered now t) t q rest n inside.0.0 order place (λ has. more t ∙ or_left (contains c.lengthened-longer.result t) (covered was t) (ap (λ (r : RangeValue). contains r t) around.longer_is ∙ has)))
          ∙ reached-next by was now q rest c.lengthened-longer.result around.longer_is more t
          ∙ ap (λ x. covered was t || is_reached by x t) (sym next)
          ∙ i.times t;
    }
