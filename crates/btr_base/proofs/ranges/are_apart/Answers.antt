use Rattle.std.proofs.Common.{◌≡◌, ◌+◌, ◌∷◌, drop, take, Some, IsTrue, ◌↔◌, ◌++◌, [], to_z, of_z, w64, refl, sym, ap, ◌∙◌, subst, arith}
use Rattle.std.proofs.lemmas.List.{drop_more, take_more}
use Rattle.std.proofs.lemmas.Int.{ints}
use Rattle.std.specs.List.{AllByRecursion}
use Rattle.btr_base.specs.Range.{IsRange, AreApart, IsAfter}
use Rattle.btr_base.proofs.RangeLemmas.{ApartFrom, apart-from_none, from_none-apart, apart-more, each-push}
use Rattle.btr_base.proofs.ranges.are_apart.Goals as goal

pub loop-range-init : goal.loop-range-init
loop-range-init c = record { each = tt; apart = (λ h. (refl, apart-from_none _ h), λ h. from_none-apart _ h.1) }

pub loop-range-preserved : goal.loop-range-preserved
loop-range-preserved c =
    let ranges = c.args.ranges.now in
    let i = c.loop-range.range-index in
    let next = c.range-item.result in
    let rest = drop (i + 1) ranges in
    let e : drop i ranges ≡ next ∷ rest = drop_more ranges i next (omega arith) ∙ ap (λ s. s ∷ rest) (sym c.range-item.is) in
    let to : to_z w64 (of_z w64 c.range.inside.to) ≡ next.to = omega (arith, ints, ap (λ r. r.to) c.range.view_is) in
    let from : to_z w64 (of_z w64 c.range.inside.from) ≡ next.from = omega (arith, ints, ap (λ r. r.from) c.range.view_is) in
    let was = c.loop-range.apart in
    let now = c.stays_apart-apart.result in
    let end = c.loop-range.end in
    let before : AreApart ranges ↔ (IsTrue was × ApartFrom end (next ∷ rest)) = subst (λ s. AreApart ranges ↔ (IsTrue was × ApartFrom end s)) e c.loop-range.invariant.apart in
    let here : IsTrue now ↔ (IsTrue was × IsAfter end next.from) = subst (λ z. IsTrue now ↔ (IsTrue was × IsAfter end z)) from c.stays_apart-apart.ensures in
    record {
      each = subst (AllByRecursion IsRange) (sym (take_more ranges i next (omega arith) ∙ ap (λ r. take i ranges ++ r ∷ []) (sym c.range-item.is))) (each-push IsRange (take i ranges) next c.loop-range.invariant.each (subst IsRange c.range.view_is c.range.invariant));
      apart = subst (λ z. AreApart ranges ↔ (IsTrue now × ApartFrom (Some z) rest)) (sym to) (apart-more ranges end next rest was now before here);
    }
