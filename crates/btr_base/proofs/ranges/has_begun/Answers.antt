use Rattle.std.proofs.Common.{ℕ, ◌+◌, ◌≡◌, ◌<◌, ℤ, ◌<ℤ◌, List, ◌∷◌, ◌∙◌, sym, ap, subst, arith, length, get_or, drop, int_le, w64, to_z, of_z}
use Rattle.std.proofs.lemmas.List.{drop_more}
use Rattle.std.proofs.lemmas.Int.{to_z-of_z}
use Rattle.btr_base.specs.Range.{RangeValue, IsCut, covered}
use Rattle.btr_base.proofs.RangeLemmas.{IsCut-drop, covered-ahead}
use Rattle.btr_base.proofs.ranges.has_begun.Goals as goal

begins-covered : (rs : List RangeValue) (place : ℕ) (r : RangeValue) (t : ℤ) → place < length rs → r ≡ get_or rs place r → IsCut rs → t <ℤ (get_or rs place r).to → int_le r.from t ≡ covered (drop place rs) t
begins-covered rs place r t h is cut ahead =
    let e : drop place rs ≡ r ∷ drop (place + 1) rs = drop_more rs place r h ∙ ap (λ s. s ∷ drop (place + 1) rs) (sym is) in
    let rest = subst IsCut e (IsCut-drop place rs cut) in
    sym (ap (λ s. covered s t) e ∙ covered-ahead r (drop (place + 1) rs) t rest (subst (λ s. t <ℤ s.to) (sym is) ahead))

pub returns-in-Some : goal.returns-in-Some
returns-in-Some c =
    let rs = c.args.ranges.now in
    let found = c.in-Some.ensures.lookup in
    let r = c.in-Some.range.now in
    let within : c.args.place < length rs = found.3.0 in
    let begins : int_le (to_z w64 (of_z w64 c.range.inside.from)) (to_z w64 (of_z w64 c.args.time)) ≡ int_le r.from c.args.time = grind (arith, to_z-of_z) in
    begins ∙ begins-covered rs c.args.place r c.args.time within (found.3.1 r) c.requires.cut (c.requires.ahead r within)
