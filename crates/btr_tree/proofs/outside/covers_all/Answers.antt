use Rattle.std.proofs.Common.{◌≡◌, ℤ, true, ◌||◌, List, [], ◌∷◌, ◌<◌, ◌∙◌, ap, sym, arith, get_or, length}
use Rattle.std.proofs.lemmas.Int.{ints}
use Rattle.btr_base.specs.Range.{RangeValue, covered, contains}
use Rattle.btr_tree.proofs.outside.covers_all.Goals as goal

first-covers : (rs : List RangeValue) (r : RangeValue) (t : ℤ) → 0 < length rs → r ≡ get_or rs 0 r → contains r t ≡ true → covered rs t ≡ true
first-covers [] r t some e h = absurd (omega arith)
first-covers (u ∷ rs) r t some e h = ap (λ s. contains s t || covered rs t) (sym e) ∙ ap (λ s. s || covered rs t) h

pub returns-then-range-span : goal.returns-then-range-span
returns-then-range-span c reaches t low high =
    let found = c.in-Some.ensures.item in
    let r = c.in-Some.range.now in
    let from = ap (λ i. i.from) c.range.view_is in
    let to = ap (λ i. i.to) c.range.view_is in
    let begin = ap (λ p. p.start) c.span.view_is in
    let end = c.end.ensures.end in
    let here : contains r t ≡ true = grind (arith, ints) in
    first-covers c.args.cut.now r t found.3.0 found.1 here
