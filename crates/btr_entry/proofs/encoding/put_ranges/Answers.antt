use Rattle.std.proofs.Common.{◌≡◌, refl, ◌+◌, ◌++◌, [], ◌∷◌, take, ℤ, sym, ap, ◌∙◌, w64}
use Rattle.std.proofs.lemmas.List.{take_more}
use Rattle.std.proofs.lemmas.Int.{to_z-of_z}
use Rattle.btr_base.specs.Range.{RangeValue}
use Rattle.btr_entry.specs.Grammar.{signed, range}
use Rattle.btr_entry.proofs.ItemLemmas.{Taken-wrote, from_fits, to_fits}
use Rattle.btr_entry.proofs.encoding.put_ranges.Goals as goal

pub loop-range-preserved : goal.loop-range-preserved
loop-range-preserved c =
    let rs = c.args.ranges.now in
    let i = c.loop-range.range-index in
    let r : RangeValue = c.range-item.result in
    let inside : RangeValue = record { from = c.range.inside.from; to = c.range.inside.to } in
    let here : inside ≡ r = c.range.view_is in
    let more : take (i + 1) rs ≡ take i rs ++ r ∷ [] = take_more rs i r c.loop-range-test.true ∙ ap (λ (s : RangeValue). take i rs ++ s ∷ []) (sym c.range-item.is) in
    let from_is = to_z-of_z w64 inside.from (from_fits inside c.range.invariant) ∙ ap (λ (s : RangeValue). s.from) here in
    let to_is = to_z-of_z w64 inside.to (to_fits inside c.range.invariant) ∙ ap (λ (s : RangeValue). s.to) here in
    let first : c.put_signed.new.out.items ≡ c.loop-range.out.items ++ signed r.from = c.in_ok-put_signed.ensures ∙ ap (λ (z : ℤ). c.loop-range.out.items ++ signed z) from_is in
    let second : c.put_signed-in-loop-range.new.out.items ≡ c.put_signed.new.out.items ++ signed r.to = c.in_ok-put_signed-2.ensures ∙ ap (λ (z : ℤ). c.put_signed.new.out.items ++ signed z) to_is in
    Taken-wrote range c.put_u64.new.out.items c.loop-range.out.items c.put_signed.new.out.items c.put_signed-in-loop-range.new.out.items (signed r.from) (signed r.to) rs i r more refl c.loop-range.invariant first second
