use Rattle.std.proofs.Common.{◌≡◌, true≢false, refl, ◌++◌, List, [], ◌∷◌, ◌∙◌, sym, ap, subst, w64, to_z, of_z, FitsSigned, rules}
use Rattle.std.specs.List.{flat_map}
use Rattle.std.proofs.lemmas.Int.{to_z-of_z}
use Rattle.btr_base.specs.Range.{RangeValue, IsRange}
use Rattle.btr_base.proofs.ListLemmas.{each-append}
use Rattle.btr_entry.specs.Grammar.{range, signed}
use Rattle.btr_entry.proofs.ItemLemmas.{Taken-next, length-range, second_left, shorter, both_parts, next_is_range}
use Rattle.btr_entry.proofs.lists.read_each_range.Goals as goal

pub read_i64-to-requires : goal.read_i64-to-requires
read_i64-to-requires c =
    second_left c.loop-rest.rest.now c.read_i64-from.result.1.now c.read_i64-from.result.0 c.loop-rest-test.ensures c.loop-rest.invariant.taken.whole c.read_i64-from.ensures

pub returns-in_default-clause-none : goal.returns-in_default-clause-none
returns-in_default-clause-none c rs each same =
    let a = c.read_i64-from.result.0 in
    let b = c.read_i64-to.result.0 in
    let a_fits : FitsSigned w64 a = search rules in
    let b_fits : FitsSigned w64 b = search rules in
    let same_from : to_z w64 (of_z w64 a) ≡ a = to_z-of_z w64 a a_fits in
    let same_to : to_z w64 (of_z w64 b) ≡ b = to_z-of_z w64 b b_fits in
    let r : RangeValue = record { from = a; to = b } in
    let read : RangeValue = record { from = to_z w64 (of_z w64 a); to = to_z w64 (of_z w64 b) } in
    let is : r ≡ read = λ i. record { from = sym same_from i; to = sym same_to i } in
    let prefix = flat_map range c.loop-rest.ranges.items in
    let after = ap (λ (l : List _). prefix ++ l) (sym (c.read_i64-from.ensures ∙ ap (λ (l : List _). signed a ++ l) c.read_i64-to.ensures)) in
    let good : IsRange r = next_is_range c.loop-rest.ranges.items r c.read_i64-to.result.1.now rs a_fits b_fits each (after ∙ c.loop-rest.invariant.taken.parts ∙ sym same) in
    absurd (true≢false (sym (c.in_default.ensures.some.1 (subst IsRange is good))))

pub loop-rest-smaller : goal.loop-rest-smaller
loop-rest-smaller c =
    shorter c.loop-rest.rest.now c.read_i64-from.result.1.now c.read_i64-to.result.1.now c.read_i64-from.result.0 c.read_i64-to.result.0 c.read_i64-from.ensures c.read_i64-to.ensures

pub loop-rest-preserved : goal.loop-rest-preserved
loop-rest-preserved c =
    let a = c.read_i64-from.result.0 in
    let b = c.read_i64-to.result.0 in
    let a_fits : FitsSigned w64 a = search rules in
    let b_fits : FitsSigned w64 b = search rules in
    let same_from : to_z w64 (of_z w64 a) ≡ a = to_z-of_z w64 a a_fits in
    let same_to : to_z w64 (of_z w64 b) ≡ b = to_z-of_z w64 b b_fits in
    let made : RangeValue = record { from = to_z w64 (of_z w64 a); to = to_z w64 (of_z w64 b) } in
    let r : RangeValue = c.in-Some.range in
    let is_made : r ≡ made = c.in-Some.ensures.value in
    let good : IsRange r = subst IsRange (sym is_made) (c.in-Some.ensures.some.0 refl) in
    let parts = both_parts c.loop-rest.rest.now c.read_i64-from.result.1.now c.read_i64-to.result.1.now a b c.read_i64-from.ensures c.read_i64-to.ensures in
    let read : c.loop-rest.rest.now ≡ range made ++ c.read_i64-to.result.1.now = rw (same_from, same_to) parts in
    let here : c.loop-rest.rest.now ≡ range r ++ c.read_i64-to.result.1.now = read ∙ ap (λ (s : RangeValue). range s ++ c.read_i64-to.result.1.now) (sym is_made) in
    rw c.in_ok-push.ensures.items (record {
      taken = Taken-next range c.args.bytes.now c.loop-rest.ranges.items c.loop-rest.rest.now r c.read_i64-to.result.1.now (length-range r) here c.loop-rest.invariant.taken;
      each = each-append IsRange c.loop-rest.ranges.items (r ∷ []) c.loop-rest.invariant.each (good, tt);
    })
