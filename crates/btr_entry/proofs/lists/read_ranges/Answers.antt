use Rattle.std.proofs.Common.{◌≡◌, ℕ, List, Option, Some, None, ◌∙◌, sym, subst, true≢false, ◌↔◌}
use Rattle.std.specs.Prelude.{IsSome, IfNone}
use Rattle.std.specs.List.{flat_map, AllByRecursion}
use Rattle.btr_base.specs.Range.{RangeValue, IsRange, AreApart, IsCut}
use Rattle.btr_entry.specs.Grammar.{range}
use Rattle.btr_entry.proofs.ItemLemmas.{items_once, range_item}
use Rattle.btr_entry.proofs.lists.read_ranges.Goals as goal

-- If ranges are not apart, their bytes are those of no cut.
not_apart : (o : Option (List RangeValue)) (v : List RangeValue) (bytes : List ℕ) → (IsSome o ↔ AreApart v) → AllByRecursion IsRange v × (flat_map range v ≡ bytes) → IfNone o ((rs : List RangeValue) → IsCut rs → flat_map range rs ≡ bytes → ⊥)
not_apart (Some x) v bytes is h = tt
not_apart None v bytes is h = λ rs cut same.
    let one : rs ≡ v = items_once range IsRange range_item rs v cut.each h.0 (same ∙ sym h.1) in
    absurd (true≢false (sym (is.1 (subst AreApart one cut.apart))))

pub returns-in-Some-clause-none : goal.returns-in-Some-clause-none
returns-in-Some-clause-none c =
    not_apart c.from_ranges.result c.in-Some.ranges.items c.args.bytes.now c.from_ranges.ensures.apart (rw c.in-Some.is at c.in_ok-ranges.ensures.found)
