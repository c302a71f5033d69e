-- How many ends of a range are inside a span: only there does a walk visit the span. And what a walk adds there.
use Rattle.std.specs.Prelude.{◌≡◌, ℕ, ◌+◌, ℤ, ◌<ℤ◌, int_lt, List, if◌then◌else◌}
use Rattle.btr_base.specs.Agg.{AggValue, joined, agg_within}
use Rattle.btr_base.specs.Range.{RangeValue}
use Rattle.btr_base.specs.Span.{SpanValue}
use Rattle.btr_base.specs.declared.point.Point.{Point}
use Rattle.btr_tree.specs.declared.node.Slot.{Slot}
use Rattle.btr_tree.specs.Change.{end_of}

-- 1 if the range starts after the start of the span, and 1 if it ends before the end of the span.
abbrev pub ends_inside : ℤ → ℤ → ℤ → ℤ → ℕ
ends_inside start end from to =
    (if int_lt start from then 1 else 0) + (if int_lt to end then 1 else 0)

-- The range has a time of the span.
abbrev pub IsMet : SpanValue → RangeValue → Type 0
IsMet span range = (range.from <ℤ end_of span) × (span.start <ℤ range.to)

-- The aggregate of those of the points that are in the range is joined to the aggregate so far.
abbrev pub AddsRange : RangeValue → AggValue → AggValue → List Point → Type 0
AddsRange range old new points = new ≡ joined old (agg_within range.from range.to points)

-- A walk may go to the place of a slot, which counts as many points as the slot does.
abbrev pub IsSafeSlot : {Site : Type 0} → (Site → ℕ → ℤ → Type 0) → (Site → ℕ) → Site → Slot → SpanValue → Type 0
IsSafeSlot IsSafe count site slot span = IsSafe site span.height span.start × (count site ≡ slot.agg.count)
