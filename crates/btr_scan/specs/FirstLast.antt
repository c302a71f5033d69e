-- The first and the last of the points between two times.
use Rattle.std.specs.Prelude.{ℕ, ℤ, List, Option, None, slice_get}
use Rattle.std.specs.List.{last_or}
use Rattle.btr_base.specs.declared.point.Point.{Point}
use Rattle.btr_base.specs.Bag.{within}
use Rattle.btr_base.specs.Span.{SpanValue, slot_of}
use Rattle.btr_tree.specs.Change.{end_of}

-- The first of the points from a time up to, and without, another, or none.
abbrev pub first_within : ℤ → ℤ → List Point → Option Point
first_within from to b = slice_get (within from to b) 0

-- The last of the points from a time up to, and without, another, or none.
abbrev pub last_within : ℤ → ℤ → List Point → Option Point
last_within from to b = last_or None (within from to b)

-- The first of the points of a span from the start of slot i on, or none.
abbrev pub first_from_slot : SpanValue → ℕ → List Point → Option Point
first_from_slot span i b = first_within (slot_of span i).start (end_of span) b

-- The last of the points of a span before the start of slot i, or none.
abbrev pub last_before_slot : SpanValue → ℕ → List Point → Option Point
last_before_slot span i b = last_within span.start (slot_of span i).start b
