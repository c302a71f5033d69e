-- Spans: the aligned parts of the domain that the tree divides.
use Rattle.std.specs.Prelude.{◌≡◌, ℕ, ◌+◌, ◌-◌, ◌*◌, ◌^◌, ◌<◌, ◌≤◌, ℤ, pos, ◌+ℤ◌, ◌≤ℤ◌, ◌<ℤ◌}
use Rattle.btr_base.specs.declared.limits.TheConstants.{FIRST, END}

-- The width of a span of this height, in nanoseconds.
unfoldable pub width : ℕ → ℕ
width height = 2 ^ (6 * height + 2)

-- The time this many nanoseconds after the first of the domain.
abbrev pub time_at : ℕ → ℤ
time_at offset = FIRST +ℤ pos offset

-- The times from `start` on, for the width of this height.
pub record SpanValue : Type 0 where
  pub start : ℤ
  pub height : ℕ

-- It begins a whole number of widths after the first time of the domain, and lies in the domain.
pub record IsAligned (s : SpanValue) (index : ℕ) : Type 0 where
  pub height : s.height ≤ 10
  pub start : s.start ≡ time_at (index * width s.height)
  pub ends : (s.start +ℤ pos (width s.height)) ≤ℤ END

abbrev pub IsSpan : SpanValue → Type 0
IsSpan s = (index : ℕ) × IsAligned s index

-- One of the 64 spans of the next lower height that a span consists of, by its index.
abbrev pub slot_of : SpanValue → ℕ → SpanValue
slot_of s i = record { start = s.start +ℤ pos (i * width (s.height - 1)); height = s.height - 1 }

-- These are the indices of the first and of the last slot of a span that has times from one up to, and without, another.
pub record AreSlotsBetween (s : SpanValue) (from to : ℤ) (slots : ℕ × ℕ) : Type 0 where
  pub order : slots.0 ≤ slots.1
  pub place : slots.1 < 64
  pub before : (i : ℕ) → i < slots.0 → ((slot_of s i).start +ℤ pos (width (s.height - 1))) ≤ℤ from
  pub first : from <ℤ ((slot_of s slots.0).start +ℤ pos (width (s.height - 1)))
  pub last : (slot_of s slots.1).start <ℤ to
  pub behind : (i : ℕ) → slots.1 < i → i < 64 → to ≤ℤ (slot_of s i).start
