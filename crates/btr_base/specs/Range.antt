-- Ranges of time, lists of them, and the times that they cover.
use Rattle.std.specs.Prelude.{ℤ, Bool, ◌&&◌, int_le, int_lt, ◌≤ℤ◌, ◌<ℤ◌, List, [], ◌∷◌, Option, Some, None}
use Rattle.std.specs.List.{list_any, AllByRecursion}
use Rattle.btr_base.specs.declared.limits.TheConstants.{FIRST, END}

-- The times from `from` up to, and without, `to`.
pub record RangeValue : Type 0 where
  pub from : ℤ
  pub to : ℤ

-- It is not empty, and lies in the domain.
pub record IsRange (r : RangeValue) : Type 0 where
  pub begins : FIRST ≤ℤ r.from
  pub not_empty : r.from <ℤ r.to
  pub ends : r.to ≤ℤ END

-- The time is in the range.
abbrev pub contains : RangeValue → ℤ → Bool
contains r t = int_le r.from t && int_lt t r.to

-- The time is in one of the ranges.
abbrev pub covered : List RangeValue → ℤ → Bool
covered rs t = list_any (λ r. contains r t) rs

-- Each ends before the next begins, with a time between them: in order, disjoint and not touching.
abbrev pub AreApart : List RangeValue → Type 0
AreApart [] = Unit {0}
AreApart (r ∷ []) = Unit {0}
AreApart (r ∷ s ∷ rs) = (r.to <ℤ s.from) × AreApart (s ∷ rs)

-- A set of times as the list of its longest ranges.
pub record IsCut (rs : List RangeValue) : Type 0 where
  pub each : AllByRecursion IsRange rs
  pub apart : AreApart rs

-- The time is after the end, if there is one.
abbrev pub IsAfter : Option ℤ → ℤ → Type 0
IsAfter None from = Unit {0}
IsAfter (Some end) from = end <ℤ from
