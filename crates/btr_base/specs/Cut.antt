-- Ranges that are lengthened, and lists of ranges that are united to the longest ranges of the same times.
use Rattle.std.specs.Prelude.{ℕ, pos, ◌+ℤ◌, int_lt, List, [], ◌∷◌, if◌then◌else◌}
use Rattle.std.specs.Int.{int_min, int_max}
use Rattle.btr_base.specs.declared.limits.TheConstants.{END}
use Rattle.btr_base.specs.Range.{RangeValue}

-- The range with its end so much later, at most the domain's end.
abbrev pub lengthened : ℕ → RangeValue → RangeValue
lengthened lead r = record { from = r.from; to = int_min END (r.to +ℤ pos lead) }

-- A range among ranges in order and apart, joined with those that it touches or overlaps.
abbrev pub with_range : RangeValue → List RangeValue → List RangeValue
with_range r [] = r ∷ []
with_range r (s ∷ rs) =
    if int_lt s.to r.from then s ∷ with_range r rs
    else if int_lt r.to s.from then r ∷ s ∷ rs
    else with_range (record { from = int_min r.from s.from; to = int_max r.to s.to }) rs

-- The longest ranges that cover the times of all of these.
abbrev pub union : List RangeValue → List RangeValue
union [] = []
union (r ∷ rs) = with_range r (union rs)
