-- Bottom spans, the narrowest that the tree divides, and the first one that holds more points than a leaf.
use Rattle.std.specs.Prelude.{ℤ, pos, ◌+ℤ◌, ◌-ℤ◌, Bool, nat_lt, List, length, Option}
use Rattle.std.specs.List.{find}
use Rattle.std.specs.Int.{int_rem_euclid}
use Rattle.std.specs.Option.{option_map}
use Rattle.btr_base.specs.declared.limits.TheConstants.{BOTTOM_WIDTH, LEAF_POINTS}
use Rattle.btr_base.specs.declared.point.Point.{Point}
use Rattle.btr_base.specs.Bag.{within}
use Rattle.btr_base.specs.Span.{width}

-- The start of the bottom span that contains a time. Bottom spans are aligned from the first time of the domain, a multiple of
-- their width.
abbrev pub bottom_start : ℤ → ℤ
bottom_start t = t -ℤ int_rem_euclid t (pos BOTTOM_WIDTH)

-- The bottom span that starts at this time holds more points than a leaf.
abbrev pub is_crowded : List Point → ℤ → Bool
is_crowded b start = nat_lt LEAF_POINTS (length (within start (start +ℤ pos (width 0)) b))

-- The start of the first crowded bottom span, of points in order.
abbrev pub crowded : List Point → Option ℤ
crowded b = option_map (λ p. bottom_start p.time) (find (λ p. is_crowded b (bottom_start p.time)) b)
