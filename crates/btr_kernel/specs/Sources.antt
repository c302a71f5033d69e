-- The trees that an output is computed from, and the points of their pasts.
use Rattle.std.specs.Prelude.{List, [], Option, Some, None}
use Rattle.btr_base.specs.declared.point.Point.{Point}
use Rattle.btr_tree.specs.History.{Past, bag}
use Rattle.btr_tree.specs.Root.{TreeValue, IsTree}
use Rattle.btr_hist.specs.Distil.{Inputs}

-- The second tree, if there is one, is that of the second past, and there is such a past only with such a tree.
abbrev pub IsSecond : Option Past → Option TreeValue → Type 0
IsSecond None None = Unit {0}
IsSecond (Some h) (Some t) = IsTree h t
IsSecond None (Some t) = ⊥
IsSecond (Some h) None = ⊥

-- The points of the second past, if there is one.
abbrev pub second_past_points : Option Past → List Point
second_past_points None = []
second_past_points (Some h) = bag h

-- P holds of the points of each two pasts whose trees these are.
abbrev pub AtEachInputs : TreeValue → Option TreeValue → (Inputs → Type 0) → Type 0
AtEachInputs first second P =
    (h : Past) (k : Option Past) → IsTree h first → IsSecond k second
    → P (record { first = bag h; second = second_past_points k })
