-- How many nodes of a tree have a version above a given one.
use Rattle.std.specs.Prelude.{ℕ, zero, suc, ◌+◌, ℤ, Bool, ◌&&◌, nat_lt, List, if◌then◌else◌}
use Rattle.btr_base.specs.declared.point.Point.{Point}
use Rattle.btr_tree.specs.History.{Past, bag}
use Rattle.btr_tree.specs.Nodes.{is_inner, is_node, node_version}
use Rattle.btr_tree.specs.Shape.{slot_start}

-- The sum of the first n numbers of a sequence.
abbrev pub sum_of : ℕ → (ℕ → ℕ) → ℕ
sum_of zero f = 0
sum_of (suc n) f = sum_of n f + f n

-- 1 if the span is a node whose version is above this one, else 0.
abbrev pub newer_here : ℕ → ℤ → (List Point → Bool) → Past → ℕ → ℕ
newer_here height start above h version =
    if is_node above height start (bag h) && nat_lt version (node_version above height start h) then 1 else 0

-- How many nodes in a span, with the span itself, have a version above this one.
abbrev pub newer_nodes : ℕ → ℤ → (List Point → Bool) → Past → ℕ → ℕ
newer_nodes zero start above h version = newer_here zero start above h version
newer_nodes (suc below) start above h version =
    newer_here (suc below) start above h version
    + (if is_inner (suc below) start (bag h)
    then sum_of 64 (λ i. newer_nodes below (slot_start below start i) (is_inner (suc below) start) h version) else 0)
