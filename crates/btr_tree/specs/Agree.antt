-- When the points of a span are equal in two versions of a stream: if the newer tree's node or slot there is no newer than the older one.
use Rattle.std.specs.Prelude.{◌≡◌, ℕ, ◌≤◌, ℤ, Bool, List}
use Rattle.btr_base.specs.declared.point.Point.{Point}
use Rattle.btr_tree.specs.History.{Past, bag}
use Rattle.btr_tree.specs.Nodes.{points_of, node_version, slot_version}

-- Each span whose node or slot in the newer tree has a version of at most `since` has equal points in both.
pub record AgreeSince (since : ℕ) (old new : Past) : Type 0 where
  pub nodes : (above : List Point → Bool) (height : ℕ) (start : ℤ) → node_version above height start new ≤ since
      → points_of height start (bag old) ≡ points_of height start (bag new)
  pub slots : (above : ℕ) (begin : ℤ) (height : ℕ) (start : ℤ) → slot_version above begin height start new ≤ since
      → points_of height start (bag old) ≡ points_of height start (bag new)
