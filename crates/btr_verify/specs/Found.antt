-- What is found of a span in a tree: its node, or none if the span is no node of the tree.
use Rattle.std.specs.Prelude.{◌≡◌, ◌≤◌, ◌≤ℤ◌, ◌<ℤ◌, true, false, Option, MatchOption}
use Rattle.btr_base.specs.Span.{SpanValue}
use Rattle.btr_tree.specs.declared.node.Node.{Node}
use Rattle.btr_tree.specs.declared.node.NodeData.{NodeData}
use Rattle.btr_tree.specs.Change.{end_of}
use Rattle.btr_tree.specs.History.{Past, bag}
use Rattle.btr_tree.specs.Shape.{IsNode, IsChild}
use Rattle.btr_verify.specs.Judged.{above_of, is_node_in}

-- The span is a node after a past, and the node that was visited is that node.
pub record IsNodeIn (span : SpanValue) (h : Past) (node : Node) : Type 0 where
  pub is_node : is_node_in span h ≡ true
  pub its_node : IsNode span.height span.start (above_of span) h node

-- The node of the span after a past, or none if the span is no node then.
abbrev pub IsFoundIn : SpanValue → Past → Option Node → Type 0
IsFoundIn span h found = MatchOption found (is_node_in span h ≡ false) (IsNodeIn span h)

-- A span begins in another, and is at most as high.
pub record LiesIn (part whole : SpanValue) : Type 0 where
  pub low : part.height ≤ whole.height
  pub begins : whole.start ≤ℤ part.start
  pub ends : part.start <ℤ end_of whole

-- The child is that of a span after a past in which the span above is an inner node.
pub record IsChildIn (span : SpanValue) (child : Option NodeData) (h : Past) : Type 0 where
  pub above : above_of span (bag h) ≡ true
  pub its_child : IsChild span.height span.start (above_of span) h child
