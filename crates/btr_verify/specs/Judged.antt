-- When a stored node is right: by its own fields, and with all nodes below it. Each node is judged at its own version, once.
use Rattle.std.specs.Prelude.{◌≡◌, ℕ, ◌+◌, ◌<◌, ◌≤◌, nat_eq, Bool, true, List, slice_get, Some, IfSome, if◌then◌else◌}
use Rattle.btr_base.specs.declared.limits.TheConstants.{FIRST}
use Rattle.btr_base.specs.declared.point.Point.{Point}
use Rattle.btr_base.specs.Span.{width, SpanValue, IsSpan, slot_of}
use Rattle.btr_base.specs.Windows.{begin_of}
use Rattle.btr_tree.specs.declared.node.Slot.{Slot}
use Rattle.btr_tree.specs.History.{Past, Opened, ◌▷◌, bag, IsBefore}
use Rattle.btr_tree.specs.Leads.{Leads}
use Rattle.btr_tree.specs.NewNodes.{NewNodeValue, bare, new_node}
use Rattle.btr_tree.specs.Nodes.{is_inner, is_node, above_root, node_version, up_to}
use Rattle.btr_tree.specs.Stored.{Store}

-- ---- the node of a span after a past

-- Each commit of a past is newer than all commits before it, and than each date of the base.
abbrev pub IsRising : Past → Type 0
IsRising (Opened b dates) = Unit {0}
IsRising (c ▷ h) = IsBefore c.version h × IsRising h

-- The span of the next height in which a span lies.
unfoldable pub span_above : SpanValue → SpanValue
span_above span = record { start = begin_of FIRST (width (span.height + 1)) span.start; height = span.height + 1 }

-- The span above a span is an inner node. No span is above the whole domain.
unfoldable pub above_of : SpanValue → List Point → Bool
above_of span = if nat_eq span.height 10 then above_root else is_inner (span_above span).height (span_above span).start

-- The span is a node of the tree after a past.
abbrev pub is_node_in : SpanValue → Past → Bool
is_node_in span h = is_node (above_of span) span.height span.start (bag h)

-- The version of the span's node after a past.
abbrev pub version_in : SpanValue → Past → ℕ
version_in span h = node_version (above_of span) span.height span.start h

-- The span's node after a past. Its slots have no addresses.
abbrev pub node_in : SpanValue → Past → NewNodeValue
node_in span h = new_node span.height span.start (above_of span) h

-- The node is in the block.
abbrev pub IsIn : Store → ℕ → NewNodeValue → Type 0
IsIn store block node = store block ≡ Some node

-- The block leads to the span's node after a past, and to each node below it.
abbrev pub LeadsIn : Store → SpanValue → Past → ℕ → Type 0
LeadsIn store span h block = Leads (IsIn store) span.height span.start (above_of span) h block

-- ---- stored nodes

-- A node's own fields are those of the node that its span has after the past up to its own version: the span is a node then, and
-- the version, the points, and the aggregates and versions of the slots are the same. The addresses in its slots do not count.
pub record IsOwn (h : Past) (node : NewNodeValue) : Type 0 where
  pub is_node : is_node_in node.span (up_to node.version h) ≡ true
  pub same : bare node ≡ node_in node.span (up_to node.version h)

-- The block has the node, and leads to the node that its span has after the past up to its own version, and to each node below.
pub record IsRight (store : Store) (h : Past) (block : ℕ) (node : NewNodeValue) : Type 0 where
  pub stored : IsIn store block node
  pub is_node : is_node_in node.span (up_to node.version h) ≡ true
  pub leads : LeadsIn store node.span (up_to node.version h) block

-- The block has a node of this span and version, which is right with all nodes below it.
pub record HasRight (store : Store) (h : Past) (span : SpanValue) (version block : ℕ) : Type 0 where
  pub node : NewNodeValue
  pub its_span : node.span ≡ span
  pub its_version : node.version ≡ version
  pub right : IsRight store h block node

-- If the slot of a number has a point, its child is a node of the slot's span and version, which is right with all nodes below it.
abbrev pub IsRightSlot : Store → Past → SpanValue → ℕ → Slot → Type 0
IsRightSlot store h span i slot = 0 < slot.agg.count → HasRight store h (slot_of span i) slot.version slot.child

-- The children of all slots of a node are right.
abbrev pub AreRightBelow : Store → Past → NewNodeValue → Type 0
AreRightBelow store h node = (i : ℕ) → IfSome (slice_get node.slots i) (IsRightSlot store h node.span i)

-- What each page keeps: its block is not 0, its span is one of the tree, and its slots have children in lower blocks, or none if they
-- have no point.
pub record IsPlacedNode (block : ℕ) (node : NewNodeValue) : Type 0 where
  pub some : 1 ≤ block
  pub aligned : IsSpan node.span
  pub lower : (i : ℕ) → IfSome (slice_get node.slots i) (λ slot. 0 < slot.agg.count → slot.child < block)
  pub none : (i : ℕ) → IfSome (slice_get node.slots i) (λ slot. slot.agg.count ≡ 0 → slot.child ≡ 0)
