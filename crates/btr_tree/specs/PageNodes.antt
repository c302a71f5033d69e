-- Pages in blocks: the nodes of a stream that they are, and which pages are those of a slot's child and of a root.
use Rattle.std.specs.Prelude.{◌≡◌, ℕ, ◌≤◌, nat_eq, [], take, map, Option, Some, None, if◌then◌else◌}
use Rattle.std.specs.Option.{option_and_then}
use Rattle.btr_base.specs.Agg.{no_points}
use Rattle.btr_base.specs.Span.{slot_of}
use Rattle.btr_node.specs.Page.{header, span_of_page}
use Rattle.btr_node.specs.declared.page.NodePage.{NodePage}
use Rattle.btr_node.specs.declared.page.NodePage.TheVariants.{Leaf, Inner}
use Rattle.btr_node.specs.declared.page.PageSlot.{PageSlot}
use Rattle.btr_tree.specs.declared.node.Slot.{Slot}
use Rattle.btr_tree.specs.NewNodes.{NewNodeValue}
use Rattle.btr_tree.specs.Stored.{Store}

-- The page in each block, if there is one. It is a function, so that a clause can speak of all pages.
abbrev pub Pages : Type 0
Pages = ℕ → Option NodePage

-- A slot of a page, as a slot of the tree.
abbrev pub slot_of_page : PageSlot → Slot
slot_of_page slot = record { agg = slot.agg; version = slot.version; child = slot.child }

-- A slot of a page without a point, a version and a child.
abbrev pub unused_slot : PageSlot
unused_slot = record { agg = no_points; version = 0; child = 0 }

-- The node that a page says.
abbrev pub node_of_page : NodePage → NewNodeValue
node_of_page (Leaf start height stream version count points) =
    record {
      span = record { start = start; height = height };
      version = version;
      points = take count points;
      slots = [];
    }
node_of_page (Inner start height stream version count slots) =
    record {
      span = record { start = start; height = height };
      version = version;
      points = [];
      slots = map slot_of_page slots;
    }

-- The node that a page says, if the page is of this stream.
abbrev pub node_of_stream : ℕ → NodePage → Option NewNodeValue
node_of_stream stream page = if nat_eq (header page).stream stream then Some (node_of_page page) else None

-- The node of a stream that is in each block, if there is one.
abbrev pub nodes_in : Pages → ℕ → Store
nodes_in pages stream block = option_and_then (node_of_stream stream) (pages block)

-- The page in a block is that of this node of the stream.
abbrev pub Stand : Pages → ℕ → ℕ → NewNodeValue → Type 0
Stand pages stream block node = nodes_in pages stream block ≡ Some node

-- A page is that of the child of slot i of a parent, where the slot has this version and count: of the same stream, of the
-- slot's span, with its version and its count.
pub record IsChildPage (parent : NodePage) (i : ℕ) (slot : PageSlot) (child : NodePage) : Type 0 where
  pub stream : (header child).stream ≡ (header parent).stream
  pub span : span_of_page child ≡ slot_of (span_of_page parent) i
  pub version : (header child).version ≡ slot.version
  pub count : (header child).count ≡ slot.agg.count

-- The page of the root of a version of a stream: its height is that of the whole domain, and it is not newer than the version.
pub record IsRootPage (stream version : ℕ) (page : NodePage) : Type 0 where
  pub height : (header page).height ≡ 10
  pub its_stream : (header page).stream ≡ stream
  pub not_newer : (header page).version ≤ version
