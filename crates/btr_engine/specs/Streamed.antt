-- The blocks of an extent that are made while they are written.
use Rattle.std.specs.Prelude.{ℕ, Bool, true, false, List, [], ◌++◌, Option, Some, None}
use Rattle.std.specs.List.{flat_map}
use Rattle.btr_disk.specs.Gate.{zeros}
use Rattle.btr_tree.specs.NewNodes.{NewNodeValue}
use Rattle.btr_node.specs.Page.{page_bytes}
use Rattle.btr_pages.specs.Pages.{page_of, pages_of}

-- The bytes of the block of a node of a stream: its page, or zeros where there is no node.
abbrev pub node_block : ℕ → Option NewNodeValue → List ℕ
node_block stream None = zeros 4096
node_block stream (Some node) = page_bytes (page_of stream node)

-- The bytes of blocks that are streamed: the pages of these nodes of a stream, and one block of zeros. There are none if they were made
-- before.
abbrev pub streamed_bytes : Bool → ℕ → List NewNodeValue → List ℕ
streamed_bytes false stream nodes = []
streamed_bytes true stream nodes = flat_map page_bytes (pages_of stream nodes) ++ zeros 4096
