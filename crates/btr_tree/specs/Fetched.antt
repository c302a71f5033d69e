-- What the private functions promise: what a page shows at its place.
use Rattle.btr_node.specs.declared.page.NodePage.{NodePage}
use Rattle.btr_node.specs.declared.page.NodePage.TheVariants as page
use Rattle.btr_tree.specs.declared.fetched.PagePoints.{PagePoints}
use Rattle.btr_tree.specs.declared.fetched.PageSlots.{PageSlots}
use Rattle.btr_tree.specs.declared.found.FoundNode.{FoundNode}
use Rattle.btr_tree.specs.declared.found.FoundNode.TheVariants.{Leaf, Inner}
use Rattle.btr_tree.specs.declared.spot.Spot.{Spot}

-- What is found at a place, from its page.
abbrev pub found_in : Spot → NodePage → FoundNode PagePoints PageSlots
found_in at (page.Leaf start height stream version count points) = Leaf version (record { count = count; points = points })
found_in at (page.Inner start height stream version count slots) =
    Inner version (record { block = at.block; stream = at.stream; slots = slots })
