use Rattle.std.proofs.Common.{◌∙◌, ap, sym, List, Some, option_map, slice_get}
use Rattle.std.specs.declared.sync.Arc.{Arc}
use Rattle.std.specs.declared.alloc.Global.{Global}
use Rattle.btr_tree.specs.declared.node.NodeData.{NodeData}
use Rattle.btr_tree.specs.declared.node.Slot.{Slot}
use Rattle.btr_tree.specs.NewNodes.{slots_of_node}
use Rattle.btr_tree.specs.Slots.{linked}
use Rattle.btr_tree.proofs.NewNodeLemmas.{slots-of_none, slots-of_leaf, get-of_inner, get-past}
use Rattle.btr_tree.proofs.new_node.NewSlots.get.Goals as goal

pub returns-in-None : goal.returns-in-None
returns-in-None c =
    sym (ap (λ (xs : List Slot). slice_get xs c.args.i) (sym c.self.view_is ∙ ap (λ o. slots_of_node (option_map (λ (a : Arc NodeData Global). a.value) o)) c.in-None.is ∙ slots-of_none))

pub returns-in-Leaf : goal.returns-in-Leaf
returns-in-Leaf c =
    sym (ap (λ (xs : List Slot). slice_get xs c.args.i) (sym c.self.view_is ∙ ap (λ o. slots_of_node (option_map (λ (a : Arc NodeData Global). a.value) o)) c.in-Some.is ∙ slots-of_leaf c.in-Some.node.value c.in-Leaf.version c.in-Leaf.points (sym c.deref.ensures ∙ c.in-Leaf.is)))

pub returns-in-Inner : goal.returns-in-Inner
returns-in-Inner c =
    ap Some c.addressed.ensures
    ∙ sym (ap (λ (xs : List Slot). slice_get xs c.args.i) (sym c.self.view_is ∙ ap (λ o. slots_of_node (option_map (λ (a : Arc NodeData Global). a.value) o)) c.in-Some.is) ∙ get-of_inner c.in-Some.node.value c.in-Inner.version c.in-Inner.slots c.args.i (sym c.deref.ensures ∙ c.in-Inner.is) c.if-i-lt-FAN_OUT.true)

pub returns-in-Inner-2 : goal.returns-in-Inner-2
returns-in-Inner-2 c =
    sym (ap (λ (xs : List Slot). slice_get xs c.args.i) (sym c.self.view_is) ∙ get-past (linked c.self.inside.node) c.args.i c.if-i-lt-FAN_OUT.false)
