use Rattle.std.proofs.Common.{arith, refl, ap, sym, subst, ◌∙◌}
use Rattle.btr_base.specs.Span.{SpanValue, IsSpan}
use Rattle.btr_tree.specs.Slots.{node_of}
use Rattle.btr_verify.specs.Judged.{above_of}
use Rattle.btr_verify.specs.Found.{IsFoundIn}
use Rattle.btr_verify.proofs.FoundLemmas.{none-found, leaf-found, here-found, leaf-few, slot-child}
use Rattle.btr_verify.proofs.finding.+find_below.Goals as goal

pub returns-in_err-node-clause-found : goal.returns-in_err-node-clause-found
returns-in_err-node-clause-found g t c h has =
    let at = c.args.at in
    let none = c.in_err-node.ensures.none refl at.height at.start (above_of at) h has.its_child in
    subst (IsFoundIn c.args.span h) (sym c.from_residual.ensures) (none-found at c.args.span h (subst IsSpan c.at.view_is c.at.invariant) (subst IsSpan c.span.view_is c.span.invariant) c.requires none)

pub returns-then-is_here-clause-found : goal.returns-then-is_here-clause-found
returns-then-is_here-clause-found g t c h has =
    let one = ap (λ (s : SpanValue). s.height) c.at.view_is in
    let two = ap (λ (s : SpanValue). s.height) c.span.view_is in
    here-found c.args.at c.args.span h c.in_ok-node.node (node_of c.args.child) (subst IsSpan c.at.view_is c.at.invariant) (subst IsSpan c.span.view_is c.span.invariant) c.requires (sym one ∙ c.if-is_here.true ∙ two) has c.in_ok-node.ensures.node

pub returns-in-Leaf-clause-found : goal.returns-in-Leaf-clause-found
returns-in-Leaf-clause-found g t c h has =
    let one = ap (λ (s : SpanValue). s.height) c.at.view_is in
    let two = ap (λ (s : SpanValue). s.height) c.span.view_is in
    let other = c.if-is_here.false in
    let low = c.requires.low in
    leaf-found c.args.at c.args.span h (subst IsSpan c.at.view_is c.at.invariant) (subst IsSpan c.span.view_is c.span.invariant) c.requires (omega arith) (leaf-few c.args.at h c.in_ok-node.node (node_of c.args.child) c.in-Leaf.version c.in-Leaf.points has c.in_ok-node.ensures.node c.in-Leaf.is)

pub returns-in-Inner-clause-found : goal.returns-in-Inner-clause-found
returns-in-Inner-clause-found g t c h has =
    let child = slot-child c.args.at c.slot.result h c.in_ok-node.node (node_of c.args.child) (node_of c.child.result) c.in-Inner.version c.slot_at-i.result c.in-Inner.slots (subst IsSpan c.at.view_is c.at.invariant) has c.in_ok-node.ensures.node c.in-Inner.is c.slot_at-i.ensures.place c.slot.ensures c.child.ensures in
    c.find_below.ensures.found h child
