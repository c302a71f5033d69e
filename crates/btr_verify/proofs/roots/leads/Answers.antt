use Rattle.std.specs.Prelude.{◌<◌}
use Rattle.std.proofs.Common.{refl, arith}
use Rattle.btr_verify.proofs.RootLemmas.{zero-leads, leads-same, leads-not}
use Rattle.btr_verify.proofs.roots.leads.Goals as goal

pub returns-then-made-eq0 : goal.returns-then-made-eq0
returns-then-made-eq0 c pages h judged is =
    let zero = zero-leads pages h c.args.made.now is c.if-made-eq0.true in
    let none = c.has_no_point.ensures h judged.trees.of is.has in
    (λ yes. zero.1 (none.0 yes), λ leads. none.1 (zero.0 leads))

pub returns-then-is_right : goal.returns-then-is_right
returns-then-is_right c pages h judged is =
    let zero = c.if-made-eq0.false in
    let some : 0 < c.args.made.now.root = omega (arith, zero) in
    leads-same pages h c.args.made.now is c.args.nodes.now c.args.snapshot.now c.args.marks.now judged some c.has_tree_version.result (c.if-is_right.ensures.0 refl) (c.has_tree_version.ensures.same pages h judged.trees.known judged.trees.of is)

pub returns-else-is_right : goal.returns-else-is_right
returns-else-is_right c pages h judged is =
    let zero = c.if-made-eq0.false in
    let some : 0 < c.args.made.now.root = omega (arith, zero) in
    leads-not pages h c.args.made.now is c.args.nodes.now c.args.snapshot.now c.args.marks.now judged some c.is_right.result c.if-is_right.false c.is_right.ensures
