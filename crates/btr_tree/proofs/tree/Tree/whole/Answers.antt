use Rattle.std.proofs.Common.{◌∙◌, ap, arith, refl}
use Rattle.btr_base.specs.Span.{SpanValue}
use Rattle.btr_tree.specs.History.{nothing}
use Rattle.btr_tree.specs.Root.{TreeValue}
use Rattle.btr_tree.specs.Slots.{linked, node_of}
use Rattle.btr_tree.proofs.RootLemmas.{some-whole, tree-none, tree-whole}
use Rattle.btr_tree.proofs.tree.Tree.whole.Goals as goal

pub returns-then-self-lt-ROOT_HEIGHT-clause-some : goal.returns-then-self-lt-ROOT_HEIGHT-clause-some
returns-then-self-lt-ROOT_HEIGHT-clause-some c = (nothing, tree-none _ c.none.result refl c.none.ensures)

pub returns-then-self-lt-ROOT_HEIGHT-clause-same : goal.returns-then-self-lt-ROOT_HEIGHT-clause-same
returns-then-self-lt-ROOT_HEIGHT-clause-same c h tree =
    let inside = ap (λ r. r.span.height) c.self-inside.view_is in
    let now = ap (λ (t : TreeValue). t.span.height) c.self.view_is in
    let top = ap (λ (u : SpanValue). u.height) tree.whole in
    let low = c.if-self-lt-ROOT_HEIGHT.true in
    absurd (omega arith)

pub returns-clause-some : goal.returns-clause-some
returns-clause-some c =
    let t : TreeValue = record { span = c.self.inside.span; node = linked c.self.inside.root; total = c.self.inside.agg } in
    let e = ap (λ r. r.span.height) c.self-inside.view_is in
    let high = c.if-self-lt-ROOT_HEIGHT.false in
    let whole = some-whole t c.self.invariant (omega arith) in
    (whole.0, tree-whole whole.0 t (node_of c.seen.result) _ whole.1 (c.seen.ensures ∙ ap (λ r. linked r.root) c.self-inside.view_is) (ap (λ r. r.agg) c.self-inside.view_is))
