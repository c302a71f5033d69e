use Rattle.std.proofs.Common.{sym, subst}
use Rattle.btr_base.specs.Span.{IsSpan}
use Rattle.btr_tree.specs.Slots.{node_of}
use Rattle.btr_verify.specs.Found.{LiesIn, IsChildIn}
use Rattle.btr_verify.proofs.FoundLemmas.{in-root, root-child}
use Rattle.btr_verify.proofs.finding.find.Goals as goal

pub find_below-requires : goal.find_below-requires
find_below-requires g c = subst (λ s. LiesIn c.args.span s) (sym c.root_span.ensures) (in-root c.args.span (subst IsSpan c.span.view_is c.span.invariant))

pub returns-clause-found : goal.returns-clause-found
returns-clause-found g c h is =
    c.find_below.ensures.found h (subst (λ s. IsChildIn s (node_of c.link.result) h) (sym c.root_span.ensures) (root-child (node_of c.link.result) h (c.link.ensures.child h is)))
