use Rattle.std.proofs.Common.{◌≡◌, ◌≤ℤ◌, ◌<ℤ◌, ◌+ℤ◌, pos, ap, ◌∙◌, subst, rules, w64, to_z, of_z, FitsSigned}
use Rattle.std.proofs.lemmas.Int.{to_z-of_z}
use Rattle.btr_base.specs.Span.{width, IsSpan}
use Rattle.btr_node.proofs.SpanLemmas.{one-start}
use Rattle.btr_node.proofs.span_table.span_of.Goals as goal

pub returns-then-start_of-header-clause-none : goal.returns-then-start_of-header-clause-none
returns-then-start_of-header-clause-none c is =
    let h = c.args.header.now.height in
    let a = c.of-span.result.start in
    let b = c.args.header.now.start in
    let fits : FitsSigned w64 b = search rules in
    let e : to_z w64 (of_z w64 b) ≡ b = to_z-of_z w64 b fits in
    let is_a : IsSpan (record { start = a; height = h }) = subst (λ k. IsSpan (record { start = a; height = k })) c.of-span.ensures.height c.start_of.ensures.span in
    let same : a ≡ b = one-start h a b is_a is (subst (λ t. a ≤ℤ t) e c.of-span.ensures.begins) (subst (λ t. t <ℤ (a +ℤ pos (width h))) e c.of-span.ensures.ends) in
    c.if-start_of-header.true (ap (of_z w64) (c.start_of.ensures.start ∙ same))
