use Rattle.std.proofs.Common.{◌≡◌, ◌+◌, [], ◌∷◌, ◌++◌, ◌∙◌, sym, ap, subst, arith, take}
use Rattle.std.specs.List.{filter}
use Rattle.std.proofs.lemmas.List.{take_more}
use Rattle.btr_base.specs.declared.point.Point.{Point}
use Rattle.btr_base.specs.Point.{InDomain, AreInDomain}
use Rattle.btr_base.specs.Range.{RangeValue, IsCut, covered}
use Rattle.btr_base.specs.Bag.{IsInOrder, within}
use Rattle.btr_base.proofs.ListLemmas.{each-filter}
use Rattle.btr_base.proofs.PointLemmas.{filter-in_order}
use Rattle.btr_base.proofs.RangeLemmas.{IsCut-take}
use Rattle.btr_tree.specs.History.{bag}
use Rattle.btr_base.specs.Span.{SpanValue}
use Rattle.btr_tree.specs.Root.{IsSomeTree}
use Rattle.btr_tree.proofs.RootLemmas.{some-whole}
use Rattle.btr_tree.proofs.VersionLemmas.{bag-in_order}
use Rattle.btr_kernel.proofs.GatherLemmas.{gather-none, gather-more}
use Rattle.btr_kernel.proofs.gather.gather.Goals as goal

pub loop-part-init : goal.loop-part-init
loop-part-init c h tree = c.new-points.ensures.items ∙ sym (gather-none (bag h))

pub loop-part-preserved : goal.loop-part-preserved
loop-part-preserved c h tree =
    let rs = c.as_slice-part-items.result.now in
    let i = c.loop-part.part-index in
    let r : RangeValue = c.part-item.result in
    let more : take (i + 1) rs ≡ take i rs ++ r ∷ [] = take_more rs i r (omega arith) ∙ ap (λ x. take i rs ++ x ∷ []) (sym c.part-item.is) in
    let cut = subst IsCut (sym c.as_slice-part-items.ensures.ranges) c.as_slice-part-items.ensures.cut in
    let prefix = subst IsCut more (IsCut-take (i + 1) rs cut) in
    c.in_ok-append_range.ensures h tree
    ∙ ap (λ x. x ++ within r.from r.to (bag h)) (c.loop-part.invariant h tree)
    ∙ sym (gather-more (bag h) (take i rs) r (bag-in_order h) prefix)
    ∙ ap (λ l. filter (λ (p : Point). covered l p.time) (bag h)) (sym more)

pub returns-clause-order : goal.returns-clause-order
returns-clause-order c =
    let some = subst IsSomeTree (c._kept.view_is ∙ c.in_ok-_kept.ensures) c._kept.invariant in
    let span = ap (λ (u : SpanValue). u.height) (c.whole.view_is ∙ c.span-whole.ensures) in
    let high = c.if-whole-lt-ROOT_HEIGHT.false in
    let past = some-whole c.args.tree.now some (omega arith) in
    let h = past.0 in
    let tree = past.1 in
    let rs = take c.loop-part.part-index c.as_slice-part-items.result.now in
    subst IsInOrder (sym (c.loop-part.invariant h tree)) (filter-in_order (λ p. covered rs p.time) (bag h) (bag-in_order h))

pub returns-clause-domain : goal.returns-clause-domain
returns-clause-domain c =
    let some = subst IsSomeTree (c._kept.view_is ∙ c.in_ok-_kept.ensures) c._kept.invariant in
    let span = ap (λ (u : SpanValue). u.height) (c.whole.view_is ∙ c.span-whole.ensures) in
    let high = c.if-whole-lt-ROOT_HEIGHT.false in
    let past = some-whole c.args.tree.now some (omega arith) in
    let h = past.0 in
    let tree = past.1 in
    let rs = take c.loop-part.part-index c.as_slice-part-items.result.now in
    subst AreInDomain (sym (c.loop-part.invariant h tree)) (each-filter (λ p. InDomain p.time) (λ p. covered rs p.time) (bag h) tree.times)

pub returns-then-whole-lt-ROOT_HEIGHT-clause-points : goal.returns-then-whole-lt-ROOT_HEIGHT-clause-points
returns-then-whole-lt-ROOT_HEIGHT-clause-points c h tree =
    let span = ap (λ (u : SpanValue). u.height) (c.whole.view_is ∙ c.span-whole.ensures) in
    let top = ap (λ (u : SpanValue). u.height) tree.whole in
    let low = c.if-whole-lt-ROOT_HEIGHT.true in
    absurd (omega arith)
