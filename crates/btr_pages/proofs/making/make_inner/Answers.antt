use Rattle.std.proofs.Common.{sym, subst}
use Rattle.std.specs.Option.{MatchOption}
use Rattle.btr_tree.specs.Opened.{AreParts, IsInnerTree}
use Rattle.btr_pages.specs.Made.{HaveKnownChildren, ArePartsTo, IsInnerMade}
use Rattle.btr_pages.proofs.PartLemmas.{parts-inner_page}
use Rattle.btr_pages.proofs.making.make_inner.Goals as goal

pub inner-requires-clause-parts : goal.inner-requires-clause-parts
inner-requires-clause-parts g c =
    let f = c.args.header.now in
    let span = c.span_of-span.result in
    let parts = c.in-Some.parts.items in
    let fit = parts-inner_page c.args.nodes.now c.args.block span f c.args.slots.now parts c.type_inv.slots c.requires.keeps (rw c.in-Some.is at c.in_ok-parts.ensures) in
    subst (λ ps. AreParts span f.version ps c.versions.result) (sym c.deref.ensures.value) (subst (AreParts span f.version parts) (sym c.versions.ensures) fit)

pub returns : goal.returns
returns g c =
    let nodes = c.args.nodes.now in
    let f = c.args.header.now in
    let span = c.span_of-span.result in
    let slots = c.args.slots.now in
    let parts = c.in-Some.parts.items in
    let are : ArePartsTo 64 nodes c.args.block span f.stream slots parts = rw c.in-Some.is at c.in_ok-parts.ensures in
    let made : IsInnerMade nodes c.args.block span f.stream f.version slots c.in_ok-tree.tree =
    record {
      parts = parts;
      are = are;
      fit = parts-inner_page nodes c.args.block span f slots parts c.type_inv.slots c.requires.keeps are;
      is =
          subst (λ vs. IsInnerTree span f.version c.args.block parts vs c.in_ok-tree.tree) c.versions.ensures (subst (λ ps. IsInnerTree span f.version c.args.block ps c.versions.result c.in_ok-tree.tree) c.deref.ensures.value c.in_ok-tree.ensures.inner);
      opened = c.in_ok-tree.ensures.opened;
    } in
    subst (λ s. IsInnerMade nodes c.args.block s f.stream f.version slots c.in_ok-tree.tree) c.span_of-span.ensures made

pub returns-in_default : goal.returns-in_default
returns-in_default g c =
    let f = c.args.header.now in
    let none = subst (λ o. MatchOption o (HaveKnownChildren c.args.nodes.now c.args.block c.span_of-span.result f.stream c.args.slots.now → ⊥) (λ parts. ArePartsTo 64 c.args.nodes.now c.args.block c.span_of-span.result f.stream c.args.slots.now parts.items)) c.in_default.is c.in_ok-parts.ensures in
    subst (λ s. HaveKnownChildren c.args.nodes.now c.args.block s f.stream c.args.slots.now → ⊥) c.span_of-span.ensures none
