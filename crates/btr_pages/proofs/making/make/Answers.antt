use Rattle.std.proofs.Common.{sym, ap, subst, ◌∙◌}
use Rattle.std.specs.Option.{MatchOption}
use Rattle.btr_node.specs.Page.{Keeps, Fits, IsLeafPage, IsInnerPage, header, slots_of_page, span_of_page}
use Rattle.btr_node.specs.declared.page.PageHeader.{PageHeader}
use Rattle.btr_pages.specs.Made.{HaveKnownChildren, IsInnerMade, IsReadTree, header_span}
use Rattle.btr_pages.proofs.KnownLemmas.{leaf-counted, inner-counted}
use Rattle.btr_pages.proofs.making.make.Goals as goal
use Rattle.btr_pages.proofs.making.make.Goals.{in-Leaf+in_ok-tree-in-Leaf, in-Inner+in_ok-tree-in-Inner+in-Some}

pub invariant_of-result : goal.invariant_of-result
invariant_of-result g c =
    let f = c.header-header.result in
    elim c.match-page.branch [
      | in-Leaf+in_ok-tree-in-Leaf w ↦
          let p = w.in-Leaf in
          let keeps = subst (λ (f : PageHeader). IsLeafPage f p.points) (sym (c.header-header.ensures ∙ ap header p.is)) (subst Keeps p.is c.requires.keeps) in
          let fits = subst Fits p.is c.requires.fits in
          subst (λ t. IsReadTree f.count t) (sym w.tree-is) (leaf-counted c.args.block f.version c.span-span.result f p.points w.in_ok-tree-in-Leaf.tree keeps fits.1 w.in_ok-tree-in-Leaf.ensures)
      | in-Inner+in_ok-tree-in-Inner+in-Some w ↦
          let p = w.in-Inner in
          let nodes = c.args.nodes.now in
          let keeps = subst (λ (f : PageHeader). IsInnerPage f p.slots) (sym (c.header-header.ensures ∙ ap header p.is)) (subst Keeps p.is c.requires.keeps) in
          let fits = subst Fits p.is c.requires.fits in
          let made = subst (λ o. MatchOption o (HaveKnownChildren nodes c.args.block (header_span f) f.stream p.slots → ⊥) (IsInnerMade nodes c.args.block (header_span f) f.stream f.version p.slots)) w.in-Some.is w.in_ok-tree-in-Inner.ensures in
          subst (λ t. IsReadTree f.count t) (sym w.tree-is) (inner-counted nodes c.args.block f.stream f.version (header_span f) f p.slots w.in-Some.tree keeps fits.1 made)
    ]

pub returns-in_default : goal.returns-in_default
returns-in_default g c may =
    let p = c.in-Inner in
    let page = c.args.page.now in
    let f = c.header-header.result in
    let nodes = c.args.nodes.now in
    let none = subst (λ o. MatchOption o (HaveKnownChildren nodes c.args.block (header_span f) f.stream p.slots → ⊥) (IsInnerMade nodes c.args.block (header_span f) f.stream f.version p.slots)) c.in_default.is c.in_ok-tree-in-Inner.ensures in
    let slots = subst (HaveKnownChildren nodes c.args.block (span_of_page page) (header page).stream) (ap slots_of_page p.is) may in
    none (subst (λ (f : PageHeader). HaveKnownChildren nodes c.args.block (header_span f) f.stream p.slots) (sym c.header-header.ensures) slots)
