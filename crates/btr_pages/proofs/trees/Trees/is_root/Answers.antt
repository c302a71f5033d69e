use Rattle.std.proofs.Common.{option_map, ◌≡◌, sym, ap, ◌∙◌, Some}
use Rattle.btr_pages.specs.Known.{node_at}
use Rattle.btr_pages.proofs.RootPageLemmas.{root-page, page-root}
use Rattle.btr_pages.proofs.trees.Trees.is_root.Goals as goal

pub returns-in-Some-clause-known : goal.returns-in-Some-clause-known
returns-in-Some-clause-known c pages are =
    let nodes = c.args.self.now in
    let k = c.in-Some.known.now in
    let at : node_at nodes c.args.block ≡ Some k = sym c.get.ensures ∙ ap (option_map (λ k. k.now)) c.in-Some.is in (
      λ yes. root-page pages nodes c.args.stream c.args.version c.args.block k are.each at (c.is_root.ensures.root.0 yes),
      λ has. c.is_root.ensures.root.1 (page-root pages nodes c.args.stream c.args.version c.args.block k are.each at has),
    )

pub returns-in-Some-clause-part : goal.returns-in-Some-clause-part
returns-in-Some-clause-part c pages are there =
    let nodes = c.args.self.now in
    let k = c.in-Some.known.now in
    let at : node_at nodes c.args.block ≡ Some k = sym c.get.ensures ∙ ap (option_map (λ k. k.now)) c.in-Some.is in (
      λ yes. root-page pages nodes c.args.stream c.args.version c.args.block k are at (c.is_root.ensures.root.0 yes),
      λ has. c.is_root.ensures.root.1 (page-root pages nodes c.args.stream c.args.version c.args.block k are at has),
    )

pub returns-in-Some-clause-whole : goal.returns-in-Some-clause-whole
returns-in-Some-clause-whole c right = record {
  known = c.in-Some.known.now;
  is = sym c.get.ensures ∙ ap (option_map (λ k. k.now)) c.in-Some.is;
  opened = c.is_root.ensures.opened;
  height = (c.is_root.ensures.root.0 right).height;
}
