use Rattle.std.proofs.Common.{option_map, ◌≡◌, sym, ap, ◌∙◌, subst, Some, IfOk}
use Rattle.btr_pages.specs.Known.{KnownValue, node_at}
use Rattle.btr_pages.proofs.RootPageLemmas.{shared-root}
use Rattle.btr_pages.proofs.trees.Trees.tree.Goals as goal

pub returns-in-Some-clause-root : goal.returns-in-Some-clause-root
returns-in-Some-clause-root c some pages stream version are has =
    let nodes = c.args.self.now in
    let k = c.in-Some.known.now in
    let at : node_at nodes c.args.block ≡ Some k = sym c.get.ensures ∙ ap (option_map (λ k. k.now)) c.in-Some.is in
    let same : c.known.inside.tree ≡ k.tree = ap (λ (k : KnownValue). k.tree) c.known.view_is in
    let is = subst (λ t. IfOk c.share.result (λ u. u ≡ t)) same c.share.ensures in
    shared-root c.share.result pages nodes stream version c.args.block k are.each at is has

pub returns-in-Some-clause-part : goal.returns-in-Some-clause-part
returns-in-Some-clause-part c some pages stream version are there has =
    let nodes = c.args.self.now in
    let k = c.in-Some.known.now in
    let at : node_at nodes c.args.block ≡ Some k = sym c.get.ensures ∙ ap (option_map (λ k. k.now)) c.in-Some.is in
    let same : c.known.inside.tree ≡ k.tree = ap (λ (k : KnownValue). k.tree) c.known.view_is in
    let is = subst (λ t. IfOk c.share.result (λ u. u ≡ t)) same c.share.ensures in
    shared-root c.share.result pages nodes stream version c.args.block k are at is has
