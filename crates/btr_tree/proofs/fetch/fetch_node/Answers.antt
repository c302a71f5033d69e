use Rattle.std.proofs.lemmas.Result.{err_from_is_err_and}
use Rattle.btr_tree.proofs.SpotLemmas.{stands-page, fits-never, node-harmless, node-cause, wrong-page, uses}
use Rattle.btr_tree.specs.Spots.{StandsIn, IsFetchCause}
use Rattle.btr_tree.proofs.fetch.fetch_node.Goals as goal

pub returns-in_err-page-clause-sound : goal.returns-in_err-page-clause-sound
returns-in_err-page-clause-sound g c =
    let p = err_from_is_err_and c.from_residual.result c.from_residual.ensures.1 in
    let has = g.N.Nodes.IsPage (g.N.Nodes.contents c.args.nodes.now) in
    rw (p.1, p.2) (λ o above h is. node-harmless g.N.Nodes.is_observable has c.args.at _ _ c.args.span.height c.args.span.start c.in_err-page.field-0.0 above h o c.requires.some c.in_err-page.ensures.cause is)

pub returns-in_err-page-clause-uses : goal.returns-in_err-page-clause-uses
returns-in_err-page-clause-uses g c =
    let nodes = g.N.Nodes in
    let p = err_from_is_err_and c.from_residual.result c.from_residual.ensures.1 in
    let has = nodes.IsPage (nodes.contents c.args.nodes.now) in
    rw (p.1, p.2) (uses nodes.contents nodes.faults (λ t. IsFetchCause nodes.is_observable (λ o. nodes.IsPage t)) c.args.nodes.now c.node.new.self _ c.node.ensures.same c.node.ensures.rises
    (node-cause nodes.is_observable has c.args.at c.args.span (nodes.faults c.args.nodes.now) (nodes.faults c.node.new.self) c.in_err-page.field-0.0 c.requires.safe c.requires.some c.in_err-page.ensures.cause))

pub returns-then-not-is_page_of-clause-sound : goal.returns-then-not-is_page_of-clause-sound
returns-then-not-is_page_of-clause-sound g c o above h is =
    let nodes = g.N.Nodes in
    let contents = nodes.contents c.args.nodes.now in
    let found = c.in_ok-page.ensures in
    let its = stands-page (nodes.IsPage contents) c.args.at.stream c.args.at.block c.in_ok-page.page c.args.span.height c.args.span.start above h (g.met.N.Nodes.one_page contents) (found.page o) in
    fits-never (StandsIn (nodes.IsPage contents)) c.args.at c.args.span c.in_ok-page.page above h its found.keeps found.fits c.requires.some (λ fits. let no = c.if-not-is_page_of.ensures.1 fits in absurd (cc)) is

pub returns-then-not-is_page_of-clause-uses : goal.returns-then-not-is_page_of-clause-uses
returns-then-not-is_page_of-clause-uses g c =
    let nodes = g.N.Nodes in
    let contents = nodes.contents c.args.nodes.now in
    uses nodes.contents nodes.faults (λ t. IsFetchCause nodes.is_observable (λ o. nodes.IsPage t)) c.args.nodes.now c.node.new.self _ c.node.ensures.same c.node.ensures.rises
    (wrong-page nodes.is_observable (nodes.IsPage contents) c.args.at c.args.span c.in_ok-page.page (nodes.faults c.args.nodes.now) (nodes.faults c.node.new.self) (g.met.N.Nodes.one_page contents) c.requires.safe c.requires.some c.in_ok-page.ensures.page (λ fits. let no = c.if-not-is_page_of.ensures.1 fits in absurd (cc)))
