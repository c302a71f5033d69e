use Rattle.std.proofs.Common.{refl, sym, subst, arith}
use Rattle.std.proofs.lemmas.Result.{err_from_is_err_and}
use Rattle.btr_base.specs.declared.limits.TheConstants.{FIRST}
use Rattle.btr_tree.specs.Nodes.{above_root}
use Rattle.btr_tree.specs.Root.{root_part}
use Rattle.btr_tree.specs.Spots.{StandsIn, MayStandIn, IsSafeSpot, IsSpotAt, IsRootCause}
use Rattle.btr_tree.proofs.SpotLemmas.{stands-page, may-root, root-none, root-safe, root-at, root-harmless, root-cause, root-fits, wrong-root, uses}
use Rattle.btr_tree.proofs.fetch.find_root.Goals as goal

pub returns-in_err-page-clause-sound : goal.returns-in_err-page-clause-sound
returns-in_err-page-clause-sound g c =
    let p = err_from_is_err_and c.from_residual.result c.from_residual.ensures.1 in
    let nodes = g.N.Nodes in
    let zero = c.if-root-eq0.false in
    rw (p.1, p.2) (λ o h is. root-harmless nodes.is_observable (nodes.IsPage (nodes.contents c.args.nodes.now)) c.args.root _ _ c.in_err-page.field-0.0 h o (omega arith) c.in_err-page.ensures.cause is)

pub returns-in_err-page-clause-uses : goal.returns-in_err-page-clause-uses
returns-in_err-page-clause-uses g c =
    let nodes = g.N.Nodes in
    let p = err_from_is_err_and c.from_residual.result c.from_residual.ensures.1 in
    rw (p.1, p.2) (uses nodes.contents nodes.faults (λ t. IsRootCause nodes.is_observable c.args.root (λ o. nodes.IsPage t)) c.args.nodes.now c.node.new.self _ c.node.ensures.same c.node.ensures.rises
    (root-cause nodes.is_observable (nodes.IsPage (nodes.contents c.args.nodes.now)) c.args.root (nodes.faults c.args.nodes.now) (nodes.faults c.node.new.self) c.in_err-page.field-0.0 c.in_err-page.ensures.cause))

pub returns-then-not-is_root_page-clause-sound : goal.returns-then-not-is_root_page-clause-sound
returns-then-not-is_root_page-clause-sound g c o h is =
    let nodes = g.N.Nodes in
    let contents = nodes.contents c.args.nodes.now in
    let zero = c.if-root-eq0.false in
    let its = stands-page (nodes.IsPage contents) c.args.root.stream c.args.root.block c.in_ok-page.page 10 FIRST above_root h (g.met.N.Nodes.one_page contents) (c.in_ok-page.ensures.page o) in
    let no = c.if-not-is_root_page.ensures.1 (root-fits (StandsIn (nodes.IsPage contents)) c.args.root c.in_ok-page.page h its (omega arith) is) in
    absurd (cc)

pub returns-then-not-is_root_page-clause-uses : goal.returns-then-not-is_root_page-clause-uses
returns-then-not-is_root_page-clause-uses g c =
    let nodes = g.N.Nodes in
    let contents = nodes.contents c.args.nodes.now in
    uses nodes.contents nodes.faults (λ t. IsRootCause nodes.is_observable c.args.root (λ o. nodes.IsPage t)) c.args.nodes.now c.node.new.self _ c.node.ensures.same c.node.ensures.rises
    (wrong-root nodes.is_observable (nodes.IsPage contents) c.args.root c.in_ok-page.page (nodes.faults c.args.nodes.now) (nodes.faults c.node.new.self) (g.met.N.Nodes.one_page contents) c.in_ok-page.ensures.page (λ fits. let no = c.if-not-is_root_page.ensures.1 fits in absurd (cc)))

pub returns-clause-safe : goal.returns-clause-safe
returns-clause-safe g c =
    let nodes = g.N.Nodes in
    let has = nodes.IsPage (nodes.contents c.node.new.self) in
    let found = c.in_ok-page.ensures in
    subst (λ at. IsSafeSpot nodes.is_observable (λ o. has) at root_part) (sym c.spot_of.ensures) (root-safe nodes.is_observable has c.args.root c.in_ok-page.page (λ o. subst (λ t. nodes.IsPage t c.args.root.block c.in_ok-page.page) (sym found.same) (found.page o)) found.keeps (c.if-not-is_root_page.ensures.0 refl))

pub returns-then-root-eq0-clause-at : goal.returns-then-root-eq0-clause-at
returns-then-root-eq0-clause-at g c o h is =
    let nodes = g.N.Nodes in
    let zero = c.if-root-eq0.true in
    root-none (MayStandIn (nodes.IsPage (nodes.contents c.args.nodes.now))) c.args.root h c.args.root.version 0 (omega arith) is.is

pub returns-clause-at : goal.returns-clause-at
returns-clause-at g c o h is =
    let nodes = g.N.Nodes in
    let contents = nodes.contents c.args.nodes.now in
    let found = c.in_ok-page.ensures in
    let zero = c.if-root-eq0.false in
    let its = may-root (nodes.IsPage contents) c.args.root c.in_ok-page.page h (omega arith) (found.page o) found.keeps (c.if-not-is_root_page.ensures.0 refl) is in
    subst (λ at. IsSpotAt (MayStandIn (nodes.IsPage contents)) at 10 FIRST above_root h) (sym c.spot_of.ensures) (root-at (MayStandIn (nodes.IsPage contents)) c.args.root c.in_ok-page.page h its found.keeps found.fits (omega arith) is.is)

pub returns-clause-there : goal.returns-clause-there
returns-clause-there g c o h is =
    let nodes = g.N.Nodes in
    let contents = nodes.contents c.args.nodes.now in
    let found = c.in_ok-page.ensures in
    let zero = c.if-root-eq0.false in
    let its = stands-page (nodes.IsPage contents) c.args.root.stream c.args.root.block c.in_ok-page.page 10 FIRST above_root h (g.met.N.Nodes.one_page contents) (found.page o) in
    subst (λ at. IsSpotAt (StandsIn (nodes.IsPage contents)) at 10 FIRST above_root h) (sym c.spot_of.ensures) (root-at (StandsIn (nodes.IsPage contents)) c.args.root c.in_ok-page.page h its found.keeps found.fits (omega arith) is)
