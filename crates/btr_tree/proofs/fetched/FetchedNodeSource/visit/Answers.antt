use Rattle.std.proofs.Common.{sym, ◌∙◌, subst, arith}
use Rattle.std.proofs.lemmas.Result.{err_from_is_err_and}
use Rattle.btr_tree.specs.NodeSource.{IsFoundAt, IsSafeFound}
use Rattle.btr_tree.specs.Spots.{StandsIn, MayStandIn, IsSafeSpot, IsFetchedAt}
use Rattle.btr_tree.proofs.FetchedLemmas.{points_of_page, slots_of_inner, spots_of_inner, found-safe, found-at}
use Rattle.btr_tree.proofs.SpotLemmas.{stands-page, may-page}
use Rattle.btr_tree.proofs.fetched.FetchedNodeSource.visit.Goals as goal

pub returns-in_err-page-clause-uses : goal.returns-in_err-page-clause-uses
returns-in_err-page-clause-uses g c =
    let p = err_from_is_err_and c.from_residual.result c.from_residual.ensures.1 in
    let used = c.in_err-page.ensures.uses in
    rw (p.1, p.2) (record { same = used.same; rises = used.rises; cause = used.cause })

pub returns-clause-safe : goal.returns-clause-safe
returns-clause-safe g c =
    let nodes = g.N.Nodes in
    let has = nodes.IsPage (nodes.contents c.args.state.now) in
    let page = c.in_ok-page.ensures in
    subst (IsSafeFound (λ s k t. IsSafeSpot nodes.is_observable (λ o. has) s (record { start = t; height = k })) (λ s. s.count) points_of_page slots_of_inner spots_of_inner c.args.at.count c.args.span) (sym c.found.ensures) (found-safe nodes.is_observable has c.args.at c.args.span c.in_ok-page.page page.keeps page.fits.0 page.fits.1 page.page)

pub returns-clause-found : goal.returns-clause-found
returns-clause-found g c above h is =
    let nodes = g.N.Nodes in
    let contents = nodes.contents c.args.state.now in
    let page = c.in_ok-page.ensures in
    let zero = c.if-at-eq0.false in
    let fits = page.fits.1 in
    let its = may-page (nodes.IsPage contents) c.args.at.stream c.args.at.block c.in_ok-page.page c.args.span.height c.args.span.start above h (page.page is.0) fits.its_stream fits.its_span (fits.its_version ∙ is.1.dated (omega arith)) in
    subst (IsFoundAt (IsFetchedAt nodes.is_observable (λ o. MayStandIn (nodes.IsPage contents))) points_of_page slots_of_inner spots_of_inner c.args.span above h) (sym c.found.ensures) (found-at nodes.is_observable (λ o. MayStandIn (nodes.IsPage contents)) is.0 c.args.at c.args.span above h c.in_ok-page.page its page.keeps page.fits.0 (omega arith) is.1)

pub returns-clause-there : goal.returns-clause-there
returns-clause-there g c above h is =
    let nodes = g.N.Nodes in
    let contents = nodes.contents c.args.state.now in
    let page = c.in_ok-page.ensures in
    let zero = c.if-at-eq0.false in
    let its = stands-page (nodes.IsPage contents) c.args.at.stream c.args.at.block c.in_ok-page.page c.args.span.height c.args.span.start above h (g.met.N.Nodes.one_page contents) (page.page is.0) in
    subst (IsFoundAt (IsFetchedAt nodes.is_observable (λ o. StandsIn (nodes.IsPage contents))) points_of_page slots_of_inner spots_of_inner c.args.span above h) (sym c.found.ensures) (found-at nodes.is_observable (λ o. StandsIn (nodes.IsPage contents)) is.0 c.args.at c.args.span above h c.in_ok-page.page its page.keeps page.fits.0 (omega arith) is.1)
