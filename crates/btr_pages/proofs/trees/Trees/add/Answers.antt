use Rattle.std.proofs.Common.{subst}
use Rattle.std.specs.Option.{MatchOption}
use Rattle.btr_pages.specs.Made.{IsBuildable, IsMadeAt}
use Rattle.btr_pages.proofs.KnownLemmas.{addition, page-known}
use Rattle.btr_pages.proofs.trees.Trees.add.Goals as goal

pub returns-in_default-clause-refused : goal.returns-in_default-clause-refused
returns-in_default-clause-refused g c e pages are knows right =
    let none = subst (λ o. MatchOption o (IsBuildable c.args.self.now c.args.block c.args.page.now → ⊥) (IsMadeAt c.args.self.now c.args.block c.args.page.now)) c.in_default.is c.in_ok-known.ensures in
    none (page-known pages c.args.self.now c.args.block c.args.page.now are knows right)

pub returns-clause-added : goal.returns-clause-added
returns-clause-added g c e =
    let made = subst (λ o. MatchOption o (IsBuildable c.args.self.now c.args.block c.args.page.now → ⊥) (IsMadeAt c.args.self.now c.args.block c.args.page.now)) c.in-Some.is c.in_ok-known.ensures in
    (addition c.args.self.now c.push.new.self c.args.block c.args.page.now c.in-Some.known c.requires.some c.requires.fresh c.requires.keeps c.requires.fits made c.in_ok-push.ensures.pushed).0

pub returns-clause-only : goal.returns-clause-only
returns-clause-only g c =
    let made = subst (λ o. MatchOption o (IsBuildable c.args.self.now c.args.block c.args.page.now → ⊥) (IsMadeAt c.args.self.now c.args.block c.args.page.now)) c.in-Some.is c.in_ok-known.ensures in
    (addition c.args.self.now c.push.new.self c.args.block c.args.page.now c.in-Some.known c.requires.some c.requires.fresh c.requires.keeps c.requires.fits made c.in_ok-push.ensures.pushed).1
