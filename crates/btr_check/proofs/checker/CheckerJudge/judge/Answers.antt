use Rattle.std.specs.Prelude.{[], ◌∷◌, ◌++◌}
use Rattle.std.proofs.Common.{refl, sym, subst}
use Rattle.btr_streams.specs.Board.{IsBoardOf}
use Rattle.btr_streams.specs.Stage.{IsReceipt}
use Rattle.btr_check.specs.Staging.{IsStagedIfAllowed}
use Rattle.btr_check.proofs.CheckerLemmas.{seen-more}
use Rattle.btr_check.proofs.checker.CheckerJudge.judge.Goals as goal

pub returns : goal.returns
returns c seen was =
    let h = seen.entries in
    let e = c.args.entry.now in
    let staged = subst (IsStagedIfAllowed h e) c.in-Some.is (c.in_ok-staged.ensures.allowed h was.of) in
    let next = subst (IsBoardOf (h ++ e ∷ [])) (sym c.accept-receipt.ensures.next) staged.1.next in
    let receipt = subst (IsReceipt h e) (sym c.accept-receipt.ensures.receipt) staged.1.receipt in
    let fits = (c.fits_points.ensures h next receipt).0 c.if-not-fits_points.false in (
      record { allowed = staged.0; fits_points = fits },
      seen-more seen e c.args.root c.args.self.now _ c.accept-receipt.result was next receipt c.in_ok-push.ensures.items refl,
    )
