use Rattle.std.specs.Prelude.{[], ◌∷◌, ◌++◌}
use Rattle.btr_check.proofs.StagingLemmas.{fits-version, empty-version}
use Rattle.btr_check.proofs.staging.fits_points.Goals as goal

pub returns-in-Commit : goal.returns-in-Commit
returns-in-Commit c h board receipt =
    let e = c.args.entry.now in
    fits-version h e c.args.root c.is_empty.result board.follows
    (empty-version (h ++ e ∷ []) c.is_empty.result _ _ _ _ receipt.stream receipt.version (c.is_empty.ensures (h ++ e ∷ []) board)) c.in-Commit.is
