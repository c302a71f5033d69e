use Rattle.std.proofs.Common.{inl, inr}
use Rattle.btr_open.specs.Start.{IsWrongStart}
use Rattle.btr_open.specs.Sealed.{IsDamagedSealed}
use Rattle.btr_open.proofs.SealedLemmas.{part-along}
use Rattle.btr_open.proofs.sealed.read_sealed.Goals as goal

pub returns-in-Err-clause-cause : goal.returns-in-Err-clause-cause
returns-in-Err-clause-cause g c =
    let image = g.D.Disk.contents c.args.disk.now in
    part-along g.D.Disk (IsWrongStart image c.args.found) (IsDamagedSealed image c.args.found) (λ block wrong. inr (inl wrong)) c.args.disk.now c.read_shelf.new.disk c.in-Err.cause c.in-Err.ensures.cause
