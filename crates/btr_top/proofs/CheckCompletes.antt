-- If the device holds a legal history, and nothing fails, `check` says so, or memory runs out.
use Rattle.std.specs.Prelude.{length}
use Rattle.std.proofs.Common.{refl, sym, subst, inl, inr, ⊎_elim}
use Rattle.btr_disk.specs.declared.disk.Disk.{Ghosts}
use Rattle.btr_disk.specs.Causes.{Rose}
use Rattle.btr_check.specs.declared.verdict.Verdict.TheVariants as verdicts
use Rattle.btr_top.specs.declared.ending.Ending.{Ending}
use Rattle.btr_top.specs.Ending.{status_of}
use Rattle.btr_top.specs.Check.{CheckCause, CheckEnds, HoldsLegalStore}
use Rattle.btr_top.specs.Run.{IsPlainStatus}

module _ {D : Type 0} (disk : Ghosts D) (old new : D) (can : HoldsLegalStore disk old) (reported : disk.is_observable) (device_works : Rose (disk.faults old) (disk.faults new) → ⊥) where
  pub benign_check : (e : Ending) → CheckEnds disk old new e → IsPlainStatus (status_of e)
  benign_check e ends =
      ⊎_elim
      (λ stands. subst (λ (x : Ending). IsPlainStatus (status_of x)) (sym stands) (inl refl))
      (λ ended.
      ⊎_elim
      (λ failed. absurd (device_works (subst (λ (x : Ending). CheckCause disk old new x) failed ends.cause)))
      (λ short. subst (λ (x : Ending). IsPlainStatus (status_of x)) (sym short) (inr (inr refl)))
      ended)
      (ends.by_verdict reported (verdicts.Stands (length can.0)) (can.0, can.1, refl))
