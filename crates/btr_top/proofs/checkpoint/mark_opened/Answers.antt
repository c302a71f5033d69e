-- Why the command ends so, in each arm.
use Rattle.std.specs.Prelude.{◌≡◌, ℕ, Result, Ok, Err}
use Rattle.std.proofs.Common.{sym, ◌∙◌, ap, subst}
use Rattle.btr_disk.specs.declared.disk.Disk.{Ghosts}
use Rattle.btr_engine.specs.declared.engine.Engine.{Engine}
use Rattle.btr_engine.specs.declared.step.StepFault.{StepFault}
use Rattle.btr_engine.specs.declared.step.StepFault.TheVariants as faults
use Rattle.btr_engine.specs.Engine.{super_of}
use Rattle.btr_engine.specs.Mark as mark
use Rattle.btr_top.specs.declared.ending.Ending.{Ending}
use Rattle.btr_top.specs.declared.ending.Ending.TheVariants.{Full}
use Rattle.btr_top.specs.Checkpoint.{checkpoint_format, CheckpointEnds}
use Rattle.btr_top.proofs.CheckpointCauses.{added_cause, sealed_cause, want_cause, full_cause, fault_cause}
use Rattle.btr_top.proofs.checkpoint.mark_opened.Goals.{in-Ok, in-Err-Sealed, in-Err-Want, in-Err-DeviceFull, in-Err-DeviceFault}
use Rattle.btr_top.proofs.checkpoint.mark_opened.Goals as goal

-- What is said of a result that is a fault is said of this fault.
of_fault : {D : Type 0} {disk : Ghosts D} (format : ℕ) (old new : Engine D disk) (result : Result ℕ StepFault) (fault this : StepFault) → result ≡ Err fault → fault ≡ this → mark.Marks format old new result → mark.Marks format old new (Err this)
of_fault format old new result fault this is same did = subst (mark.Marks format old new) (is ∙ ap Err same) did

-- Equal numbers say the same of a device without room.
same_full : (a b need left : ℕ) → a ≡ need → b ≡ left → Full a b ≡ Full need left
same_full a b need left needs leaves = ap (λ (n : ℕ). Full n b) needs ∙ ap (λ (n : ℕ). Full need n) leaves

pub returns-clause-cause : goal.returns-clause-cause
returns-clause-cause g c = λ old opened.
    let disk = g.D.Disk in
    let counts_now = g.met.D.Disk.counts_now in
    let kind = c.args.kind in
    let engine = c.args.engine in
    let new = c.mark.new.engine in
    let end = c.into_parts-disk.result.0 in
    let device = c.into_parts-disk.ensures.disk in
    let format = checkpoint_format kind (super_of engine) in
    let did = c.mark.ensures in
    let result = c.mark.result in
    let Ends : Ending → Type 0 = λ e. CheckpointEnds disk kind old end e in
    elim c.match-mark.branch [
      | in-Ok w ↦
          let made : mark.Marks format engine new (Ok w.in-Ok.entries) = subst (mark.Marks format engine new) w.in-Ok.is did in
          subst Ends (sym w.ending-is)
          (added_cause disk kind counts_now old engine opened new end w.in-Ok.entries device made.marked did.kept made.at_rest made.named did.moments)
      | in-Err-Sealed w ↦
          let arm = w.in-Err-Sealed in
          subst Ends (sym w.ending-is)
          (sealed_cause disk kind counts_now old engine opened new end device (of_fault format engine new result arm.field-0 faults.Sealed arm.is arm.field-0-is did).cause)
      | in-Err-Want w ↦
          let arm = w.in-Err-Want in
          subst Ends (sym w.ending-is)
          (want_cause disk kind counts_now old engine opened new end device (of_fault format engine new result arm.field-0 faults.Want arm.is arm.field-0-is did).cause)
      | in-Err-DeviceFull w ↦
          let arm = w.in-Err-DeviceFull in
          subst Ends (sym (w.ending-is ∙ same_full _ _ arm.need arm.left arm.need-is arm.left-is))
          (full_cause disk kind counts_now old engine opened new end arm.need arm.left device
          (of_fault format engine new result arm.field-0 (faults.DeviceFull arm.need arm.left) arm.is arm.field-0-is did))
      | in-Err-DeviceFault w ↦
          let arm = w.in-Err-DeviceFault in
          subst Ends (sym w.ending-is)
          (fault_cause disk kind counts_now old engine opened new end device (of_fault format engine new result arm.field-0 faults.DeviceFault arm.is arm.field-0-is did))
    ]
