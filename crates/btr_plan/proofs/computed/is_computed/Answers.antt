-- The rejection has tested the versions that a distillate reads.
use Rattle.std.proofs.Common.{◌≡◌, ◌↔◌, sym, subst, None, IsTrue, IfOk}
use Rattle.btr_hist.specs.declared.entry.Entry.{Entry}
use Rattle.btr_hist.specs.Legal.{rejection, IsComputed}
use Rattle.btr_plan.proofs.ComputedLemmas.{takes-accepted}
use Rattle.btr_plan.proofs.computed.is_computed.Goals as goal

pub returns-in-Distillate : goal.returns-in-Distillate
returns-in-Distillate c = λ h of accepted.
    let arm = c.in-Distillate in
    let takes = takes-accepted h arm.stream (record { cut = arm.cut; added = arm.added }) arm.reads (subst (λ (e : Entry). rejection h e ≡ None) arm.is accepted) in
    subst (λ (e : Entry). IfOk c.is_distillate.result (λ is. IsTrue is ↔ IsComputed h e)) (sym arm.is) (c.is_distillate.ensures h of takes)
