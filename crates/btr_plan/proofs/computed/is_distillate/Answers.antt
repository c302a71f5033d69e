-- The plan is a distillate, and there is one.
use Rattle.std.proofs.Common.{subst}
use Rattle.btr_base.specs.Commit.{Change}
use Rattle.btr_hist.specs.Legal.{IsDistillate}
use Rattle.btr_plan.proofs.ComputedLemmas.{sight-distils, one-distillate}
use Rattle.btr_distil.specs.Plan.{change}
use Rattle.btr_plan.proofs.computed.is_distillate.Goals as goal

pub returns : goal.returns
returns c = λ h of takes.
    let stream = c.args.stream in
    let reads = c.args.reads in
    let plan = c.in_ok-plan.plan in
    let given : Change = record { cut = c.args.cut.now; added = c.args.added.now } in
    let made = sight-distils h stream reads c.in-Some.sight plan (c.in-Some.ensures h of takes) c.in_ok-plan.ensures.distillate in (
      λ same. subst (λ (d : Change). IsDistillate h stream d reads) (c.has_change.ensures.0 same) made,
      λ is. c.has_change.ensures.1 (one-distillate h stream (change plan) given reads made is),
    )
