-- Plans of a history, and what the model says of their landing.
use Rattle.std.specs.Prelude.{◌≡◌, ◌≤◌, true, List, Some}
use Rattle.btr_hist.specs.declared.entry.Entry.{Entry}
use Rattle.btr_hist.specs.declared.kernel.Spec.{Spec}
use Rattle.btr_hist.specs.declared.rejection.Rejection.{Rejection}
use Rattle.btr_hist.specs.declared.rejection.Rejection.TheVariants.{VersionLimit, Crowded, TooManyPoints}
use Rattle.btr_hist.specs.Distil.{distillate}
use Rattle.btr_hist.specs.History.{spec_of, latest, reads, inputs_at}
use Rattle.btr_hist.specs.Legal.{may_read}
use Rattle.btr_hist.specs.Machine.{Landing, Reply, landing_reply, landed}
use Rattle.btr_distil.specs.Plan.{PlanValue, change}

-- The plan is one of this history: its output has the version that the plan follows, a distillate may go on from what that version
-- has read to what the plan reads, and the plan is the distillate of the definition between the two.
pub record IsPlanOf (h : List Entry) (p : PlanValue) : Type 0 where
  pub spec : Spec
  pub output : spec_of h p.stream ≡ Some spec
  pub made : p.base ≤ latest h p.stream
  pub may : may_read h spec (reads h p.stream spec p.base) p.reads ≡ true
  pub change : change p ≡ distillate spec (inputs_at h spec (reads h p.stream spec p.base)) (inputs_at h spec p.reads)

-- No other version has followed the one that the plan follows.
abbrev pub IsCurrent : List Entry → PlanValue → Type 0
IsCurrent h p = latest h p.stream ≡ p.base

-- The entry of a plan that is current may be rejected for this reason.
abbrev pub MayReject : Rejection → Type 0
MayReject VersionLimit = Unit {0}
MayReject (Crowded start) = Unit {0}
MayReject (TooManyPoints count) = Unit {0}
MayReject why = ⊥

-- The plan, as the model has it.
abbrev pub landing_of : PlanValue → Landing
landing_of p = record { stream = p.stream; base = p.base; reads = p.reads }

-- The reply of the model to the landing of the plan after this history.
abbrev pub reply_to : List Entry → PlanValue → Reply
reply_to h p = landing_reply h (landing_of p) (spec_of h p.stream)

-- The history of the model after it.
abbrev pub landed_after : List Entry → PlanValue → List Entry
landed_after h p = landed h (landing_of p) (spec_of h p.stream)
