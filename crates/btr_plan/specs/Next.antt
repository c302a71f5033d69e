-- What is planned for a stream, as the model has it.
use Rattle.std.specs.Prelude.{◌≡◌, ℕ, List, Some, None}
use Rattle.btr_hist.specs.declared.entry.Entry.{Entry}
use Rattle.btr_hist.specs.declared.kernel.Spec.{Spec}
use Rattle.btr_hist.specs.History.{spec_of, latest}
use Rattle.btr_hist.specs.Machine.{planned, plan_of}
use Rattle.btr_distil.specs.Plan.{PlanValue}
use Rattle.btr_plan.specs.declared.planning.Next.{Next}
use Rattle.btr_plan.specs.declared.planning.Next.TheVariants as nexts
use Rattle.btr_plan.specs.Plan.{IsPlanOf, landing_of}

-- The stream is an output, and the model plans nothing for it. Its latest version is this one.
pub record IsUpToDate (h : List Entry) (stream version : ℕ) : Type 0 where
  pub spec : Spec
  pub output : spec_of h stream ≡ Some spec
  pub nothing : planned h stream spec ≡ None
  pub latest : version ≡ latest h stream

-- The model plans this for the stream, and it is a plan of the history.
pub record IsNextPlan (h : List Entry) (stream : ℕ) (p : PlanValue) : Type 0 where
  pub of : IsPlanOf h p
  pub same_stream : p.stream ≡ stream
  pub planned : plan_of h stream (spec_of h stream) ≡ Some (landing_of p)

-- This is planned for the stream after this history.
abbrev pub IsNext : List Entry → ℕ → Next → Type 0
IsNext h stream nexts.NotOutput = spec_of h stream ≡ None
IsNext h stream (nexts.UpToDate version) = IsUpToDate h stream version
IsNext h stream (nexts.Plan p) = IsNextPlan h stream p
