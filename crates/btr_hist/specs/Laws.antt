-- The laws of all histories.
use Rattle.std.specs.Prelude.{◌≡◌, ◌↔◌, ℕ, ◌+◌, ◌<◌, ◌≤◌, ℤ, ◌⊎◌, true, List, [], ◌∷◌, ◌++◌, take, if◌then◌else◌, Option, Some, None}
use Rattle.std.specs.List.{AllByRecursion}
use Rattle.btr_base.specs.declared.limits.TheConstants.{MAX_VERSIONS}
use Rattle.btr_base.specs.declared.point.Point.{Point}
use Rattle.btr_base.specs.Point.{InDomain}
use Rattle.btr_base.specs.Range.{RangeValue, IsRange, contains, covered}
use Rattle.btr_base.specs.Bag.{copies}
use Rattle.btr_base.specs.Commit.{Change, after}
use Rattle.btr_hist.specs.declared.entry.Entry.{Entry}
use Rattle.btr_hist.specs.declared.entry.Entry.TheVariants.{Distillate}
use Rattle.btr_hist.specs.declared.kernel.Spec.{Spec}
use Rattle.btr_hist.specs.declared.kernel.Reads.{Reads}
use Rattle.btr_hist.specs.declared.query.Query.{Query}
use Rattle.btr_hist.specs.Kernel.{WindowKernel, window_kernel, is_good}
use Rattle.btr_hist.specs.Distil.{Inputs, AreBags, IsLocal, value_of, window_start, whole, output_points, looks_at, widened}
use Rattle.btr_hist.specs.Distil.{DependsOn, IsWidened, distillate}
use Rattle.btr_hist.specs.History.{spec_of, commits, latest, bag, reads, inputs_at, earliest}
use Rattle.btr_hist.specs.Legal.{Legal, Allowed, IsDistillate, takes_reads}
use Rattle.btr_hist.specs.Query.{IsSettled}
use Rattle.btr_hist.specs.Answer.{answer}
use Rattle.btr_hist.specs.Machine.{Event, start, run}

-- The answer about versions that exist stays what it is for as long as they are not retired.
abbrev pub OldVersionsStay : Type 0
OldVersionsStay =
    (h more : List Entry) (q : Query) → IsSettled h q → IsSettled (h ++ more) q → answer (h ++ more) q ≡ answer h q

-- How often a point occurs after some commits, if it occurred n times before. A commit that cuts its time removes all of them,
-- and adds it as often as it is among the added points.
abbrev pub copies_after : Point → ℕ → List Change → ℕ
copies_after p n [] = n
copies_after p n (c ∷ cs) = copies_after p ((if covered c.cut p.time then 0 else n) + copies p c.added) cs

-- A version holds exactly what was added and not cut since.
abbrev pub HoldsWhatWasPutIn : Type 0
HoldsWhatWasPutIn =
    (h : List Entry) (stream version : ℕ) (p : Point)
    → copies p (bag h stream version) ≡ copies_after p 0 (take version (commits h stream))

-- The value of an output at a time depends on the points of its inputs in the window of its lead alone.
abbrev pub KernelsAreLocal : Type 0
KernelsAreLocal = (spec : Spec) → IsLocal spec.lead (value_of spec)

-- The points of an output at a time depend on the points of its inputs at the times that it looks at alone.
abbrev pub OutputsAreLocal : Type 0
OutputsAreLocal = (spec : Spec) → DependsOn (looks_at spec) (output_points spec)

-- A change is widened to each time that looks at it.
abbrev pub ChangesAreWidened : Type 0
ChangesAreWidened = (spec : Spec) → is_good spec ≡ true → IsWidened (looks_at spec) (widened spec)

-- A time of the range in the same aligned window, `2^p` ns wide, as another time.
pub record SharesWindow (p : ℕ) (r : RangeValue) (t : ℤ) : Type 0 where
  pub time : ℤ
  pub inside : contains r time ≡ true
  pub same : window_start p time ≡ window_start p t

-- The aligned windows that a range meets contain a time exactly if the range has a time of the same window.
abbrev pub WindowsAreWhole : Type 0
WindowsAreWhole =
    (p : ℕ) (r : RangeValue) (t : ℤ) → p ≤ 62 → IsRange r → InDomain t → contains (whole p r) t ≡ true ↔ SharesWindow p r t

-- The aligned windows of a kernel, if it has some, are at most 2^62 ns wide.
abbrev pub HasSmallWindows : Option WindowKernel → Type 0
HasSmallWindows None = Unit {0}
HasSmallWindows (Some c) = c.p ≤ 62

-- The distillate brings the output from the old inputs to the new ones, whatever changed in them.
abbrev pub DistillatesAreRight : Type 0
DistillatesAreRight =
    (spec : Spec) (old new : Inputs) → spec.grain ≤ 62 → HasSmallWindows (window_kernel spec.kernel) → AreBags old → AreBags new
    → after (output_points spec old) (distillate spec old new) ≡ output_points spec new

-- Each version of each output has the points of the output over all time, at the versions of its inputs that it has read. Version 0
-- of each is empty.
abbrev pub Right : List Entry → Type 0
Right h =
    (stream : ℕ) (spec : Spec) → spec_of h stream ≡ Some spec → (version : ℕ) → version ≤ latest h stream
    → bag h stream version ≡ output_points spec (inputs_at h spec (reads h stream spec version))

-- Every legal history is right.
abbrev pub LegalIsRight : Type 0
LegalIsRight = (h : List Entry) → Legal h → Right h

-- The distillate of the definition, with reads that may follow, is allowed after a legal history, unless its stream has as many
-- versions as a stream can have.
abbrev pub DistillatesAreAllowed : Type 0
DistillatesAreAllowed =
    (h : List Entry) (stream : ℕ) (c : Change) (new : Reads) → Legal h → IsDistillate h stream c new
    → takes_reads h stream (spec_of h stream) new ≡ true → latest h stream < MAX_VERSIONS
    → Allowed h (Distillate stream c.cut c.added new)

-- A prefix of a legal history is legal.
abbrev pub PrefixesAreLegal : Type 0
PrefixesAreLegal = (h more : List Entry) → Legal (h ++ more) → Legal h

-- Each point of each version of a legal history lies in the domain.
abbrev pub PointsLieInTheDomain : Type 0
PointsLieInTheDomain =
    (h : List Entry) (stream version : ℕ) → Legal h → AllByRecursion (λ p. InDomain p.time) (bag h stream version)

-- The history is legal, and so each version of each output is right, whatever users do and in whatever order.
abbrev pub MachineStaysLegal : Type 0
MachineStaysLegal = (events : List (ℕ × Event)) → Legal (run start events).history

-- The latest version of a stream of a legal history is not retired.
abbrev pub LatestIsNotRetired : Type 0
LatestIsNotRetired = (h : List Entry) (stream : ℕ) → Legal h → earliest h stream ≤ latest h stream

-- The version is version 0, which holds nothing, or is not retired.
abbrev pub IsPresent : List Entry → ℕ → ℕ → Type 0
IsPresent h stream version = (version ≡ 0) ⊎ (earliest h stream ≤ version)

-- The version of a second input, if there are both, is as above.
abbrev pub IsSecondPresent : List Entry → Option ℕ → Option ℕ → Type 0
IsSecondPresent h (Some stream) (Some version) = IsPresent h stream version
IsSecondPresent h stream version = Unit {0}

-- The versions of the inputs are as above.
pub record ArePresent (h : List Entry) (spec : Spec) (r : Reads) : Type 0 where
  pub first : IsPresent h spec.first r.first
  pub second : IsSecondPresent h spec.second r.second

-- What the latest version of each output was computed from is not retired.
abbrev pub ReadsArePresent : List Entry → Type 0
ReadsArePresent h =
    (stream : ℕ) (spec : Spec) → spec_of h stream ≡ Some spec → ArePresent h spec (reads h stream spec (latest h stream))

-- What the latest version of each output was computed from is not retired, whatever users do and in whatever order.
abbrev pub MachineReadsPresent : Type 0
MachineReadsPresent = (events : List (ℕ × Event)) → ReadsArePresent (run start events).history
