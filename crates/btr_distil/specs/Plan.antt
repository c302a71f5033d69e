-- Plans: the next commits of outputs, before they are in the history.
use Rattle.std.specs.Prelude.{◌≡◌, ℕ, List, [], None}
use Rattle.std.specs.List.{filter}
use Rattle.btr_base.specs.declared.point.Point.{Point}
use Rattle.btr_base.specs.Range.{RangeValue, covered}
use Rattle.btr_base.specs.Commit.{Change}
use Rattle.btr_hist.specs.declared.entry.Entry.{Entry}
use Rattle.btr_hist.specs.declared.entry.Entry.TheVariants.{Create, Commit, Define, Distillate, Retire}
use Rattle.btr_hist.specs.declared.kernel.Reads.{Reads}
use Rattle.btr_hist.specs.Kernel.{anchors, window_kernel}
use Rattle.btr_hist.specs.Distil.{Inputs, value_of, points_from, distillate}
use Rattle.btr_distil.specs.Sight.{SightValue, IsSightOf}

-- A commit of an output, which follows this version of it, and the versions of the inputs that it reads.
pub record PlanValue : Type 0 where
  pub stream : ℕ
  pub base : ℕ
  pub reads : Reads
  pub cut : List RangeValue
  pub added : List Point

-- The commit as an entry of a history.
abbrev pub entry_of : PlanValue → Entry
entry_of p = Distillate p.stream p.cut p.added p.reads

-- The entry is a distillate.
abbrev pub IsDistillateEntry : Entry → Type 0
IsDistillateEntry (Create id) = ⊥
IsDistillateEntry (Commit stream cut added) = ⊥
IsDistillateEntry (Define id spec) = ⊥
IsDistillateEntry (Distillate stream cut added reads) = Unit {0}
IsDistillateEntry (Retire stream first) = ⊥

-- A commit of nothing.
abbrev no_commit : ℕ → PlanValue
no_commit base =
    record { stream = 0; base = base; reads = record { first = 0; second = None }; cut = []; added = [] }

-- The plan that follows this version, if the entry is its distillate. No plan has another entry.
abbrev pub plan_with : ℕ → Entry → PlanValue
plan_with base (Create id) = no_commit base
plan_with base (Commit stream cut added) = no_commit base
plan_with base (Define id spec) = no_commit base
plan_with base (Distillate stream cut added reads) =
    record { stream = stream; base = base; reads = reads; cut = cut; added = added }
plan_with base (Retire stream first) = no_commit base

-- What the commit does to the points of the output.
abbrev pub change : PlanValue → Change
change p = record { cut = p.cut; added = p.added }

-- The plan is one for the output: it follows the output's version, and reads the versions that are to be read.
pub record IsPlanFor (s : SightValue) (p : PlanValue) : Type 0 where
  pub stream : p.stream ≡ s.stream
  pub base : p.base ≡ s.base
  pub reads : p.reads ≡ s.new_reads

-- The plan is the distillate that brings the output from the old inputs to the new, whatever inputs have these trees.
abbrev pub IsDistillateOf : SightValue → PlanValue → Type 0
IsDistillateOf s p = (old new : Inputs) → IsSightOf s old new → change p ≡ distillate s.spec old new

-- If the kernel gives values at anchors, the plan adds, in order, the points that it has over the new inputs at those of its anchors
-- that the cut covers.
abbrev pub IsMapped : SightValue → PlanValue → Type 0
IsMapped s p =
    window_kernel s.spec.kernel ≡ None → (old new : Inputs) → IsSightOf s old new
    → p.added ≡ points_from (value_of s.spec new) (filter (covered p.cut) (anchors new.first))
