-- What a plan is made from, and the inputs that it sees: the trees of the versions that were read last and of those that are
-- read next, and their points.
use Rattle.std.specs.Prelude.{◌≡◌, ℕ, true, List, [], map, Option, Some, None}
use Rattle.std.specs.Option.{is_some, option_map}
use Rattle.btr_base.specs.declared.point.Point.{Point}
use Rattle.btr_base.specs.Range.{RangeValue}
use Rattle.btr_base.specs.Cut.{union}
use Rattle.btr_base.specs.Changes.{changes}
use Rattle.btr_tree.specs.History.{Past, bag}
use Rattle.btr_tree.specs.Nodes.{up_to}
use Rattle.btr_tree.specs.Root.{TreeValue, IsTree}
use Rattle.btr_hist.specs.declared.kernel.Spec.{Spec}
use Rattle.btr_hist.specs.declared.kernel.Reads.{Reads}
use Rattle.btr_hist.specs.Kernel.{is_good}
use Rattle.btr_hist.specs.Distil.{Inputs, widened}
use Rattle.btr_distil.specs.declared.sight.InputTrees.{InputTrees}

-- An output, its spec and its latest version, the versions of its inputs that this version has read and those that the next one
-- is to read, and the trees of all of these.
pub record SightValue : Type 0 where
  pub spec : Spec
  pub stream : ℕ
  pub base : ℕ
  pub old_reads : Reads
  pub new_reads : Reads
  pub old_first : TreeValue
  pub new_first : TreeValue
  pub old_second : Option TreeValue
  pub new_second : Option TreeValue

-- The tree of the second input, if there is one.
abbrev pub second_tree : InputTrees → Option TreeValue
second_tree inputs = option_map (λ t. t.now) inputs.second

-- The sight of an output with this spec at its version `base`, from the old inputs to the new ones.
abbrev pub sight_between : Spec → ℕ → ℕ → InputTrees → InputTrees → SightValue
sight_between spec stream base old new = record {
  spec = spec;
  stream = stream;
  base = base;
  old_reads = old.reads;
  new_reads = new.reads;
  old_first = old.first.now;
  new_first = new.first.now;
  old_second = second_tree old;
  new_second = second_tree new;
}

-- Versions and trees of a second input are there exactly if the spec has a second input.
pub record HasInputs (spec : Spec) (old_reads new_reads : Reads) (old_second new_second : Option TreeValue) : Type 0 where
  pub old_read : is_some old_reads.second ≡ is_some spec.second
  pub new_read : is_some new_reads.second ≡ is_some spec.second
  pub old_tree : is_some old_second ≡ is_some spec.second
  pub new_tree : is_some new_second ≡ is_some spec.second

-- The spec is good, and has these inputs.
pub record IsSight (spec : Spec) (old_reads new_reads : Reads) (old_second new_second : Option TreeValue) : Type 0 where
  pub good : is_good spec ≡ true
  pub shape : HasInputs spec old_reads new_reads old_second new_second

-- The trees of an input: the new one is of a stream with the points `after`, and the old one is that of the stream at this
-- version, with the points `before`.
pub record IsInput (version : ℕ) (old new : TreeValue) (before after : List Point) : Type 0 where
  pub past : Past
  pub newer : IsTree past new
  pub older : IsTree (up_to version past) old
  pub was : before ≡ bag (up_to version past)
  pub is : after ≡ bag past

-- The trees of a second input, if there is one. If there is none, it has no points.
abbrev pub IsSecondInput : Option ℕ → Option TreeValue → Option TreeValue → List Point → List Point → Type 0
IsSecondInput None None None before after = (before ≡ []) × (after ≡ [])
IsSecondInput (Some version) (Some old) (Some new) before after = IsInput version old new before after
IsSecondInput version old new before after = ⊥

-- The sight has trees of a second input with these points, if there is one.
abbrev pub SeesSecond : SightValue → List Point → List Point → Type 0
SeesSecond s before after = IsSecondInput s.old_reads.second s.old_second s.new_second before after

-- The trees are those of inputs with these points, at the versions that were read last and at those that are to be read.
pub record IsSightOf (s : SightValue) (old new : Inputs) : Type 0 where
  pub first : IsInput s.old_reads.first s.old_first s.new_first old.first new.first
  pub second : SeesSecond s old.second new.second

-- The ranges in which an input differs, widened to the times at which the output may differ.
abbrev pub widened_changes : Spec → List Point → List Point → List RangeValue
widened_changes spec before after = union (map (widened spec) (changes spec.grain before after))
