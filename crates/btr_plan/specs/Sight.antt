-- What the next commit of an output is planned from, after a history.
use Rattle.std.specs.Prelude.{◌≡◌, ℕ, true, List, Some}
use Rattle.btr_hist.specs.declared.entry.Entry.{Entry}
use Rattle.btr_hist.specs.declared.kernel.Reads.{Reads}
use Rattle.btr_hist.specs.declared.kernel.Spec.{Spec}
use Rattle.btr_hist.specs.History.{spec_of, latest, bag, reads, latest_reads, inputs_at}
use Rattle.btr_hist.specs.Legal.{may_read, takes_reads}
use Rattle.btr_distil.specs.Sight.{SightValue, IsInput, IsSightOf}
use Rattle.btr_plan.specs.declared.sighting.VersionTrees.{VersionTrees}

-- The stream is an output, and the sight is that of it after this history: from its latest version and the versions of its inputs
-- that this version has read, to the given versions of its inputs.
pub record IsSightTo (h : List Entry) (stream : ℕ) (new : Reads) (s : SightValue) : Type 0 where
  pub output : spec_of h stream ≡ Some s.spec
  pub same_stream : s.stream ≡ stream
  pub same_base : s.base ≡ latest h stream
  pub has_read : s.old_reads ≡ reads h stream s.spec (latest h stream)
  pub is_to_read : s.new_reads ≡ new
  pub inputs : IsSightOf s (inputs_at h s.spec (reads h stream s.spec (latest h stream))) (inputs_at h s.spec new)

-- The stream is an output, and the sight is that of it after this history, to the latest versions of its inputs.
abbrev pub IsSightAfter : List Entry → ℕ → SightValue → Type 0
IsSightAfter h stream s = IsSightTo h stream (latest_reads h s.spec) s

-- The stream is an output, and its next distillate may read these versions of its inputs.
abbrev pub TakesReads : List Entry → ℕ → Reads → Type 0
TakesReads h stream new = takes_reads h stream (spec_of h stream) new ≡ true

-- The next distillate of an output of this spec may read these versions of its inputs.
abbrev pub MayRead : List Entry → ℕ → Spec → Reads → Type 0
MayRead h stream spec new = may_read h spec (reads h stream spec (latest h stream)) new ≡ true

-- The trees are those of an input at these two versions.
abbrev pub AreVersionTrees : List Entry → ℕ → ℕ → ℕ → VersionTrees → Type 0
AreVersionTrees h stream old new trees = IsInput old trees.old.now trees.new.now (bag h stream old) (bag h stream new)
