-- The rule of a check: which entry, with which root, may stand after others.
use Rattle.std.specs.Prelude.{◌≡◌, ◌↔◌, ℕ, List, [], ◌∷◌, ◌++◌}
use Rattle.btr_hist.specs.declared.entry.Entry.{Entry}
use Rattle.btr_hist.specs.declared.entry.Entry.TheVariants.{Create, Define, Commit, Distillate, Retire}
use Rattle.btr_hist.specs.History.{latest, bag}
use Rattle.btr_hist.specs.Legal.{Allowed}
use Rattle.btr_open.specs.Seen.{EntryRule}

-- The root is 0 exactly if the latest version of the stream has no point.
abbrev pub IsZeroIfEmpty : List Entry → ℕ → ℕ → Type 0
IsZeroIfEmpty h stream root = (root ≡ 0) ↔ (bag h stream (latest h stream) ≡ [])

-- The root of a commit is 0 exactly if the version that the commit makes has no point. Nothing is said of an entry that makes no version.
abbrev pub FitsPoints : EntryRule
FitsPoints h (Create id) root = Unit {0}
FitsPoints h (Define id spec) root = Unit {0}
FitsPoints h (Retire stream least) root = Unit {0}
FitsPoints h (Commit stream cut added) root = IsZeroIfEmpty (h ++ Commit stream cut added ∷ []) stream root
FitsPoints h (Distillate stream cut added reads) root = IsZeroIfEmpty (h ++ Distillate stream cut added reads ∷ []) stream root

-- The entry is allowed after these entries, and its root fits the points of the version that it makes.
pub record MayStand (h : List Entry) (e : Entry) (root : ℕ) : Type 0 where
  pub allowed : Allowed h e
  pub fits_points : FitsPoints h e root
