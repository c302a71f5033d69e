-- To which nodes the root of an entry leads: those of the tree of its stream's latest version.
use Rattle.std.specs.Prelude.{◌≡◌, ℕ, List, [], ◌∷◌, ◌++◌}
use Rattle.btr_base.specs.declared.limits.TheConstants.{FIRST}
use Rattle.btr_tree.specs.Leads.{Leads}
use Rattle.btr_tree.specs.Nodes.{above_root}
use Rattle.btr_tree.specs.PageNodes.{Pages, Stand}
use Rattle.btr_hist.specs.declared.entry.Entry.{Entry}
use Rattle.btr_hist.specs.declared.entry.Entry.TheVariants.{Create, Define, Commit, Distillate, Retire}
use Rattle.btr_hist.specs.History.{latest}
use Rattle.btr_streams.specs.Past.{commits_to}
use Rattle.btr_engine.specs.Body.{RootRule}

-- The block leads to the nodes of the tree of a stream's latest version, or it is 0 and that version has no point.
abbrev pub LeadsToLatest : Pages → List Entry → ℕ → ℕ → Type 0
LeadsToLatest pages h stream root = Leads (Stand pages stream) 10 FIRST above_root (commits_to h stream (latest h stream)) root

-- The root of a commit leads to the tree of the version that the commit makes, in the pages that stand then. An entry that makes no
-- version has no root.
abbrev pub IsRootOf : RootRule
IsRootOf known before (Create id) root pages = root ≡ 0
IsRootOf known before (Define id spec) root pages = root ≡ 0
IsRootOf known before (Retire stream first) root pages = root ≡ 0
IsRootOf known before (Commit stream cut added) root pages =
    LeadsToLatest known (before ++ Commit stream cut added ∷ []) stream root
IsRootOf known before (Distillate stream cut added reads) root pages =
    LeadsToLatest known (before ++ Distillate stream cut added reads ∷ []) stream root
