-- Which block may be the root of an entry, as an opening tests it: before the pages of the entry's own extent are read.
use Rattle.std.specs.Prelude.{◌≡◌, ◌⊎◌, ℕ, ◌+◌, ◌-◌, ◌*◌, ◌<◌, ◌≤◌, nat_lt, List, length, Bool, false, Some}
use Rattle.btr_base.specs.declared.point.Point.{Point}
use Rattle.btr_node.specs.Page.{Spells, Fits}
use Rattle.btr_node.specs.declared.page.NodePage.{NodePage}
use Rattle.btr_tree.specs.PageNodes.{Pages, IsRootPage}
use Rattle.btr_pages.specs.Pages.{MayBeRoot}
use Rattle.btr_pages.specs.Blocks.{block_of_bytes, IsNoPage}
use Rattle.btr_hist.specs.declared.entry.Entry.{Entry}
use Rattle.btr_hist.specs.declared.entry.Entry.TheVariants.{Create, Define, Commit, Distillate, Retire}
use Rattle.btr_roll.specs.Roll.{RollStreamValue}
use Rattle.btr_open.specs.Reached.{next_version}

-- A commit adds a point.
abbrev pub adds : List Point → Bool
adds added = nat_lt 0 (length added)

-- The root of an entry after these streams may be this block, as an opening tests it. An entry that makes no version has no root. The root
-- of a commit is 0, if the commit adds no point, or it is the block of the page of a root of its stream that is not newer than the version.
abbrev pub MayLead : Pages → List RollStreamValue → Entry → ℕ → Type 0
MayLead known roll (Create id) root = root ≡ 0
MayLead known roll (Define id spec) root = root ≡ 0
MayLead known roll (Retire stream first) root = root ≡ 0
MayLead known roll (Commit stream cut added) root = MayBeRoot known stream (next_version roll stream) (adds added) root
MayLead known roll (Distillate stream cut added reads) root = MayBeRoot known stream (next_version roll stream) (adds added) root

-- The page that a block has: one below the node blocks of an extent, or the one that a node block of the extent is. The node blocks
-- begin at the block `first`.
abbrev pub IsPageIn : Pages → ℕ → List ℕ → ℕ → NodePage → Type 0
IsPageIn known first blocks block page =
    ((block < first) × (known block ≡ Some page))
    ⊎ ((first ≤ block) × Fits page × Spells (block_of_bytes blocks (block - first)) page)

-- The block has the page of the root of a version, below the node blocks of an extent or among them.
pub record HasRootIn (known : Pages) (first : ℕ) (blocks : List ℕ) (stream version block : ℕ) : Type 0 where
  pub page : NodePage
  pub is : IsPageIn known first blocks block page
  pub fits : IsRootPage stream version page

-- The block may be the root of a commit of a stream that makes this version.
abbrev pub MayBeRootIn : Pages → ℕ → List ℕ → ℕ → ℕ → Bool → ℕ → Type 0
MayBeRootIn known first blocks stream version some root =
    ((root ≡ 0) × (some ≡ false)) ⊎ HasRootIn known first blocks stream version root

-- The block may be the root of an entry, after these streams.
abbrev pub MayLeadIn : Pages → List RollStreamValue → Entry → ℕ → List ℕ → ℕ → Type 0
MayLeadIn known roll (Create id) first blocks root = root ≡ 0
MayLeadIn known roll (Define id spec) first blocks root = root ≡ 0
MayLeadIn known roll (Retire stream least) first blocks root = root ≡ 0
MayLeadIn known roll (Commit stream cut added) first blocks root =
    MayBeRootIn known first blocks stream (next_version roll stream) (adds added) root
MayLeadIn known roll (Distillate stream cut added reads) first blocks root =
    MayBeRootIn known first blocks stream (next_version roll stream) (adds added) root

-- The block is one of the node blocks of an extent, but it is no page.
pub record IsNoPageIn (first : ℕ) (blocks : List ℕ) (block : ℕ) : Type 0 where
  pub from : first ≤ block
  pub to : 4096 * (block - first) < length blocks
  pub none : IsNoPage (block_of_bytes blocks (block - first))

-- A wrong root of a commit is named by itself, if it is a node block of the commit's extent and no page, and else by the first block of
-- the body, where it is written.
abbrev pub IsNamedBlock : ℕ → ℕ → List ℕ → ℕ → ℕ → Type 0
IsNamedBlock gate first blocks root block =
    (IsNoPageIn first blocks root × (block ≡ root)) ⊎ ((IsNoPageIn first blocks root → ⊥) × (block ≡ gate + 1))

-- The block that is named if the root of an entry is wrong. That of an entry that makes no version is named by the first block of the body.
abbrev pub IsNamedRoot : ℕ → Entry → ℕ → List ℕ → ℕ → ℕ → Type 0
IsNamedRoot gate (Create id) first blocks root block = block ≡ gate + 1
IsNamedRoot gate (Define id spec) first blocks root block = block ≡ gate + 1
IsNamedRoot gate (Retire stream least) first blocks root block = block ≡ gate + 1
IsNamedRoot gate (Commit stream cut added) first blocks root block = IsNamedBlock gate first blocks root block
IsNamedRoot gate (Distillate stream cut added reads) first blocks root block = IsNamedBlock gate first blocks root block
