-- A log that was read whole: its entries keep the rule of a check; whether a superblock names a start of it, and, if the store is sealed,
-- its end; and whether the roots of its entries lead to the trees of their versions.
use Rattle.std.specs.Prelude.{◌≡◌, ◌⊎◌, ℕ, ◌+◌, ◌<◌, true, List, take, get_or, slice_get, Some, IfSome, []}
use Rattle.btr_disk.specs.Bytes.{Image}
use Rattle.btr_disk.specs.Gate.{IsClosed}
use Rattle.btr_log.specs.Extents.{first_gate}
use Rattle.btr_super.specs.declared.superblock.Super.{Super}
use Rattle.btr_super.specs.Super.{has_seal}
use Rattle.btr_tree.specs.PageNodes.{Pages, nodes_in}
use Rattle.btr_hist.specs.declared.entry.Entry.{Entry}
use Rattle.btr_hist.specs.declared.entry.Entry.TheVariants.{Create, Define, Commit, Distillate, Retire}
use Rattle.btr_hist.specs.History.{latest}
use Rattle.btr_streams.specs.Past.{commits_to}
use Rattle.btr_engine.specs.Roots.{IsRootOf}
use Rattle.btr_verify.specs.FirstWrong.{IsFirstWrongIn}
use Rattle.btr_open.specs.Reached.{Reached}
use Rattle.btr_open.specs.Walk.{IsWalk}
use Rattle.btr_open.specs.Seen.{Mark, Seen, KeepsRule, first_reading}
use Rattle.btr_check.specs.Rule.{MayStand}

-- ---- a legal log

-- The log of a superblock's store was read whole: a walk leads from the first gate to a closed gate inside the store, its entries keep the
-- rule of a check, and this was seen of it.
pub record IsLegalLog (image : Image) (s : Super) : Type 0 where
  pub log : Reached
  pub walk : IsWalk image (first_reading s) log
  pub seen : Seen
  pub keeps : KeepsRule MayStand walk seen
  pub closed : IsClosed image log.gate
  pub inside : log.gate < s.blocks

-- ---- the start and the end that a superblock names

-- One of these checkpoints has this gate, and this gate after it.
abbrev pub HasMark : List Mark → ℕ → ℕ → Type 0
HasMark marks gate next = (k : ℕ) × (slice_get marks k ≡ Some (record { gate = gate; next = next }))

-- The superblock names no checkpoint, and the first gate as the tail; or one of these checkpoints, and the gate after it.
abbrev pub IsNamedStart : Super → List Mark → Type 0
IsNamedStart s marks = ((s.checkpoint ≡ 0) × (s.tail ≡ first_gate)) ⊎ HasMark marks s.checkpoint s.tail

-- If the store is sealed, the tail that the superblock names is this gate, at which the log ends.
abbrev pub EndsAtSeal : Super → ℕ → Type 0
EndsAtSeal s gate = has_seal s ≡ true → s.tail ≡ gate

-- ---- the trees

-- If the history has an entry at this place, counted from 0, the entry's root leads to the tree of the version that the entry makes, in
-- these pages.
abbrev pub LeadsRightly : Pages → List Entry → List ℕ → ℕ → Type 0
LeadsRightly pages h roots n = IfSome (slice_get h n) (λ e. IsRootOf pages (take n h) e (get_or roots n 0) [])

-- The root of each entry leads to the tree of its version.
abbrev pub LeadAll : Pages → List Entry → List ℕ → Type 0
LeadAll pages h roots = (n : ℕ) → LeadsRightly pages h roots n

-- The first wrong node of the version that an entry makes after the entries `before` is in this block. The entry is one of the history h.
-- An entry that makes no version has no node.
abbrev pub IsFirstWrongOf : Pages → List Entry → List Entry → Entry → ℕ → ℕ → Type 0
IsFirstWrongOf pages h before (Create id) root block = ⊥
IsFirstWrongOf pages h before (Define id spec) root block = ⊥
IsFirstWrongOf pages h before (Retire stream least) root block = ⊥
IsFirstWrongOf pages h before (Commit stream cut added) root block =
    IsFirstWrongIn (nodes_in pages stream) (commits_to h stream (latest h stream)) (latest before stream + 1) root block
IsFirstWrongOf pages h before (Distillate stream cut added reads) root block =
    IsFirstWrongIn (nodes_in pages stream) (commits_to h stream (latest h stream)) (latest before stream + 1) root block

-- The roots of the entries before this place lead to the trees of their versions, but the first wrong node of the version of the entry at
-- this place is in this block.
pub record IsFirstWrongAt (pages : Pages) (h : List Entry) (roots : List ℕ) (n block : ℕ) : Type 0 where
  pub before : (m : ℕ) → m < n → LeadsRightly pages h roots m
  pub entry : Entry
  pub is : slice_get h n ≡ Some entry
  pub wrong : IsFirstWrongOf pages h (take n h) entry (get_or roots n 0) block
