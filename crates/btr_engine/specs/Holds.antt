-- Which history a device holds: what its bytes have to be.
use Rattle.std.specs.Prelude.{◌≡◌, ◌⊎◌, ℕ, ◌+◌, ◌<◌, true, List, ◌∷◌, ◌++◌}
use Rattle.std.specs.List.{AllByRecursion}
use Rattle.btr_disk.specs.Bytes.{Image}
use Rattle.btr_disk.specs.Gate.{IsClosed}
use Rattle.btr_log.specs.Extents.{need, Extents, first_gate}
use Rattle.btr_super.specs.declared.superblock.Super.{Super}
use Rattle.btr_super.specs.Super.{has_seal}
use Rattle.btr_super.specs.Choose.{IsChosen}
use Rattle.btr_hist.specs.declared.entry.Entry.{Entry}
use Rattle.btr_hist.specs.Legal.{Follows}
use Rattle.btr_engine.specs.Body.{MayStandUnder, Prefix, no_extents, IsCheckpointOf, RootRule, LeadTo, LeadToHistory}
use Rattle.btr_engine.specs.Roots.{IsRootOf}

-- The gate of one of the checkpoints of a log, and the gate after that checkpoint. The roots of the entries before it keep the rule.
pub record IsMarked (Rule : RootRule) (bodies : List (List ℕ)) (checkpoint tail : ℕ) : Type 0 where
  pub before : List (List ℕ)
  pub body : List ℕ
  pub after : List (List ℕ)
  pub parts : bodies ≡ before ++ body ∷ after
  pub log : Prefix
  pub leads : LeadTo Rule no_extents before log
  pub is : IsCheckpointOf log body
  pub gate : checkpoint ≡ log.gate
  pub next : tail ≡ checkpoint + need body

-- Where a superblock says that the log is read from: its beginning, or the gate after a checkpoint.
abbrev pub StartsAt : RootRule → List (List ℕ) → ℕ → ℕ → Type 0
StartsAt Rule bodies checkpoint tail = ((checkpoint ≡ 0) × (tail ≡ first_gate)) ⊎ IsMarked Rule bodies checkpoint tail

-- A device of `size` blocks with these bytes holds a store of `blocks` blocks with this history. A superblock is chosen that
-- gives this number of blocks. From block 4 on extents with these bodies follow open gates, and the bodies lead to the history: each
-- is that of the next entry, and the root of a commit leads to the tree of its version. No body has a greater format than the superblock.
-- The gate after the last extent, at the tail, is closed. Each entry is accepted after those before it. The superblock says that the log is
-- read from its beginning, or from the gate after one of its checkpoints; that of a sealed store says the tail, and no extent follows.
-- Whether a distillate has the cut and the points that the definition gives is not tested by an opening, and not said here.
pub record HoldsHistoryTo (size : ℕ) (image : Image) (blocks tail : ℕ) (h : List Entry) : Type 0 where
  pub super : Super
  pub chosen : IsChosen size image super
  pub same_blocks : super.blocks ≡ blocks
  pub bodies : List (List ℕ)
  pub extents : Extents image first_gate bodies tail
  pub leads : LeadToHistory IsRootOf bodies tail h
  pub formats : AllByRecursion (MayStandUnder super.format) bodies
  pub starts : StartsAt IsRootOf bodies super.checkpoint super.tail
  pub sealed : has_seal super ≡ true → super.tail ≡ tail
  pub closed : IsClosed image tail
  pub inside : tail < blocks
  pub follows : Follows h

-- The device holds the history, whatever its blocks and its tail are.
pub record HoldsHistory (size : ℕ) (image : Image) (h : List Entry) : Type 0 where
  pub blocks : ℕ
  pub tail : ℕ
  pub holds : HoldsHistoryTo size image blocks tail h
