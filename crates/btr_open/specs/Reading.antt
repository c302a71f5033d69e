-- What the functions promise that an opening is made of: what was read so far, and why nothing more is.
use Rattle.std.specs.Prelude.{◌≡◌, ◌⊎◌, ℕ, ◌<◌, ◌≤◌, true, false, List, [], ◌++◌, length, IsSome}
use Rattle.btr_disk.specs.declared.disk.Disk.{Ghosts}
use Rattle.btr_disk.specs.Bytes.{Image}
use Rattle.btr_disk.specs.Gate.{IsClosed}
use Rattle.btr_disk.specs.Causes.{Rose}
use Rattle.btr_log.specs.declared.log.Log.{Log}
use Rattle.btr_log.specs.Extents.{Extents}
use Rattle.btr_log.specs.Log as log
use Rattle.btr_super.specs.declared.superblock.Super.{Super}
use Rattle.btr_pages.specs.Known.{AreKnown, ArePartOf, node_at}
use Rattle.btr_hist.specs.declared.entry.Entry.{Entry}
use Rattle.btr_engine.specs.declared.engine.Engine.{Engine}
use Rattle.btr_engine.specs.Body.{Prefix, prefix_to, no_extents, needed_format, LeadTo}
use Rattle.btr_streams.specs.Board.{Kept, IsBoardOf}
use Rattle.btr_engine.specs.Engine.{device, blocks_of, tail_of, board_of, super_of, entries_of, is_stopped, is_home}
use Rattle.btr_engine.specs.Engine.{synced_of, entries_at_open}
use Rattle.btr_engine.specs.Holds.{HoldsHistoryTo}
use Rattle.btr_streams.specs.Rolling.{rolled}
use Rattle.btr_engine.specs.Roots.{IsRootOf}
use Rattle.btr_engine.specs.Stored.{AreStored}
use Rattle.btr_streams.specs.Rolling.{HaveRoots}
use Rattle.btr_open.specs.declared.judge.Judge.{Ghosts as Judging}
use Rattle.btr_open.specs.declared.loading.Loader.{Loader}
use Rattle.btr_open.specs.declared.opening.OpenCause.{OpenCause}
use Rattle.btr_open.specs.declared.opening.OpenCause.TheVariants.{NotAStore, Damaged, Fault, Want}
use Rattle.btr_open.specs.Reached.{Reached}
use Rattle.btr_open.specs.Below.{StandBelow}
use Rattle.btr_open.specs.Start.{IsWrongStart}
use Rattle.btr_open.specs.Walk.{IsWalk}
use Rattle.btr_open.specs.Seen.{Seen, EntryRule, KeepsRule, IsDamagedLogBy}
use Rattle.btr_open.specs.Damage.{IsDamagedStore}
use Rattle.btr_open.specs.Opening.{OpenCauseHolds}
use Rattle.btr_log.specs.Reads.{OnlyReads}
use Rattle.btr_open.specs.Reads.{PartCause}

-- ---- what is in memory

-- What was read up to a gate: the board has the number of entries and the streams with their versions, and the trees are those of the
-- pages, which are below the gate. The least format of a checkpoint is remembered.
pub record IsReadInto (log : Reached) (l : Loader) : Type 0 where
  pub rolled_is : rolled l.board ≡ log.roll
  pub counted : l.board.entries ≡ log.entries
  pub least_is : l.least ≡ log.least
  pub known : AreKnown log.pages l.nodes
  pub below : (block : ℕ) → IsSome (node_at l.nodes block) → block < log.gate

-- Something was read up to this gate. It is said of each device, also of one that does not tell its bytes.
abbrev pub WasReadTo : ℕ → Loader → Type 0
WasReadTo gate l = (log : Reached) × (log.gate ≡ gate) × IsReadInto log l

-- The board is that of the entries of a prefix. Its trees are stored in the pages of the prefix and have the roots of its entries. All
-- trees that were made are those of pages of the prefix. A checkpoint of the prefix may have the least format that is remembered, or a
-- greater one.
pub record IsStoredIn (log : Prefix) (l : Loader) : Type 0 where
  pub of : IsBoardOf log.entries l.board
  pub least : l.least ≤ needed_format log.entries
  pub counted : length log.roots ≡ length log.entries
  pub stored : AreStored log.pages log.gate l.board.streams
  pub roots : HaveRoots log.roots l.board.streams
  pub part : ArePartOf log.pages l.nodes

-- The device holds a history, and a part of its log was read, up to a gate: the bodies of the extents before the gate lead to a prefix,
-- whose board was made; those of the others lead on to the history.
pub record IsPartRead {size : ℕ} {image : Image} {blocks tail : ℕ} {h : List Entry} (holds : HoldsHistoryTo size image blocks tail h)
    (gate : ℕ) (l : Loader) : Type 0 where
  pub before : List (List ℕ)
  pub rest : List (List ℕ)
  pub parts : holds.bodies ≡ before ++ rest
  pub log : Prefix
  pub at : log.gate ≡ gate
  pub leads : LeadTo IsRootOf no_extents before log
  pub more : LeadTo IsRootOf log rest (prefix_to tail h holds.leads.roots holds.leads.pages)
  pub extents : Extents image gate rest tail
  pub stand : StandBelow image gate log.pages
  pub stored : IsStoredIn log l

-- ---- the device

-- What was read of the log of this superblock, up to a gate, on a device of `size` blocks with these bytes: a walk leads to the gate, and
-- what is before it was read; and if the device holds a history, a part of its log.
pub record IsReadLog (size : ℕ) (image : Image) (found : Super) (gate : ℕ) (l : Loader) : Type 0 where
  pub log : Reached
  pub at : log.gate ≡ gate
  pub walk : IsWalk image found log
  pub into : IsReadInto log l
  pub stand : StandBelow image found.checkpoint log.pages
  pub held : (blocks tail : ℕ) (h : List Entry) (holds : HoldsHistoryTo size image blocks tail h) → holds.super ≡ found
      → IsPartRead holds gate l

-- Nothing was read yet but what the superblock names to start from.
pub record IsReadStart (size : ℕ) (image : Image) (found : Super) (gate : ℕ) (l : Loader) : Type 0 where
  pub read : IsReadLog size image found gate l
  pub none : read.walk.bodies ≡ []

-- The entries of the walk keep the judge's rule, and the judge has seen them.
pub record IsJudgedRead {J : Type 0} (by : Judging J) (size : ℕ) (image : Image) (found : Super) (gate : ℕ) (l : Loader) (judge : J)
    : Type 0 where
  pub read : IsReadLog size image found gate l
  pub seen : Seen
  pub keeps : KeepsRule by.may read.walk seen
  pub judged : by.is_after seen judge

-- This block of the store of a superblock breaks the format or the rule.
abbrev pub IsDamagedStoreBy : EntryRule → Image → Super → ℕ → Type 0
IsDamagedStoreBy May image s block = IsWrongStart image s block ⊎ IsDamagedLogBy May image s block

module _ {D : Type 0} (disk : Ghosts D) where
  -- Why the calls between two states of a device found no history, if `known` holds of its bytes.
  abbrev pub CauseBetween : Type 0 → D → D → OpenCause → Type 0
  CauseBetween known old new cause = OpenCauseHolds known (disk.size old) (disk.contents old) (disk.faults old) (disk.faults new) cause

  -- Why the start that this superblock names was not read.
  abbrev pub FirstCause : Super → D → D → OpenCause → Type 0
  FirstCause found old new = PartCause disk (IsWrongStart (disk.contents old) found) old new

  -- Why the log of the store of this superblock was not read, with this judge.
  abbrev pub LogCause : {J : Type 0} → Judging J → Super → D → D → OpenCause → Type 0
  LogCause by found old new = PartCause disk (IsDamagedStoreBy by.may (disk.contents old) found) old new

  -- Why the log of the store of this superblock was not opened.
  abbrev pub StoreCause : Super → D → D → OpenCause → Type 0
  StoreCause found old new = PartCause disk (IsDamagedStore (disk.contents old) found) old new

  -- Why blocks of a device were not read: it failed, or there was no memory.
  abbrev pub BlockCause : D → D → OpenCause → Type 0
  BlockCause old new NotAStore = ⊥
  BlockCause old new (Damaged block) = ⊥
  BlockCause old new Fault = Rose (disk.faults old) (disk.faults new)
  BlockCause old new Want = Unit {0}

  -- Nothing of the log of this superblock was read yet but the start, if the device is observable.
  abbrev pub WasStarted : D → Super → ℕ → Loader → Type 0
  WasStarted old found gate l = disk.is_observable → IsReadStart (disk.size old) (disk.contents old) found gate l

  -- The log was read up to a gate, and this judge has seen its entries.
  abbrev pub WasJudged : {J : Type 0} → Judging J → D → Super → ℕ → Loader → J → Type 0
  WasJudged by old found gate l judge =
      disk.is_observable → IsJudgedRead by (disk.size old) (disk.contents old) found gate l judge

-- The log of a superblock as a device has it: a walk leads to the closed gate at the tail. If the device holds a history, the log ends
-- there, the board is that of the history, and its trees are stored in the history's pages and have the roots of its entries.
pub record IsWholeLog (size : ℕ) (image : Image) (found : Super) (tail : ℕ) (board : Kept) : Type 0 where
  pub log : Reached
  pub at : log.gate ≡ tail
  pub walk : IsWalk image found log
  pub stand : StandBelow image found.checkpoint log.pages
  pub closed : IsClosed image tail
  pub held : (blocks other : ℕ) (h : List Entry) (holds : HoldsHistoryTo size image blocks other h) → holds.super ≡ found
      → (other ≡ tail) × IsBoardOf h board × AreStored holds.leads.pages tail board.streams × HaveRoots holds.leads.roots board.streams

module _ {D : Type 0} (disk : Ghosts D) where
  -- The engine has the device, on which nothing was written, the state `mid` of it, the superblock, and what the whole log gives. Its log
  -- is at home.
  pub record IsReadEngine (found : Super) (old mid : D) (e : Engine D disk) : Type 0 where
    pub reads : OnlyReads disk old (device e)
    pub synced : synced_of e ≡ mid
    pub runs : is_stopped e ≡ false
    pub home : is_home e ≡ true
    pub entries : entries_at_open e ≡ entries_of e
    pub blocks_are : blocks_of e ≡ found.blocks
    pub under : super_of e ≡ found
    pub inside : tail_of e < found.blocks
    pub whole : disk.is_observable → IsWholeLog (disk.size old) (disk.contents old) found (tail_of e) (board_of e)

module _ {D : Type 0} {disk : Ghosts D} where
  -- The log is as before, but for its device, on which nothing was written.
  pub record ReadsLog (old new : Log D disk) : Type 0 where
    pub kept : log.KeepsLog old new
    pub reads : OnlyReads disk (log.log_device old) (log.log_device new)
