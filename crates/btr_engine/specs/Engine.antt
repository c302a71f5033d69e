-- What contracts see of an engine: its device, its board, the blocks that are left, whether it is stopped, its opening, and which
-- history it is of.
use Rattle.std.specs.Prelude.{◌≡◌, ◌⊎◌, ℕ, ◌≤◌, Bool, true, false, List, [], ◌++◌, length, take}
use Rattle.btr_disk.specs.declared.disk.Disk.{Ghosts}
use Rattle.btr_disk.specs.Bytes.{Image}
use Rattle.btr_disk.specs.Images.{Only}
use Rattle.btr_disk.specs.Moments.{Leaves}
use Rattle.btr_disk.specs.Causes.{KeepsCounts}
use Rattle.btr_log.specs.Extents.{left}
use Rattle.btr_log.specs.Log as log
use Rattle.btr_log.specs.declared.log.Log.{Log}
use Rattle.btr_super.specs.declared.superblock.Super.{Super}
use Rattle.btr_super.specs.Super.{has_seal}
use Rattle.btr_hist.specs.declared.entry.Entry.{Entry}
use Rattle.btr_engine.specs.declared.engine.Engine.{Engine}
use Rattle.btr_streams.specs.Board.{Kept, IsBoardOf}
use Rattle.btr_engine.specs.Place.{log_in, has_log}
use Rattle.btr_engine.specs.Stored.{AreStored}
use Rattle.btr_streams.specs.Rolling.{HaveRoots}
use Rattle.btr_engine.specs.Holds.{HoldsHistoryTo, HoldsHistory}

module _ {D : Type 0} {disk : Ghosts D} where
  -- The log. While it is out, this is the log as it was taken.
  abbrev pub log_of : Engine D disk → Log D disk
  log_of e = log_in e.place

  -- Whether the log is at home.
  abbrev pub is_home : Engine D disk → Bool
  is_home e = has_log e.place

  -- The device.
  abbrev pub device : Engine D disk → D
  device e = log.log_device (log_of e)

  -- The board.
  abbrev pub board_of : Engine D disk → Kept
  board_of e = e.board

  -- The number of entries.
  abbrev pub entries_of : Engine D disk → ℕ
  entries_of e = (board_of e).entries

  -- The engine is of this history.
  abbrev pub IsEngineOf : List Entry → Engine D disk → Type 0
  IsEngineOf h e = IsBoardOf h (board_of e)

  -- The blocks of the store, from block 0 on.
  abbrev pub blocks_of : Engine D disk → ℕ
  blocks_of e = log.log_blocks (log_of e)

  -- The block of the gate after the last extent.
  abbrev pub tail_of : Engine D disk → ℕ
  tail_of e = log.log_tail (log_of e)

  -- The blocks after that gate.
  abbrev pub room_of : Engine D disk → ℕ
  room_of e = left (blocks_of e) (tail_of e)

  -- The superblock that is chosen on the device.
  abbrev pub super_of : Engine D disk → Super
  super_of e = e.chosen

  -- Whether the store is sealed.
  abbrev pub is_sealed : Engine D disk → Bool
  is_sealed e = has_seal (super_of e)

  -- Whether the device failed in a step or in a checkpoint.
  abbrev pub is_stopped : Engine D disk → Bool
  is_stopped e = log.is_log_stopped (log_of e)

  -- The device as the sync left it with which the engine was opened.
  abbrev pub synced_of : Engine D disk → D
  synced_of e = e.synced.value

  -- The number of entries when the engine was opened.
  abbrev pub entries_at_open : Engine D disk → ℕ
  entries_at_open e = e.opened_with

  -- The number of calls of the device at the return of that sync.
  abbrev pub calls_at_open : Engine D disk → ℕ
  calls_at_open e = disk.calls (synced_of e)

  -- The number of faults of the device at the return of that sync.
  abbrev pub faults_at_open : Engine D disk → ℕ
  faults_at_open e = disk.faults (synced_of e)

  -- The engine is of this history. The device holds it as it reads, with the trees of the board in its pages, and a crash leaves
  -- nothing else.
  pub record IsAtRest (h : List Entry) (e : Engine D disk) : Type 0 where
    pub of : IsEngineOf h e
    pub holds : HoldsHistoryTo (disk.size (device e)) (disk.contents (device e)) (blocks_of e) (tail_of e) h
    pub under : holds.super ≡ super_of e
    pub stored : AreStored holds.leads.pages (tail_of e) (board_of e).streams
    pub roots : HaveRoots holds.leads.roots (board_of e).streams
    pub only : Only (disk.contents (device e)) (disk.images_now (device e))

  -- The engine is of this history. Every image since the call with this number, and every image now, holds it.
  pub record IsHeldSince (h : List Entry) (calls : ℕ) (e : Engine D disk) : Type 0 where
    pub of : IsEngineOf h e
    pub since : (c : Image) → disk.images_since (device e) calls c → HoldsHistory (disk.size (device e)) c h
    pub now : (c : Image) → disk.images_now (device e) c → HoldsHistory (disk.size (device e)) c h

  -- A crash at any moment between the two leaves an image that has P.
  abbrev pub EngineLeaves : Engine D disk → Engine D disk → (Image → Type 0) → Type 0
  EngineLeaves old new P = Leaves disk.calls disk.images_since (device old) (device new) P

  -- The engine is of this history. The record says what a crash may have left since the call with the number `calls`, and what it
  -- may leave now. Each earlier image holds a prefix of the history with at least this many entries. Each image now holds the
  -- history. If a step stopped the engine, both may have its entry too, which is `more`.
  pub record IsDurable (h : List Entry) (calls entries : ℕ) (e : Engine D disk) (more : List Entry) : Type 0 where
    pub of : IsEngineOf h e
    pub past : calls ≤ disk.calls (device e)
    pub longer : entries ≤ length h
    pub one : length more ≤ 1
    pub runs : is_stopped e ≡ false → more ≡ []
    pub since : (c : Image) → disk.images_since (device e) calls c
        → (n : ℕ) × (entries ≤ n) × HoldsHistory (disk.size (device e)) c (take n (h ++ more))
    pub now : (c : Image) → disk.images_now (device e) c
        → HoldsHistory (disk.size (device e)) c h ⊎ HoldsHistory (disk.size (device e)) c (h ++ more)

  -- The opening and the blocks of the store are the same, and the device has as many blocks and no lower count.
  pub record KeepsOpening (old new : Engine D disk) : Type 0 where
    pub blocks : blocks_of new ≡ blocks_of old
    pub entries : entries_at_open new ≡ entries_at_open old
    pub synced : synced_of new ≡ synced_of old
    pub device_kept : KeepsCounts disk.size disk.calls disk.faults (device old) (device new)

  -- The engine has this log, at home, this board and this superblock, and was opened by this sync, with as many entries as it has.
  pub record IsMadeOf (l : Log D disk) (b : Kept) (chosen : Super) (synced : D) (e : Engine D disk) : Type 0 where
    pub home : is_home e ≡ true
    pub same_log : log_of e ≡ l
    pub same_board : board_of e ≡ b
    pub same_super : super_of e ≡ chosen
    pub same_synced : synced_of e ≡ synced
    pub same_entries : entries_at_open e ≡ entries_of e
