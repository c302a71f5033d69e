-- The travel of the log: what is made ready to be written, what a write does to a log that is out, and what the engine is when it is back.
use Rattle.std.specs.Prelude.{◌≡◌, ℕ, ◌+◌, ◌*◌, ◌^◌, ◌<◌, ◌≤◌, Bool, true, false, List, [], ◌∷◌, ◌++◌, length}
use Rattle.std.specs.Prelude.{Option, Some, None, IfSome, option_map}
use Rattle.btr_disk.specs.declared.disk.Disk.{Ghosts}
use Rattle.btr_disk.specs.Bytes.{Image}
use Rattle.btr_disk.specs.Causes.{Rose}
use Rattle.btr_disk.specs.Gate.{zeros, gate_block}
use Rattle.btr_disk.specs.Images.{Only}
use Rattle.btr_disk.specs.Publish.{Published}
use Rattle.btr_log.specs.declared.log.Log.{Log}
use Rattle.btr_log.specs.Extents.{need}
use Rattle.btr_log.specs.Head.{content_blocks}
use Rattle.btr_log.specs.Log.{log_device, log_tail, log_blocks, log_room, extents_of, is_log_stopped, KeepsBounds, KeepsLog, LogLeaves}
use Rattle.btr_log.specs.Append.{body_in_run, IsAppended}
use Rattle.btr_super.specs.declared.superblock.Super.{Super}
use Rattle.btr_super.specs.Super.{IsSuper, has_seal}
use Rattle.btr_hist.specs.declared.entry.Entry.{Entry}
use Rattle.btr_hist.specs.declared.entry.Entry.TheVariants.{Create, Define, Commit, Distillate, Retire}
use Rattle.btr_hist.specs.Legal.{rejection}
use Rattle.btr_node.specs.declared.page.NodePage.{NodePage}
use Rattle.btr_pages.specs.Pages.{pages_of}
use Rattle.btr_entry.specs.Grammar.{spelling, IsSpelled, IsWithinBounds}
use Rattle.btr_entry.specs.Format.{format_of}
use Rattle.btr_engine.specs.declared.engine.Engine.{Engine}
use Rattle.btr_streams.specs.declared.board.Staged.{Staged}
use Rattle.btr_streams.specs.declared.board.Receipt.{Receipt}
use Rattle.btr_engine.specs.declared.travel.Ready.{Ready}
use Rattle.btr_engine.specs.declared.travel.Return.{Return}
use Rattle.btr_engine.specs.declared.travel.Return.TheVariants.{Untouched, Written, Failed}
use Rattle.btr_engine.specs.Body.{body_of, first_page}
use Rattle.btr_engine.specs.Streamed.{streamed_bytes}
use Rattle.btr_streams.specs.Board.{Kept, IsBoardOf}
use Rattle.btr_engine.specs.Stored.{AreStored}
use Rattle.btr_streams.specs.Rolling.{HaveRoots}
use Rattle.btr_engine.specs.Holds.{HoldsHistoryTo, HoldsHistory}
use Rattle.btr_engine.specs.Raise.{raise_for, super_after, MayRaise, KeepsButRaise, CountsRaise, CountsWrite, most_calls}
use Rattle.btr_streams.specs.Stage.{IsReceipt, WritesEntry}
use Rattle.btr_engine.specs.Place.{log_here}
use Rattle.btr_engine.specs.Step.{IsBeforeOrAfter}
use Rattle.btr_engine.specs.Engine.{log_of, board_of, entries_of, super_of, entries_at_open, is_home, is_sealed}

-- ---- what is made ready

-- The pages of the nodes that a staged entry writes.
abbrev pub written_pages : Staged → List NodePage
written_pages s = pages_of s.receipt.stream s.nodes.items

-- What is made of an extent before it is written, and what is streamed, are the body of the staged entry and one block of zeros.
abbrev pub MakesExtent : Staged → Entry → List ℕ → Bool → Type 0
MakesExtent s e prefix is_streamed =
    prefix ++ streamed_bytes is_streamed s.receipt.stream s.nodes.items ≡ body_of s.receipt.number e s.root (written_pages s) ++ zeros 4096

-- The run that is to be appended: what was made of the extent before it is written, and the blocks that are streamed.
abbrev pub run_of : Ready → List ℕ
run_of r = r.prefix ++ streamed_bytes r.is_streamed r.staged.receipt.stream r.staged.nodes.items

-- The run is the extent of the entry, and one block of zeros. The extent has the number of entries of the board that was staged, and the
-- root and the pages of what was staged. The receipt says this number.
pub record IsMade (e : Entry) (r : Ready) : Type 0 where
  pub spelled : IsSpelled e
  pub bytes : run_of r ≡ body_of r.staged.next.entries e r.staged.root (written_pages r.staged) ++ zeros 4096
  pub low : r.staged.root < 2 ^ 64
  pub room : content_blocks (length (spelling e)) + length r.staged.nodes.items < 2 ^ 64
  pub few : r.is_streamed ≡ true → length r.staged.nodes.items < 2 ^ 62
  pub numbered : r.staged.receipt.number ≡ r.staged.next.entries

-- The block is that of the first node of an entry, if the gate before its extent is block `tail`. An entry that makes no version has no
-- node, and an entry that is out of bounds is refused.
abbrev pub IsFirstNode : ℕ → Entry → ℕ → Type 0
IsFirstNode tail (Create id) block = Unit {0}
IsFirstNode tail (Define id spec) block = Unit {0}
IsFirstNode tail (Retire stream first) block = Unit {0}
IsFirstNode tail (Commit stream cut added) block =
    IsWithinBounds (Commit stream cut added) → block ≡ first_page tail (Commit stream cut added)
IsFirstNode tail (Distillate stream cut added reads) block =
    IsWithinBounds (Distillate stream cut added reads) → block ≡ first_page tail (Distillate stream cut added reads)

-- The staged entry has what it makes of the board, and its nodes are for the blocks of its pages, if the gate before its extent is block
-- `tail`.
abbrev pub WritesAfter : Kept → Entry → ℕ → Staged → Type 0
WritesAfter b e tail s = WritesEntry b e (first_page tail e) s

-- What was made ready for this entry was staged on this board of the history, with the gate before its extent at block `tail`. The entry
-- may follow the history. The next board is of the history with it, and the receipt is the entry's.
pub record IsStaged (h : List Entry) (b : Kept) (tail : ℕ) (e : Entry) (r : Ready) : Type 0 where
  pub before : IsBoardOf h b
  pub allowed : rejection h e ≡ None
  pub of : IsBoardOf (h ++ e ∷ []) r.staged.next
  pub is_receipt : IsReceipt h e r.staged.receipt
  pub writes : WritesAfter b e tail r.staged

-- What was made ready and written to a log that comes back.
abbrev pub written_in : Return → Option Ready
written_in Untouched = None
written_in (Written r) = Some r
written_in Failed = None

-- The board of an engine after it got this back, which was made ready, or nothing.
abbrev pub settled_board : Kept → Option Ready → Kept
settled_board before None = before
settled_board before (Some r) = r.staged.next

-- Its superblock: that of the raise that came before the entry, or the one that it had.
abbrev pub settled_super : Super → Option Ready → Super
settled_super before None = before
settled_super before (Some r) = super_after before r.raise

module _ {D : Type 0} {disk : Ghosts D} where
  -- ---- a log that is out

  -- The device of the log holds the history as it reads, under this superblock and with the trees of this board in its pages, and a
  -- crash leaves nothing else.
  pub record HoldsNow (h : List Entry) (b : Kept) (s : Super) (l : Log D disk) : Type 0 where
    pub holds : HoldsHistoryTo (disk.size (log_device l)) (disk.contents (log_device l)) (log_blocks l) (log_tail l) h
    pub under : holds.super ≡ s
    pub stored : AreStored holds.leads.pages (log_tail l) b.streams
    pub roots : HaveRoots holds.leads.roots b.streams
    pub only : Only (disk.contents (log_device l)) (disk.images_now (log_device l))

  -- What was made ready for this entry can be appended to the log: the log is not stopped and has room for it. Each entry before it has
  -- an extent of two blocks or more before the tail. The superblock of the raise, if there is one, keeps the table.
  pub record IsReadyFor (l : Log D disk) (e : Entry) (r : Ready) : Type 0 where
    pub made : IsMade e r
    pub some : 1 ≤ r.staged.next.entries
    pub behind : 2 * r.staged.next.entries + 2 ≤ log_tail l
    pub runs : is_log_stopped l ≡ false
    pub fits : need (body_in_run (run_of r)) ≤ log_room l
    pub keeps : IfSome r.raise (IsSuper (disk.size (log_device l)))

  -- The device has failed, within so many calls. The log is stopped, and has the extents that it had.
  pub record StopsWithin (most : ℕ) (old new : Log D disk) : Type 0 where
    pub rose : Rose (disk.faults (log_device old)) (disk.faults (log_device new))
    pub called : Rose (disk.calls (log_device old)) (disk.calls (log_device new))
    pub at_most : disk.calls (log_device new) ≤ disk.calls (log_device old) + most
    pub stopped : is_log_stopped new ≡ true
    pub tail : log_tail new ≡ log_tail old
    pub extents : extents_of new ≡ extents_of old

  -- ---- the raise

  -- The log is as before, but for the side of the raised superblock on its device, which counted the calls of the raise.
  pub record IsRaised (raise : Option Super) (old new : Log D disk) : Type 0 where
    pub log : KeepsLog old new
    pub calls : CountsRaise raise (disk.calls (log_device old)) (disk.calls (log_device new))
    pub elsewhere : disk.is_observable → KeepsButRaise raise (disk.contents (log_device old)) (disk.contents (log_device new))

  -- A crash at any moment of the raise leaves the history that the log held.
  abbrev pub LeavesRaised : Option Super → Log D disk → Log D disk → Type 0
  LeavesRaised raise l after =
      disk.is_observable → (h : List Entry) (b : Kept) (s : Super) → MayRaise s raise → HoldsNow h b s l
      → LogLeaves l after (λ c. HoldsHistory (disk.size (log_device l)) c h)

  -- The log holds the history and the board that it held, under the raised superblock.
  abbrev pub HoldsRaised : Option Super → Log D disk → Log D disk → Type 0
  HoldsRaised raise l after =
      disk.is_observable → (h : List Entry) (b : Kept) (s : Super) → MayRaise s raise → HoldsNow h b s l
      → HoldsNow h b (super_after s raise) after

  -- ---- the append of the extent

  -- The second log is the first one with the extent that was made ready. It is durable.
  pub record HasExtent (old new : Log D disk) (r : Ready) : Type 0 where
    pub kept : KeepsBounds old new
    pub appended : IsAppended old new (run_of r)

  -- A crash at any moment of the append leaves the history that the log held, or that with the entry. The superblock has the format that
  -- the entry needs, and the store is not sealed.
  abbrev pub LeavesExtent : Log D disk → Log D disk → Entry → Ready → Type 0
  LeavesExtent l after e r =
      disk.is_observable → (h : List Entry) (b : Kept) (s : Super) → IsStaged h b (log_tail l) e r → format_of e ≤ s.format
      → has_seal s ≡ false → HoldsNow h b s l → LogLeaves l after (IsBeforeOrAfter (disk.size (log_device l)) h e)

  -- The log holds the history that it held, with the entry, and the board that was staged.
  abbrev pub HoldsAppended : Log D disk → Log D disk → Entry → Ready → Type 0
  HoldsAppended l after e r =
      disk.is_observable → (h : List Entry) (b : Kept) (s : Super) → IsStaged h b (log_tail l) e r → format_of e ≤ s.format
      → has_seal s ≡ false → HoldsNow h b s l → HoldsNow (h ++ e ∷ []) r.staged.next s after

  -- ---- the write: the raise, and then the append

  -- The log has one more extent, the one that was made ready, by the calls of a write. The device has the run and the open gate before it.
  -- All else is as before, but for the side of the superblock of the raise, if there is one.
  pub record IsWrittenTo (old new : Log D disk) (r : Ready) : Type 0 where
    pub tail : log_tail new ≡ log_tail old + need (body_in_run (run_of r))
    pub extents : extents_of new ≡ extents_of old + 1
    pub calls : CountsWrite r.raise (disk.calls (log_device old)) (disk.calls (log_device new))
    pub ran : is_log_stopped old ≡ false
    pub runs : is_log_stopped new ≡ false
    pub written : disk.is_observable → (raised : Image) × KeepsButRaise r.raise (disk.contents (log_device old)) raised
        × Published raised (4096 * (log_tail old + 1)) (run_of r) (4096 * log_tail old) gate_block (disk.contents (log_device new))

  -- The second log is the first one with the extent that was made ready. It is durable.
  pub record IsWritten (old new : Log D disk) (r : Ready) : Type 0 where
    pub kept : KeepsBounds old new
    pub appended : IsWrittenTo old new r

  -- The device has failed, within the calls of a write with this raise, and the log is stopped.
  pub record HasFailed (raise : Option Super) (old new : Log D disk) : Type 0 where
    pub kept : KeepsBounds old new
    pub stops : StopsWithin (most_calls raise) old new

  -- A crash at any moment of the write of what was made ready leaves the history that the log held, or that with the entry. It is said of
  -- each history, with the board and the superblock, that the log held. The raise is the one that the entry needs under this superblock,
  -- which is not that of a sealed store.
  abbrev pub LeavesEntry : Log D disk → Log D disk → Entry → Ready → Type 0
  LeavesEntry l after e r =
      disk.is_observable → (h : List Entry) (b : Kept) (s : Super) → IsStaged h b (log_tail l) e r → r.raise ≡ raise_for s e
      → has_seal s ≡ false → HoldsNow h b s l → LogLeaves l after (IsBeforeOrAfter (disk.size (log_device l)) h e)

  -- The log holds the history that it held, with the entry, and the board that was staged, under the superblock after the raise.
  abbrev pub HoldsEntry : Log D disk → Log D disk → Entry → Ready → Type 0
  HoldsEntry l after e r =
      disk.is_observable → (h : List Entry) (b : Kept) (s : Super) → IsStaged h b (log_tail l) e r → r.raise ≡ raise_for s e
      → has_seal s ≡ false → HoldsNow h b s l → HoldsNow (h ++ e ∷ []) r.staged.next (super_after s r.raise) after

  -- ---- an engine

  -- The two engines differ at most in where the log is.
  pub record IsLike (a b : Engine D disk) : Type 0 where
    pub log : log_of a ≡ log_of b
    pub board : board_of a ≡ board_of b
    pub entries : entries_at_open a ≡ entries_at_open b
    pub chosen : super_of a ≡ super_of b
    pub synced : a.synced ≡ b.synced

  -- What was made ready for this entry is of the entry after those of the engine, which is not sealed, and raises its superblock if the
  -- entry needs it.
  pub record IsNextOn (engine : Engine D disk) (e : Entry) (r : Ready) : Type 0 where
    pub next : r.staged.next.entries ≡ entries_of engine + 1
    pub raise : r.raise ≡ raise_for (super_of engine) e
    pub unsealed : is_sealed engine ≡ false

  -- What was made ready for this entry is for the log of the engine, which is not sealed, and is of the entry after those of the engine. It
  -- raises the superblock if the entry needs it.
  pub record IsReadyOn (engine : Engine D disk) (e : Entry) (r : Ready) : Type 0 where
    pub ready_for : IsReadyFor (log_of engine) e r
    pub next : r.staged.next.entries ≡ entries_of engine + 1
    pub raise : r.raise ≡ raise_for (super_of engine) e
    pub unsealed : is_sealed engine ≡ false

  -- The log was taken if it was at home, and is out then. Nothing else has changed.
  pub record IsTaken (old new : Engine D disk) (result : Option (Log D disk)) : Type 0 where
    pub is : result ≡ log_here old.place
    pub out : is_home new ≡ false
    pub like : IsLike new old

  -- What an engine may get back, whose log is out: the log as it was taken; the log with what was made ready, which was written; or the
  -- log with the device having failed in the write.
  abbrev pub Settles : Engine D disk → Log D disk → Return → Type 0
  Settles engine l Untouched = l ≡ log_of engine
  Settles engine l (Written r) = ((e : Entry) × IsReadyOn engine e r) × IsWritten (log_of engine) l r
  Settles engine l Failed = (raise : Option Super) × HasFailed raise (log_of engine) l

  -- The log is at home again. The engine has the board that was staged and the superblock of its raise, and the receipt is that of its
  -- entry; or it has the board and the superblock that it had, and there is no receipt.
  pub record IsHomeAgain (old : Engine D disk) (l : Log D disk) (ready : Option Ready) (new : Engine D disk) (result : Option Receipt)
      : Type 0 where
    pub home : is_home new ≡ true
    pub log_is : log_of new ≡ l
    pub board : board_of new ≡ settled_board (board_of old) ready
    pub entries : entries_at_open new ≡ entries_at_open old
    pub chosen : super_of new ≡ settled_super (super_of old) ready
    pub synced : new.synced ≡ old.synced
    pub receipt : result ≡ option_map (λ r. r.staged.receipt) ready
