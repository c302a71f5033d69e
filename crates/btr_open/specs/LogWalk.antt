-- What holds of a walk over the log of a superblock between its steps, and what a step does.
use Rattle.std.specs.Prelude.{◌≡◌, ℕ, ◌+◌, ◌≤◌, false, List, [], Result, Ok, Err, Option, None, Some, IfSome}
use Rattle.btr_disk.specs.declared.disk.Disk.{Ghosts}
use Rattle.btr_disk.specs.Bytes.{Image}
use Rattle.btr_disk.specs.Gate.{IsClosed}
use Rattle.btr_log.specs.declared.head.Head.{Head}
use Rattle.btr_log.specs.declared.found.ExtentFault.{ExtentFault}
use Rattle.btr_log.specs.declared.found.ExtentFault.TheVariants.{Damaged, Fault, Want}
use Rattle.btr_log.specs.Log.{log_device, log_blocks}
use Rattle.btr_log.specs.Piece.{IsPieceOf, bytes_at}
use Rattle.btr_log.specs.Ahead.{HoldsExtent, MatchesPiece}
use Rattle.btr_super.specs.Super.{has_seal, IsSuper}
use Rattle.btr_streams.specs.Board.{IsBoardOf}
use Rattle.btr_open.specs.declared.judge.Judge.{Ghosts as Judging}
use Rattle.btr_open.specs.declared.loading.Loader.{Loader}
use Rattle.btr_open.specs.declared.log_walk.LogWalk.{LogWalk}
use Rattle.btr_open.specs.Place.{IsPlaceIn}
use Rattle.btr_open.specs.Reading.{ReadsLog, WasReadTo, WasJudged}
use Rattle.btr_open.specs.Loading.{IsReaderOf, ReadsThrough, ReadsBody, BreaksAfter}

-- What was found at a gate says that the gate is open.
abbrev pub SaysOpen : Result (Option Head) ExtentFault → Type 0
SaysOpen (Ok None) = ⊥
SaysOpen (Ok (Some head)) = Unit {0}
SaysOpen (Err (Damaged block)) = Unit {0}
SaysOpen (Err Fault) = ⊥
SaysOpen (Err Want) = ⊥

module _ {D : Type 0} {disk : Ghosts D} where
  -- The device of a walk.
  abbrev pub walked_device : LogWalk D disk → D
  walked_device w = log_device w.log

  -- The bytes of the device of a walk.
  abbrev pub walked_bytes : LogWalk D disk → Image
  walked_bytes w = disk.contents (walked_device w)

  -- The walk is over the log of its superblock, and the blocks that it holds are those of its device.
  pub record IsWalkOver (w : LogWalk D disk) : Type 0 where
    pub table : IsSuper (disk.size (walked_device w)) w.found
    pub same_blocks : log_blocks w.log ≡ w.found.blocks
    pub limit : w.reader.limit ≡ w.found.checkpoint
    pub ahead : disk.is_observable → IsPieceOf (walked_bytes w) w.piece
    pub holds : disk.is_observable → IsReaderOf (walked_bytes w) w.reader

  -- Nothing was read yet.
  pub record IsNewWalk (w : LogWalk D disk) : Type 0 where
    pub over : IsWalkOver w
    pub board : IsBoardOf [] w.loader.board
    pub nodes : w.loader.nodes ≡ []
    pub least : w.loader.least ≡ 1

  -- The walk is over the same log as before, and its calls only read.
  pub record WalksOn (old new : LogWalk D disk) : Type 0 where
    pub over : IsWalkOver new
    pub same_super : new.found ≡ old.found
    pub reads : ReadsLog old.log new.log

  -- The body of the extent at the walk's gate, which has this head, as the piece holds it.
  abbrev pub body_ahead : LogWalk D disk → Head → List ℕ
  body_ahead w head = bytes_at w.piece (w.place.gate + 1) head.n

  -- The piece holds the extent at the walk's gate, which has this head.
  abbrev pub HoldsNext : LogWalk D disk → Head → Type 0
  HoldsNext w head = HoldsExtent (log_blocks w.log) w.place.gate w.piece head

  -- What is found at the walk's gate was read ahead, and is what the device has: a closed gate, or the extent with this head, which the
  -- piece holds. An extent is found only in a store that is not sealed. Nothing more was read.
  pub record IsAhead (old new : LogWalk D disk) (found_there : Option Head) : Type 0 where
    pub place : new.place ≡ old.place
    pub loader : new.loader ≡ old.loader
    pub holds : IfSome found_there (HoldsNext new)
    pub unsealed : IfSome found_there (λ head. has_seal old.found ≡ false)
    pub matches : disk.is_observable → MatchesPiece (walked_bytes old) old.place.gate new.piece found_there

  -- The walk is after the extent at the gate where it was. An extent has at least two blocks, and one entry or none.
  pub record IsAfterExtent (old new : LogWalk D disk) : Type 0 where
    pub after : old.place.gate + 2 ≤ new.place.gate
    pub extents : new.place.extents ≡ old.place.extents + 1
    pub counted : new.loader.board.entries ≤ old.loader.board.entries + 1

  module _ {J : Type 0} (by : Judging J) where
    -- The log was read up to the walk's place, and the judge has seen its entries.
    pub record IsWalked (w : LogWalk D disk) (judge : J) : Type 0 where
      pub over : IsWalkOver w
      pub at : IsPlaceIn w.found w.loader.board.entries w.place
      pub into : WasReadTo w.place.gate w.loader
      pub read : WasJudged disk by (walked_device w) w.found w.place.gate w.loader judge

    -- The walk is at a closed gate, and read nothing more.
    pub record IsAtEnd (old new : LogWalk D disk) (before after : J) : Type 0 where
      pub place : new.place ≡ old.place
      pub loader : new.loader ≡ old.loader
      pub judge : after ≡ before
      pub closed : disk.is_observable → IsClosed (walked_bytes old) old.place.gate

    -- The log of the old walk's superblock was read up to a closed gate. It is said of the device as it was before.
    pub record WasWalked (old new : LogWalk D disk) (judge : J) : Type 0 where
      pub at : IsPlaceIn old.found new.loader.board.entries new.place
      pub into : WasReadTo new.place.gate new.loader
      pub read : WasJudged disk by (walked_device old) old.found new.place.gate new.loader judge
      pub closed : disk.is_observable → IsClosed (walked_bytes old) new.place.gate

    -- The body of the extent with this head was read.
    pub record ReadsExtent (old : LogWalk D disk) (new : Loader) (head : Head) (before after : J) : Type 0 where
      pub through : ReadsThrough old.place.gate (body_ahead old head) old.loader new
      pub read : disk.is_observable
          → ReadsBody by (walked_bytes old) old.reader.limit old.place.gate (body_ahead old head) old.loader new before after

    -- This block of the body of the extent with this head breaks the format or the rule.
    abbrev pub BreaksExtent : LogWalk D disk → Head → J → ℕ → Type 0
    BreaksExtent old head before block =
        disk.is_observable
        → BreaksAfter by (walked_bytes old) old.reader.limit old.place.gate (body_ahead old head) old.loader before block
