-- Where the reading of a log starts: at its first gate, or after the checkpoint that the superblock names, with what the checkpoint has.
use Rattle.std.specs.Prelude.{◌≡◌, ◌⊎◌, ℕ, ◌+◌, ◌*◌, ◌/◌, ◌^◌, ◌<◌, ◌≤◌, List, length, take, slice_get, Some, IsNone}
use Rattle.std.specs.List.{flat_map, AllByRecursion}
use Rattle.btr_disk.specs.Bytes.{Image}
use Rattle.btr_disk.specs.Gate.{IsClosed}
use Rattle.btr_log.specs.declared.head.Head.{Head}
use Rattle.btr_log.specs.Head.{content_blocks}
use Rattle.btr_log.specs.Extents.{need, IsExtent, first_gate}
use Rattle.btr_log.specs.Found.{IsDamagedExtent}
use Rattle.btr_super.specs.declared.superblock.Super.{Super}
use Rattle.btr_tree.specs.PageNodes.{Pages, IsRootPage}
use Rattle.btr_pages.specs.Pages.{HasRootPage}
use Rattle.btr_node.specs.declared.page.NodePage.{NodePage}
use Rattle.btr_roll.specs.declared.roll.RollVersion.{RollVersion}
use Rattle.btr_roll.specs.Roll.{RollStreamValue, IsRoll, has_firsts, roll_bytes, stream_bytes, first_bytes, version_bytes, kind_bytes}
use Rattle.btr_engine.specs.Body.{MayStandUnder}
use Rattle.btr_engine.specs.Mark.{body_of_roll}
use Rattle.btr_open.specs.Reached.{Reached, beginning}
use Rattle.btr_open.specs.Below.{IsStoredPage, HasNoPage, StandBelow, BreaksBelow}

-- ---- the checkpoint of a superblock

-- A stream and its versions were made by entries from 1 to this number.
pub record IsMadeWithin (entries : ℕ) (s : RollStreamValue) : Type 0 where
  pub stream : (1 ≤ s.entry) × (s.entry ≤ entries)
  pub versions : AllByRecursion (λ v. (1 ≤ v.entry) × (v.entry ≤ entries)) s.versions

-- The body is that of a checkpoint at a gate, after this number of entries, with these streams and their versions. Each entry has an extent
-- of two blocks or more before the gate, and made what the streams say. The format of the body is 1 to 4.
pub record HasRoll (gate entries : ℕ) (roll : List RollStreamValue) (body : List ℕ) : Type 0 where
  pub format : ℕ
  pub known : (1 ≤ format) × (format ≤ 4)
  pub is_roll : IsRoll format roll
  pub bound : 2 * entries + 4 ≤ gate
  pub made : AllByRecursion (IsMadeWithin entries) roll
  pub room : content_blocks (length (roll_bytes format roll)) < 2 ^ 64
  pub bytes : body ≡ body_of_roll format entries roll

-- The extent at the gate that the superblock names has this body, and the gate after it is the superblock's tail.
pub record IsCheckpointExtent (image : Image) (s : Super) (body : List ℕ) : Type 0 where
  pub head : Head
  pub extent : IsExtent image s.checkpoint body head
  pub kind : head.kind ≡ 2
  pub next : s.tail ≡ s.checkpoint + need body

-- A stream of the streams has this version as its version k + 1.
pub record HasVersionAt (roll : List RollStreamValue) (stream k : ℕ) (v : RollVersion) : Type 0 where
  pub its : RollStreamValue
  pub there : slice_get roll stream ≡ Some its
  pub is : slice_get its.versions k ≡ Some v

-- The root of each version is 0, or the block of the page of such a root.
abbrev pub HaveRootPages : Pages → List RollStreamValue → Type 0
HaveRootPages pages roll =
    (stream k : ℕ) (v : RollVersion) → HasVersionAt roll stream k v → (v.root ≡ 0) ⊎ HasRootPage pages stream (k + 1) v.root

-- What is before the superblock's tail, as its checkpoint says, whose body may stand under the superblock. No entry was read. The pages to
-- which the roots lead stand rightly below the checkpoint.
pub record IsCheckpointStart (image : Image) (s : Super) (start : Reached) : Type 0 where
  pub body : List ℕ
  pub extent : IsCheckpointExtent image s body
  pub has : HasRoll s.checkpoint start.entries start.roll body
  pub under : MayStandUnder s.format body
  pub gate : start.gate ≡ s.tail
  pub least : start.least ≡ 1
  pub stand : StandBelow image s.checkpoint start.pages
  pub beyond : (block : ℕ) → s.checkpoint ≤ block → IsNone (start.pages block)
  pub roots : HaveRootPages start.pages start.roll

-- What is before the gate from which the superblock says that its log is read.
abbrev pub IsReadingStart : Image → Super → Reached → Type 0
IsReadingStart image s start =
    ((s.checkpoint ≡ 0) × (s.tail ≡ first_gate) × (start ≡ beginning))
    ⊎ ((0 < s.checkpoint) × IsCheckpointStart image s start)

-- ---- a start that breaks the format

-- The superblock names a closed gate, or the extent of an entry, or one after which the gate is not its tail. The block is the body of the
-- superblock.
pub record IsNoCheckpoint (image : Image) (s : Super) (block : ℕ) : Type 0 where
  pub why :
      IsClosed image s.checkpoint
      ⊎ ((body : List ℕ) × (head : Head) × IsExtent image s.checkpoint body head
      × ((head.kind ≡ 2 → ⊥) ⊎ (s.tail ≡ s.checkpoint + need body → ⊥)))
  pub of : block ≡ 2 * s.side + 1

-- The body of the checkpoint may not stand under the superblock, since its format is greater, or it has no streams that a checkpoint can
-- have. Its first block breaks the format.
pub record HasNoRoll (image : Image) (s : Super) (block : ℕ) : Type 0 where
  pub body : List ℕ
  pub extent : IsCheckpointExtent image s body
  pub none : MayStandUnder s.format body → (entries : ℕ) (roll : List RollStreamValue) → HasRoll s.checkpoint entries roll body → ⊥
  pub first : block ≡ s.checkpoint + 1

-- The place of the eight bytes of a version's root in the content of a checkpoint of this format: after the number of streams, the streams
-- before, the fields of its own stream, the versions before, and the number of its entry.
abbrev pub place_of_root : ℕ → List RollStreamValue → ℕ → RollStreamValue → ℕ → ℕ
place_of_root format roll stream s k =
    4 + length (flat_map (stream_bytes format) (take stream roll))
    + (32 + length (kind_bytes s.spec) + length (first_bytes (has_firsts format) s.first))
    + length (flat_map version_bytes (take k s.versions)) + 8

-- A version of the checkpoint, of this format, has a root, and this block is named for it: the block in which the address begins, if the
-- address is not below the checkpoint, or is that of the page of no such root; the block at the address, if it has no page; or a block
-- below its page that breaks the format.
pub record HasWrongVersionRoot (image : Image) (s : Super) (format : ℕ) (roll : List RollStreamValue) (block : ℕ) : Type 0 where
  pub stream : ℕ
  pub k : ℕ
  pub v : RollVersion
  pub at : HasVersionAt roll stream k v
  pub some : 0 < v.root
  pub wrong :
      (((s.checkpoint ≤ v.root) ⊎ ((page : NodePage) × IsStoredPage image v.root page × (IsRootPage stream (k + 1) page → ⊥)))
      × (block ≡ s.checkpoint + 1 + (64 + place_of_root format roll stream at.its k) / 4096))
      ⊎ (((v.root < s.checkpoint) × HasNoPage image v.root × (block ≡ v.root))
      ⊎ ((v.root < s.checkpoint) × (page : NodePage) × IsStoredPage image v.root page × BreaksBelow image v.root page block))

-- The checkpoint has streams and their versions, but a root of them is wrong.
pub record HasWrongRoots (image : Image) (s : Super) (block : ℕ) : Type 0 where
  pub body : List ℕ
  pub extent : IsCheckpointExtent image s body
  pub entries : ℕ
  pub roll : List RollStreamValue
  pub under : MayStandUnder s.format body
  pub has : HasRoll s.checkpoint entries roll body
  pub wrong : HasWrongVersionRoot image s has.format roll block

-- The superblock names a checkpoint, but this block breaks the format of its start.
abbrev pub IsWrongStart : Image → Super → ℕ → Type 0
IsWrongStart image s block =
    (0 < s.checkpoint)
    × (IsNoCheckpoint image s block
    ⊎ (IsDamagedExtent image s.blocks s.checkpoint block
    ⊎ (HasNoRoll image s block ⊎ HasWrongRoots image s block)))
