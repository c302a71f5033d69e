-- What the body of an extent has: an entry with its number and its root, and the blocks of its pages; or the content of a checkpoint.
use Rattle.std.specs.Prelude.{◌≡◌, ◌⊎◌, ℕ, ◌+◌, ◌*◌, ◌^◌, ◌<◌, ◌≤◌, List, ◌++◌, length, drop}
use Rattle.btr_disk.specs.Gate.{zeros}
use Rattle.btr_log.specs.declared.head.Head.{Head}
use Rattle.btr_log.specs.Head.{content_blocks, head_bytes, entry_head, checkpoint_head}
use Rattle.btr_hist.specs.declared.entry.Entry.{Entry}
use Rattle.btr_hist.specs.declared.entry.Entry.TheVariants.{Retire}
use Rattle.btr_entry.specs.Grammar.{spelling, IsSpelled}
use Rattle.btr_entry.specs.Format.{format_of}
use Rattle.btr_engine.specs.Body.{padding}

-- Under a superblock of the format `limit` a body with this head may be in the log: the head's format is no greater, or it is 4.
abbrev pub MayHeadStand : ℕ → Head → Type 0
MayHeadStand limit head = (head.format ≤ limit) ⊎ (head.format ≡ 4)

-- The content of the entry with this number, in a body with this root and this many node blocks: the head, in the format of the entry, the
-- spelling, and zeros up to the end of the block.
unfoldable pub content_of : ℕ → Entry → ℕ → ℕ → List ℕ
content_of number e root nodes =
    head_bytes (entry_head (format_of e) number (length (spelling e)) nodes root) ++ (spelling e ++ zeros (padding (length (spelling e))))

-- The extent of an entry may have this many node blocks. That of a retirement has none.
abbrev pub MayHaveNodes : Entry → ℕ → Type 0
MayHaveNodes (Retire stream first) nodes = nodes ≡ 0
MayHaveNodes e nodes = Unit {0}

-- The body is the content of the entry with this number and this root, followed by the bytes of its node blocks.
pub record HasContent (number : ℕ) (e : Entry) (root : ℕ) (blocks body : List ℕ) : Type 0 where
  pub spelled : IsSpelled e
  pub low : root < 2 ^ 64
  pub nodes : ℕ
  pub whole : length blocks ≡ 4096 * nodes
  pub may_have : MayHaveNodes e nodes
  pub room : content_blocks (length (spelling e)) + nodes < 2 ^ 64
  pub bytes : body ≡ content_of number e root nodes ++ blocks

-- The body has no content of an entry with this number.
abbrev pub HasNoContent : ℕ → List ℕ → Type 0
HasNoContent number body = (e : Entry) (root : ℕ) (blocks : List ℕ) → HasContent number e root blocks body → ⊥

-- The bytes of the node blocks of a body with this head.
abbrev pub node_blocks_of : Head → List ℕ → List ℕ
node_blocks_of head body = drop (4096 * content_blocks head.length) body

-- The body is that of a checkpoint after this number of entries, with the content of its format: the head, the content, and zeros up to the
-- end of the last block. Its format is 1 to 4, and no less than `least`.
pub record HasCheckpoint (least number : ℕ) (contents : ℕ → List ℕ) (body : List ℕ) : Type 0 where
  pub format : ℕ
  pub from : (1 ≤ format) × (least ≤ format)
  pub most : format ≤ 4
  pub room : content_blocks (length (contents format)) < 2 ^ 64
  pub bytes : body ≡ head_bytes (checkpoint_head format number (length (contents format)))
      ++ (contents format ++ zeros (padding (length (contents format))))
