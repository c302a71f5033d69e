-- The head of an extent's body: its grammar, and its 64 bytes.
use Rattle.std.specs.Prelude.{◌≡◌, ◌⊎◌, ℕ, ◌+◌, ◌/◌, ◌^◌, ◌<◌, ◌≤◌, List, ◌++◌, codes}
use Rattle.std.specs.Int.{w32, w64, to_be_bytes}
use Rattle.btr_disk.specs.Gate.{zeros}
use Rattle.btr_disk.specs.Numbers.{u32_at, u64_at}
use Rattle.btr_log.specs.declared.head.Head.{Head}

-- ASCII `BTR-BODY`.
abbrev pub head_mark : List ℕ
head_mark = codes "BTR-BODY"

-- The number of blocks that the head and a content of this many bytes fill, the last one filled up.
abbrev pub content_blocks : ℕ → ℕ
content_blocks length = (64 + length + 4095) / 4096

-- Each number of eight bytes fits them.
pub record FitsFields (head : Head) : Type 0 where
  pub number : head.number < 2 ^ 64
  pub n : head.n < 2 ^ 64
  pub length : head.length < 2 ^ 64
  pub nodes : head.nodes < 2 ^ 64
  pub root : head.root < 2 ^ 64

-- An entry has a number from 1 on.
abbrev pub IsEntryHead : Head → Type 0
IsEntryHead head = (head.kind ≡ 1) × (1 ≤ head.number)

-- A checkpoint has no nodes and no root.
abbrev pub IsCheckpointHead : Head → Type 0
IsCheckpointHead head = (head.kind ≡ 2) × (head.nodes ≡ 0) × (head.root ≡ 0)

-- The grammar of a head, apart from its bytes.
pub record IsHead (head : Head) : Type 0 where
  pub kind : IsEntryHead head ⊎ IsCheckpointHead head
  pub format : (1 ≤ head.format) × (head.format ≤ 4)
  pub blocks : head.n ≡ content_blocks head.length + head.nodes
  pub fits : FitsFields head

-- The head, in this format, of the entry with this number and a content of `length` bytes, in a body with this many node blocks and
-- this root.
abbrev pub entry_head : ℕ → ℕ → ℕ → ℕ → ℕ → Head
entry_head format number length nodes root = record {
  kind = 1;
  format = format;
  number = number;
  n = content_blocks length + nodes;
  length = length;
  nodes = nodes;
  root = root;
}

-- The head, in this format, of a checkpoint after this number of entries, with a content of `length` bytes.
abbrev pub checkpoint_head : ℕ → ℕ → ℕ → Head
checkpoint_head format number length = record {
  kind = 2;
  format = format;
  number = number;
  n = content_blocks length;
  length = length;
  nodes = 0;
  root = 0;
}

-- The 64 bytes of a head: the mark, the fields with the highest byte first, and zeros.
unfoldable pub head_bytes : Head → List ℕ
head_bytes head =
    head_mark
    ++ to_be_bytes w32 head.kind
    ++ to_be_bytes w32 head.format
    ++ to_be_bytes w64 head.number
    ++ to_be_bytes w64 head.n
    ++ to_be_bytes w64 head.length
    ++ to_be_bytes w64 head.nodes
    ++ to_be_bytes w64 head.root
    ++ zeros 8

-- The bytes spell the head.
pub record Spells (bytes : List ℕ) (head : Head) : Type 0 where
  pub is_head : IsHead head
  pub spelling : bytes ≡ head_bytes head

-- The bytes spell no head.
abbrev pub IsNoHead : List ℕ → Type 0
IsNoHead bytes = (head : Head) → Spells bytes head → ⊥

-- The fields at their places.
unfoldable pub head_at : List ℕ → Head
head_at bytes = record {
  kind = u32_at 8 bytes;
  format = u32_at 12 bytes;
  number = u64_at 16 bytes;
  n = u64_at 24 bytes;
  length = u64_at 32 bytes;
  nodes = u64_at 40 bytes;
  root = u64_at 48 bytes;
}
