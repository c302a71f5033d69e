-- Frames: the bytes of one, and the whole frames that bytes begin with.
use Rattle.std.specs.Prelude.{◌≡◌, ℕ, ◌<◌, ◌^◌, List, ◌++◌, length, codes}
use Rattle.std.specs.Int.{w64}
use Rattle.std.specs.List.{flat_map, AllByRecursion}
use Rattle.btr_entry.specs.Grammar.{number}
use Rattle.btr_follow.specs.declared.frame.Frame.{Frame}
use Rattle.btr_follow.specs.declared.frame.Frames.{Frames}

-- ASCII `BTRF`.
abbrev pub frame_mark : List ℕ
frame_mark = codes "BTRF"

-- The bytes of a frame: the mark, the number of the entry and the number of its bytes, each in eight bytes, and the bytes of the entry.
abbrev pub frame_bytes : Frame → List ℕ
frame_bytes f = frame_mark ++ (number w64 f.number ++ (number w64 (length f.bytes) ++ f.bytes))

-- Both numbers of a frame fit in eight bytes.
pub record FrameFits (f : Frame) : Type 0 where
  pub numbered : f.number < 2 ^ 64
  pub short : length f.bytes < 2 ^ 64

-- The bytes begin with no whole frame.
abbrev pub BeginsWithNoFrame : List ℕ → Type 0
BeginsWithNoFrame bytes = (f : Frame) (more : List ℕ) → FrameFits f → bytes ≡ frame_bytes f ++ more → ⊥

-- The bytes are those of these frames, and then `rest`, which begins with no whole frame.
pub record AreFramesOf (bytes : List ℕ) (frames : List Frame) (rest : List ℕ) : Type 0 where
  pub fit : AllByRecursion FrameFits frames
  pub parts : bytes ≡ flat_map frame_bytes frames ++ rest
  pub no_more : BeginsWithNoFrame rest

-- These frames were read from the bytes, and the number of bytes after them.
abbrev pub AreRead : List ℕ → Frames → Type 0
AreRead bytes r = (rest : List ℕ) × AreFramesOf bytes r.frames rest × (r.rest ≡ length rest)
