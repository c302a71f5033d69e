-- The laws of frames.
use Rattle.std.specs.Prelude.{◌≡◌, ℕ, List, []}
use Rattle.std.specs.List.{flat_map, AllByRecursion}
use Rattle.btr_follow.specs.declared.frame.Frame.{Frame}
use Rattle.btr_follow.specs.Frames.{frame_bytes, FrameFits, AreFramesOf}

-- Bytes begin with the same whole frames, however they are found, and the same bytes follow.
abbrev pub HaveOneReading : Type 0
HaveOneReading =
    (bytes : List ℕ) (fs gs : List Frame) (x y : List ℕ) → AreFramesOf bytes fs x → AreFramesOf bytes gs y → (fs ≡ gs) × (x ≡ y)

-- The bytes of frames that fit are read as these frames, and no byte is left.
abbrev pub AreReadBack : Type 0
AreReadBack = (fs : List Frame) → AllByRecursion FrameFits fs → AreFramesOf (flat_map frame_bytes fs) fs []
