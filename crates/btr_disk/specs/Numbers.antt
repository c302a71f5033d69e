-- Numbers as bytes, the highest byte first.
use Rattle.std.specs.Prelude.{ℕ, List, take, drop}
use Rattle.std.specs.Int.{w32, w64, from_be_bytes}

-- The number of four bytes from this index on.
abbrev pub u32_at : ℕ → List ℕ → ℕ
u32_at at bytes = from_be_bytes w32 (take 4 (drop at bytes))

-- The number of eight bytes from this index on.
abbrev pub u64_at : ℕ → List ℕ → ℕ
u64_at at bytes = from_be_bytes w64 (take 8 (drop at bytes))
