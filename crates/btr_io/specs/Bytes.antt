-- What several calls do to the bytes of a source or a sink.
use Rattle.std.specs.Prelude.{ℕ, List, ◌≡◌, ◌++◌, ◌-◌, ◌<◌, ◌≤◌, length, take, drop}

-- The number of bytes that a source gave, from what it had left before and what it has left now.
abbrev pub gave : List ℕ → List ℕ → ℕ
gave before now = length before - length now

-- The source gave at most `most` bytes, and has the bytes after them left.
pub record Gives (most : ℕ) (before now : List ℕ) : Type 0 where
  pub bounded : gave before now ≤ most
  pub rest : now ≡ drop (gave before now) before

-- The sink took a prefix of a piece, but not all of it.
abbrev pub TookPart : List ℕ → List ℕ → List ℕ → Type 0
TookPart before piece now = (n : ℕ) × (n < length piece) × (now ≡ before ++ take n piece)
