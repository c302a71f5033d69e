-- The part of a line that is held.
use Rattle.std.specs.Prelude.{◌≡◌, ℕ, Bool, true, false, ◌+◌, ◌<◌, List, [], ◌∷◌, ◌++◌, length}
use Rattle.btr_lines.specs.Lines.{HasNoFeed}

-- What follows the part of a line: its line feed and the rest, or nothing.
abbrev pub follows : Bool → List ℕ → List ℕ
follows true rest = 10 ∷ rest
follows false rest = []

-- A part without a line feed goes from the bytes that are held to the end of the line. A line feed ends it, or nothing is held after it.
pub record Takes (ended : Bool) (line held longer rest : List ℕ) : Type 0 where
  pub part : List ℕ
  pub no_feed : HasNoFeed part
  pub line_is : longer ≡ line ++ part
  pub held_is : held ≡ part ++ follows ended rest
  pub none : ended ≡ false → rest ≡ []

-- The line has more bytes than the limit, with a part of those that are held that has no line feed.
abbrev pub ExceedsLimit : ℕ → List ℕ → List ℕ → Type 0
ExceedsLimit limit line held =
    (part : List ℕ) × (rest : List ℕ) × HasNoFeed part × (held ≡ part ++ rest) × (limit < length line + length part)
