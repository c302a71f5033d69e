-- Lists that begin with another list.
use Rattle.std.specs.Prelude.{◌≡◌, nat_lt, List, ◌++◌, length, if◌then◌else◌}

-- A list begins with another: it is the other with more items after it, or none.
abbrev pub StartsWith : {A : Type 0} → List A → List A → Type 0
StartsWith {A = A} l start = (rest : List A) × (l ≡ start ++ rest)

-- The second list if it is longer than the first, else the first.
abbrev pub longer : {A : Type 0} → List A → List A → List A
longer a b = if nat_lt (length a) (length b) then b else a
