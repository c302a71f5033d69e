-- Facts on each of a list of moments.
use Rattle.std.specs.Prelude.{◌≡◌, List, ◌∷◌, ◌++◌}

-- `P` holds of each item of the list, together with the items before it.
abbrev pub EachAfter : {A : Type 0} → (List A → A → Type 0) → List A → Type 0
EachAfter {A} P items = (before : List A) (item : A) (after : List A) → items ≡ before ++ item ∷ after → P before item
