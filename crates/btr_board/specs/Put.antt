-- A partial function of numbers with the value at one number replaced.
use Rattle.std.specs.Prelude.{ℕ, ◌==◌, if◌then◌else◌, Option, Some}

-- The partial function that has x at i, and is f elsewhere.
unfoldable pub put_at : {X : Type 0} → ℕ → X → (ℕ → Option X) → ℕ → Option X
put_at i x f j = if j == i then Some x else f j
