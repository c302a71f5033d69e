-- The numbers of entries: how often one is listed, which were given, rising lists of them, and the merge of two such lists.
use Rattle.std.specs.Prelude.{ℕ, ◌+◌, ◌<◌, ◌≤◌, Bool, ◌&&◌, nat_lt, nat_le, ◌==◌, List, [], ◌∷◌, if◌then◌else◌}

-- 1 for true, 0 for false.
abbrev pub one : Bool → ℕ
one b = if b then 1 else 0

-- The sum of f over a list.
abbrev pub total : {A : Type 0} → (A → ℕ) → List A → ℕ
total f [] = 0
total f (x ∷ xs) = f x + total f xs

-- How often a list has the number n.
abbrev pub times : ℕ → List ℕ → ℕ
times n ms = total (λ m. one (m == n)) ms

-- 1 if n is above `low` and at most `high`, else 0.
abbrev pub given : ℕ → ℕ → ℕ → ℕ
given low high n = one (nat_lt low n && nat_le n high)

-- Each number is above the one before it. The first is above `low`, and none is above `high`.
abbrev pub Climbs : ℕ → List ℕ → ℕ → Type 0
Climbs low [] high = Unit {0}
Climbs low (m ∷ ms) high = (low < m) × (m ≤ high) × Climbs m ms high

-- A rising list with m put in at its place.
abbrev pub placed : ℕ → List ℕ → List ℕ
placed m [] = m ∷ []
placed m (n ∷ ns) = if nat_lt n m then n ∷ placed m ns else m ∷ n ∷ ns

-- The numbers of two rising lists as one rising list.
abbrev pub merged : List ℕ → List ℕ → List ℕ
merged [] ns = ns
merged (m ∷ ms) ns = placed m (merged ms ns)
