-- The head's bytes from the pieces that are written one after another.
use Rattle.std.specs.Prelude.{◌≡◌, ℕ, List, ◌++◌, take}

pub assembled : (x1 x2 x3 x4 x5 x6 x7 x8 x9 p1 p2 p3 p4 p5 p6 p7 p8 p9 : List ℕ) → take 8 x1 ≡ p1 → take 12 x2 ≡ take 8 x1 ++ p2 → take 16 x3 ≡ take 12 x2 ++ p3 → take 24 x4 ≡ take 16 x3 ++ p4 → take 32 x5 ≡ take 24 x4 ++ p5 → take 40 x6 ≡ take 32 x5 ++ p6 → take 48 x7 ≡ take 40 x6 ++ p7 → take 56 x8 ≡ take 48 x7 ++ p8 → take 64 x9 ≡ take 56 x8 ++ p9 → take 64 x9 ≡ p1 ++ p2 ++ p3 ++ p4 ++ p5 ++ p6 ++ p7 ++ p8 ++ p9
assembled x1 x2 x3 x4 x5 x6 x7 x8 x9 p1 p2 p3 p4 p5 p6 p7 p8 p9 e1 e2 e3 e4 e5 e6 e7 e8 e9 = cc
