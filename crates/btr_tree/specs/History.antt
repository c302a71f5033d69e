-- The history of a stream as plain data, newest commit first, and the points that it leaves.
use Rattle.std.specs.Prelude.{◌<◌, ℕ, ℤ, List, []}
use Rattle.btr_base.specs.declared.point.Point.{Point}
use Rattle.btr_base.specs.Range.{RangeValue}
use Rattle.btr_base.specs.Bag.{sort}
use Rattle.btr_base.specs.Commit as base

-- The version that a commit makes, the times whose points it removes, and the points that it then adds.
pub record Commit : Type 0 where
  pub version : ℕ
  pub cut : List RangeValue
  pub added : List Point

-- The past of a tree: a base, and the commits since. A base has points, and a date for each span, by its height and start:
-- the version that the span's node and slot have. A tree that is built from nodes read from a device has such a base.
pub data Past : Type 0 where
  Opened : List Point → (ℕ → ℤ → ℕ) → Past
  ◌▷◌ : Commit → Past → Past

infixr 65 ◌▷◌
-- The past of a stream that has no commit.
abbrev pub nothing : Past
nothing = Opened [] (λ height start. 0)

-- The points after a commit.
abbrev pub with_commit : Commit → List Point → List Point
with_commit c b = base.after b (record { cut = c.cut; added = c.added })

-- The points after a past.
abbrev pub bag : Past → List Point
bag (Opened b dates) = sort b
bag (c ▷ h) = with_commit c (bag h)

-- Each version of a past is older than this one.
abbrev pub IsBefore : ℕ → Past → Type 0
IsBefore version (Opened b dates) = (height : ℕ) (start : ℤ) → dates height start < version
IsBefore version (c ▷ h) = (c.version < version) × IsBefore version h
