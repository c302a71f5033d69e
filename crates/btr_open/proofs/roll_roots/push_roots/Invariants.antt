use Rattle.std.proofs.Common.{◌≡◌, ◌++◌, take}
use Rattle.btr_open.specs.Checkpoint.{roots_in}
use Rattle.btr_open.proofs.roll_roots.push_roots.Given as goal

-- The roots of the versions so far were appended.
abbrev pub invariant-loop-version : goal.invariant-loop-version
invariant-loop-version l = l.roots.items ≡ l.fn.roots.items ++ roots_in l.limit (take l.version-index l.versions)
