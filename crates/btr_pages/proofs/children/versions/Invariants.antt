use Rattle.std.proofs.Common.{◌≡◌, length, take}
use Rattle.btr_pages.specs.Made.{versions_of}
use Rattle.btr_pages.proofs.children.versions.Given as goal

-- The versions so far are those of the slots.
abbrev pub invariant-loop-i : goal.invariant-loop-i
invariant-loop-i l = (length l.versions ≡ 64) × (take l.i l.versions ≡ take l.i (versions_of l.slots))
