use Rattle.std.proofs.Common.{◌≡◌, length, take, drop, map}
use Rattle.btr_work.specs.Refreshing.{filled}
use Rattle.btr_work.proofs.filling.fill.Given as goal

-- The lines so far are filled in. The others are as they were.
abbrev pub invariant-loop-line : goal.invariant-loop-line
invariant-loop-line l =
    (length l.lines ≡ length l.initial.lines) × (drop l.line-index l.lines ≡ drop l.line-index l.initial.lines)
    × (take l.line-index l.lines ≡ map (filled l.results) (take l.line-index l.initial.lines))
