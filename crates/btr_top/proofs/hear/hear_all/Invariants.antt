-- The loop over the frames.
use Rattle.std.proofs.Common.{take}
use Rattle.btr_top.proofs.HeardLemmas.{HeardAll}
use Rattle.btr_top.proofs.hear.hear_all.Given as goal

-- the frames up to here were heard
abbrev pub invariant-loop-frame : goal.invariant-loop-frame
invariant-loop-frame g l = HeardAll (take l.frame-index l.frames) l.fn.follower l.follower l.counts
