-- The loop that takes memory for replies.
use Rattle.std.proofs.Common.{◌≡◌, ◌++◌, map}
use Rattle.btr_live.specs.Parts.{work_with}
use Rattle.btr_live.proofs.prepare.works_of.Given as goal

-- the lists up to here are lines of lanes
abbrev pub invariant-loop-lines : goal.invariant-loop-lines
invariant-loop-lines l = record {
  split : l.yielded ++ l.lines-iterator.rest.items ≡ l.fn.lists.items;
  made : l.works.items ≡ map work_with l.yielded;
}
