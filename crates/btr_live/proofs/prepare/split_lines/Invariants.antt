-- The loop over the lines of a script.
use Rattle.std.proofs.Common.{◌≡◌, ℕ, ◌++◌, length}
use Rattle.btr_live.specs.OneHistory.{lanes_of, lane_lines}
use Rattle.btr_live.specs.Parts.{list_at}
use Rattle.btr_live.proofs.prepare.split_lines.Given as goal

-- each list has the lines up to here of its lane
abbrev pub invariant-loop-line : goal.invariant-loop-line
invariant-loop-line l = record {
  split : l.yielded ++ l.line-iterator.rest.items ≡ l.fn.script.items;
  lanes : l.lanes.items ≡ lanes_of l.yielded;
  count : length l.lists.items ≡ 8;
  lines : (k : ℕ) → list_at l.lists.items k ≡ lane_lines k l.yielded;
}
