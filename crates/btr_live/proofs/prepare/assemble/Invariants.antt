-- The loop that puts lanes together.
use Rattle.std.proofs.Common.{◌≡◌, ◌+◌, ◌≤◌, ◌++◌, List, None, length, vec_len, vec_capacity}
use Rattle.btr_live.specs.Parts.{AreLanesOf}
use Rattle.btr_live.proofs.prepare.assemble.Given as goal

-- the lanes up to here have their feeds and lines, and there is room for the others
abbrev pub invariant-loop-work : goal.invariant-loop-work
invariant-loop-work g l = record {
  split : l.yielded ++ l.work-iterator.rest.items ≡ l.fn.works.items;
  feeds : (fs : List g.row.F.Denot) × (fs ++ l.feeds.rest.items ≡ l.fn.feeds.items) × (length fs ≡ length l.yielded)
      × AreLanesOf fs l.yielded None l.parts.items;
  room : vec_len l.parts + length l.work-iterator.rest.items + 1 ≤ vec_capacity l.parts;
}
