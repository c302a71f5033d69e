-- The loop that takes the feeds out of lanes.
use Rattle.std.proofs.Common.{◌≡◌, ◌+◌, ◌≤◌, ◌++◌, length, vec_len, vec_capacity}
use Rattle.btr_live.specs.Parts.{feeds_of}
use Rattle.btr_live.proofs.prepare.take_feeds.Given as goal

-- the feeds of the lanes up to here were taken, and there is room for the others
abbrev pub invariant-loop-part : goal.invariant-loop-part
invariant-loop-part g l = record {
  taken : l.feeds.items ++ feeds_of l.part-iterator.rest.items ≡ feeds_of l.fn.parts.items;
  room : vec_len l.feeds + length (feeds_of l.part-iterator.rest.items) ≤ vec_capacity l.feeds;
}
