-- The loop that makes feeds of groups.
use Rattle.std.proofs.Common.{◌≡◌, ◌+◌, ◌≤◌, ◌++◌, map, length, vec_len, vec_capacity}
use Rattle.btr_live.specs.SharedLanes.{shared_feeds}
use Rattle.btr_live.proofs.live.wrap.Given as goal

-- the groups up to here are feeds, and there is room for the others
abbrev pub invariant-loop-groups : goal.invariant-loop-groups
invariant-loop-groups g l = record {
  split : l.yielded ++ l.groups-iterator.rest.items ≡ l.fn.groups.items;
  made : l.feeds.items ≡ map shared_feeds l.yielded;
  room : vec_len l.feeds + length l.groups-iterator.rest.items ≤ vec_capacity l.feeds;
}
