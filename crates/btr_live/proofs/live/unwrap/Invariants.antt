-- The loop that takes groups out of feeds.
use Rattle.std.proofs.Common.{◌≡◌, ◌+◌, ◌≤◌, ◌++◌, map, length, vec_len, vec_capacity}
use Rattle.btr_live.specs.SharedLanes.{shared_feeds}
use Rattle.btr_live.proofs.live.unwrap.Given as goal

-- the groups of the feeds up to here were taken, and there is room for the others
abbrev pub invariant-loop-feed : goal.invariant-loop-feed
invariant-loop-feed g l = record {
  split : l.yielded ++ l.feed-iterator.rest.items ≡ l.fn.feeds.items;
  made : map shared_feeds l.all.items ≡ l.yielded;
  room : vec_len l.all + length l.feed-iterator.rest.items ≤ vec_capacity l.all;
}
