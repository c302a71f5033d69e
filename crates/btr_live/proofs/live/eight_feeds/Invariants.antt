-- The loop that makes feeds.
use Rattle.std.specs.List.{AllByRecursion}
use Rattle.std.proofs.Common.{◌≡◌, length}
use Rattle.btr_live.proofs.live.eight_feeds.Given as goal

-- this many feeds were made
abbrev pub invariant-loop : goal.invariant-loop
invariant-loop l = record {
  count : length l.feeds.items ≡ l.counter;
  batch : AllByRecursion (λ f. f.batch ≡ l.fn.batch) l.feeds.items;
}
