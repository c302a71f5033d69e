-- The loop that makes empty feeds.
use Rattle.std.proofs.Common.{◌≡◌, length}
use Rattle.btr_live.specs.Feeds.{waiting_of}
use Rattle.btr_live.proofs.feeds.Feeds.reach.Given as goal

-- there is a feed for each stream before this one, and the same points wait as before
abbrev pub invariant-loop-number : goal.invariant-loop-number
invariant-loop-number l = record {
  there : length l.self.feeds ≡ l.number;
  waiting : waiting_of l.self ≡ waiting_of l.fn.self;
  batch : l.self.batch ≡ l.fn.self.batch;
}
