-- The loop over the lines of a lane.
use Rattle.std.proofs.Common.{◌≡◌, ◌≤◌, ◌+◌, ◌++◌, length, deque_len, deque_capacity}
use Rattle.btr_jobs.specs.Jobs.{IsAt}
use Rattle.btr_live.specs.Feeds.{waiting_of}
use Rattle.btr_live.specs.Running.{RanTo}
use Rattle.btr_live.proofs.own_feeds.run_own_lines.Given as goal

-- the lines up to here ran, and there is room for the replies to the others
abbrev pub invariant-loop-line : goal.invariant-loop-line
invariant-loop-line g l = record {
  split : l.yielded ++ l.line-iterator.rest.items ≡ l.fn.lines.items;
  batch : l.feeds.batch ≡ l.fn.batch;
  at : IsAt l.fn.hall l.session;
  room : length l.line-iterator.rest.items + deque_len l.replies ≤ deque_capacity l.replies;
  runs : RanTo l.fn.batch l.fn.hall l.fn.session l.session l.yielded l.replies.items (waiting_of l.feeds);
}
