-- The loop over the lines of a lane.
use Rattle.std.proofs.Common.{◌≡◌, ◌≤◌, ◌+◌, ◌++◌, length, deque_len, deque_capacity}
use Rattle.btr_jobs.specs.Jobs.{IsAt, Does}
use Rattle.btr_live.specs.Running.{RunsSharedTo}
use Rattle.btr_live.proofs.shared_feeds.run_shared_lines.Given as goal

-- the lines up to here ran, with the same buffers, and there is room for the replies to the others
abbrev pub invariant-loop-line : goal.invariant-loop-line
invariant-loop-line g l = record {
  split : l.yielded ++ l.line-iterator.rest.items ≡ l.fn.lines.items;
  at : IsAt l.fn.hall l.session;
  room : length l.line-iterator.rest.items + deque_len l.replies ≤ deque_capacity l.replies;
  later : g.G.Groups.later l.fn.groups l.groups;
  has : g.G.Groups.has_group l.groups ≡ g.G.Groups.has_group l.fn.groups;
  threshold : g.G.Groups.threshold l.groups ≡ g.G.Groups.threshold l.fn.groups;
  runs : Does l.fn.hall l.fn.session l.session (λ start log low own. RunsSharedTo (g.G.Groups.has_group l.fn.groups) (g.G.Groups.threshold l.fn.groups) (g.G.Groups.view_at l.fn.groups) (g.G.Groups.view_at l.groups) start log low l.yielded l.replies.items own);
}
