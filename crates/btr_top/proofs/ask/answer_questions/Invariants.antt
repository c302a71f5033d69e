-- The loop over the lines of a list of questions.
use Rattle.std.proofs.Common.{◌≡◌, ◌++◌, List}
use Rattle.btr_hist.specs.declared.entry.Entry.{Entry}
use Rattle.btr_streams.specs.Snapshot.{IsSnapshotOf}
use Rattle.btr_top.specs.Ask.{HasAnswered, RepliesEach}
use Rattle.btr_top.proofs.ask.answer_questions.Given as goal

-- the lines up to here were answered, and the others are left
abbrev pub invariant-loop-line : goal.invariant-loop-line
invariant-loop-line l = record {
  split : l.yielded ++ l.line-iterator.rest.items ≡ l.fn.lines.items;
  has_answered : (h : List Entry) → IsSnapshotOf h l.fn.snapshot → HasAnswered h l.yielded l.transcript;
  has_replied : RepliesEach l.yielded l.transcript;
}
