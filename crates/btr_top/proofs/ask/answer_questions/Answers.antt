-- Each line is one more of those that were answered.
use Rattle.btr_top.proofs.LineLists.{split-push}
use Rattle.btr_top.proofs.AskedLines.{HasAnswered-push, RepliesEach-push}
use Rattle.btr_top.proofs.ask.answer_questions.Goals as goal

pub loop-line-preserved : goal.loop-line-preserved
loop-line-preserved c =
    let before = c.loop-line.invariant in record {
      split = split-push c.loop-line.yielded c.loop-line.line-iterator.rest.items c.next.new.self.rest.items c.args.lines.items c.in-Some.line before.split c.in-Some.ensures.steps.0;
      has_answered = λ h of. HasAnswered-push h c.loop-line.yielded c.in-Some.line c.loop-line.transcript c.ask_line.new.transcript (before.has_answered h of) (c.in_ok-ask_line.ensures.answers h of);
      has_replied = RepliesEach-push c.loop-line.yielded c.in-Some.line c.loop-line.transcript c.ask_line.new.transcript before.has_replied c.in_ok-ask_line.ensures.adds;
    }
