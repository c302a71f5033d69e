-- One line more is in the list of its lane.
use Rattle.std.proofs.Common.{sym, ap, ◌∙◌, ◌++◌, ◌∷◌, [], arith}
use Rattle.btr_live.specs.OneHistory.{of_lane}
use Rattle.btr_live.proofs.OrderLemmas.{script-push, lanes-push, lines-push, have-lane}
use Rattle.btr_live.proofs.prepare.split_lines.Goals as goal

pub put-requires : goal.put-requires
put-requires c =
    let low = have-lane c.loop-line.yielded c.loop-line.line-iterator.rest.items c.next.new.self.rest.items c.args.script.items c.in-Some.line c.requires.lanes c.loop-line.invariant.split c.in-Some.ensures.steps.0 in
    omega (arith, low, c.loop-line.invariant.count)

pub loop-line-preserved : goal.loop-line-preserved
loop-line-preserved c =
    let before = c.loop-line.invariant in
    let line = c.in-Some.line in
    record {
      split = script-push c.loop-line.yielded c.loop-line.line-iterator.rest.items c.next.new.self.rest.items c.args.script.items line before.split c.in-Some.ensures.steps.0;
      lanes = c.in_ok-push.ensures.items ∙ ap (λ l. l ++ line.lane ∷ []) before.lanes ∙ sym (lanes-push c.loop-line.yielded line);
      count = c.in_ok-put.ensures.count ∙ before.count;
      lines = λ k.
          c.in_ok-put.ensures.put k
          ∙ ap (λ l. l ++ of_lane k (line.lane ∷ []) (line.line ∷ [])) (before.lines k)
          ∙ sym (lines-push k c.loop-line.yielded line);
    }
