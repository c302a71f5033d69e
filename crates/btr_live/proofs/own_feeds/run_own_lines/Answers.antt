-- Each line is one more of those that ran.
use Rattle.std.proofs.Common.{◌≡◌, ◌∙◌, subst, ap, sym, [], ◌∷◌, ◌++◌, length, arith, List}
use Rattle.btr_text.specs.declared.reply.LineReply.{LineReply}
use Rattle.btr_jobs.specs.Jobs.{Does}
use Rattle.btr_jobs.proofs.DoesLemmas.{does_none}
use Rattle.btr_live.specs.Feeds.{FeedsValue, none_waiting, waiting_of}
use Rattle.btr_live.specs.Running.{RunsTo, RanTo}
use Rattle.btr_live.proofs.LaneLemmas.{runs_none, split-push}
use Rattle.btr_live.proofs.own_feeds.run_own_lines.Goals as goal

pub loop-line-init : goal.loop-line-init
loop-line-init g c = record {
  split = c.into_iter-line-iterator.ensures.into_iter_gives.0;
  batch = ap (λ (f : FeedsValue). f.batch) c.new-feeds.ensures;
  at = c.requires.at;
  room =
      let rest = ap length c.into_iter-line-iterator.ensures.into_iter_gives.0 in
      let none = ap length c.requires.empty in
      omega (arith, rest, none, c.requires.room, c.args.lines.ok.0, c.args.replies.now.ok.0);
  runs = subst (λ (f : FeedsValue). Does c.args.hall.now c.args.session.now c.args.session.now (λ start log low own. RunsTo c.args.batch start log low [] c.args.replies.now.items own (waiting_of f))) (sym c.new-feeds.ensures)
      (subst (λ (rs : List LineReply). Does c.args.hall.now c.args.session.now c.args.session.now (λ start log low own. RunsTo c.args.batch start log low [] rs own none_waiting)) (sym c.requires.empty)
      (does_none c.args.hall.now c.args.session.now (λ start log low own. RunsTo c.args.batch start log low [] [] own none_waiting) (λ start log. runs_none c.args.batch start log)));
}

pub loop-line-preserved : goal.loop-line-preserved
loop-line-preserved g c =
    let before = c.loop-line.invariant in
    let after = waiting_of c.answer_next-reply.new.feeds in
    let reply = c.answer_next-reply.result in
    let line = c.in-Some.line in
    record {
      split = split-push c.loop-line.yielded c.loop-line.line-iterator.rest.items c.next.new.self.rest.items c.args.lines.items line before.split c.in-Some.ensures.steps.0;
      batch = c.answer_next-reply.ensures.batch ∙ before.batch;
      at = c.answer_next-reply.ensures.at;
      room =
          let rest = ap length c.in-Some.ensures.steps.0 in
          omega (arith, rest, before.room, c.push_back_reserved.ensures.len, c.push_back_reserved.ensures.capacity);
      runs = subst (λ (rs : List LineReply). RanTo c.args.batch c.args.hall.now c.args.session.now c.answer_next-reply.new.session (c.loop-line.yielded ++ line ∷ []) rs after) (sym c.push_back_reserved.ensures.items)
          (subst (λ b. RanTo b c.args.hall.now c.args.session.now c.answer_next-reply.new.session (c.loop-line.yielded ++ line ∷ []) (c.loop-line.replies.items ++ reply ∷ []) after) before.batch
          (c.answer_next-reply.ensures.next c.args.session.now c.loop-line.yielded c.loop-line.replies.items
          (subst (λ b. RanTo b c.args.hall.now c.args.session.now c.loop-line.session c.loop-line.yielded c.loop-line.replies.items (waiting_of c.loop-line.feeds)) (sym before.batch) before.runs)));
    }
