-- Each line is one more of those that ran.
use Rattle.std.proofs.Common.{◌≡◌, ◌⊎◌, ◌∙◌, refl, subst, ap, sym, ⊎_elim, [], ◌∷◌, ◌++◌, length, arith, List}
use Rattle.btr_text.specs.declared.reply.LineReply.{LineReply}
use Rattle.btr_jobs.specs.Jobs.{Does}
use Rattle.btr_jobs.proofs.DoesLemmas.{does_none, does_then}
use Rattle.btr_live.specs.Running.{RunsSharedTo}
use Rattle.btr_live.specs.Serving.{was_reported, ShareDone, UnsharedDone}
use Rattle.btr_live.proofs.ReportedLemmas.{has_failed, reported_failed}
use Rattle.btr_live.proofs.LaneLemmas.{split-push}
use Rattle.btr_live.proofs.SharedLemmas.{shared_none, push_shared, push_alone}
use Rattle.btr_live.proofs.shared_feeds.run_shared_lines.Goals as goal

pub loop-line-init : goal.loop-line-init
loop-line-init g c =
    let groups = g.G.Groups in
    let laws = g.met.G.Groups in
    let was = c.args.groups.now in record {
      split = c.into_iter-line-iterator.ensures.into_iter_gives.0;
      at = c.requires.at;
      room =
          let rest = ap length c.into_iter-line-iterator.ensures.into_iter_gives.0 in
          let none = ap length c.requires.empty in
          omega (arith, rest, none, c.requires.room, c.args.lines.ok.0, c.args.replies.now.ok.0);
      later = laws.later_same was;
      has = refl;
      threshold = refl;
      runs = subst (λ (rs : List LineReply). Does c.args.hall.now c.args.session.now c.args.session.now (λ start log low own. RunsSharedTo (groups.has_group was) (groups.threshold was) (groups.view_at was) (groups.view_at was) start log low [] rs own)) (sym c.requires.empty)
          (does_none c.args.hall.now c.args.session.now (λ start log low own. RunsSharedTo (groups.has_group was) (groups.threshold was) (groups.view_at was) (groups.view_at was) start log low [] [] own) (λ start log. shared_none (groups.has_group was) (groups.threshold was) (groups.view_at was) start log));
    }

pub loop-line-preserved : goal.loop-line-preserved
loop-line-preserved g c =
    let groups = g.G.Groups in
    let laws = g.met.G.Groups in
    let before = c.loop-line.invariant in
    let first = c.args.groups.now in
    let was = c.loop-line.groups in
    let now = c.answer_shared_line-reply.new.groups in
    let reply = c.answer_shared_line-reply.result in
    let line = c.in-Some.line in
    let hall = c.args.hall.now in
    let reported = c.loop-line.replies.items in
    let seen = was_reported hall c.loop-line.session in
    record {
      split = split-push c.loop-line.yielded c.loop-line.line-iterator.rest.items c.next.new.self.rest.items c.args.lines.items line before.split c.in-Some.ensures.steps.0;
      at = c.answer_shared_line-reply.ensures.at;
      room =
          let rest = ap length c.in-Some.ensures.steps.0 in
          omega (arith, rest, before.room, c.push_back_reserved.ensures.len, c.push_back_reserved.ensures.capacity);
      later = laws.later_twice first was now before.later c.answer_shared_line-reply.ensures.later;
      has = c.answer_shared_line-reply.ensures.groups ∙ before.has;
      threshold = c.answer_shared_line-reply.ensures.threshold ∙ before.threshold;
      runs = subst (λ (rs : List LineReply). Does hall c.args.session.now c.answer_shared_line-reply.new.session (λ start log low own. RunsSharedTo (groups.has_group first) (groups.threshold first) (groups.view_at first) (groups.view_at now) start log low (c.loop-line.yielded ++ line ∷ []) rs own)) (sym c.push_back_reserved.ensures.items)
          (does_then hall c.args.session.now c.loop-line.session c.answer_shared_line-reply.new.session
          (λ start log low own. RunsSharedTo (groups.has_group first) (groups.threshold first) (groups.view_at first) (groups.view_at was) start log low c.loop-line.yielded reported own × (seen ≡ has_failed start log))
          (λ start log low own. ShareDone groups log low was now line reply own ⊎ UnsharedDone groups start log seen low was now line reply own)
          (λ start log low own. RunsSharedTo (groups.has_group first) (groups.threshold first) (groups.view_at first) (groups.view_at now) start log low (c.loop-line.yielded ++ line ∷ []) (reported ++ reply ∷ []) own)
          c.answer_shared_line-reply.ensures.at
          (λ start late early low a b on starts ran done.
          ⊎_elim
          (λ shared. push_shared groups first was now start late early low c.loop-line.yielded reported line reply a b seen on ran.1 ran.0 before.has before.threshold shared)
          (λ alone. push_alone groups first was now start late early low c.loop-line.yielded reported line reply a b seen on ran.1 ran.0 before.has before.threshold alone)
          done)
          (before.runs.0, before.runs.1, λ h of. (before.runs.2 h of, reported_failed h hall c.loop-line.session))
          c.answer_shared_line-reply.ensures.line);
    }
