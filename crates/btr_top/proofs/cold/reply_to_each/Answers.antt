-- Each line is one more of those that were answered.
use Rattle.std.proofs.Common.{refl, ◌∙◌, subst, arith}
use Rattle.btr_top.specs.Cold.{RepliesCold}
use Rattle.btr_top.proofs.LineLists.{split-push}
use Rattle.btr_top.proofs.ColdReplies.{none_replied_cold, HasRepliedCold-push}
use Rattle.btr_top.proofs.cold.reply_to_each.Goals as goal

pub loop-line-init : goal.loop-line-init
loop-line-init g c =
    let nodes = g.N.Nodes in
    let now = c.args.nodes.now in record {
      split = c.into_iter-line-iterator.ensures.into_iter_gives.0;
      has_replied = none_replied_cold (RepliesCold nodes.is_observable (λ o. nodes.IsPage (nodes.contents now)) c.args.shelf.now) (nodes.faults now) c.no_replies-transcript.result c.no_replies-transcript.ensures;
      same = refl;
      rises = omega arith;
    }

pub loop-line-preserved : goal.loop-line-preserved
loop-line-preserved g c =
    let nodes = g.N.Nodes in
    let shelf = c.args.shelf.now in
    let now = c.args.nodes.now in
    let before = c.loop-line.invariant in
    let from = nodes.faults c.loop-line.nodes in
    let next = nodes.faults c.reply_line.new.nodes in
    let line = c.in-Some.line in
    let adds = c.in_ok-reply_line.ensures.adds in
    let P = RepliesCold nodes.is_observable (λ o. nodes.IsPage (nodes.contents now)) shelf in
    let one = subst (λ t. RepliesCold nodes.is_observable (λ o. nodes.IsPage t) shelf line.line from next adds.0) before.same adds.1 in record {
      split = split-push c.loop-line.yielded c.loop-line.line-iterator.rest.items c.next.new.self.rest.items c.args.lines.items line before.split c.in-Some.ensures.steps.0;
      has_replied = HasRepliedCold-push P (nodes.faults now) from next c.reply_line.ensures.rises c.loop-line.yielded line adds.0 c.loop-line.transcript c.reply_line.new.transcript before.has_replied one adds.2;
      same = c.reply_line.ensures.same ∙ before.same;
      rises = omega (arith, before.rises, c.reply_line.ensures.rises);
    }
