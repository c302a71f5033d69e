-- The points that were taken out are those of the commit, in order.
use Rattle.std.proofs.Common.{ap, sym, ◌∙◌, subst, arith, List, [], length}
use Rattle.btr_base.specs.declared.point.Point.{Point}
use Rattle.btr_base.specs.Bag.{sort}
use Rattle.btr_base.specs.Point.{AreInDomain, InDomain}
use Rattle.btr_base.proofs.PointLemmas.{each-sort, length-sort, sort-sort}
use Rattle.btr_hist.specs.declared.entry.Entry.TheVariants.{Commit}
use Rattle.btr_live.specs.Feeds.{Waiting, waiting_of}
use Rattle.btr_live.specs.Meaning.{Commits}
use Rattle.btr_live.specs.Serving.{RepliesIn}
use Rattle.btr_live.proofs.WaitingLemmas.{at_stream}
use Rattle.btr_live.proofs.FeedLines.{committed_waits}
use Rattle.btr_live.proofs.feed_line.commit_feed.Goals as goal

pub keep_refused-requires-clause-empty : goal.keep_refused-requires-clause-empty
keep_refused-requires-clause-empty g c =
    ap (λ (w : Waiting). w c.args.stream) c.take-points.ensures.emptied.waiting ∙ at_stream c.args.stream [] (waiting_of c.args.feeds.now)

pub keep_refused-requires-clause-in_domain : goal.keep_refused-requires-clause-in_domain
keep_refused-requires-clause-in_domain g c =
    subst (λ (ps : List Point). AreInDomain ps) (sym (c.added_of.ensures ∙ c.from_points.ensures))
    (each-sort (λ p. InDomain p.time) c.take-points.result.items c.take-points.ensures.in_domain)

pub keep_refused-requires-clause-most : goal.keep_refused-requires-clause-most
keep_refused-requires-clause-most g c =
    let same = ap (λ (ps : List Point). length ps) (c.added_of.ensures ∙ c.from_points.ensures) in
    omega (arith, same, length-sort c.take-points.result.items, c.take-points.ensures.most)

pub keep_refused-requires-clause-in_order : goal.keep_refused-requires-clause-in_order
keep_refused-requires-clause-in_order g c =
    let same = c.added_of.ensures ∙ c.from_points.ensures in
    ap (λ (ps : List Point). sort ps) same ∙ sort-sort c.take-points.result.items ∙ sym same

pub returns-clause-waiting : goal.returns-clause-waiting
returns-clause-waiting g c = record {
  waiting = committed_waits (waiting_of c.args.feeds.now) (waiting_of c.take-points.new.self) (waiting_of c.keep_refused.new.feeds) c.args.stream c.take-points.result.items c.added_of.result c.commit-reply.result
      c.take-points.ensures.emptied.waiting c.keep_refused.ensures.waiting (c.added_of.ensures ∙ c.from_points.ensures) c.take-points.ensures.points;
  batch = c.keep_refused.ensures.batch ∙ c.take-points.ensures.emptied.batch;
}

pub returns-clause-replies : goal.returns-clause-replies
returns-clause-replies g c =
    let points = c.from_points.ensures ∙ ap (λ (ps : List Point). sort ps) c.take-points.ensures.points in
    let cut = c.none.ensures in
    subst (λ e. RepliesIn c.args.hall.now c.args.session.now c.commit-reply.new.session (Commits e) c.commit-reply.result)
    (λ i. Commit c.args.stream (cut i) (points i))
    c.commit-reply.ensures.replies
