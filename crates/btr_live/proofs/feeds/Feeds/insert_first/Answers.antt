-- The first points of a stream are in its feed, or nothing has changed.
use Rattle.std.proofs.Common.{ap, ◌∙◌, ◌++◌}
use Rattle.btr_feed.specs.Feed.{FeedValue}
use Rattle.btr_live.specs.Feeds.{FeedsValue, KeepsFeeds, waiting_of}
use Rattle.btr_live.proofs.WaitingLemmas.{on_err}
use Rattle.btr_live.proofs.WaitingLemmas.{keeps_same, keeps_pushed}
use Rattle.btr_live.proofs.feeds.Feeds.insert_first.Goals as goal

pub returns-in_err-reach-clause-err : goal.returns-in_err-reach-clause-err
returns-in_err-reach-clause-err c =
    on_err c.from_residual-in_err-reach.result (KeepsFeeds (waiting_of c.args.self.now c.args.stream) c.args.stream c.args.self.now c.reach.new.self)
    (keeps_same c.args.self.now c.reach.new.self c.args.stream c.in_err-reach.ensures.waiting c.in_err-reach.ensures.batch)

pub returns-in_err-push-clause-err : goal.returns-in_err-push-clause-err
returns-in_err-push-clause-err c =
    let is = c.in_err-push.ensures.err in
    on_err c.from_residual-in_err-push.result (KeepsFeeds (waiting_of c.args.self.now c.args.stream) c.args.stream c.args.self.now c.push.new.self)
    (keeps_same c.args.self.now c.push.new.self c.args.stream (ap (λ (f : FeedsValue). waiting_of f) is ∙ c.in_ok-reach.ensures.waiting) (ap (λ (f : FeedsValue). f.batch) is ∙ c.in_ok-reach.ensures.batch))

pub returns-clause-waiting : goal.returns-clause-waiting
returns-clause-waiting c =
    keeps_pushed c.args.points.now c.args.stream c.args.self.now c.reach.new.self c.push.new.self c.insert.new.self c.in_ok-push.ensures.feed
    (ap (λ (f : FeedValue). f.points) c.in_ok-held.ensures.points ∙ ap (λ (f : FeedValue). f.points ++ c.args.points.now) c.new-feed.ensures)
    c.in_ok-reach.ensures.there c.in_ok-reach.ensures.waiting c.in_ok-reach.ensures.batch
