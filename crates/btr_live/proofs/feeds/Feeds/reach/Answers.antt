-- One more empty feed changes nothing.
use Rattle.std.proofs.Common.{◌≡◌, [], ◌∷◌, length, ap, ◌∙◌, arith, length-append}
use Rattle.btr_feed.specs.Feed.{FeedValue}
use Rattle.btr_live.specs.Feeds.{FeedsValue, waiting_of}
use Rattle.btr_live.proofs.WaitingLemmas.{waiting-push_empty}
use Rattle.btr_live.proofs.feeds.Feeds.reach.Goals as goal

pub loop-number-preserved : goal.loop-number-preserved
loop-number-preserved c =
    let before = c.loop-number.invariant in
    let is = c.in_ok-push.ensures.feed in
    let empty : c.new-feed.result.points ≡ [] = ap (λ (f : FeedValue). f.points) c.new-feed.ensures in
    record {
      there = omega (arith, ap (λ (f : FeedsValue). length f.feeds) is, length-append c.loop-number.self.feeds (c.new-feed.result ∷ []), before.there);
      waiting = ap (λ (f : FeedsValue). waiting_of f) is ∙ waiting-push_empty c.loop-number.self c.new-feed.result empty ∙ before.waiting;
      batch = ap (λ (f : FeedsValue). f.batch) is ∙ before.batch;
    }
