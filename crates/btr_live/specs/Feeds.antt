-- The points that wait for a commit, in one feed for each stream.
use Rattle.std.specs.Prelude.{◌≡◌, ℕ, ◌==◌, List, [], ◌++◌, slice_get, if◌then◌else◌, Option, Some, None, option_map}
use Rattle.std.specs.List.{AllByRecursion}
use Rattle.btr_base.specs.declared.point.Point.{Point}
use Rattle.btr_feed.specs.Feed.{FeedValue}
use Rattle.btr_hist.specs.declared.entry.Entry.{Entry}
use Rattle.btr_hist.specs.declared.entry.Entry.TheVariants as entries
use Rattle.btr_hist.specs.History.{stream_of}
use Rattle.btr_text.specs.declared.script.Line.{Line}
use Rattle.btr_text.specs.declared.script.Line.TheVariants as lines

-- The points that wait for each stream, by its number.
abbrev pub Waiting : Type 0
Waiting = ℕ → List Point

-- No points wait.
abbrev pub none_waiting : Waiting
none_waiting = λ stream. []

-- These points wait for this stream; for each other stream the same as before.
abbrev pub with_points : ℕ → List Point → Waiting → Waiting
with_points stream points w = λ other. if other == stream then points else w other

-- The feed of a stream, with its points, which are due if there are as many as `batch`.
abbrev pub feed_of : ℕ → ℕ → List Point → FeedValue
feed_of batch stream points = record { stream = stream; threshold = batch; points = points }

-- The stream whose feed a line changes, and all points that the feed has in it, before any commit.
abbrev pub fed : List Entry → Waiting → Option Line → Option (ℕ × List Point)
fed h w (Some (lines.Feed id added)) = option_map (λ stream. (stream, w stream ++ added)) (stream_of h id)
fed h w (Some (lines.Flush id)) = option_map (λ stream. (stream, w stream)) (stream_of h id)
fed h w (Some (lines.Discard id)) = option_map (λ stream. (stream, [])) (stream_of h id)
fed h w line = None

-- The points that an entry adds.
abbrev pub added_of : Entry → List Point
added_of (entries.Create id) = []
added_of (entries.Define id spec) = []
added_of (entries.Commit stream cut added) = added
added_of (entries.Distillate stream cut added new) = added
added_of (entries.Retire stream first) = []

-- ---- feeds in memory

-- The feeds of the streams from 0 on. All have the same threshold.
pub record FeedsValue : Type 0 where
  pub batch : ℕ
  pub feeds : List FeedValue

-- The points of the feed that was looked up, if there is one.
abbrev pub feed_points : Option FeedValue → List Point
feed_points None = []
feed_points (Some feed) = feed.points

-- The points that wait for each stream.
abbrev pub waiting_of : FeedsValue → Waiting
waiting_of f = λ stream. feed_points (slice_get f.feeds stream)

-- Each feed has this threshold.
abbrev pub HaveThreshold : ℕ → List FeedValue → Type 0
HaveThreshold batch feeds = AllByRecursion (λ feed. feed.threshold ≡ batch) feeds

-- These points wait for the stream after a call. For each other stream, and of the threshold, all is as before.
pub record KeepsFeeds (points : List Point) (stream : ℕ) (old new : FeedsValue) : Type 0 where
  pub waiting : waiting_of new ≡ with_points stream points (waiting_of old)
  pub batch : new.batch ≡ old.batch
