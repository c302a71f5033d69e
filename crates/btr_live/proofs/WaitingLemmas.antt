-- The points that wait, after one feed has changed, and the points of feeds in memory.
use Rattle.std.specs.Prelude.{Result, Ok, Err, OnErr, ◌≡◌, ◌≢◌, ℕ, zero, suc, ◌<◌, ◌≤◌, ◌==◌, true, false, cond, List, [], ◌∷◌, ◌++◌, length, set, slice_get, Some}
use Rattle.std.proofs.Common.{refl, sym, ap, ◌∙◌, arith, eq-eqb}
use Rattle.std.proofs.lemmas.Bool.{eqb-true, eqb-false, ne_eqb}
use Rattle.std.proofs.lemmas.Option.{slice_get_past}
use Rattle.btr_base.specs.declared.point.Point.{Point}
use Rattle.btr_board.proofs.ListLemmas.{set-same, set-other, push-same, push-other}
use Rattle.btr_feed.specs.Feed.{FeedValue}
use Rattle.btr_live.specs.Feeds.{Waiting, with_points, FeedsValue, feed_points, waiting_of, HaveThreshold, KeepsFeeds}

-- ---- the points of streams

pub same_waiting : (w v : Waiting) → ((stream : ℕ) → w stream ≡ v stream) → w ≡ v
same_waiting w v each = λ i stream. each stream i

pub at_stream : (stream : ℕ) (points : List Point) (w : Waiting) → with_points stream points w stream ≡ points
at_stream stream points w = ap (λ t. cond t points (w stream)) (eq-eqb stream stream refl)

pub at_other : (stream other : ℕ) (points : List Point) (w : Waiting) → other ≢ stream → with_points stream points w other ≡ w other
at_other stream other points w ne = ap (λ t. cond t points (w other)) (ne_eqb other stream ne)

-- what has the points at the stream, and elsewhere what waited, is what waits with these points
with_points-is : (stream : ℕ) (points : List Point) (w : Waiting) (other : ℕ) (r : List Point) → (other ≡ stream → r ≡ points) → (other ≢ stream → r ≡ w other) → r ≡ with_points stream points w other
with_points-is stream points w other r same differs =
    elim (other == stream) as (λ t. (other == stream) ≡ t → r ≡ cond t points (w other)) [
      | true ↦ λ is. same (eqb-true other stream is)
      | false ↦ λ is. differs (eqb-false other stream is)
    ] refl

-- the last points of a stream count
pub with_points-twice : (stream : ℕ) (first second : List Point) (w : Waiting) → with_points stream second (with_points stream first w) ≡ with_points stream second w
with_points-twice stream first second w =
    same_waiting (with_points stream second (with_points stream first w)) (with_points stream second w) (λ other.
    with_points-is stream second w other (with_points stream second (with_points stream first w) other)
    (λ e. ap (with_points stream second (with_points stream first w)) e ∙ at_stream stream second (with_points stream first w))
    (λ ne. at_other stream other second (with_points stream first w) ne ∙ at_other stream other first w ne))

-- the points of a stream that wait already
pub with_points-own : (stream : ℕ) (w : Waiting) → w ≡ with_points stream (w stream) w
with_points-own stream w =
    same_waiting w (with_points stream (w stream) w) (λ other. with_points-is stream (w stream) w other (w other) (λ e. ap w e) (λ ne. refl))

-- ---- feeds in memory

pub waiting-set : (batch : ℕ) (feeds : List FeedValue) (stream : ℕ) (feed : FeedValue) → stream < length feeds → waiting_of (record { batch = batch; feeds = set feeds stream feed }) ≡ with_points stream feed.points (waiting_of (record { batch = batch; feeds = feeds }))
waiting-set batch feeds stream feed low =
    let old : Waiting = λ other. feed_points (slice_get feeds other) in
    let new : Waiting = λ other. feed_points (slice_get (set feeds stream feed) other) in
    same_waiting new (with_points stream feed.points old) (λ other.
    with_points-is stream feed.points old other (new other)
    (λ e. ap new e ∙ ap feed_points (set-same feeds stream feed low))
    (λ ne. ap feed_points (set-other feeds stream feed other ne)))

pub waiting-push : (batch : ℕ) (feeds : List FeedValue) (stream : ℕ) (feed : FeedValue) → length feeds ≡ stream → waiting_of (record { batch = batch; feeds = feeds ++ feed ∷ [] }) ≡ with_points stream feed.points (waiting_of (record { batch = batch; feeds = feeds }))
waiting-push batch feeds stream feed is =
    let old : Waiting = λ other. feed_points (slice_get feeds other) in
    let new : Waiting = λ other. feed_points (slice_get (feeds ++ feed ∷ []) other) in
    same_waiting new (with_points stream feed.points old) (λ other.
    with_points-is stream feed.points old other (new other)
    (λ e. ap new (e ∙ sym is) ∙ ap feed_points (push-same feeds feed))
    (λ ne. ap feed_points (push-other feeds feed other (λ e. ne (e ∙ is)))))

-- no points wait for a stream after the last feed
pub waiting-past : (feeds : List FeedValue) (stream : ℕ) → length feeds ≤ stream → feed_points (slice_get feeds stream) ≡ []
waiting-past feeds stream high = ap feed_points (slice_get_past feeds stream high)

-- a feed without points is the same as none
pub waiting-push_empty : (f : FeedsValue) (feed : FeedValue) → feed.points ≡ [] → waiting_of (record f { feeds = f.feeds ++ feed ∷ [] }) ≡ waiting_of f
waiting-push_empty f feed empty =
    let w : Waiting = waiting_of f in
    let stream : ℕ = length f.feeds in
    waiting-push f.batch f.feeds stream feed refl
    ∙ ap (λ (ps : List Point). with_points stream ps w) (empty ∙ sym (waiting-past f.feeds stream (omega arith)))
    ∙ sym (with_points-own stream w)

pub keeps_same : (old new : FeedsValue) (stream : ℕ) → waiting_of new ≡ waiting_of old → new.batch ≡ old.batch → KeepsFeeds (waiting_of old stream) stream old new
keeps_same old new stream same batch = record {
  waiting = same ∙ with_points-own stream (waiting_of old);
  batch = batch;
}

-- the first points of a stream are in a feed after all others
pub keeps_pushed : (points : List Point) (stream : ℕ) (old mid new : FeedsValue) (feed : FeedValue) → new ≡ record mid { feeds = mid.feeds ++ feed ∷ [] } → feed.points ≡ points → length mid.feeds ≡ stream → waiting_of mid ≡ waiting_of old → mid.batch ≡ old.batch → KeepsFeeds points stream old new
keeps_pushed points stream old mid new feed is has there same batch = record {
  waiting = ap (λ (f : FeedsValue). waiting_of f) is
      ∙ waiting-push mid.batch mid.feeds stream feed there
      ∙ ap (λ (ps : List Point). with_points stream ps (waiting_of mid)) has
      ∙ ap (λ (w : Waiting). with_points stream points w) same;
  batch = ap (λ (f : FeedsValue). f.batch) is ∙ batch;
}

-- ---- thresholds

threshold_of : (first feed : FeedValue) → Some first ≡ Some feed → feed.threshold ≡ first.threshold
threshold_of first feed is = cc

pub threshold-at : (batch : ℕ) (feeds : List FeedValue) (stream : ℕ) (feed : FeedValue) → HaveThreshold batch feeds → slice_get feeds stream ≡ Some feed → feed.threshold ≡ batch
threshold-at batch [] stream feed all is = absurd (cc)
threshold-at batch (first ∷ feeds) zero feed all is = threshold_of first feed is ∙ all.0
threshold-at batch (first ∷ feeds) (suc stream) feed all is = threshold-at batch feeds stream feed all.1 is

pub threshold-set : (batch : ℕ) (feeds : List FeedValue) (stream : ℕ) (feed : FeedValue) → HaveThreshold batch feeds → feed.threshold ≡ batch → HaveThreshold batch (set feeds stream feed)
threshold-set batch [] stream feed all is = tt
threshold-set batch (first ∷ feeds) zero feed all is = (is, all.1)
threshold-set batch (first ∷ feeds) (suc stream) feed all is = (all.0, threshold-set batch feeds stream feed all.1 is)

pub threshold-push : (batch : ℕ) (feeds : List FeedValue) (feed : FeedValue) → HaveThreshold batch feeds → feed.threshold ≡ batch → HaveThreshold batch (feeds ++ feed ∷ [])
threshold-push batch [] feed all is = (is, tt)
threshold-push batch (first ∷ feeds) feed all is = (all.0, threshold-push batch feeds feed all.1 is)

-- what holds either way holds on an error
pub on_err : {T E : Type 0} (result : Result T E) (P : Type 0) → P → OnErr result P
on_err (Ok x) P p = tt
on_err (Err e) P p = p
