-- Lines of feeds: what they ask for, and the points that wait after their reply.
use Rattle.std.specs.Prelude.{◌≡◌, ◌⊎◌, ℕ, ◌==◌, Bool, true, false, List, [], ◌∷◌, ◌++◌, length, Option, Some, None, option_map, Result, Ok, Err}
use Rattle.std.specs.Option.{is_some}
use Rattle.std.proofs.Common.{refl, sym, ◌∙◌, ap, inl, inr, ⊎_elim, arith}
use Rattle.std.proofs.lemmas.Bool.{eqb-true}
use Rattle.btr_base.specs.declared.point.Point.{Point}
use Rattle.btr_base.specs.Bag.{sort}
use Rattle.btr_base.proofs.PointLemmas.{sort-sort}
use Rattle.btr_feed.specs.Feed.{held, insert_fault, FailsBy}
use Rattle.btr_feed.specs.declared.feed.Held.{Held}
use Rattle.btr_feed.specs.declared.feed.Held.TheVariants.{Buffered, Due}
use Rattle.btr_feed.specs.declared.feed.FeedFault.{FeedFault}
use Rattle.btr_feed.specs.declared.feed.FeedFault.TheVariants.{Want}
use Rattle.btr_hist.specs.declared.entry.Entry.{Entry}
use Rattle.btr_hist.specs.declared.kernel.Spec.{Spec}
use Rattle.btr_hist.specs.History.{stream_of, spec_of, is_output}
use Rattle.btr_text.specs.declared.script.Line.{Line}
use Rattle.btr_text.specs.declared.script.Line.TheVariants as lines
use Rattle.btr_text.specs.declared.reply.LineReply.{LineReply}
use Rattle.btr_text.specs.declared.reply.LineReply.TheVariants as replies
use Rattle.btr_text.specs.declared.reply.Reason.TheVariants as reasons
use Rattle.btr_live.specs.Feeds.{Waiting, with_points, feed_of, fed}
use Rattle.btr_live.specs.Meaning.{Meaning, Holds, Refuses, on_stream, if_plain, insert_points, when_due, reason_of_fault, unless_fault, feed, flush, meaning}
use Rattle.btr_live.specs.Replies.{points_after, left_over, waiting_after, Means}
use Rattle.btr_live.specs.Serving.{LineAsks, AddsPoints}
use Rattle.btr_live.proofs.WaitingLemmas.{at_stream, with_points-own, with_points-twice}

-- ---- the points that wait after a commit

left_over-sort : (points : List Point) (reply : LineReply) → left_over (sort points) reply ≡ left_over points reply
left_over-sort points (replies.Done version) = refl
left_over-sort points (replies.Held count) = sort-sort points
left_over-sort points (replies.Ticket ticket) = sort-sort points
left_over-sort points (replies.Found version rows) = sort-sort points
left_over-sort points (replies.No reason) = sort-sort points

-- all points were added before the commit
pub due_waits : (w mid after : Waiting) (stream : ℕ) (all : List Point) (reply : LineReply) → mid ≡ with_points stream all w → after ≡ with_points stream (left_over (mid stream) reply) mid → after ≡ with_points stream (left_over all reply) w
due_waits w mid after stream all reply mid_is after_is =
    after_is
    ∙ ap (λ (v : Waiting). with_points stream (left_over (v stream) reply) v) mid_is
    ∙ ap (λ (ps : List Point). with_points stream (left_over ps reply) (with_points stream all w)) (at_stream stream all w)
    ∙ with_points-twice stream all (left_over all reply) w

-- all points were taken out before the commit
pub committed_waits : (w mid after : Waiting) (stream : ℕ) (taken sorted : List Point) (reply : LineReply) → mid ≡ with_points stream [] w → after ≡ with_points stream (left_over sorted reply) mid → sorted ≡ sort taken → taken ≡ w stream → after ≡ with_points stream (left_over (w stream) reply) w
committed_waits w mid after stream taken sorted reply mid_is after_is sorted_is taken_is =
    after_is
    ∙ ap (λ (v : Waiting). with_points stream (left_over sorted reply) v) mid_is
    ∙ with_points-twice stream [] (left_over sorted reply) w
    ∙ ap (λ (ps : List Point). with_points stream ps w)
    (ap (λ (ps : List Point). left_over ps reply) (sorted_is ∙ ap (λ (ps : List Point). sort ps) taken_is) ∙ left_over-sort (w stream) reply)

-- ---- kinds of streams

pub output_is : (h : List Entry) (stream : ℕ) (spec : Spec) → spec_of h stream ≡ Some spec → is_output h stream ≡ true
output_is h stream spec is = ap is_some is

pub plain_is : (h : List Entry) (stream : ℕ) → spec_of h stream ≡ None → is_output h stream ≡ false
plain_is h stream is = ap is_some is

-- ---- lines

module _ (batch : ℕ) (h : List Entry) (w : Waiting) where
  -- a line that changes no feed
  pub plain_line : (line : Option Line) (m : Meaning) (reply : LineReply) → fed h w line ≡ None → Means batch h w line m → LineAsks batch w line reply w h m
  plain_line line m reply none means = (means, ap (λ f. waiting_after w f m reply) (sym none))

  -- a line of a feed
  pub feed_line : (line : Option Line) (stream : ℕ) (all : List Point) (m : Meaning) (reply : LineReply) (after : Waiting) → Means batch h w line m → fed h w line ≡ Some (stream, all) → after ≡ with_points stream (points_after m reply (w stream) all) w → LineAsks batch w line reply after h m
  feed_line line stream all m reply after means there waiting = (means, waiting ∙ ap (λ f. waiting_after w f m reply) (sym there))

  -- ---- feed

  pub feed_no_stream : (id : ℕ) (added : List Point) (reply : LineReply) → stream_of h id ≡ None → LineAsks batch w (Some (lines.Feed id added)) reply w h (Refuses reasons.Stream)
  feed_no_stream id added reply none =
      plain_line (Some (lines.Feed id added)) (Refuses reasons.Stream) reply
      (ap (λ (o : Option ℕ). option_map (λ s. (s, w s ++ added)) o) none)
      (inl (sym (ap (λ (o : Option ℕ). on_stream o (λ s. if_plain (is_output h s) (feed batch s (w s) added))) none)))

  -- a line that feeds points to a stream that is there asks for this
  feed_means : (id stream : ℕ) (added : List Point) (output : Bool) → stream_of h id ≡ Some stream → is_output h stream ≡ output → meaning batch h w (Some (lines.Feed id added)) ≡ if_plain output (feed batch stream (w stream) added)
  feed_means id stream added output is kind =
      ap (λ o. on_stream o (λ s. if_plain (is_output h s) (feed batch s (w s) added))) is
      ∙ ap (λ t. if_plain t (feed batch stream (w stream) added)) kind

  fed_points : (id stream : ℕ) (added : List Point) → stream_of h id ≡ Some stream → fed h w (Some (lines.Feed id added)) ≡ Some (stream, w stream ++ added)
  fed_points id stream added is = ap (λ o. option_map (λ s. (s, w s ++ added)) o) is

  -- an output takes no points
  pub feed_output : (id stream : ℕ) (added : List Point) (reply : LineReply) → stream_of h id ≡ Some stream → is_output h stream ≡ true → LineAsks batch w (Some (lines.Feed id added)) reply w h (Refuses reasons.Output)
  feed_output id stream added reply is output =
      feed_line (Some (lines.Feed id added)) stream (w stream ++ added) (Refuses reasons.Output) reply w
      (inl (sym (feed_means id stream added true is output)))
      (fed_points id stream added is)
      (with_points-own stream w)

  pub line_added : (id stream : ℕ) (added : List Point) (m : Meaning) (reply : LineReply) (after : Waiting) → stream_of h id ≡ Some stream → is_output h stream ≡ false → AddsPoints batch w stream added m reply after → LineAsks batch w (Some (lines.Feed id added)) reply after h m
  line_added id stream added m reply after is plain adds =
      feed_line (Some (lines.Feed id added)) stream (w stream ++ added) m reply after
      (⊎_elim
      (λ asked. inl (asked ∙ sym (feed_means id stream added false is plain)))
      (λ lacks. inr ((stream, is, plain, lacks.0), lacks.1))
      adds.means)
      (fed_points id stream added is)
      adds.waiting

  -- ---- flush and discard

  pub flush_no_stream : (id : ℕ) (reply : LineReply) → stream_of h id ≡ None → LineAsks batch w (Some (lines.Flush id)) reply w h (Refuses reasons.Stream)
  flush_no_stream id reply none =
      plain_line (Some (lines.Flush id)) (Refuses reasons.Stream) reply
      (ap (λ (o : Option ℕ). option_map (λ s. (s, w s)) o) none)
      (inl (sym (ap (λ (o : Option ℕ). on_stream o (λ s. if_plain (is_output h s) (flush s (w s)))) none)))

  flush_means : (id stream : ℕ) (output : Bool) → stream_of h id ≡ Some stream → is_output h stream ≡ output → meaning batch h w (Some (lines.Flush id)) ≡ if_plain output (flush stream (w stream))
  flush_means id stream output is kind =
      ap (λ o. on_stream o (λ s. if_plain (is_output h s) (flush s (w s)))) is
      ∙ ap (λ t. if_plain t (flush stream (w stream))) kind

  flushed_points : (id stream : ℕ) → stream_of h id ≡ Some stream → fed h w (Some (lines.Flush id)) ≡ Some (stream, w stream)
  flushed_points id stream is = ap (λ o. option_map (λ s. (s, w s)) o) is

  -- no points wait for an output
  pub flush_output : (id stream : ℕ) (reply : LineReply) → stream_of h id ≡ Some stream → is_output h stream ≡ true → LineAsks batch w (Some (lines.Flush id)) reply w h (Refuses reasons.Output)
  flush_output id stream reply is output =
      feed_line (Some (lines.Flush id)) stream (w stream) (Refuses reasons.Output) reply w
      (inl (sym (flush_means id stream true is output)))
      (flushed_points id stream is)
      (with_points-own stream w)

  flush_of_none : (stream : ℕ) (points : List Point) → (length points == 0) ≡ true → flush stream points ≡ Refuses reasons.Empty
  flush_of_none stream [] is = refl
  flush_of_none stream (p ∷ ps) is = absurd (omega (arith, eqb-true (length (p ∷ ps)) 0 is))

  flush_of_some : (stream : ℕ) (points : List Point) → (length points == 0) ≡ false → flush stream points ≡ insert_points stream points
  flush_of_some stream [] is = absurd (cc)
  flush_of_some stream (p ∷ ps) is = refl

  pub flush_none : (id stream : ℕ) (reply : LineReply) → stream_of h id ≡ Some stream → is_output h stream ≡ false → (length (w stream) == 0) ≡ true → LineAsks batch w (Some (lines.Flush id)) reply w h (Refuses reasons.Empty)
  flush_none id stream reply is plain none =
      feed_line (Some (lines.Flush id)) stream (w stream) (Refuses reasons.Empty) reply w
      (inl (sym (flush_means id stream false is plain ∙ flush_of_none stream (w stream) none)))
      (flushed_points id stream is)
      (with_points-own stream w)

  pub flush_some : (id stream : ℕ) (reply : LineReply) (after : Waiting) → stream_of h id ≡ Some stream → is_output h stream ≡ false → (length (w stream) == 0) ≡ false → after ≡ with_points stream (left_over (w stream) reply) w → LineAsks batch w (Some (lines.Flush id)) reply after h (insert_points stream (w stream))
  flush_some id stream reply after is plain some waiting =
      feed_line (Some (lines.Flush id)) stream (w stream) (insert_points stream (w stream)) reply after
      (inl (sym (flush_means id stream false is plain ∙ flush_of_some stream (w stream) some)))
      (flushed_points id stream is)
      waiting

  pub discard_no_stream : (id : ℕ) (reply : LineReply) → stream_of h id ≡ None → LineAsks batch w (Some (lines.Discard id)) reply w h (Refuses reasons.Stream)
  discard_no_stream id reply none =
      plain_line (Some (lines.Discard id)) (Refuses reasons.Stream) reply
      (ap (λ (o : Option ℕ). option_map (λ s. (s, [])) o) none)
      (inl (sym (ap (λ (o : Option ℕ). on_stream o (λ s. Holds 0)) none)))

  pub discarded : (id stream : ℕ) (reply : LineReply) (after : Waiting) → stream_of h id ≡ Some stream → after ≡ with_points stream [] w → LineAsks batch w (Some (lines.Discard id)) reply after h (Holds 0)
  discarded id stream reply after is waiting =
      feed_line (Some (lines.Discard id)) stream [] (Holds 0) reply after
      (inl (sym (ap (λ o. on_stream o (λ s. Holds 0)) is)))
      (ap (λ o. option_map (λ s. (s, [])) o) is)
      waiting

-- ---- points that are added to a feed

-- the feed accepts the points
no_fault : (fault : Option FeedFault) (result : Result Held FeedFault) (h : Held) → FailsBy fault result → result ≡ Ok h → fault ≡ None
no_fault None result h fails is = refl
no_fault (Some fault) result h fails is = absurd (cc)

-- the feed does not accept the points
some_fault : (fault : Option FeedFault) (result : Result Held FeedFault) (e : FeedFault) → FailsBy fault result → result ≡ Err e → (fault ≡ Some e) ⊎ ((fault ≡ None) × (e ≡ Want))
some_fault None (Ok h) e fails is = absurd (cc)
some_fault None (Err f) e fails is = inr (refl, cc)
some_fault (Some fault) result e fails is = inl (cc)

module _ (batch : ℕ) (w : Waiting) (stream : ℕ) (added : List Point) (result : Result Held FeedFault) (fails : FailsBy (insert_fault (feed_of batch stream (w stream)) added) result) where
  asked_if : (due : Held) → insert_fault (feed_of batch stream (w stream)) added ≡ None → due ≡ held (feed_of batch stream (w stream ++ added)) → feed batch stream (w stream) added ≡ when_due stream (w stream ++ added) due
  asked_if due none is =
      ap (λ f. unless_fault f (when_due stream (w stream ++ added) (held (feed_of batch stream (w stream ++ added))))) none
      ∙ ap (λ d. when_due stream (w stream ++ added) d) (sym is)

  pub added_held : (count : ℕ) (reply : LineReply) (after : Waiting) → result ≡ Ok (Buffered count) → Buffered count ≡ held (feed_of batch stream (w stream ++ added)) → after ≡ with_points stream (w stream ++ added) w → AddsPoints batch w stream added (Holds count) reply after
  added_held count reply after is due waiting = record {
    means = inl (sym (asked_if (Buffered count) (no_fault (insert_fault (feed_of batch stream (w stream)) added) result (Buffered count) fails is) due));
    waiting = waiting;
  }

  pub added_due : (count : ℕ) (reply : LineReply) (after : Waiting) → result ≡ Ok (Due count) → Due count ≡ held (feed_of batch stream (w stream ++ added)) → after ≡ with_points stream (left_over (w stream ++ added) reply) w → AddsPoints batch w stream added (insert_points stream (w stream ++ added)) reply after
  added_due count reply after is due waiting = record {
    means = inl (sym (asked_if (Due count) (no_fault (insert_fault (feed_of batch stream (w stream)) added) result (Due count) fails is) due));
    waiting = waiting;
  }

  pub added_fault : (fault : FeedFault) (reply : LineReply) (after : Waiting) → result ≡ Err fault → after ≡ with_points stream (w stream) w → AddsPoints batch w stream added (Refuses (reason_of_fault fault)) reply after
  added_fault fault reply after is waiting = record {
    means = ⊎_elim
        (λ some. inl (sym (ap (λ f. unless_fault f (when_due stream (w stream ++ added) (held (feed_of batch stream (w stream ++ added))))) some)))
        (λ none. inr (none.0, ap (λ f. Refuses (reason_of_fault f)) none.1))
        (some_fault (insert_fault (feed_of batch stream (w stream)) added) result fault fails is);
    waiting = waiting;
  }
