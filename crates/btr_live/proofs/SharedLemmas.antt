-- Lemmas on lanes with shared buffers: what their lines ask for, and one line more.
use Rattle.std.specs.Prelude.{◌≡◌, ◌⊎◌, ℕ, if◌then◌else◌, Bool, true, false, ◌||◌, List, [], ◌∷◌, ◌++◌, map, Option, None, Some}
use Rattle.std.proofs.Common.{refl, sym, ap, ◌∙◌, subst, inl, inr}
use Rattle.btr_disk.specs.declared.disk.Disk.{Ghosts}
use Rattle.btr_base.specs.declared.point.Point.{Point}
use Rattle.btr_hist.specs.declared.entry.Entry.{Entry}
use Rattle.btr_hist.specs.declared.kernel.Spec.{Spec}
use Rattle.btr_hist.specs.History.{stream_of, is_output}
use Rattle.btr_text.specs.declared.script.Line.{Line}
use Rattle.btr_text.specs.declared.script.Line.TheVariants as lines
use Rattle.btr_text.specs.declared.reply.LineReply.{LineReply}
use Rattle.btr_text.specs.declared.reply.LineReply.TheVariants.{No}
use Rattle.btr_text.specs.declared.reply.Reason.{Reason}
use Rattle.btr_text.specs.declared.reply.Reason.TheVariants as reasons
use Rattle.btr_gate.specs.Prefixes.{StartsWith}
use Rattle.btr_gate.proofs.PrefixLemmas.{starts_refl, starts_trans}
use Rattle.btr_hall.specs.declared.session.Hall.{Hall}
use Rattle.btr_hall.specs.declared.session.Session.{Session}
use Rattle.btr_hall.specs.declared.groups.Groups as groups
use Rattle.btr_hall.specs.declared.look.FoundStream.{FoundStream}
use Rattle.btr_hall.specs.Found.{IsFound}
use Rattle.btr_hall.specs.Trace.{history_of}
use Rattle.btr_hall.specs.Session.{IsSessionOf, Looks, seen_of}
use Rattle.btr_jobs.specs.States.{StoreState, LogState, GoesOn, log_seen}
use Rattle.btr_jobs.specs.Jobs.{AllKeep, IsAt}
use Rattle.btr_jobs.proofs.DoesLemmas.{goes_none, does_implied}
use Rattle.btr_jobs.proofs.TurnLemmas.{look_at, look_turn}
use Rattle.btr_live.specs.Feeds.{none_waiting, fed}
use Rattle.btr_live.specs.Replies.{waiting_after, Means}
use Rattle.btr_live.specs.Lanes.{LaneState, tells_failure}
use Rattle.btr_live.specs.SharedLines.{Sharing, Declines, if_shared, on_buffer, sharing, Views, Shares}
use Rattle.btr_live.specs.declared.shared_feeds.SharedFeeds.{SharedFeeds}
use Rattle.btr_live.specs.SharedLanes.{shared_feeds, SharedState, begun_shared, RunsSharedLine}
use Rattle.btr_live.specs.SharedLaws.{shared_lines_last}
use Rattle.btr_live.specs.Serving.{LineAsks, Serves, Knows, ServesIn, ServesShared, SharesIn, ShareDone, UnsharedDone, was_reported}
use Rattle.btr_live.specs.Running.{RunsSharedTo}
use Rattle.btr_live.proofs.FeedLines.{output_is, plain_is}
use Rattle.btr_live.proofs.LaneLemmas.{either, each_push}
use Rattle.btr_live.proofs.ReportedLemmas.{has_failed, answers_tell, answers_reported}

-- ---- lines of feeds

module _ (has : ℕ → Bool) (h : List Entry) (id : ℕ) (asked : ℕ → Sharing) where
  no_stream : stream_of h id ≡ None → on_buffer has h (stream_of h id) asked ≡ Declines reasons.Stream
  no_stream is = ap (λ (o : Option ℕ). on_buffer has h o asked) is

  of_output : (stream : ℕ) → stream_of h id ≡ Some stream → is_output h stream ≡ true → on_buffer has h (stream_of h id) asked ≡ Declines reasons.Output
  of_output stream is output =
      ap (λ (o : Option ℕ). on_buffer has h o asked) is ∙ ap (λ t. if t then Declines reasons.Output else if_shared (has stream) (asked stream)) output

  of_buffer : (stream : ℕ) (there : Bool) → stream_of h id ≡ Some stream → is_output h stream ≡ false → has stream ≡ there → on_buffer has h (stream_of h id) asked ≡ if_shared there (asked stream)
  of_buffer stream there is output known =
      ap (λ (o : Option ℕ). on_buffer has h o asked) is
      ∙ ap (λ t. if t then Declines reasons.Output else if_shared (has stream) (asked stream)) output
      ∙ ap (λ t. if_shared t (asked stream)) known

-- A line asks this of the buffer of the stream with this id, which is looked up.
module _ {D G : Type 0} {disk : Ghosts D} (ghosts : groups.Ghosts G) (hall : Hall D disk) (old new : Session D disk) (was : G) (line : Option Line) (id : ℕ) (asked : ℕ → Sharing) (asks : (h : List Entry) → sharing (ghosts.has_group was) h line ≡ Some (on_buffer (ghosts.has_group was) h (stream_of h id) asked)) (looks : Looks hall old new) where
  -- What it asked of shared buffers was done, and had this reply.
  look_shares : (now : G) (reply : LineReply) (asked_now : Sharing) → Knows hall new (λ h. on_buffer (ghosts.has_group was) h (stream_of h id) asked ≡ asked_now) → Shares (ghosts.threshold was) (ghosts.view_at was) asked_now reply (ghosts.view_at now) → SharesIn ghosts hall old new was now line reply
  look_shares now reply asked_now means shares =
      does_implied hall old new
      (λ start log low own. (own ≡ []) × StartsWith log.history low × (sharing (ghosts.has_group was) log.history line ≡ Some asked_now))
      (λ start log low own. ShareDone ghosts log low was now line reply own)
      (λ start log low own is. (
        log.history,
        record {
          after = is.1;
          begins = starts_refl log.history;
          asked = asked_now;
          means = is.2;
          shares = shares;
          none = is.0;
        },
      ))
      (look_turn hall old new looks (λ a. sharing (ghosts.has_group was) a line ≡ Some asked_now) (λ h of. asks (history_of h (seen_of new)) ∙ ap Some (means h of)))

  -- There is such a stream, which users write, and it has a buffer or not.
  known_buffer : (found : FoundStream) (there : Bool) → Knows hall new (λ h. IsFound h id (Some found)) → found.spec ≡ None → ghosts.has_group was found.stream ≡ there → Knows hall new (λ h. on_buffer (ghosts.has_group was) h (stream_of h id) asked ≡ if_shared there (asked found.stream))
  known_buffer found there known plain is = λ h of.
      let p = history_of h (seen_of new) in
      of_buffer (ghosts.has_group was) p id asked found.stream there (known h of).0 (plain_is p found.stream ((known h of).1 ∙ plain)) is

  pub on_buffer_shares : (now : G) (reply : LineReply) (found : FoundStream) → Knows hall new (λ h. IsFound h id (Some found)) → found.spec ≡ None → ghosts.has_group was found.stream ≡ true → Shares (ghosts.threshold was) (ghosts.view_at was) (asked found.stream) reply (ghosts.view_at now) → SharesIn ghosts hall old new was now line reply
  on_buffer_shares now reply found known plain is =
      look_shares now reply (asked found.stream) (known_buffer found true known plain is)

  module _ (session : IsSessionOf hall new) (same : ghosts.later was was) where
    -- The line was refused for this reason, and the buffers are as before.
    abbrev Declined : Reason → Type 0
    Declined reason = record {
      at : IsAt hall new;
      later : ghosts.later was was;
      groups : ghosts.has_group was ≡ ghosts.has_group was;
      threshold : ghosts.threshold was ≡ ghosts.threshold was;
      shares : SharesIn ghosts hall old new was was line (No reason);
    }

    declined : (reason : Reason) → Knows hall new (λ h. on_buffer (ghosts.has_group was) h (stream_of h id) asked ≡ Declines reason) → Declined reason
    declined reason means = record {
      at = look_at hall old new looks session;
      later = same;
      groups = refl;
      threshold = refl;
      shares = look_shares was (No reason) (Declines reason) means (refl, refl);
    }

    pub no_stream_declined : Knows hall new (λ h. IsFound h id None) → Declined reasons.Stream
    no_stream_declined none =
        declined reasons.Stream (λ h of. no_stream (ghosts.has_group was) (history_of h (seen_of new)) id asked (none h of))

    pub output_declined : (found : FoundStream) (spec : Spec) → Knows hall new (λ h. IsFound h id (Some found)) → found.spec ≡ Some spec → Declined reasons.Output
    output_declined found spec known is =
        declined reasons.Output (λ h of.
        let p = history_of h (seen_of new) in
        of_output (ghosts.has_group was) p id asked found.stream (known h of).0 (output_is p found.stream spec ((known h of).1 ∙ is)))

    pub no_buffer_declined : (found : FoundStream) → Knows hall new (λ h. IsFound h id (Some found)) → found.spec ≡ None → ghosts.has_group was found.stream ≡ false → Declined reasons.Group
    no_buffer_declined found known plain is = declined reasons.Group (known_buffer found false known plain is)

module _ {D G : Type 0} {disk : Ghosts D} (ghosts : groups.Ghosts G) (hall : Hall D disk) (old new : Session D disk) (was now : G) (line : Option Line) (reply : LineReply) where
  -- A line of feeds was done by shared buffers.
  pub shared_serves : SharesIn ghosts hall old new was now line reply → ServesShared ghosts hall old new was now line reply
  shared_serves shares =
      does_implied hall old new
      (λ start log low own. ShareDone ghosts log low was now line reply own)
      (λ start log low own. ShareDone ghosts log low was now line reply own ⊎ UnsharedDone ghosts start log (was_reported hall old) low was now line reply own)
      (λ start log low own done. inl done)
      shares

  -- Another line was done without them.
  pub alone_serves : now ≡ was → ((h : List Entry) → sharing (ghosts.has_group was) h line ≡ None) → ServesIn hall old new (LineAsks 1 none_waiting line reply none_waiting) reply → ServesShared ghosts hall old new was now line reply
  alone_serves same other serves =
      does_implied hall old new
      (λ start log low own. Serves start log (was_reported hall old) low (LineAsks 1 none_waiting line reply none_waiting) reply own)
      (λ start log low own. ShareDone ghosts log low was now line reply own ⊎ UnsharedDone ghosts start log (was_reported hall old) low was now line reply own)
      (λ start log low own done. inr (other, same, done))
      serves

-- A line of feeds that no buffer does is refused without a turn.
pub here_shares : {D G : Type 0} {disk : Ghosts D} (ghosts : groups.Ghosts G) (hall : Hall D disk) (s : Session D disk) (was : G) (line : Option Line) (reason : Reason) → ((h : List Entry) → sharing (ghosts.has_group was) h line ≡ Some (Declines reason)) → SharesIn ghosts hall s s was was line (No reason)
here_shares ghosts hall s was line reason means = (
  [],
  goes_none s,
  λ h of. (
    (log_seen h s).history,
    record {
      after = starts_refl (log_seen h s).history;
      begins = starts_refl (log_seen h s).history;
      asked = Declines reason;
      means = means (log_seen h s).history;
      shares = (refl, refl);
      none = refl;
    },
  ),
)

-- A line that is none of feeds asks nothing of shared buffers, and changes no feed.
module _ (line : Line) (not_feed : (id : ℕ) (added : List Point) → line ≡ lines.Feed id added → ⊥) (not_flush : (id : ℕ) → line ≡ lines.Flush id → ⊥) (not_discard : (id : ℕ) → line ≡ lines.Discard id → ⊥) where
  not_of_feeds : (h : List Entry) → ((has : ℕ → Bool) → sharing has h (Some line) ≡ None) × (fed h none_waiting (Some line) ≡ None)
  not_of_feeds h = by line not_feed not_flush not_discard
    where
      by : (line : Line) → ((id : ℕ) (added : List Point) → line ≡ lines.Feed id added → ⊥) → ((id : ℕ) → line ≡ lines.Flush id → ⊥) → ((id : ℕ) → line ≡ lines.Discard id → ⊥) → ((has : ℕ → Bool) → sharing has h (Some line) ≡ None) × (fed h none_waiting (Some line) ≡ None)
      by (lines.Feed id added) feed flush discard = absurd (feed id added refl)
      by (lines.Flush id) feed flush discard = absurd (flush id refl)
      by (lines.Discard id) feed flush discard = absurd (discard id refl)
      by (lines.Create id) feed flush discard = (λ has. refl, refl)
      by (lines.Insert id added) feed flush discard = (λ has. refl, refl)
      by (lines.Delete id from to) feed flush discard = (λ has. refl, refl)
      by (lines.Distiller id kernel lead grain first second) feed flush discard = (λ has. refl, refl)
      by (lines.Refresh id) feed flush discard = (λ has. refl, refl)
      by (lines.Retire id first) feed flush discard = (λ has. refl, refl)
      by (lines.Ask id query) feed flush discard = (λ has. refl, refl)
      by lines.Streams feed flush discard = (λ has. refl, refl)

  pub asks_nothing : (has : ℕ → Bool) (h : List Entry) → sharing has h (Some line) ≡ None
  asks_nothing has h = (not_of_feeds h).0 has

  pub feeds_nothing : (h : List Entry) → fed h none_waiting (Some line) ≡ None
  feeds_nothing h = (not_of_feeds h).1

-- ---- one line more

module _ {G : Type 0} (ghosts : groups.Ghosts G) (first_groups was now : G) (start : StoreState) (late early : LogState) (low : List Entry) (lines : List (Option Line)) (replies : List LineReply) (line : Option Line) (reply : LineReply) (a b : List ℕ) (saw_failure : Bool) (on : GoesOn start late early) (same : saw_failure ≡ has_failed start early) (first : RunsSharedTo (ghosts.has_group first_groups) (ghosts.threshold first_groups) (ghosts.view_at first_groups) (ghosts.view_at was) start early low lines replies a) (same_has : ghosts.has_group was ≡ ghosts.has_group first_groups) (same_threshold : ghosts.threshold was ≡ ghosts.threshold first_groups) where
  abbrev has : ℕ → Bool
  has = ghosts.has_group first_groups

  abbrev threshold : ℕ
  threshold = ghosts.threshold first_groups

  abbrev olds : Views
  olds = ghosts.view_at first_groups

  -- The lines up to one, and this one.
  pushed : (new : SharedState) → RunsSharedLine has threshold start late first.last line reply b new → new.views ≡ ghosts.view_at now → new.lane.waiting ≡ none_waiting → StartsWith late.history new.lane.history → (new.lane.saw_failure ≡ true → has_failed start late ≡ true) → RunsSharedTo has threshold olds (ghosts.view_at now) start late low (lines ++ line ∷ []) (replies ++ reply ∷ []) (a ++ b)
  pushed new ran views none ends failed = record {
    last = new;
    runs = each_push (RunsSharedLine has threshold start late) (begun_shared low olds) lines replies a first.last line reply b new
        (shared_lines_last has threshold start late early on (begun_shared low olds) lines replies a first.last first.runs) ran;
    views = views;
    none = none;
    ends = ends;
    failed = failed;
  }

  failed_before : first.last.lane.saw_failure ≡ true → has_failed start late ≡ true
  failed_before is =
      let failed = first.failed is in
      ap (λ c. has_failed start c) (on.ends failed) ∙ failed

  pub push_shared : ShareDone ghosts late early.history was now line reply b → RunsSharedTo has threshold olds (ghosts.view_at now) start late low (lines ++ line ∷ []) (replies ++ reply ∷ []) (a ++ b)
  push_shared done =
      let at = done.1 in
      let lane = first.last.lane in
      let new : SharedState = record { lane = record { history = done.0; saw_failure = lane.saw_failure; waiting = lane.waiting }; views = ghosts.view_at now } in
      pushed new
      (inl (record {
        at = record {
          after = starts_trans done.0 early.history lane.history at.after first.ends;
          begins = at.begins;
          asked = at.asked;
          means = subst (λ (f : ℕ → Bool). sharing f done.0 line ≡ Some at.asked) same_has at.means;
          shares = subst (λ (v : Views). Shares threshold v at.asked reply (ghosts.view_at now)) (sym first.views)
              (subst (λ (t : ℕ). Shares t (ghosts.view_at was) at.asked reply (ghosts.view_at now)) same_threshold at.shares);
          none = at.none;
        };
        saw_failure = refl;
        waiting = refl;
      }))
      refl first.none at.begins failed_before

  pub push_alone : UnsharedDone ghosts start late saw_failure early.history was now line reply b → RunsSharedTo has threshold olds (ghosts.view_at now) start late low (lines ++ line ∷ []) (replies ++ reply ∷ []) (a ++ b)
  push_alone done =
      let served = done.2 in
      let lane = first.last.lane in
      let next : LaneState = record { history = served.replies.next; saw_failure = lane.saw_failure || tells_failure served.asked reply; waiting = none_waiting } in
      let new : SharedState = record { lane = next; views = first.last.views } in
      pushed new
      (inr (record {
        other = λ h. subst (λ (f : ℕ → Bool). sharing f h line ≡ None) same_has (done.0 h);
        runs = record {
          admitted = served.admitted;
          after = starts_trans served.admitted early.history lane.history served.after first.ends;
          begins = served.begins;
          asked = served.asked;
          means = subst (λ v. Means 1 served.admitted v line served.asked) (sym first.none) served.asks.0;
          answers = answers_reported start late saw_failure lane.saw_failure (λ t. same ∙ first.failed t) served.admitted served.asked reply b served.replies.next served.replies.answers;
          waiting = served.asks.1 ∙ ap (λ v. waiting_after v (fed served.admitted v line) served.asked reply) (sym first.none);
          saw_failure = refl;
        };
        views = refl;
      }))
      (first.views ∙ sym (ap (λ g. ghosts.view_at g) done.1))
      refl served.replies.ends
      (either lane.saw_failure (tells_failure served.asked reply) (has_failed start late ≡ true) failed_before
      (λ tells. answers_tell start late saw_failure served.admitted served.asked reply b served.replies.next served.replies.answers tells))

-- No line ran yet.
pub shared_none : (has : ℕ → Bool) (threshold : ℕ) (views : Views) (start : StoreState) (log : LogState) → RunsSharedTo has threshold views views start log log.history [] [] []
shared_none has threshold views start log = record {
  last = begun_shared log.history views;
  runs = (refl, refl);
  views = refl;
  none = refl;
  ends = starts_refl log.history;
  failed = λ is. absurd (cc);
}

-- ---- groups as feeds

groups_back : {G : Type 0} (l : List G) → map (λ (f : SharedFeeds G). f.groups) (map shared_feeds l) ≡ l
groups_back [] = refl
groups_back (g ∷ l) = ap (λ k. g ∷ k) (groups_back l)

-- Groups that make the same feeds are the same.
pub same_groups : {G : Type 0} (a b : List G) → map shared_feeds a ≡ map shared_feeds b → a ≡ b
same_groups {G = G} a b same = sym (groups_back a) ∙ ap (map (λ (f : SharedFeeds G). f.groups)) same ∙ groups_back b

-- The groups of feeds go with those of before if the feeds do.
pub groups_later : {G : Type 0} (later : G → G → Type 0) (a b : List G) → AllKeep (λ (was now : SharedFeeds G). later was.groups now.groups) (map shared_feeds a) (map shared_feeds b) → AllKeep later a b
groups_later later [] [] keep = tt
groups_later later [] (now ∷ b) keep = absurd keep
groups_later later (was ∷ a) [] keep = absurd keep
groups_later later (was ∷ a) (now ∷ b) keep = (keep.0, groups_later later a b keep.1)
