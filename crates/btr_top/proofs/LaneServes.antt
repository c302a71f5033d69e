-- What the lines of one lane added serves the script: each entry is there for one line, or for the `feed` lines whose points it has. If a
-- line found the device full, its entry could have been there for it.
use Rattle.std.specs.Prelude.{◌≡◌, ℕ, ◌+◌, ◌≤◌, ◌==◌, false, List, [], ◌∷◌, ◌++◌, length, slice_get, option_map, Option, Some, None}
use Rattle.std.specs.List.{AllByRecursion}
use Rattle.std.proofs.Common.{refl, sym, ap, ◌∙◌, subst, arith, inl, inr, ⊎_elim}
use Rattle.btr_base.specs.declared.point.Point.{Point}
use Rattle.btr_base.specs.Bag.{sort}
use Rattle.btr_base.proofs.PointLemmas.{sort-sort}
use Rattle.btr_hist.specs.declared.entry.Entry.{Entry}
use Rattle.btr_hist.specs.declared.entry.Entry.TheVariants as entries
use Rattle.btr_hist.specs.Answer.{answer}
use Rattle.btr_hist.specs.History.{stream_of, is_output, spec_of}
use Rattle.btr_hist.specs.Legal.{Follows, rejection}
use Rattle.btr_gate.specs.Numbers.{one, times}
use Rattle.btr_gate.specs.Prefixes.{StartsWith}
use Rattle.btr_gate.proofs.NumberLemmas.{times_append}
use Rattle.btr_gate.proofs.PrefixLemmas.{starts_refl, starts_trans, starts_length}
use Rattle.btr_jobs.specs.States.{StoreState, LogState}
use Rattle.btr_jobs.specs.Turns.{IsFull, IsIdle}
use Rattle.btr_load.proofs.TotalLemmas.{total_append}
use Rattle.btr_text.specs.declared.script.Line.{Line}
use Rattle.btr_text.specs.declared.script.Line.TheVariants as lines
use Rattle.btr_text.specs.declared.script.ScriptLine.{ScriptLine}
use Rattle.btr_text.specs.declared.reply.LineReply.{LineReply}
use Rattle.btr_text.specs.declared.reply.LineReply.TheVariants as replies
use Rattle.btr_text.specs.declared.reply.LineReply.TheVariants.{Done, No}
use Rattle.btr_text.specs.declared.reply.Reason.{Reason}
use Rattle.btr_text.specs.declared.reply.Reason.TheVariants as reasons
use Rattle.btr_live.specs.Feeds.{Waiting, with_points, fed}
use Rattle.btr_live.specs.Meaning.{Meaning, Commits, Asks, Holds, Current, Refuses, on_stream, feed, flush, refresh, if_plain, meaning}
use Rattle.btr_live.specs.Replies.{reply_of_answer, waiting_after, Means}
use Rattle.btr_live.specs.Lanes.{Answers, LaneState, RunsLine, RunsLines}
use Rattle.btr_live.proofs.StreamLemmas.{stream_of-longer}
use Rattle.btr_store.specs.Completes.{IsBenign}
use Rattle.btr_store.specs.Replies.{status_of_reply}
use Rattle.btr_top.specs.declared.live.FeedKind.{FeedKind}
use Rattle.btr_top.specs.Room.{Purpose, OfLine, OfFeeds, has_line, has_landing, LandsFor, IsAskedSince, IsOfLine, IsAtPlace, IsFeedOf, fed_by, due_at, IsFor, Service}
use Rattle.btr_top.proofs.BenignStatuses.{benign_meaning, along}
use Rattle.btr_top.proofs.ServiceLemmas.{counted, lines_had, landings_had, counted_append, lines_append, landings_none, up_to, up_to_least, up_to_sum, up_to_above, Above, above_lower, above_append, Served, served_append}
use Rattle.btr_top.proofs.PlaceLemmas.{AtPlaces}
use Rattle.btr_top.proofs.LineTurns.{Lands, WasFull, WasAdded, WasRefused, Turned, offered_turn}
use Rattle.btr_top.proofs.LineEntries.{on_found, asked_only, entry_is, asked_feed, asked_flush, IsOfOutput, asked_refresh}
use Rattle.btr_top.proofs.WaitingPlaces.{Pending, waits_for, of_stream, others, split_sum, feed_longer, feeds_of, each_snoc, Waits, waits_longer, waits_same, waits_drop, points_more, waits_push, feeds_of_lane}

abbrev pub AreBenign : List LineReply → Type 0
AreBenign all = AllByRecursion (λ (reply : LineReply). IsBenign (status_of_reply reply)) all

module _ (feeds : FeedKind) (rounds : ℕ) (script : List ScriptLine) (start : StoreState) (log : LogState) (running : start.stopped ≡ false) (sound : log.failed ≡ None) (follows : Follows log.history) (low : List Entry) where
  abbrev batch : ℕ
  batch = due_at feeds

  -- An entry was refused after `p` because the device was full, and it would have been there for this.
  pub record Refusal (p : List Entry) (e : Entry) (purpose : Purpose) : Type 0 where
    pub starts : StartsWith log.history p
    pub since : StartsWith p low
    pub accepted : rejection p e ≡ None
    pub is_for : IsFor feeds rounds script low p e purpose
    pub need : ℕ
    pub left : ℕ
    pub full : IsFull start p e need left

  abbrev Here : Service → Type 0
  Here s = Served feeds rounds script low log.history s

  abbrev LandsHere : List Entry → Entry → Type 0
  LandsHere p e = Lands start log running sound follows low p e

  abbrev pub NoLanding : Purpose → Type 0
  NoLanding purpose = (round output : ℕ) → has_landing round output purpose ≡ 0

  -- ---- one line

  -- What a line did, at this place of the script, in a lane in which these places waited. A refusal for lack of room is excluded if no
  -- entry could have been refused.
  pub record LineServes (lane place : ℕ) (old : LaneState) (pending : List Pending) (reply : LineReply) (own : List ℕ) (new : LaneState) : Type 0 where
    pub waiting : List Pending
    pub services : List Service
    pub waits : Waits script new.history lane waiting new.waiting
    pub longer : StartsWith new.history old.history
    pub numbers : (n : ℕ) → counted n services ≡ times n own
    pub are : AllByRecursion Here services
    pub above : Above (length old.history) services
    pub lines : (k : ℕ) → lines_had k services + waits_for k waiting ≤ waits_for k pending + one (place == k)
    pub landings : (round output : ℕ) → landings_had round output services ≡ 0
    pub benign : ((p : List Entry) (e : Entry) (purpose : Purpose) → Refusal p e purpose → NoLanding purpose → StartsWith p old.history → StartsWith new.history p
        → ((k : ℕ) → has_line k purpose + lines_had k services ≤ waits_for k pending + one (place == k)) → ⊥) → IsBenign (status_of_reply reply)

  module _ (lane place : ℕ) (old : LaneState) (pending : List Pending) (a : List Entry) (reply : LineReply) (own : List ℕ) (new : LaneState) (after : StartsWith a old.history) (since : StartsWith a low) where
    -- A line that adds nothing.
    idle_serves : (left : List Pending) → IsIdle a own new.history → IsBenign (status_of_reply reply) → ((k : ℕ) → waits_for k left ≤ waits_for k pending + one (place == k)) → Waits script a lane left new.waiting → LineServes lane place old pending reply own new
    idle_serves left idle benign fewer waits = record {
      waiting = left;
      services = [];
      waits = subst (λ (h : List Entry). Waits script h lane left new.waiting) (sym idle.next) waits;
      longer = subst (λ (h : List Entry). StartsWith h old.history) (sym idle.next) after;
      numbers = λ n. sym (ap (times n) idle.own);
      are = tt;
      above = tt;
      lines = λ k. let f = fewer k in omega (arith, f);
      landings = λ round output. refl;
      benign = λ never. benign;
    }

    module _ (e : Entry) (purpose : Purpose) (spent kept : List Pending) (is_for : (p : List Entry) → StartsWith p a → LandsHere p e → IsFor feeds rounds script low p e purpose) (none : NoLanding purpose) (fewer : (k : ℕ) → has_line k purpose + waits_for k spent ≤ waits_for k pending + one (place == k)) (kept_fewer : (k : ℕ) → waits_for k kept ≤ waits_for k pending + one (place == k)) (waits_spent : (version : ℕ) → reply ≡ Done version → Waits script a lane spent new.waiting) (waits_kept : (reason : Reason) → reply ≡ No reason → Waits script a lane kept new.waiting) where
      added_serves : WasAdded start log running sound follows low a e reply own new.history → LineServes lane place old pending reply own new
      added_serves was =
          let s : Service = record { number = length was.p + 1; purpose = purpose } in
          let next_a : StartsWith (was.p ++ e ∷ []) a = starts_trans (was.p ++ e ∷ []) was.p a (e ∷ [], refl) was.after in
          let p_old : StartsWith was.p old.history = starts_trans was.p a old.history was.after after in
          let longer : StartsWith new.history a = subst (λ (h : List Entry). StartsWith h a) (sym was.known) next_a in
          let here : Here s = record { before = was.p; entry = e; there = was.there; since = starts_trans was.p a low was.after since; same_number = refl; is_for = is_for was.p was.after was.lands } in
          record {
            waiting = spent;
            services = s ∷ [];
            waits = waits_longer script a lane spent new.waiting (waits_spent was.version was.replied) new.history longer;
            longer = starts_trans new.history a old.history longer after;
            numbers = λ n. sym (ap (times n) was.numbers);
            are = (here, tt);
            above = (let l = starts_length was.p old.history p_old in omega (arith, l), tt);
            lines = λ k. let f = fewer k in omega (arith, f);
            landings = λ round output. let n = none round output in omega (arith, n);
            benign = λ never. along reply (Done was.version) was.replied (inl refl);
          }

      refused_serves : WasRefused start log running sound follows low a e reply own new.history → LineServes lane place old pending reply own new
      refused_serves was =
          let p_old : StartsWith was.p old.history = starts_trans was.p a old.history was.after after in
          let longer : StartsWith new.history was.p = subst (λ (h : List Entry). StartsWith h was.p) (sym was.known) (starts_refl was.p) in
          record {
            waiting = kept;
            services = [];
            waits = waits_longer script a lane kept new.waiting (waits_kept was.reason was.replied) new.history (starts_trans new.history was.p a longer was.after);
            longer = starts_trans new.history was.p old.history longer p_old;
            numbers = λ n. sym (ap (times n) was.numbers);
            are = tt;
            above = tt;
            lines = λ k. let f = kept_fewer k in omega (arith, f);
            landings = λ round output. refl;
            benign = λ never.
                ⊎_elim (λ benign. benign)
                (λ (full : WasFull start log running sound follows low was.p e).
                absurd (never was.p e purpose
                record { starts = was.there; since = starts_trans was.p a low was.after since; accepted = full.accepted; is_for = is_for was.p was.after full.lands; need = full.need; left = full.left; full = full.full }
                none p_old longer (λ k. let f = fewer k in omega (arith, f))))
                was.why;
          }

      commit_serves : Turned start log running sound follows low a e reply own new.history → LineServes lane place old pending reply own new
      commit_serves turned = ⊎_elim (λ was. added_serves was) (λ was. refused_serves was) turned

  -- ---- by the meaning of the line

  module _ (lane place : ℕ) (old : LaneState) (pending : List Pending) (line : Option Line) (reply : LineReply) (own : List ℕ) (new : LaneState) (a : List Entry) (after : StartsWith a old.history) (since : StartsWith a low) (at_place : slice_get script place ≡ Some (record { lane = lane; line = line })) (waits : Waits script a lane pending old.waiting) where
    abbrev w : Waiting
    w = old.waiting

    abbrev Did : Type 0
    Did = LineServes lane place old pending reply own new

    -- An entry for this line alone.
    module _ (turned_for : (e : Entry) → Means batch a w line (Commits e) → (p : List Entry) → StartsWith p a → LandsHere p e → IsOfLine batch low p e line) where
      line_for : (e : Entry) → Means batch a w line (Commits e) → (p : List Entry) → StartsWith p a → LandsHere p e → IsFor feeds rounds script low p e (OfLine place)
      line_for e means p starts lands = subst (λ (o : Option ScriptLine). IsAtPlace batch low p e o) (sym at_place) (turned_for e means p starts lands)

      -- A line that changes no feed.
      plain_serves : (m : Meaning) → Means batch a w line m → Answers start log old.saw_failure a m reply own new.history → new.waiting ≡ w → Did
      plain_serves (Commits e) means answers same =
          let still : Waits script a lane pending new.waiting = subst (λ (v : Waiting). Waits script a lane pending v) (sym same) waits in
          commit_serves lane place old pending a reply own new after since e (OfLine place) pending pending (line_for e means) (λ round output. refl)
          (λ k. omega arith) (λ k. omega arith) (λ version done. still) (λ reason refused. still)
          (offered_turn start log running sound follows low old.saw_failure a e reply own new.history since answers)
      plain_serves (Asks query) means answers same =
          idle_serves lane place old pending a reply own new after since pending answers.1
          (⊎_elim (λ answered. along reply (reply_of_answer (answer a query)) answered (benign_meaning batch a w line (Asks query) means)) (λ lacks. along reply (No reasons.Memory) lacks (inr (inr refl))) answers.0)
          (λ k. omega arith) (subst (λ (v : Waiting). Waits script a lane pending v) (sym same) waits)
      plain_serves (Holds count) means answers same =
          idle_serves lane place old pending a reply own new after since pending answers.1 (along reply (replies.Held count) answers.0 (benign_meaning batch a w line (Holds count) means))
          (λ k. omega arith) (subst (λ (v : Waiting). Waits script a lane pending v) (sym same) waits)
      plain_serves (Current version) means answers same =
          idle_serves lane place old pending a reply own new after since pending answers.1 (along reply (Done version) answers.0 (benign_meaning batch a w line (Current version) means))
          (λ k. omega arith) (subst (λ (v : Waiting). Waits script a lane pending v) (sym same) waits)
      plain_serves (Refuses reason) means answers same =
          idle_serves lane place old pending a reply own new after since pending answers.1 (along reply (No reason) answers.0 (benign_meaning batch a w line (Refuses reason) means))
          (λ k. omega arith) (subst (λ (v : Waiting). Waits script a lane pending v) (sym same) waits)

    -- A line that changes the feed of a stream, which has then all these points. The places that wait are `held` if the points are kept,
    -- and `kept` if a commit of all is refused.
    module _ (stream : ℕ) (all : List Point) (held kept : List Pending) (used : List ℕ) (waits_held : Waits script a lane held (with_points stream all w)) (fewer_held : (k : ℕ) → waits_for k held ≤ waits_for k pending + one (place == k)) (waits_kept : Waits script a lane kept (with_points stream (sort all) w)) (fewer_kept : (k : ℕ) → waits_for k kept ≤ waits_for k pending + one (place == k)) (fewer_used : (k : ℕ) → times k used + waits_for k (others stream pending) ≤ waits_for k pending + one (place == k)) (feeds_for : (e : Entry) → Means batch a w line (Commits e) → (p : List Entry) → StartsWith p a → LandsHere p e → IsFor feeds rounds script low p e (OfFeeds used)) where
      before_same : new.waiting ≡ with_points stream (w stream) w → Waits script a lane pending new.waiting
      before_same same = subst (λ (v : Waiting). Waits script a lane pending v) (sym same) (waits_same script a lane pending w waits stream (w stream) refl)

      feed_serves : (m : Meaning) → Means batch a w line m → Answers start log old.saw_failure a m reply own new.history → new.waiting ≡ waiting_after w (Some (stream, all)) m reply → Did
      feed_serves (Commits e) means answers same =
          commit_serves lane place old pending a reply own new after since e (OfFeeds used) (others stream pending) kept (feeds_for e means) (λ round output. refl)
          fewer_used fewer_kept
          (λ version done. subst (λ (v : Waiting). Waits script a lane (others stream pending) v) (sym (same ∙ ap (λ (r : LineReply). waiting_after w (Some (stream, all)) (Commits e) r) done)) (waits_drop script a lane pending w waits stream))
          (λ reason refused. subst (λ (v : Waiting). Waits script a lane kept v) (sym (same ∙ ap (λ (r : LineReply). waiting_after w (Some (stream, all)) (Commits e) r) refused)) waits_kept)
          (offered_turn start log running sound follows low old.saw_failure a e reply own new.history since answers)
      feed_serves (Asks query) means answers same =
          idle_serves lane place old pending a reply own new after since pending answers.1
          (⊎_elim (λ answered. along reply (reply_of_answer (answer a query)) answered (benign_meaning batch a w line (Asks query) means)) (λ lacks. along reply (No reasons.Memory) lacks (inr (inr refl))) answers.0)
          (λ k. omega arith) (before_same same)
      feed_serves (Holds count) means answers same =
          idle_serves lane place old pending a reply own new after since held answers.1 (along reply (replies.Held count) answers.0 (benign_meaning batch a w line (Holds count) means))
          fewer_held (subst (λ (v : Waiting). Waits script a lane held v) (sym same) waits_held)
      feed_serves (Current version) means answers same =
          idle_serves lane place old pending a reply own new after since pending answers.1 (along reply (Done version) answers.0 (benign_meaning batch a w line (Current version) means))
          (λ k. omega arith) (before_same same)
      feed_serves (Refuses reason) means answers same =
          idle_serves lane place old pending a reply own new after since pending answers.1 (along reply (No reason) answers.0 (benign_meaning batch a w line (Refuses reason) means))
          (λ k. omega arith) (before_same same)

  -- ---- by the kind of the line

  module _ (lane place : ℕ) (old : LaneState) (pending : List Pending) (reply : LineReply) (own : List ℕ) (new : LaneState) (a : List Entry) (after : StartsWith a old.history) (since : StartsWith a low) (waits : Waits script a lane pending old.waiting) where
    abbrev v : Waiting
    v = old.waiting

    abbrev Finishes : Type 0
    Finishes = LineServes lane place old pending reply own new

    abbrev AtPlace : Option Line → Type 0
    AtPlace line = slice_get script place ≡ Some (record { lane = lane; line = line })

    abbrev Waited : Option Line → Meaning → Type 0
    Waited line m = new.waiting ≡ waiting_after v (fed a v line) m reply

    -- What no line asks for that finds no stream.
    no_stream : (P : Type 0) (e : Entry) (found : Option ℕ) (F : ℕ → Meaning) → found ≡ None → Commits e ≡ on_stream found F → P
    no_stream P e found F none same = entry_is (λ x. P) (on_stream None F) e (same ∙ ap (λ o. on_stream o F) none) tt

    feed_line : (id : ℕ) (added : List Point) → AtPlace (Some (lines.Feed id added)) → (m : Meaning) → Means batch a v (Some (lines.Feed id added)) m → Answers start log old.saw_failure a m reply own new.history → Waited (Some (lines.Feed id added)) m → Finishes
    feed_line id added at_place m means answers same = by (stream_of a id) refl
      where
        line : Option Line
        line = Some (lines.Feed id added)

        F : ℕ → Meaning
        F s = if_plain (is_output a s) (feed batch s (v s) added)

        is_feed : (stream : ℕ) → stream_of a id ≡ Some stream → IsFeedOf script a lane stream place
        is_feed stream some = record { id = id; added = added; line = at_place; same_stream = some }

        fed_is : fed_by (slice_get script place) ≡ added
        fed_is = ap (λ (o : Option ScriptLine). fed_by o) at_place

        more : (stream : ℕ) → List Pending
        more stream = pending ++ record { stream = stream; place = place } ∷ []

        fewer : (stream k : ℕ) → waits_for k (more stream) ≤ waits_for k pending + one (place == k)
        fewer stream k = let s = total_append (λ (x : Pending). one (x.place == k)) pending (record { stream = stream; place = place } ∷ []) in omega (arith, s)

        used : (stream k : ℕ) → times k (of_stream stream pending ++ place ∷ []) + waits_for k (others stream pending) ≤ waits_for k pending + one (place == k)
        used stream k = let s = split_sum stream k pending in let t = times_append k (of_stream stream pending) (place ∷ []) in omega (arith, s, t)

        entry_for : (stream : ℕ) → stream_of a id ≡ Some stream → (e : Entry) → Means batch a v line (Commits e) → (p : List Entry) → StartsWith p a → LandsHere p e → IsFor feeds rounds script low p e (OfFeeds (of_stream stream pending ++ place ∷ []))
        entry_for stream some e asked p starts lands =
            let P : Entry → Type 0 = λ x. x ≡ entries.Commit stream [] (sort (v stream ++ added)) in
            let is : e ≡ entries.Commit stream [] (sort (v stream ++ added)) =
            entry_is P (on_stream (Some stream) F) e (asked_only batch a v line e asked ∙ ap (λ o. on_stream o F) some) (asked_feed batch a stream (v stream) added) in
            let at_p = waits_longer script a lane pending v waits p starts in
            feeds_of_lane feeds script p e (of_stream stream pending ++ place ∷ []) record {
              lane = lane;
              stream = stream;
              are = each_snoc script (IsFeedOf script p lane stream) (of_stream stream pending) place (feeds_of script p lane stream pending at_p.are) (feed_longer script p a lane stream place starts (is_feed stream some));
              commits = is ∙ ap (λ points. entries.Commit stream [] points) (points_more script a lane pending v waits stream place added fed_is);
            }

        by : (found : Option ℕ) → stream_of a id ≡ found → Finishes
        by None none =
            plain_serves lane place old pending line reply own new a after since at_place waits
            (λ e asked p starts lands. no_stream _ e (stream_of a id) F none (asked_only batch a v line e asked)) m means answers
            (same ∙ ap (λ (o : Option ℕ). waiting_after v (option_map (λ s. (s, v s ++ added)) o) m reply) none)
        by (Some stream) some =
            let all : List Point = v stream ++ added in
            feed_serves lane place old pending line reply own new a after since at_place waits stream all (more stream) (more stream) (of_stream stream pending ++ place ∷ [])
            (waits_push script a lane pending v waits stream place added all (is_feed stream some) fed_is refl) (fewer stream)
            (waits_push script a lane pending v waits stream place added (sort all) (is_feed stream some) fed_is (sort-sort all)) (fewer stream)
            (used stream) (entry_for stream some) m means answers
            (same ∙ ap (λ (o : Option ℕ). waiting_after v (option_map (λ s. (s, v s ++ added)) o) m reply) some)

    flush_line : (id : ℕ) → AtPlace (Some (lines.Flush id)) → (m : Meaning) → Means batch a v (Some (lines.Flush id)) m → Answers start log old.saw_failure a m reply own new.history → Waited (Some (lines.Flush id)) m → Finishes
    flush_line id at_place m means answers same = by (stream_of a id) refl
      where
        line : Option Line
        line = Some (lines.Flush id)

        F : ℕ → Meaning
        F s = if_plain (is_output a s) (flush s (v s))

        used : (stream k : ℕ) → times k (of_stream stream pending) + waits_for k (others stream pending) ≤ waits_for k pending + one (place == k)
        used stream k = let s = split_sum stream k pending in omega (arith, s)

        entry_for : (stream : ℕ) → stream_of a id ≡ Some stream → (e : Entry) → Means batch a v line (Commits e) → (p : List Entry) → StartsWith p a → LandsHere p e → IsFor feeds rounds script low p e (OfFeeds (of_stream stream pending))
        entry_for stream some e asked p starts lands =
            let P : Entry → Type 0 = λ x. x ≡ entries.Commit stream [] (sort (v stream)) in
            let is : e ≡ entries.Commit stream [] (sort (v stream)) =
            entry_is P (on_stream (Some stream) F) e (asked_only batch a v line e asked ∙ ap (λ o. on_stream o F) some) (asked_flush a stream (v stream)) in
            let at_p = waits_longer script a lane pending v waits p starts in
            feeds_of_lane feeds script p e (of_stream stream pending) record {
              lane = lane;
              stream = stream;
              are = feeds_of script p lane stream pending at_p.are;
              commits = is ∙ ap (λ points. entries.Commit stream [] points) (waits.points stream);
            }

        by : (found : Option ℕ) → stream_of a id ≡ found → Finishes
        by None none =
            plain_serves lane place old pending line reply own new a after since at_place waits
            (λ e asked p starts lands. no_stream _ e (stream_of a id) F none (asked_only batch a v line e asked)) m means answers
            (same ∙ ap (λ (o : Option ℕ). waiting_after v (option_map (λ s. (s, v s)) o) m reply) none)
        by (Some stream) some =
            feed_serves lane place old pending line reply own new a after since at_place waits stream (v stream) pending pending (of_stream stream pending)
            (waits_same script a lane pending v waits stream (v stream) refl) (λ k. omega arith)
            (waits_same script a lane pending v waits stream (sort (v stream)) (sort-sort (v stream))) (λ k. omega arith)
            (used stream) (entry_for stream some) m means answers
            (same ∙ ap (λ (o : Option ℕ). waiting_after v (option_map (λ s. (s, v s)) o) m reply) some)

    discard_line : (id : ℕ) → AtPlace (Some (lines.Discard id)) → (m : Meaning) → Means batch a v (Some (lines.Discard id)) m → Answers start log old.saw_failure a m reply own new.history → Waited (Some (lines.Discard id)) m → Finishes
    discard_line id at_place m means answers same = by (stream_of a id) refl
      where
        line : Option Line
        line = Some (lines.Discard id)

        F : ℕ → Meaning
        F s = Holds 0

        used : (stream k : ℕ) → times k (of_stream stream pending) + waits_for k (others stream pending) ≤ waits_for k pending + one (place == k)
        used stream k = let s = split_sum stream k pending in omega (arith, s)

        fewer : (stream k : ℕ) → waits_for k (others stream pending) ≤ waits_for k pending + one (place == k)
        fewer stream k = let s = split_sum stream k pending in omega (arith, s)

        no_entry : (P : Type 0) (e : Entry) → Means batch a v line (Commits e) → P
        no_entry P e asked = entry_is (λ x. P) (on_stream (stream_of a id) F) e (asked_only batch a v line e asked) (on_found (λ x. P) (stream_of a id) F (λ s. tt))

        by : (found : Option ℕ) → stream_of a id ≡ found → Finishes
        by None none =
            plain_serves lane place old pending line reply own new a after since at_place waits
            (λ e asked p starts lands. no_entry _ e asked) m means answers
            (same ∙ ap (λ (o : Option ℕ). waiting_after v (option_map (λ s. (s, [])) o) m reply) none)
        by (Some stream) some =
            feed_serves lane place old pending line reply own new a after since at_place waits stream [] (others stream pending) (others stream pending) (of_stream stream pending)
            (waits_drop script a lane pending v waits stream) (fewer stream)
            (waits_drop script a lane pending v waits stream) (fewer stream)
            (used stream) (λ e asked p starts lands. no_entry _ e asked) m means answers
            (same ∙ ap (λ (o : Option ℕ). waiting_after v (option_map (λ s. (s, [])) o) m reply) some)

    refresh_for : (id : ℕ) (e : Entry) → Means batch a v (Some (lines.Refresh id)) (Commits e) → (p : List Entry) → StartsWith p a → LandsHere p e → IsOfLine batch low p e (Some (lines.Refresh id))
    refresh_for id e asked p starts lands = by (stream_of a id) refl
      where
        F : ℕ → Meaning
        F s = refresh a s (spec_of a s)

        by : (found : Option ℕ) → stream_of a id ≡ found → IsOfLine batch low p e (Some (lines.Refresh id))
        by None none = no_stream _ e (stream_of a id) F none (asked_only batch a v (Some (lines.Refresh id)) e asked)
        by (Some stream) some =
            let of : IsOfOutput stream e = entry_is (IsOfOutput stream) (on_stream (Some stream) F) e
            (asked_only batch a v (Some (lines.Refresh id)) e asked ∙ ap (λ o. on_stream o F) some) (asked_refresh a stream (spec_of a stream)) in
            let landed : LandsHere p (entries.Distillate stream of.cut of.added of.reads) = subst (λ x. LandsHere p x) of.is lands in
            (stream, stream_of-longer p a id stream starts some, subst (λ x. LandsFor low p x stream) (sym of.is) landed)

    -- A line whose entry is what it means at the history to which it was admitted.
    asked_for : (line : Option Line) (e : Entry) → Commits e ≡ meaning batch a (λ stream. []) line → (p : List Entry) → StartsWith p a → IsAskedSince batch low p e line
    asked_for line e same p starts = record { at = a; since = since; before = starts; asked = sym same }

    by_line : (line : Option Line) → AtPlace line → (m : Meaning) → Means batch a v line m → Answers start log old.saw_failure a m reply own new.history → Waited line m → Finishes
    by_line None at_place m means answers same =
        plain_serves lane place old pending None reply own new a after since at_place waits
        (λ e asked p starts lands. asked_for None e (asked_only batch a v None e asked) p starts) m means answers same
    by_line (Some (lines.Create id)) at_place m means answers same =
        let line : Option Line = Some (lines.Create id) in
        plain_serves lane place old pending line reply own new a after since at_place waits
        (λ e asked p starts lands. asked_for line e (asked_only batch a v line e asked) p starts) m means answers same
    by_line (Some (lines.Insert id added)) at_place m means answers same =
        let line : Option Line = Some (lines.Insert id added) in
        plain_serves lane place old pending line reply own new a after since at_place waits
        (λ e asked p starts lands. asked_for line e (asked_only batch a v line e asked) p starts) m means answers same
    by_line (Some (lines.Delete id from to)) at_place m means answers same =
        let line : Option Line = Some (lines.Delete id from to) in
        plain_serves lane place old pending line reply own new a after since at_place waits
        (λ e asked p starts lands. asked_for line e (asked_only batch a v line e asked) p starts) m means answers same
    by_line (Some (lines.Feed id added)) at_place m means answers same = feed_line id added at_place m means answers same
    by_line (Some (lines.Flush id)) at_place m means answers same = flush_line id at_place m means answers same
    by_line (Some (lines.Discard id)) at_place m means answers same = discard_line id at_place m means answers same
    by_line (Some (lines.Distiller id kernel lead grain first second)) at_place m means answers same =
        let line : Option Line = Some (lines.Distiller id kernel lead grain first second) in
        plain_serves lane place old pending line reply own new a after since at_place waits
        (λ e asked p starts lands. asked_for line e (asked_only batch a v line e asked) p starts) m means answers same
    by_line (Some (lines.Refresh id)) at_place m means answers same =
        plain_serves lane place old pending (Some (lines.Refresh id)) reply own new a after since at_place waits
        (refresh_for id) m means answers same
    by_line (Some (lines.Retire id first)) at_place m means answers same =
        let line : Option Line = Some (lines.Retire id first) in
        plain_serves lane place old pending line reply own new a after since at_place waits
        (λ e asked p starts lands. asked_for line e (asked_only batch a v line e asked) p starts) m means answers same
    by_line (Some (lines.Ask id query)) at_place m means answers same =
        let line : Option Line = Some (lines.Ask id query) in
        plain_serves lane place old pending line reply own new a after since at_place waits
        (λ e asked p starts lands. asked_for line e (asked_only batch a v line e asked) p starts) m means answers same
    by_line (Some lines.Streams) at_place m means answers same =
        let line : Option Line = Some lines.Streams in
        plain_serves lane place old pending line reply own new a after since at_place waits
        (λ e asked p starts lands. asked_for line e (asked_only batch a v line e asked) p starts) m means answers same

  pub line_serves : (lane place : ℕ) (old : LaneState) (pending : List Pending) (line : Option Line) (reply : LineReply) (own : List ℕ) (new : LaneState) → StartsWith old.history low → slice_get script place ≡ Some (record { lane = lane; line = line }) → Waits script old.history lane pending old.waiting → RunsLine batch start log old line reply own new → LineServes lane place old pending reply own new
  line_serves lane place old pending line reply own new begins at_place waits is =
      by_line lane place old pending reply own new is.admitted is.after (starts_trans is.admitted old.history low is.after begins)
      (waits_longer script old.history lane pending old.waiting waits is.admitted is.after)
      line at_place is.asked is.means is.answers is.waiting

  -- ---- all lines of a lane

  -- What the lines at these places did, in a lane that knew this history, and in which these places waited.
  pub record LinesServe (known : List Entry) (pending : List Pending) (places : List ℕ) (all : List LineReply) (own : List ℕ) : Type 0 where
    pub services : List Service
    pub numbers : (n : ℕ) → counted n services ≡ times n own
    pub are : AllByRecursion Here services
    pub above : Above (length known) services
    pub lines : (k : ℕ) → lines_had k services ≤ waits_for k pending + times k places
    pub landings : (round output : ℕ) → landings_had round output services ≡ 0
    pub benign : ((p : List Entry) (e : Entry) (purpose : Purpose) → Refusal p e purpose → NoLanding purpose
        → ((k : ℕ) → has_line k purpose + lines_had k (up_to (length p) services) ≤ waits_for k pending + times k places) → ⊥) → AreBenign all

  pub lines_serve : (lane : ℕ) (old : LaneState) (pending : List Pending) (places : List ℕ) (ls : List (Option Line)) (all : List LineReply) (own : List ℕ) (new : LaneState) → StartsWith old.history low → AtPlaces script lane places ls → Waits script old.history lane pending old.waiting → RunsLines batch start log old ls all own new → LinesServe old.history pending places all own
  lines_serve lane old pending [] [] [] own new begins at waits is = record {
    services = [];
    numbers = λ n. sym (ap (times n) is.0);
    are = tt;
    above = tt;
    lines = λ k. omega arith;
    landings = λ round output. refl;
    benign = λ never. tt;
  }
  lines_serve lane old pending places [] (reply ∷ all) own new begins at waits is = absurd is
  lines_serve lane old pending places (line ∷ ls) [] own new begins at waits is = absurd is
  lines_serve lane old pending [] (line ∷ ls) (reply ∷ all) own new begins at waits is = absurd at
  lines_serve lane old pending (place ∷ places) [] [] own new begins at waits is = absurd at
  lines_serve lane old pending (place ∷ places) (line ∷ ls) (reply ∷ all) own new begins at waits is =
      let next : LaneState = is.2 in
      let first = line_serves lane place old pending line reply is.0 next begins at.0 waits is.4 in
      let rest = lines_serve lane next first.waiting places ls all is.1 new (starts_trans next.history old.history low first.longer begins) at.1 first.waits is.5 in
      let grown = starts_length next.history old.history first.longer in
      record {
        services = first.services ++ rest.services;
        numbers = counted_append first.services rest.services own is.0 is.1 is.3 first.numbers rest.numbers;
        are = served_append feeds rounds script low log.history first.services rest.services first.are rest.are;
        above = above_append (length old.history) first.services rest.services first.above (above_lower (length old.history) (length next.history) rest.services grown rest.above);
        lines = λ k. omega (arith, lines_append k first.services rest.services, first.lines k, rest.lines k);
        landings = landings_none first.services rest.services first.landings rest.landings;
        benign = λ never. (
          first.benign (λ p e purpose refusal none after before few.
              never p e purpose refusal none (λ k.
              let budget = few k in
              let sum = up_to_sum (λ (s : Service). has_line k s.purpose) (length p) first.services rest.services in
              let part = up_to_least (λ (s : Service). has_line k s.purpose) (length p) first.services in
              let long = starts_length next.history p before in
              let none_later = up_to_above (λ (s : Service). has_line k s.purpose) (length p) rest.services (above_lower (length p) (length next.history) rest.services long rest.above) in
              omega (arith, budget, sum, part, none_later))),
          rest.benign (λ p e purpose refusal none few.
              never p e purpose refusal none (λ k.
              let budget = few k in
              let sum = up_to_sum (λ (s : Service). has_line k s.purpose) (length p) first.services rest.services in
              let part = up_to_least (λ (s : Service). has_line k s.purpose) (length p) first.services in
              let here = first.lines k in
              omega (arith, budget, sum, part, here))),
        );
      }
