-- A script in one lane, on a store that nobody else uses, has the model's replies: by induction over the lines.
use Rattle.std.specs.Prelude.{◌≡◌, ℕ, ◌+◌, ◌<◌, ◌≤◌, Bool, true, false, ◌||◌, List, [], ◌∷◌, ◌++◌, length, map}
use Rattle.std.specs.Prelude.{slice_index_or, cond, Option, Some, None, Result}
use Rattle.std.specs.Option.{is_some}
use Rattle.std.specs.declared.alloc.AllocError.{AllocError}
use Rattle.std.proofs.Common.{refl, sym, ap, ap₂, ◌∙◌, subst, arith, inl, inr}
use Rattle.std.proofs.lemmas.Bool.{cases_lt, or_right, eq-eqb, ne_eqb}
use Rattle.std.proofs.lemmas.List.{length-map}
use Rattle.btr_hist.specs.declared.entry.Entry.{Entry}
use Rattle.btr_hist.specs.declared.entry.Entry.TheVariants as entries
use Rattle.btr_hist.specs.declared.kernel.Reads.{Reads}
use Rattle.btr_hist.specs.Legal.{Follows}
use Rattle.btr_base.specs.declared.point.Point.{Point}
use Rattle.btr_base.specs.Range.{RangeValue}
use Rattle.btr_text.specs.declared.script.Line.{Line}
use Rattle.btr_text.specs.declared.script.ScriptLine.{ScriptLine}
use Rattle.btr_text.specs.declared.reply.LineReply.{LineReply}
use Rattle.btr_gate.specs.Numbers.{one, total, times, given}
use Rattle.btr_gate.specs.Prefixes.{StartsWith}
use Rattle.btr_gate.proofs.NumberLemmas.{given_inside, times_append}
use Rattle.btr_gate.proofs.PrefixLemmas.{starts_refl, starts_trans, starts_length, starts_whole}
use Rattle.btr_work.specs.declared.report.RefreshLine.{RefreshLine}
use Rattle.btr_work.specs.Laws.{AreAllSince}
use Rattle.btr_jobs.specs.States.{StoreState, LogState}
use Rattle.btr_jobs.specs.Turns.{IsIdle, Committed}
use Rattle.btr_plan.specs.Next.{IsNextPlan}
use Rattle.btr_live.specs.declared.live.LiveReport.{LiveReport}
use Rattle.btr_live.specs.Feeds.{none_waiting, fed}
use Rattle.btr_live.specs.Meaning.{Meaning, Commits, Asks, Holds, Current, Refuses}
use Rattle.btr_live.specs.Replies.{waiting_after, Means}
use Rattle.btr_live.specs.Lanes.{OffersEntry, Offers, Answers, LaneState, tells_failure, RunsLine, RunsLines, in_own_feeds}
use Rattle.btr_live.specs.Lanes.{begun as lane_begun}
use Rattle.btr_live.specs.LaneLaws.{lines_last}
use Rattle.btr_live.specs.OneHistory.{of_lane, lanes_of, lane_lines}
use Rattle.btr_live.specs.Live.{LastRound, RunsLive}
use Rattle.btr_live.specs.Script.{State, begun_state, RepliesToLine, RunsScript}
use Rattle.btr_live.specs.OneLane.{AreInLane, FitsLeft, OneLaneIsTheModel, OneSessionIsTheModel}
use Rattle.btr_live.proofs.NumberLemmas.{given_rest, in_one}
use Rattle.btr_live.proofs.TurnEntries.{Adds, adds_none, adds_above, committed_adds, landed_adds, next_current, IsStepOf, as_step}
use Rattle.btr_live.proofs.StoreSteps.{IsDone, IsLast, all_numbers, room, store_of, Stepped, stepped, at_most}

-- ---- one lane

-- The items of the lane of all lines are all items.
all_items : {A : Type 0} (lane : ℕ) (script : List ScriptLine) (items : List A) → AreInLane lane script → length items ≡ length script → of_lane lane (lanes_of script) items ≡ items
all_items lane [] [] in_lane each = refl
all_items lane [] (item ∷ items) in_lane each = absurd (omega (arith, each))
all_items lane (line ∷ script) [] in_lane each = absurd (omega (arith, each))
all_items lane (line ∷ script) (item ∷ items) in_lane each =
    let rest = all_items lane script items in_lane.1 (omega (arith, each)) in
    ap (λ t. cond t (item ∷ of_lane lane (lanes_of script) items) (of_lane lane (lanes_of script) items)) (eq-eqb line.lane lane in_lane.0)
    ∙ ap (λ l. item ∷ l) rest

-- Another lane has none.
no_items : {A : Type 0} (lane k : ℕ) (script : List ScriptLine) (items : List A) → (k ≡ lane → ⊥) → AreInLane lane script → of_lane k (lanes_of script) items ≡ []
no_items lane k [] items other in_lane = refl
no_items lane k (line ∷ script) [] other in_lane = refl
no_items lane k (line ∷ script) (item ∷ items) other in_lane =
    ap (λ t. cond t (item ∷ of_lane k (lanes_of script) items) (of_lane k (lanes_of script) items))
    (ne_eqb line.lane k (λ same. other (sym same ∙ in_lane.0)))
    ∙ no_items lane k script items other in_lane.1

-- A lane without lines added nothing.
no_lines : (batch : ℕ) (start : StoreState) (log : LogState) (old : LaneState) (lines : List (Option Line)) (replies : List LineReply) (own : List ℕ) (new : LaneState) → lines ≡ [] → RunsLines batch start log old lines replies own new → own ≡ []
no_lines batch start log old [] [] own new none is = is.0
no_lines batch start log old [] (reply ∷ replies) own new none is = absurd is
no_lines batch start log old (line ∷ lines) replies own new none is = absurd (cc)

-- A number that is not at least 1 is 0.
none_if : (k : ℕ) → (1 ≤ k → ⊥) → k ≡ 0
none_if k none =
    elim (cases_lt 0 k) [
      | inl some ↦ absurd (none some)
      | inr low ↦ omega (arith, low)
    ]

-- What counts as none is false.
not_failed : (b : Bool) → one b ≡ 0 → false ≡ b
not_failed true none = absurd (omega (arith, none))
not_failed false none = refl

-- ---- what one line did

module _ (start : StoreState) (log : LogState) (all : Follows log.history) where
  -- A line was answered in a turn, which may have seen more than it was admitted to.
  record InTurn (saw_failure : Bool) (a : List Entry) (m : Meaning) (reply : LineReply) (own : List ℕ) (next : List Entry) : Type 0 where
    pub at : List Entry
    pub after : StartsWith at a
    pub begins : StartsWith log.history at
    pub adds : Adds at reply own next
    pub stops : saw_failure ≡ true → own ≡ []
    pub done : a ≡ at → IsDone start log saw_failure at m reply own next

  -- The turn of an entry that is no distillate.
  plain_turn : (saw_failure : Bool) (a : List Entry) (e : Entry) (reply : LineReply) (own : List ℕ) (next : List Entry) → OffersEntry start log saw_failure a e reply own next → InTurn saw_failure a (Commits e) reply own next
  plain_turn saw_failure a e reply own next is =
      let adds : Adds is.1.0 reply own next = subst (λ r. Adds is.1.0 r own next) (sym is.2) (committed_adds start log is.1.0 e is.0 own next is.1.3) in record {
        at = is.1.0;
        after = is.1.1;
        begins = is.1.2;
        adds = adds;
        stops = λ heard. let refused = is.3 heard in adds.stops refused.0 refused.1;
        done = λ same. (is.0, is.1.3, is.1.4, is.2, is.3);
      }

  -- The turn of a distillate: its plan is that of the history of the turn.
  landing_turn : (saw_failure : Bool) (a : List Entry) (stream : ℕ) (cut : List RangeValue) (added : List Point) (reads : Reads) (reply : LineReply) (own : List ℕ) (next : List Entry) → Offers start log saw_failure a (entries.Distillate stream cut added reads) reply own next → InTurn saw_failure a (Commits (entries.Distillate stream cut added reads)) reply own next
  landing_turn saw_failure a stream cut added reads reply own next is =
      let at : List Entry = is.4.0 in
      let adds : Adds at reply own next = subst (λ r. Adds at r own next) (sym is.5) (landed_adds start log at is.0 is.3 own next is.4.3) in record {
        at = at;
        after = is.4.1;
        begins = is.4.2;
        adds = adds;
        stops = λ heard. let refused = is.6 heard in adds.stops refused.0 refused.1;
        done = λ same.
            let made : IsNextPlan at stream is.0 = subst (λ x. IsNextPlan x stream is.0) same is.1 in
            let step : IsStepOf start log all at is.4.2 is.0 made.of (next_current at stream is.0 made) is.3 own next =
            as_step start log all at is.4.2 is.0 made.of (next_current at stream is.0 made) is.3 own next is.4.3 in
            (step.step, subst (λ e. Committed start log at e step.step own next) is.2 step.committed, step.says_sealed is.4.4, is.5 ∙ step.same, is.6);
      }

  -- What is no commit was answered at the history to which the line was admitted.
  idle_turn : (saw_failure : Bool) (a : List Entry) (m : Meaning) (reply : LineReply) (own : List ℕ) (next : List Entry) → StartsWith log.history a → IsIdle a own next → IsDone start log saw_failure a m reply own next → InTurn saw_failure a m reply own next
  idle_turn saw_failure a m reply own next begins idle done = record {
    at = a;
    after = starts_refl a;
    begins = begins;
    adds = adds_none a reply own next idle;
    stops = λ heard. idle.own;
    done = λ same. done;
  }

  -- The turn of a line.
  in_turn : (saw_failure : Bool) (a : List Entry) (m : Meaning) (reply : LineReply) (own : List ℕ) (next : List Entry) → StartsWith log.history a → Answers start log saw_failure a m reply own next → InTurn saw_failure a m reply own next
  in_turn saw_failure a (Commits (entries.Create id)) reply own next begins is = plain_turn saw_failure a (entries.Create id) reply own next is
  in_turn saw_failure a (Commits (entries.Define id spec)) reply own next begins is = plain_turn saw_failure a (entries.Define id spec) reply own next is
  in_turn saw_failure a (Commits (entries.Commit stream cut added)) reply own next begins is = plain_turn saw_failure a (entries.Commit stream cut added) reply own next is
  in_turn saw_failure a (Commits (entries.Distillate stream cut added reads)) reply own next begins is =
      landing_turn saw_failure a stream cut added reads reply own next is
  in_turn saw_failure a (Commits (entries.Retire stream first)) reply own next begins is = plain_turn saw_failure a (entries.Retire stream first) reply own next is
  in_turn saw_failure a (Asks query) reply own next begins is = idle_turn saw_failure a (Asks query) reply own next begins is.1 is
  in_turn saw_failure a (Holds count) reply own next begins is = idle_turn saw_failure a (Holds count) reply own next begins is.1 is
  in_turn saw_failure a (Current version) reply own next begins is = idle_turn saw_failure a (Current version) reply own next begins is.1 is
  in_turn saw_failure a (Refuses reason) reply own next begins is = idle_turn saw_failure a (Refuses reason) reply own next begins is.1 is

  -- ---- a lane that runs alone

  -- The lane knows all entries so far, and all that follow are its own.
  record Alone (s : LaneState) (stopped : Bool) (own : List ℕ) : Type 0 where
    pub begins : StartsWith log.history s.history
    pub known : stopped ≡ true → IsLast log s.history s.saw_failure
    pub numbers : (n : ℕ) → times n own ≡ given (length s.history + one stopped) (all_numbers log) n

  -- A history is no longer than the one that the lane knows, if it has no number more.
  no_longer : (s : LaneState) (stopped : Bool) (own : List ℕ) (at : List Entry) → Alone s stopped own → StartsWith log.history at → length at ≤ length s.history + one stopped → length at ≤ length s.history
  no_longer s true own at alone begins high =
      let last = alone.known refl in
      let same : length log.history ≡ length s.history = ap (λ (x : List Entry). length x) last.last in
      let inside = starts_length log.history at begins in
      omega (arith, same, inside)
  no_longer s false own at alone begins high = omega (arith, high)

  -- The turn of its next line is at the history that it knows, since nobody else has the next number.
  same_history : (s : LaneState) (stopped : Bool) (own first rest : List ℕ) (at : List Entry) → Alone s stopped own → own ≡ first ++ rest → StartsWith at s.history → StartsWith log.history at → ((n : ℕ) → 1 ≤ times n first → length at < n) → ((n : ℕ) → 1 ≤ times n rest → length at < n) → at ≡ s.history
  same_history s stopped own first rest at alone split after begins above later =
      let n : ℕ = length s.history + one stopped + 1 in
      elim (cases_lt (length s.history + one stopped) (length at)) [
        | inr high ↦ starts_whole at s.history after (no_longer s stopped own at alone begins high)
        | inl low ↦
            let inside = starts_length log.history at begins in
            let once = given_inside (length s.history + one stopped) (all_numbers log) n (omega arith) (omega (arith, low, inside)) in
            let every = alone.numbers n in
            let sum = ap (times n) split in
            let both = times_append n first rest in
            let no_first = none_if (times n first) (λ some. let high = above n some in omega (arith, high, low)) in
            let no_rest = none_if (times n rest) (λ some. let high = later n some in omega (arith, high, low)) in
            absurd (omega (arith, once, every, sum, both, no_first, no_rest))
      ]

  -- After the last line it knows all entries, and whether the device failed.
  all_known : (s : LaneState) (stopped : Bool) (own : List ℕ) → Alone s stopped own → own ≡ [] → (s.history ≡ log.history) × (stopped ≡ is_some log.failed)
  all_known s true own alone none = let last = alone.known refl in (sym last.last, sym last.failed)
  all_known s false own alone none =
      let n : ℕ = all_numbers log in
      let long = starts_length log.history s.history alone.begins in
      elim (cases_lt (length s.history + one false) n) [
        | inl low ↦
            let once = given_inside (length s.history + one false) n n low (omega arith) in
            let every = alone.numbers n in
            let no = ap (times n) none in
            absurd (omega (arith, once, every, no))
        | inr high ↦ (
          sym (starts_whole log.history s.history alone.begins (omega (arith, high))),
          not_failed (is_some log.failed) (omega (arith, high, long)),
        )
      ]

  -- ---- what later lines add

  module _ (batch : ℕ) where
    -- The turn of a line that ran.
    turn_of : (old : LaneState) (line : Option Line) (reply : LineReply) (own : List ℕ) (new : LaneState) → (is : RunsLine batch start log old line reply own new) → InTurn old.saw_failure is.admitted is.asked reply own new.history
    turn_of old line reply own new is = in_turn old.saw_failure is.admitted is.asked reply own new.history is.begins is.answers

    -- Each number of lines is above the history that their lane knew.
    lines_above : (n : ℕ) (old : LaneState) (lines : List (Option Line)) (replies : List LineReply) (own : List ℕ) (new : LaneState) → RunsLines batch start log old lines replies own new → 1 ≤ times n own → length old.history < n
    lines_above n old [] [] own new is some = let none = ap (times n) is.0 in absurd (omega (arith, some, none))
    lines_above n old [] (reply ∷ replies) own new is some = absurd is
    lines_above n old (line ∷ lines) [] own new is some = absurd is
    lines_above n old (line ∷ lines) (reply ∷ replies) own new is some =
        let ran : RunsLine batch start log old line reply is.0 is.2 = is.4 in
        let turn : InTurn old.saw_failure ran.admitted ran.asked reply is.0 is.2.history = turn_of old line reply is.0 is.2 ran in
        let low = starts_length turn.at old.history (starts_trans turn.at ran.admitted old.history turn.after ran.after) in
        let high = starts_length is.2.history turn.at turn.adds.later in
        let sum = ap (times n) is.3 in
        let both = times_append n is.0 is.1 in
        elim (cases_lt 0 (times n is.0)) [
          | inl first ↦ let above = adds_above turn.at reply is.0 is.2.history turn.adds n first in omega (arith, low, above)
          | inr none ↦
              let above = lines_above n is.2 lines replies is.1 new is.5 (omega (arith, some, none, sum, both)) in
              omega (arith, low, high, above)
        ]

    -- Lines add nothing after a reply said that the device failed.
    lines_reported : (n : ℕ) (old : LaneState) (lines : List (Option Line)) (replies : List LineReply) (own : List ℕ) (new : LaneState) → RunsLines batch start log old lines replies own new → old.saw_failure ≡ true → times n own ≡ 0
    lines_reported n old [] [] own new is heard = ap (times n) is.0
    lines_reported n old [] (reply ∷ replies) own new is heard = absurd is
    lines_reported n old (line ∷ lines) [] own new is heard = absurd is
    lines_reported n old (line ∷ lines) (reply ∷ replies) own new is heard =
        let ran : RunsLine batch start log old line reply is.0 is.2 = is.4 in
        let turn : InTurn old.saw_failure ran.admitted ran.asked reply is.0 is.2.history = turn_of old line reply is.0 is.2 ran in
        let none : times n is.0 ≡ 0 = ap (times n) (turn.stops heard) in
        let still : is.2.saw_failure ≡ true = ran.saw_failure ∙ ap (λ t. t || tells_failure ran.asked reply) heard in
        let rest = lines_reported n is.2 lines replies is.1 new is.5 still in
        let sum = ap (times n) is.3 in
        let both = times_append n is.0 is.1 in
        omega (arith, none, rest, sum, both)

    -- ---- all lines of a lane that runs alone

    module _ (fits : FitsLeft start log) (runs : start.stopped ≡ false) where
      -- The state of the model of a lane between two lines.
      abbrev state_of : LaneState → Bool → State
      state_of s stopped = record { store = store_of start s.history stopped; waiting = s.waiting }

      -- Lines had the model's replies, and the store is then that of the log.
      record RanAlone (s : State) (script : List ScriptLine) (replies : List LineReply) : Type 0 where
        pub last : State
        pub replied : RunsScript batch s script replies last
        pub history : last.store.history ≡ log.history
        pub stopped : last.store.stopped ≡ is_some log.failed

      -- If the store was not stopped before, nobody had seen the device fail before.
      not_before : (s : LaneState) (stopped : Bool) (own first rest : List ℕ) → Alone s stopped own → own ≡ first ++ rest → stopped ≡ false → first ≡ [] → ((n : ℕ) → times n rest ≡ 0) → log.history ≡ s.history → is_some log.failed ≡ true → ⊥
      not_before s stopped own first rest alone split not none no_rest last failed =
          let n : ℕ = all_numbers log in
          let same : length log.history ≡ length s.history = ap (λ (x : List Entry). length x) last in
          let one_failed : one (is_some log.failed) ≡ 1 = ap one failed in
          let zero_stopped : one stopped ≡ 0 = ap one not in
          let once = given_inside (length s.history + one stopped) n n (omega (arith, same, one_failed, zero_stopped)) (omega arith) in
          let every = alone.numbers n in
          let sum = ap (times n) split in
          let both = times_append n first rest in
          let no_first : times n first ≡ 0 = ap (times n) none in
          let no_more = no_rest n in
          omega (arith, once, every, sum, both, no_first, no_more)

      -- The lines have the model's replies, one after another.
      lines_alone : (s : LaneState) (stopped : Bool) (script : List ScriptLine) (replies : List LineReply) (own : List ℕ) (new : LaneState) → Alone s stopped own → RunsLines batch start log s (map (λ (line : ScriptLine). line.line) script) replies own new → RanAlone (state_of s stopped) script replies
      lines_alone s stopped [] [] own new alone is =
          let ends = all_known s stopped own alone is.0 in
          record { last = state_of s stopped; replied = refl; history = ends.0; stopped = ends.1 }
      lines_alone s stopped [] (reply ∷ replies) own new alone is = absurd is
      lines_alone s stopped (line ∷ script) [] own new alone is = absurd is
      lines_alone s stopped (line ∷ script) (reply ∷ replies) own new alone is =
          let after : LaneState = is.2 in
          let ran : RunsLine batch start log s line.line reply is.0 after = is.4 in
          let turn : InTurn s.saw_failure ran.admitted ran.asked reply is.0 after.history = turn_of s line.line reply is.0 after ran in
          let later : (n : ℕ) → 1 ≤ times n is.1 → length turn.at < n = λ n some.
          let above = lines_above n after (map (λ (line : ScriptLine). line.line) script) replies is.1 new is.5 some in
          let high = starts_length after.history turn.at turn.adds.later in
          omega (arith, above, high) in
          let at_is : turn.at ≡ s.history =
          same_history s stopped own is.0 is.1 turn.at alone is.3 (starts_trans turn.at ran.admitted s.history turn.after ran.after) turn.begins (adds_above turn.at reply is.0 after.history turn.adds) later in
          let admitted_is : ran.admitted ≡ s.history =
          starts_whole ran.admitted s.history ran.after
          (let less = starts_length turn.at ran.admitted turn.after in
          let same : length turn.at ≡ length s.history = ap (λ (x : List Entry). length x) at_is in
          omega (arith, less, same)) in
          let done : IsDone start log s.saw_failure s.history ran.asked reply is.0 after.history =
          subst (λ h. IsDone start log s.saw_failure h ran.asked reply is.0 after.history) at_is (turn.done (admitted_is ∙ sym at_is)) in
          let no_stop : stopped ≡ false → tells_failure ran.asked reply ≡ true → is.0 ≡ [] → log.history ≡ s.history → is_some log.failed ≡ true → ⊥ =
          λ not tells none.
          not_before s stopped own is.0 is.1 alone is.3 not none
          (λ n. lines_reported n after (map (λ (line : ScriptLine). line.line) script) replies is.1 new is.5 (ran.saw_failure ∙ or_right s.saw_failure (tells_failure ran.asked reply) tells)) in
          let step : Stepped start log fits runs s.history stopped s.saw_failure ran.asked reply is.0 after.history =
          stepped start log fits runs s.history stopped s.saw_failure ran.asked reply is.0 after.history alone.begins alone.known no_stop done in
          let known : step.stops ≡ true → IsLast log after.history after.saw_failure = λ stops.
          let l = step.known stops in record { last = l.last; failed = l.failed; saw_failure = ran.saw_failure ∙ l.saw_failure } in
          let next : Alone after step.stops is.1 = record {
            begins = step.ends;
            known = known;
            numbers = given_rest (length s.history + one stopped) (length after.history + one step.stops) (all_numbers log) is.0 is.1 own is.3
                (at_most log after.history step.stops after.saw_failure step.ends known) step.moves alone.numbers;
          } in
          let replied : RepliesToLine batch (state_of s stopped) line.line ran.asked reply (state_of after step.stops) = record {
            means = subst (λ h. Means batch h s.waiting line.line ran.asked) admitted_is ran.means;
            replied = step.replied;
            waiting = ran.waiting ∙ ap (λ h. waiting_after s.waiting (fed h s.waiting line.line) ran.asked reply) admitted_is;
          } in
          let rest : RanAlone (state_of after step.stops) script replies = lines_alone after step.stops script replies is.1 new next is.5 in record {
            last = rest.last;
            replied = (state_of after step.stops, ran.asked, replied, rest.replied);
            history = rest.history;
            stopped = rest.stopped;
          }

-- ---- a whole run

-- Without a last round no number is added after the lanes.
no_last : (start : StoreState) (log : LogState) (low : List Entry) (last : Option (Result (List RefreshLine) AllocError)) (own : List ℕ) → LastRound start log low false last own → (n : ℕ) → times n own ≡ 0
no_last start log low None own is = is
no_last start log low (Some result) own is = absurd is

-- The state of a store with the history of its beginning.
abbrev state_with : StoreState → ℕ → Bool → State
state_with start left stopped = record { store = record { history = start.history; left = left; stopped = stopped; sealed = start.sealed }; waiting = none_waiting }

-- A lane begins with the store of its run.
begun_same : (start : StoreState) → start.stopped ≡ false → state_with start (room start start.history) false ≡ begun_state start
begun_same start runs =
    let same : room start start.history ≡ start.left = omega arith in
    ap₂ (λ left stopped. state_with start left stopped) same (sym runs)

-- Lines of one session that ran alone have the model's replies.
pub one_session : OneSessionIsTheModel
one_session batch start log script replies own ran all starts sound follows fits =
    let alone : Alone start log follows (lane_begun start.history) false own = record {
      begins = starts;
      known = λ stops. absurd (cc);
      numbers = λ n.
          let every = all n in
          let low : length start.history + one false ≡ length start.history = omega arith in
          let same = ap (λ low. given low (all_numbers log) n) low in
          omega (arith, every, same);
    } in
    let by_itself : RanAlone start log follows batch fits sound (state_with start (room start start.history) false) script replies =
    lines_alone start log follows batch fits sound (lane_begun start.history) false script replies own ran.0 alone ran.1 in record {
      last = by_itself.last;
      runs = subst (λ s. RunsScript batch s script replies by_itself.last) (begun_same start sound) by_itself.replied;
      history = by_itself.history;
      stopped = by_itself.stopped;
    }

module _ (batch lane : ℕ) (start : StoreState) (log : LogState) (script : List ScriptLine) (report : LiveReport) (own : List ℕ) (runs : RunsLive (in_own_feeds batch) false start log start.history script report own) (all : AreAllSince start.history log own) (in_lane : AreInLane lane script) where
  -- No other lane has a number.
  other_none : (k : ℕ) → (k ≡ lane → ⊥) → slice_index_or runs.mine k [] ≡ []
  other_none k other =
      no_lines batch start runs.middle (lane_begun start.history) (lane_lines k script) (of_lane k (lanes_of script) report.replies.items) (slice_index_or runs.mine k []) (runs.lanes.lanes k).0
      (no_items lane k script (map (λ (line : ScriptLine). line.line) script) other in_lane) (runs.lanes.lanes k).1

  -- All numbers are those of the one lane.
  mine_all : AreAllSince start.history log (slice_index_or runs.mine lane [])
  mine_all n =
      let sum = runs.numbers n in
      let only = in_one n lane runs.mine (λ k other. ap (times n) (other_none k other)) in
      let no_party : total (times n) runs.beside ≡ 0 = ap (λ (l : List (List ℕ)). total (times n) l) (runs.no_rounds refl) in
      let no_more = no_last start log runs.middle.history report.last runs.lastly runs.last n in
      let every = all n in
      omega (arith, sum, only, no_party, no_more, every)

  -- The lane ran on the log, and its lines and replies are all lines and replies.
  lane_ran : RunsLines batch start log (lane_begun start.history) (map (λ (line : ScriptLine). line.line) script) report.replies.items (slice_index_or runs.mine lane []) (runs.lanes.lanes lane).0
  lane_ran =
      let lines : List (Option Line) = map (λ (line : ScriptLine). line.line) script in
      let all_lines : lane_lines lane script ≡ lines = all_items lane script lines in_lane (length-map script (λ (line : ScriptLine). line.line)) in
      let all_replies : of_lane lane (lanes_of script) report.replies.items ≡ report.replies.items = all_items lane script report.replies.items in_lane runs.lanes.each in
      subst (λ ls. RunsLines batch start log (lane_begun start.history) ls report.replies.items (slice_index_or runs.mine lane []) (runs.lanes.lanes lane).0) all_lines
      (subst (λ rs. RunsLines batch start log (lane_begun start.history) (lane_lines lane script) rs (slice_index_or runs.mine lane []) (runs.lanes.lanes lane).0) all_replies
      (lines_last start log runs.middle runs.goes_on batch (lane_begun start.history) (lane_lines lane script) (of_lane lane (lanes_of script) report.replies.items) (slice_index_or runs.mine lane []) (runs.lanes.lanes lane).0 (runs.lanes.lanes lane).1))

-- A script in one lane that ran alone has the model's replies.
pub one_lane : OneLaneIsTheModel
one_lane batch lane start log script report own runs all sound follows fits in_lane =
    one_session batch start log script report.replies.items (slice_index_or runs.mine lane [])
    ((runs.lanes.lanes lane).0, lane_ran batch lane start log script report own runs all in_lane)
    (mine_all batch lane start log script report own runs all in_lane)
    (starts_trans log.history runs.middle.history start.history runs.goes_on.begins runs.after) sound follows fits
