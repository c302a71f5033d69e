-- The laws of lanes, which the ghost members of jobs cite: what is said is true for ever, and also of who had seen less.
use Rattle.std.specs.Prelude.{◌≡◌, ℕ, suc, Bool, List, [], ◌∷◌, length, Option}
use Rattle.std.proofs.Common.{refl, ap}
use Rattle.btr_hist.specs.declared.entry.Entry.{Entry}
use Rattle.btr_hist.specs.declared.entry.Entry.TheVariants as entries
use Rattle.btr_text.specs.declared.script.Line.{Line}
use Rattle.btr_text.specs.declared.reply.LineReply.{LineReply}
use Rattle.btr_gate.specs.Prefixes.{StartsWith}
use Rattle.btr_gate.proofs.PrefixLemmas.{starts_trans}
use Rattle.btr_jobs.specs.States.{StoreState, LogState, GoesOn}
use Rattle.btr_jobs.specs.TurnLaws.{history_later, committed_still, landed_lasts}
use Rattle.btr_live.specs.Meaning.{Meaning, Commits, Asks, Holds, Current, Refuses}
use Rattle.btr_live.specs.Lanes.{OffersEntry, Offers, Answers, LaneState, begun, RunsLine, RunsEach, RunsLines, RunsLane}

-- There is a reply to each line.
pub each_replied : {S : Type 0} (Step : S → Option Line → LineReply → List ℕ → S → Type 0) (old : S) (lines : List (Option Line))
    (replies : List LineReply) (own : List ℕ) (new : S) → RunsEach Step old lines replies own new → length replies ≡ length lines
each_replied Step old [] [] own new is = refl
each_replied Step old [] (reply ∷ replies) own new is = absurd is
each_replied Step old (line ∷ lines) [] own new is = absurd is
each_replied Step old (line ∷ lines) (reply ∷ replies) own new is = ap suc (each_replied Step is.2 lines replies is.1 new is.5)

-- What is said of each line that ran may be said otherwise.
pub each_implied : {S : Type 0} (Step More : S → Option Line → LineReply → List ℕ → S → Type 0)
    → ((old : S) (line : Option Line) (reply : LineReply) (own : List ℕ) (new : S)
    → Step old line reply own new → More old line reply own new)
    → (old : S) (lines : List (Option Line)) (replies : List LineReply) (own : List ℕ) (new : S)
    → RunsEach Step old lines replies own new → RunsEach More old lines replies own new
each_implied Step More implies old [] [] own new is = is
each_implied Step More implies old [] (reply ∷ replies) own new is = absurd is
each_implied Step More implies old (line ∷ lines) [] own new is = absurd is
each_implied Step More implies old (line ∷ lines) (reply ∷ replies) own new is =
    (is.0, is.1, is.2, is.3, implies old line reply is.0 is.2 is.4, each_implied Step More implies is.2 lines replies is.1 new is.5)

module _ (start : StoreState) (late early : LogState) (on : GoesOn start late early) where
  entry_lasts : (saw_failure : Bool) (a : List Entry) (e : Entry) (reply : LineReply) (own : List ℕ) (next : List Entry)
      → OffersEntry start early saw_failure a e reply own next → OffersEntry start late saw_failure a e reply own next
  entry_lasts saw_failure a e reply own next is =
      let p = is.1.0 in
      let turn = committed_still start late early p e is.0 own next on is.1.3 in
      (is.0, (p, is.1.1, history_later start late early p on is.1.2, turn, is.1.4), is.2, is.3)

  offers_lasts : (saw_failure : Bool) (a : List Entry) (e : Entry) (reply : LineReply) (own : List ℕ) (next : List Entry)
      → Offers start early saw_failure a e reply own next → Offers start late saw_failure a e reply own next
  offers_lasts saw_failure a (entries.Create id) reply own next is = entry_lasts saw_failure a (entries.Create id) reply own next is
  offers_lasts saw_failure a (entries.Define id spec) reply own next is =
      entry_lasts saw_failure a (entries.Define id spec) reply own next is
  offers_lasts saw_failure a (entries.Commit stream cut added) reply own next is =
      entry_lasts saw_failure a (entries.Commit stream cut added) reply own next is
  offers_lasts saw_failure a (entries.Distillate stream cut added reads) reply own next is =
      (is.0, is.1, is.2, is.3, landed_lasts start late early a is.0 is.3 own next on is.4, is.5, is.6)
  offers_lasts saw_failure a (entries.Retire stream first) reply own next is =
      entry_lasts saw_failure a (entries.Retire stream first) reply own next is

  -- What was asked for had its reply for ever.
  pub answers_lasts : (saw_failure : Bool) (a : List Entry) (m : Meaning) (reply : LineReply) (own : List ℕ) (next : List Entry)
      → Answers start early saw_failure a m reply own next → Answers start late saw_failure a m reply own next
  answers_lasts saw_failure a (Commits e) reply own next is = offers_lasts saw_failure a e reply own next is
  answers_lasts saw_failure a (Asks query) reply own next is = is
  answers_lasts saw_failure a (Holds count) reply own next is = is
  answers_lasts saw_failure a (Current version) reply own next is = is
  answers_lasts saw_failure a (Refuses reason) reply own next is = is

  -- What a line replied is true for ever.
  pub line_lasts : (batch : ℕ) (old : LaneState) (line : Option Line) (reply : LineReply) (own : List ℕ) (new : LaneState)
      → RunsLine batch start early old line reply own new → RunsLine batch start late old line reply own new
  line_lasts batch old line reply own new is = record {
    admitted = is.admitted;
    after = is.after;
    begins = history_later start late early is.admitted on is.begins;
    asked = is.asked;
    means = is.means;
    answers = answers_lasts old.saw_failure is.admitted is.asked reply own new.history is.answers;
    waiting = is.waiting;
    saw_failure = is.saw_failure;
  }

  -- So is what lines replied one after another.
  pub lines_last : (batch : ℕ) (old : LaneState) (lines : List (Option Line)) (replies : List LineReply) (own : List ℕ)
      (new : LaneState) → RunsLines batch start early old lines replies own new → RunsLines batch start late old lines replies own new
  lines_last batch = each_implied (RunsLine batch start early) (RunsLine batch start late) (line_lasts batch)

  -- So is what a lane did.
  pub lane_lasts : (batch : ℕ) (low : List Entry) (lines : List (Option Line)) (replies : List LineReply) (own : List ℕ)
      → RunsLane batch start early low lines replies own → RunsLane batch start late low lines replies own
  lane_lasts batch low lines replies own is = (is.0, lines_last batch (begun low) lines replies own is.0 is.1)

-- A lane between two lines that knows another history.
abbrev pub knowing : LaneState → List Entry → LaneState
knowing s h = record { history = h; saw_failure = s.saw_failure; waiting = s.waiting }

module _ (batch : ℕ) (start : StoreState) (log : LogState) where
  -- What a line replied is true of a lane that had seen less.
  pub line_lowers : (old : LaneState) (less : List Entry) (line : Option Line) (reply : LineReply) (own : List ℕ) (new : LaneState)
      → StartsWith old.history less → RunsLine batch start log old line reply own new
      → RunsLine batch start log (knowing old less) line reply own new
  line_lowers old less line reply own new starts is = record {
    admitted = is.admitted;
    after = starts_trans is.admitted old.history less is.after starts;
    begins = is.begins;
    asked = is.asked;
    means = is.means;
    answers = is.answers;
    waiting = is.waiting;
    saw_failure = is.saw_failure;
  }

  -- So is what a lane did.
  pub lane_lowers : (low less : List Entry) (lines : List (Option Line)) (replies : List LineReply) (own : List ℕ)
      → StartsWith low less → RunsLane batch start log low lines replies own → RunsLane batch start log less lines replies own
  lane_lowers low less [] [] own starts is = (begun less, (is.1.0, refl))
  lane_lowers low less [] (reply ∷ replies) own starts is = absurd is.1
  lane_lowers low less (line ∷ lines) [] own starts is = absurd is.1
  lane_lowers low less (line ∷ lines) (reply ∷ replies) own starts is =
      (is.0, (is.1.0, is.1.1, is.1.2, is.1.3, line_lowers (begun low) less line reply is.1.0 is.1.2 starts is.1.4, is.1.5))
