-- Lemmas on a whole run: lanes and rounds, then the last round, and the one history that they make.
use Rattle.std.specs.Prelude.{◌≡◌, ℕ, zero, suc, ◌+◌, ◌≤◌, List, [], ◌∷◌, ◌++◌, length, map, slice_get, slice_index_or, Bool, true, false, Option, None, Some, option_map}
use Rattle.std.specs.List.{AllByRecursion}
use Rattle.std.proofs.Common.{refl, sym, ap, ◌∙◌, subst, arith}
use Rattle.std.proofs.lemmas.List.{length-map}
use Rattle.btr_hist.specs.declared.entry.Entry.{Entry}
use Rattle.btr_text.specs.declared.script.ScriptLine.{ScriptLine}
use Rattle.btr_text.specs.declared.reply.LineReply.{LineReply}
use Rattle.btr_gate.specs.Numbers.{one}
use Rattle.btr_gate.specs.Prefixes.{StartsWith}
use Rattle.btr_gate.proofs.NumberLemmas.{times_append}
use Rattle.btr_gate.proofs.PrefixLemmas.{starts_trans}
use Rattle.btr_disk.specs.declared.disk.Disk.{Ghosts}
use Rattle.btr_hall.specs.declared.session.Hall.{Hall}
use Rattle.btr_hall.specs.declared.session.Session.{Session}
use Rattle.btr_jobs.specs.States.{StoreState, LogState, GoesOn, log_seen, start_of}
use Rattle.btr_jobs.specs.Jobs.{AllDid, Does}
use Rattle.btr_jobs.proofs.StateLemmas.{history_goes_on}
use Rattle.btr_live.specs.declared.part.ScriptPart.{ScriptPart}
use Rattle.btr_live.specs.declared.live.LiveReport.{LiveReport}
use Rattle.btr_text.specs.declared.script.Line.{Line}
use Rattle.btr_work.specs.Laws.{AreAllSince}
use Rattle.btr_live.specs.declared.lane.Lane.{Lane}
use Rattle.btr_live.specs.declared.own_feeds.OwnFeeds.{OwnFeeds}
use Rattle.btr_live.specs.Lanes.{begun, RunsLane, LaneRan, LinesRan, FedRan, in_feeds, in_own_feeds}
use Rattle.btr_live.specs.LaneLaws.{lane_lasts}
use Rattle.btr_live.specs.Running.{RanInOwn}
use Rattle.btr_live.specs.RoundsLaws.{rounds_last, rounds_lower}
use Rattle.btr_live.specs.OneHistory.{of_lane, lanes_of, lane_lines, IsParty, OneHistory, RunsAll}
use Rattle.btr_live.specs.Parts.{PartDid, LaneDidAt, IsRunPrepared, lane_at, lines_in, lines_at, replies_in, replies_at}
use Rattle.btr_live.specs.Live.{LastRound, RunsLive, RunsAreOneHistory}
use Rattle.btr_live.proofs.PartLemmas.{RanParts, ran_parts, did_fed}
use Rattle.btr_live.proofs.RoundLemmas.{rounds_most, last_makes}
use Rattle.btr_live.proofs.OrderLemmas.{of_lane-length}

module _ {F : Type 0} (ran : LinesRan F) (replied : (start : StoreState) (log : LogState) (low : List Entry) (was now : F) (lines : List (Option Line)) (replies : List LineReply) (own : List ℕ) → ran start log low was now lines replies own → length replies ≡ length lines) (feeds : List F) (materialize : Bool) (script : List ScriptLine) (before after : List (ScriptPart F)) (prepared : IsRunPrepared feeds materialize script before) where
  -- Each lane has as many replies as lines.
  did_each : (start : StoreState) (log : LogState) (low : List Entry) (was now : Option (Lane F)) (own : List ℕ) → LaneDidAt ran start log low was now own → length (replies_in now) ≡ length (lines_in was)
  did_each start log low None None own did = refl
  did_each start log low None (Some now) own did = absurd did
  did_each start log low (Some was) None own did = absurd did
  did_each start log low (Some was) (Some now) own did = replied start log low was.feeding now.feeding was.work.lines now.work.replies own did

  pub replies_each : (start : StoreState) (log : LogState) (low : List Entry) (own : List ℕ) → StartsWith log.history low → AllDid (PartDid ran) start log low before after own → (k : ℕ) → length (replies_at after k) ≡ length (lane_lines k script)
  replies_each start log low own starts did k =
      let all : RanParts ran (length script) start log low before after own = ran_parts ran (length script) start log low starts before after own prepared.limit did in
      did_each start log low (lane_at before k) (lane_at after k) (slice_index_or all.mine k []) (all.lanes k) ∙ ap length (prepared.lines k)

  -- Each lane has as many replies as the script has lines of it.
  pub left_each : (lanes : List ℕ) → lanes ≡ lanes_of script → (start : StoreState) (log : LogState) (low : List Entry) (own : List ℕ) → StartsWith log.history low → AllDid (PartDid ran) start log low before after own → (k : ℕ) → length (replies_at after k) ≡ length (of_lane k lanes lanes)
  left_each lanes same start log low own starts did k =
      replies_each start log low own starts did k
      ∙ of_lane-length k (lanes_of script) (map (λ (line : ScriptLine). line.line) script) (lanes_of script) (length-map script (λ (line : ScriptLine). line.line) ∙ sym (length-map script (λ (line : ScriptLine). line.lane))) refl
      ∙ sym (ap (λ ls. length (of_lane k ls ls)) same)

  -- The parts did what all lanes and rounds do.
  pub lanes_ran : (replies : List LineReply) → length replies ≡ length script → (lanes : List ℕ) → lanes ≡ lanes_of script → (((k : ℕ) → length (replies_at after k) ≡ length (of_lane k lanes lanes)) → (k : ℕ) → of_lane k lanes replies ≡ replies_at after k) → (back : List F) → ((start : StoreState) (log : LogState) (low : List Entry) (own : List ℕ) → AllDid (PartDid ran) start log low before after own → (k : ℕ) → option_map (λ (l : Lane F). l.feeding) (lane_at after k) ≡ slice_get back k) → (start : StoreState) (log : LogState) (low : List Entry) (own : List ℕ) → StartsWith log.history low → AllDid (PartDid ran) start log low before after own → RunsAll (in_feeds ran feeds back) materialize start log low script replies own
  lanes_ran replies each lanes same reported back fed start log low own starts did =
      let all : RanParts ran (length script) start log low before after own = ran_parts ran (length script) start log low starts before after own prepared.limit did in record {
        mine = all.mine;
        beside = all.beside;
        lanes = record {
          each = each;
          lanes = λ k.
              let here = reported (left_each lanes same start log low own starts did) k in
              let there : of_lane k (lanes_of script) replies ≡ replies_at after k = subst (λ ls. of_lane k ls replies ≡ replies_at after k) same here in
              let did_k = did_fed ran (length script) start log low starts (lane_at before k) (lane_at after k) (slice_index_or all.mine k []) (all.lanes k) in
              subst (λ rs. FedRan ran start log low (slice_get feeds k) (slice_get back k) (lane_lines k script) rs (slice_index_or all.mine k [])) (sym there)
              (subst (λ ls. FedRan ran start log low (slice_get feeds k) (slice_get back k) ls (replies_at after k) (slice_index_or all.mine k [])) (prepared.lines k)
              (subst (λ f. FedRan ran start log low (slice_get feeds k) f (lines_at before k) (replies_at after k) (slice_index_or all.mine k [])) (fed start log low own did k)
              (subst (λ f. FedRan ran start log low f (option_map (λ (l : Lane F). l.feeding) (lane_at after k)) (lines_at before k) (replies_at after k) (slice_index_or all.mine k [])) (prepared.feeds_are k) did_k)));
          parties = all.parties;
        };
        count = all.count ∙ prepared.parties;
        numbers = all.numbers;
      }

-- What is said of each lane may be said otherwise.
pub all_implied : (Ran More : LaneRan) (materialize : Bool) (start : StoreState) (log : LogState) (low : List Entry) (script : List ScriptLine) (replies : List LineReply) (own : List ℕ) → ((k : ℕ) (lines : List (Option Line)) (rs : List LineReply) (mine : List ℕ) → Ran k start log low lines rs mine → More k start log low lines rs mine) → RunsAll Ran materialize start log low script replies own → RunsAll More materialize start log low script replies own
all_implied Ran More materialize start log low script replies own implies ran = record {
  mine = ran.mine;
  beside = ran.beside;
  lanes = record {
    each = ran.lanes.each;
    lanes = λ k. implies k (lane_lines k script) (of_lane k (lanes_of script) replies) (slice_index_or ran.mine k []) (ran.lanes.lanes k);
    parties = ran.lanes.parties;
  };
  count = ran.count;
  numbers = ran.numbers;
}

-- What all lanes did is true for ever, if it is so of each.
pub all_lasts : (Ran : LaneRan) → ((k : ℕ) (start : StoreState) (late early : LogState) (low : List Entry) (lines : List (Option Line)) (replies : List LineReply) (own : List ℕ) → GoesOn start late early → Ran k start early low lines replies own → Ran k start late low lines replies own) → (materialize : Bool) (start : StoreState) (late early : LogState) (low : List Entry) (script : List ScriptLine) (replies : List LineReply) (own : List ℕ) → GoesOn start late early → RunsAll Ran materialize start early low script replies own → RunsAll Ran materialize start late low script replies own
all_lasts Ran lasts materialize start late early low script replies own on ran = record {
  mine = ran.mine;
  beside = ran.beside;
  lanes = record {
    each = ran.lanes.each;
    lanes = λ k. lasts k start late early low (lane_lines k script) (of_lane k (lanes_of script) replies) (slice_index_or ran.mine k []) on (ran.lanes.lanes k);
    parties = λ k. rounds_last start (length script) late early low (slice_index_or ran.beside k []) on (ran.lanes.parties k);
  };
  count = ran.count;
  numbers = ran.numbers;
}

-- Lanes with feeds of their own, all of which are due with `batch` points.
pub fed_own : (batch : ℕ) (was now : List OwnFeeds) → AllByRecursion (λ (f : OwnFeeds). f.batch ≡ batch) was → (k : ℕ) (start : StoreState) (log : LogState) (low : List Entry) (lines : List (Option Line)) (replies : List LineReply) (own : List ℕ) → in_feeds RanInOwn was now k start log low lines replies own → in_own_feeds batch k start log low lines replies own
fed_own batch was now same k start log low lines replies own ran = by was now k same ran
  where
    by : (was now : List OwnFeeds) (k : ℕ) → AllByRecursion (λ (f : OwnFeeds). f.batch ≡ batch) was → FedRan RanInOwn start log low (slice_get was k) (slice_get now k) lines replies own → RunsLane batch start log low lines replies own
    by [] [] k same ran =
        subst (λ o. RunsLane batch start log low lines replies o) (sym ran.2)
        (subst (λ rs. RunsLane batch start log low lines rs []) (sym ran.1)
        (subst (λ ls. RunsLane batch start log low ls [] []) (sym ran.0) (begun low, (refl, refl))))
    by [] (n ∷ ns) zero same ran = absurd ran
    by [] (n ∷ ns) (suc k) same ran = by [] ns k same ran
    by (f ∷ fs) [] zero same ran = absurd ran
    by (f ∷ fs) [] (suc k) same ran = by fs [] k same.1 ran
    by (f ∷ fs) (n ∷ ns) zero same ran = subst (λ b. RunsLane b start log low lines replies own) same.0 ran
    by (f ∷ fs) (n ∷ ns) (suc k) same ran = by fs ns k same.1 ran

-- What was done says another thing, which it implies since the log goes on.
pub does_later : {D : Type 0} {disk : Ghosts D} (hall : Hall D disk) (old new : Session D disk) (What More : StoreState → LogState → List Entry → List ℕ → Type 0) → ((start : StoreState) (log : LogState) (low : List Entry) (own : List ℕ) → StartsWith log.history low → What start log low own → More start log low own) → Does hall old new What → Does hall old new More
does_later hall old new What More implies does = (
  does.0,
  does.1,
  λ h of. implies (start_of h hall) (log_seen h new) (log_seen h old).history does.0 (history_goes_on h new old does.1.seen) (does.2 h of),
)

no_party : (lists : List (List ℕ)) → length lists ≡ 0 → lists ≡ []
no_party [] none = refl
no_party (l ∷ lists) none = absurd (omega (arith, none))

one_most : (b : Bool) → one b ≤ 1
one_most true = omega arith
one_most false = omega arith

-- The last round after the lanes.
pub live_ran : (Ran : LaneRan) (materialize : Bool) (script : List ScriptLine) (report : LiveReport) (start : StoreState) (late early : LogState) (low : List Entry) (a b : List ℕ) → GoesOn start late early → StartsWith early.history low → RunsAll Ran materialize start early low script report.replies.items a → LastRound start late early.history materialize report.last b → RunsLive Ran materialize start late low script report (a ++ b)
live_ran Ran materialize script report start late early low a b on starts ran last = record {
  middle = early;
  goes_on = on;
  after = starts;
  mine = ran.mine;
  beside = ran.beside;
  lanes = ran.lanes;
  no_rounds = λ none. no_party ran.beside (ran.count ∙ ap one none);
  one_party = let count = ran.count in let most = one_most materialize in omega (arith, count, most);
  lastly = b;
  last = last;
  numbers = λ n.
      let both = times_append n a b in
      let all = ran.numbers n in
      omega (arith, both, all);
}

-- ---- one history

-- A script of which this is said of each lane, and said for ever, ran alone: it made one history.
pub one_history_of : (Ran : LaneRan) → ((k : ℕ) (start : StoreState) (late early : LogState) (low : List Entry) (lines : List (Option Line)) (replies : List LineReply) (own : List ℕ) → GoesOn start late early → Ran k start early low lines replies own → Ran k start late low lines replies own) → (materialize : Bool) (start : StoreState) (log : LogState) (script : List ScriptLine) (report : LiveReport) (own : List ℕ) → RunsLive Ran materialize start log start.history script report own → AreAllSince start.history log own → OneHistory Ran start log script report.replies.items
one_history_of Ran lasts materialize start log script report own runs all = record {
  begins = starts_trans log.history runs.middle.history start.history runs.goes_on.begins runs.after;
  mine = runs.mine;
  beside = runs.lastly ∷ runs.beside;
  runs = record {
    each = runs.lanes.each;
    lanes = λ k.
        lasts k start log runs.middle start.history (lane_lines k script) (of_lane k (lanes_of script) report.replies.items) (slice_index_or runs.mine k []) runs.goes_on (runs.lanes.lanes k);
    parties = λ k. elim k as (λ k. IsParty start log start.history (length script + 1) (slice_index_or (runs.lastly ∷ runs.beside) k [])) [
      | zero ↦
          rounds_most start 1 (length script + 1) log start.history runs.lastly (omega arith)
          (rounds_lower start 1 log runs.middle.history start.history runs.lastly runs.after
          (last_makes start log runs.middle.history materialize report.last runs.lastly runs.goes_on.begins runs.last))
      | suc k ↦
          let party : List ℕ = slice_index_or runs.beside k [] in
          rounds_most start (length script) (length script + 1) log start.history party (omega arith)
          (rounds_last start (length script) log runs.middle start.history party runs.goes_on (runs.lanes.parties k))
    ];
  };
  once = λ n.
      let sum = runs.numbers n in
      let every = all n in
      omega (arith, sum, every);
}

pub one_history : RunsAreOneHistory
one_history batch =
    one_history_of (in_own_feeds batch) (λ k start late early low lines replies own on ran. lane_lasts start late early on batch low lines replies own ran)
