-- What lines did that ran one after another in a session. The private promises of lanes and rounds, as jobs, are here too.
use Rattle.std.specs.Prelude.{◌≡◌, ℕ, Bool, true, ◌||◌, List, [], ◌∷◌, ◌++◌, Option}
use Rattle.std.specs.Option.{is_some}
use Rattle.btr_disk.specs.declared.disk.Disk.{Ghosts}
use Rattle.btr_hist.specs.declared.entry.Entry.{Entry}
use Rattle.btr_text.specs.declared.script.Line.{Line}
use Rattle.btr_text.specs.declared.reply.LineReply.{LineReply}
use Rattle.btr_gate.specs.Prefixes.{StartsWith}
use Rattle.btr_hall.specs.declared.session.Hall.{Hall}
use Rattle.btr_hall.specs.declared.session.Session.{Session}
use Rattle.btr_jobs.specs.States.{StoreState, LogState}
use Rattle.btr_jobs.specs.Jobs.{Does}
use Rattle.btr_live.specs.Feeds.{Waiting, FeedsValue, none_waiting, waiting_of}
use Rattle.btr_live.specs.declared.rounds.Rounds.{Rounds}
use Rattle.btr_live.specs.declared.lane.Lane.{Lane}
use Rattle.btr_live.specs.declared.own_feeds.OwnFeeds.{OwnFeeds}
use Rattle.btr_live.specs.Lanes.{LaneState, begun, RunsLines, RunsLane, LinesRan}
use Rattle.btr_live.specs.SharedLines.{Views}
use Rattle.btr_live.specs.SharedLanes.{SharedState, begun_shared, RunsSharedLines}
use Rattle.btr_live.specs.Rounds.{MakesRounds}

-- With feeds of the lane's own.
abbrev pub RanInOwn : LinesRan OwnFeeds
RanInOwn start log low was now lines replies own = RunsLane was.batch start log low lines replies own

-- The lane's lines ran, and it has their replies.
abbrev pub LaneDid : {F : Type 0} → LinesRan F → StoreState → LogState → List Entry → Lane F → Lane F → List ℕ → Type 0
LaneDid ran start log low was now own = ran start log low was.feeding now.feeding was.work.lines now.work.replies own

-- The rounds were made, at most as many as they are to be.
abbrev pub RoundsDid : StoreState → LogState → List Entry → Rounds → Rounds → List ℕ → Type 0
RoundsDid start log low was now own = MakesRounds start was.count low log own

-- Lines of a lane ran up to a history that is known; these points wait after them. If a reply was that the device failed, the log
-- says so.
pub record RunsTo (batch : ℕ) (start : StoreState) (log : LogState) (low : List Entry) (lines : List (Option Line))
    (replies : List LineReply) (own : List ℕ) (waiting : Waiting) : Type 0 where
  pub last : LaneState
  pub runs : RunsLines batch start log (begun low) lines replies own last
  pub waits : last.waiting ≡ waiting
  pub ends : StartsWith log.history last.history
  pub failed : last.saw_failure ≡ true → (start.stopped || is_some log.failed) ≡ true

module _ {D : Type 0} {disk : Ghosts D} where
  -- These lines ran in a session, from the first state of it to the second, and had these replies. These points wait after them.
  abbrev pub RanTo : ℕ → Hall D disk → Session D disk → Session D disk → List (Option Line) → List LineReply → Waiting → Type 0
  RanTo batch hall begun now lines replies waiting =
      Does hall begun now (λ start log low own. RunsTo batch start log low lines replies own waiting)

  -- One line more ran, with this reply, whichever lines had run before it.
  abbrev pub RunsNext : Hall D disk → Session D disk → Session D disk → FeedsValue → FeedsValue → Option Line → LineReply → Type 0
  RunsNext hall old new feeds after line reply =
      (begun : Session D disk) (lines : List (Option Line)) (replies : List LineReply)
      → RanTo feeds.batch hall begun old lines replies (waiting_of feeds)
      → RanTo feeds.batch hall begun new (lines ++ line ∷ []) (replies ++ reply ∷ []) (waiting_of after)

-- So did lines of a lane with shared buffers, of which it had seen `old` before them, and has then seen `new`.
pub record RunsSharedTo (has : ℕ → Bool) (threshold : ℕ) (old new : Views) (start : StoreState) (log : LogState) (low : List Entry)
    (lines : List (Option Line)) (replies : List LineReply) (own : List ℕ) : Type 0 where
  pub last : SharedState
  pub runs : RunsSharedLines has threshold start log (begun_shared low old) lines replies own last
  pub views : last.views ≡ new
  pub none : last.lane.waiting ≡ none_waiting
  pub ends : StartsWith log.history last.lane.history
  pub failed : last.lane.saw_failure ≡ true → (start.stopped || is_some log.failed) ≡ true
