-- A script in one lane, on a store that nobody else uses: its replies are the model's, one line after another.
use Rattle.std.specs.Prelude.{◌≡◌, ℕ, ◌+◌, ◌≤◌, false, List, ◌++◌, map, option_to_list}
use Rattle.std.specs.Option.{is_some}
use Rattle.std.specs.List.{AllByRecursion}
use Rattle.btr_hist.specs.Legal.{Follows}
use Rattle.btr_text.specs.declared.script.ScriptLine.{ScriptLine}
use Rattle.btr_text.specs.declared.reply.LineReply.{LineReply}
use Rattle.btr_engine.specs.Body.{needs_of}
use Rattle.btr_gate.specs.Prefixes.{StartsWith}
use Rattle.btr_jobs.specs.States.{StoreState, LogState}
use Rattle.btr_work.specs.Laws.{AreAllSince}
use Rattle.btr_live.specs.declared.live.LiveReport.{LiveReport}
use Rattle.btr_live.specs.Script.{State, begun_state, RunsScript}
use Rattle.btr_live.specs.Lanes.{RunsLane, in_own_feeds}
use Rattle.btr_live.specs.Live.{RunsLive}

-- All lines of a script are in this lane.
abbrev pub AreInLane : ℕ → List ScriptLine → Type 0
AreInLane lane script = AllByRecursion (λ line. line.lane ≡ lane) script

-- The replies are those of the model, one line after another. The store is then that of the log: it is stopped if the device failed.
pub record RunsAlone (batch : ℕ) (start : StoreState) (log : LogState) (script : List ScriptLine) (replies : List LineReply) : Type 0 where
  pub last : State
  pub runs : RunsScript batch (begun_state start) script replies last
  pub history : last.store.history ≡ log.history
  pub stopped : last.store.stopped ≡ is_some log.failed

-- The blocks that the entries of a state of the log need, with that in whose step the device failed, are no more than there were.
abbrev pub FitsLeft : StoreState → LogState → Type 0
FitsLeft start log = needs_of (log.history ++ option_to_list log.failed) ≤ start.left + needs_of start.history

-- A script in one lane that ran alone, without rounds beside it, has the model's replies. Each entry has to follow those before it.
abbrev pub OneLaneIsTheModel : Type 0
OneLaneIsTheModel =
    (batch lane : ℕ) (start : StoreState) (log : LogState) (script : List ScriptLine) (report : LiveReport) (own : List ℕ)
    → RunsLive (in_own_feeds batch) false start log start.history script report own → AreAllSince start.history log own
    → start.stopped ≡ false → Follows log.history → FitsLeft start log → AreInLane lane script
    → RunsAlone batch start log script report.replies.items

-- Lines of one session that nobody else was beside, from empty feeds, have the model's replies. Each entry has to follow those before it.
abbrev pub OneSessionIsTheModel : Type 0
OneSessionIsTheModel =
    (batch : ℕ) (start : StoreState) (log : LogState) (script : List ScriptLine) (replies : List LineReply) (own : List ℕ)
    → RunsLane batch start log start.history (map (λ line. line.line) script) replies own → AreAllSince start.history log own
    → StartsWith log.history start.history → start.stopped ≡ false → Follows log.history → FitsLeft start log
    → RunsAlone batch start log script replies
