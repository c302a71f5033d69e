-- What all replies of a script mean together: one history, which all lanes and the parties beside them made.
use Rattle.std.specs.Prelude.{◌≡◌, ℕ, ◌+◌, ◌==◌, List, [], ◌∷◌, length, map, slice_index_or, if◌then◌else◌, Bool, Option}
use Rattle.std.specs.Option.{is_some}
use Rattle.btr_hist.specs.declared.entry.Entry.{Entry}
use Rattle.btr_text.specs.declared.script.Line.{Line}
use Rattle.btr_text.specs.declared.script.ScriptLine.{ScriptLine}
use Rattle.btr_text.specs.declared.reply.LineReply.{LineReply}
use Rattle.btr_gate.specs.Prefixes.{StartsWith}
use Rattle.btr_gate.specs.Numbers.{one, total, times, given}
use Rattle.btr_jobs.specs.States.{StoreState, LogState}
use Rattle.btr_live.specs.Lanes.{LaneRan, LinesRan, in_feeds}
use Rattle.btr_live.specs.Rounds.{MakesRounds}

-- ---- lanes of a script

-- The items of lane k, in order, of items that have these lanes.
abbrev pub of_lane : {A : Type 0} → ℕ → List ℕ → List A → List A
of_lane k [] items = []
of_lane k (lane ∷ lanes) [] = []
of_lane k (lane ∷ lanes) (item ∷ items) = if lane == k then item ∷ of_lane k lanes items else of_lane k lanes items

-- The lane of each line.
abbrev pub lanes_of : List ScriptLine → List ℕ
lanes_of script = map (λ line. line.lane) script

-- The lines of lane k, in order.
abbrev pub lane_lines : ℕ → List ScriptLine → List (Option Line)
lane_lines k script = of_lane k (lanes_of script) (map (λ line. line.line) script)

-- ---- all lanes

-- What a party beside the lanes did, after all of `low` had been seen: it made at most this many rounds. `own` are the numbers of what it
-- added.
abbrev pub IsParty : StoreState → LogState → List Entry → ℕ → List ℕ → Type 0
IsParty start log low rounds own = MakesRounds start rounds low log own

-- The lanes of a script ran beside each other, from the history `low`, with these replies in the order of the script. `mine` are the
-- numbers of the entries of each lane, from lane 0 on, and `Ran` is what is said of each. `beside` are the numbers of the entries of each
-- party beside the lanes, which made at most `rounds` rounds.
pub record RunsLanes (Ran : LaneRan) (rounds : ℕ) (start : StoreState) (log : LogState) (low : List Entry) (script : List ScriptLine)
    (replies : List LineReply) (mine beside : List (List ℕ)) : Type 0 where
  pub each : length replies ≡ length script
  pub lanes : (k : ℕ) → Ran k start log low (lane_lines k script) (of_lane k (lanes_of script) replies) (slice_index_or mine k [])
  pub parties : (k : ℕ) → IsParty start log low rounds (slice_index_or beside k [])

-- How often n is a number of an entry of a lane, or of a party beside the lanes.
abbrev pub times_all : ℕ → List (List ℕ) → List (List ℕ) → ℕ
times_all n mine beside = total (times n) mine + total (times n) beside

-- The lanes of a script ran, and with `materialize` one party beside them, which made at most as many rounds as the script has lines. `own`
-- are the numbers of all that was added.
pub record RunsAll (Ran : LaneRan) (materialize : Bool) (start : StoreState) (log : LogState) (low : List Entry)
    (script : List ScriptLine) (replies : List LineReply) (own : List ℕ) : Type 0 where
  pub mine : List (List ℕ)
  pub beside : List (List ℕ)
  pub lanes : RunsLanes Ran (length script) start log low script replies mine beside
  pub count : length beside ≡ one materialize
  pub numbers : (n : ℕ) → times n own ≡ times_all n mine beside

-- All lanes ran with these feeds, each with those in its place, which were the first and are now the second ones.
abbrev pub RunsFed : {F : Type 0} → LinesRan F → List F → List F → Bool → List ScriptLine → List LineReply
    → StoreState → LogState → List Entry → List ℕ → Type 0
RunsFed ran was now materialize script replies =
    λ start log low own. RunsAll (in_feeds ran was now) materialize start log low script replies own

-- One history. It begins with that of the store when the run began, and all lanes ran on it. Each entry since then, and the one in
-- whose step the device failed, is that of exactly one line or one landing of one party. The last round is a party of its own. Each party
-- makes at most as many rounds as the script has lines, and one more.
pub record OneHistory (Ran : LaneRan) (start : StoreState) (log : LogState) (script : List ScriptLine) (replies : List LineReply)
    : Type 0 where
  pub begins : StartsWith log.history start.history
  pub mine : List (List ℕ)
  pub beside : List (List ℕ)
  pub runs : RunsLanes Ran (length script + 1) start log start.history script replies mine beside
  pub once : (n : ℕ)
      → times_all n mine beside ≡ given (length start.history) (length log.history + one (is_some log.failed)) n
