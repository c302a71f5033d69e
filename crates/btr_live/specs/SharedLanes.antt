-- What the replies to a lane's lines say if the points of feeds wait in buffers that lanes share.
use Rattle.std.specs.Prelude.{◌≡◌, ◌⊎◌, ℕ, Bool, List, [], map, Option, Some, None}
use Rattle.btr_hist.specs.declared.entry.Entry.{Entry}
use Rattle.btr_text.specs.declared.script.Line.{Line}
use Rattle.btr_text.specs.declared.script.ScriptLine.{ScriptLine}
use Rattle.btr_text.specs.declared.reply.LineReply.{LineReply}
use Rattle.btr_gate.specs.Prefixes.{StartsWith}
use Rattle.btr_jobs.specs.States.{StoreState, LogState}
use Rattle.btr_hall.specs.declared.groups.Groups.{Ghosts}
use Rattle.btr_live.specs.declared.shared_feeds.SharedFeeds.{SharedFeeds}
use Rattle.btr_live.specs.Lanes.{LaneState, begun, RunsLine, RunsEach, LinesRan}
use Rattle.btr_live.specs.OneHistory.{RunsFed}
use Rattle.btr_live.specs.SharedLines.{Sharing, sharing, Views, Shares}

-- Where a lane is between two lines: what a lane without shared buffers would be, and what it has seen of each buffer.
pub record SharedState : Type 0 where
  pub lane : LaneState
  pub views : Views

-- A lane that knows this history and has seen this of the buffers, before its first line.
abbrev pub begun_shared : List Entry → Views → SharedState
begun_shared h views = record { lane = begun h; views = views }

-- What a line asked of shared buffers, at a history that begins with `low`, was done, and had this reply. The line itself adds no entry:
-- the buffer has a session of its own, whose entries are those of the batches in its list.
pub record SharesAt (has : ℕ → Bool) (threshold : ℕ) (log : LogState) (low : List Entry) (old : Views) (line : Option Line)
    (reply : LineReply) (own : List ℕ) (next : List Entry) (new : Views) : Type 0 where
  pub after : StartsWith next low
  pub begins : StartsWith log.history next
  pub asked : Sharing
  pub means : sharing has next line ≡ Some asked
  pub shares : Shares threshold old asked reply new
  pub none : own ≡ []

-- A line of shared buffers ran, which leaves the lane as it was but for the history that it knows.
pub record RunsSharing (has : ℕ → Bool) (threshold : ℕ) (log : LogState) (old : SharedState) (line : Option Line) (reply : LineReply)
    (own : List ℕ) (new : SharedState) : Type 0 where
  pub at : SharesAt has threshold log old.lane.history old.views line reply own new.lane.history new.views
  pub saw_failure : new.lane.saw_failure ≡ old.lane.saw_failure
  pub waiting : new.lane.waiting ≡ old.lane.waiting

-- Another line ran as without shared buffers. It changes no feed, so that the lane's own feeds are empty.
pub record RunsUnshared (has : ℕ → Bool) (start : StoreState) (log : LogState) (old : SharedState) (line : Option Line)
    (reply : LineReply) (own : List ℕ) (new : SharedState) : Type 0 where
  pub other : (h : List Entry) → sharing has h line ≡ None
  pub runs : RunsLine 1 start log old.lane line reply own new.lane
  pub views : new.views ≡ old.views

-- A line of a lane ran. `has` is which streams have a buffer.
abbrev pub RunsSharedLine : (ℕ → Bool) → ℕ → StoreState → LogState → SharedState → Option Line → LineReply → List ℕ → SharedState → Type 0
RunsSharedLine has threshold start log old line reply own new =
    RunsSharing has threshold log old line reply own new ⊎ RunsUnshared has start log old line reply own new

-- The lines of a lane ran in order, each with its reply.
abbrev pub RunsSharedLines : (ℕ → Bool) → ℕ → StoreState → LogState → SharedState → List (Option Line) → List LineReply → List ℕ
    → SharedState → Type 0
RunsSharedLines has threshold start log = RunsEach (RunsSharedLine has threshold start log)

-- All lines of a lane that knew `low`, and had seen `old` of the buffers, ran. It has then seen `new` of them.
abbrev pub RunsSharedLane : (ℕ → Bool) → ℕ → Views → Views → StoreState → LogState → List Entry → List (Option Line)
    → List LineReply → List ℕ → Type 0
RunsSharedLane has threshold old new start log low lines replies own =
    (last : SharedState) × RunsSharedLines has threshold start log (begun_shared low old) lines replies own last × (last.views ≡ new)

-- The lines of a lane with shared buffers ran.
abbrev pub RanInShared : {G : Type 0} → Ghosts G → LinesRan (SharedFeeds G)
RanInShared ghosts start log low was now lines replies own =
    RunsSharedLane (ghosts.has_group was.groups) (ghosts.threshold was.groups) (ghosts.view_at was.groups) (ghosts.view_at now.groups)
    start log low lines replies own

-- Groups, as what feeds a lane.
abbrev pub shared_feeds : {G : Type 0} → G → SharedFeeds G
shared_feeds groups = record { groups = groups }

-- All lanes of a script ran with these groups, each with those in its place, and with `materialize` one party beside them.
abbrev pub RunsShared : {G : Type 0} → Ghosts G → List G → List G → Bool → List ScriptLine → List LineReply
    → StoreState → LogState → List Entry → List ℕ → Type 0
RunsShared ghosts was now = RunsFed (RanInShared ghosts) (map shared_feeds was) (map shared_feeds now)
