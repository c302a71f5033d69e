-- The room that a script needs: what its lines need one after another, if all are of one lane, and else what any history may need that
-- the lines and the rounds of the script make.
use Rattle.std.specs.Prelude.{◌≡◌, ◌⊎◌, ℕ, ◌+◌, ◌*◌, ◌<◌, ◌≤◌, Bool, false, ◌&&◌, ◌==◌, List, [], ◌∷◌, ◌++◌, length, flat_map, slice_get}
use Rattle.std.specs.Prelude.{if◌then◌else◌, Option, Some, None}
use Rattle.std.specs.List.{AllByRecursion}
use Rattle.btr_base.specs.declared.point.Point.{Point}
use Rattle.btr_base.specs.Bag.{sort}
use Rattle.btr_hist.specs.declared.entry.Entry.{Entry}
use Rattle.btr_hist.specs.declared.entry.Entry.TheVariants as entries
use Rattle.btr_hist.specs.History.{stream_of}
use Rattle.btr_hist.specs.Legal.{Follows}
use Rattle.btr_log.specs.Head.{content_blocks}
use Rattle.btr_gate.specs.Numbers.{one, times, total, given}
use Rattle.btr_gate.specs.Prefixes.{StartsWith}
use Rattle.btr_engine.specs.Body as blocks
use Rattle.btr_engine.specs.Body.{most_nodes}
use Rattle.btr_text.specs.declared.script.Line.{Line}
use Rattle.btr_text.specs.declared.script.Line.TheVariants as lines
use Rattle.btr_text.specs.declared.script.ScriptLine.{ScriptLine}
use Rattle.btr_live.specs.Feeds.{none_waiting}
use Rattle.btr_live.specs.Meaning.{Commits, meaning}
use Rattle.btr_live.specs.Script.{begun_state, script_needs}
use Rattle.btr_live.specs.OneLane.{AreInLane}
use Rattle.btr_store.specs.Completes.{IsPlannedSince}
use Rattle.btr_jobs.specs.States.{StoreState}
use Rattle.btr_top.specs.declared.live.FeedKind.{FeedKind}
use Rattle.btr_top.specs.declared.live.FeedKind.TheVariants.{Own, Shared}

-- ---- one lane

-- All lines are of one lane, and what they need one after another is left.
pub record HasRoomInLane (batch : ℕ) (store : StoreState) (script : List ScriptLine) : Type 0 where
  pub lane : ℕ
  pub one : AreInLane lane script
  pub room : script_needs batch (begun_state store) script ≤ store.left

-- ---- what an entry is there for

-- What an entry is there for. The places of lines, the rounds and the outputs are numbers from 0 on.
pub data Purpose : Type 0 where
  -- The line with this place asked for it.
  OfLine : ℕ → Purpose
  -- It has the points of the `feed` lines with these places.
  OfFeeds : List ℕ → Purpose
  -- A round landed it for an output.
  OfRound : ℕ → ℕ → Purpose

-- How often a purpose has the line with this place.
abbrev pub has_line : ℕ → Purpose → ℕ
has_line place (OfLine other) = one (other == place)
has_line place (OfFeeds places) = times place places
has_line place (OfRound round output) = 0

-- How often a purpose is the landing of this output in this round.
abbrev pub has_landing : ℕ → ℕ → Purpose → ℕ
has_landing round output (OfLine place) = 0
has_landing round output (OfFeeds places) = 0
has_landing round output (OfRound other landed) = one (other == round && landed == output)

-- ---- lines

-- The line asks for the entry at a history that begins with `low`, and with which `p` begins. No points wait for it.
pub record IsAskedSince (batch : ℕ) (low p : List Entry) (e : Entry) (line : Option Line) : Type 0 where
  pub at : List Entry
  pub since : StartsWith at low
  pub before : StartsWith p at
  pub asked : meaning batch at none_waiting line ≡ Commits e

-- The entry is what the model plans for this output, at such a history, and no other version of the output has followed up to `p`.
pub record LandsFor (low p : List Entry) (e : Entry) (output : ℕ) : Type 0 where
  pub planned : IsPlannedSince low p e
  pub same_output : planned.plan.stream ≡ output

-- The entry, which follows `p`, is what this line asks for. The points of a `feed` line may be in an entry with those of others: see
-- `CommitsFeeds`.
abbrev pub IsOfLine : ℕ → List Entry → List Entry → Entry → Option Line → Type 0
IsOfLine batch low p e (Some (lines.Feed id added)) = ⊥
IsOfLine batch low p e (Some (lines.Flush id)) = ⊥
IsOfLine batch low p e (Some (lines.Refresh id)) = (output : ℕ) × (stream_of p id ≡ Some output) × LandsFor low p e output
IsOfLine batch low p e line = IsAskedSince batch low p e line

-- The line that was looked up asks for the entry, if there is one.
abbrev pub IsAtPlace : ℕ → List Entry → List Entry → Entry → Option ScriptLine → Type 0
IsAtPlace batch low p e None = ⊥
IsAtPlace batch low p e (Some line) = IsOfLine batch low p e line.line

-- ---- feeds

-- The points that a line adds to a feed.
abbrev pub fed_in : Option Line → List Point
fed_in (Some (lines.Feed id added)) = added
fed_in line = []

-- The points that the line of a place adds, if the script has that line.
abbrev pub fed_by : Option ScriptLine → List Point
fed_by None = []
fed_by (Some line) = fed_in line.line

-- The points of the lines with these places, in order.
abbrev pub points_fed : List ScriptLine → List ℕ → List Point
points_fed script places = flat_map (λ place. fed_by (slice_get script place)) places

-- The line with this place adds points to the feed that this lane has for the stream.
pub record IsFeedOf (script : List ScriptLine) (h : List Entry) (lane stream place : ℕ) : Type 0 where
  pub id : ℕ
  pub added : List Point
  pub line : slice_get script place ≡ Some (record { lane = lane; line = Some (lines.Feed id added) })
  pub same_stream : stream_of h id ≡ Some stream

-- The entry commits the points of the `feed` lines with these places, which one lane has for one stream.
pub record CommitsFeeds (script : List ScriptLine) (p : List Entry) (e : Entry) (places : List ℕ) : Type 0 where
  pub lane : ℕ
  pub stream : ℕ
  pub are : AllByRecursion (IsFeedOf script p lane stream) places
  pub commits : e ≡ entries.Commit stream [] (sort (points_fed script places))

-- The entry commits the points of the `feed` lines with these places, which any lanes have for one stream: lanes share its buffer.
pub record CommitsShared (script : List ScriptLine) (p : List Entry) (e : Entry) (places : List ℕ) : Type 0 where
  pub stream : ℕ
  pub are : AllByRecursion (λ place. (lane : ℕ) × IsFeedOf script p lane stream place) places
  pub commits : e ≡ entries.Commit stream [] (sort (points_fed script places))

-- The entry commits the points of the `feed` lines with these places, which wait for one stream: those of one lane, or, in a shared buffer,
-- those of any lanes.
abbrev pub IsOfFeeds : FeedKind → List ScriptLine → List Entry → Entry → List ℕ → Type 0
IsOfFeeds (Own batch) script p e places = CommitsFeeds script p e places
IsOfFeeds (Shared threshold) script p e places = CommitsShared script p e places

-- How many points are due in the feeds of a lane. With shared buffers a lane has no feeds, and no line is asked by this number.
abbrev pub due_at : FeedKind → ℕ
due_at (Own batch) = batch
due_at (Shared threshold) = 1

-- ---- histories

-- The entry, which follows `p`, is there for this, in a script with this many rounds.
abbrev pub IsFor : FeedKind → ℕ → List ScriptLine → List Entry → List Entry → Entry → Purpose → Type 0
IsFor feeds rounds script low p e (OfLine place) = IsAtPlace (due_at feeds) low p e (slice_get script place)
IsFor feeds rounds script low p e (OfFeeds places) = IsOfFeeds feeds script p e places
IsFor feeds rounds script low p e (OfRound round output) = (round < rounds) × LandsFor low p e output

-- The number of an entry, and what it is there for.
pub record Service : Type 0 where
  pub number : ℕ
  pub purpose : Purpose

-- The history has an entry with this number after `low`, and it is there for this.
pub record IsServed (feeds : FeedKind) (rounds : ℕ) (script : List ScriptLine) (low h : List Entry) (s : Service) : Type 0 where
  pub before : List Entry
  pub entry : Entry
  pub there : StartsWith h (before ++ entry ∷ [])
  pub since : StartsWith before low
  pub same_number : s.number ≡ length before + 1
  pub is_for : IsFor feeds rounds script low before entry s.purpose

-- The history goes on from `low` by what the lines of a script ask for, and by landings of this many rounds, in any order. Each entry
-- after `low` may follow those before it. It is there for one thing, and no line and no landing has two entries.
pub record ServesScript (feeds : FeedKind) (rounds : ℕ) (script : List ScriptLine) (low h : List Entry) : Type 0 where
  pub begins : StartsWith h low
  pub follows : Follows h
  pub services : List Service
  pub each : (n : ℕ) → total (λ s. one (s.number == n)) services ≡ given (length low) (length h) n
  pub are : AllByRecursion (IsServed feeds rounds script low h) services
  pub lines_once : (place : ℕ) → total (λ s. has_line place s.purpose) services ≤ 1
  pub landings_once : (round output : ℕ) → total (λ s. has_landing round output s.purpose) services ≤ 1

-- Whatever such a history is, its blocks are left.
abbrev pub HasRoomForHistories : FeedKind → ℕ → StoreState → List ScriptLine → Type 0
HasRoomForHistories feeds rounds store script =
    (h : List Entry) → ServesScript feeds rounds script store.history h → blocks.needs_of h ≤ store.left + blocks.needs_of store.history

-- The most rounds of a script: with `--materialize` one for each line, and a last one.
abbrev pub rounds_of : Bool → List ScriptLine → ℕ
rounds_of materialize script = if materialize then length script + 1 else 0

-- All lines are of one lane that has its own feeds, there are no rounds, and what the lines need one after another is left; or any history
-- that serves the script has room.
abbrev pub HasRoomForScript : FeedKind → Bool → StoreState → List ScriptLine → Type 0
HasRoomForScript (Own batch) materialize store script =
    ((materialize ≡ false) × HasRoomInLane batch store script)
    ⊎ HasRoomForHistories (Own batch) (rounds_of materialize script) store script
HasRoomForScript (Shared threshold) materialize store script =
    HasRoomForHistories (Shared threshold) (rounds_of materialize script) store script

-- ---- how much is enough

-- The most blocks of a commit that adds this many points and removes nothing.
abbrev pub blocks_of_points : ℕ → ℕ
blocks_of_points count = content_blocks (21 + 16 * count) + most_nodes count 0 + 1

-- The most blocks that a line needs, in an entry of its own or for its points in one with those of others.
abbrev pub most_blocks : Option Line → ℕ
most_blocks (Some (lines.Create id)) = 2
most_blocks (Some (lines.Distiller id kernel lead grain first second)) = 2
most_blocks (Some (lines.Retire id first)) = 2
most_blocks (Some (lines.Insert id added)) = blocks_of_points (length added)
most_blocks (Some (lines.Delete id from to)) = 2 + most_nodes 0 1
most_blocks (Some (lines.Feed id added)) = blocks_of_points (length added)
most_blocks line = 0

-- The line brings no output up to date. What such a line adds depends on the store.
abbrev pub IsNoRefresh : Option Line → Type 0
IsNoRefresh (Some (lines.Refresh id)) = ⊥
IsNoRefresh line = Unit {0}

-- A script without rounds has room if no line brings an output up to date and the most that all lines need is left.
abbrev pub ScriptFits : Type 0
ScriptFits =
    (feeds : FeedKind) (store : StoreState) (script : List ScriptLine) → AllByRecursion (λ line. IsNoRefresh line.line) script
    → total (λ line. most_blocks line.line) script ≤ store.left → HasRoomForHistories feeds 0 store script
