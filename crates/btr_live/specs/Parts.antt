-- Private promises: the parts of a run, which are lanes and the rounds beside them, and what they did.
use Rattle.std.specs.Prelude.{◌≡◌, ℕ, ◌≤◌, Bool, List, [], ◌∷◌, length, slice_get, Option, Some, None, option_map, IfSome}
use Rattle.std.specs.List.{AllByRecursion}
use Rattle.std.specs.Option.{is_some}
use Rattle.std.specs.declared.vec.Vec.{Vec}
use Rattle.std.specs.Vec.{vec_capacity}
use Rattle.std.specs.declared.alloc.Global.{Global}
use Rattle.btr_text.specs.declared.script.ScriptLine.{ScriptLine}
use Rattle.btr_live.specs.declared.prepare.Ready.{Ready}
use Rattle.btr_live.specs.declared.rounds.Rounds.{Rounds}
use Rattle.btr_live.specs.OneHistory.{lanes_of, lane_lines}
use Rattle.btr_hist.specs.declared.entry.Entry.{Entry}
use Rattle.btr_text.specs.declared.script.Line.{Line}
use Rattle.btr_text.specs.declared.reply.LineReply.{LineReply}
use Rattle.btr_jobs.specs.States.{StoreState, LogState}
use Rattle.btr_live.specs.declared.part.ScriptPart.{ScriptPart}
use Rattle.btr_live.specs.declared.part.ScriptPart.TheVariants as parts
use Rattle.btr_gate.specs.Numbers.{one, total}
use Rattle.btr_live.specs.declared.lane.Lane.{Lane}
use Rattle.btr_live.specs.LinesOf.{LinesValue}
use Rattle.btr_live.specs.Lanes.{LinesRan}
use Rattle.btr_live.specs.Running.{LaneDid, RoundsDid}

module _ {F : Type 0} where
  -- What a part did: a lane ran, or rounds were made.
  abbrev pub PartDid : LinesRan F → StoreState → LogState → List Entry → ScriptPart F → ScriptPart F → List ℕ → Type 0
  PartDid ran start log low (parts.Lane was) (parts.Lane now) own = LaneDid ran start log low was now own
  PartDid ran start log low (parts.Lane was) (parts.Rounds now) own = ⊥
  PartDid ran start log low (parts.Rounds was) (parts.Lane now) own = ⊥
  PartDid ran start log low (parts.Rounds was) (parts.Rounds now) own = RoundsDid start log low was now own

  -- What feeds a part after a run goes with what fed it before.
  abbrev pub PartKeeps : (F → F → Type 0) → ScriptPart F → ScriptPart F → Type 0
  PartKeeps keeps (parts.Lane was) (parts.Lane now) = keeps was.feeding now.feeding
  PartKeeps keeps (parts.Lane was) (parts.Rounds now) = ⊥
  PartKeeps keeps (parts.Rounds was) (parts.Lane now) = ⊥
  PartKeeps keeps (parts.Rounds was) (parts.Rounds now) = Unit {0}

  -- The lane that a part is, which was looked up, if it is one.
  abbrev pub lane_in : Option (ScriptPart F) → Option (Lane F)
  lane_in None = None
  lane_in (Some (parts.Lane lane)) = Some lane
  lane_in (Some (parts.Rounds rounds)) = None

  -- The lane with this number.
  abbrev pub lane_at : List (ScriptPart F) → ℕ → Option (Lane F)
  lane_at all k = lane_in (slice_get all k)

  -- The lines of a lane, if there is one.
  abbrev pub lines_in : Option (Lane F) → List (Option Line)
  lines_in None = []
  lines_in (Some lane) = lane.work.lines

  -- The lines of the lane with this number.
  abbrev pub lines_at : List (ScriptPart F) → ℕ → List (Option Line)
  lines_at all k = lines_in (lane_at all k)

  -- The replies of a lane, if there is one.
  abbrev pub replies_in : Option (Lane F) → List LineReply
  replies_in None = []
  replies_in (Some lane) = lane.work.replies

  -- The replies of a part, if it is a lane.
  abbrev pub replies_of : ScriptPart F → List LineReply
  replies_of part = replies_in (lane_in (Some part))

  -- What feeds the part, if it is a lane.
  abbrev pub feeding_of : ScriptPart F → Option F
  feeding_of part = option_map (λ (l : Lane F). l.feeding) (lane_in (Some part))

  -- The replies of the lane with this number.
  abbrev pub replies_at : List (ScriptPart F) → ℕ → List LineReply
  replies_at all k = replies_in (lane_at all k)

  -- How many parties beside the lanes the part is.
  abbrev pub party_of : ScriptPart F → ℕ
  party_of (parts.Lane lane) = 0
  party_of (parts.Rounds rounds) = 1

  -- How many parties beside the lanes there are.
  abbrev pub parties_of : List (ScriptPart F) → ℕ
  parties_of all = total party_of all

  -- The rounds, if the part is those, are at most this many.
  abbrev pub HasLimit : ℕ → ScriptPart F → Type 0
  HasLimit count (parts.Lane lane) = Unit {0}
  HasLimit count (parts.Rounds rounds) = rounds.count ≡ count

  -- All parts have this limit.
  abbrev pub HaveLimit : ℕ → List (ScriptPart F) → Type 0
  HaveLimit count all = AllByRecursion (HasLimit count) all

  -- What the lane with a number did, from its first state to its second, if there is one.
  abbrev pub LaneDidAt : LinesRan F → StoreState → LogState → List Entry → Option (Lane F) → Option (Lane F) → List ℕ → Type 0
  LaneDidAt ran start log low None None own = own ≡ []
  LaneDidAt ran start log low None (Some now) own = ⊥
  LaneDidAt ran start log low (Some was) None own = ⊥
  LaneDidAt ran start log low (Some was) (Some now) own = LaneDid ran start log low was now own

-- ---- before a run

-- The lines of a list that was looked up.
abbrev pub list_in : Option (Vec (Option Line) Global) → List (Option Line)
list_in None = []
list_in (Some list) = list.items

-- The lines of the list with this number.
abbrev pub list_at : List (Vec (Option Line) Global) → ℕ → List (Option Line)
list_at lists k = list_in (slice_get lists k)

-- These are the lanes of the lines of a script, and there are eight lists, each with the lines of a lane.
pub record HasLists (script : List ScriptLine) (lanes : List ℕ) (lists : List (Vec (Option Line) Global)) : Type 0 where
  pub lanes_are : lanes ≡ lanes_of script
  pub count : length lists ≡ 8
  pub lines : (k : ℕ) → list_at lists k ≡ lane_lines k script

-- The lines of a list, before they run.
abbrev pub work_with : Vec (Option Line) Global → LinesValue
work_with list = record { lines = list.items; replies = [] }

-- The lines of a lane that were looked up.
abbrev pub work_lines : Option LinesValue → List (Option Line)
work_lines None = []
work_lines (Some work) = work.lines

-- There are rounds exactly if they are wanted, at most this many.
pub record HasRounds (count : ℕ) (materialize : Bool) (rounds : Option Rounds) : Type 0 where
  pub wanted : is_some rounds ≡ materialize
  pub limit : IfSome rounds (λ r. r.count ≡ count)

module _ {F : Type 0} where
  -- The rounds alone, if there are any.
  abbrev pub rounds_part : Option Rounds → List (ScriptPart F)
  rounds_part None = []
  rounds_part (Some rounds) = parts.Rounds rounds ∷ []

  -- There is a lane of each of the feeds, in order, which is to run the lines in its place, and then there are the rounds.
  abbrev pub AreLanesOf : List F → List LinesValue → Option Rounds → List (ScriptPart F) → Type 0
  AreLanesOf [] [] rounds ps = ps ≡ rounds_part rounds
  AreLanesOf (f ∷ fs) (w ∷ ws) rounds (parts.Lane lane ∷ ps) =
      (lane.feeding ≡ f) × (lane.work ≡ w) × AreLanesOf fs ws rounds ps
  AreLanesOf fs ws rounds ps = ⊥

  -- What feeds the lanes among the parts, in order.
  abbrev pub feeds_of : List (ScriptPart F) → List F
  feeds_of [] = []
  feeds_of (parts.Lane lane ∷ ps) = lane.feeding ∷ feeds_of ps
  feeds_of (parts.Rounds rounds ∷ ps) = feeds_of ps

  -- All memory for a run of this script is taken.
  pub record IsReady (materialize : Bool) (script : List ScriptLine) (r : Ready F) : Type 0 where
    pub lanes : r.lanes.items ≡ lanes_of script
    pub count : length r.works.items ≡ 8
    pub lines : (k : ℕ) → work_lines (slice_get r.works.items k) ≡ lane_lines k script
    pub rounds : HasRounds (length script) materialize r.rounds
    pub no_parts : r.parts.items ≡ []
    pub parts_room : 9 ≤ vec_capacity r.parts
    pub no_feeds : r.feeds.items ≡ []
    pub feeds_room : 8 ≤ vec_capacity r.feeds
    pub no_replies : r.replies.items ≡ []
    pub replies_room : length script ≤ vec_capacity r.replies

  -- Each lane has its lines and its feeds, from lane 0 on. There are rounds only if they are wanted, at most as many as lines.
  pub record IsRunPrepared (feeds : List F) (materialize : Bool) (script : List ScriptLine) (all : List (ScriptPart F)) : Type 0 where
    pub feeds_are : (k : ℕ) → option_map (λ (l : Lane F). l.feeding) (lane_at all k) ≡ slice_get feeds k
    pub lines : (k : ℕ) → lines_at all k ≡ lane_lines k script
    pub limit : HaveLimit (length script) all
    pub parties : parties_of all ≡ one materialize
