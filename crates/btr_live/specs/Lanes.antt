-- What the replies to a lane's lines say of the history that all lanes share.
use Rattle.std.specs.Prelude.{◌≡◌, ◌⊎◌, ℕ, Bool, true, false, ◌||◌, List, [], ◌∷◌, ◌++◌, slice_get, Option, Some, None, Result, Ok, Err}
use Rattle.btr_hist.specs.declared.entry.Entry.{Entry}
use Rattle.btr_hist.specs.declared.entry.Entry.TheVariants as entries
use Rattle.btr_hist.specs.Answer.{answer}
use Rattle.btr_distil.specs.Plan.{PlanValue, entry_of}
use Rattle.btr_plan.specs.Next.{IsNextPlan}
use Rattle.btr_text.specs.declared.script.Line.{Line}
use Rattle.btr_text.specs.declared.reply.LineReply.{LineReply}
use Rattle.btr_text.specs.declared.reply.LineReply.TheVariants as replies
use Rattle.btr_text.specs.declared.reply.LineReply.TheVariants.{Done, No}
use Rattle.btr_text.specs.declared.reply.Reason.TheVariants as reasons
use Rattle.btr_streams.specs.declared.board.Receipt.{Receipt}
use Rattle.btr_engine.specs.declared.step.StepFault.{StepFault}
use Rattle.btr_gate.specs.Prefixes.{StartsWith}
use Rattle.btr_hall.specs.declared.land.LandFault.{LandFault}
use Rattle.btr_jobs.specs.States.{StoreState, LogState}
use Rattle.btr_jobs.specs.Turns.{IsIdle, CommittedAfter, LandedAfter}
use Rattle.btr_live.specs.Feeds.{Waiting, none_waiting, fed}
use Rattle.btr_live.specs.Meaning.{Meaning, Commits, Asks, Holds, Current, Refuses}
use Rattle.btr_live.specs.Reasons.{holder_of_step, reason_of_step, reason_of_landing}
use Rattle.btr_live.specs.Replies.{reply_of_answer, waiting_after, Means}

-- ---- replies to what was done in a turn

-- The reply to an entry that was offered after p, by the result of its turn.
abbrev pub reply_of_step : List Entry → Result Receipt StepFault → LineReply
reply_of_step p (Ok receipt) = Done receipt.version
reply_of_step p (Err fault) = No (reason_of_step (holder_of_step p fault) fault)

-- The reply to a plan, by the result of its turn.
abbrev pub reply_of_landing : Result Receipt LandFault → LineReply
reply_of_landing (Ok receipt) = Done receipt.version
reply_of_landing (Err fault) = No (reason_of_landing fault)

-- ---- what is asked for

-- The entry was offered in a turn after `a`, and this is the reply. `own` are the numbers of what the turn added, and the history that
-- is known after it begins with `next`. Who saw the device fail gets a reply that says so again.
abbrev pub OffersEntry : StoreState → LogState → Bool → List Entry → Entry → LineReply → List ℕ → List Entry → Type 0
OffersEntry start log saw_failure a e reply own next =
    (result : Result Receipt StepFault) × (turn : CommittedAfter start log a e result own next) × (reply ≡ reply_of_step turn.0 result)
    × (saw_failure ≡ true → (count : ℕ) × (reply ≡ No (reasons.Stopped count)))

-- So was this one. A distillate is that of a plan of `a`: it is refused if its output has another version since.
abbrev pub Offers : StoreState → LogState → Bool → List Entry → Entry → LineReply → List ℕ → List Entry → Type 0
Offers start log saw_failure a (entries.Distillate stream cut added reads) reply own next =
    (plan : PlanValue) × IsNextPlan a stream plan × (entry_of plan ≡ entries.Distillate stream cut added reads)
    × (result : Result Receipt LandFault) × LandedAfter start log a plan result own next × (reply ≡ reply_of_landing result)
    × (saw_failure ≡ true → (count : ℕ) × (reply ≡ No (reasons.Stopped count)))
Offers start log saw_failure a e reply own next = OffersEntry start log saw_failure a e reply own next

-- What a line asked for that was admitted to `a` had this reply. Memory may run out in an answer.
abbrev pub Answers : StoreState → LogState → Bool → List Entry → Meaning → LineReply → List ℕ → List Entry → Type 0
Answers start log saw_failure a (Commits e) reply own next = Offers start log saw_failure a e reply own next
Answers start log saw_failure a (Asks query) reply own next =
    ((reply ≡ reply_of_answer (answer a query)) ⊎ (reply ≡ No reasons.Memory)) × IsIdle a own next
Answers start log saw_failure a (Holds count) reply own next = (reply ≡ replies.Held count) × IsIdle a own next
Answers start log saw_failure a (Current version) reply own next = (reply ≡ Done version) × IsIdle a own next
Answers start log saw_failure a (Refuses reason) reply own next = (reply ≡ No reason) × IsIdle a own next

-- ---- lines

-- Where a lane is between two lines: the history that it knows, whether it saw the device fail, and the points that
-- wait in its feeds.
pub record LaneState : Type 0 where
  pub history : List Entry
  pub saw_failure : Bool
  pub waiting : Waiting

-- A lane that knows this history, before its first line.
abbrev pub begun : List Entry → LaneState
begun h = record { history = h; saw_failure = false; waiting = none_waiting }

-- Whether a reply is that the device failed, in this turn or before it.
abbrev pub is_failure : LineReply → Bool
is_failure (No reasons.Device) = true
is_failure (No (reasons.Stopped entries)) = true
is_failure reply = false

-- Whether a reply to what a line asked for tells of a failure in a turn of the lane. Only a commit can tell of one.
abbrev pub tells_failure : Meaning → LineReply → Bool
tells_failure (Commits e) reply = is_failure reply
tells_failure (Asks query) reply = false
tells_failure (Holds count) reply = false
tells_failure (Current version) reply = false
tells_failure (Refuses reason) reply = false

-- A line was admitted to a history that begins with what its lane knew, and had this reply by what it means there. `own` are the
-- numbers of the entries that it added.
pub record RunsLine (batch : ℕ) (start : StoreState) (log : LogState) (old : LaneState) (line : Option Line) (reply : LineReply)
    (own : List ℕ) (new : LaneState) : Type 0 where
  pub admitted : List Entry
  pub after : StartsWith admitted old.history
  pub begins : StartsWith log.history admitted
  pub asked : Meaning
  pub means : Means batch admitted old.waiting line asked
  pub answers : Answers start log old.saw_failure admitted asked reply own new.history
  pub waiting : new.waiting ≡ waiting_after old.waiting (fed admitted old.waiting line) asked reply
  pub saw_failure : new.saw_failure ≡ (old.saw_failure || tells_failure asked reply)

-- Steps from one state to another, one for each line in order, each with its reply. `own` are the numbers of what they added, in order.
abbrev pub RunsEach : {S : Type 0} → (S → Option Line → LineReply → List ℕ → S → Type 0) → S → List (Option Line) → List LineReply → List ℕ
    → S → Type 0
RunsEach Step old [] [] own new = (own ≡ []) × (new ≡ old)
RunsEach Step old [] (reply ∷ replies) own new = ⊥
RunsEach Step old (line ∷ lines) [] own new = ⊥
RunsEach {S} Step old (line ∷ lines) (reply ∷ replies) own new =
    (first rest : List ℕ) × (next : S) × (own ≡ first ++ rest) × Step old line reply first next × RunsEach Step next lines replies rest new

-- The lines of a lane ran in order, each with its reply. `own` are the numbers of the entries that they added, in order.
abbrev pub RunsLines : ℕ → StoreState → LogState → LaneState → List (Option Line) → List LineReply → List ℕ → LaneState → Type 0
RunsLines batch start log = RunsEach (RunsLine batch start log)

-- All lines of a lane that knew `low` ran, from empty feeds.
abbrev pub RunsLane : ℕ → StoreState → LogState → List Entry → List (Option Line) → List LineReply → List ℕ → Type 0
RunsLane batch start log low lines replies own =
    (last : LaneState) × RunsLines batch start log (begun low) lines replies own last

-- ---- lanes

-- What the lane with a number did that had seen a history before its lines: these lines had these replies, and these are the numbers of the
-- entries that it added.
abbrev pub LaneRan : Type 1
LaneRan = ℕ → StoreState → LogState → List Entry → List (Option Line) → List LineReply → List ℕ → Type 0

-- Each lane ran with feeds of its own, which are due with `batch` points.
abbrev pub in_own_feeds : ℕ → LaneRan
in_own_feeds batch = λ k start log low lines replies own. RunsLane batch start log low lines replies own

-- What the lines of a lane do that has feeds of this kind: after this state of the log of a hall that began so, lines of a lane that had
-- seen this history took its feeds from the first state to the second. They had these replies, and these are the numbers of what they
-- added.
abbrev pub LinesRan : Type 0 → Type 1
LinesRan F = StoreState → LogState → List Entry → F → F → List (Option Line) → List LineReply → List ℕ → Type 0

-- Lines ran with feeds that were the first and are now the second, and had these replies.
abbrev pub lines_ran : {F : Type 0} → LinesRan F → F → F → List (Option Line) → List LineReply → StoreState → LogState → List Entry → List ℕ
    → Type 0
lines_ran ran was now lines replies = λ start log low own. ran start log low was now lines replies own

-- Lines of the lane ran whose feeds were looked up, before and after. Who has no feeds has no lines.
abbrev pub FedRan : {F : Type 0} → LinesRan F → StoreState → LogState → List Entry → Option F → Option F → List (Option Line)
    → List LineReply → List ℕ → Type 0
FedRan ran start log low None None lines replies own = (lines ≡ []) × (replies ≡ []) × (own ≡ [])
FedRan ran start log low None (Some now) lines replies own = ⊥
FedRan ran start log low (Some was) None lines replies own = ⊥
FedRan ran start log low (Some was) (Some now) lines replies own = ran start log low was now lines replies own

-- The lane with each number ran with the feeds in its place, which were the first and are now the second ones.
abbrev pub in_feeds : {F : Type 0} → LinesRan F → List F → List F → LaneRan
in_feeds ran was now = λ k start log low lines replies own.
    FedRan ran start log low (slice_get was k) (slice_get now k) lines replies own
