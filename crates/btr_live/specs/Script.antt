-- What each line of a script replies, and the store after it, if the lines run one by one and nobody else uses the store.
use Rattle.std.specs.Prelude.{◌≡◌, ◌⊎◌, ℕ, ◌+◌, ◌-◌, ◌<◌, ◌≤◌, true, false}
use Rattle.std.specs.Prelude.{List, [], ◌∷◌, ◌++◌, length, flat_map, Option, Some, None}
use Rattle.btr_hist.specs.declared.entry.Entry.{Entry}
use Rattle.btr_hist.specs.declared.rejection.Rejection.{Rejection}
use Rattle.btr_hist.specs.Legal.{rejection}
use Rattle.btr_text.specs.declared.script.Line.{Line}
use Rattle.btr_text.specs.declared.script.ScriptLine.{ScriptLine}
use Rattle.btr_text.specs.declared.reply.LineReply.{LineReply}
use Rattle.btr_text.specs.declared.reply.LineReply.TheVariants.{No}
use Rattle.btr_text.specs.declared.reply.Reason.TheVariants as reasons
use Rattle.btr_text.specs.Text.{text}
use Rattle.btr_engine.specs.Body.{need_of}
use Rattle.btr_streams.specs.Stage.{MayLackMemory}
use Rattle.btr_base.specs.declared.point.Point.{Point}
use Rattle.btr_live.specs.Feeds.{Waiting, none_waiting, fed}
use Rattle.btr_live.specs.Meaning.{Meaning, Commits, Asks, Holds, Current, Refuses, meaning}
use Rattle.btr_live.specs.Replies.{model_reply, waiting_after, Means}
use Rattle.btr_jobs.specs.States.{StoreState}

-- ---- a store

-- The store with one entry more.
abbrev pub store_with_entry : StoreState → Entry → StoreState
store_with_entry s e = record { history = s.history ++ e ∷ []; left = s.left - need_of s.history e; stopped = s.stopped; sealed = s.sealed }

-- The store that takes no more entries.
abbrev pub stopped_store : StoreState → StoreState
stopped_store s = record { history = s.history; left = s.left; stopped = true; sealed = s.sealed }

abbrev pub after_commit : StoreState → Entry → Option Rejection → StoreState
after_commit s e None = store_with_entry s e
after_commit s e (Some why) = s

-- The store after what was asked for, by the model.
abbrev pub after_asked : StoreState → Meaning → StoreState
after_asked s (Commits e) = after_commit s e (rejection s.history e)
after_asked s (Asks query) = s
after_asked s (Holds count) = s
after_asked s (Current version) = s
after_asked s (Refuses reason) = s

-- ---- the reply to what is asked for

-- The store can do it: it is not stopped nor sealed, and an entry that the model accepts fits.
abbrev pub Allows : StoreState → Meaning → Type 0
Allows s (Commits e) = (s.stopped ≡ false) × (s.sealed ≡ false) × (rejection s.history e ≡ None → need_of s.history e ≤ s.left)
Allows s (Asks query) = Unit {0}
Allows s (Holds count) = Unit {0}
Allows s (Current version) = Unit {0}
Allows s (Refuses reason) = Unit {0}

-- The reply is the model's, and so is the store after it.
pub record IsModel (s : StoreState) (m : Meaning) (reply : LineReply) (t : StoreState) : Type 0 where
  pub allowed : Allows s m
  pub replied : reply ≡ model_reply s.history m
  pub store : t ≡ after_asked s m

-- The model accepts the entry, but there are too few blocks for it.
pub record LacksRoom (s : StoreState) (e : Entry) (reply : LineReply) (t : StoreState) : Type 0 where
  pub not_stopped : s.stopped ≡ false
  pub not_sealed : s.sealed ≡ false
  pub allowed : rejection s.history e ≡ None
  pub short : s.left < need_of s.history e
  pub replied : reply ≡ No (reasons.Full (need_of s.history e) s.left)
  pub store : t ≡ s

-- The model accepts the entry, but the device failed in its commit, which stops the store.
pub record IsDeviceFault (s : StoreState) (e : Entry) (reply : LineReply) (t : StoreState) : Type 0 where
  pub not_stopped : s.stopped ≡ false
  pub not_sealed : s.sealed ≡ false
  pub allowed : rejection s.history e ≡ None
  pub fits : need_of s.history e ≤ s.left
  pub replied : reply ≡ No reasons.Device
  pub store : t ≡ stopped_store s

-- The store was stopped before.
pub record WasStopped (s : StoreState) (reply : LineReply) (t : StoreState) : Type 0 where
  pub stopped : s.stopped ≡ true
  pub replied : reply ≡ No (reasons.Stopped (length s.history))
  pub store : t ≡ s

-- The store was sealed before, and not stopped.
pub record WasSealed (s : StoreState) (reply : LineReply) (t : StoreState) : Type 0 where
  pub not_stopped : s.stopped ≡ false
  pub sealed : s.sealed ≡ true
  pub replied : reply ≡ No reasons.Sealed
  pub store : t ≡ s

-- Memory may run out in it: in an answer, or in a commit that nothing refuses which is tested before memory is taken.
abbrev pub NeedsMemory : StoreState → Meaning → Type 0
NeedsMemory s (Commits e) = (s.stopped ≡ false) × (s.sealed ≡ false) × MayLackMemory (rejection s.history e)
NeedsMemory s (Asks query) = Unit {0}
NeedsMemory s (Holds count) = ⊥
NeedsMemory s (Current version) = ⊥
NeedsMemory s (Refuses reason) = ⊥

-- Memory ran out.
pub record IsOutOfMemory (s : StoreState) (m : Meaning) (reply : LineReply) (t : StoreState) : Type 0 where
  pub needs : NeedsMemory s m
  pub replied : reply ≡ No reasons.Memory
  pub store : t ≡ s

-- The entry was not committed, for a reason that the model does not have.
abbrev pub IsNotDone : StoreState → Meaning → LineReply → StoreState → Type 0
IsNotDone s (Commits e) reply t = LacksRoom s e reply t ⊎ IsDeviceFault s e reply t ⊎ WasStopped s reply t ⊎ WasSealed s reply t
IsNotDone s (Asks query) reply t = ⊥
IsNotDone s (Holds count) reply t = ⊥
IsNotDone s (Current version) reply t = ⊥
IsNotDone s (Refuses reason) reply t = ⊥

-- The reply to what is asked for, and the store after it: by the model, or with the reason why it was not done.
abbrev pub RepliesTo : StoreState → Meaning → LineReply → StoreState → Type 0
RepliesTo s m reply t = IsModel s m reply t ⊎ IsNotDone s m reply t ⊎ IsOutOfMemory s m reply t

-- ---- the reply to one line

-- A store, and the points that wait for its streams.
pub record State : Type 0 where
  pub store : StoreState
  pub waiting : Waiting

-- The state of a store when a run begins.
abbrev pub begun_state : StoreState → State
begun_state s = record { store = s; waiting = none_waiting }

-- The reply to a line of which this is done, and the state after it.
pub record RepliesToLine (batch : ℕ) (s : State) (line : Option Line) (m : Meaning) (reply : LineReply) (t : State) : Type 0 where
  pub means : Means batch s.store.history s.waiting line m
  pub replied : RepliesTo s.store m reply t.store
  pub waiting : t.waiting ≡ waiting_after s.waiting (fed s.store.history s.waiting line) m reply

-- ---- a script

-- The replies to lines, one for each in order, and the state after them.
abbrev pub RunsScript : ℕ → State → List ScriptLine → List LineReply → State → Type 0
RunsScript batch s [] [] t = s ≡ t
RunsScript batch s [] (reply ∷ replies) t = ⊥
RunsScript batch s (line ∷ lines) [] t = ⊥
RunsScript batch s (line ∷ lines) (reply ∷ replies) t =
    (u : State) × (m : Meaning) × RepliesToLine batch s line.line m reply u × RunsScript batch u lines replies t

-- The blocks that what is asked for needs after this history.
abbrev pub need_of_meaning : List Entry → Meaning → ℕ
need_of_meaning h (Commits e) = need_of h e
need_of_meaning h (Asks query) = 0
need_of_meaning h (Holds count) = 0
need_of_meaning h (Current version) = 0
need_of_meaning h (Refuses reason) = 0

-- The state after what is asked for, by the model, of a line that changes this feed, if it changes one.
abbrev pub after_model : State → Option (ℕ × List Point) → Meaning → State
after_model s f m = record { store = after_asked s.store m; waiting = waiting_after s.waiting f m (model_reply s.store.history m) }

-- The state after a line, by the model.
abbrev pub after_line : ℕ → State → Option Line → State
after_line batch s line =
    after_model s (fed s.store.history s.waiting line) (meaning batch s.store.history s.waiting line)

-- The blocks that lines need, one after another, by the model.
abbrev pub script_needs : ℕ → State → List ScriptLine → ℕ
script_needs batch s [] = 0
script_needs batch s (line ∷ lines) =
    need_of_meaning s.store.history (meaning batch s.store.history s.waiting line.line)
    + script_needs batch (after_line batch s line.line) lines

-- The text of replies.
abbrev pub text_of_replies : List LineReply → List ℕ
text_of_replies replies = flat_map text replies
