-- The store as a machine that many users share: the reply to each event, and the state after it.
use Rattle.std.specs.Prelude.{ℕ, ◌+◌, ◌==◌, nat_lt, nat_le, Bool, true, false, ◌&&◌, List, [], ◌∷◌, ◌++◌, length}
use Rattle.std.specs.Prelude.{if◌then◌else◌, Option, Some, None}
use Rattle.std.specs.Option.{is_some}
use Rattle.btr_base.specs.declared.limits.TheConstants.{MAX_VERSIONS}
use Rattle.btr_base.specs.Commit.{Change}
use Rattle.btr_hist.specs.declared.entry.Entry.{Entry}
use Rattle.btr_hist.specs.declared.entry.Entry.TheVariants as entries
use Rattle.btr_hist.specs.declared.kernel.Spec.{Spec}
use Rattle.btr_hist.specs.declared.kernel.Reads.{Reads}
use Rattle.btr_hist.specs.declared.rejection.Rejection.{Rejection}
use Rattle.btr_hist.specs.declared.rejection.Rejection.TheVariants.{NotWritable, VersionLimit}
use Rattle.btr_hist.specs.declared.query.Query.{Query}
use Rattle.btr_hist.specs.declared.answer.Answer.{Answer as TheAnswer}
use Rattle.btr_hist.specs.Distil.{distillate}
use Rattle.btr_hist.specs.History.{ids, spec_of, latest, reads, latest_reads, inputs_at}
use Rattle.btr_hist.specs.Legal.{when, rejection}
use Rattle.btr_hist.specs.Answer.{answer}

-- A user commits an entry, is admitted to all entries so far, asks a question about the entries that it was admitted to, plans
-- the next distillate of a stream from those, or lands its plan.
pub data Event : Type 0 where
  Commit : Entry → Event
  Admit : Event
  Ask : Query → Event
  Plan : ℕ → Event
  Land : Event

-- The reply to an accepted entry: the number of entries with it, its stream, and the version that it made (0 for a new stream and
-- for a retirement).
pub record Receipt : Type 0 where
  pub number : ℕ
  pub stream : ℕ
  pub version : ℕ

-- The replies: to an accepted entry, a rejected one, an admission (with the number of entries), and a question; whether there
-- was something to plan, or that the stream is no output; and that the output has another version since (the latest), or that
-- the user has no plan.
pub data Reply : Type 0 where
  Accepted : Receipt → Reply
  Rejected : Rejection → Reply
  Admitted : ℕ → Reply
  Answered : TheAnswer → Reply
  Planned : Bool → Reply
  NotOutput : Reply
  Superseded : ℕ → Reply
  NoPlan : Reply

-- A planned distillate: of which output, after which of its versions, and which versions of the inputs it reads.
pub record Landing : Type 0 where
  pub stream : ℕ
  pub base : ℕ
  pub reads : Reads

-- One history for all users, and for each user the history that it was admitted to last and its plan.
pub record Machine : Type 0 where
  pub history : List Entry
  pub admitted : ℕ → List Entry
  pub plan : ℕ → Option Landing

-- The machine before the first event.
abbrev pub start : Machine
start = record { history = []; admitted = λ user. []; plan = λ user. None }

-- The receipt of an entry that follows h.
abbrev pub receipt : List Entry → Entry → Receipt
receipt h (entries.Create id) = record { number = length h + 1; stream = length (ids h); version = 0 }
receipt h (entries.Define id spec) = record { number = length h + 1; stream = length (ids h); version = 0 }
receipt h (entries.Commit stream cut added) = record { number = length h + 1; stream = stream; version = latest h stream + 1 }
receipt h (entries.Distillate stream cut added new) =
    record { number = length h + 1; stream = stream; version = latest h stream + 1 }
receipt h (entries.Retire stream first) = record { number = length h + 1; stream = stream; version = 0 }

-- The reason why a user's entry may not follow h, if there is one. Users do not commit distillates.
abbrev pub offered : List Entry → Entry → Option Rejection
offered h (entries.Distillate stream cut added new) = Some NotWritable
offered h e = rejection h e

-- The history after an entry, which changes it only if the entry is not rejected.
abbrev pub committed : List Entry → Entry → Option Rejection → List Entry
committed h e None = h ++ e ∷ []
committed h e (Some r) = h

-- The reply to an entry, by its rejection.
abbrev pub commit_reply : List Entry → Entry → Option Rejection → Reply
commit_reply h e None = Accepted (receipt h e)
commit_reply h e (Some r) = Rejected r

-- Both are there and equal, or neither is there.
abbrev pub same_second : Option ℕ → Option ℕ → Bool
same_second None None = true
same_second (Some a) (Some b) = a == b
same_second a b = false

-- The versions are the same.
abbrev pub same_reads : Reads → Reads → Bool
same_reads a b = a.first == b.first && same_second a.second b.second

-- The plan for an output of this spec, if its inputs have later versions in h than those that its latest version has read.
abbrev pub planned : List Entry → ℕ → Spec → Option Landing
planned h stream spec =
    if same_reads (reads h stream spec (latest h stream)) (latest_reads h spec) then None
    else Some (record { stream = stream; base = latest h stream; reads = latest_reads h spec })

-- The plan for a stream, if it is an output that is to be brought up to date.
abbrev pub plan_of : List Entry → ℕ → Option Spec → Option Landing
plan_of h stream None = None
plan_of h stream (Some spec) = planned h stream spec

-- The reply to a plan for a stream with this spec.
abbrev pub plan_reply : List Entry → ℕ → Option Spec → Reply
plan_reply h stream None = NotOutput
plan_reply h stream (Some spec) = Planned (is_some (planned h stream spec))

-- The distillate of a stream with this cut and these points.
abbrev pub distillate_entry : ℕ → Change → Reads → Entry
distillate_entry stream c new = entries.Distillate stream c.cut c.added new

-- The distillate that lands a plan after h: it reads what was planned, and replaces what the latest version of the output has.
abbrev pub landing : List Entry → Landing → Spec → Entry
landing h p spec = distillate_entry p.stream
    (distillate spec (inputs_at h spec (reads h p.stream spec (latest h p.stream))) (inputs_at h spec p.reads)) p.reads

-- The reason why the output has no next version: it has as many as a stream can have.
abbrev pub landing_rejection : List Entry → Landing → Option Rejection
landing_rejection h p = when (nat_le MAX_VERSIONS (latest h p.stream)) VersionLimit

-- The history after a plan for an output of this spec is landed. A plan that another version has followed changes nothing.
abbrev pub landed : List Entry → Landing → Option Spec → List Entry
landed h p None = h
landed h p (Some spec) =
    if nat_lt p.base (latest h p.stream) then h else committed h (landing h p spec) (landing_rejection h p)

-- The reply to the landing of a plan for an output of this spec.
abbrev pub landing_reply : List Entry → Landing → Option Spec → Reply
landing_reply h p None = NotOutput
landing_reply h p (Some spec) =
    if nat_lt p.base (latest h p.stream) then Superseded (latest h p.stream)
    else commit_reply h (landing h p spec) (landing_rejection h p)

-- The reply to the landing of a user's plan, if it has one.
abbrev pub land_reply : List Entry → Option Landing → Reply
land_reply h None = NoPlan
land_reply h (Some p) = landing_reply h p (spec_of h p.stream)

-- The history after the landing of a user's plan, if it has one.
abbrev pub after_landing : List Entry → Option Landing → List Entry
after_landing h None = h
after_landing h (Some p) = landed h p (spec_of h p.stream)

-- The value of one user replaced.
abbrev pub with_user : {A : Type 0} → (ℕ → A) → ℕ → A → ℕ → A
with_user f user a other = if other == user then a else f other

-- The plan of a user who plans anew: the new one, if there is something to plan, else the old one.
abbrev pub next_plan : Option Landing → Option Landing → Option Landing
next_plan old None = old
next_plan old (Some p) = Some p

-- The reply to a user's event.
abbrev pub reply : Machine → ℕ → Event → Reply
reply m user (Commit e) = commit_reply m.history e (offered m.history e)
reply m user Admit = Admitted (length m.history)
reply m user (Ask q) = Answered (answer (m.admitted user) q)
reply m user (Plan stream) = plan_reply (m.admitted user) stream (spec_of (m.admitted user) stream)
reply m user Land = land_reply m.history (m.plan user)

-- The machine after a user's event.
abbrev pub next : Machine → ℕ → Event → Machine
next m user (Commit e) =
    record { history = committed m.history e (offered m.history e); admitted = m.admitted; plan = m.plan }
next m user Admit =
    record { history = m.history; admitted = with_user m.admitted user m.history; plan = m.plan }
next m user (Ask q) = m
next m user (Plan stream) = record {
  history = m.history;
  admitted = m.admitted;
  plan = with_user m.plan user
      (next_plan (m.plan user) (plan_of (m.admitted user) stream (spec_of (m.admitted user) stream)));
}
next m user Land =
    record { history = after_landing m.history (m.plan user); admitted = m.admitted; plan = with_user m.plan user None }

-- The replies to the events of many users, in the order of the events.
abbrev pub replies : Machine → List (ℕ × Event) → List Reply
replies m [] = []
replies m (e ∷ es) = reply m e.0 e.1 ∷ replies (next m e.0 e.1) es

-- The machine after the events.
abbrev pub run : Machine → List (ℕ × Event) → Machine
run m [] = m
run m (e ∷ es) = run (next m e.0 e.1) es
