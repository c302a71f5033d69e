-- The events and the replies of the model that the machine's events and replies are.
use Rattle.std.specs.Prelude.{ℕ, List, map, take}
use Rattle.btr_hist.specs.Machine as model
use Rattle.btr_hist.specs.Machine.{Event as events, Reply as replies}
use Rattle.btr_hist.specs.Laws.{Right}
use Rattle.btr_core.specs.declared.event.Event.{Event}
use Rattle.btr_core.specs.declared.event.What.{What}
use Rattle.btr_core.specs.declared.event.What.TheVariants as what
use Rattle.btr_core.specs.declared.event.Reply.{Reply}
use Rattle.btr_core.specs.declared.event.Reply.TheVariants as reply

-- What an actor does.
abbrev pub event_of : What → model.Event
event_of (what.Commit entry) = events.Commit entry
event_of what.Admit = events.Admit
event_of (what.Ask query) = events.Ask query
event_of (what.Plan stream) = events.Plan stream
event_of what.Land = events.Land

-- The events of actors, each with its actor.
abbrev pub events_of : List Event → List (ℕ × model.Event)
events_of es = map (λ e. (e.actor, event_of e.what)) es

-- What is replied.
abbrev pub reply_of : Reply → model.Reply
reply_of (reply.Accepted r) = replies.Accepted (record { number = r.number; stream = r.stream; version = r.version })
reply_of (reply.Rejected why) = replies.Rejected why
reply_of (reply.Admitted entries) = replies.Admitted entries
reply_of (reply.Answered answer) = replies.Answered answer
reply_of (reply.Planned made) = replies.Planned made
reply_of reply.NotOutput = replies.NotOutput
reply_of (reply.Superseded version) = replies.Superseded version
reply_of reply.NoPlan = replies.NoPlan

-- After each of the events, each version of each output is right: its kernel over all time, at the versions of its inputs that it
-- has read.
abbrev pub AreRight : List (ℕ × model.Event) → Type 0
AreRight es = (n : ℕ) → Right (model.run model.start (take n es)).history
