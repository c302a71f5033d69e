-- A leader and its follower as a machine: the frames that were shipped, what reaches the follower, and what it has acknowledged.
use Rattle.std.specs.Prelude.{ℕ, ◌+◌, ◌-◌, ◌==◌, List, [], ◌∷◌, ◌++◌, length, slice_get}
use Rattle.std.specs.Prelude.{if◌then◌else◌, Option, Some, None}
use Rattle.btr_hist.specs.declared.entry.Entry.{Entry}
use Rattle.btr_hist.specs.Machine as model
use Rattle.btr_core.specs.Events.{event_of}
use Rattle.btr_follow.specs.declared.event.FollowEvent.{FollowEvent}
use Rattle.btr_follow.specs.declared.event.FollowEvent.TheVariants.{Lead, Ship, Deliver, Torn}
use Rattle.btr_follow.specs.declared.event.Lengths.{Lengths}

-- A frame that was shipped: an entry and its number.
pub record Shipped : Type 0 where
  pub number : ℕ
  pub entry : Entry

-- The leader, all frames that were ever shipped, the history of the follower, and the number of entries that it has acknowledged.
pub record World : Type 0 where
  pub leader : model.Machine
  pub shipped : List Shipped
  pub follower : List Entry
  pub acked : ℕ

-- Before the first event.
abbrev pub first_world : World
first_world = record { leader = model.start; shipped = []; follower = []; acked = 0 }

-- The entry of a history with this number. The numbers begin with 1.
abbrev pub entry_at : List Entry → ℕ → Option Entry
entry_at h number = if number == 0 then None else slice_get h (number - 1)

-- The frame with this number and this entry is shipped, if there is an entry.
abbrev pub with_frame : World → ℕ → Option Entry → World
with_frame w number None = w
with_frame w number (Some e) = record {
  leader = w.leader;
  shipped = w.shipped ++ record { number = number; entry = e } ∷ [];
  follower = w.follower;
  acked = w.acked;
}

-- The follower takes the entry of a frame, and acknowledges it.
abbrev pub taken : World → Shipped → World
taken w x = record { leader = w.leader; shipped = w.shipped; follower = w.follower ++ x.entry ∷ []; acked = x.number }

-- A frame reaches the follower, if there is one. Its entry is taken if it has the number of the follower's next entry.
abbrev pub delivered : World → Option Shipped → World
delivered w None = w
delivered w (Some x) = if x.number == length w.follower + 1 then taken w x else w

-- The follower is started again. It acknowledges what it finds.
abbrev pub restarted : World → World
restarted w = record { leader = w.leader; shipped = w.shipped; follower = w.follower; acked = length w.follower }

-- What an event leads to.
abbrev pub next_world : World → FollowEvent → World
next_world w (Lead e) = record {
  leader = model.next w.leader e.actor (event_of e.what);
  shipped = w.shipped;
  follower = w.follower;
  acked = w.acked;
}
next_world w (Ship number) = with_frame w number (entry_at w.leader.history number)
next_world w (Deliver frame) = delivered w (slice_get w.shipped frame)
next_world w (Torn frame kept) = restarted (if kept then delivered w (slice_get w.shipped frame) else w)

-- What events lead to, the first of them first.
abbrev pub run_world : World → List FollowEvent → World
run_world w [] = w
run_world w (e ∷ es) = run_world (next_world w e) es

-- What events lead to from the beginning.
abbrev pub world_after : List FollowEvent → World
world_after es = run_world first_world es

-- The lengths of the histories, and the number of acknowledged entries.
abbrev pub lengths_of : World → Lengths
lengths_of w = record { leader = length w.leader.history; follower = length w.follower; acked = w.acked }

-- The lengths after each of the events.
abbrev pub lengths_from : World → List FollowEvent → List Lengths
lengths_from w [] = []
lengths_from w (e ∷ es) = lengths_of (next_world w e) ∷ lengths_from (next_world w e) es
