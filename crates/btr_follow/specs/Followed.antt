-- The laws of a leader and its follower.
use Rattle.std.specs.Prelude.{◌≡◌, ℕ, ◌≤◌, List, ◌++◌, length, slice_get, Some}
use Rattle.std.specs.List.{AllByRecursion}
use Rattle.btr_hist.specs.declared.entry.Entry.{Entry}
use Rattle.btr_hist.specs.Legal.{Legal}
use Rattle.btr_hist.specs.Laws.{Right}
use Rattle.btr_entry.specs.Grammar.{IsEntry}
use Rattle.btr_core.specs.Machine.{BeginsWith}
use Rattle.btr_follow.specs.declared.event.FollowEvent.{FollowEvent}
use Rattle.btr_follow.specs.declared.event.FollowEvent.TheVariants.{Deliver}
use Rattle.btr_follow.specs.declared.frame.Frame.{Frame}
use Rattle.btr_follow.specs.declared.heard.Heard.{Heard}
use Rattle.btr_follow.specs.Hears.{Hears, IsOfLeader}
use Rattle.btr_follow.specs.World.{Shipped, World, entry_at, next_world, world_after}

-- The frame has the leader's entry of its number.
abbrev pub IsShippedBy : List Entry → Shipped → Type 0
IsShippedBy h x = entry_at h x.number ≡ Some x.entry

-- The follower follows: its history is a prefix of the leader's, so it is legal, and each version of each output is right. Each frame has
-- the leader's entry of its number. The follower has at least the entries that it has acknowledged.
pub record FollowsLeader (w : World) : Type 0 where
  pub prefix : BeginsWith w.leader.history w.follower
  pub legal : Legal w.follower
  pub right : Right w.follower
  pub frames : AllByRecursion (IsShippedBy w.leader.history) w.shipped
  pub acked : w.acked ≤ length w.follower

-- The follower follows, whatever happens.
abbrev pub AlwaysFollows : Type 0
AlwaysFollows = (es : List FollowEvent) → FollowsLeader (world_after es)

-- What a follower has acknowledged never falls, whatever happens.
abbrev pub NeverForgets : Type 0
NeverForgets = (es more : List FollowEvent) → (world_after es).acked ≤ (world_after (es ++ more)).acked

-- The frame is this one that was shipped: it has its number, and its bytes are those of its entry.
pub record IsFrameOf (x : Shipped) (f : Frame) : Type 0 where
  pub numbered : f.number ≡ x.number
  pub spelled : IsEntry f.bytes x.entry

-- The answer to a frame is none of one that is not of the leader, and then the history is that after the delivery of the frame.
pub record IsDelivered (w : World) (i : ℕ) (answer : Heard) (after : List Entry) : Type 0 where
  pub of_leader : IsOfLeader answer
  pub delivery : after ≡ (next_world w (Deliver i)).follower

-- Whatever happened, what the follower answers to a frame that was shipped is the delivery of that frame.
abbrev pub DeliversAreHeard : Type 0
DeliversAreHeard =
    (es : List FollowEvent) (i : ℕ) (x : Shipped) (f : Frame) (answer : Heard) (after : List Entry)
    → slice_get (world_after es).shipped i ≡ Some x → IsFrameOf x f → Hears (world_after es).follower f answer after
    → IsDelivered (world_after es) i answer after
