-- What a follower does with a frame of its leader: it is the delivery of the frame.
use Rattle.std.specs.Prelude.{◌≡◌, ℕ, Bool, List, slice_get, Some}
use Rattle.btr_disk.specs.declared.disk.Disk.{Ghosts}
use Rattle.btr_disk.specs.Bytes.{Image}
use Rattle.btr_engine.specs.Holds.{HoldsHistory}
use Rattle.btr_engine.specs.Engine.{device, IsAtRest, EngineLeaves}
use Rattle.btr_follow.specs.declared.event.FollowEvent.{FollowEvent}
use Rattle.btr_follow.specs.declared.event.FollowEvent.TheVariants.{Deliver, Torn}
use Rattle.btr_follow.specs.declared.follower.Follower.{Follower}
use Rattle.btr_follow.specs.declared.frame.Frame.{Frame}
use Rattle.btr_follow.specs.declared.heard.Heard.{Heard}
use Rattle.btr_follow.specs.Hears.{IsOfLeader}
use Rattle.btr_follow.specs.World.{Shipped, next_world, world_after}
use Rattle.btr_follow.specs.Followed.{IsFrameOf}
use Rattle.btr_follow.specs.Follower.{engine_of, IsFollowerOf}

-- The image holds the history of the follower after a delivery of this frame in which it stopped: the entry is kept or not.
pub record HoldsDelivery (es : List FollowEvent) (i size : ℕ) (image : Image) : Type 0 where
  pub kept : Bool
  pub holds : HoldsHistory size image (next_world (world_after es) (Torn i kept)).follower

module _ {D : Type 0} {disk : Ghosts D} where
  -- The follower is the one that these events lead to, and the frame is the one with this index among those that were shipped.
  pub record IsDeliveredTo (es : List FollowEvent) (i : ℕ) (f : Frame) (old : Follower D disk) : Type 0 where
    pub shipped : Shipped
    pub at : slice_get (world_after es).shipped i ≡ Some shipped
    pub frame : IsFrameOf shipped f
    pub of : IsFollowerOf (world_after es).follower old

  -- The answer is none to a frame that is not of the leader, and the follower is the one after the delivery.
  pub record AnswersDelivery (es : List FollowEvent) (i : ℕ) (new : Follower D disk) (answer : Heard) : Type 0 where
    pub of_leader : IsOfLeader answer
    pub of : IsFollowerOf (next_world (world_after es) (Deliver i)).follower new

  -- If the device held the follower's history at rest, a crash at any moment leaves what a delivery leaves in which the follower stops.
  abbrev pub LeavesDelivery : List FollowEvent → ℕ → Follower D disk → Follower D disk → Type 0
  LeavesDelivery es i old new =
      IsAtRest (world_after es).follower (engine_of old)
      → EngineLeaves (engine_of old) (engine_of new) (HoldsDelivery es i (disk.size (device (engine_of old))))
