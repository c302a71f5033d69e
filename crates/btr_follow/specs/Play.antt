-- Private promises: what is kept of a leader and its follower.
use Rattle.std.specs.Prelude.{◌≡◌, map, length}
use Rattle.btr_core.specs.Machine.{IsMachineOf}
use Rattle.btr_follow.specs.declared.play.Play.{Play}
use Rattle.btr_follow.specs.World.{World}

-- The machine is the leader, and the numbers are those of the frames, of the follower's entries, and of the acknowledged ones.
pub record IsPlayOf (w : World) (s : Play) : Type 0 where
  pub leader : IsMachineOf w.leader s.leader
  pub shipped : s.shipped.items ≡ map (λ x. x.number) w.shipped
  pub follower : s.follower ≡ length w.follower
  pub acked : s.acked ≡ w.acked
