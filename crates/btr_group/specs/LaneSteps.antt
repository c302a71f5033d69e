-- What the private functions of lanes promise: one more lane is split off, and lanes are met so far.
use Rattle.std.specs.Prelude.{◌≡◌, ℕ, ◌+◌, Bool, List, []}
use Rattle.std.specs.List.{AllByRecursion}
use Rattle.btr_disk.specs.declared.disk.Disk.{Ghosts}
use Rattle.btr_gate.specs.Numbers.{total, times}
use Rattle.btr_gate.specs.Prefixes.{StartsWith}
use Rattle.btr_gate.specs.Shares.{on_path}
use Rattle.btr_hall.specs.declared.group_item.GroupItem.{GroupItem}
use Rattle.btr_hall.specs.declared.session.Hall.{Hall}
use Rattle.btr_group.specs.declared.group.Group.{Group}
use Rattle.btr_group.specs.declared.group.Seat.{Seat}
use Rattle.btr_group.specs.declared.lane_groups.LaneGroups.{LaneGroups}
use Rattle.btr_group.specs.Seats.{seen_by, own_items, items_at_start}
use Rattle.btr_group.specs.Sets.{AreSeatsOf, SplitsSeats, view_at_place}
use Rattle.btr_group.specs.LaneSeats.{share_at_place, start_at_place, lane_view, lane_share, IsUnusedLane}

module _ {D : Type 0} {disk : Ghosts D} where
  -- The seat has seen and done nothing, and its group began with no item.
  pub record IsUnusedSeat (s : Seat D disk) : Type 0 where
    pub seen : seen_by s ≡ []
    pub own : own_items s ≡ []
    pub start : items_at_start s ≡ 0

  -- The lane has the other parts of seats that were split.
  pub record SplitsLane (hall : Hall D disk) (threshold : ℕ) (groups : List (Group D disk)) (olds news : List (Seat D disk))
      (lane : LaneGroups D disk) : Type 0 where
    pub hall_is : lane.hall.now ≡ hall
    pub groups_are : lane.groups.now ≡ groups
    pub threshold_is : lane.threshold ≡ threshold
    pub seats_are : AreSeatsOf groups lane.seats.items
    pub splits : SplitsSeats olds news lane.seats.items

  -- These lanes were split off the first seats, of which these seats are left. None is used.
  pub record SplitsLanes (hall : Hall D disk) (threshold : ℕ) (groups : List (Group D disk)) (firsts : List (Seat D disk))
      (lanes : List (LaneGroups D disk)) (seats : List (Seat D disk)) : Type 0 where
    pub seats_are : AreSeatsOf groups seats
    pub unused : AllByRecursion IsUnusedSeat seats
    pub each : AllByRecursion (IsUnusedLane hall threshold groups) lanes
    pub paths : (place : ℕ) (path : ℕ → Bool)
        → total (λ lane. on_path path (lane_share lane place)) lanes + on_path path (share_at_place seats place)
        ≡ on_path path (share_at_place firsts place)

  -- The first seats took in those of the lanes, in order: what they are then.
  pub record MeetsLanes (firsts : List (Seat D disk)) (lanes : List (LaneGroups D disk)) (seats : List (Seat D disk)) : Type 0 where
    pub first : (place : ℕ) → StartsWith (view_at_place seats place).seen (view_at_place firsts place).seen
    pub seen : (place : ℕ) → AllByRecursion (λ lane. StartsWith (view_at_place seats place).seen (lane_view lane place).seen) lanes
    pub longest : (place : ℕ) (l : List GroupItem) → StartsWith l (view_at_place firsts place).seen
        → AllByRecursion (λ lane. StartsWith l (lane_view lane place).seen) lanes → StartsWith l (view_at_place seats place).seen
    pub own : (place n : ℕ) → times n (view_at_place seats place).own
        ≡ times n (view_at_place firsts place).own + total (λ lane. times n (lane_view lane place).own) lanes
    pub paths : (place : ℕ) (path : ℕ → Bool) → on_path path (share_at_place seats place)
        ≡ on_path path (share_at_place firsts place) + total (λ lane. on_path path (lane_share lane place)) lanes
    pub start : (place : ℕ) → start_at_place seats place ≡ start_at_place firsts place
