-- The seats of lanes that share groups: parts of the first seats when the lanes begin, and one seat of each group when they end.
use Rattle.std.specs.Prelude.{◌≡◌, ℕ, zero, suc, Bool, List, [], ◌∷◌, length}
use Rattle.std.specs.List.{AllByRecursion}
use Rattle.btr_disk.specs.declared.disk.Disk.{Ghosts}
use Rattle.btr_gate.specs.Numbers.{total, times}
use Rattle.btr_gate.specs.Prefixes.{StartsWith}
use Rattle.btr_gate.specs.Shares.{on_path}
use Rattle.btr_hall.specs.declared.group_item.GroupItem.{GroupItem}
use Rattle.btr_hall.specs.declared.session.Hall.{Hall}
use Rattle.btr_hall.specs.GroupCalls.{GroupView, no_items}
use Rattle.btr_group.specs.declared.group.Group.{Group}
use Rattle.btr_group.specs.declared.group.Seat.{Seat}
use Rattle.btr_group.specs.declared.lane_groups.LaneGroups.{LaneGroups}
use Rattle.btr_group.specs.Seats.{HasWholeShare, share_by, items_at_start}
use Rattle.btr_group.specs.Sets.{AreSeatsOf, AreSameSeats, IsFirstSeat, view_at_place}

module _ {D : Type 0} {disk : Ghosts D} where
  -- The share of the seat at a place. After the last seat it is empty.
  abbrev pub share_at_place : List (Seat D disk) → ℕ → List (List Bool)
  share_at_place [] place = []
  share_at_place (s ∷ seats) zero = share_by s
  share_at_place (s ∷ seats) (suc place) = share_at_place seats place

  -- The number of items when the group at a place began, by its seat. After the last seat it is 0.
  abbrev pub start_at_place : List (Seat D disk) → ℕ → ℕ
  start_at_place [] place = 0
  start_at_place (s ∷ seats) zero = items_at_start s
  start_at_place (s ∷ seats) (suc place) = start_at_place seats place

  -- What a lane has seen and done in the group at a place.
  abbrev pub lane_view : LaneGroups D disk → ℕ → GroupView
  lane_view lane place = view_at_place lane.seats.items place

  -- The share of a lane in the group at a place.
  abbrev pub lane_share : LaneGroups D disk → ℕ → List (List Bool)
  lane_share lane place = share_at_place lane.seats.items place

  -- The number of items when the group at a place began, by the seat of a lane.
  abbrev pub lane_start : LaneGroups D disk → ℕ → ℕ
  lane_start lane place = start_at_place lane.seats.items place

  -- The lane uses these groups.
  abbrev pub IsLaneOf : List (Group D disk) → LaneGroups D disk → Type 0
  IsLaneOf groups lane = lane.groups.now ≡ groups

  -- The seats of the lanes are parts of these first seats: in each group the shares of all lanes together meet each path as often as the
  -- share of the first seat, and the group began with no item.
  pub record ArePartsOfSeats (firsts : List (Seat D disk)) (lanes : List (LaneGroups D disk)) : Type 0 where
    pub together : (place : ℕ) (path : ℕ → Bool)
        → total (λ lane. on_path path (lane_share lane place)) lanes ≡ on_path path (share_at_place firsts place)
    pub starts : AllByRecursion (λ lane. (place : ℕ) → lane_start lane place ≡ 0) lanes

  -- ---- the beginning

  -- The lane uses these groups of this hall, and has seen and done nothing yet.
  pub record IsUnusedLane (hall : Hall D disk) (threshold : ℕ) (groups : List (Group D disk)) (lane : LaneGroups D disk) : Type 0 where
    pub hall_is : lane.hall.now ≡ hall
    pub groups_are : IsLaneOf groups lane
    pub threshold_is : lane.threshold ≡ threshold
    pub seats_are : AreSeatsOf groups lane.seats.items
    pub views : (stream : ℕ) → lane_view lane stream ≡ no_items
    pub starts : (place : ℕ) → lane_start lane place ≡ 0

  -- This many lanes began with parts of the first seats of their groups.
  pub record BeginsLanes (hall : Hall D disk) (threshold count : ℕ) (groups : List (Group D disk)) (firsts : List (Seat D disk))
      (lanes : List (LaneGroups D disk)) : Type 0 where
    pub count_is : length lanes ≡ count
    pub each : AllByRecursion (IsUnusedLane hall threshold groups) lanes
    pub parts : ArePartsOfSeats firsts lanes

  -- ---- calls

  -- The second lane is the first after calls: this is `later` of `LaneGroups`.
  abbrev pub IsLaterLane : LaneGroups D disk → LaneGroups D disk → Type 0
  IsLaterLane old new =
      (new.hall ≡ old.hall) × (new.groups ≡ old.groups) × (new.threshold ≡ old.threshold) × AreSameSeats old.seats.items new.seats.items

  -- Each of the second lanes is the first one at its place, after calls.
  abbrev pub AreLaterLanes : List (LaneGroups D disk) → List (LaneGroups D disk) → Type 0
  AreLaterLanes [] [] = Unit {0}
  AreLaterLanes [] (new ∷ news) = ⊥
  AreLaterLanes (old ∷ olds) [] = ⊥
  AreLaterLanes (old ∷ olds) (new ∷ news) = IsLaterLane old new × AreLaterLanes olds news

  -- ---- the end

  -- The seat is the only one of its group, which began with no item.
  pub record IsLastSeat (s : Seat D disk) : Type 0 where
    pub whole : HasWholeShare s
    pub start : items_at_start s ≡ 0

  -- The seats of all lanes met, those of each group in one seat. It has seen the longest of the lists that the lanes have seen, with which
  -- none is at odds. It has the items of all lanes and meets the paths of all. If the lanes have parts of first seats, it is the last seat
  -- of its group.
  pub record EndsLanes (groups : List (Group D disk)) (lanes : List (LaneGroups D disk)) (seats : List (Seat D disk)) : Type 0 where
    pub seats_are : AreSeatsOf groups seats
    pub seen : (place : ℕ) → AllByRecursion (λ lane. StartsWith (view_at_place seats place).seen (lane_view lane place).seen) lanes
    pub longest : (place : ℕ) (l : List GroupItem)
        → AllByRecursion (λ lane. StartsWith l (lane_view lane place).seen) lanes → StartsWith l (view_at_place seats place).seen
    pub own : (place n : ℕ) → times n (view_at_place seats place).own ≡ total (λ lane. times n (lane_view lane place).own) lanes
    pub paths : (place : ℕ) (path : ℕ → Bool)
        → on_path path (share_at_place seats place) ≡ total (λ lane. on_path path (lane_share lane place)) lanes
    pub whole : (firsts : List (Seat D disk)) → AreSeatsOf groups firsts → AllByRecursion IsFirstSeat firsts → ArePartsOfSeats firsts lanes
        → AllByRecursion IsLastSeat seats
