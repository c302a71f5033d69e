-- What a lane keeps of its groups and seats is known in one way at most, so a proof may use it. What a lane finds at the place of a stream,
-- and what it leaves there.
use Rattle.std.specs.Prelude.{◌≡◌, ◌<◌, ℕ, suc, true, nat_lt, List, [], ◌∷◌, length, slice_set}
use Rattle.std.specs.Vec.{vec_len}
use Rattle.std.specs.Coded.{coded_ℕ, coded_option, code_by}
use Rattle.std.proofs.Common.{refl, arith, get_or}
use Rattle.std.proofs.Math.Logic.{∥∥₁_elim}
use base.Stored.{Coded, Coded-set}
use denote.RattleType.{RattleType}
use Rattle.atomic_table.specs.Seated.{table_id_coded}
use Rattle.btr_disk.specs.declared.disk.Disk.{Ghosts}
use Rattle.btr_engine.specs.declared.engine.Engine.{Engine}
use Rattle.btr_hall.specs.declared.session.Hall.{Hall}
use Rattle.btr_hall.specs.declared.session.Session.{Session}
use Rattle.btr_hall.specs.Session.{IsSessionOf, opening_of}
use Rattle.btr_hall.specs.Commit.{shown}
use Rattle.btr_hall.specs.contracts.session.Hall as hall_type
use Rattle.btr_group.specs.contracts.group.Group as group_type
use Rattle.btr_group.specs.declared.group.Group.{Group}
use Rattle.btr_group.specs.declared.group.GroupSetting.{GroupSetting}
use Rattle.btr_group.specs.declared.group.Seat.{Seat}
use Rattle.btr_group.specs.declared.lane_groups.LaneGroups.{LaneGroups}
use Rattle.btr_group.specs.Seats.{IsGroupSeat, IsSameGroupSeat, first_session, setting_of}
use Rattle.btr_group.specs.Sets.{AreGroupsOf, AreSeatsOf, AreSameSeats}
use Rattle.btr_group.proofs.SetLemmas.{inside_by, seats_length, seat_read, session_read, seats_left, same_left}

module _ {D : Type 0} {disk : Ghosts D} where
  -- The code of an engine, from that of a hall.
  engine_coded : Coded (Hall D disk) → Hall D disk → Coded (Engine D disk)
  engine_coded coded hall = code_by (Hall D disk) coded (λ x. record hall { opening = shown x }) opening_of (λ _. refl)

  -- The code of a setting, from that of a group.
  setting_coded : Coded (Group D disk) → Group D disk → Coded (GroupSetting D disk)
  setting_coded coded g =
      code_by (Group D disk) coded (λ x. record g { stream = x.stream; threshold = x.threshold; start = shown x.session }) setting_of (λ _. refl)

  session_prop : Coded (Hall D disk) → (hall : Hall D disk) (s : Session D disk) → IsProp (IsSessionOf hall s)
  session_prop coded hall s = λ x y i. record {
    own = Coded-set table_id_coded _ _ x.own y.own i;
    set = Coded-set (coded_option (engine_coded coded hall)) _ _ x.set y.set i;
  }

  seat_prop : Coded (Group D disk) → (g : Group D disk) (s : Seat D disk) → IsProp (IsGroupSeat g s)
  seat_prop coded g s = λ x y i. record {
    own = Coded-set table_id_coded _ _ x.own y.own i;
    set = Coded-set (coded_option (setting_coded coded g)) _ _ x.set y.set i;
  }

  groups_prop : Coded (Hall D disk) → (hall : Hall D disk) (threshold first : ℕ) (groups : List (Group D disk)) → IsProp (AreGroupsOf hall threshold first groups)
  groups_prop coded hall threshold first [] = λ x y i. tt
  groups_prop coded hall threshold first (g ∷ gs) = λ x y i. (
    session_prop coded hall (first_session g) x.0 y.0 i,
    Coded-set coded_ℕ _ _ x.1 y.1 i,
    Coded-set coded_ℕ _ _ x.2 y.2 i,
    groups_prop coded hall threshold (suc first) gs x.3 y.3 i,
  )

  seats_prop : Coded (Group D disk) → (groups : List (Group D disk)) (seats : List (Seat D disk)) → IsProp (AreSeatsOf groups seats)
  seats_prop coded [] [] = λ x y i. tt
  seats_prop coded [] (s ∷ seats) = λ x y. absurd x
  seats_prop coded (g ∷ gs) [] = λ x y. absurd x
  seats_prop coded (g ∷ gs) (s ∷ seats) = λ x y i. (seat_prop coded g s x.0 y.0 i, seats_prop coded gs seats x.1 y.1 i)

module _ (T : RattleType) (ghosts : Ghosts T.Denot) (lane : LaneGroups T.Denot ghosts) where
  pub groups_known : AreGroupsOf lane.hall.now lane.threshold 0 lane.groups.now
  groups_known =
      ∥∥₁_elim lane.groups_are (groups_prop (hall_type.the_row T ghosts).coded lane.hall.now lane.threshold 0 lane.groups.now) (λ x. x)

  pub seats_known : AreSeatsOf lane.groups.now lane.seats.items
  seats_known = ∥∥₁_elim lane.seats_are (seats_prop (group_type.the_row T ghosts).coded lane.groups.now lane.seats.items) (λ x. x)

  -- ---- the place of a stream

  module _ (stream : ℕ) (has : nat_lt stream (length lane.groups.now) ≡ true) where
    pub has_group : stream < length lane.groups.now
    has_group = inside_by stream (length lane.groups.now) has

    pub has_seat : stream < vec_len lane.seats
    has_seat = omega (arith, has_group, seats_length lane.groups.now lane.seats.items seats_known, lane.seats.ok.0)

    -- Another seat at this place, with the same share, leaves the lane with the same seats.
    pub same_after : (old new : Seat T.Denot ghosts) → old ≡ get_or lane.seats.items stream old → IsSameGroupSeat old new → AreSameSeats lane.seats.items (slice_set lane.seats.items stream new)
    same_after old new is same =
        same_left lane.seats.items stream old new (omega (arith, has_group, seats_length lane.groups.now lane.seats.items seats_known)) is same

    module _ (group : Group T.Denot ghosts) (is : group ≡ get_or lane.groups.now stream group) where
      pub group_seat : (seat : Seat T.Denot ghosts) → seat ≡ get_or lane.seats.items stream seat → IsGroupSeat group seat
      group_seat seat seat_is = seat_read lane.groups.now lane.seats.items stream group seat seats_known has_group is seat_is

      pub group_session : IsSessionOf lane.hall.now (first_session group)
      group_session = session_read lane.hall.now lane.threshold lane.groups.now stream group groups_known has_group is

      -- The invariant of the lane with another seat of the group.
      pub lane_after : (seat : Seat T.Denot ghosts) → IsGroupSeat group seat → record {
        groups_are : ∥ AreGroupsOf lane.hall.now lane.threshold 0 lane.groups.now ∥₁;
        seats_are : ∥ AreSeatsOf lane.groups.now (slice_set lane.seats.items stream seat) ∥₁;
      }
      lane_after seat of = record {
        groups_are = lane.groups_are;
        seats_are = ∣ seats_left lane.groups.now lane.seats.items stream group seat seats_known has_group is of ∣₁;
      }
