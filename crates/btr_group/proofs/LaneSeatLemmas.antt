-- Lemmas on lanes that share groups, for those who use them: what holds of lanes that begin, and after calls.
use Rattle.std.specs.Prelude.{◌≡◌, ℕ, zero, suc, Bool, List, [], ◌∷◌, length}
use Rattle.std.specs.List.{AllByRecursion}
use Rattle.std.proofs.Common.{refl, sym, ap, ◌∙◌, subst, arith}
use Rattle.btr_base.proofs.ListLemmas.{each-weaker}
use Rattle.btr_disk.specs.declared.disk.Disk.{Ghosts}
use Rattle.btr_gate.specs.Numbers.{total}
use Rattle.btr_gate.specs.Shares.{on_path}
use Rattle.btr_hall.specs.declared.session.Hall.{Hall}
use Rattle.btr_group.specs.declared.group.Group.{Group}
use Rattle.btr_group.specs.declared.group.Seat.{Seat}
use Rattle.btr_group.specs.declared.lane_groups.LaneGroups.{LaneGroups}
use Rattle.btr_group.specs.Sets.{AreSameSeats}
use Rattle.btr_group.specs.LaneSeats.{share_at_place, start_at_place, lane_share, lane_start, IsLaneOf, ArePartsOfSeats, IsUnusedLane, BeginsLanes, AreLaterLanes}

module _ {D : Type 0} {disk : Ghosts D} where
  -- Lanes that begin are of their groups.
  pub begun_lanes : (hall : Hall D disk) (threshold count : ℕ) (groups : List (Group D disk)) (firsts : List (Seat D disk)) (lanes : List (LaneGroups D disk)) → BeginsLanes hall threshold count groups firsts lanes → AllByRecursion (IsLaneOf groups) lanes
  begun_lanes hall threshold count groups firsts lanes begun =
      each-weaker (IsUnusedLane hall threshold groups) (IsLaneOf groups) (λ lane unused. unused.groups_are) lanes begun.each

  -- ---- lanes after calls

  same_share_at : (place : ℕ) (olds news : List (Seat D disk)) → AreSameSeats olds news → share_at_place news place ≡ share_at_place olds place
  same_share_at place [] [] same = refl
  same_share_at zero (old ∷ olds) (new ∷ news) same = same.0.share
  same_share_at (suc place) (old ∷ olds) (new ∷ news) same = same_share_at place olds news same.1
  same_share_at place [] (new ∷ news) same = absurd same
  same_share_at place (old ∷ olds) [] same = absurd same

  same_start_at : (place : ℕ) (olds news : List (Seat D disk)) → AreSameSeats olds news → start_at_place news place ≡ start_at_place olds place
  same_start_at place [] [] same = refl
  same_start_at zero (old ∷ olds) (new ∷ news) same = same.0.start
  same_start_at (suc place) (old ∷ olds) (new ∷ news) same = same_start_at place olds news same.1
  same_start_at place [] (new ∷ news) same = absurd same
  same_start_at place (old ∷ olds) [] same = absurd same

  later_paths : (place : ℕ) (path : ℕ → Bool) (olds news : List (LaneGroups D disk)) → AreLaterLanes olds news → total (λ (l : LaneGroups D disk). on_path path (lane_share l place)) news ≡ total (λ (l : LaneGroups D disk). on_path path (lane_share l place)) olds
  later_paths place path [] [] later = refl
  later_paths place path (old ∷ olds) (new ∷ news) later =
      let here = ap (on_path path) (same_share_at place old.seats.items new.seats.items later.0.3) in
      let rest = later_paths place path olds news later.1 in
      omega (arith, here, rest)
  later_paths place path [] (new ∷ news) later = absurd later
  later_paths place path (old ∷ olds) [] later = absurd later

  later_starts : (olds news : List (LaneGroups D disk)) → AreLaterLanes olds news → AllByRecursion (λ (l : LaneGroups D disk). (place : ℕ) → lane_start l place ≡ 0) olds → AllByRecursion (λ (l : LaneGroups D disk). (place : ℕ) → lane_start l place ≡ 0) news
  later_starts [] [] later starts = tt
  later_starts (old ∷ olds) (new ∷ news) later starts = (
    λ place. same_start_at place old.seats.items new.seats.items later.0.3 ∙ starts.0 place,
    later_starts olds news later.1 starts.1,
  )
  later_starts [] (new ∷ news) later starts = absurd later
  later_starts (old ∷ olds) [] later starts = absurd later

  -- After calls the seats of lanes are still parts of the first seats.
  pub later_parts : (firsts : List (Seat D disk)) (olds news : List (LaneGroups D disk)) → AreLaterLanes olds news → ArePartsOfSeats firsts olds → ArePartsOfSeats firsts news
  later_parts firsts olds news later parts = record {
    together = λ place path. later_paths place path olds news later ∙ parts.together place path;
    starts = later_starts olds news later parts.starts;
  }

  -- After calls there are as many lanes as before.
  pub later_length : (olds news : List (LaneGroups D disk)) → AreLaterLanes olds news → length news ≡ length olds
  later_length [] [] later = refl
  later_length (old ∷ olds) (new ∷ news) later = ap suc (later_length olds news later.1)
  later_length [] (new ∷ news) later = absurd later
  later_length (old ∷ olds) [] later = absurd later

  -- After calls the lanes are still of these groups.
  pub later_lanes : (groups : List (Group D disk)) (olds news : List (LaneGroups D disk)) → AreLaterLanes olds news → AllByRecursion (IsLaneOf groups) olds → AllByRecursion (IsLaneOf groups) news
  later_lanes groups [] [] later of = tt
  later_lanes groups (old ∷ olds) (new ∷ news) later of = (
    subst (λ x. x.now ≡ groups) (sym later.0.1) of.0,
    later_lanes groups olds news later.1 of.1,
  )
  later_lanes groups [] (new ∷ news) later of = absurd later
  later_lanes groups (old ∷ olds) [] later of = absurd later
