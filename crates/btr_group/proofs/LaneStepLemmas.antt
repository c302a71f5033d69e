-- Lemmas on the seats of lanes, place by place: what is split off, and what meets.
use Rattle.std.specs.Prelude.{◌≡◌, ℕ, ◌+◌, zero, suc, Bool, List, [], ◌∷◌, ◌++◌, length}
use Rattle.std.specs.List.{AllByRecursion}
use Rattle.std.proofs.Common.{refl, sym, ap, ◌∙◌, subst, arith, append_assoc}
use Rattle.std.proofs.lemmas.List.{length_push}
use Rattle.btr_base.proofs.ListLemmas.{each-weaker}
use Rattle.btr_base.proofs.RangeLemmas.{each-push}
use Rattle.btr_disk.specs.declared.disk.Disk.{Ghosts}
use Rattle.btr_gate.specs.Numbers.{total, times, merged}
use Rattle.btr_gate.specs.Prefixes.{StartsWith, longer}
use Rattle.btr_gate.specs.Shares.{on_path}
use Rattle.btr_gate.proofs.NumberLemmas.{one_same, times_merged}
use Rattle.btr_gate.proofs.PrefixLemmas.{starts_refl, starts_trans, longer_starts}
use Rattle.btr_gate.proofs.ShareLemmas.{on_path_append, on_path_halves, cover_same}
use Rattle.btr_hall.specs.declared.session.Hall.{Hall}
use Rattle.btr_hall.specs.declared.group_item.GroupItem.{GroupItem}
use Rattle.btr_hall.specs.GroupCalls.{GroupView, no_items}
use Rattle.btr_group.specs.declared.group.Group.{Group}
use Rattle.btr_group.specs.declared.group.Seat.{Seat}
use Rattle.btr_group.specs.declared.lane_groups.LaneGroups.{LaneGroups}
use Rattle.btr_group.specs.Seats.{HasWholeShare, share_by}
use Rattle.btr_group.specs.Sets.{AreSeatsOf, IsFirstSeat, SplitsSeats, MeetsSeats, view_at_place}
use Rattle.btr_group.specs.LaneSeats.{share_at_place, start_at_place, lane_view, lane_share, lane_start, IsUnusedLane, BeginsLanes, IsLastSeat, EndsLanes}
use Rattle.btr_group.specs.LaneSteps.{IsUnusedSeat, SplitsLane, SplitsLanes, MeetsLanes}

-- ---- lists

-- A sum over one item more.
total_push : {A : Type 0} (f : A → ℕ) (xs : List A) (x : A) → total f (xs ++ x ∷ []) ≡ total f xs + f x
total_push f [] x = omega arith
total_push f (y ∷ xs) x = let e = total_push f xs x in omega arith

-- What holds of one item more holds of the first ones, and of the last one.
each_first : {A : Type 0} (P : A → Type 0) (xs : List A) (x : A) → AllByRecursion P (xs ++ x ∷ []) → AllByRecursion P xs
each_first P [] x all = tt
each_first P (y ∷ xs) x all = (all.0, each_first P xs x all.1)

each_last : {A : Type 0} (P : A → Type 0) (xs : List A) (x : A) → AllByRecursion P (xs ++ x ∷ []) → P x
each_last P [] x all = all.0
each_last P (y ∷ xs) x all = each_last P xs x all.1

-- One item more is counted.
pub count_push : {A : Type 0} (n : ℕ) (xs ys : List A) (x : A) → ys ≡ xs ++ x ∷ [] → length xs + 1 ≡ n → length ys + 1 ≡ n + 1
count_push {A = A} n xs ys x more count =
    let long = ap (length {A = A}) more ∙ length_push xs x in
    omega (arith, long, count)

-- One item more of a list was taken.
pub split_push : {A : Type 0} (done old new all : List A) (x : A) → done ++ old ≡ all → old ≡ x ∷ new → (done ++ x ∷ []) ++ new ≡ all
split_push {A = A} done old new all x split taken =
    append_assoc done (x ∷ []) new ∙ ap (λ (l : List A). done ++ l) (sym taken) ∙ split

-- A list that has no number is empty.
no_number : (ms : List ℕ) → ((n : ℕ) → times n ms ≡ 0) → ms ≡ []
no_number [] none = refl
no_number (m ∷ ms) none =
    let here = one_same m m refl in
    let sum = none m in
    absurd (omega (arith, here, sum))

-- The empty list begins with no other.
starts_none : {A : Type 0} (l : List A) → StartsWith [] l → l ≡ []
starts_none [] starts = refl
starts_none (x ∷ l) starts = absurd (cc (starts.1))

starts_empty : {A : Type 0} (l : List A) → l ≡ [] → StartsWith [] l
starts_empty {A = A} l empty = subst (λ (x : List A). StartsWith [] x) (sym empty) ([], refl)

total_none : {A : Type 0} (f : A → ℕ) (xs : List A) → AllByRecursion (λ x. f x ≡ 0) xs → total f xs ≡ 0
total_none f [] all = refl
total_none f (x ∷ xs) all =
    let here = all.0 in
    let rest = total_none f xs all.1 in
    omega (arith, here, rest)

-- What a meeting of seats is at a place.
record MeetsPlace (old new other : GroupView) (old_share new_share other_share : List (List Bool)) (old_start new_start : ℕ) : Type 0 where
  seen : new.seen ≡ longer old.seen other.seen
  this : StartsWith new.seen old.seen
  that : StartsWith new.seen other.seen
  own : new.own ≡ merged old.own other.own
  share : new_share ≡ old_share ++ other_share
  start : new_start ≡ old_start

module _ {D : Type 0} {disk : Ghosts D} where
  -- ---- seats that are split

  split_paths_at : (place : ℕ) (path : ℕ → Bool) (olds news others : List (Seat D disk)) → SplitsSeats olds news others → on_path path (share_at_place others place) + on_path path (share_at_place news place) ≡ on_path path (share_at_place olds place)
  split_paths_at place path [] [] [] splits = refl
  split_paths_at zero path (old ∷ olds) (new ∷ news) (other ∷ others) splits =
      let half = ap (on_path path) splits.0.share in
      let rest = ap (on_path path) splits.0.other_share in
      let all = on_path_halves path (share_by old) in
      omega (arith, half, rest, all)
  split_paths_at (suc place) path (old ∷ olds) (new ∷ news) (other ∷ others) splits =
      split_paths_at place path olds news others splits.1
  split_paths_at place path [] [] (other ∷ others) splits = absurd splits
  split_paths_at place path [] (new ∷ news) others splits = absurd splits
  split_paths_at place path (old ∷ olds) [] others splits = absurd splits
  split_paths_at place path (old ∷ olds) (new ∷ news) [] splits = absurd splits

  split_unused : (olds news others : List (Seat D disk)) → SplitsSeats olds news others → AllByRecursion IsUnusedSeat olds → AllByRecursion IsUnusedSeat news × AllByRecursion IsUnusedSeat others
  split_unused [] [] [] splits unused = (tt, tt)
  split_unused (old ∷ olds) (new ∷ news) (other ∷ others) splits unused =
      let rest = split_unused olds news others splits.1 unused.1 in
      let at = splits.0 in
      let was = unused.0 in (
        (record { seen = at.seen ∙ was.seen; own = at.own ∙ was.own; start = at.start ∙ was.start }, rest.0),
        (record { seen = at.other_seen ∙ was.seen; own = at.other_own; start = at.other_start ∙ was.start }, rest.1),
      )
  split_unused [] [] (other ∷ others) splits unused = absurd splits
  split_unused [] (new ∷ news) others splits unused = absurd splits
  split_unused (old ∷ olds) [] others splits unused = absurd splits
  split_unused (old ∷ olds) (new ∷ news) [] splits unused = absurd splits

  unused_view : (seats : List (Seat D disk)) → AllByRecursion IsUnusedSeat seats → (place : ℕ) → view_at_place seats place ≡ no_items
  unused_view [] unused place = refl
  unused_view (s ∷ seats) unused zero = λ i. record { seen = unused.0.seen i; own = unused.0.own i }
  unused_view (s ∷ seats) unused (suc place) = unused_view seats unused.1 place

  unused_start : (seats : List (Seat D disk)) → AllByRecursion IsUnusedSeat seats → (place : ℕ) → start_at_place seats place ≡ 0
  unused_start [] unused place = refl
  unused_start (s ∷ seats) unused zero = unused.0.start
  unused_start (s ∷ seats) unused (suc place) = unused_start seats unused.1 place

  first_unused : (seats : List (Seat D disk)) → AllByRecursion IsFirstSeat seats → AllByRecursion IsUnusedSeat seats
  first_unused seats first =
      each-weaker IsFirstSeat IsUnusedSeat (λ s f. record { seen = f.seen; own = f.own; start = f.start }) seats first

  -- ---- lanes that begin

  pub splits_none : (hall : Hall D disk) (threshold : ℕ) (groups : List (Group D disk)) (firsts : List (Seat D disk)) → AreSeatsOf groups firsts → AllByRecursion IsFirstSeat firsts → SplitsLanes hall threshold groups firsts [] firsts
  splits_none hall threshold groups firsts are first = record {
    seats_are = are;
    unused = first_unused firsts first;
    each = tt;
    paths = λ place path. omega arith;
  }

  -- A lane is made of seats that are not used.
  unused_lane : (hall : Hall D disk) (threshold : ℕ) (groups : List (Group D disk)) (lane : LaneGroups D disk) → lane.hall.now ≡ hall → lane.groups.now ≡ groups → lane.threshold ≡ threshold → AreSeatsOf groups lane.seats.items → AllByRecursion IsUnusedSeat lane.seats.items → IsUnusedLane hall threshold groups lane
  unused_lane hall threshold groups lane of at limit are unused = record {
    hall_is = of;
    groups_are = at;
    threshold_is = limit;
    seats_are = are;
    views = unused_view lane.seats.items unused;
    starts = unused_start lane.seats.items unused;
  }

  splits_push : (hall : Hall D disk) (threshold : ℕ) (groups : List (Group D disk)) (firsts : List (Seat D disk)) (lanes : List (LaneGroups D disk)) (seats news : List (Seat D disk)) (lane : LaneGroups D disk) → AreSeatsOf groups news → SplitsLanes hall threshold groups firsts lanes seats → SplitsLane hall threshold groups seats news lane → SplitsLanes hall threshold groups firsts (lanes ++ lane ∷ []) news
  splits_push hall threshold groups firsts lanes seats news lane are before step =
      let unused = split_unused seats news lane.seats.items step.splits before.unused in
      record {
        seats_are = are;
        unused = unused.0;
        each = each-push (IsUnusedLane hall threshold groups) lanes lane before.each
            (unused_lane hall threshold groups lane step.hall_is step.groups_are step.threshold_is step.seats_are unused.1);
        paths = λ place path.
            let sum = total_push (λ (l : LaneGroups D disk). on_path path (lane_share l place)) lanes lane in
            let cut = split_paths_at place path seats news lane.seats.items step.splits in
            let was = before.paths place path in
            omega (arith, sum, cut, was);
      }

  -- One lane more is split off.
  pub splits_then : (hall : Hall D disk) (threshold : ℕ) (groups : List (Group D disk)) (firsts : List (Seat D disk)) (lanes more : List (LaneGroups D disk)) (seats news : List (Seat D disk)) (lane : LaneGroups D disk) → more ≡ lanes ++ lane ∷ [] → AreSeatsOf groups news → SplitsLanes hall threshold groups firsts lanes seats → SplitsLane hall threshold groups seats news lane → SplitsLanes hall threshold groups firsts more news
  splits_then hall threshold groups firsts lanes more seats news lane added are before step =
      subst (λ (l : List (LaneGroups D disk)). SplitsLanes hall threshold groups firsts l news) (sym added) (splits_push hall threshold groups firsts lanes seats news lane are before step)

  begins_push : (hall : Hall D disk) (threshold count : ℕ) (groups : List (Group D disk)) (firsts : List (Seat D disk)) (lanes : List (LaneGroups D disk)) (seats : List (Seat D disk)) (lane : LaneGroups D disk) → length lanes + 1 ≡ count → SplitsLanes hall threshold groups firsts lanes seats → lane.hall.now ≡ hall → lane.groups.now ≡ groups → lane.threshold ≡ threshold → lane.seats.items ≡ seats → BeginsLanes hall threshold count groups firsts (lanes ++ lane ∷ [])
  begins_push hall threshold count groups firsts lanes seats lane many before of at limit same =
      let are : AreSeatsOf groups lane.seats.items = subst (AreSeatsOf groups) (sym same) before.seats_are in
      let unused : AllByRecursion IsUnusedSeat lane.seats.items = subst (AllByRecursion IsUnusedSeat) (sym same) before.unused in
      let each = each-push (IsUnusedLane hall threshold groups) lanes lane before.each (unused_lane hall threshold groups lane of at limit are unused) in
      record {
        count_is = length_push lanes lane ∙ many;
        each = each;
        parts = record {
          together = λ place path.
              let sum = total_push (λ (l : LaneGroups D disk). on_path path (lane_share l place)) lanes lane in
              let last = ap (λ (l : List (Seat D disk)). on_path path (share_at_place l place)) same in
              let was = before.paths place path in
              omega (arith, sum, last, was);
          starts = each-weaker (IsUnusedLane hall threshold groups) (λ l. (place : ℕ) → lane_start l place ≡ 0) (λ l u. u.starts) (lanes ++ lane ∷ []) each;
        };
      }

  -- The last lane has what is left of the seats.
  pub begins_lanes : (hall : Hall D disk) (threshold count : ℕ) (groups : List (Group D disk)) (firsts : List (Seat D disk)) (lanes more : List (LaneGroups D disk)) (seats : List (Seat D disk)) (lane : LaneGroups D disk) → more ≡ lanes ++ lane ∷ [] → length lanes + 1 ≡ count → SplitsLanes hall threshold groups firsts lanes seats → lane.hall.now ≡ hall → lane.groups.now ≡ groups → lane.threshold ≡ threshold → lane.seats.items ≡ seats → BeginsLanes hall threshold count groups firsts more
  begins_lanes hall threshold count groups firsts lanes more seats lane added many before of at limit same =
      subst (λ (l : List (LaneGroups D disk)). BeginsLanes hall threshold count groups firsts l) (sym added) (begins_push hall threshold count groups firsts lanes seats lane many before of at limit same)

  -- ---- seats that meet

  -- What the seats at a place are after a meeting.
  abbrev MeetsSeatAt : ℕ → List (Seat D disk) → List (Seat D disk) → List (Seat D disk) → Type 0
  MeetsSeatAt place olds others news =
      MeetsPlace (view_at_place olds place) (view_at_place news place) (view_at_place others place) (share_at_place olds place) (share_at_place news place) (share_at_place others place) (start_at_place olds place) (start_at_place news place)

  meets_at : (place : ℕ) (olds others news : List (Seat D disk)) → MeetsSeats olds others news → MeetsSeatAt place olds others news
  meets_at place [] [] [] meets = record { seen = refl; this = starts_refl []; that = starts_refl []; own = refl; share = refl; start = refl }
  meets_at zero (old ∷ olds) (other ∷ others) (new ∷ news) meets =
      let at = meets.0 in
      record { seen = at.seen; this = at.this; that = at.that; own = at.own; share = at.share; start = at.start }
  meets_at (suc place) (old ∷ olds) (other ∷ others) (new ∷ news) meets = meets_at place olds others news meets.1
  meets_at place [] [] (new ∷ news) meets = absurd meets
  meets_at place [] (other ∷ others) news meets = absurd meets
  meets_at place (old ∷ olds) [] news meets = absurd meets
  meets_at place (old ∷ olds) (other ∷ others) [] meets = absurd meets

  pub meets_none : (firsts : List (Seat D disk)) → MeetsLanes firsts [] firsts
  meets_none firsts = record {
    first = λ place. starts_refl (view_at_place firsts place).seen;
    seen = λ place. tt;
    longest = λ place l starts all. starts;
    own = λ place n. omega arith;
    paths = λ place path. omega arith;
    start = λ place. refl;
  }

  meets_push : (firsts : List (Seat D disk)) (lanes : List (LaneGroups D disk)) (seats news : List (Seat D disk)) (lane : LaneGroups D disk) → MeetsLanes firsts lanes seats → MeetsSeats seats lane.seats.items news → MeetsLanes firsts (lanes ++ lane ∷ []) news
  meets_push firsts lanes seats news lane before step = record {
    first = λ place.
        starts_trans (view_at_place news place).seen (view_at_place seats place).seen (view_at_place firsts place).seen (meets_at place seats lane.seats.items news step).this (before.first place);
    seen = λ place.
        let at = meets_at place seats lane.seats.items news step in
        each-push (λ (l : LaneGroups D disk). StartsWith (view_at_place news place).seen (lane_view l place).seen) lanes lane
        (each-weaker (λ (l : LaneGroups D disk). StartsWith (view_at_place seats place).seen (lane_view l place).seen) (λ (l : LaneGroups D disk). StartsWith (view_at_place news place).seen (lane_view l place).seen)
        (λ l starts. starts_trans (view_at_place news place).seen (view_at_place seats place).seen (lane_view l place).seen at.this starts) lanes (before.seen place))
        at.that;
    longest = λ place h first all.
        let at = meets_at place seats lane.seats.items news step in
        let P : LaneGroups D disk → Type 0 = λ l. StartsWith h (lane_view l place).seen in
        subst (λ (x : List GroupItem). StartsWith h x) (sym at.seen)
        (longer_starts h (view_at_place seats place).seen (lane_view lane place).seen (before.longest place h first (each_first P lanes lane all)) (each_last P lanes lane all));
    own = λ place n.
        let at = meets_at place seats lane.seats.items news step in
        let sum = total_push (λ (l : LaneGroups D disk). times n (lane_view l place).own) lanes lane in
        let both = ap (times n) at.own ∙ times_merged n (view_at_place seats place).own (lane_view lane place).own in
        let was = before.own place n in
        omega (arith, sum, both, was);
    paths = λ place path.
        let at = meets_at place seats lane.seats.items news step in
        let sum = total_push (λ (l : LaneGroups D disk). on_path path (lane_share l place)) lanes lane in
        let both = ap (on_path path) at.share ∙ on_path_append path (share_at_place seats place) (lane_share lane place) in
        let was = before.paths place path in
        omega (arith, sum, both, was);
    start = λ place. (meets_at place seats lane.seats.items news step).start ∙ before.start place;
  }

  -- The seats took in those of one lane more.
  pub meets_then : (firsts : List (Seat D disk)) (lanes : List (LaneGroups D disk)) (seats others news : List (Seat D disk)) (lane : LaneGroups D disk) → others ≡ lane.seats.items → MeetsLanes firsts lanes seats → MeetsSeats seats others news → MeetsLanes firsts (lanes ++ lane ∷ []) news
  meets_then firsts lanes seats others news lane same before step =
      meets_push firsts lanes seats news lane before (subst (λ (l : List (Seat D disk)). MeetsSeats seats l news) same step)

  -- ---- seats that are whole again

  whole_seat : (s first : Seat D disk) → ((path : ℕ → Bool) → on_path path (share_by s) ≡ on_path path (share_by first)) → HasWholeShare first → HasWholeShare s
  whole_seat s first alike whole = cover_same (share_by s) (share_by first) alike ∙ whole

  last_seats : (groups : List (Group D disk)) (seats firsts : List (Seat D disk)) → AreSeatsOf groups seats → AreSeatsOf groups firsts → AllByRecursion IsFirstSeat firsts → ((place : ℕ) (path : ℕ → Bool) → on_path path (share_at_place seats place) ≡ on_path path (share_at_place firsts place)) → ((place : ℕ) → start_at_place seats place ≡ 0) → AllByRecursion IsLastSeat seats
  last_seats groups [] firsts are were first paths starts = tt
  last_seats [] (s ∷ seats) firsts are were first paths starts = absurd are
  last_seats (g ∷ gs) (s ∷ seats) [] are were first paths starts = absurd were
  last_seats (g ∷ gs) (s ∷ seats) (f ∷ firsts) are were first paths starts = (
    record { whole = whole_seat s f (paths 0) first.0.whole; start = starts 0 },
    last_seats gs seats firsts are.1 were.1 first.1 (λ place path. paths (suc place) path) (λ place. starts (suc place)),
  )

  first_seats : (seats : List (Seat D disk)) → AllByRecursion IsLastSeat seats → ((place : ℕ) → view_at_place seats place ≡ no_items) → AllByRecursion IsFirstSeat seats
  first_seats [] last views = tt
  first_seats (s ∷ seats) last views = (
    record { seen = ap (λ (v : GroupView). v.seen) (views 0); own = ap (λ (v : GroupView). v.own) (views 0); start = last.0.start; whole = last.0.whole },
    first_seats seats last.1 (λ place. views (suc place)),
  )

  -- ---- lanes that end

  ends_paths : (place : ℕ) (path : ℕ → Bool) (lanes : List (LaneGroups D disk)) (lane : LaneGroups D disk) (seats : List (Seat D disk)) → MeetsLanes lane.seats.items lanes seats → on_path path (share_at_place seats place) ≡ total (λ (l : LaneGroups D disk). on_path path (lane_share l place)) (lanes ++ lane ∷ [])
  ends_paths place path lanes lane seats meets =
      let sum = total_push (λ (l : LaneGroups D disk). on_path path (lane_share l place)) lanes lane in
      let was = meets.paths place path in
      omega (arith, sum, was)

  ends_push : (groups : List (Group D disk)) (lanes : List (LaneGroups D disk)) (lane : LaneGroups D disk) (seats : List (Seat D disk)) → AreSeatsOf groups seats → MeetsLanes lane.seats.items lanes seats → EndsLanes groups (lanes ++ lane ∷ []) seats
  ends_push groups lanes lane seats are meets = record {
    seats_are = are;
    seen = λ place.
        each-push (λ (l : LaneGroups D disk). StartsWith (view_at_place seats place).seen (lane_view l place).seen) lanes lane (meets.seen place) (meets.first place);
    longest = λ place h all.
        let P : LaneGroups D disk → Type 0 = λ l. StartsWith h (lane_view l place).seen in
        meets.longest place h (each_last P lanes lane all) (each_first P lanes lane all);
    own = λ place n.
        let sum = total_push (λ (l : LaneGroups D disk). times n (lane_view l place).own) lanes lane in
        let was = meets.own place n in
        omega (arith, sum, was);
    paths = λ place path. ends_paths place path lanes lane seats meets;
    whole = λ firsts were first parts.
        last_seats groups seats firsts are were first (λ place path. ends_paths place path lanes lane seats meets ∙ parts.together place path)
        (λ place. meets.start place ∙ each_last (λ (l : LaneGroups D disk). (at : ℕ) → lane_start l at ≡ 0) lanes lane parts.starts place);
  }

  -- The seats of the last lane took in those of the others.
  pub ends_lanes : (groups : List (Group D disk)) (lanes all : List (LaneGroups D disk)) (lane : LaneGroups D disk) (firsts seats : List (Seat D disk)) → all ≡ lanes ++ lane ∷ [] → firsts ≡ lane.seats.items → AreSeatsOf groups seats → MeetsLanes firsts lanes seats → EndsLanes groups all seats
  ends_lanes groups lanes all lane firsts seats last same are meets =
      subst (λ (l : List (LaneGroups D disk)). EndsLanes groups l seats) (sym last)
      (ends_push groups lanes lane seats are (subst (λ (l : List (Seat D disk)). MeetsLanes l lanes seats) same meets))

  -- ---- what was split meets again

  unseen_again : (hall : Hall D disk) (threshold : ℕ) (groups : List (Group D disk)) (lanes : List (LaneGroups D disk)) (seats news : List (Seat D disk)) (place : ℕ) → view_at_place seats place ≡ no_items → AllByRecursion (IsUnusedLane hall threshold groups) lanes → MeetsLanes seats lanes news → (view_at_place news place).seen ≡ []
  unseen_again hall threshold groups lanes seats news place view each meets =
      let none = each-weaker (IsUnusedLane hall threshold groups) (λ (l : LaneGroups D disk). StartsWith [] (lane_view l place).seen)
      (λ l u. starts_empty (lane_view l place).seen (ap (λ (v : GroupView). v.seen) (u.views place))) lanes each
      in
      let first = starts_empty (view_at_place seats place).seen (ap (λ (v : GroupView). v.seen) view) in
      starts_none (view_at_place news place).seen (meets.longest place [] first none)

  unowned_again : (hall : Hall D disk) (threshold : ℕ) (groups : List (Group D disk)) (lanes : List (LaneGroups D disk)) (seats news : List (Seat D disk)) (place : ℕ) → view_at_place seats place ≡ no_items → AllByRecursion (IsUnusedLane hall threshold groups) lanes → MeetsLanes seats lanes news → (view_at_place news place).own ≡ []
  unowned_again hall threshold groups lanes seats news place view each meets =
      no_number (view_at_place news place).own (λ n.
      let P : LaneGroups D disk → Type 0 = λ l. times n (lane_view l place).own ≡ 0 in
      let none = each-weaker (IsUnusedLane hall threshold groups) P (λ l u. ap (λ (v : GroupView). times n v.own) (u.views place)) lanes each in
      let sum = total_none (λ (l : LaneGroups D disk). times n (lane_view l place).own) lanes none in
      let first : times n (view_at_place seats place).own ≡ 0 = ap (λ (v : GroupView). times n v.own) view in
      let now = meets.own place n in
      omega (arith, sum, first, now))

  again_paths : (hall : Hall D disk) (threshold : ℕ) (groups : List (Group D disk)) (firsts : List (Seat D disk)) (lanes : List (LaneGroups D disk)) (seats news : List (Seat D disk)) (place : ℕ) (path : ℕ → Bool) → SplitsLanes hall threshold groups firsts lanes seats → MeetsLanes seats lanes news → on_path path (share_at_place news place) ≡ on_path path (share_at_place firsts place)
  again_paths hall threshold groups firsts lanes seats news place path splits meets =
      let now = meets.paths place path in
      let all = splits.paths place path in
      omega (arith, now, all)

  -- What was split has met again: the seats are the first ones.
  pub first_again : (hall : Hall D disk) (threshold : ℕ) (groups : List (Group D disk)) (firsts : List (Seat D disk)) (lanes : List (LaneGroups D disk)) (seats news : List (Seat D disk)) → AreSeatsOf groups firsts → AllByRecursion IsFirstSeat firsts → SplitsLanes hall threshold groups firsts lanes seats → AreSeatsOf groups news → MeetsLanes seats lanes news → AllByRecursion IsFirstSeat news
  first_again hall threshold groups firsts lanes seats news were first splits are meets =
      first_seats news
      (last_seats groups news firsts are were first (λ place path. again_paths hall threshold groups firsts lanes seats news place path splits meets)
      (λ place. meets.start place ∙ unused_start seats splits.unused place))
      (λ place i. record {
        seen = unseen_again hall threshold groups lanes seats news place (unused_view seats splits.unused place) splits.each meets i;
        own = unowned_again hall threshold groups lanes seats news place (unused_view seats splits.unused place) splits.each meets i;
      })
