-- Lemmas on sets of groups and seats: the one at a place, one that is changed, one more at the end, and the last one.
use Rattle.std.specs.Prelude.{◌≡◌, ℕ, ◌+◌, ◌<◌, ◌≤◌, zero, suc, true, nat_lt, List, [], ◌∷◌, ◌++◌, length, take, slice_set}
use Rattle.std.specs.Prelude.{Result}
use Rattle.std.specs.List.{AllByRecursion}
use Rattle.std.specs.declared.alloc.AllocError.{AllocError}
use Rattle.std.proofs.Common.{refl, sym, ap, ◌∙◌, subst, arith, get_or}
use Rattle.std.proofs.lemmas.List.{length_push, take_more}
use Rattle.std.proofs.lemmas.Bool.Decides.{nat_tests}
use Rattle.btr_base.specs.declared.point.Point.{Point}
use Rattle.btr_disk.specs.declared.disk.Disk.{Ghosts}
use Rattle.btr_gate.specs.Shares.{on_path}
use Rattle.btr_gate.proofs.ShareLemmas.{on_path_append}
use Rattle.btr_hall.specs.declared.session.Hall.{Hall}
use Rattle.btr_hall.specs.declared.session.Session.{Session}
use Rattle.btr_hall.specs.Session.{IsSessionOf, Splits, share_of}
use Rattle.btr_hall.proofs.SessionLemmas.{split_paths}
use Rattle.btr_hall.specs.declared.group_item.GroupItem.{GroupItem}
use Rattle.btr_hall.specs.declared.group_answers.Offered.{Offered}
use Rattle.btr_hall.specs.declared.group_answers.OfferFault.{OfferFault}
use Rattle.btr_hall.specs.declared.group_answers.Flushed.{Flushed}
use Rattle.btr_hall.specs.GroupBook.{book}
use Rattle.btr_hall.specs.GroupCalls.{GroupView, OffersTo, FlushesTo}
use Rattle.btr_group.specs.declared.group.Group.{Group}
use Rattle.btr_group.specs.declared.group.Seat.{Seat}
use Rattle.btr_group.specs.Serves.{CommitsEach}
use Rattle.btr_group.specs.Seats.{IsGroupSeat, IsSameGroupSeat, SplitsSeat, MeetsSeat, first_session, seen_by}
use Rattle.btr_group.specs.Offers.{view_by}
use Rattle.btr_group.specs.Sets.{AreGroupsOf, AreSeatsOf, AreSameSeats, view_at_place, IsFirstSeat, SplitsFor, SplitsForEach, BeginsGroups, IsAsBefore}
use Rattle.btr_group.specs.Sets.{SplitsSeats, MeetsSeats}
use Rattle.btr_group.specs.SetSteps.{BeginsNext, IsIdlePart, TakesBack, MayEnd, SplitsBelow, MeetsBelow}
use Rattle.btr_group.specs.SetLaws.{same_seats}

-- A place is inside, as the test says.
pub inside_by : (i n : ℕ) → nat_lt i n ≡ true → i < n
inside_by i n is = grind (arith, nat_tests)

module _ {D : Type 0} {disk : Ghosts D} where
  -- ---- the one at a place

  pub seats_length : (groups : List (Group D disk)) (seats : List (Seat D disk)) → AreSeatsOf groups seats → length seats ≡ length groups
  seats_length [] [] are = refl
  seats_length [] (s ∷ seats) are = absurd are
  seats_length (g ∷ gs) [] are = absurd are
  seats_length (g ∷ gs) (s ∷ seats) are = ap suc (seats_length gs seats are.1)

  pub seat_at : (groups : List (Group D disk)) (seats : List (Seat D disk)) (i : ℕ) (g : Group D disk) (s : Seat D disk) → AreSeatsOf groups seats → i < length groups → IsGroupSeat (get_or groups i g) (get_or seats i s)
  seat_at [] seats i g s are lt = absurd (omega (arith, lt))
  seat_at (h ∷ gs) [] i g s are lt = absurd are
  seat_at (h ∷ gs) (t ∷ seats) zero g s are lt = are.0
  seat_at (h ∷ gs) (t ∷ seats) (suc i) g s are lt = seat_at gs seats i g s are.1 (omega (arith, lt))

  -- The group at a place is of the hall, and this is its stream.
  pub group_at : (hall : Hall D disk) (threshold first : ℕ) (groups : List (Group D disk)) (i j : ℕ) (g : Group D disk) → AreGroupsOf hall threshold first groups → i < length groups → first + i ≡ j
      → IsSessionOf hall (first_session (get_or groups i g)) × ((get_or groups i g).stream ≡ j) × ((get_or groups i g).threshold ≡ threshold)
  group_at hall threshold first [] i j g are lt is = absurd (omega (arith, lt))
  group_at hall threshold first (h ∷ gs) zero j g are lt is = (are.0, are.1 ∙ omega (arith, is), are.2)
  group_at hall threshold first (h ∷ gs) (suc i) j g are lt is =
      group_at hall threshold (suc first) gs i j g are.3 (omega (arith, lt)) (omega (arith, is))

  pub view_at : (seats : List (Seat D disk)) (i : ℕ) (s : Seat D disk) → i < length seats → view_at_place seats i ≡ view_by (get_or seats i s)
  view_at [] i s lt = absurd (omega (arith, lt))
  view_at (t ∷ seats) zero s lt = refl
  view_at (t ∷ seats) (suc i) s lt = view_at seats i s (omega (arith, lt))

  -- ---- one that is changed

  pub seats_set : (groups : List (Group D disk)) (seats : List (Seat D disk)) (i : ℕ) (g : Group D disk) (t : Seat D disk) → AreSeatsOf groups seats → i < length groups → IsGroupSeat (get_or groups i g) t → AreSeatsOf groups (slice_set seats i t)
  seats_set [] seats i g t are lt is = absurd (omega (arith, lt))
  seats_set (h ∷ gs) [] i g t are lt is = absurd are
  seats_set (h ∷ gs) (s ∷ seats) zero g t are lt is = (is, are.1)
  seats_set (h ∷ gs) (s ∷ seats) (suc i) g t are lt is = (are.0, seats_set gs seats i g t are.1 (omega (arith, lt)) is)

  pub same_set : (seats : List (Seat D disk)) (i : ℕ) (s t : Seat D disk) → i < length seats → IsSameGroupSeat (get_or seats i s) t → AreSameSeats seats (slice_set seats i t)
  same_set [] i s t lt same = absurd (omega (arith, lt))
  same_set (u ∷ seats) zero s t lt same = (same, same_seats seats)
  same_set (u ∷ seats) (suc i) s t lt same = (record { share = refl; start = refl }, same_set seats i s t (omega (arith, lt)) same)

  pub view_set : (seats : List (Seat D disk)) (i : ℕ) (t : Seat D disk) → i < length seats → view_at_place (slice_set seats i t) i ≡ view_by t
  view_set [] i t lt = absurd (omega (arith, lt))
  view_set (s ∷ seats) zero t lt = refl
  view_set (s ∷ seats) (suc i) t lt = view_set seats i t (omega (arith, lt))

  pub view_other : (seats : List (Seat D disk)) (i other : ℕ) (t : Seat D disk) → (other ≡ i → ⊥) → view_at_place (slice_set seats i t) other ≡ view_at_place seats other
  view_other [] i other t not = refl
  view_other (s ∷ seats) zero zero t not = absurd (not refl)
  view_other (s ∷ seats) zero (suc other) t not = refl
  view_other (s ∷ seats) (suc i) zero t not = refl
  view_other (s ∷ seats) (suc i) (suc other) t not = view_other seats i other t (λ is. not (ap suc is))

  -- ---- what a lane reads at a place, and what it leaves there

  pub seat_read : (groups : List (Group D disk)) (seats : List (Seat D disk)) (i : ℕ) (g : Group D disk) (s : Seat D disk) → AreSeatsOf groups seats → i < length groups → g ≡ get_or groups i g → s ≡ get_or seats i s → IsGroupSeat g s
  seat_read groups seats i g s are lt group_is seat_is =
      subst (λ (x : Group D disk). IsGroupSeat x s) (sym group_is)
      (subst (λ (y : Seat D disk). IsGroupSeat (get_or groups i g) y) (sym seat_is) (seat_at groups seats i g s are lt))

  pub session_read : (hall : Hall D disk) (threshold : ℕ) (groups : List (Group D disk)) (i : ℕ) (g : Group D disk) → AreGroupsOf hall threshold 0 groups → i < length groups → g ≡ get_or groups i g → IsSessionOf hall (first_session g)
  session_read hall threshold groups i g are lt group_is =
      subst (λ (x : Group D disk). IsSessionOf hall (first_session x)) (sym group_is) (group_at hall threshold 0 groups i i g are lt (omega arith)).0

  pub seats_left : (groups : List (Group D disk)) (seats : List (Seat D disk)) (i : ℕ) (g : Group D disk) (t : Seat D disk) → AreSeatsOf groups seats → i < length groups → g ≡ get_or groups i g → IsGroupSeat g t → AreSeatsOf groups (slice_set seats i t)
  seats_left groups seats i g t are lt group_is is =
      seats_set groups seats i g t are lt (subst (λ (x : Group D disk). IsGroupSeat x t) group_is is)

  pub same_left : (seats : List (Seat D disk)) (i : ℕ) (s t : Seat D disk) → i < length seats → s ≡ get_or seats i s → IsSameGroupSeat s t → AreSameSeats seats (slice_set seats i t)
  same_left seats i s t lt seat_is same = same_set seats i s t lt (subst (λ (x : Seat D disk). IsSameGroupSeat x t) seat_is same)

  view_read : (seats : List (Seat D disk)) (i : ℕ) (s : Seat D disk) → i < length seats → s ≡ get_or seats i s → view_by s ≡ view_at_place seats i
  view_read seats i s lt seat_is = ap view_by seat_is ∙ sym (view_at seats i s lt)

  pub offers_at : (hall : Hall D disk) (threshold : ℕ) (groups : List (Group D disk)) (seats : List (Seat D disk)) (i : ℕ) (g : Group D disk) (s t : Seat D disk) (points : List Point) (result : Result Offered OfferFault) → AreGroupsOf hall threshold 0 groups → AreSeatsOf groups seats → i < length groups → g ≡ get_or groups i g → s ≡ get_or seats i s
      → OffersTo g.stream g.threshold (view_by s) (view_by t) points result → OffersTo i threshold (view_at_place seats i) (view_at_place (slice_set seats i t) i) points result
  offers_at hall threshold groups seats i g s t points result are seats_are lt group_is seat_is offers =
      let at = group_at hall threshold 0 groups i i g are lt (omega arith) in
      let inside : i < length seats = omega (arith, lt, seats_length groups seats seats_are) in
      subst (λ (v : GroupView). OffersTo i threshold (view_at_place seats i) v points result) (sym (view_set seats i t inside))
      (subst (λ (v : GroupView). OffersTo i threshold v (view_by t) points result) (view_read seats i s inside seat_is)
      (subst (λ k. OffersTo k threshold (view_by s) (view_by t) points result) (ap (λ (x : Group D disk). x.stream) group_is ∙ at.1)
      (subst (λ k. OffersTo g.stream k (view_by s) (view_by t) points result) (ap (λ (x : Group D disk). x.threshold) group_is ∙ at.2) offers)))

  pub flushes_at : (groups : List (Group D disk)) (seats : List (Seat D disk)) (i : ℕ) (s t : Seat D disk) (result : Result Flushed AllocError) → AreSeatsOf groups seats → i < length groups → s ≡ get_or seats i s
      → FlushesTo (view_by s) (view_by t) result → FlushesTo (view_at_place seats i) (view_at_place (slice_set seats i t) i) result
  flushes_at groups seats i s t result seats_are lt seat_is flushes =
      let inside : i < length seats = omega (arith, lt, seats_length groups seats seats_are) in
      subst (λ (v : GroupView). FlushesTo (view_at_place seats i) v result) (sym (view_set seats i t inside))
      (subst (λ (v : GroupView). FlushesTo v (view_by t) result) (view_read seats i s inside seat_is) flushes)

  -- ---- one more at the end

  groups_push : (hall : Hall D disk) (threshold first : ℕ) (groups : List (Group D disk)) (g : Group D disk) → AreGroupsOf hall threshold first groups → IsSessionOf hall (first_session g) → g.stream ≡ first + length groups → g.threshold ≡ threshold
      → AreGroupsOf hall threshold first (groups ++ g ∷ [])
  groups_push hall threshold first [] g are session stream leads = (session, omega (arith, stream), leads, tt)
  groups_push hall threshold first (h ∷ gs) g are session stream leads =
      (are.0, are.1, are.2, groups_push hall threshold (suc first) gs g are.3 session (omega (arith, stream)) leads)

  pub seats_push : (groups : List (Group D disk)) (seats : List (Seat D disk)) (g : Group D disk) (s : Seat D disk) → AreSeatsOf groups seats → IsGroupSeat g s → AreSeatsOf (groups ++ g ∷ []) (seats ++ s ∷ [])
  seats_push [] [] g s are is = (is, tt)
  seats_push [] (t ∷ seats) g s are is = absurd are
  seats_push (h ∷ gs) [] g s are is = absurd are
  seats_push (h ∷ gs) (t ∷ seats) g s are is = (are.0, seats_push gs seats g s are.1 is)

  -- There is one more seat, of the group at the next place.
  pub seats_more : (groups : List (Group D disk)) (seats : List (Seat D disk)) (i : ℕ) (g : Group D disk) (s : Seat D disk) → AreSeatsOf (take i groups) seats → i < length groups → g ≡ get_or groups i g → IsGroupSeat g s → AreSeatsOf (take (i + 1) groups) (seats ++ s ∷ [])
  seats_more groups seats i g s are lt group_is is =
      subst (λ (z : List (Group D disk)). AreSeatsOf z (seats ++ s ∷ [])) (sym (take_more groups i g lt))
      (seats_push (take i groups) seats (get_or groups i g) s are (subst (λ (x : Group D disk). IsGroupSeat x s) group_is is))

  first_push : (seats : List (Seat D disk)) (s : Seat D disk) → AllByRecursion IsFirstSeat seats → IsFirstSeat s → AllByRecursion IsFirstSeat (seats ++ s ∷ [])
  first_push [] s all is = (is, tt)
  first_push (t ∷ seats) s all is = (all.0, first_push seats s all.1 is)

  -- A session was split for each of some groups, and then for one more.
  pub splits_push : (hall : Hall D disk) (s : Session D disk) (groups : List (Group D disk)) (t : Session D disk) (g : Group D disk) (u : Session D disk) → SplitsForEach hall s groups t → SplitsFor hall t g u → SplitsForEach hall s (groups ++ g ∷ []) u
  splits_push hall s [] t g u splits last = (u, subst (λ (z : Session D disk). SplitsFor hall z g u) (sym splits) last, refl)
  splits_push hall s (h ∷ gs) t g u splits last = (splits.0, splits.1, splits_push hall splits.0 gs t g u splits.2 last)

  -- ---- the last one

  -- A session was split for each of some groups: the session before the last of them.
  pub splits_pop : (hall : Hall D disk) (s : Session D disk) (groups : List (Group D disk)) (g : Group D disk) (u : Session D disk) → SplitsForEach hall s (groups ++ g ∷ []) u → (t : Session D disk) × SplitsForEach hall s groups t × SplitsFor hall t g u
  splits_pop hall s [] g u splits = (s, refl, subst (λ (z : Session D disk). SplitsFor hall s g z) splits.2 splits.1)
  splits_pop hall s (h ∷ gs) g u splits =
      let rest = splits_pop hall splits.0 gs g u splits.2 in (rest.0, (splits.0, splits.1, rest.1), rest.2)

  pub groups_pop : (hall : Hall D disk) (threshold first : ℕ) (groups : List (Group D disk)) (g : Group D disk) → AreGroupsOf hall threshold first (groups ++ g ∷ []) → AreGroupsOf hall threshold first groups × IsSessionOf hall (first_session g) × (g.stream ≡ first + length groups) × (g.threshold ≡ threshold)
  groups_pop hall threshold first [] g are = (tt, are.0, are.1 ∙ omega arith, are.2)
  groups_pop hall threshold first (h ∷ gs) g are =
      let rest = groups_pop hall threshold (suc first) gs g are.3 in ((are.0, are.1, are.2, rest.0), rest.1, rest.2 ∙ omega arith, rest.3)

  pub seats_pop : (groups : List (Group D disk)) (seats : List (Seat D disk)) (g : Group D disk) (s : Seat D disk) → AreSeatsOf (groups ++ g ∷ []) (seats ++ s ∷ []) → AreSeatsOf groups seats × IsGroupSeat g s
  seats_pop [] [] g s are = (tt, are.0)
  seats_pop [] (t ∷ []) g s are = absurd are.1
  seats_pop [] (t ∷ u ∷ seats) g s are = absurd are.1
  seats_pop (h ∷ []) [] g s are = absurd are.1
  seats_pop (h ∷ i ∷ gs) [] g s are = absurd are.1
  seats_pop (h ∷ gs) (t ∷ seats) g s are = let rest = seats_pop gs seats g s are.1 in ((are.0, rest.0), rest.1)

  first_pop : (seats : List (Seat D disk)) (s : Seat D disk) → AllByRecursion IsFirstSeat (seats ++ s ∷ []) → AllByRecursion IsFirstSeat seats × IsFirstSeat s
  first_pop [] s all = (tt, all.0)
  first_pop (t ∷ seats) s all = let rest = first_pop seats s all.1 in ((all.0, rest.0), rest.1)

  -- ---- a group that begins

  pub begins_push : (hall : Hall D disk) (threshold n : ℕ) (old mid new : Session D disk) (groups : List (Group D disk)) (seats : List (Seat D disk)) (g : Group D disk) (s : Seat D disk) → BeginsGroups hall threshold n old mid groups seats → BeginsNext hall n threshold mid new g s
      → BeginsGroups hall threshold (n + 1) old new (groups ++ g ∷ []) (seats ++ s ∷ [])
  begins_push hall threshold n old mid new groups seats g s begun next = record {
    groups_are = groups_push hall threshold 0 groups g begun.groups_are next.splits.other (next.stream_is ∙ omega (arith, begun.streams_are)) next.threshold_is;
    streams_are = length_push groups g ∙ ap (λ k. k + 1) begun.streams_are;
    seats_are = seats_push groups seats g s begun.seats_are next.seat;
    first_seats = first_push seats s begun.first_seats next.first;
    splits = splits_push hall old groups mid g new begun.splits next.splits;
  }

  -- ---- a part that is taken back

  -- A session that was split took its part back.
  pub back_again : (old mid other new : Session D disk) → Splits old mid other → TakesBack mid other new → IsAsBefore old new
  back_again old mid other new splits takes = record {
    seen = takes.seen ∙ splits.seen;
    mine = takes.mine ∙ splits.mine;
    start = takes.start ∙ splits.start;
    paths = λ path.
        let both = ap (on_path path) takes.share ∙ on_path_append path (share_of other) (share_of mid) in
        let all = split_paths path old mid other splits in
        omega (arith, both, all);
  }

  -- ---- groups that end

  -- A session of a group that was not used is the one with which the group began.
  pub unused : (g : Group D disk) (s : Seat D disk) (t : Session D disk) → IsFirstSeat s → CommitsEach g.stream (first_session g) (book (seen_by s)).settled t → first_session g ≡ t
  unused g s t first commits = subst (λ (l : List GroupItem). CommitsEach g.stream (first_session g) (book l).settled t) first.seen commits

  -- What may end after groups began and one more failed.
  pub may_end : (hall : Hall D disk) (threshold n : ℕ) (before last now : Session D disk) (groups : List (Group D disk)) (seats : List (Seat D disk)) → BeginsGroups hall threshold n before last groups seats → IsAsBefore last now → MayEnd hall before now groups seats
  may_end hall threshold n before last now groups seats begun same =
      record { last = last; splits = begun.splits; seats_are = begun.seats_are; first_seats = begun.first_seats; same = same }

  -- The last of them, with its seat.
  pub may_last : (hall : Hall D disk) (before now : Session D disk) (all groups : List (Group D disk)) (all_seats seats : List (Seat D disk)) (g : Group D disk) (s : Seat D disk) → MayEnd hall before now all all_seats → all ≡ groups ++ g ∷ [] → all_seats ≡ seats ++ s ∷ [] → MayEnd hall before now (groups ++ g ∷ []) (seats ++ s ∷ [])
  may_last hall before now all groups all_seats seats g s may group_is seat_is =
      subst (λ (z : List (Group D disk)). MayEnd hall before now z (seats ++ s ∷ [])) group_is
      (subst (λ (z : List (Seat D disk)). MayEnd hall before now all z) seat_is may)

  module _ (hall : Hall D disk) (before now : Session D disk) (groups : List (Group D disk)) (seats : List (Seat D disk)) (g : Group D disk) (s : Seat D disk) (may : MayEnd hall before now (groups ++ g ∷ []) (seats ++ s ∷ [])) where
    -- The last group ends with its seat.
    pub last_seat : IsGroupSeat g s
    last_seat = (seats_pop groups seats g s may.seats_are).1

    pub last_first : IsFirstSeat s
    last_first = (first_pop seats s may.first_seats).1

    pub last_session : IsSessionOf hall (first_session g)
    last_session = (splits_pop hall before groups g may.last may.splits).2.other

    pub last_idle : IsIdlePart now (first_session g)
    last_idle =
        let splits = (splits_pop hall before groups g may.last may.splits).2.splits in
        record {
          seen = splits.other_seen ∙ sym splits.seen ∙ sym may.same.seen;
          mine = splits.other_mine;
          start = splits.other_start ∙ sym splits.start ∙ sym may.same.start;
        }

    -- What may end after it.
    pub end_last : (new : Session D disk) → TakesBack now (first_session g) new → MayEnd hall before new groups seats
    end_last new takes =
        let popped = splits_pop hall before groups g may.last may.splits in
        let splits = popped.2.splits in
        record {
          last = popped.0;
          splits = popped.1;
          seats_are = (seats_pop groups seats g s may.seats_are).0;
          first_seats = (first_pop seats s may.first_seats).0;
          same = record {
            seen = takes.seen ∙ may.same.seen ∙ splits.seen;
            mine = takes.mine ∙ may.same.mine ∙ splits.mine;
            start = takes.start ∙ may.same.start ∙ splits.start;
            paths = λ path.
                let both = ap (on_path path) takes.share ∙ on_path_append path (share_of (first_session g)) (share_of now) in
                let all = split_paths path popped.0 may.last (first_session g) splits in
                let kept = may.same.paths path in
                omega (arith, both, all, kept);
          };
        }

  -- ---- seats that are split, and seats that meet

  pub split_more : (olds news others : List (Seat D disk)) (i : ℕ) (s t u : Seat D disk) → SplitsBelow olds news others → length others ≡ i → i < length news → SplitsSeat (get_or news i s) t u → SplitsBelow olds (slice_set news i t) (others ++ u ∷ [])
  split_more olds news others i s t u below long lt splits =
      subst (λ k. SplitsBelow olds (slice_set news k t) (others ++ u ∷ [])) long
      (step olds news others below (omega (arith, long, lt)) (subst (λ k. SplitsSeat (get_or news k s) t u) (sym long) splits))
    where
      step : (olds news others : List (Seat D disk)) → SplitsBelow olds news others → length others < length news → SplitsSeat (get_or news (length others) s) t u → SplitsBelow olds (slice_set news (length others) t) (others ++ u ∷ [])
      step olds [] [] below lt splits = absurd (omega (arith, lt))
      step olds (n ∷ news) [] below lt splits = subst (λ (z : List (Seat D disk)). SplitsBelow z (t ∷ news) (u ∷ [])) (sym below) (splits, refl)
      step [] news (o ∷ others) below lt splits = absurd below
      step (old ∷ olds) [] (o ∷ others) below lt splits = absurd below
      step (old ∷ olds) (n ∷ news) (o ∷ others) below lt splits = (below.0, step olds news others below.1 (omega (arith, lt)) splits)

  pub split_all : (olds news others : List (Seat D disk)) → SplitsBelow olds news others → length olds ≤ length others → SplitsSeats olds news others
  split_all [] news [] below long = subst (λ (z : List (Seat D disk)). SplitsSeats [] z []) below tt
  split_all (old ∷ olds) news [] below long = absurd (omega (arith, long))
  split_all [] news (o ∷ others) below long = absurd below
  split_all (old ∷ olds) [] (o ∷ others) below long = absurd below
  split_all (old ∷ olds) (n ∷ news) (o ∷ others) below long = (below.0, split_all olds news others below.1 (omega (arith, long)))

  pub meet_more : (olds others news : List (Seat D disk)) (i : ℕ) (s o t : Seat D disk) → MeetsBelow olds others news → length others ≡ i → i < length news → MeetsSeat (get_or news i s) o t → MeetsBelow olds (others ++ o ∷ []) (slice_set news i t)
  meet_more olds others news i s o t below long lt meets =
      subst (λ k. MeetsBelow olds (others ++ o ∷ []) (slice_set news k t)) long
      (step olds others news below (omega (arith, long, lt)) (subst (λ k. MeetsSeat (get_or news k s) o t) (sym long) meets))
    where
      step : (olds others news : List (Seat D disk)) → MeetsBelow olds others news → length others < length news → MeetsSeat (get_or news (length others) s) o t → MeetsBelow olds (others ++ o ∷ []) (slice_set news (length others) t)
      step olds [] [] below lt meets = absurd (omega (arith, lt))
      step olds [] (n ∷ news) below lt meets = subst (λ (z : List (Seat D disk)). MeetsBelow z (o ∷ []) (t ∷ news)) (sym below) (meets, refl)
      step [] (p ∷ others) news below lt meets = absurd below
      step (old ∷ olds) (p ∷ others) [] below lt meets = absurd below
      step (old ∷ olds) (p ∷ others) (n ∷ news) below lt meets = (below.0, step olds others news below.1 (omega (arith, lt)) meets)

  pub meet_all : (olds others news : List (Seat D disk)) → MeetsBelow olds others news → length olds ≤ length others → MeetsSeats olds others news
  meet_all [] [] news below long = subst (λ (z : List (Seat D disk)). MeetsSeats [] [] z) below tt
  meet_all (old ∷ olds) [] news below long = absurd (omega (arith, long))
  meet_all [] (p ∷ others) news below long = absurd below
  meet_all (old ∷ olds) (p ∷ others) [] below long = absurd below
  meet_all (old ∷ olds) (p ∷ others) (n ∷ news) below long = (below.0, meet_all olds others news below.1 (omega (arith, long)))
