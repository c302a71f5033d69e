-- Lemmas on groups that are closed from the last one to the first.
use Rattle.std.specs.Prelude.{◌≡◌, List, [], ◌∷◌, ◌++◌, length}
use Rattle.std.specs.List.{AllByRecursion}
use Rattle.std.proofs.Common.{refl, sym, ap, ◌∙◌, subst, arith}
use Rattle.std.proofs.lemmas.List.{append_assoc}
use Rattle.btr_disk.specs.declared.disk.Disk.{Ghosts}
use Rattle.btr_hall.specs.declared.session.Hall.{Hall}
use Rattle.btr_hall.specs.declared.session.Session.{Session}
use Rattle.btr_hall.specs.Session.{IsSessionOf, Meets}
use Rattle.btr_group.specs.declared.group.Group.{Group}
use Rattle.btr_group.specs.declared.group.Seat.{Seat}
use Rattle.btr_group.specs.Seats.{IsGroupSeat, HasWholeShare, first_session}
use Rattle.btr_group.specs.Sets.{AreSeatsOf}
use Rattle.btr_group.specs.Closing.{AreOfHall, EndsGroup, MeetsEach}

-- What is so of all is so of the last one and of those before it.
pub all_last : {A : Type 0} (P : A → Type 0) (xs : List A) (x : A) → AllByRecursion P (xs ++ x ∷ []) → AllByRecursion P xs × P x
all_last P [] x all = (tt, all.0)
all_last P (y ∷ xs) x all = let rest = all_last P xs x all.1 in ((all.0, rest.0), rest.1)

pub one_less : {A : Type 0} (front : List A) (x : A) (left done all : List A) → left ≡ front ++ x ∷ [] → left ++ done ≡ all → front ++ x ∷ done ≡ all
one_less front x left done all is split = sym (append_assoc front (x ∷ []) done) ∙ sym (ap (λ l. l ++ done) is) ∙ split

module _ {D : Type 0} {disk : Ghosts D} where
  pub seats_long : (groups : List (Group D disk)) (seats : List (Seat D disk)) → AreSeatsOf groups seats → length seats ≡ length groups
  seats_long [] [] are = refl
  seats_long [] (s ∷ seats) are = absurd are
  seats_long (g ∷ groups) [] are = absurd are
  seats_long (g ∷ groups) (s ∷ seats) are = let rest = seats_long groups seats are.1 in omega (arith, rest)

  -- The last seat is one of the last group.
  pub seats_last : (groups : List (Group D disk)) (g : Group D disk) (seats : List (Seat D disk)) (s : Seat D disk) → AreSeatsOf (groups ++ g ∷ []) (seats ++ s ∷ []) → AreSeatsOf groups seats × IsGroupSeat g s
  seats_last [] g [] s are = (tt, are.0)
  seats_last [] g (t ∷ []) s are = absurd are.1
  seats_last [] g (t ∷ u ∷ seats) s are = absurd are.1
  seats_last (h ∷ []) g [] s are = absurd are.1
  seats_last (h ∷ i ∷ groups) g [] s are = absurd are.1
  seats_last (h ∷ groups) g (t ∷ seats) s are = let rest = seats_last groups g seats s are.1 in ((are.0, rest.0), rest.1)

  -- What is left of a close: the groups and seats that are left, and those that were closed.
  pub record LeftToClose (hall : Hall D disk) (first now : Session D disk) (all_groups groups : List (Group D disk)) (all_seats seats : List (Seat D disk)) : Type 0 where
    pub groups_done : List (Group D disk)
    pub seats_done : List (Seat D disk)
    pub groups_are : groups ++ groups_done ≡ all_groups
    pub seats_are : seats ++ seats_done ≡ all_seats
    pub fit : AreSeatsOf groups seats
    pub of_hall : AreOfHall hall groups
    pub whole : AllByRecursion HasWholeShare seats
    pub meets : MeetsEach hall first groups_done seats_done now

  module _ (hall : Hall D disk) (first now : Session D disk) (all_groups groups front : List (Group D disk)) (all_seats seats part : List (Seat D disk)) (g : Group D disk) (s : Seat D disk) (left : LeftToClose hall first now all_groups groups all_seats seats) (groups_is : groups ≡ front ++ g ∷ []) (seats_is : seats ≡ part ++ s ∷ []) where
    fits : AreSeatsOf front part × IsGroupSeat g s
    fits = seats_last front g part s (subst (λ gs. AreSeatsOf gs (part ++ s ∷ [])) groups_is (subst (λ ss. AreSeatsOf groups ss) seats_is left.fit))

    halls : AreOfHall hall front × IsSessionOf hall (first_session g)
    halls = all_last (λ g. IsSessionOf hall (first_session g)) front g (subst (λ gs. AreOfHall hall gs) groups_is left.of_hall)

    wholes : AllByRecursion HasWholeShare part × HasWholeShare s
    wholes = all_last HasWholeShare part s (subst (λ ss. AllByRecursion HasWholeShare ss) seats_is left.whole)

    pub seat_last : IsGroupSeat g s
    seat_last = fits.1

    pub hall_last : IsSessionOf hall (first_session g)
    hall_last = halls.1

    pub whole_last : HasWholeShare s
    whole_last = wholes.1

    -- One group was closed.
    pub closed_one : (other new : Session D disk) → EndsGroup g s other → IsSessionOf hall other → Meets now other new → IsSessionOf hall new → LeftToClose hall first new all_groups front all_seats part
    closed_one other new ends is_other meets is_new = record {
      groups_done = g ∷ left.groups_done;
      seats_done = s ∷ left.seats_done;
      groups_are = one_less front g groups left.groups_done all_groups groups_is left.groups_are;
      seats_are = one_less part s seats left.seats_done all_seats seats_is left.seats_are;
      fit = fits.0;
      of_hall = halls.0;
      whole = wholes.0;
      meets = (now, other, left.meets, ends, is_other, meets, is_new);
    }

  -- All were closed.
  pub closed_all : (hall : Hall D disk) (first now : Session D disk) (all_groups groups : List (Group D disk)) (all_seats seats : List (Seat D disk)) → LeftToClose hall first now all_groups groups all_seats seats → length groups ≡ 0 → MeetsEach hall first all_groups all_seats now
  closed_all hall first now all_groups [] all_seats [] left none =
      subst (λ gs. MeetsEach hall first gs all_seats now) left.groups_are (subst (λ ss. MeetsEach hall first left.groups_done ss now) left.seats_are left.meets)
  closed_all hall first now all_groups [] all_seats (s ∷ seats) left none = absurd left.fit
  closed_all hall first now all_groups (g ∷ groups) all_seats seats left none = absurd (omega (arith, none))
