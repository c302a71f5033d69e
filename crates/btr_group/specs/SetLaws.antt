-- The laws of the seats of a lane, which its ghost members cite: seats are as before after no call and after more calls.
use Rattle.std.specs.Prelude.{List, [], ◌∷◌}
use Rattle.std.proofs.Common.{refl, ◌∙◌}
use Rattle.btr_disk.specs.declared.disk.Disk.{Ghosts}
use Rattle.btr_group.specs.declared.group.Seat.{Seat}
use Rattle.btr_group.specs.Sets.{AreSameSeats}

module _ {D : Type 0} {disk : Ghosts D} where
  pub same_seats : (seats : List (Seat D disk)) → AreSameSeats seats seats
  same_seats [] = tt
  same_seats (s ∷ seats) = (record { share = refl; start = refl }, same_seats seats)

  pub same_twice : (first second third : List (Seat D disk)) → AreSameSeats first second → AreSameSeats second third
      → AreSameSeats first third
  same_twice [] [] [] early late = tt
  same_twice (first ∷ firsts) (second ∷ seconds) (third ∷ thirds) early late = (
    record { share = late.0.share ∙ early.0.share; start = late.0.start ∙ early.0.start },
    same_twice firsts seconds thirds early.1 late.1,
  )
  same_twice [] (second ∷ seconds) thirds early late = absurd early
  same_twice (first ∷ firsts) [] thirds early late = absurd early
  same_twice [] [] (third ∷ thirds) early late = absurd late
  same_twice (first ∷ firsts) (second ∷ seconds) [] early late = absurd late
