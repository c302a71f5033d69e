use Rattle.std.proofs.Common.{◌≡◌, length}
use Rattle.btr_tree.proofs.PlaceLemmas.{ArePlacesFrom}
use Rattle.btr_tree.proofs.opened.places_of.Given as goal

-- The children from the current one on have their places.
abbrev pub invariant-loop-n : goal.invariant-loop-n
invariant-loop-n l = record {
  slots : length l.places ≡ 64;
  places : ArePlacesFrom l.n l.children l.places;
}
