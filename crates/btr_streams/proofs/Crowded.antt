-- Why a tree refuses points, as the rejection of them by the history.
use Rattle.std.specs.Prelude.{◌≡◌, ℕ, ◌≤◌, ℤ, nat_lt, Bool, List, [], ◌∷◌, length, Option, Some, None}
use Rattle.std.specs.Option.{option_map}
use Rattle.std.proofs.Common.{sym, ap, ◌∙◌, arith}
use Rattle.std.proofs.lemmas.Bool.{lt-ltb, le-ltb}
use Rattle.btr_base.specs.declared.point.Point.{Point}
use Rattle.btr_base.specs.declared.limits.TheConstants.{FIRST, END, MAX_POINTS}
use Rattle.btr_base.specs.Bag.{IsInOrder}
use Rattle.btr_base.specs.Point.{AreInDomain}
use Rattle.btr_base.specs.Crowded.{crowded}
use Rattle.btr_base.proofs.CrowdedLemmas.{crowded-none, crowded-first}
use Rattle.btr_tree.specs.Crowd.{HasNoCrowdedSpan, IsFirstCrowd}
use Rattle.btr_tree.specs.Root.{IsTreeFault}
use Rattle.btr_tree.specs.declared.fault.TreeFault.TheVariants as tree
use Rattle.btr_hist.specs.declared.rejection.Rejection.{Rejection}
use Rattle.btr_hist.specs.declared.rejection.Rejection.TheVariants.{Crowded, TooManyPoints}
use Rattle.btr_hist.specs.Legal.{first_some, when, points_rejection}

module _ (b : List Point) (inside : AreInDomain b) where
  -- No bottom span is crowded.
  pub room-crowded : HasNoCrowdedSpan FIRST END b → crowded b ≡ None
  room-crowded room = crowded-none b inside room

  -- This is the first crowded bottom span.
  pub crowd-crowded : (start : ℤ) (place : ℕ) → IsInOrder b → IsFirstCrowd FIRST END b start place → crowded b ≡ Some start
  crowd-crowded start place order h = crowded-first b start place order inside h.is h.crowded h.first

  abbrev of_two : Option ℤ → Bool → Option Rejection
  of_two o t = first_some (option_map (λ start. Crowded start) o ∷ when t (TooManyPoints (length b)) ∷ [])

  pub room-allowed : HasNoCrowdedSpan FIRST END b → length b ≤ MAX_POINTS → points_rejection b ≡ None
  room-allowed room few =
      ap (λ o. of_two o (nat_lt MAX_POINTS (length b))) (room-crowded room) ∙ ap (of_two None) (le-ltb MAX_POINTS (length b) few)

  pub crowd-rejected : (start : ℤ) → IsInOrder b → IsTreeFault b (tree.Crowded start) → points_rejection b ≡ Some (Crowded start)
  crowd-rejected start order h =
      ap (λ o. of_two o (nat_lt MAX_POINTS (length b))) (crowd-crowded start h.0 order h.1)

  pub many-rejected : (count : ℕ) → IsTreeFault b (tree.TooManyPoints count) → points_rejection b ≡ Some (TooManyPoints count)
  many-rejected count h =
      let count_is = h.0 in
      let above = h.1 in
      ap (λ o. of_two o (nat_lt MAX_POINTS (length b))) (room-crowded h.2) ∙ ap (of_two None) (lt-ltb MAX_POINTS (length b) (omega arith)) ∙ ap (λ (n : ℕ). Some (TooManyPoints n)) (sym count_is)
