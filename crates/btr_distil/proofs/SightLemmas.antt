-- Lemmas on the inputs that a plan sees.
use Rattle.std.specs.Prelude.{◌≡◌, ℕ, List, Option, Some, None}
use Rattle.std.specs.List.{flat_map, AllZip}
use Rattle.std.proofs.Common.{sym, subst}
use Rattle.rayon.proofs.ListFacts.{AllZip-weaken}
use Rattle.btr_base.specs.declared.point.Point.{Point}
use Rattle.btr_base.specs.Range.{RangeValue}
use Rattle.btr_base.specs.Bag.{IsInOrder, sort}
use Rattle.btr_tree.specs.History.{Past, bag}
use Rattle.btr_tree.specs.Root.{TreeValue}
use Rattle.btr_tree.proofs.VersionLemmas.{bag-in_order}
use Rattle.btr_hist.specs.declared.kernel.Spec.{Spec}
use Rattle.btr_hist.specs.Distil.{Inputs, AreBags, output_points}
use Rattle.btr_kernel.specs.Sources.{IsSecond, second_past_points, AtEachInputs}
use Rattle.btr_kernel.proofs.SourceLemmas.{second-in_domain}
use Rattle.btr_distil.specs.Sight.{SightValue, IsSecondInput, IsSightOf}
use Rattle.btr_hist.proofs.DistilLemmas.{output-in_order}
use Rattle.btr_distil.specs.Parts.{ArePartsOf}
use Rattle.btr_distil.proofs.PlanLemmas.{added-is}
use Rattle.btr_distil.proofs.PartLemmas.{points_in, joined-points}

-- A second input has a past with these points, if there is a second input.
record HasPast (new : Option TreeValue) (after : List Point) : Type 0 where
  past : Option Past
  tree : IsSecond past new
  is : after ≡ second_past_points past

second-past : (version : Option ℕ) (old new : Option TreeValue) (before after : List Point) → IsSecondInput version old new before after → HasPast new after
second-past None None None before after h = record { past = None; tree = tt; is = h.1 }
second-past None None (Some n) before after h = absurd h
second-past None (Some o) new before after h = absurd h
second-past (Some v) None new before after h = absurd h
second-past (Some v) (Some o) None before after h = absurd h
second-past (Some v) (Some o) (Some n) before after h = record { past = Some h.past; tree = h.newer; is = h.is }

-- What holds at the points of all pasts with the new trees holds at the new inputs.
pub at-new_inputs : (P : Inputs → Type 0) (s : SightValue) (old new : Inputs) → IsSightOf s old new → AtEachInputs s.new_first s.new_second P → P new
at-new_inputs P s old new h each =
    let first = h.first in
    let second = second-past s.old_reads.second s.old_second s.new_second old.second new.second h.second in
    let same : record { first = bag first.past; second = second_past_points second.past } ≡ new = λ i. record { first = sym first.is i; second = sym second.is i } in
    subst P same (each first.past second.past first.newer second.tree)

second-in_order : (past : Option Past) → IsInOrder (second_past_points past)
second-in_order None = tt
second-in_order (Some past) = bag-in_order past

-- The points of pasts with trees are bags of the domain.
bags-at : (first : TreeValue) (second : Option TreeValue) → AtEachInputs first second AreBags
bags-at first second h k is_first is_second =
    record {
      first_in_order = bag-in_order h;
      first_in_domain = is_first.times;
      second_in_order = second-in_order k;
      second_in_domain = second-in_domain k second is_second;
    }

-- The points of an output over trees, sorted, are still those points.
pub computed-is : (spec : Spec) (first : TreeValue) (second : Option TreeValue) (cut : List RangeValue) (points : List Point) → AtEachInputs first second (λ i. points ≡ points_in (output_points spec i) cut) → AtEachInputs first second (λ i. sort points ≡ points_in (output_points spec i) cut)
computed-is spec first second cut points each h k is_first is_second =
    added-is spec (record { first = bag h; second = second_past_points k }) cut points (bags-at first second h k is_first is_second) (each h k is_first is_second)

-- The bags of the points over the new trees in each of the parts, sorted together, are the points of the output over the new inputs
-- in the cut.
pub shared-is : (s : SightValue) (cut : List RangeValue) (parts : List (List RangeValue)) (bags : List (List Point)) (old new : Inputs) → IsSightOf s old new → ArePartsOf cut parts → AllZip (λ r b. AtEachInputs s.new_first s.new_second (λ i. b ≡ points_in (output_points s.spec i) r)) parts bags → sort (flat_map (λ b. b) bags) ≡ points_in (output_points s.spec new) cut
shared-is s cut parts bags old new h are each =
    let are_bags = at-new_inputs AreBags s old new h (bags-at s.new_first s.new_second) in
    let all = output_points s.spec new in
    let at_new = AllZip-weaken (λ r b. AtEachInputs s.new_first s.new_second (λ i. b ≡ points_in (output_points s.spec i) r)) (λ r b. b ≡ points_in all r) (λ r b k. at-new_inputs (λ i. b ≡ points_in (output_points s.spec i) r) s old new h k) parts bags each in
    added-is s.spec new cut (flat_map (λ b. b) bags) are_bags (joined-points cut all parts bags are (output-in_order s.spec new are_bags) at_new)
