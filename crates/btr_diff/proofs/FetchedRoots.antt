-- Lemmas on the comparison of two roots whose nodes are fetched.
use Rattle.std.specs.Prelude.{◌≡◌, ℕ, ◌≤◌}
use Rattle.std.proofs.Common.{sym, subst, inl, inr, arith}
use Rattle.btr_base.specs.Point.{AreInDomain}
use Rattle.btr_base.specs.declared.limits.TheConstants.{FIRST}
use Rattle.btr_node.specs.declared.page.NodePage.{NodePage}
use Rattle.btr_tree.specs.declared.fetch.NodeFault.{NodeFault}
use Rattle.btr_tree.specs.declared.fetch.NodeFault.TheVariants.{Failed, Damaged, Want}
use Rattle.btr_tree.specs.declared.spot.Root.{Root}
use Rattle.btr_tree.specs.declared.spot.Spot.{Spot}
use Rattle.btr_tree.specs.declared.walk_fault.WalkFault.{WalkFault}
use Rattle.btr_tree.specs.declared.walk_fault.WalkFault.TheVariants.{Refused}
use Rattle.btr_tree.specs.FetchedLaws.{cause_earlier}
use Rattle.btr_tree.specs.History.{Past, bag}
use Rattle.btr_tree.specs.NewNodes.{NewNodeValue}
use Rattle.btr_tree.specs.Nodes.{above_root}
use Rattle.btr_tree.specs.Root.{root_part}
use Rattle.btr_tree.specs.NodeSource.{IfRefused}
use Rattle.btr_tree.specs.Spots.{CountRose, IsFetchCause, IsRootCause, StandsIn, MayStandIn, IsRootAt, IsPossibleRoot, IsSafeSpot, IsSpotAt, IsFetchedAt, AtEachRoot, AtEachPossibleRoot}
use Rattle.btr_diff.specs.Comparison.{IsRoot}
use Rattle.btr_diff.specs.FetchedRoots.{IsCompareCause}

-- What holds of the refusal of a walk holds of the source's.
pub refused-is : {E : Type 0} (P : E → Type 0) (w : WalkFault E) (e : E) → w ≡ Refused e → IfRefused P w → P e
refused-is P w e is held = subst (IfRefused P) is held

-- ---- The pages stay as they were.

module _ {C : Type 0} (O : Type 0) (IsPage : C → ℕ → NodePage → Type 0) where
  -- A walk may begin at a place later on.
  pub safe-later : (was now : C) → now ≡ was → (at : Spot) → IsSafeSpot O (λ x. IsPage was) at root_part → IsSafeSpot O (λ x. IsPage now) at root_part
  safe-later was now same at safe =
      subst (λ (t : C). IsSafeSpot O (λ x. IsPage t) at root_part) (sym same) safe

  -- A root of a past is so later on.
  pub root-later : (Is : (ℕ → NodePage → Type 0) → Root → Past → Type 0) (was now : C) → now ≡ was → (root : Root) (h : Past) (o : O) → Is (IsPage was) root h → Is (IsPage now) root h
  root-later Is was now same root h o is = subst (λ (t : C). Is (IsPage t) root h) (sym same) is

  -- A place that was found for a root by some relation of nodes and blocks is that of a past's root later on.
  root-found : (nodes : (ℕ → NodePage → Type 0) → ℕ → ℕ → NewNodeValue → Type 0) (Is : (ℕ → NodePage → Type 0) → Root → Past → Type 0) (was mid now : C) → mid ≡ was → now ≡ mid → (root : Root) (at : Spot) (h : Past) (o : O) → ((k : Past) → Is (IsPage mid) root k → IsSpotAt (nodes (IsPage mid)) at 10 FIRST above_root k) → Is (IsPage was) root h → AreInDomain (bag h) → IsRoot (IsFetchedAt O (λ x. nodes (IsPage now))) at h
  root-found nodes Is was mid now one two root at h o found is times =
      record {
        holds = (o, subst (λ (t : C). IsSpotAt (nodes (IsPage t)) at 10 FIRST above_root h) (sym two) (found h (root-later Is was mid one root h o is)));
        times = times;
      }

  -- A place that was found for a root of a past, with all pages there, is that of the past's root later on.
  pub root-there : (was mid now : C) → mid ≡ was → now ≡ mid → (root : Root) (at : Spot) (h : Past) (o : O) → AtEachRoot (IsPage mid) root (λ k. IsSpotAt (StandsIn (IsPage mid)) at 10 FIRST above_root k) → IsRootAt (StandsIn (IsPage was)) root h → IsRoot (IsFetchedAt O (λ x. StandsIn (IsPage now))) at h
  root-there was mid now one two root at h o found is =
      root-found StandsIn (λ has. IsRootAt (StandsIn has)) was mid now one two root at h o found is is.times

  -- A place that was found for a root that may be that of a past may be that of the past's root later on.
  pub root-possible : (was mid now : C) → mid ≡ was → now ≡ mid → (root : Root) (at : Spot) (h : Past) (o : O) → AtEachPossibleRoot (IsPage mid) root (λ k. IsSpotAt (MayStandIn (IsPage mid)) at 10 FIRST above_root k) → IsPossibleRoot (IsPage was) root h → IsRoot (IsFetchedAt O (λ x. MayStandIn (IsPage now))) at h
  root-possible was mid now one two root at h o found is =
      root-found MayStandIn IsPossibleRoot was mid now one two root at h o found is is.is.times

-- ---- Why a comparison is refused.

rose-earlier : (a b c : ℕ) → a ≤ b → CountRose b c → CountRose a c
rose-earlier a b c le rose = omega (arith, rose)

root-earlier : (O : Type 0) (root : Root) (has : O → ℕ → NodePage → Type 0) (a b c : ℕ) (e : NodeFault) → a ≤ b → IsRootCause O root has b c e → IsRootCause O root has a c e
root-earlier O root has a b c Failed le cause = rose-earlier a b c le cause
root-earlier O root has a b c (Damaged named) le cause = cause
root-earlier O root has a b c Want le cause = tt

module _ {C : Type 0} (O : Type 0) (IsPage : C → ℕ → NodePage → Type 0) (old new : Root) (was now : C) (a b c : ℕ) (e : NodeFault) (same : now ≡ was) (le : a ≤ b) where
  -- The newer root is not found.
  pub newer-lost : IsRootCause O new (λ x. IsPage now) b c e → IsCompareCause O old new (λ x. IsPage was) a c e
  newer-lost cause =
      inr (inl (root-earlier O new (λ x. IsPage was) a b c e le (subst (λ (t : C). IsRootCause O new (λ x. IsPage t) b c e) same cause)))

  -- The walk is refused.
  pub walk-refused : IsFetchCause O (λ x. IsPage now) b c e → IsCompareCause O old new (λ x. IsPage was) a c e
  walk-refused cause =
      inr (inr (cause_earlier O (λ x. IsPage was) a b c e le (subst (λ (t : C). IsFetchCause O (λ x. IsPage t) b c e) same cause)))
