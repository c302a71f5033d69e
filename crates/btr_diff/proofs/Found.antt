-- Lemmas on what a source finds, by its kind.
use Rattle.std.specs.Prelude.{◌≡◌, ℕ, ℤ, ◌≤◌, Bool, List, [], Result, Ok, Err, IfErr}
use Rattle.std.proofs.Common.{arith, subst}
use Rattle.btr_base.specs.declared.point.Point.{Point}
use Rattle.btr_base.specs.Span.{SpanValue}
use Rattle.btr_tree.specs.declared.found.FoundNode.{FoundNode}
use Rattle.btr_tree.specs.declared.found.FoundNode.TheVariants.{Nothing, Leaf, Inner}
use Rattle.btr_tree.specs.declared.node.Slot.{Slot}
use Rattle.btr_tree.specs.declared.walk_fault.WalkFault.{WalkFault}
use Rattle.btr_tree.specs.declared.walk_fault.WalkFault.TheVariants.{Want, Refused}
use Rattle.btr_tree.specs.EachHistory.{points_in}
use Rattle.btr_tree.specs.History.{Past, bag}
use Rattle.btr_tree.specs.Nodes.{node_version}
use Rattle.btr_tree.specs.Shape.{IsLeaf}
use Rattle.btr_diff.specs.Comparison.{IsNoNewer}
use Rattle.btr_tree.specs.NodeSource.{AreSafePoints, AreSafeSlots, IsFoundAt, IsInnerAt, IsSafeFound, IfRefused, count_in}

module _ {Site F I : Type 0} (points : F → List Point) (slot : I → ℕ → Slot) (place : I → ℕ → Site) (span : SpanValue) (f : FoundNode F I) where
  -- After a past.
  module _ (IsAt : Site → ℕ → ℤ → (List Point → Bool) → Past → Type 0) (above : List Point → Bool) (h : Past) where
    pub found-nothing : f ≡ Nothing → IsFoundAt IsAt points slot place span above h f → points_in span (bag h) ≡ []
    found-nothing e holds = subst (IsFoundAt IsAt points slot place span above h) e holds

    pub found-leaf : (v : ℕ) (x : F) → f ≡ Leaf v x → IsFoundAt IsAt points slot place span above h f → IsLeaf span.height span.start above h v (points x)
    found-leaf v x e holds = subst (IsFoundAt IsAt points slot place span above h) e holds

    pub found-inner : (v : ℕ) (x : I) → f ≡ Inner v x → IsFoundAt IsAt points slot place span above h f → IsInnerAt IsAt (place x) (slot x) span above h v
    found-inner v x e holds = subst (IsFoundAt IsAt points slot place span above h) e holds

  -- Whatever the source holds.
  module _ (IsSafe : Site → ℕ → ℤ → Type 0) (count : Site → ℕ) (most : ℕ) where
    pub safe-leaf : (v : ℕ) (x : F) → f ≡ Leaf v x → IsSafeFound IsSafe count points slot place most span f → AreSafePoints most span (points x)
    safe-leaf v x e safe = subst (IsSafeFound IsSafe count points slot place most span) e safe

    pub safe-inner : (v : ℕ) (x : I) → f ≡ Inner v x → IsSafeFound IsSafe count points slot place most span f → AreSafeSlots IsSafe count (place x) (slot x) span × (count_in (slot x) ≤ most)
    safe-inner v x e safe = subst (IsSafeFound IsSafe count points slot place most span) e safe

-- ---- The refusal of a walk.

-- The law of a source, for a walk that stops for its refusals.
pub refused-earlier : {Told E : Type 0} (IsCaused : Told → ℕ → ℕ → E → Type 0) → ((t : Told) (a b c : ℕ) (e : E) → a ≤ b → IsCaused t b c e → IsCaused t a c e) → (t : Told) (a b c : ℕ) (e : WalkFault E) → a ≤ b → IfRefused (IsCaused t b c) e → IfRefused (IsCaused t a c) e
refused-earlier IsCaused law t a b c Want le caused = tt
refused-earlier IsCaused law t a b c (Refused e) le caused = law t a b c e le caused

-- A weaker fact of a refusal.
pub refused-weaker : {A E : Type 0} (P Q : E → Type 0) (r : Result A (WalkFault E)) → ((e : E) → P e → Q e) → IfErr r (IfRefused P) → IfErr r (IfRefused Q)
refused-weaker P Q (Ok x) f h = tt
refused-weaker P Q (Err Want) f h = tt
refused-weaker P Q (Err (Refused e)) f h = f e h

-- ---- The version of what was found.

-- What was found is no newer, so the node of the span is not.
pub found-version : {Site F I : Type 0} (points : F → List Point) (slot : I → ℕ → Slot) (place : I → ℕ → Site) (span : SpanValue) (IsAt : Site → ℕ → ℤ → (List Point → Bool) → Past → Type 0) (above : List Point → Bool) (h : Past) (since : ℕ) (f : FoundNode F I) → IsNoNewer since f → IsFoundAt IsAt points slot place span above h f → node_version above span.height span.start h ≤ since
found-version points slot place span IsAt above h since Nothing old holds = absurd old
found-version points slot place span IsAt above h since (Leaf v x) old holds =
    let same = holds.version in
    omega arith
found-version points slot place span IsAt above h since (Inner v x) old holds =
    let same = holds.version in
    omega arith
