-- Lemmas on the comparison of whole trees.
use Rattle.std.specs.Prelude.{◌≡◌, ℕ, ◌+◌, ◌≤◌, ℤ, Bool, List, [], map}
use Rattle.std.proofs.Common.{sym, subst, arith}
use Rattle.btr_base.specs.declared.point.Point.{Point}
use Rattle.btr_base.specs.Point.{AreInDomain}
use Rattle.btr_base.specs.declared.limits.TheConstants.{FIRST}
use Rattle.btr_base.specs.Range.{RangeValue, IsCut}
use Rattle.btr_base.specs.Cut.{lengthened, union}
use Rattle.btr_base.specs.Changes.{changes}
use Rattle.btr_base.specs.Span.{SpanValue}
use Rattle.btr_tree.specs.History.{Past, bag}
use Rattle.btr_tree.specs.Nodes.{above_root, is_node, is_inner, up_to}
use Rattle.btr_tree.specs.Newer.{newer_nodes}
use Rattle.btr_tree.specs.Agree.{AgreeSince}
use Rattle.btr_tree.specs.Root.{root_part}
use Rattle.btr_tree.specs.EachHistory.{points_in}
use Rattle.btr_tree.proofs.RootLemmas.{root-points}
use Rattle.btr_tree.proofs.VersionLemmas.{points-since}
use Rattle.btr_diff.specs.declared.comparison.Comparison.{Comparison}
use Rattle.btr_diff.specs.Comparison.{AddsChangedSlots, newer_below}
use Rattle.btr_diff.proofs.ChangedSlots.{adds-all}
use Rattle.btr_diff.proofs.Slots.{adds-as}
use Rattle.btr_diff.proofs.Newer.{below-fewer}

-- A place of the root is that of the root's span, by whatever name.
pub root-place : {Site : Type 0} (IsAt : Site → ℕ → ℤ → (List Point → Bool) → Past → Type 0) (span : SpanValue) (site : Site) (h : Past) → span ≡ root_part → IsAt site 10 FIRST above_root h → IsAt site span.height span.start above_root h
root-place IsAt span site h e holds = subst (λ (s : SpanValue). IsAt site s.height s.start above_root h) (sym e) holds

-- A version agrees with the latest one since its number.
pub agree-since : (since : ℕ) (h k : Past) → h ≡ up_to since k → AgreeSince since h k
agree-since since h k e =
    let at : AgreeSince since (up_to since k) k = record {
      nodes = λ above height start low. points-since (is_node above height start) height start k since low;
      slots = λ above begin height start low. points-since (is_inner above begin) height start k since low;
    } in
    subst (λ x. AgreeSince since x k) (sym e) at

-- What is added in the root's span, by whatever name.
pub root-adds : (span : SpanValue) (by : Comparison) (was now : List RangeValue) (a b : List Point) → span ≡ root_part → AddsChangedSlots by was now (points_in span a) (points_in span b) → AddsChangedSlots by was now (points_in root_part a) (points_in root_part b)
root-adds span by was now a b e adds = subst (λ (s : SpanValue). AddsChangedSlots by was now (points_in s a) (points_in s b)) e adds

-- What is added in the root's span are the changes, longer.
pub root-changes : (by : Comparison) (was now : List RangeValue) (h k : Past) → by.p ≤ 62 → was ≡ [] → IsCut now → AreInDomain (bag h) → AreInDomain (bag k) → AddsChangedSlots by was now (points_in root_part (bag h)) (points_in root_part (bag k)) → now ≡ union (map (lengthened by.lead) (changes by.p (bag h) (bag k)))
root-changes by was now h k low none cut old new adds =
    let whole = adds-as by was now _ _ _ _ (root-points (bag h) old) (root-points (bag k) new) adds in
    adds-all by now (bag h) (bag k) low cut (subst (λ x. AddsChangedSlots by x now (bag h) (bag k)) none whole)

-- The nodes below the root's span, by whatever name.
pub root-below : (span : SpanValue) (first last since : ℕ) (k : Past) → span ≡ root_part → last ≤ first + newer_below span.height span.start k since → last ≤ first + newer_below 10 FIRST k since
root-below span first last since k e few = subst (λ (s : SpanValue). last ≤ first + newer_below s.height s.start k since) e few

pub root-bounded : (first last since : ℕ) (k : Past) → last ≤ first + 1 + newer_below 10 FIRST k since → last ≤ first + 1 + newer_nodes 10 FIRST above_root k since
root-bounded first last since k few =
    let more = below-fewer 10 FIRST above_root k since in
    omega arith
