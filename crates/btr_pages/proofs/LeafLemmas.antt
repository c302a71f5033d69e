-- Lemmas on the page of a leaf: its points are in order and in its span, so they are those of a tree.
use Rattle.std.specs.Prelude.{◌≡◌, ℕ, ℤ, pos, ◌+ℤ◌, true, List, [], ◌∷◌, length, take, Result, Ok, Err, IfOk}
use Rattle.std.specs.List.{AllByRecursion}
use Rattle.std.proofs.Common.{ap, ◌∙◌, subst, arith}
use Rattle.std.proofs.lemmas.Int.{ints}
use Rattle.std.proofs.lemmas.List.{length-take-le}
use Rattle.btr_base.specs.declared.point.Point.{Point}
use Rattle.btr_base.specs.Bag.{sort, within, is_within}
use Rattle.btr_base.specs.Span.{SpanValue, width}
use Rattle.btr_base.proofs.ListLemmas.{filter-all}
use Rattle.btr_base.proofs.PointLemmas.{sort-of_order}
use Rattle.btr_tree.specs.Change.{end_of}
use Rattle.btr_tree.specs.Opened.{IsLeafTree}
use Rattle.btr_tree.specs.Root.{TreeValue, WasOpened}
use Rattle.btr_node.specs.Page.{IsInside, IsLeafPage}
use Rattle.btr_node.specs.declared.page.PageHeader.{PageHeader}
use Rattle.btr_pages.specs.Made.{AreLeafPoints, IsLeafMade}

inside-is : (start : ℤ) (height : ℕ) (p : Point) → IsInside start height p → is_within start (start +ℤ pos (width height)) p ≡ true
inside-is start height p is = grind (arith, ints)

inside-all : (start : ℤ) (height : ℕ) (ps : List Point) → AllByRecursion (IsInside start height) ps → AllByRecursion (λ p. is_within start (start +ℤ pos (width height)) p ≡ true) ps
inside-all start height [] all = tt
inside-all start height (p ∷ ps) all = (inside-is start height p all.0, inside-all start height ps all.1)

-- The used places of a leaf's page have the points of a leaf.
pub leaf-points : (f : PageHeader) (points : List Point) → IsLeafPage f points → length points ≡ 252 → AreLeafPoints (record { start = f.start; height = f.height }) (take f.count points)
leaf-points f points keeps full =
    let from = keeps.count_from in
    let to = keeps.count_to in
    let long = length-take-le f.count points (omega arith) in
    record { some = omega arith; few = omega arith; in_order = keeps.in_order; inside = keeps.inside }

pub leaf-within : (span : SpanValue) (points : List Point) → AreLeafPoints span points → within span.start (end_of span) points ≡ points
leaf-within span points are =
    filter-all (is_within span.start (span.start +ℤ pos (width span.height))) points (inside-all span.start span.height points are.inside)

pub leaf-sorted : (span : SpanValue) (points copy bag : List Point) → AreLeafPoints span points → copy ≡ points → bag ≡ sort copy → bag ≡ points
leaf-sorted span points copy bag are same sorted = sorted ∙ ap sort same ∙ sort-of_order points are.in_order

pub leaf-made_of : {E : Type 0} (r : Result TreeValue E) (block version : ℕ) (span : SpanValue) (points bag : List Point) → bag ≡ points → IfOk r (IsLeafTree span version block bag) → IfOk r WasOpened → IfOk r (IsLeafMade block span version points)
leaf-made_of (Err e) block version span points bag same is opened = tt
leaf-made_of (Ok t) block version span points bag same is opened =
    record { is = subst (λ ps. IsLeafTree span version block ps t) same is; opened = opened }
