-- Lemmas on a tree in memory as a source: what a visit finds is safe to walk, and is what the span is after a past.
use Rattle.std.specs.Prelude.{◌≡◌, ℕ, ◌+◌, ◌^◌, ◌<◌, ◌≤◌, ℤ, pos, ◌+ℤ◌, Bool, List, [], length, Option}
use Rattle.std.proofs.Common.{suc, sym, ap, ◌∙◌, arith, subst, Bor}
use Rattle.std.proofs.lemmas.Int.{ints}
use Rattle.btr_base.specs.Agg.{AggValue}
use Rattle.btr_base.specs.Bag.{IsInOrder}
use Rattle.btr_base.specs.Span.{width, SpanValue}
use Rattle.btr_base.specs.declared.limits.TheConstants.{LEAF_POINTS}
use Rattle.btr_base.specs.declared.point.Point.{Point}
use Rattle.btr_base.proofs.AggLemmas.{agg-count}
use Rattle.btr_base.proofs.WithinLemmas.{within-nested}
use Rattle.btr_tree.specs.declared.node.Node.{Node}
use Rattle.btr_tree.specs.declared.node.Node.TheVariants as seen
use Rattle.btr_tree.specs.declared.node.NodeData.{NodeData}
use Rattle.btr_tree.specs.declared.slots.Slots.{Slots}
use Rattle.btr_tree.specs.Change.{IsSomeChild}
use Rattle.btr_tree.specs.History.{Past, bag}
use Rattle.btr_tree.specs.Leads.{total_of}
use Rattle.btr_tree.specs.Nodes.{points_of, is_inner, node_version}
use Rattle.btr_tree.specs.Shape.{slot_start, IsNode, IsChild}
use Rattle.btr_tree.specs.Slots.{slot_in, child_in}
use Rattle.btr_tree.specs.NodeSource.{AreSafePoints, AreSafeSlots, IsInnerAt, count_in}
use Rattle.btr_tree.proofs.LeadsLemmas.{child-total}
use Rattle.btr_tree.proofs.NodeLemmas.{leaf-is, inner-is, total-of, slot-fewer, IsBody}
use Rattle.btr_tree.proofs.VersionLemmas.{points-in_order}

-- At most how many points a link has, as walks in memory say it.
abbrev pub count_of : Option NodeData → ℕ
count_of n = (total_of n).count

-- A walk in memory may go to a link.
abbrev pub IsSafeLink : Option NodeData → ℕ → ℤ → Type 0
IsSafeLink n height start = IsSomeChild height start n 0

-- A link is that of a span after a past.
abbrev pub IsLinkAt : Option NodeData → ℕ → ℤ → (List Point → Bool) → Past → Type 0
IsLinkAt n height start above h = IsChild height start above h n

-- The points of a span once more.
pub points-again : (k : ℕ) (s : ℤ) (b : List Point) → points_of k s (points_of k s b) ≡ points_of k s b
points-again k s b = within-nested s (s +ℤ pos (width k)) s (s +ℤ pos (width k)) b (omega (arith, ints)) (omega (arith, ints))

child-count : (k : ℕ) (s : ℤ) (above : List Point → Bool) (h : Past) (n : Option NodeData) → IsChild k s above h n → count_of n ≡ length (points_of k s (bag h))
child-count k s above h n holds =
    ap (λ (a : AggValue). a.count) (child-total k s above h n holds) ∙ agg-count (points_of k s (bag h))

-- A link has fewer than 2^64 points.
pub link-few : (k : ℕ) (s : ℤ) (n : Option NodeData) → IsSafeLink n k s → count_of n < 2 ^ 64
link-few k s n safe =
    let count = child-count k s safe.above safe.commits n safe.holds in
    let few = safe.few in
    omega arith

pub nothing-safe : (k : ℕ) (s : ℤ) (n : Option NodeData) (safe : IsSafeLink n k s) → points_of k s (bag safe.commits) ≡ [] → count_of n ≡ 0
nothing-safe k s n safe none =
    child-count k s safe.above safe.commits n safe.holds ∙ ap (length {A = Point}) none

pub leaf-safe : (span : SpanValue) (n : Option NodeData) (node : Node) (v : ℕ) (ps : Bor (List Point)) (safe : IsSafeLink n span.height span.start) → node ≡ seen.Leaf v ps → IsNode span.height span.start safe.above safe.commits node → AreSafePoints (count_of n) span ps.now
leaf-safe span n node v ps safe e is =
    let h = safe.commits in
    let k = span.height in
    let s = span.start in
    let leaf = leaf-is k s safe.above h node v ps e is in
    let count = child-count k s safe.above h n safe.holds in
    let same = ap (length {A = Point}) leaf.same in
    record {
      in_order = subst IsInOrder (sym leaf.same) (points-in_order k s h);
      inside = ap (points_of k s) leaf.same ∙ points-again k s (bag h) ∙ sym leaf.same;
      some = leaf.some;
      few = omega arith;
    }

slots-safe : (k : ℕ) (s : ℤ) (above : List Point → Bool) (h : Past) (n : Option NodeData) (v : ℕ) (x : Slots) → IsBody k s above h v x → IsChild k s above h n → length (points_of k s (bag h)) + 0 < 2 ^ 64 → AreSafeSlots IsSafeLink count_of (child_in x) (slot_in x) (record { start = s; height = k }) × (count_in (slot_in x) ≤ count_of n)
slots-safe k s above h n v x body holds few =
    let below = body.below in
    let all = total-of below s h x body.inner.all in
    let total : count_in (slot_in x) ≡ length (points_of (suc below) s (bag h)) = ap (λ (a : AggValue). a.count) all ∙ agg-count (points_of (suc below) s (bag h)) in
    let many = body.inner.many in
    let count = child-count k s above h n holds in
    let same = ap (λ j. length (points_of j s (bag h))) body.height in (
      record {
        below = below;
        above = body.height;
        each = λ i lt. record {
          above = is_inner (suc below) s;
          commits = h;
          holds = body.each i lt;
          few = let less = slot-fewer below s i (bag h) lt in omega arith;
        };
        counted = λ i lt.
            child-count below (slot_start below s i) (is_inner (suc below) s) h (child_in x i) (body.each i lt)
            ∙ sym (agg-count (points_of below (slot_start below s i) (bag h)))
            ∙ sym (ap (λ y. y.agg.count) (body.inner.all.each i lt));
        some = omega arith;
        small = omega arith;
      },
      omega arith,
    )

pub inner-safe : (span : SpanValue) (n : Option NodeData) (node : Node) (v : ℕ) (x : Bor Slots) (safe : IsSafeLink n span.height span.start) → node ≡ seen.Inner v x → IsNode span.height span.start safe.above safe.commits node → AreSafeSlots IsSafeLink count_of (child_in x.now) (slot_in x.now) span × (count_in (slot_in x.now) ≤ count_of n)
inner-safe span n node v x safe e is =
    let h = safe.commits in
    slots-safe span.height span.start safe.above h n v x.now (inner-is span.height span.start safe.above h node v x e is) safe.holds safe.few

pub inner-found : (span : SpanValue) (above : List Point → Bool) (h : Past) (node : Node) (v : ℕ) (x : Bor Slots) → node ≡ seen.Inner v x → IsNode span.height span.start above h node → IsInnerAt IsLinkAt (child_in x.now) (slot_in x.now) span above h v
inner-found span above h node v x e is =
    let body = inner-is span.height span.start above h node v x e is in
    record {
      version = body.inner.version ∙ ap (λ k. node_version above k span.start h) (sym body.height);
      inner = record {
        below = body.below;
        above = body.height;
        many = subst (λ k. LEAF_POINTS < length (points_of k span.start (bag h))) (sym body.height) body.inner.many;
        all = body.inner.all.each;
        each = body.each;
      };
    }
