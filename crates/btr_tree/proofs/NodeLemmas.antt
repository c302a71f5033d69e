-- Lemmas on nodes of a history: what a leaf and an inner node are, and how the slots part a span.
use Rattle.std.specs.Prelude.{◌≡◌, ℕ, ◌+◌, ◌-◌, ◌*◌, ◌^◌, ◌<◌, ◌≤◌, ℤ, pos, ◌+ℤ◌, ◌≤ℤ◌, Bool, List, [], ◌++◌, length, Option, Some, None, Vec}
use Rattle.std.proofs.Common.{zero, suc, refl, sym, ap, ◌∙◌, arith, subst, Bor, mul-le-mul_right}
use Rattle.std.proofs.lemmas.Int.{ints}
use Rattle.std.specs.Option.{option_map}
use Rattle.std.specs.declared.sync.Arc.{Arc}
use Rattle.std.specs.declared.alloc.Global.{Global}
use Rattle.btr_base.specs.declared.point.Point.{Point}
use Rattle.btr_base.specs.Bag.{within, is_within}
use Rattle.btr_base.specs.Span.{width, SpanValue, slot_of}
use Rattle.btr_base.proofs.SpanLemmas.{width-next}
use Rattle.btr_base.proofs.WithinLemmas.{within-split, within-empty, within-nested}
use Rattle.btr_base.proofs.ListLemmas.{length-filter}
use Rattle.btr_base.specs.Agg.{agg, joined, no_points}
use Rattle.btr_base.proofs.AggLemmas.{agg-append}
use Rattle.btr_tree.specs.declared.node.Child.{Child}
use Rattle.btr_tree.specs.declared.node.NodeData.{NodeData, out-NodeData}
use Rattle.btr_tree.specs.declared.node.NodeData.TheVariants.{Leaf, Inner, rolls-Leaf, rolls-Inner}
use Rattle.btr_tree.specs.declared.node.NodeData.TheOpen.{NodeData-F}
use Rattle.btr_tree.specs.declared.node.NodeData.TheViews.{out-roll-NodeData}
use Rattle.btr_tree.specs.declared.node.Node.{Node}
use Rattle.btr_tree.specs.declared.node.Node.TheVariants as seen
use Rattle.btr_tree.specs.declared.node.Slot.{Slot}
use Rattle.btr_tree.specs.declared.slots.Slots.{Slots}
use Rattle.btr_tree.specs.Slots.{node_of, slot_in, child_in}
use Rattle.btr_tree.specs.History.{bag, Past}
use Rattle.btr_tree.specs.Nodes.{points_of, is_inner}
use Rattle.btr_tree.proofs.VersionLemmas.{bag-in_order}
use Rattle.btr_tree.specs.Change.{joined_first, IsSomeChild, AreSomeSlots}
use Rattle.btr_tree.specs.Shape.{ByKind, slot_start, IsLeaf, IsInner, AreSlots, HasSlots, HasChildren, IsNodeData, IsNode, IsChild}

-- ---- a node in memory

pub out-leaf : {b : ℕ} (v : ℕ) (ps : Vec Point Global) → out-NodeData (Leaf b v ps) ≡ NodeData-F.Leaf b v ps
out-leaf {b} v ps = ap out-NodeData (sym (rolls-Leaf b v ps)) ∙ out-roll-NodeData (NodeData-F.Leaf b v ps)

pub out-inner : {b : ℕ} (v : ℕ) (x : Slots) → out-NodeData (Inner b v x) ≡ NodeData-F.Inner b v x
out-inner {b} v x = ap out-NodeData (sym (rolls-Inner b v x)) ∙ out-roll-NodeData (NodeData-F.Inner b v x)

-- What holds of the kind of a node, at its parts.
pub by_leaf : {b : ℕ} (P : ℕ → List Point → Type 0) (Q : ℕ → Slots → Type 0) (n : NodeData) (v : ℕ) (ps : Vec Point Global) → n ≡ Leaf b v ps → ByKind P Q (out-NodeData n) → P v ps.items
by_leaf P Q n v ps e h = subst (ByKind P Q) (ap out-NodeData e ∙ out-leaf v ps) h

pub by_inner : {b : ℕ} (P : ℕ → List Point → Type 0) (Q : ℕ → Slots → Type 0) (n : NodeData) (v : ℕ) (x : Slots) → n ≡ Inner b v x → ByKind P Q (out-NodeData n) → Q v x
by_inner P Q n v x e h = subst (ByKind P Q) (ap out-NodeData e ∙ out-inner v x) h

pub leaf_data-is : {b : ℕ} (k : ℕ) (s : ℤ) (above : List Point → Bool) (h : Past) (n : NodeData) (v : ℕ) (ps : Vec Point Global) → n ≡ Leaf b v ps → IsNodeData k s above h n → IsLeaf k s above h v ps.items
leaf_data-is zero s above h n v ps e holds = by_leaf _ _ n v ps e holds
leaf_data-is (suc k) s above h n v ps e holds = by_leaf _ _ n v ps e holds

-- The height below an inner node, and what its slots are.
pub record IsBody (k : ℕ) (s : ℤ) (above : List Point → Bool) (h : Past) (v : ℕ) (x : Slots) : Type 0 where
  pub below : ℕ
  pub height : k ≡ suc below
  pub inner : IsInner below s above h v x
  pub each : HasChildren below s h x

pub inner_data-is : {b : ℕ} (k : ℕ) (s : ℤ) (above : List Point → Bool) (h : Past) (n : NodeData) (v : ℕ) (x : Slots) → n ≡ Inner b v x → IsNodeData k s above h n → IsBody k s above h v x
inner_data-is zero s above h n v x e holds = absurd (by_inner _ _ n v x e holds)
inner_data-is (suc k) s above h n v x e holds =
    let body : IsInner k s above h v x × HasChildren k s h x = by_inner _ _ n v x e holds in
    record { below = k; height = refl; inner = body.0; each = body.1 }

-- ---- a node that was visited

pub leaf-is : (k : ℕ) (s : ℤ) (above : List Point → Bool) (h : Past) (n : Node) (v : ℕ) (ps : Bor (List Point)) → n ≡ seen.Leaf v ps → IsNode k s above h n → IsLeaf k s above h v ps.now
leaf-is k s above h n v ps e holds = subst (IsNode k s above h) e holds

inner-at : (k : ℕ) (s : ℤ) (above : List Point → Bool) (h : Past) (v : ℕ) (x : Bor Slots) → IsNode k s above h (seen.Inner v x) → IsBody k s above h v x.now
inner-at zero s above h v x holds = absurd holds
inner-at (suc k) s above h v x holds =
    record { below = k; height = refl; inner = holds.0; each = holds.1 }

pub inner-is : (k : ℕ) (s : ℤ) (above : List Point → Bool) (h : Past) (n : Node) (v : ℕ) (x : Bor Slots) → n ≡ seen.Inner v x → IsNode k s above h n → IsBody k s above h v x.now
inner-is k s above h n v x e holds = inner-at k s above h v x (subst (IsNode k s above h) e holds)

-- ---- a link

pub child-is : (k : ℕ) (s : ℤ) (above : List Point → Bool) (h : Past) (child : Child) (a : Bor (Arc NodeData Global)) → child.node ≡ Some a → IsChild k s above h (node_of child) → IsNodeData k s above h a.now.value
child-is k s above h child a e holds =
    subst (λ o. IsChild k s above h (option_map (λ b. b.now.value) o)) e holds

pub none-is : (k : ℕ) (s : ℤ) (above : List Point → Bool) (h : Past) (child : Child) → child.node ≡ None → IsChild k s above h (node_of child) → points_of k s (bag h) ≡ []
none-is k s above h child e holds =
    subst (λ o. IsChild k s above h (option_map (λ b. b.now.value) o)) e holds

pub child-same : (k : ℕ) (s : ℤ) (above : List Point → Bool) (h : Past) (p q : Option NodeData) → q ≡ p → IsChild k s above h p → IsChild k s above h q
child-same k s above h p q e holds = subst (IsChild k s above h) (sym e) holds

-- ---- the slots of an inner node, if its points can be counted together with `more` others

slots-of : (k : ℕ) (s : ℤ) (above : List Point → Bool) (h : Past) (v : ℕ) (x : Slots) (more : ℕ) → IsBody k s above h v x → length (points_of k s (bag h)) + more < 2 ^ 64 → (below : ℕ) × (k ≡ suc below) × AreSomeSlots below s x more
slots-of k s above h v x more body few =
    let below_few = subst (λ j. length (points_of j s (bag h)) + more < 2 ^ 64) body.height few in
    (body.below, body.height, record { commits = h; holds = body.inner.all; each = body.each; few = below_few })

pub some-slots : {b : ℕ} (k : ℕ) (s : ℤ) (more : ℕ) (child : Child) (a : Bor (Arc NodeData Global)) (v : ℕ) (x : Slots) → child.node ≡ Some a → a.now.value ≡ Inner b v x → IsSomeChild k s (node_of child) more → (below : ℕ) × (k ≡ suc below) × AreSomeSlots below s x more
some-slots k s more child a v x e is some =
    slots-of k s some.above some.commits v x more (inner_data-is k s some.above some.commits a.now.value v x is (child-is k s some.above some.commits child a e some.holds)) some.few

-- Those of a node that was visited.
pub seen-slots : (k : ℕ) (s : ℤ) (more : ℕ) (child : Option NodeData) (n : Node) (v : ℕ) (x : Bor Slots) → (some : IsSomeChild k s child more) → n ≡ seen.Inner v x → IsNode k s some.above some.commits n → (below : ℕ) × (k ≡ suc below) × AreSomeSlots below s x.now more
seen-slots k s more child n v x some e node =
    slots-of k s some.above some.commits v x.now more (inner-is k s some.above some.commits n v x e node) some.few

-- ---- the slots of a span

pub slot-next : (below : ℕ) (s : ℤ) (i : ℕ) → slot_start below s (i + 1) ≡ slot_start below s i +ℤ pos (width below)
slot-next below s i = let e : (i + 1) * width below ≡ i * width below + width below = omega arith in omega (arith, ints)

pub slot-order : (below : ℕ) (s : ℤ) (i j : ℕ) → i ≤ j → slot_start below s i ≤ℤ slot_start below s j
slot-order below s i j le = let up = mul-le-mul_right (width below) le in omega (arith, ints)

pub slot-end : (below : ℕ) (s : ℤ) → slot_start below s 64 ≡ s +ℤ pos (width (suc below))
slot-end below s = let e = width-next below in omega (arith, ints)

pub slot-first : (below : ℕ) (s : ℤ) → slot_start below s 0 ≡ s
slot-first below s = let e : 0 * width below ≡ 0 = omega arith in omega (arith, ints)

part-by : (a b : ℤ) (m n : ℕ) → a ≡ b → m ≡ n → (let s : SpanValue = record { start = a; height = m } in s) ≡ record { start = b; height = n }
part-by a b m n p q = cc

pub slot-part : (span : SpanValue) (below i : ℕ) → span.height ≡ suc below → slot_of span i ≡ record { start = slot_start below span.start i; height = below }
slot-part span below i e =
    let down : span.height - 1 ≡ below = omega arith in
    part-by _ _ _ _ (ap (λ k. span.start +ℤ pos (i * width k)) down) down

-- The points before a slot, with those of the slot, are those before the next.
pub prefix-next : (below : ℕ) (s : ℤ) (i : ℕ) (h : Past) → within s (slot_start below s (i + 1)) (bag h) ≡ within s (slot_start below s i) (bag h) ++ points_of below (slot_start below s i) (bag h)
prefix-next below s i h =
    let next = slot-next below s i in
    ap (λ e. within s e (bag h)) next
    ∙ within-split s (slot_start below s i) (slot_start below s i +ℤ pos (width below)) (bag h) (omega (arith, ints)) (omega (arith, ints)) (bag-in_order h)

pub prefix-none : (below : ℕ) (s : ℤ) (h : Past) → within s (slot_start below s 0) (bag h) ≡ []
prefix-none below s h = ap (λ e. within s e (bag h)) (slot-first below s) ∙ within-empty s (bag h)

pub prefix-all : (below : ℕ) (s : ℤ) (h : Past) → within s (slot_start below s 64) (bag h) ≡ points_of (suc below) s (bag h)
prefix-all below s h = ap (λ e. within s e (bag h)) (slot-end below s)

-- The points from a slot on are those of the slot, and those from the next one on.
pub rest-next : (below : ℕ) (s : ℤ) (i : ℕ) (h : Past) → i < 64 → within (slot_start below s i) (s +ℤ pos (width (suc below))) (bag h) ≡ points_of below (slot_start below s i) (bag h) ++ within (slot_start below s (i + 1)) (s +ℤ pos (width (suc below))) (bag h)
rest-next below s i h place =
    let next = slot-next below s i in
    let whole = width-next below in
    let inside : (i + 1) * width below ≤ 64 * width below = mul-le-mul_right (width below) (omega arith) in
    within-split (slot_start below s i) (slot_start below s i +ℤ pos (width below)) (s +ℤ pos (width (suc below))) (bag h) (omega (arith, ints)) (omega (arith, ints)) (bag-in_order h)
    ∙ ap (λ e. points_of below (slot_start below s i) (bag h) ++ within e (s +ℤ pos (width (suc below))) (bag h)) (sym next)

-- ---- the aggregates of the slots

pub joined-suc : (n : ℕ) (f : ℕ → Slot) → joined_first (suc n) f ≡ joined (joined_first n f) (f n).agg
unfolding joined_first
joined-suc n f = refl

pub joined-none : (f : ℕ → Slot) → joined_first 0 f ≡ no_points
unfolding joined_first
joined-none f = refl

pub joined-next : (n : ℕ) (f : ℕ → Slot) → joined_first (n + 1) f ≡ joined (joined_first n f) (f n).agg
joined-next n f = ap (λ m. joined_first m f) (let e : n + 1 ≡ suc n = omega arith in e) ∙ joined-suc n f

pub total-first : (below : ℕ) (s : ℤ) (h : Past) (f : ℕ → Slot) → AreSlots below s h f → (n : ℕ) → n ≤ 64 → joined_first n f ≡ agg (within s (slot_start below s n) (bag h))
unfolding joined_first
total-first below s h f each zero le = sym (ap agg (prefix-none below s h))
total-first below s h f each (suc n) le =
    let next : n + 1 ≡ suc n = omega arith in
    let before = within s (slot_start below s n) (bag h) in
    let here = points_of below (slot_start below s n) (bag h) in
    ap (λ a. joined a (f n).agg) (total-first below s h f each n (omega arith))
    ∙ ap (λ y. joined (agg before) y.agg) (each n (omega arith))
    ∙ sym (agg-append before here)
    ∙ sym (ap agg (prefix-next below s n h))
    ∙ ap (λ j. agg (within s (slot_start below s j) (bag h))) next

pub total-all : (below : ℕ) (s : ℤ) (h : Past) (f : ℕ → Slot) → AreSlots below s h f → joined_first 64 f ≡ agg (points_of (suc below) s (bag h))
total-all below s h f each = total-first below s h f each 64 (omega arith) ∙ ap agg (prefix-all below s h)

pub total-of : (below : ℕ) (s : ℤ) (h : Past) (x : Slots) → HasSlots below s h x → joined_first 64 (slot_in x) ≡ agg (points_of (suc below) s (bag h))
total-of below s h x holds = total-all below s h (slot_in x) holds.each

-- ---- one slot of an inner node

pub slot-inside : (below : ℕ) (s : ℤ) (i : ℕ) → i < 64 → (slot_start below s i +ℤ pos (width below)) ≤ℤ (s +ℤ pos (width (suc below)))
slot-inside below s i place =
    let whole = width-next below in
    let inside : (i + 1) * width below ≤ 64 * width below = mul-le-mul_right (width below) (omega arith) in
    let e : (i + 1) * width below ≡ i * width below + width below = omega arith in
    omega (arith, ints)

pub slot-from : (below : ℕ) (s : ℤ) (i : ℕ) → s ≤ℤ slot_start below s i
slot-from below s i = omega (arith, ints)

pub points-slot : (below : ℕ) (s : ℤ) (i : ℕ) (b : List Point) → i < 64 → points_of below (slot_start below s i) (points_of (suc below) s b) ≡ points_of below (slot_start below s i) b
points-slot below s i b place =
    within-nested s (s +ℤ pos (width (suc below))) (slot_start below s i) (slot_start below s i +ℤ pos (width below)) b (slot-from below s i) (slot-inside below s i place)

pub slot-fewer : (below : ℕ) (s : ℤ) (i : ℕ) (b : List Point) → i < 64 → length (points_of below (slot_start below s i) b) ≤ length (points_of (suc below) s b)
slot-fewer below s i b place =
    subst (λ x. length x ≤ length (points_of (suc below) s b)) (points-slot below s i b place) (length-filter (is_within (slot_start below s i) (slot_start below s i +ℤ pos (width below))) (points_of (suc below) s b))

-- What a walk knows of a slot and its child.
pub record IsSlotAt (below : ℕ) (s : ℤ) (h : Past) (i : ℕ) (part : SpanValue) (slot : Slot) (child : Option NodeData) : Type 0 where
  pub is : part ≡ record { start = slot_start below s i; height = below }
  pub holds : IsChild part.height part.start (is_inner (suc below) s) h child
  pub counted : slot.agg ≡ agg (points_of part.height part.start (bag h))

pub slot-at : (span : SpanValue) (below : ℕ) (h : Past) (i : ℕ) (part : SpanValue) (slot : Slot) (child : Option NodeData) (x : Slots) → span.height ≡ suc below → HasSlots below span.start h x → HasChildren below span.start h x → i < 64 → part ≡ slot_of span i → slot ≡ slot_in x i → child ≡ child_in x i → IsSlotAt below span.start h i part slot child
slot-at span below h i part slot child x e slots each place p q r =
    let is : part ≡ record { start = slot_start below span.start i; height = below } = p ∙ slot-part span below i e in
    let holds : IsChild below (slot_start below span.start i) (is_inner (suc below) span.start) h child = subst (IsChild below (slot_start below span.start i) (is_inner (suc below) span.start) h) (sym r) (each i place) in
    let counted : slot.agg ≡ agg (points_of below (slot_start below span.start i) (bag h)) = ap (λ y. y.agg) (q ∙ slots.each i place) in
    record {
      is = is;
      holds = subst (λ u. IsChild u.height u.start (is_inner (suc below) span.start) h child) (sym is) holds;
      counted = subst (λ (u : SpanValue). slot.agg ≡ agg (points_of u.height u.start (bag h))) (sym is) counted;
    }

-- What a walk knows of a slot's child.
pub record IsChildAt (below : ℕ) (s : ℤ) (h : Past) (i : ℕ) (part : SpanValue) (child : Option NodeData) : Type 0 where
  pub is : part ≡ record { start = slot_start below s i; height = below }
  pub holds : IsChild part.height part.start (is_inner (suc below) s) h child

pub child-at : (span : SpanValue) (below : ℕ) (h : Past) (i : ℕ) (part : SpanValue) (child : Option NodeData) (x : Slots) → span.height ≡ suc below → HasChildren below span.start h x → i < 64 → part ≡ slot_of span i → child ≡ child_in x i → IsChildAt below span.start h i part child
child-at span below h i part child x e each place p r =
    let is : part ≡ record { start = slot_start below span.start i; height = below } = p ∙ slot-part span below i e in
    let holds : IsChild below (slot_start below span.start i) (is_inner (suc below) span.start) h child = subst (IsChild below (slot_start below span.start i) (is_inner (suc below) span.start) h) (sym r) (each i place) in
    record {
      is = is;
      holds = subst (λ u. IsChild u.height u.start (is_inner (suc below) span.start) h child) (sym is) holds;
    }

-- The length of what the commits leave in a slot.
pub slot-few : (below : ℕ) (s : ℤ) (h : Past) (i : ℕ) (part : SpanValue) → i < 64 → part ≡ record { start = slot_start below s i; height = below } → length (points_of part.height part.start (bag h)) ≤ length (points_of (suc below) s (bag h))
slot-few below s h i part place is =
    subst (λ (u : SpanValue). length (points_of u.height u.start (bag h)) ≤ length (points_of (suc below) s (bag h))) (sym is) (slot-fewer below s i (bag h) place)

-- The points up to a slot's end.
pub prefix-part : (below : ℕ) (s : ℤ) (i : ℕ) (h : Past) (part : SpanValue) → part ≡ record { start = slot_start below s i; height = below } → within s (slot_start below s (i + 1)) (bag h) ≡ within s (slot_start below s i) (bag h) ++ points_of part.height part.start (bag h)
prefix-part below s i h part is =
    prefix-next below s i h ∙ ap (λ (u : SpanValue). within s (slot_start below s i) (bag h) ++ points_of u.height u.start (bag h)) (sym is)

pub prefix-fewer : (below : ℕ) (s : ℤ) (i : ℕ) (b : List Point) → i ≤ 64 → length (within s (slot_start below s i) b) ≤ length (points_of (suc below) s b)
prefix-fewer below s i b place =
    let whole = width-next below in
    let inside : i * width below ≤ 64 * width below = mul-le-mul_right (width below) place in
    subst (λ x. length x ≤ length (points_of (suc below) s b)) (within-nested s (s +ℤ pos (width (suc below))) s (slot_start below s i) b (omega (arith, ints)) (omega (arith, ints))) (length-filter (is_within s (slot_start below s i)) (points_of (suc below) s b))

-- The points up to the last slot's end.
pub prefix-done : (k below : ℕ) (s : ℤ) (i : ℕ) (h : Past) → i ≡ 64 → k ≡ suc below → within s (slot_start below s i) (bag h) ≡ points_of k s (bag h)
prefix-done k below s i h e height =
    ap (λ j. within s (slot_start below s j) (bag h)) e ∙ prefix-all below s h ∙ ap (λ j. points_of j s (bag h)) (sym height)
