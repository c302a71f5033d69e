-- Lemmas on nodes that a commit makes.
use Rattle.std.specs.Prelude.{◌≡◌, ℕ, ◌+◌, ◌<◌, ◌≤◌, ℤ, Bool, true, false, not, ◌&&◌, ◌||◌, cond, List, [], length, Option, Some, None, MatchOption}
use Rattle.std.proofs.Common.{zero, suc, sym, ap, ◌∙◌, arith, subst, inl, inr}
use Rattle.std.proofs.lemmas.Bool.Decides.{nat_tests}
use Rattle.std.proofs.Math.Nat.{eq-or-lt_of_le}
use Rattle.btr_base.specs.declared.point.Point.{Point}
use Rattle.btr_base.specs.Agg.{AggValue, agg}
use Rattle.btr_base.specs.declared.limits.TheConstants.{LEAF_POINTS}
use Rattle.btr_tree.specs.declared.node.Link.{Link}
use Rattle.btr_tree.specs.declared.node.NodeData.{NodeData, out-NodeData}
use Rattle.btr_tree.specs.declared.node.NodeData.TheOpen.{NodeData-F}
use Rattle.btr_tree.specs.declared.node.Slot.{Slot}
use Rattle.btr_tree.specs.declared.slots.Kept.{Kept}
use Rattle.btr_tree.specs.declared.slots.Slots.{Slots}
use Rattle.btr_tree.specs.Packed.{without_address}
use Rattle.btr_tree.specs.Slots.{slot_in, child_in, AreSameSlots, IsPut}
use Rattle.btr_tree.specs.History.{Commit, bag, Past, ◌▷◌}
use Rattle.btr_tree.specs.Nodes.{points_of, touches, is_inner, is_node, last_change, node_version}
use Rattle.btr_tree.specs.Shape.{ByKind, slot_start, slot_of_points, IsLeaf, HasSlots, HasChildren, IsNodeData, IsChild}
use Rattle.btr_tree.proofs.NodeLemmas.{slot-fewer, child-same}
use Rattle.btr_tree.specs.Change.{IsFresh, IsLeafOf, IsInnerOf}

-- What holds of a kind holds in a weaker form.
pub by_kind-weaker : (P R : ℕ → List Point → Type 0) (Q S : ℕ → Slots → Type 0) (n : NodeData-F NodeData Link Kept Slots) → ((v : ℕ) (ps : List Point) → P v ps → R v ps) → ((v : ℕ) (x : Slots) → Q v x → S v x) → ByKind P Q n → ByKind R S n
by_kind-weaker P R Q S (NodeData-F.Leaf block version points) f g h = f version points.items h
by_kind-weaker P R Q S (NodeData-F.Inner block version slots) f g h = g version slots h

-- What follows from a fact of either kind.
pub by_kind-gives : (P : ℕ → List Point → Type 0) (Q : ℕ → Slots → Type 0) (R : Type 0) (n : NodeData-F NodeData Link Kept Slots) → ((v : ℕ) (ps : List Point) → P v ps → R) → ((v : ℕ) (x : Slots) → Q v x → R) → ByKind P Q n → R
by_kind-gives P Q R (NodeData-F.Leaf block version points) f g h = f version points.items h
by_kind-gives P Q R (NodeData-F.Inner block version slots) f g h = g version slots h

-- A node that a commit touches or makes has its version.
pub version-fresh : (k : ℕ) (s : ℤ) (above : List Point → Bool) (h : Past) (c : Commit) (v : ℕ) → v ≡ c.version → (touches c k s (bag h) || not (is_node above k s (bag h))) ≡ true → v ≡ node_version above k s (c ▷ h)
version-fresh k s above h c v e fresh =
    e ∙ sym (ap (λ t. cond t c.version (last_change (is_node above k s) k s h)) fresh)

leaf-of : (k : ℕ) (s : ℤ) (above : List Point → Bool) (h : Past) (c : Commit) (v : ℕ) (points : List Point) → IsFresh k s above h c v points → 0 < length points → length points ≤ LEAF_POINTS → (w : ℕ) (ps : List Point) → (w ≡ v) × (ps ≡ points) → IsLeaf k s above (c ▷ h) w ps
leaf-of k s above h c v points f some few w ps e =
    record {
      same = e.1 ∙ f.same;
      some = subst (λ x. 0 < length x) (sym e.1) some;
      few = subst (λ x. length x ≤ LEAF_POINTS) (sym e.1) few;
      version = version-fresh k s above h c w (e.0 ∙ f.number) f.fresh;
    }

leaf-of_node : (k : ℕ) (s : ℤ) (above : List Point → Bool) (h : Past) (c : Commit) (v : ℕ) (points : List Point) (o : Option NodeData) → IsFresh k s above h c v points → 0 < length points → length points ≤ LEAF_POINTS → MatchOption o ⊥ (λ n. ByKind (λ w ps. (w ≡ v) × (ps ≡ points)) (λ w x. ⊥) (out-NodeData n)) → MatchOption o (points_of k s (bag (c ▷ h)) ≡ []) (λ n. IsNodeData k s above (c ▷ h) n)
leaf-of_node k s above h c v points None f some few is = absurd is
leaf-of_node zero s above h c v points (Some n) f some few is =
    by_kind-weaker _ _ _ _ (out-NodeData n) (leaf-of zero s above h c v points f some few) (λ _ _ x. x) is
leaf-of_node (suc k) s above h c v points (Some n) f some few is =
    by_kind-weaker _ _ _ _ (out-NodeData n) (leaf-of (suc k) s above h c v points f some few) (λ _ _ x. absurd x) is

pub leaf-child : (k : ℕ) (s : ℤ) (above : List Point → Bool) (h : Past) (c : Commit) (v : ℕ) (points : List Point) (p : Option NodeData) → IsFresh k s above h c v points → 0 < length points → length points ≤ LEAF_POINTS → IsLeafOf v points p → IsChild k s above (c ▷ h) p
leaf-child k s above h c v points p f some few is =
    leaf-of_node k s above h c v points p f some few is

-- Slots that are the same are those of the same span.
pub slots-same : (below : ℕ) (s : ℤ) (h : Past) (x y : Slots) → AreSameSlots x y → HasSlots below s h x → HasSlots below s h y
slots-same below s h x y same holds = record { each = λ i lt. same.slots i ∙ holds.each i lt }

pub children-same : (below : ℕ) (s : ℤ) (h : Past) (x y : Slots) → AreSameSlots x y → HasChildren below s h x → HasChildren below s h y
children-same below s h x y same each i lt =
    child-same below (slot_start below s i) (is_inner (suc below) s) h (child_in x i) (child_in y i) (same.children i) (each i lt)

inner-of_node : (below : ℕ) (s : ℤ) (above : List Point → Bool) (h : Past) (c : Commit) (v : ℕ) (x : Slots) (o : Option NodeData) → v ≡ c.version → (touches c (suc below) s (bag h) || not (is_node above (suc below) s (bag h))) ≡ true → LEAF_POINTS < length (points_of (suc below) s (bag (c ▷ h))) → HasSlots below s (c ▷ h) x → HasChildren below s (c ▷ h) x → IsInnerOf v x o → IsChild (suc below) s above (c ▷ h) o
inner-of_node below s above h c v x None number fresh many slots each is = absurd is
inner-of_node below s above h c v x (Some n) number fresh many slots each is =
    by_kind-weaker _ _ _ _ (out-NodeData n) (λ _ _ y. absurd y) (λ w y e. (
      record {
        many = many;
        version = version-fresh (suc below) s above h c w (e.0 ∙ number) fresh;
        all = slots-same below s (c ▷ h) x y e.1 slots;
      },
      children-same below s (c ▷ h) x y e.1 each,
    )) is

-- An inner node of slots, if the commit touches it or makes it.
pub inner-child : (below : ℕ) (s : ℤ) (above : List Point → Bool) (h : Past) (c : Commit) (v : ℕ) (x : Slots) (p : Option NodeData) → v ≡ c.version → (touches c (suc below) s (bag h) || not (is_node above (suc below) s (bag h))) ≡ true → LEAF_POINTS < length (points_of (suc below) s (bag (c ▷ h))) → HasSlots below s (c ▷ h) x → HasChildren below s (c ▷ h) x → IsInnerOf v x p → IsChild (suc below) s above (c ▷ h) p
inner-child below s above h c v x p number fresh many slots each is =
    inner-of_node below s above h c v x p number fresh many slots each is

pub inner-child_at : (k below : ℕ) (s : ℤ) (above : List Point → Bool) (h : Past) (c : Commit) (v : ℕ) (points : List Point) (x : Slots) (p : Option NodeData) → k ≡ suc below → IsFresh k s above h c v points → LEAF_POINTS < length points → HasSlots below s (c ▷ h) x → HasChildren below s (c ▷ h) x → IsInnerOf v x p → IsChild k s above (c ▷ h) p
inner-child_at k below s above h c v points x p e f many slots each is =
    subst (λ j. IsChild j s above (c ▷ h) p) (sym e) (inner-child below s above h c v x p f.number (subst (λ j. (touches c j s (bag h) || not (is_node above j s (bag h))) ≡ true) e f.fresh) (subst (λ j. LEAF_POINTS < length (points_of j s (bag (c ▷ h)))) e (subst (λ y. LEAF_POINTS < length y) f.same many)) slots each is)

-- ---- one slot more

few-not_inner : (k : ℕ) (s : ℤ) (b : List Point) → length (points_of k s b) ≤ LEAF_POINTS → is_inner k s b ≡ false
few-not_inner k s b few = grind (arith, nat_tests)

made : (t u w : Bool) → u ≡ false → (t || not (u && w)) ≡ true
made t u w e = grind arith

new : (t u : Bool) → u ≡ false → (t || not u) ≡ true
new t u e = grind arith

-- A slot of a span that was no inner node.
pub slot-fresh : (below : ℕ) (s : ℤ) (i : ℕ) (h : Past) (c : Commit) (v : ℕ) (points : List Point) → i < 64 → v ≡ c.version → points ≡ points_of below (slot_start below s i) (bag (c ▷ h)) → length (points_of (suc below) s (bag h)) ≤ LEAF_POINTS → IsFresh below (slot_start below s i) (is_inner (suc below) s) h c v points
slot-fresh below s i h c v points place number same few =
    let no = few-not_inner (suc below) s (bag h) few in
    let fewer = slot-fewer below s i (bag h) place in
    record {
      number = number;
      same = same;
      fresh = made (touches c below (slot_start below s i) (bag h)) (is_inner (suc below) s (bag h)) _ no;
      small = λ _. omega arith;
    }

pub slot-new : (below : ℕ) (s : ℤ) (i : ℕ) (h : Past) (c : Commit) → length (points_of (suc below) s (bag h)) ≤ LEAF_POINTS → (touches c below (slot_start below s i) (bag h) || not (is_inner (suc below) s (bag h))) ≡ true
slot-new below s i h c few =
    new (touches c below (slot_start below s i) (bag h)) (is_inner (suc below) s (bag h)) (few-not_inner (suc below) s (bag h) few)

slot-by : (a b : AggValue) (v w : ℕ) → a ≡ b → v ≡ w → (let x : Slot = record { agg = a; version = v; child = 0 } in x) ≡ record { agg = b; version = w; child = 0 }
slot-by a b v w p q = cc

pub slot-made : (below : ℕ) (s : ℤ) (i : ℕ) (h : Past) (c : Commit) (v : ℕ) (points : List Point) (x : Slot) → v ≡ c.version → points ≡ points_of below (slot_start below s i) (bag (c ▷ h)) → (touches c below (slot_start below s i) (bag h) || not (is_inner (suc below) s (bag h))) ≡ true → x ≡ record { agg = agg points; version = v; child = 0 } → x ≡ slot_of_points (suc below) s below (slot_start below s i) (c ▷ h)
slot-made below s i h c v points x number same fresh e =
    e ∙ slot-by _ _ _ _ (ap agg same) (number ∙ sym (ap (λ t. cond t c.version (last_change (is_inner (suc below) s) below (slot_start below s i) h)) fresh))

-- The first n slots are those of their spans, and so are their children.
pub record HasFirst (below : ℕ) (s : ℤ) (h : Past) (n : ℕ) (x : Slots) : Type 0 where
  pub slots : (i : ℕ) → i < n → slot_in x i ≡ slot_of_points (suc below) s below (slot_start below s i) h
  pub children : (i : ℕ) → i < n → IsChild below (slot_start below s i) (is_inner (suc below) s) h (child_in x i)

-- A slot more, which was put.
pub first-put : (below : ℕ) (s : ℤ) (h : Past) (n : ℕ) (old new : Slots) (slot : Slot) (child : Option NodeData) → IsPut n slot child old new → HasFirst below s h n old → slot ≡ slot_of_points (suc below) s below (slot_start below s n) h → IsChild below (slot_start below s n) (is_inner (suc below) s) h child → HasFirst below s h (n + 1) new
first-put below s h n old new slot child put holds e last =
    record {
      slots = λ i lt.
          let le : i ≤ n = omega arith in
          elim (eq-or-lt_of_le le) [
            | inl same ↦ ap (slot_in new) same ∙ put.is ∙ ap without_address e ∙ sym (ap (λ j. slot_of_points (suc below) s below (slot_start below s j) h) same)
            | inr less ↦ put.slots i less ∙ holds.slots i less
          ];
      children = λ i lt.
          let le : i ≤ n = omega arith in
          elim (eq-or-lt_of_le le) [
            | inl same ↦ subst (λ j. IsChild below (slot_start below s j) (is_inner (suc below) s) h (child_in new j)) (sym same) (child-same below (slot_start below s n) (is_inner (suc below) s) h child (child_in new n) put.has last)
            | inr less ↦ child-same below (slot_start below s i) (is_inner (suc below) s) h (child_in old i) (child_in new i) (put.children i less) (holds.children i less)
          ];
    }

pub first-all : (below : ℕ) (s : ℤ) (h : Past) (n : ℕ) (x : Slots) → n ≡ 64 → HasFirst below s h n x → HasSlots below s h x × HasChildren below s h x
first-all below s h n x e holds =
    (record { each = λ i lt. holds.slots i (omega arith) }, λ i lt. holds.children i (omega arith))
