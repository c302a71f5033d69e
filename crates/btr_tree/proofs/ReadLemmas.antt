-- Lemmas on what was read: a tree made of nodes of blocks was read from them, it stays so, and where a root leads it is the past's.
use Rattle.std.specs.Prelude.{◌≡◌, ℕ, ◌<◌, ◌≤◌, ℤ, List, [], length, get_or, slice_get, Option, Some, None, IfSome, MatchOption}
use Rattle.std.proofs.Common.{zero, suc, refl, sym, ap, ◌∙◌, subst}
use Rattle.btr_base.specs.Agg.{AggValue, agg}
use Rattle.btr_base.specs.Point.{AreInDomain}
use Rattle.btr_base.specs.Span.{SpanValue}
use Rattle.btr_base.specs.declared.limits.TheConstants.{FIRST, LEAF_POINTS, MAX_POINTS}
use Rattle.btr_base.specs.declared.point.Point.{Point}
use Rattle.btr_tree.specs.declared.node.Link.{Link}
use Rattle.btr_tree.specs.declared.node.NodeData.{NodeData, out-NodeData}
use Rattle.btr_tree.specs.declared.node.NodeData.TheOpen.{NodeData-F}
use Rattle.btr_tree.specs.declared.node.Slot.{Slot}
use Rattle.btr_tree.specs.declared.slots.Kept.{Kept}
use Rattle.btr_tree.specs.declared.slots.Slots.{Slots}
use Rattle.btr_tree.specs.Change.{IsLeafOf, IsInnerOf}
use Rattle.btr_tree.specs.History.{Past, Opened, bag}
use Rattle.btr_tree.specs.Leads.{Leads, total_of, IsSlotRead, IsReadLeaf, IsReadInner, IsRead}
use Rattle.btr_tree.specs.NewNodes.{NewNodeValue}
use Rattle.btr_tree.specs.Nodes.{above_root}
use Rattle.btr_tree.specs.Opened.{part_at, part_node, part_total, IsPart, AreParts, IsLeafTree, IsInnerTree}
use Rattle.btr_tree.specs.Root.{root_part, TreeValue, IsTree, WasOpened}
use Rattle.btr_tree.specs.Shape.{ByKind, slot_start}
use Rattle.btr_tree.specs.Slots.{slot_in, child_in, block_of, block_of_kind, AreSameSlots}
use Rattle.btr_tree.specs.Stored.{Store, leaf_node, ByBlock}
use Rattle.btr_tree.proofs.LeadsLemmas.{read-led, child-total}
use Rattle.btr_tree.proofs.OpenedLemmas.{part-slot_is}
use Rattle.btr_tree.proofs.RootLemmas.{root-points}

-- ---- what was read stays read

zero-along : (f g : Store) → ((b : ℕ) (n : NewNodeValue) → f b ≡ Some n → g b ≡ Some n) → (span : SpanValue) (d : NodeData-F NodeData Link Kept Slots) → ByBlock (IsReadLeaf f span) (λ b v x. ⊥) d → ByBlock (IsReadLeaf g span) (λ b v x. ⊥) d
zero-along f g more span (NodeData-F.Leaf b v ps) r = record { some = r.some; is = more b _ r.is; any = r.any; few = r.few }
zero-along f g more span (NodeData-F.Inner b v x) r = absurd r

kind-along : (f g : Store) → ((b : ℕ) (n : NewNodeValue) → f b ≡ Some n → g b ≡ Some n) → (span : SpanValue) (Sub Tub : Slots → ℕ → Type 0) (d : NodeData-F NodeData Link Kept Slots) → ((x : Slots) (i : ℕ) → Sub x i → Tub x i) → ByBlock (IsReadLeaf f span) (λ b v x. IsReadInner f span b v x (Sub x)) d → ByBlock (IsReadLeaf g span) (λ b v x. IsReadInner g span b v x (Tub x)) d
kind-along f g more span Sub Tub (NodeData-F.Leaf b v ps) on r =
    record { some = r.some; is = more b _ r.is; any = r.any; few = r.few }
kind-along f g more span Sub Tub (NodeData-F.Inner b v x) on r =
    record {
      some = r.some;
      page = r.page;
      is = more b r.page r.is;
      its_span = r.its_span;
      its_version = r.its_version;
      its_points = r.its_points;
      its_slots = r.its_slots;
      each = λ i lt. on x i (r.each i lt);
    }

-- A store with more nodes.
pub read-along : (f g : Store) → ((b : ℕ) (n : NewNodeValue) → f b ≡ Some n → g b ≡ Some n) → (k : ℕ) (s : ℤ) (child : Option NodeData) → IsRead f k s child → IsRead g k s child
read-along f g more zero s None r = tt
read-along f g more (suc k) s None r = tt
read-along f g more zero s (Some d) r = zero-along f g more (record { start = s; height = zero }) (out-NodeData d) r
read-along f g more (suc k) s (Some d) r =
    kind-along f g more (record { start = s; height = suc k }) (λ x i. IsRead f k (slot_start k s i) (child_in x i)) (λ x i. IsRead g k (slot_start k s i) (child_in x i)) (out-NodeData d) (λ x i. read-along f g more k (slot_start k s i) (child_in x i)) r

-- ---- what was made of nodes that were read

leaf-kind : (f : Store) (span : SpanValue) (b v : ℕ) (ps : List Point) (Q : ℕ → ℕ → Slots → Type 0) (d : NodeData-F NodeData Link Kept Slots) → ByKind (λ w qs. (w ≡ v) × (qs ≡ ps)) (λ w x. ⊥) d → block_of_kind d ≡ b → IsReadLeaf f span b v ps → ByBlock (IsReadLeaf f span) Q d
leaf-kind f span b v ps Q (NodeData-F.Leaf c w qs) is e r =
    subst (λ y. IsReadLeaf f span y w qs.items) (sym e) (subst (λ y. IsReadLeaf f span b y qs.items) (sym is.0) (subst (IsReadLeaf f span b v) (sym is.1) r))
leaf-kind f span b v ps Q (NodeData-F.Inner c w x) is e r = absurd is

leaf-at : (f : Store) (k : ℕ) (s : ℤ) (b v : ℕ) (ps : List Point) (o : Option NodeData) → IsLeafOf v ps o → block_of o ≡ b → IsReadLeaf f (record { start = s; height = k }) b v ps → IsRead f k s o
leaf-at f k s b v ps None is e r = absurd is
leaf-at f zero s b v ps (Some d) is e r = leaf-kind f _ b v ps _ (out-NodeData d) is e r
leaf-at f (suc k) s b v ps (Some d) is e r = leaf-kind f _ b v ps _ (out-NodeData d) is e r

-- The tree of a leaf was read from its block.
pub leaf-read : (f : Store) (span : SpanValue) (version block : ℕ) (ps : List Point) (t : TreeValue) → IsLeafTree span version block ps t → 1 ≤ block → 0 < length ps → length ps ≤ LEAF_POINTS → f block ≡ Some (leaf_node span version ps) → IsRead f span.height span.start t.node
leaf-read f span version block ps t is some any few at =
    leaf-at f span.height span.start block version ps t.node is.node is.its_block (record { some = some; is = at; any = any; few = few })

-- The aggregate of an opened tree is that of its node.
pub opened-total : (t : TreeValue) → WasOpened t → t.total ≡ total_of t.node
opened-total t w =
    let o = w.2 in
    o.total ∙ sym (ap agg o.inside) ∙ sym (child-total t.span.height t.span.start above_root (Opened w.0 w.1) t.node o.node)

part-total_of : (o : Option TreeValue) (span : SpanValue) (v i : ℕ) → IfSome o (IsPart span v i) → part_total o ≡ total_of (part_node o)
part-total_of None span v i p = refl
part-total_of (Some t) span v i p = opened-total t p.opened

-- The version and the address of a slot that was read are those of the part.
abbrev pub IsSlotOf : Option Slot → ℕ → Option NodeData → Type 0
IsSlotOf read version child = MatchOption read ⊥ (λ r. (r.version ≡ version) × (r.child ≡ block_of child))

slot-by : (a b : AggValue) (v w : ℕ) → a ≡ b → v ≡ w → (let x : Slot = record { agg = a; version = v; child = 0 } in x) ≡ record { agg = b; version = w; child = 0 }
slot-by a b v w p q = cc

slot-read : (read : Option Slot) (slot : Slot) (child : Option NodeData) (a : AggValue) (v : ℕ) → slot ≡ record { agg = a; version = v; child = 0 } → a ≡ total_of child → IsSlotOf read v child → IsSlotRead read slot child
slot-read None slot child a v e f is = absurd is
slot-read (Some r) slot child a v e f is = (e ∙ slot-by _ _ _ _ f (sym is.0), is.1)

inner-kind : (f : Store) (span : SpanValue) (b v : ℕ) (x : Slots) (Sub : Slots → ℕ → Type 0) (d : NodeData-F NodeData Link Kept Slots) → ByKind (λ w qs. ⊥) (λ w y. (w ≡ v) × AreSameSlots x y) d → block_of_kind d ≡ b → ((y : Slots) → AreSameSlots x y → IsReadInner f span b v y (Sub y)) → ByBlock (IsReadLeaf f span) (λ c w y. IsReadInner f span c w y (Sub y)) d
inner-kind f span b v x Sub (NodeData-F.Leaf c w qs) is e r = absurd is
inner-kind f span b v x Sub (NodeData-F.Inner c w y) is e r =
    subst (λ z. IsReadInner f span z w y (Sub y)) (sym e) (subst (λ z. IsReadInner f span b z y (Sub y)) (sym is.0) (r y is.1))

inner-at : (f : Store) (below : ℕ) (s : ℤ) (b v : ℕ) (x : Slots) (o : Option NodeData) → IsInnerOf v x o → block_of o ≡ b → ((y : Slots) → AreSameSlots x y → IsReadInner f (record { start = s; height = suc below }) b v y (λ i. IsRead f below (slot_start below s i) (child_in y i))) → IsRead f (suc below) s o
inner-at f below s b v x None is e r = absurd is
inner-at f below s b v x (Some d) is e r =
    inner-kind f (record { start = s; height = suc below }) b v x (λ y i. IsRead f below (slot_start below s i) (child_in y i)) (out-NodeData d) is e r

none-read : (f : Store) (k : ℕ) (s : ℤ) → IsRead f k s None
none-read f zero s = tt
none-read f (suc k) s = tt

part-read : (f : Store) (k : ℕ) (s : ℤ) (o : Option TreeValue) → IfSome o (λ t. IsRead f k s t.node) → IsRead f k s (part_node o)
part-read f k s None r = none-read f k s
part-read f k s (Some t) r = r

-- What the block of an inner node has, where its parts were read.
pub record IsPageOf (f : Store) (span : SpanValue) (below version block : ℕ) (parts : List (ℕ × TreeValue)) (versions : List ℕ) (page : NewNodeValue) : Type 0 where
  pub height : span.height ≡ suc below
  pub some : 1 ≤ block
  pub is : f block ≡ Some page
  pub its_span : page.span ≡ span
  pub its_version : page.version ≡ version
  pub its_points : page.points ≡ []
  pub its_slots : (i : ℕ) → i < 64 → IsSlotOf (slice_get page.slots i) (get_or versions i 0) (part_node (part_at parts i))
  pub each : (i : ℕ) → i < 64 → IfSome (part_at parts i) (λ t. IsRead f below (slot_start below span.start i) t.node)

-- The tree of an inner node was read from its block and those of its parts.
pub inner-read : (f : Store) (span : SpanValue) (below version block : ℕ) (parts : List (ℕ × TreeValue)) (versions : List ℕ) (page : NewNodeValue) (t : TreeValue) → AreParts span version parts versions → IsInnerTree span version block parts versions t → IsPageOf f span below version block parts versions page → IsRead f span.height span.start t.node
inner-read f span below version block parts versions page t are is of =
    subst (λ k. IsRead f k span.start t.node) (sym of.height) (inner-at f below span.start block version is.slots t.node is.node is.its_block (λ y same. record {
      some = of.some;
      page = page;
      is = of.is;
      its_span = of.its_span ∙ ap (λ k. let u : SpanValue = record { start = span.start; height = k } in u) of.height;
      its_version = of.its_version;
      its_points = of.its_points;
      its_slots = λ i lt.
          let has = is.its_slots i lt in
          let part = part_at parts i in
          let v = get_or versions i 0 in
          subst (IsSlotRead (slice_get page.slots i) (slot_in y i)) (sym (same.children i ∙ has.1)) (slot-read (slice_get page.slots i) (slot_in y i) (part_node part) (part_total part) v (same.slots i ∙ has.0 ∙ part-slot_is part v) (part-total_of part span v i (are.each i)) (of.its_slots i lt));
      each = λ i lt.
          subst (IsRead f below (slot_start below span.start i)) (sym (same.children i ∙ (is.its_slots i lt).1)) (part-read f below (slot_start below span.start i) (part_at parts i) (of.each i lt));
    }))

-- ---- an opened tree is that of the past to whose root the block leads

pub opened-is_tree : (f : Store) (pages : ℕ → NewNodeValue → Type 0) → ((b : ℕ) (p q : NewNodeValue) → pages b p → pages b q → p ≡ q) → ((b : ℕ) (n : NewNodeValue) → f b ≡ Some n → pages b n) → (h : Past) (t : TreeValue) → WasOpened t → t.span ≡ root_part → IsRead f 10 FIRST t.node → Leads pages 10 FIRST above_root h (block_of t.node) → AreInDomain (bag h) → length (bag h) ≤ MAX_POINTS → IsTree h t
opened-is_tree f pages once has h t opened whole read leads times few =
    let node = read-led f pages once has 10 FIRST above_root h t.node read leads in
    record {
      whole = whole;
      node = node;
      total = opened-total t opened ∙ child-total 10 FIRST above_root h t.node node ∙ ap agg (root-points (bag h) times);
      times = times;
      few = few;
    }
