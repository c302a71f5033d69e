-- Lemmas on nodes that are stored: what stands below a block stays, and what a commit writes is laid above it.
use Rattle.std.specs.Prelude.{◌≡◌, ◌⊎◌, ℕ, ◌+◌, ◌-◌, ◌<◌, ◌≤◌, ℤ, cond, true, false, nat_lt, List, [], ◌∷◌, ◌++◌, length, slice_get, Option, Some, None}
use Rattle.std.proofs.Common.{zero, suc, refl, sym, ap, ◌∙◌, arith, subst, inl, inr}
use Rattle.std.proofs.lemmas.Bool.Decides.{nat_tests}
use Rattle.std.proofs.lemmas.List.{length_push}
use Rattle.std.proofs.Math.Nat.{eq-or-lt_of_le}
use Rattle.btr_base.specs.declared.point.Point.{Point}
use Rattle.btr_base.specs.Span.{SpanValue}
use Rattle.btr_tree.specs.declared.node.Link.{Link}
use Rattle.btr_tree.specs.declared.node.NodeData.{NodeData, out-NodeData}
use Rattle.btr_tree.specs.declared.node.NodeData.TheOpen.{NodeData-F}
use Rattle.btr_tree.specs.declared.node.NodeData.TheVariants.{Inner}
use Rattle.btr_tree.specs.declared.node.Slot.{Slot}
use Rattle.btr_tree.specs.declared.slots.Kept.{Kept}
use Rattle.btr_tree.specs.declared.slots.Slots.{Slots}
use Rattle.btr_tree.specs.NewNodes.{NewNodeValue}
use Rattle.btr_tree.specs.Shape.{ByKind, slot_start}
use Rattle.btr_tree.specs.Slots.{child_in, block_of, block_of_kind, AreSameSlots, IsPut}
use Rattle.btr_tree.specs.Stored.{Store, laid, leaf_node, inner_node, ByBlock, IsStoredLeaf, IsStoredInner, IsStored, IsBelow, IsLaid, AreBelow, AreLaid}
use Rattle.btr_tree.specs.Change.{CountsNodes, IsLeafOf, IsInnerOf}
use Rattle.btr_tree.proofs.KeptSlotLemmas.{get-front, get-last}
use Rattle.btr_tree.proofs.NodeLemmas.{out-inner}
use Rattle.btr_tree.proofs.NewNodeLemmas.{same-first}

-- ---- what stands below a block stays

kind-below : (f g : Store) (n : ℕ) (span : SpanValue) (Sub Tub : Slots → ℕ → Type 0) (d : NodeData-F NodeData Link Kept Slots) → ((b : ℕ) → b < n → g b ≡ f b) → block_of_kind d < n → ((x : Slots) (i : ℕ) → block_of (child_in x i) < n → Sub x i → Tub x i) → ByBlock (IsStoredLeaf f span) (λ b v x. IsStoredInner f span b v x (Sub x)) d → ByBlock (IsStoredLeaf g span) (λ b v x. IsStoredInner g span b v x (Tub x)) d
kind-below f g n span Sub Tub (NodeData-F.Leaf b v ps) same low each h =
    record { some = h.some; is = same b low ∙ h.is }
kind-below f g n span Sub Tub (NodeData-F.Inner b v x) same low each h =
    record {
      some = h.some;
      is = same b low ∙ h.is;
      lower = h.lower;
      each = λ i lt. let less = h.lower i lt in each x i (omega arith) (h.each i lt);
    }

leaf-below : (f g : Store) (n : ℕ) (span : SpanValue) (d : NodeData-F NodeData Link Kept Slots) → ((b : ℕ) → b < n → g b ≡ f b) → block_of_kind d < n → ByBlock (IsStoredLeaf f span) (λ b v x. ⊥) d → ByBlock (IsStoredLeaf g span) (λ b v x. ⊥) d
leaf-below f g n span (NodeData-F.Leaf b v ps) same low h = record { some = h.some; is = same b low ∙ h.is }
leaf-below f g n span (NodeData-F.Inner b v x) same low h = absurd h

-- Two stores that have the same in each block below n.
pub stored-below : (f g : Store) (n : ℕ) → ((b : ℕ) → b < n → g b ≡ f b) → (k : ℕ) (s : ℤ) (child : Option NodeData) → block_of child < n → IsStored f k s child → IsStored g k s child
stored-below f g n same zero s None low h = tt
stored-below f g n same (suc k) s None low h = tt
stored-below f g n same zero s (Some d) low h =
    leaf-below f g n (record { start = s; height = zero }) (out-NodeData d) same low h
stored-below f g n same (suc k) s (Some d) low h =
    kind-below f g n (record { start = s; height = suc k }) (λ x i. IsStored f k (slot_start k s i) (child_in x i)) (λ x i. IsStored g k (slot_start k s i) (child_in x i)) (out-NodeData d) same low (λ x i less. stored-below f g n same k (slot_start k s i) (child_in x i) less) h

-- ---- a store with nodes that are laid

is-below : (b n : ℕ) → b < n → nat_lt b n ≡ true
is-below b n lt = grind (arith, nat_tests)

not-below : (b n : ℕ) → nat_lt b n ≡ false → n ≤ b
not-below b n e = grind (arith, nat_tests)

laid-old : (store : Store) (first : ℕ) (nodes : List NewNodeValue) (b : ℕ) → b < first → laid store first nodes b ≡ store b
laid-old store first nodes b lt =
    ap (λ t. cond t (store b) (slice_get nodes (b - first))) (is-below b first lt)

laid-keeps : (store : Store) (first : ℕ) (old new : List NewNodeValue) → ((i : ℕ) → i < length old → slice_get new i ≡ slice_get old i) → (b : ℕ) → b < first + length old → laid store first new b ≡ laid store first old b
laid-keeps store first old new keeps b lt =
    elim (nat_lt b first) as (λ t. nat_lt b first ≡ t → cond t (store b) (slice_get new (b - first)) ≡ cond t (store b) (slice_get old (b - first))) [
      | true ↦ λ _. refl
      | false ↦ λ e. let le = not-below b first e in keeps (b - first) (omega arith)
    ] refl

laid-last : (store : Store) (first : ℕ) (old new : List NewNodeValue) (n : NewNodeValue) → new ≡ old ++ n ∷ [] → laid store first new (first + length old) ≡ Some n
laid-last store first old new n e =
    let place : first + length old - first ≡ length old = omega arith in
    let no : nat_lt (first + length old) first ≡ false = grind (arith, nat_tests) in
    ap (λ t. cond t (store (first + length old)) (slice_get new (first + length old - first))) no
    ∙ ap (λ (xs : List NewNodeValue). slice_get xs (first + length old - first)) e
    ∙ get-last old n (first + length old - first) place

-- What is stored below a block is laid, whatever nodes are laid from there on.
pub laid-below : (store : Store) (first : ℕ) (nodes : List NewNodeValue) (k : ℕ) (s : ℤ) (child : Option NodeData) → IsBelow store first k s child → IsLaid store first nodes k s child
laid-below store first nodes k s child h =
    let low = h.below in
    record {
      stored = stored-below store (laid store first nodes) first (laid-old store first nodes) k s child low h.stored;
      below = omega arith;
    }

-- What is laid stays so when nodes are appended.
pub laid-more : (store : Store) (first a b : ℕ) (old new : List NewNodeValue) (k : ℕ) (s : ℤ) (child : Option NodeData) → CountsNodes a b old new → IsLaid store first old k s child → IsLaid store first new k s child
laid-more store first a b old new k s child more h =
    let low = h.below in
    let grows = more.grows in
    record {
      stored = stored-below (laid store first old) (laid store first new) (first + length old) (laid-keeps store first old new more.keeps) k s child low h.stored;
      below = omega arith;
    }

-- ---- one node more

none-stored : (store : Store) (k : ℕ) (s : ℤ) → IsStored store k s None
none-stored store zero s = tt
none-stored store (suc k) s = tt

pub laid-none : (store : Store) (first : ℕ) (nodes : List NewNodeValue) (k : ℕ) (s : ℤ) (child : Option NodeData) → 1 ≤ first → child ≡ None → IsLaid store first nodes k s child
laid-none store first nodes k s child some e =
    subst (IsLaid store first nodes k s) (sym e) (record { stored = none-stored (laid store first nodes) k s; below = omega arith })

leaf-kind : (store : Store) (span : SpanValue) (b v : ℕ) (ps : List Point) (Q : ℕ → ℕ → Slots → Type 0) (d : NodeData-F NodeData Link Kept Slots) → ByKind (λ w qs. (w ≡ v) × (qs ≡ ps)) (λ w x. ⊥) d → block_of_kind d ≡ b → 1 ≤ b → store b ≡ Some (leaf_node span v ps) → ByBlock (IsStoredLeaf store span) Q d
leaf-kind store span b v ps Q (NodeData-F.Leaf c w qs) is e some at =
    record {
      some = subst (λ x. 1 ≤ x) (sym e) some;
      is = ap store e ∙ at ∙ ap (λ x. Some (leaf_node span x ps)) (sym is.0) ∙ ap (λ y. Some (leaf_node span w y)) (sym is.1);
    }
leaf-kind store span b v ps Q (NodeData-F.Inner c w x) is e some at = absurd is

leaf-stored : (store : Store) (k : ℕ) (s : ℤ) (v : ℕ) (ps : List Point) (child : Option NodeData) → IsLeafOf v ps child → 1 ≤ block_of child → store (block_of child) ≡ Some (leaf_node (record { start = s; height = k }) v ps) → IsStored store k s child
leaf-stored store k s v ps None is some at = absurd is
leaf-stored store zero s v ps (Some d) is some at =
    leaf-kind store _ _ v ps _ (out-NodeData d) is refl some at
leaf-stored store (suc k) s v ps (Some d) is some at =
    leaf-kind store _ _ v ps _ (out-NodeData d) is refl some at

-- A leaf that was pushed.
pub laid-leaf : (store : Store) (first : ℕ) (old new : List NewNodeValue) (span : SpanValue) (v : ℕ) (ps : List Point) (child : Option NodeData) → 1 ≤ first → IsLeafOf v ps child → block_of child ≡ first + length old → new ≡ old ++ leaf_node span v ps ∷ [] → IsLaid store first new span.height span.start child
laid-leaf store first old new span v ps child some is at e =
    let long : length new ≡ length old + 1 = ap (length {A = NewNodeValue}) e ∙ length_push old (leaf_node span v ps) in
    record {
      stored = leaf-stored (laid store first new) span.height span.start v ps child is (omega arith) (ap (laid store first new) at ∙ laid-last store first old new (leaf_node span v ps) e);
      below = omega arith;
    }

inner-kind : (store : Store) (span : SpanValue) (b v : ℕ) (x : Slots) (Sub : Slots → ℕ → Type 0) (d : NodeData-F NodeData Link Kept Slots) → ByKind (λ w qs. ⊥) (λ w y. (w ≡ v) × AreSameSlots x y) d → block_of_kind d ≡ b → 1 ≤ b → store b ≡ Some (inner_node span v x) → ((y : Slots) → AreSameSlots x y → (i : ℕ) → i < 64 → (block_of (child_in y i) < b) × Sub y i) → ByBlock (IsStoredLeaf store span) (λ c w y. IsStoredInner store span c w y (Sub y)) d
inner-kind store span b v x Sub (NodeData-F.Leaf c w qs) is e some at each = absurd is
inner-kind store span b v x Sub (NodeData-F.Inner c w y) is e some at each =
    record {
      some = subst (λ z. 1 ≤ z) (sym e) some;
      is = ap store e ∙ at ∙ ap (λ z. Some (inner_node span z x)) (sym is.0) ∙ ap (λ (ss : List Slot). let n : NewNodeValue = record { span = span; version = w; points = []; slots = ss } in Some n) (sym (same-first 64 x y is.1));
      lower = λ i lt. subst (λ z. block_of (child_in y i) < z) (sym e) (each y is.1 i lt).0;
      each = λ i lt. (each y is.1 i lt).1;
    }

inner-stored : (store : Store) (below : ℕ) (s : ℤ) (v : ℕ) (x : Slots) (child : Option NodeData) → IsInnerOf v x child → 1 ≤ block_of child → store (block_of child) ≡ Some (inner_node (record { start = s; height = suc below }) v x) → ((i : ℕ) → i < 64 → (block_of (child_in x i) < block_of child) × IsStored store below (slot_start below s i) (child_in x i)) → IsStored store (suc below) s child
inner-stored store below s v x None is some at each = absurd is
inner-stored store below s v x (Some d) is some at each =
    inner-kind store (record { start = s; height = suc below }) (block_of_kind (out-NodeData d)) v x (λ y i. IsStored store below (slot_start below s i) (child_in y i)) (out-NodeData d) is refl some at (λ y same i lt. (
      subst (λ (o : Option NodeData). block_of o < block_of_kind (out-NodeData d)) (sym (same.children i)) (each i lt).0,
      subst (IsStored store below (slot_start below s i)) (sym (same.children i)) (each i lt).1,
    ))

laid-inner_at : (store : Store) (first : ℕ) (old new : List NewNodeValue) (below : ℕ) (s : ℤ) (v : ℕ) (x : Slots) (child : Option NodeData) → 1 ≤ first → IsInnerOf v x child → block_of child ≡ first + length old → new ≡ old ++ inner_node (record { start = s; height = suc below }) v x ∷ [] → AreLaid 64 store first old below s x → IsLaid store first new (suc below) s child
laid-inner_at store first old new below s v x child some is at e each =
    let n : NewNodeValue = inner_node (record { start = s; height = suc below }) v x in
    let long : length new ≡ length old + 1 = ap (length {A = NewNodeValue}) e ∙ length_push old n in
    record {
      stored = inner-stored (laid store first new) below s v x child is (omega arith) (ap (laid store first new) at ∙ laid-last store first old new n e) (λ i lt.
          let low = (each i lt).below in (
            omega arith,
            stored-below (laid store first old) (laid store first new) (first + length old) (laid-keeps store first old new (λ j less. ap (λ (xs : List NewNodeValue). slice_get xs j) e ∙ get-front old n j less)) below (slot_start below s i) (child_in x i) low (each i lt).stored,
          ));
      below = omega arith;
    }

-- An inner node that was pushed, after its children were laid.
pub laid-inner : (store : Store) (first : ℕ) (old new : List NewNodeValue) (span : SpanValue) (below v : ℕ) (x : Slots) (child : Option NodeData) → 1 ≤ first → span.height ≡ suc below → IsInnerOf v x child → block_of child ≡ first + length old → new ≡ old ++ inner_node span v x ∷ [] → AreLaid 64 store first old below span.start x → IsLaid store first new span.height span.start child
laid-inner store first old new span below v x child some high is at e each =
    subst (λ k. IsLaid store first new k span.start child) (sym high) (laid-inner_at store first old new below span.start v x child some is at (subst (λ k. new ≡ old ++ inner_node (record { start = span.start; height = k }) v x ∷ []) high e) each)

-- A slot more, which was put.
pub laid-put : (store : Store) (first a b : ℕ) (old new : List NewNodeValue) (below : ℕ) (s : ℤ) (i : ℕ) (x y : Slots) (slot : Slot) (child : Option NodeData) → CountsNodes a b old new → IsPut i slot child x y → AreLaid i store first old below s x → IsLaid store first new below (slot_start below s i) child → AreLaid (i + 1) store first new below s y
laid-put store first a b old new below s i x y slot child more put holds last j lt =
    let le : j ≤ i = omega arith in
    elim (eq-or-lt_of_le le) [
      | inl same ↦ subst (λ m. IsLaid store first new below (slot_start below s m) (child_in y m)) (sym same) (subst (IsLaid store first new below (slot_start below s i)) (sym put.has) last)
      | inr less ↦ subst (IsLaid store first new below (slot_start below s j)) (sym (put.children j less)) (laid-more store first a b old new below (slot_start below s j) (child_in x j) more (holds j less))
    ]

-- ---- the children of a node

kind-children : (store : Store) (span : SpanValue) (b v : ℕ) (x : Slots) (Sub : Slots → ℕ → Type 0) (d : NodeData-F NodeData Link Kept Slots) → d ≡ NodeData-F.Inner b v x → ByBlock (IsStoredLeaf store span) (λ c w y. IsStoredInner store span c w y (Sub y)) d → IsStoredInner store span b v x (Sub x)
kind-children store span b v x Sub d e h =
    subst (ByBlock (IsStoredLeaf store span) (λ c w y. IsStoredInner store span c w y (Sub y))) e h

below-at : (store : Store) (first below : ℕ) (s : ℤ) (n : NodeData) (b v : ℕ) (x : Slots) → n ≡ Inner b v x → IsBelow store first (suc below) s (Some n) → AreBelow store first below s x
below-at store first below s n b v x e h i lt =
    let out = ap out-NodeData e ∙ out-inner v x in
    let inner = kind-children store (record { start = s; height = suc below }) b v x (λ y j. IsStored store below (slot_start below s j) (child_in y j)) (out-NodeData n) out h.stored in
    let low : b < first = subst (λ d. block_of_kind d < first) out h.below in
    let less = inner.lower i lt in
    record { stored = inner.each i lt; below = omega arith }

pub below-children : (store : Store) (first k below : ℕ) (s : ℤ) (child : Option NodeData) (n : NodeData) (b v : ℕ) (x : Slots) → k ≡ suc below → child ≡ Some n → n ≡ Inner b v x → IsBelow store first k s child → AreBelow store first below s x
below-children store first k below s child n b v x high is e h =
    below-at store first below s n b v x e (subst (λ (o : Option NodeData). IsBelow store first (suc below) s o) is (subst (λ j. IsBelow store first j s child) high h))

-- The child, or none.
pub below-either : (store : Store) (first k : ℕ) (s : ℤ) (child seen : Option NodeData) → 1 ≤ first → (seen ≡ child) ⊎ (seen ≡ None) → IsBelow store first k s child → IsBelow store first k s seen
below-either store first k s child seen some either low =
    elim either [
      | inl same ↦ subst (IsBelow store first k s) (sym same) low
      | inr none ↦ subst (IsBelow store first k s) (sym none) (record { stored = none-stored store k s; below = omega arith })
    ]

-- ---- one slot of the walk

pub below-part : (store : Store) (first : ℕ) (part : SpanValue) (below : ℕ) (s : ℤ) (i : ℕ) (x : Slots) (child : Option NodeData) → part ≡ record { start = slot_start below s i; height = below } → i < 64 → child ≡ child_in x i → AreBelow store first below s x → IsBelow store first part.height part.start child
below-part store first part below s i x child is place seen each =
    subst (λ (u : SpanValue). IsBelow store first u.height u.start child) (sym is) (subst (IsBelow store first below (slot_start below s i)) (sym seen) (each i place))

pub laid-part : (store : Store) (first : ℕ) (nodes : List NewNodeValue) (part : SpanValue) (below : ℕ) (s : ℤ) (i : ℕ) (child : Option NodeData) → part ≡ record { start = slot_start below s i; height = below } → IsLaid store first nodes part.height part.start child → IsLaid store first nodes below (slot_start below s i) child
laid-part store first nodes part below s i child is h =
    subst (λ (u : SpanValue). IsLaid store first nodes u.height u.start child) is h

pub laid-all : (store : Store) (first n : ℕ) (nodes : List NewNodeValue) (below : ℕ) (s : ℤ) (x : Slots) → n ≡ 64 → AreLaid n store first nodes below s x → AreLaid 64 store first nodes below s x
laid-all store first n nodes below s x e h = subst (λ m. AreLaid m store first nodes below s x) e h
