-- Lemmas on the nodes that have the version of a commit: those that it writes.
use Rattle.std.specs.Prelude.{◌≡◌, ℕ, ◌+◌, ◌-◌, ◌<◌, ◌≤◌, min, ℤ, Bool, true, false, not, ◌&&◌, ◌||◌, cond, nat_lt, nat_eq, List, [], ◌∷◌, ◌++◌, length, map, slice_get, Option, Some, None, Vec}
use Rattle.std.proofs.Common.{zero, suc, refl, sym, ap, ◌∙◌, arith, subst, append-nil, append_assoc, inl, inr}
use Rattle.std.proofs.lemmas.Bool.Decides.{nat_tests}
use Rattle.std.proofs.lemmas.List.{length_push, map-append}
use Rattle.std.proofs.lemmas.Option.{slice_get_past}
use Rattle.std.specs.declared.alloc.Global.{Global}
use Rattle.std.proofs.Math.Nat.{eq-or-lt_of_le}
use Rattle.btr_base.specs.declared.point.Point.{Point}
use Rattle.btr_base.specs.Span.{SpanValue}
use Rattle.btr_base.specs.declared.limits.TheConstants.{LEAF_POINTS}
use Rattle.btr_tree.specs.declared.node.Slot.{Slot}
use Rattle.btr_tree.specs.History.{Commit, Past, Opened, ◌▷◌, bag, IsBefore}
use Rattle.btr_tree.specs.Change.{CountsNodes, IsInnerOf}
use Rattle.btr_tree.specs.Nodes.{points_of, has_points, touches, is_inner, is_node, last_change, node_version}
use Rattle.btr_tree.proofs.VersionLemmas.{points-untouched}
use Rattle.btr_tree.specs.declared.node.Link.{Link}
use Rattle.btr_tree.specs.declared.node.NodeData.{NodeData, out-NodeData}
use Rattle.btr_tree.specs.declared.node.NodeData.TheOpen.{NodeData-F}
use Rattle.btr_tree.specs.declared.node.NodeData.TheVariants.{Leaf, Inner}
use Rattle.btr_tree.specs.declared.slots.Kept.{Kept}
use Rattle.btr_tree.specs.declared.slots.Slots.{Slots}
use Rattle.btr_tree.specs.Slots.{slot_in, child_in, block_of, addressed, first_slots, AreSameSlots}
use Rattle.btr_tree.specs.Packed.{without_address}
use Rattle.btr_tree.proofs.NodeLemmas.{out-leaf, out-inner}
use Rattle.btr_tree.proofs.KeptSlotLemmas.{get-front, get-last}
use Rattle.btr_tree.specs.Shape.{slot_start, slot_of_points, ByKind, HasSlots}
use Rattle.btr_tree.proofs.UntouchedNodeLemmas.{touches-slot, last_change-kept, some-has, many-inner}
use Rattle.btr_tree.specs.NewNodes.{NewNodeValue, bare, bare_all, points_of_kind, points_of_node, slots_of_kind, slots_of_node, concat_first, slots_of, new_node, own_node, new_nodes}

pub last_change-before : (was : List Point → Bool) (k : ℕ) (s : ℤ) (h : Past) (v : ℕ) → 0 < v → IsBefore v h → last_change was k s h < v
last_change-before was k s (Opened b dates) v some before = before k s
last_change-before was k s (c ▷ h) v some before =
    elim (touches c k s (bag h) || not (was (bag h))) as (λ t. cond t c.version (last_change was k s h) < v) [
      | true ↦ before.0
      | false ↦ last_change-before was k s h v some before.1
    ]

pub first-next : {X : Type 0} (n : ℕ) (f : ℕ → List X) → concat_first (n + 1) f ≡ concat_first n f ++ f n
first-next n f = let e : n + 1 ≡ suc n = omega arith in ap (λ m. concat_first m f) e

pub first-none : {X : Type 0} (n : ℕ) (f : ℕ → List X) → ((i : ℕ) → i < n → f i ≡ []) → concat_first n f ≡ []
first-none zero f h = refl
first-none (suc n) f h =
    ap (λ x. x ++ f n) (first-none n f (λ i lt. h i (omega arith))) ∙ h n (omega arith)

-- ---- the slots of an inner node

bare-addressed : (x : Slots) (i : ℕ) → without_address (addressed x i) ≡ without_address (slot_in x i)
unfolding addressed
bare-addressed x i = refl

slots-first : (below : ℕ) (s : ℤ) (h : Past) (x : Slots) → HasSlots below s h x → (n : ℕ) → n ≤ 64 → map without_address (first_slots n x) ≡ concat_first n (λ i. slot_of_points (suc below) s below (slot_start below s i) h ∷ [])
unfolding first_slots
slots-first below s h x holds zero le = refl
slots-first below s h x holds (suc n) le =
    map-append without_address (first_slots n x) (addressed x n ∷ [])
    ∙ ap (λ xs. xs ++ without_address (addressed x n) ∷ []) (slots-first below s h x holds n (omega arith))
    ∙ ap (λ y. concat_first n (λ i. slot_of_points (suc below) s below (slot_start below s i) h ∷ []) ++ y ∷ []) (bare-addressed x n ∙ ap without_address (holds.each n (omega arith)))

pub slots-are : (below : ℕ) (s : ℤ) (h : Past) (x : Slots) → HasSlots below s h x → map without_address (first_slots 64 x) ≡ slots_of below s h
slots-are below s h x holds = slots-first below s h x holds 64 (omega arith)

first-length : (n : ℕ) (x : Slots) → length (first_slots n x) ≡ n
unfolding first_slots
first-length zero x = refl
first-length (suc n) x = omega (arith, length_push (first_slots n x) (addressed x n), first-length n x)

first-get : (n : ℕ) (x : Slots) (i : ℕ) → i < n → slice_get (first_slots n x) i ≡ Some (addressed x i)
unfolding first_slots
first-get zero x i lt = absurd (omega arith)
first-get (suc n) x i lt =
    let le : i ≤ n = omega arith in
    elim (eq-or-lt_of_le le) [
      | inl e ↦ get-last (first_slots n x) (addressed x n) i (e ∙ sym (first-length n x)) ∙ ap (λ j. Some (addressed x j)) (sym e)
      | inr less ↦ let long = first-length n x in get-front (first_slots n x) (addressed x n) i (omega arith) ∙ first-get n x i less
    ]

-- The points of no node, of a leaf and of an inner node.
pub points-of_none : points_of_node None ≡ []
unfolding points_of_node
points-of_none = refl

pub points-of_leaf : {b : ℕ} (n : NodeData) (v : ℕ) (ps : Vec Point Global) → n ≡ Leaf b v ps → points_of_node (Some n) ≡ ps.items
unfolding points_of_node
points-of_leaf n v ps e = ap points_of_kind (ap out-NodeData e ∙ out-leaf v ps)

pub points-of_inner : {b : ℕ} (n : NodeData) (v : ℕ) (x : Slots) → n ≡ Inner b v x → points_of_node (Some n) ≡ []
unfolding points_of_node
points-of_inner n v x e = ap points_of_kind (ap out-NodeData e ∙ out-inner v x)

-- The slots of no node, of a leaf and of an inner node.
pub slots-of_none : slots_of_node None ≡ []
unfolding slots_of_node
slots-of_none = refl

pub slots-of_leaf : {b : ℕ} (n : NodeData) (v : ℕ) (ps : Vec Point Global) → n ≡ Leaf b v ps → slots_of_node (Some n) ≡ []
unfolding slots_of_node
slots-of_leaf n v ps e = ap slots_of_kind (ap out-NodeData e ∙ out-leaf v ps)

pub slots-of_inner : {b : ℕ} (n : NodeData) (v : ℕ) (x : Slots) → n ≡ Inner b v x → slots_of_node (Some n) ≡ first_slots 64 x
unfolding slots_of_node
slots-of_inner n v x e = ap slots_of_kind (ap out-NodeData e ∙ out-inner v x)

pub length-of_inner : {b : ℕ} (n : NodeData) (v : ℕ) (x : Slots) → n ≡ Inner b v x → length (slots_of_node (Some n)) ≡ 64
length-of_inner n v x e = ap length (slots-of_inner n v x e) ∙ first-length 64 x

pub get-of_inner : {b : ℕ} (n : NodeData) (v : ℕ) (x : Slots) (i : ℕ) → n ≡ Inner b v x → i < 64 → slice_get (slots_of_node (Some n)) i ≡ Some (addressed x i)
get-of_inner n v x i e lt = ap (λ xs. slice_get xs i) (slots-of_inner n v x e) ∙ first-get 64 x i lt

-- There are at most 64 slots.
kind-few : (n : NodeData-F NodeData Link Kept Slots) → length (slots_of_kind n) ≤ 64
kind-few (NodeData-F.Leaf block version points) = omega arith
kind-few (NodeData-F.Inner block version slots) = omega (arith, first-length 64 slots)

slots-few : (o : Option NodeData) → length (slots_of_node o) ≤ 64
unfolding slots_of_node
slots-few None = omega arith
slots-few (Some n) = kind-few (out-NodeData n)

pub get-past : (o : Option NodeData) (i : ℕ) → 64 ≤ i → slice_get (slots_of_node o) i ≡ None
get-past o i le = let few = slots-few o in slice_get_past (slots_of_node o) i (omega arith)

-- The slots of an inner node that was made.
same-addressed : (x y : Slots) (i : ℕ) → AreSameSlots x y → addressed y i ≡ addressed x i
unfolding addressed
same-addressed x y i same =
    ap (λ (s : Slot). let t : Slot = record { agg = s.agg; version = s.version; child = block_of (child_in y i) } in t) (same.slots i)
    ∙ ap (λ o. let t : Slot = record { agg = (slot_in x i).agg; version = (slot_in x i).version; child = block_of o } in t) (same.children i)

pub same-first : (n : ℕ) (x y : Slots) → AreSameSlots x y → first_slots n y ≡ first_slots n x
unfolding first_slots
same-first zero x y same = refl
same-first (suc n) x y same =
    ap (λ xs. xs ++ addressed y n ∷ []) (same-first n x y same)
    ∙ ap (λ z. first_slots n x ++ z ∷ []) (same-addressed x y n same)

kind-inner : (v : ℕ) (x : Slots) (n : NodeData-F NodeData Link Kept Slots) → ByKind (λ w ps. ⊥) (λ w y. (w ≡ v) × AreSameSlots x y) n → slots_of_kind n ≡ first_slots 64 x
kind-inner v x (NodeData-F.Leaf block version points) is = absurd is
kind-inner v x (NodeData-F.Inner block version slots) is = same-first 64 x slots is.1

pub slots-of_made : (v : ℕ) (x : Slots) (o : Option NodeData) → IsInnerOf v x o → slots_of_node o ≡ first_slots 64 x
unfolding slots_of_node
slots-of_made v x None is = absurd is
slots-of_made v x (Some n) is = kind-inner v x (out-NodeData n) is

-- ---- the nodes of a span

both : (a : Bool) → (a && false) ≡ false
both a = grind arith

none-node : (above : List Point → Bool) (k : ℕ) (s : ℤ) (b : List Point) → points_of k s b ≡ [] → is_node above k s b ≡ false
none-node above k s b e = ap (λ x. above b && has_points x) e ∙ both (above b)

pub few-inner : (k : ℕ) (s : ℤ) (b : List Point) → length (points_of k s b) ≤ LEAF_POINTS → is_inner k s b ≡ false
few-inner k s b few = grind (arith, nat_tests)

own-none : (k : ℕ) (s : ℤ) (above : List Point → Bool) (h : Past) (v : ℕ) → is_node above k s (bag h) ≡ false → own_node k s above h v ≡ []
own-none k s above h v e =
    ap (λ t. cond (t && nat_eq (node_version above k s h) v) (new_node k s above h ∷ []) []) e

own-other : (k : ℕ) (s : ℤ) (above : List Point → Bool) (h : Past) (v : ℕ) → node_version above k s h < v → own_node k s above h v ≡ []
own-other k s above h v lt =
    let e : (is_node above k s (bag h) && nat_eq (node_version above k s h) v) ≡ false = grind (arith, nat_tests) in
    ap (λ t. cond t (new_node k s above h ∷ []) []) e

pub own-here : (k : ℕ) (s : ℤ) (above : List Point → Bool) (h : Past) (v : ℕ) → above (bag h) ≡ true → 0 < length (points_of k s (bag h)) → v ≡ node_version above k s h → own_node k s above h v ≡ new_node k s above h ∷ []
own-here k s above h v w some e =
    let node : is_node above k s (bag h) ≡ true = ap (λ t. t && has_points (points_of k s (bag h))) w ∙ some-has (points_of k s (bag h)) some in
    let same : nat_eq (node_version above k s h) v ≡ true = grind (arith, nat_tests) in
    ap (λ t. cond (t && nat_eq (node_version above k s h) v) (new_node k s above h ∷ []) []) node ∙ ap (λ t. cond t (new_node k s above h ∷ []) []) same

pub new_nodes-none : (k : ℕ) (s : ℤ) (above : List Point → Bool) (h : Past) (v : ℕ) → points_of k s (bag h) ≡ [] → new_nodes k s above h v ≡ []
new_nodes-none zero s above h v e = own-none zero s above h v (none-node above zero s (bag h) e)
new_nodes-none (suc k) s above h v e =
    let empty = ap (length {A = Point}) e in
    ap (λ t. cond t (concat_first 64 (λ i. new_nodes k (slot_start k s i) (is_inner (suc k) s) h v)) [] ++ own_node (suc k) s above h v) (few-inner (suc k) s (bag h) (omega arith))
    ∙ own-none (suc k) s above h v (none-node above (suc k) s (bag h) e)

pub new_node-by : (span : SpanValue) (v w : ℕ) (ps qs : List Point) (ss ts : List Slot) → v ≡ w → ps ≡ qs → ss ≡ ts → (let p : NewNodeValue = record { span = span; version = v; points = ps; slots = ss } in p) ≡ record { span = span; version = w; points = qs; slots = ts }
new_node-by span v w ps qs ss ts p q r = cc

-- A leaf of the version.
pub new_nodes-leaf : (k : ℕ) (s : ℤ) (above : List Point → Bool) (h : Past) (v : ℕ) (points : List Point) → above (bag h) ≡ true → v ≡ node_version above k s h → points ≡ points_of k s (bag h) → 0 < length points → length points ≤ LEAF_POINTS → new_nodes k s above h v ≡ record { span = record { start = s; height = k }; version = v; points = points; slots = [] } ∷ []
new_nodes-leaf zero s above h v points w e same some few =
    own-here zero s above h v w (subst (λ x. 0 < length x) same some) e
    ∙ ap (λ p. p ∷ []) (new_node-by _ _ _ _ _ _ _ (sym e) (sym same) refl)
new_nodes-leaf (suc k) s above h v points w e same some few =
    let no = few-inner (suc k) s (bag h) (subst (λ x. length x ≤ LEAF_POINTS) same few) in
    ap (λ t. cond t (concat_first 64 (λ i. new_nodes k (slot_start k s i) (is_inner (suc k) s) h v)) [] ++ own_node (suc k) s above h v) no
    ∙ own-here (suc k) s above h v w (subst (λ x. 0 < length x) same some) e
    ∙ ap (λ p. p ∷ []) (new_node-by _ _ _ _ _ _ _ (sym e) (ap (λ t. cond t [] (points_of (suc k) s (bag h))) no ∙ sym same) (ap (λ t. cond t (slots_of k s h) []) no))

-- An inner node of the version.
pub new_nodes-inner : (below : ℕ) (s : ℤ) (above : List Point → Bool) (h : Past) (v : ℕ) (x : Slots) → above (bag h) ≡ true → v ≡ node_version above (suc below) s h → LEAF_POINTS < length (points_of (suc below) s (bag h)) → HasSlots below s h x → new_nodes (suc below) s above h v ≡ concat_first 64 (λ i. new_nodes below (slot_start below s i) (is_inner (suc below) s) h v) ++ record { span = record { start = s; height = suc below }; version = v; points = []; slots = map without_address (first_slots 64 x) } ∷ []
new_nodes-inner below s above h v x w e many holds =
    let yes = many-inner (suc below) s (bag h) many in
    ap (λ t. cond t (concat_first 64 (λ i. new_nodes below (slot_start below s i) (is_inner (suc below) s) h v)) [] ++ own_node (suc below) s above h v) yes
    ∙ ap (λ x. concat_first 64 (λ i. new_nodes below (slot_start below s i) (is_inner (suc below) s) h v) ++ x) (own-here (suc below) s above h v w (omega arith) e ∙ ap (λ p. p ∷ []) (new_node-by _ _ _ _ _ _ _ (sym e) (ap (λ t. cond t [] (points_of (suc below) s (bag h))) yes) (ap (λ t. cond t (slots_of below s h) []) yes ∙ sym (slots-are below s h x holds))))

pub new_nodes-inner_at : (k below : ℕ) (s : ℤ) (above : List Point → Bool) (h : Past) (v : ℕ) (x : Slots) → k ≡ suc below → above (bag h) ≡ true → v ≡ node_version above k s h → LEAF_POINTS < length (points_of k s (bag h)) → HasSlots below s h x → new_nodes k s above h v ≡ concat_first 64 (λ i. new_nodes below (slot_start below s i) (is_inner (suc below) s) h v) ++ record { span = record { start = s; height = k }; version = v; points = []; slots = map without_address (first_slots 64 x) } ∷ []
new_nodes-inner_at k below s above h v x high w e many holds =
    subst (λ j. new_nodes j s above h v ≡ concat_first 64 (λ i. new_nodes below (slot_start below s i) (is_inner (suc below) s) h v) ++ record { span = record { start = s; height = j }; version = v; points = []; slots = map without_address (first_slots 64 x) } ∷ []) (sym high) (new_nodes-inner below s above h v x w (subst (λ j. v ≡ node_version above j s h) high e) (subst (λ j. LEAF_POINTS < length (points_of j s (bag h))) high many) holds)

-- ---- what a commit does not touch is not of its version

has-cases : (b : List Point) (P : Type 0) → (b ≡ [] → P) → (0 < length b → P) → P
has-cases [] P f g = f refl
has-cases (p ∷ b) P f g = g (omega arith)

own-kept : (k : ℕ) (s : ℤ) (above : List Point → Bool) (h : Past) (c : Commit) (v : ℕ) → above (bag h) ≡ true → touches c k s (bag h) ≡ false → 0 < v → IsBefore v h → own_node k s above (c ▷ h) v ≡ []
own-kept k s above h c v w e some before =
    let same = points-untouched k s c h e in
    has-cases (points_of k s (bag h)) _ (λ none. own-none k s above (c ▷ h) v (none-node above k s (bag (c ▷ h)) (same ∙ none))) (λ more.
    let node : is_node above k s (bag h) ≡ true = ap (λ t. t && has_points (points_of k s (bag h))) w ∙ some-has (points_of k s (bag h)) more in
    let old = last_change-before (is_node above k s) k s h v some before in
    let kept = last_change-kept (is_node above k s) k s h c e node in
    own-other k s above (c ▷ h) v (subst (λ x. x < v) (sym kept) old))

pub new_nodes-kept : (k : ℕ) (s : ℤ) (above : List Point → Bool) (h : Past) (c : Commit) (v : ℕ) → above (bag h) ≡ true → touches c k s (bag h) ≡ false → 0 < v → IsBefore v h → new_nodes k s above (c ▷ h) v ≡ []
new_nodes-kept zero s above h c v w e some before = own-kept zero s above h c v w e some before
new_nodes-kept (suc k) s above h c v w e some before =
    let same = points-untouched (suc k) s c h e in
    let inner = ap (λ x. nat_lt LEAF_POINTS (length x)) same in
    ap (λ x. cond (is_inner (suc k) s (bag (c ▷ h))) (concat_first 64 (λ i. new_nodes k (slot_start k s i) (is_inner (suc k) s) (c ▷ h) v)) [] ++ x) (own-kept (suc k) s above h c v w e some before)
    ∙ append-nil _
    ∙ elim (is_inner (suc k) s (bag h)) as (λ t. is_inner (suc k) s (bag h) ≡ t → cond (is_inner (suc k) s (bag (c ▷ h))) (concat_first 64 (λ i. new_nodes k (slot_start k s i) (is_inner (suc k) s) (c ▷ h) v)) [] ≡ []) [
      | true ↦ λ yes. ap (λ t. cond t (concat_first 64 (λ i. new_nodes k (slot_start k s i) (is_inner (suc k) s) (c ▷ h) v)) []) (inner ∙ yes) ∙ first-none 64 _ (λ i lt. new_nodes-kept k (slot_start k s i) (is_inner (suc k) s) h c v yes (touches-slot k s i c (bag h) lt e) some before)
      | false ↦ λ no. ap (λ t. cond t (concat_first 64 (λ i. new_nodes k (slot_start k s i) (is_inner (suc k) s) (c ▷ h) v)) []) (inner ∙ no)
    ] refl

-- ---- a list that grows

pub reported-more : {X : Type 0} (old mid new before here next : List X) → mid ≡ old ++ before → new ≡ mid ++ here → next ≡ before ++ here → new ≡ old ++ next
reported-more old mid new before here next p q r =
    q ∙ ap (λ x. x ++ here) p ∙ append_assoc old before here ∙ ap (λ x. old ++ x) (sym r)

-- One more node without addresses.
pub bare-push : (xs ys : List NewNodeValue) (n : NewNodeValue) → ys ≡ xs ++ n ∷ [] → bare_all ys ≡ bare_all xs ++ bare n ∷ []
bare-push xs ys n e = ap bare_all e ∙ map-append bare xs (n ∷ [])

-- ---- how many there are

-- A counter that stops at the greatest number counts two lists one after the other as both together.
stop-more : (a x y m : ℕ) → min (min (a + x) m + y) m ≡ min (a + x + y) m
stop-more a x y m = omega arith

pub counts-none : (a : ℕ) (xs : List NewNodeValue) → CountsNodes a a xs xs
counts-none a xs = record { grows = omega arith; keeps = λ i lt. refl; none = λ _. refl; some = λ less. absurd (omega arith) }

pub counts-more : (a b c : ℕ) (xs ys zs : List NewNodeValue) → CountsNodes a b xs ys → CountsNodes b c ys zs → CountsNodes a c xs zs
counts-more a b c xs ys zs f s =
    let low = f.grows in
    let high = s.grows in
    record {
      grows = omega arith;
      keeps = λ i lt. s.keeps i (omega arith) ∙ f.keeps i lt;
      none = λ e. s.none (omega arith) ∙ f.none (omega arith);
      some = λ less. elim (eq-or-lt_of_le low) [
        | inl same ↦ s.some (omega arith) ∙ ap (λ k. min k 18446744073709551615) (omega (arith, f.none (sym same)))
        | inr first ↦ elim (eq-or-lt_of_le high) [
          | inl same ↦ s.none (sym same) ∙ f.some first ∙ ap (λ k. min k 18446744073709551615) (omega arith)
          | inr second ↦ s.some second
              ∙ ap (λ k. min (k + (length zs - length ys)) 18446744073709551615) (f.some first)
              ∙ stop-more a (length ys - length xs) (length zs - length ys) 18446744073709551615
              ∙ ap (λ k. min k 18446744073709551615) (omega arith)
        ]
      ];
    }
