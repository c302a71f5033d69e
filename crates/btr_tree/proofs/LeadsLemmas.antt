-- Laws of where a root leads: an opened tree is that of the past, a commit's root leads to its nodes, and old roots lead on.
use Rattle.std.specs.Prelude.{◌≡◌, ℕ, ◌<◌, ◌≤◌, ℤ, Bool, true, false, cond, List, [], ◌∷◌, ◌++◌, length, slice_get, Option, Some, None, MatchOption}
use Rattle.std.proofs.Common.{zero, suc, refl, sym, ap, ◌∙◌, arith, subst, inl, inr}
use Rattle.std.proofs.lemmas.Bool.Decides.{nat_tests}
use Rattle.std.proofs.lemmas.List.{length_push}
use Rattle.std.proofs.Math.Nat.{eq-or-lt_of_le}
use Rattle.btr_base.specs.Agg.{AggValue, agg}
use Rattle.btr_base.specs.declared.limits.TheConstants.{LEAF_POINTS}
use Rattle.btr_base.specs.declared.point.Point.{Point}
use Rattle.btr_base.specs.Span.{SpanValue}
use Rattle.btr_tree.specs.declared.node.Link.{Link}
use Rattle.btr_tree.specs.declared.node.NodeData.{NodeData, out-NodeData}
use Rattle.btr_tree.specs.declared.node.NodeData.TheOpen.{NodeData-F}
use Rattle.btr_tree.specs.declared.node.Slot.{Slot}
use Rattle.btr_tree.specs.declared.slots.Kept.{Kept}
use Rattle.btr_tree.specs.declared.slots.Slots.{Slots}
use Rattle.btr_tree.specs.History.{Past, bag}
use Rattle.btr_tree.specs.NewNodes.{NewNodeValue, concat_first}
use Rattle.btr_tree.specs.Nodes.{points_of, is_inner, slot_version}
use Rattle.btr_tree.specs.Shape.{ByKind, slot_start, slot_of_points, IsLeaf, IsInner, HasChildren, IsChild}
use Rattle.btr_tree.specs.Slots.{slot_in, child_in, block_of, block_of_kind, addressed, first_slots}
use Rattle.btr_tree.specs.Stored.{Store, leaf_node, inner_node, ByBlock, IsStoredLeaf, IsStoredInner, IsStored}
use Rattle.btr_tree.specs.Leads.{slot_to, slots_to, node_to, LeadsToNode, Leads, total_of_kind, total_of, IsSlotRead, IsReadLeaf, IsReadInner, IsRead}
use Rattle.btr_tree.proofs.KeptSlotLemmas.{get-front, get-last}
use Rattle.btr_tree.proofs.NodeLemmas.{total-of}
use Rattle.btr_tree.proofs.NewNodeLemmas.{new_node-by, few-inner}
use Rattle.btr_tree.proofs.UntouchedNodeLemmas.{many-inner}

-- ---- lists of one item each

pub items-length : {X : Type 0} (n : ℕ) (g : ℕ → X) → length (concat_first n (λ i. g i ∷ [])) ≡ n
items-length zero g = refl
items-length (suc n) g =
    omega (arith, length_push (concat_first n (λ i. g i ∷ [])) (g n), items-length n g)

pub items-get : {X : Type 0} (n : ℕ) (g : ℕ → X) (i : ℕ) → i < n → slice_get (concat_first n (λ j. g j ∷ [])) i ≡ Some (g i)
items-get zero g i lt = absurd (omega arith)
items-get (suc n) g i lt =
    let le : i ≤ n = omega arith in
    elim (eq-or-lt_of_le le) [
      | inl e ↦ get-last (concat_first n (λ j. g j ∷ [])) (g n) i (e ∙ sym (items-length n g)) ∙ ap (λ j. Some (g j)) (sym e)
      | inr less ↦ let long = items-length n g in get-front (concat_first n (λ j. g j ∷ [])) (g n) i (omega arith) ∙ items-get n g i less
    ]

first-items : (n : ℕ) (x : Slots) (g : ℕ → Slot) → ((i : ℕ) → i < n → addressed x i ≡ g i) → first_slots n x ≡ concat_first n (λ i. g i ∷ [])
unfolding first_slots
first-items zero x g h = refl
first-items (suc n) x g h =
    ap (λ xs. xs ++ addressed x n ∷ []) (first-items n x g (λ i lt. h i (omega arith)))
    ∙ ap (λ y. concat_first n (λ i. g i ∷ []) ++ y ∷ []) (h n (omega arith))

slot-by : (a b : AggValue) (v w m n : ℕ) → a ≡ b → v ≡ w → m ≡ n → (let s : Slot = record { agg = a; version = v; child = m } in s) ≡ record { agg = b; version = w; child = n }
slot-by a b v w m n p q r = cc

-- A slot with the block of its child, and with an address that is that block.
addressed-to : (x : Slots) (i : ℕ) (s : Slot) (link : ℕ) → slot_in x i ≡ s → link ≡ block_of (child_in x i) → addressed x i ≡ slot_to link s
unfolding addressed
addressed-to x i s link e f =
    slot-by (slot_in x i).agg s.agg (slot_in x i).version s.version (block_of (child_in x i)) link (ap (λ (t : Slot). t.agg) e) (ap (λ (t : Slot). t.version) e) (sym f)

-- ---- the page of a node

leaf-page : (links : ℕ → ℕ) (k : ℕ) (s : ℤ) (above : List Point → Bool) (h : Past) (v : ℕ) (ps : List Point) → IsLeaf k s above h v ps → leaf_node (record { start = s; height = k }) v ps ≡ node_to links k s above h
leaf-page links zero s above h v ps l = new_node-by _ _ _ _ _ _ _ l.version l.same refl
leaf-page links (suc k) s above h v ps l =
    let no = few-inner (suc k) s (bag h) (subst (λ x. length x ≤ LEAF_POINTS) l.same l.few) in
    new_node-by _ _ _ _ _ _ _ l.version (l.same ∙ sym (ap (λ t. cond t [] (points_of (suc k) s (bag h))) no)) (sym (ap (λ t. cond t (slots_to links k s h) []) no))

inner-page : (links : ℕ → ℕ) (k : ℕ) (s : ℤ) (above : List Point → Bool) (h : Past) (v : ℕ) (x : Slots) → IsInner k s above h v x → ((i : ℕ) → i < 64 → links i ≡ block_of (child_in x i)) → inner_node (record { start = s; height = suc k }) v x ≡ node_to links (suc k) s above h
inner-page links k s above h v x n same =
    let yes = many-inner (suc k) s (bag h) n.many in
    new_node-by _ _ _ _ _ _ _ n.version (sym (ap (λ t. cond t [] (points_of (suc k) s (bag h))) yes)) (first-items 64 x (λ i. slot_to (links i) (slot_of_points (suc k) s k (slot_start k s i) h)) (λ i lt. addressed-to x i (slot_of_points (suc k) s k (slot_start k s i) h) (links i) (n.all.each i lt) (same i lt)) ∙ sym (ap (λ t. cond t (slots_to links k s h) []) yes))

-- ---- a tree of a past that is stored: its root leads

leaf-leads : (f : Store) (pages : ℕ → NewNodeValue → Type 0) → ((b : ℕ) (n : NewNodeValue) → f b ≡ Some n → pages b n) → (k : ℕ) (s : ℤ) (above : List Point → Bool) (h : Past) (b v : ℕ) (ps : List Point) (On : ℕ → ℕ → Type 0) → IsLeaf k s above h v ps → IsStoredLeaf f (record { start = s; height = k }) b v ps → LeadsToNode pages k s above h b On
leaf-leads f pages has k s above h b v ps On l st =
    record {
      points = subst (λ x. 0 < length x) l.same l.some;
      some = st.some;
      links = λ i. 0;
      is = has b (node_to (λ i. 0) k s above h) (st.is ∙ ap Some (leaf-page (λ i. 0) k s above h v ps l));
      each = λ many. let few = l.few in let long = ap (length {A = Point}) l.same in absurd (omega arith);
    }

zero-leads : (f : Store) (pages : ℕ → NewNodeValue → Type 0) → ((b : ℕ) (n : NewNodeValue) → f b ≡ Some n → pages b n) → (s : ℤ) (above : List Point → Bool) (h : Past) (d : NodeData-F NodeData Link Kept Slots) → ByKind (λ v ps. IsLeaf zero s above h v ps) (λ v x. ⊥) d → ByBlock (IsStoredLeaf f (record { start = s; height = zero })) (λ b v x. ⊥) d → LeadsToNode pages zero s above h (block_of_kind d) (λ i link. Unit {0})
zero-leads f pages has s above h (NodeData-F.Leaf b v ps) l st =
    leaf-leads f pages has zero s above h b v ps.items (λ i link. Unit {0}) l st
zero-leads f pages has s above h (NodeData-F.Inner b v x) l st = absurd l

kind-leads : (f : Store) (pages : ℕ → NewNodeValue → Type 0) → ((b : ℕ) (n : NewNodeValue) → f b ≡ Some n → pages b n) → (k : ℕ) (s : ℤ) (above : List Point → Bool) (h : Past) (d : NodeData-F NodeData Link Kept Slots) → ByKind (λ v ps. IsLeaf (suc k) s above h v ps) (λ v x. IsInner k s above h v x × HasChildren k s h x) d → ByBlock (IsStoredLeaf f (record { start = s; height = suc k })) (λ b v x. IsStoredInner f (record { start = s; height = suc k }) b v x (λ i. IsStored f k (slot_start k s i) (child_in x i))) d → ((x : Slots) (i : ℕ) → IsChild k (slot_start k s i) (is_inner (suc k) s) h (child_in x i) → IsStored f k (slot_start k s i) (child_in x i) → Leads pages k (slot_start k s i) (is_inner (suc k) s) h (block_of (child_in x i))) → LeadsToNode pages (suc k) s above h (block_of_kind d) (λ i link. Leads pages k (slot_start k s i) (is_inner (suc k) s) h link)
kind-leads f pages has k s above h (NodeData-F.Leaf b v ps) l st on =
    leaf-leads f pages has (suc k) s above h b v ps.items (λ i link. Leads pages k (slot_start k s i) (is_inner (suc k) s) h link) l st
kind-leads f pages has k s above h (NodeData-F.Inner b v x) n st on =
    let many = n.0.many in
    record {
      points = omega arith;
      some = st.some;
      links = λ i. block_of (child_in x i);
      is = has b (node_to (λ i. block_of (child_in x i)) (suc k) s above h) (st.is ∙ ap Some (inner-page (λ i. block_of (child_in x i)) k s above h v x n.0 (λ i lt. refl)));
      each = λ _ i lt. (st.lower i lt, on x i (n.1 i lt) (st.each i lt));
    }

-- The root of a stored tree leads to the nodes of its past.
pub stored-leads : (f : Store) (pages : ℕ → NewNodeValue → Type 0) → ((b : ℕ) (n : NewNodeValue) → f b ≡ Some n → pages b n) → (k : ℕ) (s : ℤ) (above : List Point → Bool) (h : Past) (child : Option NodeData) → IsChild k s above h child → IsStored f k s child → Leads pages k s above h (block_of child)
stored-leads f pages has zero s above h None holds st = inl (record { none = holds; is = refl })
stored-leads f pages has (suc k) s above h None holds st = inl (record { none = holds; is = refl })
stored-leads f pages has zero s above h (Some d) holds st = inr (zero-leads f pages has s above h (out-NodeData d) holds st)
stored-leads f pages has (suc k) s above h (Some d) holds st =
    inr (kind-leads f pages has k s above h (out-NodeData d) holds st (λ x i c t. stored-leads f pages has k (slot_start k s i) (is_inner (suc k) s) h (child_in x i) c t))

-- ---- blocks that keep their nodes

-- Where the blocks below n keep their nodes, what is below n leads on.
pub leads-along : (pages after : ℕ → NewNodeValue → Type 0) (n : ℕ) → ((b : ℕ) (p : NewNodeValue) → b < n → pages b p → after b p) → (k : ℕ) (s : ℤ) (above : List Point → Bool) (h : Past) (block : ℕ) → block < n → Leads pages k s above h block → Leads after k s above h block
leads-along pages after n keeps zero s above h block low leads =
    elim leads [
      | inl none ↦ inl none
      | inr to ↦ inr (record {
        points = to.points;
        some = to.some;
        links = to.links;
        is = keeps block (node_to to.links zero s above h) low to.is;
        each = to.each;
      })
    ]
leads-along pages after n keeps (suc k) s above h block low leads =
    elim leads [
      | inl none ↦ inl none
      | inr to ↦ inr (record {
        points = to.points;
        some = to.some;
        links = to.links;
        is = keeps block (node_to to.links (suc k) s above h) low to.is;
        each = λ many i lt.
            let next = to.each many i lt in
            let less = next.0 in
            (next.0, leads-along pages after n keeps k (slot_start k s i) (is_inner (suc k) s) h (to.links i) (omega arith) next.1);
      })
    ]

-- ---- what was read where a root leads

kind-total : (k : ℕ) (s : ℤ) (above : List Point → Bool) (h : Past) (d : NodeData-F NodeData Link Kept Slots) → ByKind (λ v ps. IsLeaf (suc k) s above h v ps) (λ v x. IsInner k s above h v x × HasChildren k s h x) d → total_of_kind d ≡ agg (points_of (suc k) s (bag h))
kind-total k s above h (NodeData-F.Leaf b v ps) l = ap agg l.same
kind-total k s above h (NodeData-F.Inner b v x) n = total-of k s h x n.0.all

zero-total : (s : ℤ) (above : List Point → Bool) (h : Past) (d : NodeData-F NodeData Link Kept Slots) → ByKind (λ v ps. IsLeaf zero s above h v ps) (λ v x. ⊥) d → total_of_kind d ≡ agg (points_of zero s (bag h))
zero-total s above h (NodeData-F.Leaf b v ps) l = ap agg l.same
zero-total s above h (NodeData-F.Inner b v x) n = absurd n

-- The aggregate of a child is that of its points.
pub child-total : (k : ℕ) (s : ℤ) (above : List Point → Bool) (h : Past) (child : Option NodeData) → IsChild k s above h child → total_of child ≡ agg (points_of k s (bag h))
child-total k s above h None holds = sym (ap agg holds)
child-total zero s above h (Some d) holds = zero-total s above h (out-NodeData d) holds
child-total (suc k) s above h (Some d) holds = kind-total k s above h (out-NodeData d) holds

-- A page with a slot is that of an inner node.
has-slot : (t : Bool) (xs : List Slot) (page : List Slot) (P : Slot → Type 0) → page ≡ cond t xs [] → MatchOption (slice_get page 0) ⊥ P → t ≡ true
has-slot true xs page P e m = refl
has-slot false xs page P e m = absurd (subst (λ ys. MatchOption (slice_get ys 0) ⊥ P) e m)

no-slot : (t : Bool) (xs : List Slot) → [] ≡ cond t xs [] → 0 < length xs → t ≡ false
no-slot true xs e some = let none = ap (length {A = Slot}) e in absurd (omega arith)
no-slot false xs e some = refl

-- A node that was read is not in block 0.
not-zero : (f : Store) (span : SpanValue) (Q : ℕ → ℕ → Slots → Type 0) → ((b v : ℕ) (x : Slots) → Q b v x → 1 ≤ b) → (d : NodeData-F NodeData Link Kept Slots) → ByBlock (IsReadLeaf f span) Q d → block_of_kind d ≡ 0 → ⊥
not-zero f span Q least (NodeData-F.Leaf b v ps) read e = let some = read.some in absurd (omega arith)
not-zero f span Q least (NodeData-F.Inner b v x) read e = let some = least b v x read in absurd (omega arith)

-- A leaf that was read where a root leads.
leaf-led : (pages : ℕ → NewNodeValue → Type 0) → ((b : ℕ) (p q : NewNodeValue) → pages b p → pages b q → p ≡ q) → (f : Store) → ((b : ℕ) (n : NewNodeValue) → f b ≡ Some n → pages b n) → (k : ℕ) (s : ℤ) (above : List Point → Bool) (h : Past) (b v : ℕ) (ps : List Point) (On : ℕ → ℕ → Type 0) → IsReadLeaf f (record { start = s; height = k }) b v ps → LeadsToNode pages k s above h b On → IsLeaf k s above h v ps
leaf-led pages once f has zero s above h b v ps On read to =
    let e = once b (leaf_node (record { start = s; height = zero }) v ps) (node_to to.links zero s above h) (has b _ read.is) to.is in
    record {
      same = ap (λ (n : NewNodeValue). n.points) e;
      some = read.any;
      few = read.few;
      version = ap (λ (n : NewNodeValue). n.version) e;
    }
leaf-led pages once f has (suc k) s above h b v ps On read to =
    let e = once b (leaf_node (record { start = s; height = suc k }) v ps) (node_to to.links (suc k) s above h) (has b _ read.is) to.is in
    let long = items-length 64 (λ i. slot_to (to.links i) (slot_of_points (suc k) s k (slot_start k s i) h)) in
    let no = no-slot (is_inner (suc k) s (bag h)) (slots_to to.links k s h) (ap (λ (n : NewNodeValue). n.slots) e) (omega arith) in
    record {
      same = ap (λ (n : NewNodeValue). n.points) e ∙ ap (λ t. cond t [] (points_of (suc k) s (bag h))) no;
      some = read.any;
      few = read.few;
      version = ap (λ (n : NewNodeValue). n.version) e;
    }

few-or-many : (k : ℕ) (s : ℤ) (b : List Point) → is_inner k s b ≡ true → LEAF_POINTS < length (points_of k s b)
few-or-many k s b e = grind (arith, nat_tests)

-- What is known of an inner node that was read where a root leads.
pub record IsInnerLed (f : Store) (k : ℕ) (s : ℤ) (h : Past) (b v : ℕ) (x : Slots) (links : ℕ → ℕ) : Type 0 where
  pub many : LEAF_POINTS < length (points_of (suc k) s (bag h))
  pub slots : (i : ℕ) → i < 64 → slot_in x i ≡ record { agg = total_of (child_in x i); version = slot_version (suc k) s k (slot_start k s i) h; child = 0 }
  pub same : (i : ℕ) → i < 64 → links i ≡ block_of (child_in x i)

inner-led : (f : Store) (pages : ℕ → NewNodeValue → Type 0) → ((b : ℕ) (p q : NewNodeValue) → pages b p → pages b q → p ≡ q) → ((b : ℕ) (n : NewNodeValue) → f b ≡ Some n → pages b n) → (k : ℕ) (s : ℤ) (above : List Point → Bool) (h : Past) (b v : ℕ) (x : Slots) (Sub : ℕ → Type 0) (On : ℕ → ℕ → Type 0) (read : IsReadInner f (record { start = s; height = suc k }) b v x Sub) (to : LeadsToNode pages (suc k) s above h b On) → IsInnerLed f k s h b v x to.links
inner-led f pages once has k s above h b v x Sub On read to =
    let e = once b read.page (node_to to.links (suc k) s above h) (has b read.page read.is) to.is in
    let yes = has-slot (is_inner (suc k) s (bag h)) (slots_to to.links k s h) read.page.slots _ (ap (λ (n : NewNodeValue). n.slots) e) (read.its_slots 0 (omega arith)) in
    let all : read.page.slots ≡ slots_to to.links k s h = ap (λ (n : NewNodeValue). n.slots) e ∙ ap (λ t. cond t (slots_to to.links k s h) []) yes in
    let at = λ (i : ℕ) (lt : i < 64). subst (λ o. IsSlotRead o (slot_in x i) (child_in x i)) (ap (λ (ys : List Slot). slice_get ys i) all ∙ items-get 64 (λ j. slot_to (to.links j) (slot_of_points (suc k) s k (slot_start k s j) h)) i lt) (read.its_slots i lt) in
    record { many = few-or-many (suc k) s (bag h) yes; slots = λ i lt. (at i lt).0; same = λ i lt. (at i lt).1 }

inner-is : (f : Store) (pages : ℕ → NewNodeValue → Type 0) → ((b : ℕ) (p q : NewNodeValue) → pages b p → pages b q → p ≡ q) → ((b : ℕ) (n : NewNodeValue) → f b ≡ Some n → pages b n) → (k : ℕ) (s : ℤ) (above : List Point → Bool) (h : Past) (b v : ℕ) (x : Slots) (Sub : ℕ → Type 0) (On : ℕ → ℕ → Type 0) (read : IsReadInner f (record { start = s; height = suc k }) b v x Sub) (to : LeadsToNode pages (suc k) s above h b On) → HasChildren k s h x → IsInner k s above h v x
inner-is f pages once has k s above h b v x Sub On read to each =
    let known = inner-led f pages once has k s above h b v x Sub On read to in
    let e = once b read.page (node_to to.links (suc k) s above h) (has b read.page read.is) to.is in
    record {
      many = known.many;
      version = sym read.its_version ∙ ap (λ (n : NewNodeValue). n.version) e;
      all = record {
        each = λ i lt. known.slots i lt ∙ slot-by _ _ _ _ _ _ (child-total k (slot_start k s i) (is_inner (suc k) s) h (child_in x i) (each i lt)) refl refl;
      };
    }

zero-led : (f : Store) (pages : ℕ → NewNodeValue → Type 0) → ((b : ℕ) (p q : NewNodeValue) → pages b p → pages b q → p ≡ q) → ((b : ℕ) (n : NewNodeValue) → f b ≡ Some n → pages b n) → (s : ℤ) (above : List Point → Bool) (h : Past) (d : NodeData-F NodeData Link Kept Slots) (On : ℕ → ℕ → Type 0) → ByBlock (IsReadLeaf f (record { start = s; height = zero })) (λ b v x. ⊥) d → LeadsToNode pages zero s above h (block_of_kind d) On → ByKind (λ v ps. IsLeaf zero s above h v ps) (λ v x. ⊥) d
zero-led f pages once has s above h (NodeData-F.Leaf b v ps) On read to =
    leaf-led pages once f has zero s above h b v ps.items On read to
zero-led f pages once has s above h (NodeData-F.Inner b v x) On read to = absurd read

kind-led : (f : Store) (pages : ℕ → NewNodeValue → Type 0) → ((b : ℕ) (p q : NewNodeValue) → pages b p → pages b q → p ≡ q) → ((b : ℕ) (n : NewNodeValue) → f b ≡ Some n → pages b n) → (k : ℕ) (s : ℤ) (above : List Point → Bool) (h : Past) (d : NodeData-F NodeData Link Kept Slots) → ByBlock (IsReadLeaf f (record { start = s; height = suc k })) (λ b v x. IsReadInner f (record { start = s; height = suc k }) b v x (λ i. IsRead f k (slot_start k s i) (child_in x i))) d → LeadsToNode pages (suc k) s above h (block_of_kind d) (λ i link. Leads pages k (slot_start k s i) (is_inner (suc k) s) h link) → ((x : Slots) (i : ℕ) → IsRead f k (slot_start k s i) (child_in x i) → Leads pages k (slot_start k s i) (is_inner (suc k) s) h (block_of (child_in x i)) → IsChild k (slot_start k s i) (is_inner (suc k) s) h (child_in x i)) → ByKind (λ v ps. IsLeaf (suc k) s above h v ps) (λ v x. IsInner k s above h v x × HasChildren k s h x) d
kind-led f pages once has k s above h (NodeData-F.Leaf b v ps) read to on =
    leaf-led pages once f has (suc k) s above h b v ps.items (λ i link. Leads pages k (slot_start k s i) (is_inner (suc k) s) h link) read to
kind-led f pages once has k s above h (NodeData-F.Inner b v x) read to on =
    let Sub = λ (i : ℕ). IsRead f k (slot_start k s i) (child_in x i) in
    let On = λ (i link : ℕ). Leads pages k (slot_start k s i) (is_inner (suc k) s) h link in
    let known = inner-led f pages once has k s above h b v x Sub On read to in
    let each = λ (i : ℕ) (lt : i < 64). on x i (read.each i lt) (subst (On i) (known.same i lt) (to.each known.many i lt).1) in
    (inner-is f pages once has k s above h b v x Sub On read to each, each)

-- A tree that was read where a root leads is that of the past.
pub read-led : (f : Store) (pages : ℕ → NewNodeValue → Type 0) → ((b : ℕ) (p q : NewNodeValue) → pages b p → pages b q → p ≡ q) → ((b : ℕ) (n : NewNodeValue) → f b ≡ Some n → pages b n) → (k : ℕ) (s : ℤ) (above : List Point → Bool) (h : Past) (child : Option NodeData) → IsRead f k s child → Leads pages k s above h (block_of child) → IsChild k s above h child
read-led f pages once has zero s above h None read leads =
    elim leads [ inl none ↦ none.none | inr to ↦ let some = to.some in absurd (omega arith) ]
read-led f pages once has (suc k) s above h None read leads =
    elim leads [ inl none ↦ none.none | inr to ↦ let some = to.some in absurd (omega arith) ]
read-led f pages once has zero s above h (Some d) read leads =
    elim leads [
      | inl none ↦ absurd (not-zero f (record { start = s; height = zero }) (λ b v x. ⊥) (λ b v x y. absurd y) (out-NodeData d) read none.is)
      | inr to ↦ zero-led f pages once has s above h (out-NodeData d) (λ i link. Unit {0}) read to
    ]
read-led f pages once has (suc k) s above h (Some d) read leads =
    elim leads [
      | inl none ↦ absurd (not-zero f (record { start = s; height = suc k }) _ (λ b v x r. r.some) (out-NodeData d) read none.is)
      | inr to ↦ kind-led f pages once has k s above h (out-NodeData d) read to (λ x i r l. read-led f pages once has k (slot_start k s i) (is_inner (suc k) s) h (child_in x i) r l)
    ]

-- What was read where a root leads is stored.
zero-kept : (f : Store) (s : ℤ) (d : NodeData-F NodeData Link Kept Slots) → ByBlock (IsReadLeaf f (record { start = s; height = zero })) (λ b v x. ⊥) d → ByBlock (IsStoredLeaf f (record { start = s; height = zero })) (λ b v x. ⊥) d
zero-kept f s (NodeData-F.Leaf b v ps) read = record { some = read.some; is = read.is }
zero-kept f s (NodeData-F.Inner b v x) read = absurd read

kind-kept : (f : Store) (pages : ℕ → NewNodeValue → Type 0) → ((b : ℕ) (p q : NewNodeValue) → pages b p → pages b q → p ≡ q) → ((b : ℕ) (n : NewNodeValue) → f b ≡ Some n → pages b n) → (k : ℕ) (s : ℤ) (above : List Point → Bool) (h : Past) (d : NodeData-F NodeData Link Kept Slots) → ByBlock (IsReadLeaf f (record { start = s; height = suc k })) (λ b v x. IsReadInner f (record { start = s; height = suc k }) b v x (λ i. IsRead f k (slot_start k s i) (child_in x i))) d → LeadsToNode pages (suc k) s above h (block_of_kind d) (λ i link. Leads pages k (slot_start k s i) (is_inner (suc k) s) h link) → ((x : Slots) (i : ℕ) → IsRead f k (slot_start k s i) (child_in x i) → Leads pages k (slot_start k s i) (is_inner (suc k) s) h (block_of (child_in x i)) → IsStored f k (slot_start k s i) (child_in x i)) → ByBlock (IsStoredLeaf f (record { start = s; height = suc k })) (λ b v x. IsStoredInner f (record { start = s; height = suc k }) b v x (λ i. IsStored f k (slot_start k s i) (child_in x i))) d
kind-kept f pages once has k s above h (NodeData-F.Leaf b v ps) read to on =
    record { some = read.some; is = read.is }
kind-kept f pages once has k s above h (NodeData-F.Inner b v x) read to on =
    let Sub = λ (i : ℕ). IsRead f k (slot_start k s i) (child_in x i) in
    let On = λ (i link : ℕ). Leads pages k (slot_start k s i) (is_inner (suc k) s) h link in
    let known = inner-led f pages once has k s above h b v x Sub On read to in
    let leads = λ (i : ℕ) (lt : i < 64). subst (On i) (known.same i lt) (to.each known.many i lt).1 in
    let each = λ (i : ℕ) (lt : i < 64). read-led f pages once has k (slot_start k s i) (is_inner (suc k) s) h (child_in x i) (read.each i lt) (leads i lt) in
    let inner = inner-is f pages once has k s above h b v x Sub On read to each in
    let e = once b read.page (node_to to.links (suc k) s above h) (has b read.page read.is) to.is in
    record {
      some = read.some;
      is = read.is ∙ ap Some (e ∙ sym (inner-page to.links k s above h v x inner known.same));
      lower = λ i lt. subst (λ m. m < b) (known.same i lt) (to.each known.many i lt).0;
      each = λ i lt. on x i (read.each i lt) (leads i lt);
    }

pub read-stored : (f : Store) (pages : ℕ → NewNodeValue → Type 0) → ((b : ℕ) (p q : NewNodeValue) → pages b p → pages b q → p ≡ q) → ((b : ℕ) (n : NewNodeValue) → f b ≡ Some n → pages b n) → (k : ℕ) (s : ℤ) (above : List Point → Bool) (h : Past) (child : Option NodeData) → IsRead f k s child → Leads pages k s above h (block_of child) → IsStored f k s child
read-stored f pages once has zero s above h None read leads = tt
read-stored f pages once has (suc k) s above h None read leads = tt
read-stored f pages once has zero s above h (Some d) read leads = zero-kept f s (out-NodeData d) read
read-stored f pages once has (suc k) s above h (Some d) read leads =
    elim leads [
      | inl none ↦ absurd (not-zero f (record { start = s; height = suc k }) _ (λ b v x r. r.some) (out-NodeData d) read none.is)
      | inr to ↦ kind-kept f pages once has k s above h (out-NodeData d) read to (λ x i r l. read-stored f pages once has k (slot_start k s i) (is_inner (suc k) s) h (child_in x i) r l)
    ]
