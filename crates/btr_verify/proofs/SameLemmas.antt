-- Lemmas on the comparison of a stored node with one that was visited.
use Rattle.std.specs.Prelude.{◌≡◌, ◌↔◌, ℕ, nat_eq, ℤ, Bool, true, ◌&&◌, ◌==◌, cond, List, [], ◌∷◌, length, map, slice_get, Option, Some, None, IsTrue}
use Rattle.std.specs.Bool.{Decides}
use Rattle.std.specs.Cmp.Lexicographic.{pointwise}
use Rattle.std.specs.Option.{option_eq, option_map}
use Rattle.std.specs.Ordering.{int_eq}
use Rattle.std.proofs.Common.{zero, suc, refl, sym, ap, ◌∙◌, arith, subst, Bor, inl, inr}
use Rattle.std.proofs.lemmas.Bool.{cases_lt}
use Rattle.std.proofs.lemmas.Bool.Decides.{nat_tests}
use Rattle.std.proofs.lemmas.Int.{ints}
use Rattle.std.proofs.lemmas.Option.{slice_get-map, slice_get_past}
use Rattle.std.proofs.lemmas.List.{length-map}
use Rattle.std.proofs.lemmas.Slice.Eq.{slice_eq-Decides}
use Rattle.btr_base.specs.Agg.{AggValue}
use Rattle.btr_base.specs.declared.point.Point.{Point}
use Rattle.btr_base.specs.Point.{same_point}
use Rattle.btr_base.specs.Span.{SpanValue}
use Rattle.btr_base.proofs.PointLemmas.{same_point-true, same_point-refl}
use Rattle.btr_tree.specs.declared.node.Node.{Node}
use Rattle.btr_tree.specs.declared.node.Node.TheVariants.{Inner}
use Rattle.btr_tree.specs.declared.node.Slot.{Slot}
use Rattle.btr_tree.specs.declared.slots.Slots.{Slots}
use Rattle.btr_tree.specs.History.{Past, bag}
use Rattle.btr_tree.specs.NewNodes.{NewNodeValue, bare, slots_of, new_node}
use Rattle.btr_tree.specs.Nodes.{points_of}
use Rattle.btr_tree.specs.Packed.{without_address}
use Rattle.btr_tree.specs.Shape.{slot_start, slot_of_points, IsInner, HasSlots}
use Rattle.btr_tree.proofs.NewNodeLemmas.{new_node-by}
use Rattle.btr_tree.proofs.NodeLemmas.{IsBody, inner-is}
use Rattle.btr_tree.proofs.UntouchedNodeLemmas.{many-inner}
use Rattle.btr_verify.specs.Found.{IsNodeIn}
use Rattle.btr_verify.specs.Judged.{above_of}
use Rattle.btr_verify.specs.Same.{stored_node, IsSameNode, AreLeafFields, AreInnerFields, AreStoredSlots}
use Rattle.btr_verify.proofs.FieldLemmas.{pair-by, agg-by, slot-by}
use Rattle.btr_tree.proofs.LeadsLemmas.{items-get, items-length}
use Rattle.btr_verify.proofs.OwnLemmas.{items-past, each-same}

-- ---- slots

same-ints : (x y : ℤ) → int_eq x y ≡ true → x ≡ y
same-ints x y e = grind (arith, ints)

first-true : (a b : Bool) → (a && b) ≡ true → a ≡ true
first-true a b e = grind arith

second-true : (a b : Bool) → (a && b) ≡ true → b ≡ true
second-true a b e = grind arith

same-ends : (a b : Option (ℤ × ℤ)) → option_eq (λ x y. int_eq x.0 y.0 && int_eq x.1 y.1) a b ≡ true → a ≡ b
same-ends None None e = refl
same-ends None (Some y) e = absurd (cc)
same-ends (Some x) None e = absurd (cc)
same-ends (Some x) (Some y) e =
    ap Some (pair-by x.0 x.1 y.0 y.1 (same-ints x.0 y.0 (first-true (int_eq x.0 y.0) (int_eq x.1 y.1) e)) (same-ints x.1 y.1 (second-true (int_eq x.0 y.0) (int_eq x.1 y.1) e)))

same-agg : (a b : AggValue) → true ≡ ((a.count == b.count) && (int_eq a.total b.total && option_eq (λ x y. int_eq x.0 y.0 && int_eq x.1 y.1) a.ends b.ends)) → a ≡ b
same-agg a b e =
    let ends = option_eq (λ x y. int_eq x.0 y.0 && int_eq x.1 y.1) a.ends b.ends in
    let rest = second-true (a.count == b.count) (int_eq a.total b.total && ends) (sym e) in
    let count : a.count ≡ b.count = same-numbers a.count b.count (first-true (a.count == b.count) (int_eq a.total b.total && ends) (sym e)) in
    agg-by a.count b.count a.total b.total a.ends b.ends count (same-ints a.total b.total (first-true (int_eq a.total b.total) ends rest)) (same-ends a.ends b.ends (second-true (int_eq a.total b.total) ends rest))
  where
    same-numbers : (n m : ℕ) → (n == m) ≡ true → n ≡ m
    same-numbers n m e = grind (arith, nat_tests)

-- Two slots with the same aggregate have the same version exactly if they are the same without their addresses.
pub same-slot : (x y : Slot) → true ≡ ((x.agg.count == y.agg.count) && (int_eq x.agg.total y.agg.total && option_eq (λ a b. int_eq a.0 b.0 && int_eq a.1 b.1) x.agg.ends y.agg.ends)) → IsTrue (nat_eq x.version y.version) ↔ (without_address x ≡ without_address y)
same-slot x y e = (
  λ same. slot-by x.agg y.agg x.version y.version 0 0 (same-agg x.agg y.agg e) (same-number x.version y.version same) refl,
  λ same. is-same x.version y.version (ap (λ (s : Slot). s.version) same),
)
  where
    same-number : (n m : ℕ) → IsTrue (nat_eq n m) → n ≡ m
    same-number n m e = grind (arith, nat_tests)

    is-same : (n m : ℕ) → n ≡ m → IsTrue (nat_eq n m)
    is-same n m e = grind (arith, nat_tests)

-- ---- the points of a leaf

pub no-items : (slots : List Slot) → true ≡ (length slots == 0) → slots ≡ []
no-items [] e = refl
no-items (x ∷ slots) e = absurd (has-items (length slots) e)
  where
    has-items : (n : ℕ) → true ≡ (suc n == 0) → ⊥
    has-items n e = grind (arith, nat_tests)

point-decides : (p q : Point) → Decides (same_point p q) (p ≡ q)
point-decides p q = (λ e. same_point-true p q e, λ e. subst (λ r. same_point p r ≡ true) e (same_point-refl p))

-- What the comparison of a leaf's points says.
pub leaf-fields : (own : ℕ) (all : List Point) (version : ℕ) (points : List Point) (slots : List Slot) (r : Bool) → own ≡ version → slots ≡ [] → r ≡ pointwise same_point all points → IsTrue r ↔ AreLeafFields own all version points slots
leaf-fields own all version points slots r same none is =
    let decides = slice_eq-Decides point-decides all points r is in (
      λ e. record { same_version = same; same_points = decides.0 e; none = none },
      λ fields. decides.1 fields.same_points,
    )

-- ---- the node of a span, and its fields

inner-new : (k : ℕ) (s : ℤ) (above : List Point → Bool) (h : Past) (v : ℕ) (x : Slots) → IsInner k s above h v x → new_node (suc k) s above h ≡ record { span = record { start = s; height = suc k }; version = v; points = []; slots = slots_of k s h }
inner-new k s above h v x is =
    let many = many-inner (suc k) s (bag h) is.many in
    sym (new_node-by _ _ _ _ _ _ _ is.version (sym (ap (λ t. cond t [] (points_of (suc k) s (bag h))) many)) (sym (ap (λ t. cond t (slots_of k s h) []) many)))

stored-slots : (k : ℕ) (s : ℤ) (h : Past) (x : Slots) (slots : List Slot) → HasSlots k s h x → AreStoredSlots x slots → map without_address slots ≡ slots_of k s h
stored-slots k s h x slots has are =
    let item = λ (i : ℕ). slot_of_points (suc k) s k (slot_start k s i) h in
    let long = are.all in
    each-same (map without_address slots) (slots_of k s h) (λ i. slice_get-map without_address slots i ∙ elim (cases_lt i 64) [
      | inl lt ↦ are.each i lt ∙ ap (λ (y : Slot). Some (without_address y)) (has.each i lt) ∙ sym (items-get 64 item i lt)
      | inr le ↦ ap (option_map without_address) (slice_get_past slots i (omega arith)) ∙ sym (items-past 64 item i le)
    ])

slots-stored : (k : ℕ) (s : ℤ) (h : Past) (x : Slots) (slots : List Slot) → HasSlots k s h x → map without_address slots ≡ slots_of k s h → AreStoredSlots x slots
slots-stored k s h x slots has e =
    let item = λ (i : ℕ). slot_of_points (suc k) s k (slot_start k s i) h in
    record {
      all = sym (length-map slots without_address) ∙ ap (length {A = Slot}) e ∙ items-length 64 item;
      each = λ i lt. sym (slice_get-map without_address slots i) ∙ ap (λ (ys : List Slot). slice_get ys i) e ∙ items-get 64 item i lt ∙ ap (λ (y : Slot). Some (without_address y)) (sym (has.each i lt));
    }

-- A stored node is that of an inner node exactly if it has the inner node's fields.
inner-same : (k : ℕ) (s : ℤ) (above : List Point → Bool) (h : Past) (v : ℕ) (x : Slots) (version : ℕ) (points : List Point) (slots : List Slot) → IsInner k s above h v x → AreInnerFields v x version points slots ↔ (bare (stored_node (record { start = s; height = suc k }) version points slots) ≡ new_node (suc k) s above h)
inner-same k s above h v x version points slots inner =
    let is = inner-new k s above h v x inner in (
      λ fields. new_node-by _ _ _ _ _ _ _ (sym fields.same_version) fields.none (stored-slots k s h x slots inner.all fields.same_slots) ∙ sym is,
      λ e.
          let f = e ∙ is in
          record {
            same_version = sym (ap (λ (n : NewNodeValue). n.version) f);
            none = ap (λ (n : NewNodeValue). n.points) f;
            same_slots = slots-stored k s h x slots inner.all (ap (λ (n : NewNodeValue). n.slots) f);
          },
    )

both-ways : {P Q R : Type 0} → P ↔ Q → Q ↔ R → P ↔ R
both-ways p q = (λ x. q.0 (p.0 x), λ z. p.1 (q.1 z))

-- What is said of an inner node that was visited.
inner-at : (k : ℕ) (s : ℤ) (above : List Point → Bool) (h : Past) (v : ℕ) (x : Slots) (version : ℕ) (points : List Point) (slots : List Slot) → IsBody k s above h v x → AreInnerFields v x version points slots ↔ (bare (stored_node (record { start = s; height = k }) version points slots) ≡ new_node k s above h)
inner-at zero s above h v x version points slots body = absurd (let high = body.height in omega arith)
inner-at (suc k) s above h v x version points slots body =
    let same : body.below ≡ k = let high = body.height in omega arith in
    inner-same k s above h v x version points slots (subst (λ j. IsInner j s above h v x) same body.inner)

pub inner-decides : (span : SpanValue) (h : Past) (node : Node) (v : ℕ) (x : Bor Slots) (version : ℕ) (points : List Point) (slots : List Slot) (r : Bool) → node ≡ Inner v x → IsNodeIn span h node → IsTrue r ↔ AreInnerFields v x.now version points slots → IsTrue r ↔ IsSameNode span h version points slots
inner-decides span h node v x version points slots r e is fields =
    both-ways fields (inner-at span.height span.start (above_of span) h v x.now version points slots (inner-is span.height span.start (above_of span) h node v x e is.its_node))
