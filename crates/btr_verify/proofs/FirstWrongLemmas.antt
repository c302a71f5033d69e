-- Lemmas on the first wrong node of a version.
use Rattle.std.specs.Prelude.{◌≡◌, ℕ, ◌<◌, ◌≤◌, ℤ, Bool, true, false, cond, List, [], ◌∷◌, length, map, slice_get, Option, Some, None, IfSome}
use Rattle.std.proofs.Common.{zero, suc, refl, sym, ap, ◌∙◌, arith, subst, inl, inr}
use Rattle.std.proofs.lemmas.Bool.{cases_lt}
use Rattle.std.proofs.lemmas.Option.{slice_get-map}
use Rattle.std.specs.Option.{option_map}
use Rattle.btr_base.specs.declared.limits.TheConstants.{FIRST}
use Rattle.btr_base.specs.declared.point.Point.{Point}
use Rattle.btr_base.specs.Span.{SpanValue, IsSpan, slot_of}
use Rattle.btr_tree.specs.declared.node.Slot.{Slot}
use Rattle.btr_tree.specs.History.{Past, bag}
use Rattle.btr_tree.specs.Leads.{Leads}
use Rattle.btr_tree.specs.NewNodes.{NewNodeValue, bare, slots_of, new_node}
use Rattle.btr_tree.specs.Nodes.{points_of, is_inner, is_node, above_root, node_version, up_to}
use Rattle.btr_tree.specs.Packed.{without_address}
use Rattle.btr_tree.specs.Root.{root_part}
use Rattle.btr_tree.specs.Shape.{slot_start, slot_of_points}
use Rattle.btr_tree.specs.Stored.{Store}
use Rattle.btr_tree.proofs.RootLemmas.{root-aligned}
use Rattle.btr_verify.specs.Judged.{IsRising, above_of, is_node_in, version_in, IsIn, IsOwn, HasRight, IsRightSlot}
use Rattle.btr_verify.specs.FirstWrong.{WayGoesOn, IsFirstWrongOn, IsFirstWrongIn}
use Rattle.btr_verify.proofs.AboveLemmas.{root-above, slot-is_span}
use Rattle.btr_verify.proofs.OwnLemmas.{items-past, node-some, right-from, right-own}

-- ---- the slots of a node whose own fields are right

same-some : {X : Type 0} (o : Option X) (x y : X) → o ≡ Some x → o ≡ Some y → x ≡ y
same-some o x y p q = cc

none-there : {X : Type 0} (o : Option X) (x : X) → o ≡ Some x → o ≡ None → ⊥
none-there o x p q = absurd (cc)

bare-at : (xs ys : List Slot) (i : ℕ) (slot : Slot) → map without_address xs ≡ ys → slice_get xs i ≡ Some slot → slice_get ys i ≡ Some (without_address slot)
bare-at xs ys i slot e at =
    sym (ap (λ (zs : List Slot). slice_get zs i) e) ∙ slice_get-map without_address xs i ∙ ap (option_map without_address) at

cond-at : (t : Bool) (xs : List Slot) (i : ℕ) (slot : Slot) → slice_get (cond t xs []) i ≡ Some slot → slice_get xs i ≡ Some slot
cond-at true xs i slot e = e
cond-at false xs i slot e = absurd (cc)

-- A node with a slot is not one of the lowest, and has 64 slots.
slot-within : (k : ℕ) (s : ℤ) (above : List Point → Bool) (g : Past) (node : NewNodeValue) (i : ℕ) (slot : Slot) → bare node ≡ new_node k s above g → slice_get node.slots i ≡ Some slot → (1 ≤ k) × (i < 64)
slot-within zero s above g node i slot e at =
    absurd (none-there (slice_get [] i) (without_address slot) (bare-at node.slots [] i slot (ap (λ (n : NewNodeValue). n.slots) e) at) refl)
slot-within (suc k) s above g node i slot e at =
    let item = λ (j : ℕ). slot_of_points (suc k) s k (slot_start k s j) g in
    let there = cond-at (is_inner (suc k) s (bag g)) (slots_of k s g) i (without_address slot) (bare-at node.slots (cond (is_inner (suc k) s (bag g)) (slots_of k s g) []) i slot (ap (λ (n : NewNodeValue). n.slots) e) at) in (
      omega arith,
      elim (cases_lt i 64) [
        | inl lt ↦ lt
        | inr le ↦ absurd (none-there (slice_get (slots_of k s g) i) (without_address slot) there (items-past 64 item i le))
      ],
    )

pub own-slot : (h : Past) (node : NewNodeValue) (i : ℕ) (slot : Slot) → IsOwn h node → slice_get node.slots i ≡ Some slot → (1 ≤ node.span.height) × (i < 64)
own-slot h node i slot own at =
    slot-within node.span.height node.span.start (above_of node.span) (up_to node.version h) node i slot own.same at

module _ (store : Store) (h : Past) (rising : IsRising h) where
  one-in : (block : ℕ) (m n : NewNodeValue) → IsIn store block m → IsIn store block n → m ≡ n
  one-in block m n p q = same-some (store block) m n p q

  -- The span of a slot on the way.
  part-aligned : (span : SpanValue) (version block i : ℕ) (Next : Slot → Type 0) → IsSpan span → WayGoesOn store h span version block i Next → IsSpan (slot_of span i)
  part-aligned span version block i Next aligned on =
      let within = own-slot h on.node i on.slot on.here.own on.is in
      slot-is_span span i aligned (subst (λ (x : SpanValue). 1 ≤ x.height) on.here.its_span within.0) within.1

  -- A right node has right children.
  right-child : (span : SpanValue) (version block i : ℕ) (Next : Slot → Type 0) → IsSpan span → (on : WayGoesOn store h span version block i Next) → HasRight store h span version block → HasRight store h (slot_of span i) on.slot.version on.slot.child
  right-child span version block i Next aligned on has =
      let same = one-in block has.node on.node has.right.stored on.here.stored in
      let below = (right-own store h rising block has.node (subst IsSpan (sym has.its_span) aligned) has.right).1 in
      let at = ap (λ (n : NewNodeValue). slice_get n.slots i) same ∙ on.is in
      subst (λ x. HasRight store h (slot_of x i) on.slot.version on.slot.child) has.its_span (subst (λ o. IfSome o (IsRightSlot store h has.node.span i)) at (below i) on.some)

  -- Where there is a first wrong node, the node is not right.
  pub wrong-not_right : (way : List ℕ) (span : SpanValue) (version block named : ℕ) → IsSpan span → IsFirstWrongOn store h span version block way named → HasRight store h span version block → ⊥
  wrong-not_right [] span version block named aligned wrong has =
      wrong.1 has.node (record {
        stored = has.right.stored;
        its_span = has.its_span;
        its_version = has.its_version;
        own = (right-own store h rising block has.node (subst IsSpan (sym has.its_span) aligned) has.right).0;
      })
  wrong-not_right (i ∷ way) span version block named aligned wrong has =
      let Next = λ (slot : Slot). IsFirstWrongOn store h (slot_of span i) slot.version slot.child way named in
      wrong-not_right way (slot_of span i) wrong.slot.version wrong.slot.child named (part-aligned span version block i Next aligned wrong) wrong.next (right-child span version block i Next aligned wrong has)

  -- A slot on one way is not before that of another.
  not-before : (span : SpanValue) (version block i j : ℕ) (way : List ℕ) (named : ℕ) (Next : Slot → Type 0) → IsSpan span → WayGoesOn store h span version block i (λ slot. IsFirstWrongOn store h (slot_of span i) slot.version slot.child way named) → WayGoesOn store h span version block j Next → i < j → ⊥
  not-before span version block i j way named Next aligned on other lt =
      let same = one-in block other.node on.node other.here.stored on.here.stored in
      let at = ap (λ (n : NewNodeValue). slice_get n.slots i) same ∙ on.is in
      let right = subst (λ o. IfSome o (IsRightSlot store h span i)) at (other.before i lt) on.some in
      wrong-not_right way (slot_of span i) on.slot.version on.slot.child named (part-aligned span version block i (λ slot. IsFirstWrongOn store h (slot_of span i) slot.version slot.child way named) aligned on) on.next right

  -- Two first wrong nodes are in one block.
  pub one-wrong : (way path : List ℕ) (span : SpanValue) (version block a b : ℕ) → IsSpan span → IsFirstWrongOn store h span version block way a → IsFirstWrongOn store h span version block path b → a ≡ b
  one-wrong [] [] span version block a b aligned p q = p.0 ∙ sym q.0
  one-wrong [] (j ∷ path) span version block a b aligned p q = absurd (p.1 q.node q.here)
  one-wrong (i ∷ way) [] span version block a b aligned p q = absurd (q.1 p.node p.here)
  one-wrong (i ∷ way) (j ∷ path) span version block a b aligned p q =
      let One = λ (m : ℕ) (slot : Slot). IsFirstWrongOn store h (slot_of span m) slot.version slot.child way a in
      let Other = λ (m : ℕ) (slot : Slot). IsFirstWrongOn store h (slot_of span m) slot.version slot.child path b in
      elim (cases_lt i j) [
        | inl lt ↦ absurd (not-before span version block i j way a (Other j) aligned p q lt)
        | inr le ↦ elim (cases_lt j i) [
          | inl lt ↦ absurd (not-before span version block j i path b (One i) aligned q p lt)
          | inr ge ↦
              let e : j ≡ i = omega arith in
              let same = one-in block q.node p.node q.here.stored p.here.stored in
              let at = ap (λ (n : NewNodeValue). slice_get n.slots j) same ∙ ap (slice_get p.node.slots) e ∙ p.is in
              let slot = same-some (slice_get q.node.slots j) q.slot p.slot q.is at in
              let next = subst (λ (x : Slot). IsFirstWrongOn store h (slot_of span i) x.version x.child path b) slot (subst (λ m. IsFirstWrongOn store h (slot_of span m) q.slot.version q.slot.child path b) e q.next) in
              one-wrong way path (slot_of span i) p.slot.version p.slot.child a b (part-aligned span version block i (One i) aligned p) p.next next
        ]
      ]

  -- ---- the root

  no-points : (g : Past) → points_of 10 FIRST (bag g) ≡ [] → is_node_in root_part g ≡ true → ⊥
  no-points g none node =
      let long = ap (length {A = Point}) none in
      let some = node-some 10 FIRST (above_of root_part) (bag g) node in
      absurd (omega arith)

  pub wrong-leads_not : (version block named : ℕ) → IsFirstWrongIn store h version block named → Leads (IsIn store) 10 FIRST above_root (up_to version h) block → ⊥
  wrong-leads_not version block named (inl root) leads =
      elim leads [
        | inl nowhere ↦ let some = root.some in let zero_at = nowhere.is in absurd (omega arith)
        | inr to ↦ let long = ap (length {A = Point}) root.none in let some = to.points in absurd (omega arith)
      ]
  wrong-leads_not version block named (inr root) leads =
      let g = up_to version h in
      let here : is_node above_root 10 FIRST (bag g) ≡ true = subst (λ a. is_node a 10 FIRST (bag g) ≡ true) root-above root.points in
      let has = right-from store h rising version 10 FIRST above_root root-above here block leads in
      wrong-not_right root.first.0 root_part (version_in root_part g) block named root-aligned root.first.1 (subst (λ a. HasRight store h root_part (node_version a 10 FIRST g) block) (sym root-above) has)

  pub one-wrong_in : (version block a b : ℕ) → IsFirstWrongIn store h version block a → IsFirstWrongIn store h version block b → a ≡ b
  one-wrong_in version block a b (inl p) (inl q) = p.is ∙ sym q.is
  one-wrong_in version block a b (inl p) (inr q) = absurd (no-points (up_to version h) p.none q.points)
  one-wrong_in version block a b (inr p) (inl q) = absurd (no-points (up_to version h) q.none p.points)
  one-wrong_in version block a b (inr p) (inr q) =
      one-wrong p.first.0 q.first.0 root_part (version_in root_part (up_to version h)) block a b root-aligned p.first.1 q.first.1
