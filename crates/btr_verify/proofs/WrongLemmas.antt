-- The way to the first wrong node: a node is right with all nodes below it, or the first wrong one is found.
use Rattle.std.specs.Prelude.{◌≡◌, ◌⊎◌, ℕ, ◌<◌, ◌≤◌, true, false, List, [], ◌∷◌, length, slice_get, Option, Some, None, IfSome}
use Rattle.std.proofs.Common.{zero, suc, refl, sym, arith, subst, inl, inr}
use Rattle.std.proofs.Math.Nat.{eq-or-lt_of_le}
use Rattle.std.proofs.lemmas.Bool.{cases_lt}
use Rattle.std.proofs.lemmas.Option.{slice_get_past}
use Rattle.btr_base.specs.declared.limits.TheConstants.{FIRST}
use Rattle.btr_base.specs.declared.point.Point.{Point}
use Rattle.btr_base.specs.Span.{SpanValue, slot_of}
use Rattle.btr_tree.specs.declared.node.Slot.{Slot}
use Rattle.btr_tree.specs.History.{Past, bag}
use Rattle.btr_tree.specs.Leads.{Leads}
use Rattle.btr_tree.specs.NewNodes.{NewNodeValue}
use Rattle.btr_tree.specs.Nodes.{points_of, has_points, is_node, above_root, node_version, up_to}
use Rattle.btr_tree.specs.Root.{root_part}
use Rattle.btr_tree.specs.Stored.{Store}
use Rattle.btr_verify.specs.Judged.{IsRising, version_in, IsIn, IsOwn, HasRight, IsRightSlot, AreRightBelow, IsPlacedNode}
use Rattle.btr_verify.specs.FirstWrong.{HasOwn, IsWrongHere, IsFirstWrong, IsFirstWrongIn}
use Rattle.btr_verify.proofs.AboveLemmas.{root-above}
use Rattle.btr_verify.proofs.DecidedLemmas.{decided-both, nat-decided, span-decided, own-decided}
use Rattle.btr_verify.proofs.FirstWrongLemmas.{own-slot}
use Rattle.btr_verify.proofs.OwnLemmas.{own-right, leads-from}

-- Each fact below n holds, or there is a first of them in whose place something else holds.
record IsFirstOther (n : ℕ) (P Q : ℕ → Type 0) : Type 0 where
  pub at : ℕ
  pub below : at < n
  pub before : (j : ℕ) → j < at → P j
  pub other : Q at

all-or-first : (n : ℕ) (P Q : ℕ → Type 0) → ((i : ℕ) → i < n → P i ⊎ Q i) → ((i : ℕ) → i < n → P i) ⊎ IsFirstOther n P Q
all-or-first zero P Q each = inl (λ i lt. absurd (omega arith))
all-or-first (suc n) P Q each =
    elim (all-or-first n P Q (λ i lt. each i (omega arith))) [
      | inr first ↦ let lt = first.below in inr (record { at = first.at; below = omega arith; before = first.before; other = first.other })
      | inl all ↦ elim (each n (omega arith)) [
        | inr other ↦ inr (record { at = n; below = omega arith; before = all; other = other })
        | inl last ↦ inl (λ i lt. let le : i ≤ n = omega arith in elim (eq-or-lt_of_le le) [
          | inl e ↦ subst P (sym e) last
          | inr less ↦ all i less
        ])
      ]
    ]

module _ (store : Store) (h : Past) (rising : IsRising h) (placed : (at : ℕ) (node : NewNodeValue) → IsIn store at node → IsPlacedNode at node) where
  Known : SpanValue → ℕ → ℕ → Type 0
  Known span version block = HasRight store h span version block ⊎ ((named : ℕ) × IsFirstWrong store h span version block named)

  same-node : (block : ℕ) (m n : NewNodeValue) → IsIn store block m → IsIn store block n → m ≡ n
  same-node block m n p q = cc

  -- The node in a block is the one that is to be there, with right fields, or the block is wrong.
  here : (span : SpanValue) (version block : ℕ) (o : Option NewNodeValue) → store block ≡ o → ((node : NewNodeValue) × HasOwn store h span version block node) ⊎ IsWrongHere store h span version block
  here span version block None e = inr (λ node own. none-in (store block) node own.stored e)
    where
      none-in : (o : Option NewNodeValue) (node : NewNodeValue) → o ≡ Some node → o ≡ None → ⊥
      none-in o node p q = absurd (cc)
  here span version block (Some node) e =
      elim (decided-both ((node.span ≡ span) × (node.version ≡ version)) (IsOwn h node) (decided-both (node.span ≡ span) (node.version ≡ version) (span-decided node.span span) (nat-decided node.version version)) (own-decided h node)) [
        | inl is ↦ inl (node, record { stored = e; its_span = is.0.0; its_version = is.0.1; own = is.1 })
        | inr is_not ↦ inr (λ other own. is_not (subst (λ (n : NewNodeValue). ((n.span ≡ span) × (n.version ≡ version)) × IsOwn h n) (same-node block other node own.stored e) ((own.its_span, own.its_version), own.own)))
      ]

  RightAt : SpanValue → NewNodeValue → ℕ → Type 0
  RightAt span node i = IfSome (slice_get node.slots i) (IsRightSlot store h span i)

  WrongAt : SpanValue → NewNodeValue → ℕ → Type 0
  WrongAt span node i = (slot : Slot) × (named : ℕ) × (slice_get node.slots i ≡ Some slot) × (0 < slot.agg.count) × IsFirstWrong store h (slot_of span i) slot.version slot.child named

  slot-known : (span : SpanValue) (node : NewNodeValue) (i : ℕ) (o : Option Slot) → slice_get node.slots i ≡ o → ((slot : Slot) → slice_get node.slots i ≡ Some slot → Known (slot_of span i) slot.version slot.child) → IfSome o (IsRightSlot store h span i) ⊎ WrongAt span node i
  unfolding Known WrongAt
  slot-known span node i None e known = inl tt
  slot-known span node i (Some slot) e known =
      elim (cases_lt 0 slot.agg.count) [
        | inr none ↦ inl (λ some. absurd (omega arith))
        | inl some ↦ elim (known slot e) [
          | inl right ↦ inl (λ _. right)
          | inr wrong ↦ inr (slot, wrong.0, e, some, wrong.1)
        ]
      ]

  -- What is known of a node whose children are known.
  node-known : (span : SpanValue) (version block : ℕ) (node : NewNodeValue) → HasOwn store h span version block node → ((i : ℕ) (slot : Slot) → slice_get node.slots i ≡ Some slot → Known (slot_of span i) slot.version slot.child) → Known span version block
  unfolding Known RightAt WrongAt
  node-known span version block node own known =
      elim (all-or-first (length node.slots) (RightAt span node) (WrongAt span node) (λ i lt. slot-known span node i (slice_get node.slots i) refl (known i))) [
        | inl all ↦
            let below : AreRightBelow store h node = λ i. subst (λ s. IfSome (slice_get node.slots i) (IsRightSlot store h s i)) (sym own.its_span) (each-right span node all i) in
            inl (record {
              node = node;
              its_span = own.its_span;
              its_version = own.its_version;
              right = own-right store h rising block node own.stored (placed block node own.stored) own.own below;
            })
        | inr first ↦
            let wrong = first.other in
            inr (
              wrong.1,
              (
                first.at ∷ wrong.4.0,
                record {
                  node = node;
                  here = own;
                  before = first.before;
                  slot = wrong.0;
                  is = wrong.2;
                  some = wrong.3;
                  next = wrong.4.1;
                },
              ),
            )
      ]
    where
      each-right : (span : SpanValue) (node : NewNodeValue) → ((i : ℕ) → i < length node.slots → IfSome (slice_get node.slots i) (IsRightSlot store h span i)) → (i : ℕ) → IfSome (slice_get node.slots i) (IsRightSlot store h span i)
      each-right span node all i =
          elim (cases_lt i (length node.slots)) [
            | inl lt ↦ all i lt
            | inr le ↦ subst (λ o. IfSome o (IsRightSlot store h span i)) (sym (slice_get_past node.slots i le)) tt
          ]

  slot-high : (span : SpanValue) (version block : ℕ) (node : NewNodeValue) → HasOwn store h span version block node → (i : ℕ) (slot : Slot) → slice_get node.slots i ≡ Some slot → 1 ≤ span.height
  slot-high span version block node own i slot at =
      subst (λ (x : SpanValue). 1 ≤ x.height) own.its_span (own-slot h node i slot own.own at).0

  -- A block has a right node of this span and version, or the first wrong node is found.
  known-at : (k : ℕ) (span : SpanValue) (version block : ℕ) → span.height ≤ k → Known span version block
  unfolding Known
  known-at zero span version block low =
      elim (here span version block (store block) refl) [
        | inr wrong ↦ inr (block, ([], (refl, wrong)))
        | inl own ↦ node-known span version block own.0 own.1 (λ i slot at. let high = slot-high span version block own.0 own.1 i slot at in absurd (omega arith))
      ]
  known-at (suc k) span version block low =
      elim (here span version block (store block) refl) [
        | inr wrong ↦ inr (block, ([], (refl, wrong)))
        | inl own ↦ node-known span version block own.0 own.1 (λ i slot at. let high = slot-high span version block own.0 own.1 i slot at in known-at k (slot_of span i) slot.version slot.child (omega arith))
      ]

  no-points : (b : List Point) → has_points b ≡ false → b ≡ []
  no-points [] e = refl
  no-points (p ∷ b) e = absurd (cc)

  -- The root of a version leads to the version's tree, or the first wrong node is found.
  pub known-root : (version block : ℕ) → Leads (IsIn store) 10 FIRST above_root (up_to version h) block ⊎ ((named : ℕ) × IsFirstWrongIn store h version block named)
  unfolding Known
  known-root version block =
      let g = up_to version h in
      let ps = points_of 10 FIRST (bag g) in
      elim (has_points ps) as (λ t. has_points ps ≡ t → Leads (IsIn store) 10 FIRST above_root g block ⊎ ((named : ℕ) × IsFirstWrongIn store h version block named)) [
        | false ↦ λ e. elim (cases_lt 0 block) [
          | inl some ↦ inr (block, inl (record { none = no-points ps e; some = some; is = refl }))
          | inr none ↦ inl (inl (record { none = no-points ps e; is = omega arith }))
        ]
        | true ↦ λ e.
            let node : is_node above_root 10 FIRST (bag g) ≡ true = e in
            elim (known-at 10 root_part (version_in root_part g) block (omega arith)) [
              | inl has ↦ inl (leads-from store h rising version 10 FIRST above_root root-above node block (subst (λ a. HasRight store h root_part (node_version a 10 FIRST g) block) root-above has))
              | inr wrong ↦ inr (wrong.0, inr (record { points = subst (λ a. is_node a 10 FIRST (bag g) ≡ true) (sym root-above) node; first = wrong.1 }))
            ]
      ] refl
