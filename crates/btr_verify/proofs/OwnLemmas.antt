-- Lemmas on stored nodes: what a right node has, and when a node is right.
use Rattle.std.specs.Prelude.{◌≡◌, ℕ, ◌<◌, ◌≤◌, ℤ, Bool, true, false, ◌&&◌, cond, List, [], ◌∷◌, ◌++◌, length, map, slice_get, Option, Some, None, IfSome}
use Rattle.std.specs.Option.{option_map}
use Rattle.std.proofs.Common.{zero, suc, refl, sym, ap, ◌∙◌, arith, subst, inl, inr}
use Rattle.std.proofs.lemmas.Bool.{cases_lt}
use Rattle.std.proofs.lemmas.Bool.Decides.{nat_tests}
use Rattle.std.proofs.lemmas.List.{map-append}
use Rattle.std.proofs.lemmas.Option.{slice_get-map, slice_get_past}
use Rattle.btr_base.specs.declared.limits.TheConstants.{LEAF_POINTS}
use Rattle.btr_base.specs.declared.point.Point.{Point}
use Rattle.btr_base.specs.Span.{SpanValue, IsSpan, slot_of}
use Rattle.btr_base.proofs.AggLemmas.{agg-count}
use Rattle.btr_tree.specs.declared.node.Slot.{Slot}
use Rattle.btr_tree.specs.History.{Past, bag}
use Rattle.btr_tree.specs.Leads.{slot_to, slots_to, node_to, LeadsToNode, Leads}
use Rattle.btr_tree.specs.NewNodes.{NewNodeValue, bare, concat_first, slots_of, new_node}
use Rattle.btr_tree.specs.Nodes.{points_of, has_points, is_inner, is_node, node_version, slot_version, up_to}
use Rattle.btr_tree.specs.Packed.{without_address}
use Rattle.btr_tree.specs.Shape.{slot_start, slot_of_points}
use Rattle.btr_tree.specs.Stored.{Store}
use Rattle.btr_tree.proofs.LeadsLemmas.{items-get, items-length}
use Rattle.btr_tree.proofs.NodeLemmas.{slot-part}
use Rattle.btr_tree.proofs.UntouchedNodeLemmas.{some-has, many-inner}
use Rattle.btr_tree.proofs.VersionLemmas.{node-slot}
use Rattle.btr_verify.specs.Judged.{IsRising, above_of, is_node_in, IsIn, LeadsIn, IsOwn, IsRight, HasRight, IsRightSlot, AreRightBelow, IsPlacedNode}
use Rattle.btr_verify.proofs.AboveLemmas.{slot-above}
use Rattle.btr_verify.proofs.FieldLemmas.{slot-by, node-by}
use Rattle.btr_verify.proofs.PastLemmas.{rising-up_to, up_to-version, node-then, one-version}

-- ---- lists

pub items-past : {X : Type 0} (n : ℕ) (g : ℕ → X) (i : ℕ) → n ≤ i → slice_get (concat_first n (λ j. g j ∷ [])) i ≡ None
items-past n g i le =
    let long = items-length n g in slice_get_past (concat_first n (λ j. g j ∷ [])) i (omega arith)

-- Two lists that have the same at each place are one.
pub each-same : {X : Type 0} (xs ys : List X) → ((i : ℕ) → slice_get xs i ≡ slice_get ys i) → xs ≡ ys
each-same [] [] same = refl
each-same [] (y ∷ ys) same = let first = same 0 in absurd (cc)
each-same (x ∷ xs) [] same = let first = same 0 in absurd (cc)
each-same (x ∷ xs) (y ∷ ys) same =
    let first : x ≡ y = let at = same 0 in cc in
    let rest : xs ≡ ys = each-same xs ys (λ i. same (suc i)) in
    cc

map-items : (n : ℕ) (links : ℕ → ℕ) (g : ℕ → Slot) → map without_address (concat_first n (λ i. slot_to (links i) (g i) ∷ [])) ≡ concat_first n (λ i. without_address (g i) ∷ [])
map-items zero links g = refl
map-items (suc n) links g =
    map-append without_address (concat_first n (λ i. slot_to (links i) (g i) ∷ [])) (slot_to (links n) (g n) ∷ [])
    ∙ ap (λ xs. xs ++ without_address (g n) ∷ []) (map-items n links g)

-- ---- the node to which a block leads

bare-cond : (t : Bool) (xs ys : List Slot) → map without_address xs ≡ ys → map without_address (cond t xs []) ≡ cond t ys []
bare-cond true xs ys e = e
bare-cond false xs ys e = refl

-- Without addresses it is the node of the span.
bare-node : (links : ℕ → ℕ) (k : ℕ) (s : ℤ) (above : List Point → Bool) (h : Past) → bare (node_to links k s above h) ≡ new_node k s above h
bare-node links zero s above h = refl
bare-node links (suc k) s above h =
    ap (λ xs. let n : NewNodeValue = record { span = record { start = s; height = suc k }; version = node_version above (suc k) s h; points = cond (is_inner (suc k) s (bag h)) [] (points_of (suc k) s (bag h)); slots = xs } in n) (bare-cond (is_inner (suc k) s (bag h)) (slots_to links k s h) (slots_of k s h) (map-items 64 links (λ i. slot_of_points (suc k) s k (slot_start k s i) h)))

node-span : (links : ℕ → ℕ) (k : ℕ) (s : ℤ) (above : List Point → Bool) (h : Past) → (node_to links k s above h).span ≡ record { start = s; height = k }
node-span links zero s above h = refl
node-span links (suc k) s above h = refl

node-version : (links : ℕ → ℕ) (k : ℕ) (s : ℤ) (above : List Point → Bool) (h : Past) → (node_to links k s above h).version ≡ node_version above k s h
node-version links zero s above h = refl
node-version links (suc k) s above h = refl

-- The node in a block that leads to a span with points.
record IsLed (pages : ℕ → NewNodeValue → Type 0) (k : ℕ) (s : ℤ) (above : List Point → Bool) (h : Past) (block : ℕ) : Type 0 where
  pub links : ℕ → ℕ
  pub is : pages block (node_to links k s above h)

is-led : (pages : ℕ → NewNodeValue → Type 0) (k : ℕ) (s : ℤ) (above : List Point → Bool) (h : Past) (block : ℕ) → 0 < length (points_of k s (bag h)) → Leads pages k s above h block → IsLed pages k s above h block
is-led pages zero s above h block some leads =
    elim leads [
      | inl none ↦ let long = ap (length {A = Point}) none.none in absurd (omega arith)
      | inr to ↦ record { links = to.links; is = to.is }
    ]
is-led pages (suc k) s above h block some leads =
    elim leads [
      | inl none ↦ let long = ap (length {A = Point}) none.none in absurd (omega arith)
      | inr to ↦ record { links = to.links; is = to.is }
    ]

one-node : (a b : Option NewNodeValue) (m n : NewNodeValue) → a ≡ b → a ≡ Some m → b ≡ Some n → m ≡ n
one-node a b m n e p q = cc

-- ---- a node of a version, at its own version

both-second : (a b : Bool) → (a && b) ≡ true → b ≡ true
both-second a b e = grind arith

has-some : (b : List Point) → has_points b ≡ true → 0 < length b
has-some [] e = absurd (cc)
has-some (p ∷ b) e = omega arith

pub node-some : (k : ℕ) (s : ℤ) (above : List Point → Bool) (b : List Point) → is_node above k s b ≡ true → 0 < length (points_of k s b)
node-some k s above b e = has-some (points_of k s b) (both-second (above b) (has_points (points_of k s b)) e)

module _ (store : Store) (h : Past) (rising : IsRising h) (v k : ℕ) (s : ℤ) (above : List Point → Bool) (its : above_of (record { start = s; height = k }) ≡ above) (node : is_node above k s (bag (up_to v h)) ≡ true) where
  -- The past up to the node's version.
  same-past : up_to (node_version above k s (up_to v h)) (up_to v h) ≡ up_to (node_version above k s (up_to v h)) h
  same-past = up_to-version (is_node above k s) k s v h rising

  -- A block that leads to a node has one that is right at its own version.
  pub right-from : (block : ℕ) → Leads (IsIn store) k s above (up_to v h) block → HasRight store h (record { start = s; height = k }) (node_version above k s (up_to v h)) block
  right-from block leads =
      let g = up_to v h in
      let w = node_version above k s g in
      let span : SpanValue = record { start = s; height = k } in
      let led = is-led (IsIn store) k s above g block (node-some k s above (bag g) node) leads in
      let n = node_to led.links k s above g in
      let e = node-span led.links k s above g in
      let f = node-version led.links k s above g in
      let there = subst (λ p. is_node above k s (bag p) ≡ true) same-past (node-then k s above g (rising-up_to v h rising) node) in
      let on = subst (λ p. Leads (IsIn store) k s above p block) same-past ((one-version (IsIn store) k s above g block (rising-up_to v h rising)).0 leads) in
      record {
        node = n;
        its_span = e;
        its_version = f;
        right = record {
          stored = led.is;
          is_node = subst (λ x. is_node_in x (up_to n.version h) ≡ true) (sym e) (subst (λ x. is_node_in span (up_to x h) ≡ true) (sym f) (subst (λ a. is_node a k s (bag (up_to w h)) ≡ true) (sym its) there));
          leads = subst (λ x. LeadsIn store x (up_to n.version h) block) (sym e) (subst (λ x. LeadsIn store span (up_to x h) block) (sym f) (subst (λ a. Leads (IsIn store) k s a (up_to w h) block) (sym its) on));
        };
      }

  -- A block with a node that is right at its own version leads to it.
  pub leads-from : (block : ℕ) → HasRight store h (record { start = s; height = k }) (node_version above k s (up_to v h)) block → Leads (IsIn store) k s above (up_to v h) block
  leads-from block has =
      let g = up_to v h in
      let w = node_version above k s g in
      let span : SpanValue = record { start = s; height = k } in
      let on = subst (λ a. Leads (IsIn store) k s a (up_to w h) block) its (subst (λ x. LeadsIn store span (up_to x h) block) has.its_version (subst (λ x. LeadsIn store x (up_to has.node.version h) block) has.its_span has.right.leads)) in
      (one-version (IsIn store) k s above g block (rising-up_to v h rising)).1 (subst (λ p. Leads (IsIn store) k s above p block) (sym same-past) on)

-- ---- what a right node has

module _ (store : Store) (h : Past) (rising : IsRising h) (span : SpanValue) (aligned : IsSpan span) (v k i : ℕ) (high : span.height ≡ suc k) (inner : is_inner (suc k) span.start (bag (up_to v h)) ≡ true) (lt : i < 64) (some : 0 < length (points_of k (slot_start k span.start i) (bag (up_to v h)))) where
  child-node : is_node (is_inner (suc k) span.start) k (slot_start k span.start i) (bag (up_to v h)) ≡ true
  child-node =
      let ps = points_of k (slot_start k span.start i) (bag (up_to v h)) in
      ap (λ t. t && has_points ps) inner ∙ some-has ps some

  child-version : node_version (is_inner (suc k) span.start) k (slot_start k span.start i) (up_to v h) ≡ slot_version (suc k) span.start k (slot_start k span.start i) (up_to v h)
  child-version =
      let ps = points_of k (slot_start k span.start i) (bag (up_to v h)) in
      node-slot (is_inner (suc k) span.start) k (slot_start k span.start i) (up_to v h) (some-has ps some)

  -- The child of a slot with a point is right.
  pub child-right : (link : ℕ) → Leads (IsIn store) k (slot_start k span.start i) (is_inner (suc k) span.start) (up_to v h) link → HasRight store h (slot_of span i) (slot_version (suc k) span.start k (slot_start k span.start i) (up_to v h)) link
  child-right link leads =
      let has = right-from store h rising v k (slot_start k span.start i) (is_inner (suc k) span.start) (slot-above span k i aligned high lt) child-node link leads in
      subst (λ x. HasRight store h x (slot_version (suc k) span.start k (slot_start k span.start i) (up_to v h)) link) (sym (slot-part span k i high)) (subst (λ w. HasRight store h (record { start = slot_start k span.start i; height = k }) w link) child-version has)

  -- A slot with a point leads to a child that is right.
  pub child-leads : (link : ℕ) → HasRight store h (slot_of span i) (slot_version (suc k) span.start k (slot_start k span.start i) (up_to v h)) link → Leads (IsIn store) k (slot_start k span.start i) (is_inner (suc k) span.start) (up_to v h) link
  child-leads link has =
      leads-from store h rising v k (slot_start k span.start i) (is_inner (suc k) span.start) (slot-above span k i aligned high lt) child-node link (subst (λ w. HasRight store h (record { start = slot_start k span.start i; height = k }) w link) (sym child-version) (subst (λ x. HasRight store h x (slot_version (suc k) span.start k (slot_start k span.start i) (up_to v h)) link) (slot-part span k i high) has))

module _ (store : Store) (h : Past) (rising : IsRising h) where
  own-same : (k : ℕ) (s : ℤ) (above : List Point → Bool) (g : Past) (block : ℕ) (node : NewNodeValue) → IsIn store block node → 0 < length (points_of k s (bag g)) → Leads (IsIn store) k s above g block → bare node ≡ new_node k s above g
  own-same k s above g block node is some leads =
      let led = is-led (IsIn store) k s above g block some leads in
      ap bare (one-node (store block) (store block) node (node_to led.links k s above g) refl is led.is) ∙ bare-node led.links k s above g

  slots-below : (k : ℕ) (span : SpanValue) (above : List Point → Bool) (v block : ℕ) (slots : List Slot) (t : Bool) → IsSpan span → span.height ≡ suc k → is_inner (suc k) span.start (bag (up_to v h)) ≡ t → (to : LeadsToNode (IsIn store) (suc k) span.start above (up_to v h) block (λ i link. Leads (IsIn store) k (slot_start k span.start i) (is_inner (suc k) span.start) (up_to v h) link)) → slots ≡ cond t (slots_to to.links k span.start (up_to v h)) [] → (i : ℕ) → IfSome (slice_get slots i) (IsRightSlot store h span i)
  slots-below k span above v block slots false aligned high inner to e i =
      subst (λ xs. IfSome (slice_get xs i) (IsRightSlot store h span i)) (sym e) tt
  slots-below k span above v block slots true aligned high inner to e i =
      let g = up_to v h in
      let item = λ (j : ℕ). slot_to (to.links j) (slot_of_points (suc k) span.start k (slot_start k span.start j) g) in
      let many : LEAF_POINTS < length (points_of (suc k) span.start (bag g)) = inner-many (suc k) span.start (bag g) inner in
      subst (λ xs. IfSome (slice_get xs i) (IsRightSlot store h span i)) (sym e) (elim (cases_lt i 64) [
        | inl lt ↦ subst (λ o. IfSome o (IsRightSlot store h span i)) (sym (items-get 64 item i lt)) (λ some.
            let long = agg-count (points_of k (slot_start k span.start i) (bag g)) in
            child-right store h rising span aligned v k i high inner lt (omega arith) (to.links i) (to.each many i lt).1)
        | inr le ↦ subst (λ o. IfSome o (IsRightSlot store h span i)) (sym (items-past 64 item i le)) tt
      ])
    where
      inner-many : (k : ℕ) (s : ℤ) (b : List Point) → is_inner k s b ≡ true → LEAF_POINTS < length (points_of k s b)
      inner-many k s b e = grind (arith, nat_tests)

  right-below : (k : ℕ) (above : List Point → Bool) (v block : ℕ) (node : NewNodeValue) → IsIn store block node → IsSpan node.span → node.span.height ≡ k → 0 < length (points_of k node.span.start (bag (up_to v h))) → Leads (IsIn store) k node.span.start above (up_to v h) block → AreRightBelow store h node
  right-below zero above v block node is aligned high some leads i =
      let led = is-led (IsIn store) zero node.span.start above (up_to v h) block some leads in
      let e : node.slots ≡ [] = ap (λ (n : NewNodeValue). n.slots) (one-node (store block) (store block) node (node_to led.links zero node.span.start above (up_to v h)) refl is led.is) in
      subst (λ xs. IfSome (slice_get xs i) (IsRightSlot store h node.span i)) (sym e) tt
  right-below (suc k) above v block node is aligned high some leads i =
      let g = up_to v h in
      elim leads [
        | inl none ↦ let long = ap (length {A = Point}) none.none in absurd (omega arith)
        | inr to ↦
            let e = ap (λ (n : NewNodeValue). n.slots) (one-node (store block) (store block) node (node_to to.links (suc k) node.span.start above g) refl is to.is) in
            slots-below k node.span above v block node.slots (is_inner (suc k) node.span.start (bag g)) aligned high refl to e i
      ]

  -- A right node has its own fields right, and so has each child of its slots.
  pub right-own : (block : ℕ) (node : NewNodeValue) → IsSpan node.span → IsRight store h block node → IsOwn h node × AreRightBelow store h node
  right-own block node aligned right =
      let g = up_to node.version h in
      let some = node-some node.span.height node.span.start (above_of node.span) (bag g) right.is_node in (
        record {
          is_node = right.is_node;
          same = own-same node.span.height node.span.start (above_of node.span) g block node right.stored some right.leads;
        },
        right-below node.span.height (above_of node.span) node.version block node right.stored aligned refl some right.leads,
      )

  -- ---- when a node is right

  same-fields : (a b : NewNodeValue) → a.span ≡ b.span → a.version ≡ b.version → a.points ≡ b.points → a.slots ≡ b.slots → a ≡ b
  same-fields a b p q r e =
      node-by a.span b.span a.version b.version a.points b.points a.slots b.slots p q r e

  no-slots : (xs : List Slot) → map without_address xs ≡ [] → xs ≡ []
  no-slots [] e = refl
  no-slots (x ∷ xs) e = absurd (cc)

  -- The address in the slot of a number.
  link_at : List Slot → ℕ → ℕ
  link_at xs i = elim (slice_get xs i) [ None ↦ 0 | Some slot ↦ slot.child ]

  addressed-by : (slot x : Slot) → without_address slot ≡ x → slot ≡ slot_to slot.child x
  addressed-by slot x e =
      slot-by slot.agg x.agg slot.version x.version slot.child slot.child (ap (λ (y : Slot). y.agg) e) (ap (λ (y : Slot). y.version) e) refl

  option-addressed : (o : Option Slot) (x : Slot) → option_map without_address o ≡ Some x → o ≡ Some (slot_to (elim o [ None ↦ 0 | Some slot ↦ slot.child ]) x)
  option-addressed None x e = absurd (cc)
  option-addressed (Some slot) x e = ap Some (addressed-by slot x (let f : without_address slot ≡ x = cc in f))

  none-mapped : (o : Option Slot) → option_map without_address o ≡ None → o ≡ None
  none-mapped None e = refl
  none-mapped (Some slot) e = absurd (cc)

  -- Slots that are others without their addresses are those with some addresses.
  slots-addressed : (xs : List Slot) (g : ℕ → Slot) → map without_address xs ≡ concat_first 64 (λ i. g i ∷ []) → xs ≡ concat_first 64 (λ i. slot_to (link_at xs i) (g i) ∷ [])
  unfolding link_at
  slots-addressed xs g e =
      each-same xs (concat_first 64 (λ i. slot_to (link_at xs i) (g i) ∷ [])) (λ i.
      let mapped = sym (slice_get-map without_address xs i) ∙ ap (λ (ys : List Slot). slice_get ys i) e in
      elim (cases_lt i 64) [
        | inl lt ↦ option-addressed (slice_get xs i) (g i) (mapped ∙ items-get 64 g i lt) ∙ sym (items-get 64 (λ j. slot_to (link_at xs j) (g j)) i lt)
        | inr le ↦ none-mapped (slice_get xs i) (mapped ∙ items-past 64 g i le) ∙ sym (items-past 64 (λ j. slot_to (link_at xs j) (g j)) i le)
      ])

  leads-nowhere : (k : ℕ) (s : ℤ) (above : List Point → Bool) (g : Past) (block : ℕ) → points_of k s (bag g) ≡ [] → block ≡ 0 → Leads (IsIn store) k s above g block
  leads-nowhere zero s above g block none e = inl (record { none = none; is = e })
  leads-nowhere (suc k) s above g block none e = inl (record { none = none; is = e })

  no-points : (ps : List Point) → length ps ≤ 0 → ps ≡ []
  no-points [] le = refl
  no-points (p ∷ ps) le = absurd (omega arith)

  own-leads_zero : (s : ℤ) (above : List Point → Bool) (g : Past) (block : ℕ) (node : NewNodeValue) → IsIn store block node → 1 ≤ block → 0 < length (points_of zero s (bag g)) → bare node ≡ new_node zero s above g → Leads (IsIn store) zero s above g block
  own-leads_zero s above g block node is least some e =
      let same = same-fields node (new_node zero s above g) (ap (λ (n : NewNodeValue). n.span) e) (ap (λ (n : NewNodeValue). n.version) e) (ap (λ (n : NewNodeValue). n.points) e) (no-slots node.slots (ap (λ (n : NewNodeValue). n.slots) e)) in
      inr (record {
        points = some;
        some = least;
        links = λ i. 0;
        is = is ∙ ap Some same;
        each = λ many i lt. (omega arith, tt);
      })

  module _ (k : ℕ) (above : List Point → Bool) (v block : ℕ) (node : NewNodeValue) (is : IsIn store block node) (placed : IsPlacedNode block node) (high : node.span.height ≡ suc k) (some : 0 < length (points_of (suc k) node.span.start (bag (up_to v h)))) (e : bare node ≡ new_node (suc k) node.span.start above (up_to v h)) where
    same-node : (links : ℕ → ℕ) → node.slots ≡ cond (is_inner (suc k) node.span.start (bag (up_to v h))) (slots_to links k node.span.start (up_to v h)) [] → node ≡ node_to links (suc k) node.span.start above (up_to v h)
    same-node links slots =
        same-fields node (node_to links (suc k) node.span.start above (up_to v h)) (ap (λ (n : NewNodeValue). n.span) e) (ap (λ (n : NewNodeValue). n.version) e) (ap (λ (n : NewNodeValue). n.points) e) slots

    few-leads : is_inner (suc k) node.span.start (bag (up_to v h)) ≡ false → Leads (IsIn store) (suc k) node.span.start above (up_to v h) block
    few-leads few =
        let links : ℕ → ℕ = λ i. 0 in
        let none = no-slots node.slots (ap (λ (n : NewNodeValue). n.slots) e ∙ ap (λ t. cond t (slots_of k node.span.start (up_to v h)) []) few) in
        inr (record {
          points = some;
          some = placed.some;
          links = links;
          is = is ∙ ap Some (same-node links (none ∙ sym (ap (λ t. cond t (slots_to links k node.span.start (up_to v h)) []) few)));
          each = λ many i lt. absurd (let inner = many-inner (suc k) node.span.start (bag (up_to v h)) many in cc);
        })

    many-leads : is_inner (suc k) node.span.start (bag (up_to v h)) ≡ true → AreRightBelow store h node → Leads (IsIn store) (suc k) node.span.start above (up_to v h) block
    many-leads inner right =
        let g = up_to v h in
        let s = node.span.start in
        let links = link_at node.slots in
        let item = λ (i : ℕ). slot_of_points (suc k) s k (slot_start k s i) g in
        let slots : node.slots ≡ slots_to links k s g = slots-addressed node.slots item (ap (λ (n : NewNodeValue). n.slots) e ∙ ap (λ t. cond t (slots_of k s g) []) inner) in
        inr (record {
          points = some;
          some = placed.some;
          links = links;
          is = is ∙ ap Some (same-node links (slots ∙ sym (ap (λ t. cond t (slots_to links k s g) []) inner)));
          each = λ many i lt.
              let at = ap (λ (xs : List Slot). slice_get xs i) slots ∙ items-get 64 (λ j. slot_to (links j) (item j)) i lt in
              let ps = points_of k (slot_start k s i) (bag g) in
              let long = agg-count ps in
              elim (cases_lt 0 (length ps)) [
                | inl has ↦
                    let low = subst (λ o. IfSome o (λ (slot : Slot). 0 < slot.agg.count → slot.child < block)) at (placed.lower i) in
                    let below = subst (λ o. IfSome o (IsRightSlot store h node.span i)) at (right i) in (
                      low (omega arith),
                      child-leads store h rising node.span placed.aligned v k i high inner lt has (links i) (below (omega arith)),
                    )
                | inr none ↦
                    let zero_at = subst (λ o. IfSome o (λ (slot : Slot). slot.agg.count ≡ 0 → slot.child ≡ 0)) at (placed.none i) in
                    let nowhere : links i ≡ 0 = zero_at (omega arith) in
                    let least = placed.some in (
                      omega arith,
                      leads-nowhere k (slot_start k s i) (is_inner (suc k) s) g (links i) (no-points ps none) nowhere,
                    )
              ];
        })

    own-leads_suc : AreRightBelow store h node → Leads (IsIn store) (suc k) node.span.start above (up_to v h) block
    own-leads_suc right =
        let t = is_inner (suc k) node.span.start (bag (up_to v h)) in
        elim t as (λ u. t ≡ u → Leads (IsIn store) (suc k) node.span.start above (up_to v h) block) [
          | true ↦ λ inner. many-leads inner right
          | false ↦ λ few. few-leads few
        ] refl

  own-leads : (k : ℕ) (above : List Point → Bool) (v block : ℕ) (node : NewNodeValue) → IsIn store block node → IsPlacedNode block node → node.span.height ≡ k → 0 < length (points_of k node.span.start (bag (up_to v h))) → bare node ≡ new_node k node.span.start above (up_to v h) → AreRightBelow store h node → Leads (IsIn store) k node.span.start above (up_to v h) block
  own-leads zero above v block node is placed high some e right =
      own-leads_zero node.span.start above (up_to v h) block node is placed.some some e
  own-leads (suc k) above v block node is placed high some e right =
      own-leads_suc k above v block node is placed high some e right

  -- A node whose own fields are right, and each child of its slots, is right.
  pub own-right : (block : ℕ) (node : NewNodeValue) → IsIn store block node → IsPlacedNode block node → IsOwn h node → AreRightBelow store h node → IsRight store h block node
  own-right block node is placed own right =
      record {
        stored = is;
        is_node = own.is_node;
        leads = own-leads node.span.height (above_of node.span) node.version block node is placed refl (node-some node.span.height node.span.start (above_of node.span) (bag (up_to node.version h)) own.is_node) own.same right;
      }
