-- Lemmas on nodes that a commit does not touch, and on what each node shows of its span.
use Rattle.std.specs.Prelude.{◌≡◌, ℕ, ◌+◌, ◌*◌, ◌<◌, ◌≤◌, ◌^◌, ℤ, pos, ◌+ℤ◌, Bool, true, false, not, ◌&&◌, ◌||◌, cond, List, [], ◌∷◌, ◌++◌, length, Option, Some, None, MatchOption}
use Rattle.std.specs.List.{filter, list_any}
use Rattle.std.proofs.Common.{zero, suc, refl, sym, ap, ◌∙◌, arith, subst, length-append}
use Rattle.std.proofs.lemmas.Bool.Decides.{nat_tests}
use Rattle.btr_base.specs.declared.point.Point.{Point}
use Rattle.btr_base.specs.Range.{covered}
use Rattle.btr_base.specs.Bag.{within, outside, is_within}
use Rattle.btr_base.proofs.PointLemmas.{length-sort}
use Rattle.btr_base.specs.Span.{width, IsSpan}
use Rattle.btr_base.proofs.SpanLemmas.{slot-aligned}
use Rattle.btr_base.specs.Agg.{AggValue, agg}
use Rattle.btr_base.proofs.AggLemmas.{agg-count}
use Rattle.btr_base.specs.declared.limits.TheConstants.{LEAF_POINTS}
use Rattle.btr_tree.specs.declared.node.NodeData.{NodeData, out-NodeData}
use Rattle.btr_tree.specs.declared.node.Slot.{Slot}
use Rattle.btr_tree.specs.declared.slots.Slots.{Slots}
use Rattle.btr_tree.specs.Slots.{slot_in, child_in}
use Rattle.btr_tree.specs.History.{Commit, bag, Past, ◌▷◌}
use Rattle.btr_tree.specs.Nodes.{points_of, has_points, touches, is_inner, is_node, last_change}
use Rattle.btr_tree.proofs.VersionLemmas.{points-untouched, points-after}
use Rattle.btr_tree.specs.Shape.{slot_start, IsLeaf, IsInner, IsNodeData, IsChild}
use Rattle.btr_tree.proofs.NodeLemmas.{points-slot, total-first, prefix-fewer, slot-part, slot-next, slot-first, slot-end}
use Rattle.btr_tree.proofs.BuiltNodeLemmas.{by_kind-weaker, by_kind-gives}
use Rattle.btr_tree.proofs.CutLemmas.{outside-length}
use Rattle.btr_tree.specs.Change.{IsCounted}
use Rattle.btr_tree.specs.Crowd.{HasNoCrowdedSpan}
use Rattle.btr_tree.proofs.CrowdLemmas.{span-whole, room-few, room-none, room-join, room-part}

-- ---- what a commit does not touch

pub match-weaker : {X : Type 0} (o : Option X) (P R : Type 0) (Q S : X → Type 0) → (P → R) → ((x : X) → Q x → S x) → MatchOption o P Q → MatchOption o R S
match-weaker None P R Q S f g h = f h
match-weaker (Some x) P R Q S f g h = g x h

none-has : (b : List Point) → has_points b ≡ false → b ≡ []
none-has [] e = refl
none-has (p ∷ b) e = cc

pub some-has : (b : List Point) → 0 < length b → has_points b ≡ true
some-has [] h = absurd (omega arith)
some-has (p ∷ b) h = refl

any-filter : (f g : Point → Bool) (b : List Point) → list_any f b ≡ false → list_any f (filter g b) ≡ false
any-filter f g [] e = refl
any-filter f g (p ∷ b) e =
    let here : f p ≡ false = grind arith in
    let rest : list_any f b ≡ false = grind arith in
    elim (g p) as (λ t. list_any f (cond t (p ∷ filter g b) (filter g b)) ≡ false) [
      | true ↦ ap (λ t. t || list_any f (filter g b)) here ∙ any-filter f g b rest
      | false ↦ any-filter f g b rest
    ]

or-left : (a b : Bool) → (a || b) ≡ false → a ≡ false
or-left a b e = grind arith

or-right : (a b : Bool) → (a || b) ≡ false → b ≡ false
or-right a b e = grind arith

pub touches-slot : (below : ℕ) (s : ℤ) (i : ℕ) (c : Commit) (b : List Point) → i < 64 → touches c (suc below) s b ≡ false → touches c below (slot_start below s i) b ≡ false
touches-slot below s i c b place e =
    let k = points_of (suc below) s c.added in
    let j = slot_start below s i in
    let added : k ≡ [] = none-has k (or-left (has_points k) (list_any (λ p. covered c.cut p.time) (points_of (suc below) s b)) e) in
    let added_slot : points_of below j c.added ≡ [] = sym (points-slot below s i c.added place) ∙ ap (points_of below j) added in
    let kept : list_any (λ p. covered c.cut p.time) (points_of (suc below) s b) ≡ false = or-right (has_points k) (list_any (λ p. covered c.cut p.time) (points_of (suc below) s b)) e in
    let kept_slot : list_any (λ p. covered c.cut p.time) (points_of below j b) ≡ false = subst (λ x. list_any (λ p. covered c.cut p.time) x ≡ false) (points-slot below s i b place) (any-filter (λ p. covered c.cut p.time) (is_within j (j +ℤ pos (width below))) (points_of (suc below) s b) kept) in
    ap (λ x. has_points x || list_any (λ p. covered c.cut p.time) (points_of below j b)) added_slot ∙ kept_slot

-- A version stays if the commit does not touch the span and the version already counted.
pub last_change-kept : (was : List Point → Bool) (k : ℕ) (s : ℤ) (h : Past) (c : Commit) → touches c k s (bag h) ≡ false → was (bag h) ≡ true → last_change was k s (c ▷ h) ≡ last_change was k s h
last_change-kept was k s h c e w =
    ap (λ t. cond (t || not (was (bag h))) c.version (last_change was k s h)) e ∙ ap (λ t. cond (not t) c.version (last_change was k s h)) w

leaf-kept : (k : ℕ) (s : ℤ) (above : List Point → Bool) (h : Past) (c : Commit) → above (bag h) ≡ true → touches c k s (bag h) ≡ false → (v : ℕ) (ps : List Point) → IsLeaf k s above h v ps → IsLeaf k s above (c ▷ h) v ps
leaf-kept k s above h c w e v ps x =
    let some : has_points (points_of k s (bag h)) ≡ true = some-has (points_of k s (bag h)) (subst (λ y. 0 < length y) x.same x.some) in
    let node : is_node above k s (bag h) ≡ true = ap (λ t. t && has_points (points_of k s (bag h))) w ∙ some in
    record {
      same = x.same ∙ sym (points-untouched k s c h e);
      some = x.some;
      few = x.few;
      version = x.version ∙ sym (last_change-kept (is_node above k s) k s h c e node);
    }

pub many-inner : (k : ℕ) (s : ℤ) (b : List Point) → LEAF_POINTS < length (points_of k s b) → is_inner k s b ≡ true
many-inner k s b many = grind (arith, nat_tests)

pub slot-same : (a b : AggValue) (v w : ℕ) → a ≡ b → v ≡ w → (let x : Slot = record { agg = a; version = v; child = 0 } in x) ≡ record { agg = b; version = w; child = 0 }
slot-same a b v w p q = cc

pub inner-kept : (below : ℕ) (s : ℤ) (above : List Point → Bool) (h : Past) (c : Commit) → above (bag h) ≡ true → touches c (suc below) s (bag h) ≡ false → (v : ℕ) (y : Slots) → IsInner below s above h v y → IsInner below s above (c ▷ h) v y
inner-kept below s above h c w e v y x =
    let many = x.many in
    let some : has_points (points_of (suc below) s (bag h)) ≡ true = some-has (points_of (suc below) s (bag h)) (omega arith) in
    let node : is_node above (suc below) s (bag h) ≡ true = ap (λ t. t && has_points (points_of (suc below) s (bag h))) w ∙ some in
    let inner = many-inner (suc below) s (bag h) x.many in
    record {
      many = subst (λ b. LEAF_POINTS < length b) (sym (points-untouched (suc below) s c h e)) x.many;
      version = x.version ∙ sym (last_change-kept (is_node above (suc below) s) (suc below) s h c e node);
      all = record {
        each = λ i place.
            let slot = touches-slot below s i c (bag h) place e in
            x.all.each i place ∙ slot-same _ _ _ _ (ap agg (sym (points-untouched below (slot_start below s i) c h slot))) (sym (last_change-kept (is_inner (suc below) s) below (slot_start below s i) h c slot inner));
      };
    }

pub node-kept : (k : ℕ) (s : ℤ) (above : List Point → Bool) (h : Past) (c : Commit) (n : NodeData) → above (bag h) ≡ true → touches c k s (bag h) ≡ false → IsNodeData k s above h n → IsNodeData k s above (c ▷ h) n
node-kept zero s above h c n w e x =
    by_kind-weaker _ _ _ _ (out-NodeData n) (leaf-kept zero s above h c w e) (λ _ _ y. y) x
node-kept (suc k) s above h c n w e x =
    by_kind-weaker _ _ _ _ (out-NodeData n) (leaf-kept (suc k) s above h c w e) (λ v slots y. (
      inner-kept k s above h c w e v slots y.0,
      λ i place.
          let slot = touches-slot k s i c (bag h) place e in
          match-weaker (child_in slots i) _ _ _ _ (λ none. points-untouched k (slot_start k s i) c h slot ∙ none) (λ m z. node-kept k (slot_start k s i) (is_inner (suc k) s) h c m (many-inner (suc k) s (bag h) y.0.many) slot z) (y.1 i place),
    )) x

pub child-kept : (k : ℕ) (s : ℤ) (above : List Point → Bool) (h : Past) (c : Commit) (p : Option NodeData) → above (bag h) ≡ true → touches c k s (bag h) ≡ false → IsChild k s above h p → IsChild k s above (c ▷ h) p
child-kept k s above h c p w e x =
    match-weaker p _ _ _ _ (λ none. points-untouched k s c h e ∙ none) (λ n y. node-kept k s above h c n w e y) x

-- ---- what a node shows

-- The aggregates of its slots can be joined.
pub child-counted : (k : ℕ) (s : ℤ) (above : List Point → Bool) (h : Past) (p : Option NodeData) → length (points_of k s (bag h)) < 2 ^ 64 → IsChild k s above h p → IsCounted p
child-counted zero s above h p few x =
    match-weaker p _ _ _ _ (λ _. tt) (λ n y. by_kind-weaker _ _ _ _ (out-NodeData n) (λ _ _ _. tt) (λ _ _ z. absurd z) y) x
child-counted (suc k) s above h p few x =
    match-weaker p _ _ _ _ (λ _. tt) (λ n y. by_kind-weaker _ _ _ _ (out-NodeData n) (λ _ _ _. tt) (λ v slots z i le. omega (arith, ap (λ u. u.count) (total-first k s h (slot_in slots) z.0.all.each i le), agg-count (within s (slot_start k s i) (bag h)), prefix-fewer k s i (bag h) le)) y) x

-- The points of a span after a commit are at most those before and those added.
pub after-fewer : (k : ℕ) (s : ℤ) (h : Past) (c : Commit) → length (points_of k s (bag (c ▷ h))) ≤ length (points_of k s (bag h)) + length (points_of k s c.added)
after-fewer k s h c =
    let kept = outside-length (points_of k s (bag h)) c.cut in
    omega (arith, ap length (points-after k s c (bag h)), length-sort (outside (points_of k s (bag h)) c.cut ++ points_of k s c.added), length-append (outside (points_of k s (bag h)) c.cut) (points_of k s c.added))

-- No bottom span is crowded.
room-nothing : (a b : ℤ) (xs : List Point) → xs ≡ [] → HasNoCrowdedSpan a b xs
room-nothing a b xs e =
    let few : length xs ≡ 0 = ap (length {A = Point}) e in room-few a b xs (omega arith)

room-slots : (below : ℕ) (s : ℤ) (h : Past) → ((i : ℕ) → i < 64 → HasNoCrowdedSpan (slot_start below s i) (slot_start below s (i + 1)) (points_of (suc below) s (bag h))) → (n : ℕ) → n ≤ 64 → HasNoCrowdedSpan s (slot_start below s n) (points_of (suc below) s (bag h))
room-slots below s h each zero le =
    subst (λ e. HasNoCrowdedSpan s e (points_of (suc below) s (bag h))) (sym (slot-first below s)) (room-none s (points_of (suc below) s (bag h)))
room-slots below s h each (suc n) le =
    let next : n + 1 ≡ suc n = omega arith in
    subst (λ j. HasNoCrowdedSpan s (slot_start below s j) (points_of (suc below) s (bag h))) next (room-join s (slot_start below s n) (slot_start below s (n + 1)) (points_of (suc below) s (bag h)) (room-slots below s h each n (omega arith)) (each n (omega arith)))

node-room : (k : ℕ) (s : ℤ) (above : List Point → Bool) (h : Past) (o : Option NodeData) → IsSpan (record { start = s; height = k }) → MatchOption o (points_of k s (bag h) ≡ []) (λ n. IsNodeData k s above h n) → HasNoCrowdedSpan s (s +ℤ pos (width k)) (points_of k s (bag h))
node-room k s above h None aligned x = room-nothing s (s +ℤ pos (width k)) (points_of k s (bag h)) x
node-room zero s above h (Some n) aligned x =
    by_kind-gives _ _ (HasNoCrowdedSpan s (s +ℤ pos (width 0)) (points_of 0 s (bag h))) (out-NodeData n) (λ v ps leaf. room-few s (s +ℤ pos (width 0)) (points_of 0 s (bag h)) (subst (λ y. length y ≤ LEAF_POINTS) leaf.same leaf.few)) (λ v slots none. absurd none) x
node-room (suc k) s above h (Some n) aligned x =
    by_kind-gives _ _ (HasNoCrowdedSpan s (s +ℤ pos (width (suc k))) (points_of (suc k) s (bag h))) (out-NodeData n) (λ v ps leaf. room-few s (s +ℤ pos (width (suc k))) (points_of (suc k) s (bag h)) (subst (λ y. length y ≤ LEAF_POINTS) leaf.same leaf.few)) (λ v slots body.
    subst (λ e. HasNoCrowdedSpan s e (points_of (suc k) s (bag h))) (slot-end k s) (room-slots k s h (λ i place.
    let part : IsSpan (record { start = slot_start k s i; height = k }) = subst IsSpan (slot-part (record { start = s; height = suc k }) k i refl) (64 * aligned.0 + i, slot-aligned (record { start = s; height = suc k }) aligned.0 i aligned.1 (omega arith) place) in
    let room = node-room k (slot_start k s i) (is_inner (suc k) s) h (child_in slots i) part (body.1 i place) in
    let inside : HasNoCrowdedSpan (slot_start k s i) (slot_start k s i +ℤ pos (width k)) (points_of k (slot_start k s i) (points_of (suc k) s (bag h))) = subst (HasNoCrowdedSpan (slot_start k s i) (slot_start k s i +ℤ pos (width k))) (sym (points-slot k s i (bag h) place)) room in
    subst (λ e. HasNoCrowdedSpan (slot_start k s i) e (points_of (suc k) s (bag h))) (sym (slot-next k s i)) (room-part (slot_start k s i) (slot_start k s i +ℤ pos (width k)) (points_of (suc k) s (bag h)) (span-whole (record { start = slot_start k s i; height = k }) part) inside)) 64 (omega arith))) x

pub child-room : (k : ℕ) (s : ℤ) (above : List Point → Bool) (h : Past) (p : Option NodeData) → IsSpan (record { start = s; height = k }) → IsChild k s above h p → HasNoCrowdedSpan s (s +ℤ pos (width k)) (points_of k s (bag h))
child-room k s above h p aligned x = node-room k s above h p aligned x
