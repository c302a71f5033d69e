-- Lemmas on parts of the slots of a span, whose nodes several threads build.
use Rattle.std.specs.Prelude.{◌≡◌, ◌⊎◌, ℕ, ◌+◌, ◌-◌, ◌*◌, ◌<◌, ◌≤◌, ℤ, pos, ◌+ℤ◌, ◌≤ℤ◌, int_le, int_lt, Bool, true, ◌&&◌, ◌||◌, cond, List, [], ◌++◌, length}
use Rattle.std.proofs.Common.{zero, suc, refl, sym, ap, ◌∙◌, arith, subst, inl, inr, mul-add, length-append}
use Rattle.std.proofs.Math.Nat.{eq-or-lt_of_le, le_of_mul-le-mul_left}
use Rattle.std.proofs.lemmas.Int.{ints}
use Rattle.btr_base.specs.declared.point.Point.{Point}
use Rattle.btr_base.specs.Bag.{within, is_within, IsInOrder}
use Rattle.btr_base.specs.Span.{width, SpanValue}
use Rattle.btr_base.specs.declared.limits.TheConstants.{LEAF_POINTS}
use Rattle.btr_base.proofs.ListLemmas.{filter-filter, filter-same}
use Rattle.btr_base.proofs.PointLemmas.{sort-of_order}
use Rattle.btr_base.proofs.WithinLemmas.{within-nested}
use Rattle.btr_tree.specs.History.{Commit, Past, ◌▷◌, bag, nothing}
use Rattle.btr_tree.specs.Nodes.{points_of, is_inner, above_root, touches, node_version}
use Rattle.btr_tree.specs.NewNodes.{NewNodeValue, concat_first, new_nodes, own_node}
use Rattle.btr_tree.specs.declared.slots.Slots.{Slots}
use Rattle.btr_tree.specs.Packed.{without_address}
use Rattle.btr_tree.specs.Shape.{slot_start}
use Rattle.btr_tree.specs.Slots.{slot_in, child_in, IsFilled, IsPut}
use Rattle.btr_tree.specs.Change.{IsFresh, end_of}
use Rattle.btr_tree.specs.Shared.{slot_from, slot_nodes, IsSplitPart, AreJoined}
use Rattle.btr_tree.proofs.NodeLemmas.{slot-next, slot-end, slot-order}
use Rattle.btr_tree.proofs.NewNodeLemmas.{first-next, few-inner, own-here}
use Rattle.btr_tree.proofs.UntouchedNodeLemmas.{many-inner}
use Rattle.btr_tree.proofs.SlotSplitLemmas.{IsPartedAt}

-- ---- where slots begin

pub slot_from-is : (span : SpanValue) (below i : ℕ) → span.height ≡ suc below → slot_from span i ≡ slot_start below span.start i
slot_from-is span below i high =
    let e : span.height - 1 ≡ below = omega arith in ap (λ k. slot_start k span.start i) e

pub slot_from-first : (span : SpanValue) → slot_from span 0 ≡ span.start
slot_from-first span = let e : 0 * width (span.height - 1) ≡ 0 = omega arith in omega (arith, ints)

pub slot_from-last : (span : SpanValue) (below : ℕ) → span.height ≡ suc below → slot_from span 64 ≡ end_of span
slot_from-last span below high =
    slot_from-is span below 64 high ∙ slot-end below span.start ∙ ap (λ k. span.start +ℤ pos (width k)) (sym high)

start-first : (below : ℕ) (s : ℤ) → slot_start below s 0 ≡ s
start-first below s = let e : 0 * width below ≡ 0 = omega arith in omega (arith, ints)

-- ---- the points of slots

wider : (a b c d t : ℤ) → c ≤ℤ a → b ≤ℤ d → ((int_le a t && int_lt t b) && (int_le c t && int_lt t d)) ≡ (int_le a t && int_lt t b)
wider a b c d t h k = grind (arith, ints)

pub within-wider : (a b c d : ℤ) (xs : List Point) → c ≤ℤ a → b ≤ℤ d → within c d (within a b xs) ≡ within a b xs
within-wider a b c d xs h k =
    filter-filter (is_within c d) (is_within a b) xs
    ∙ filter-same (λ p. is_within a b p && is_within c d p) (is_within a b) xs (λ p. wider a b c d p.time h k)

pub inside-wider : (a b c d : ℤ) (xs : List Point) → c ≤ℤ a → b ≤ℤ d → within a b xs ≡ xs → within c d xs ≡ xs
inside-wider a b c d xs h k inside =
    ap (within c d) (sym inside) ∙ within-wider a b c d xs h k ∙ inside

-- Points of some slots are points of the span from the first of the slots on.
pub part-tail : (span : SpanValue) (below from to : ℕ) (points : List Point) → span.height ≡ suc below → to ≤ 64 → within (slot_from span from) (slot_from span to) points ≡ points → points ≡ within (slot_start below span.start from) (end_of span) points
part-tail span below from to points high place inside =
    let begin = slot_from-is span below from high in
    let last = slot_from-is span below to high in
    let up = slot-order below span.start to 64 place in
    let end = slot-end below span.start in
    let e : end_of span ≡ span.start +ℤ pos (width (suc below)) = ap (λ k. span.start +ℤ pos (width k)) high in
    sym (inside-wider (slot_from span from) (slot_from span to) (slot_start below span.start from) (end_of span) points (omega (arith, ints)) (omega (arith, ints)) inside)

-- Points of some slots are points of the span.
pub part-inside : (span : SpanValue) (below from to : ℕ) (points : List Point) → span.height ≡ suc below → to ≤ 64 → within (slot_from span from) (slot_from span to) points ≡ points → points_of (suc below) span.start points ≡ points
part-inside span below from to points high place inside =
    let begin = slot_from-is span below from high in
    let last = slot_from-is span below to high in
    let zero_start = start-first below span.start in
    let low = slot-order below span.start 0 from (omega arith) in
    let up = slot-order below span.start to 64 place in
    let end = slot-end below span.start in
    inside-wider (slot_from span from) (slot_from span to) span.start (span.start +ℤ pos (width (suc below))) points (omega (arith, ints)) (omega (arith, ints)) inside

-- The points of slot i are those that the commits leave there.
pub part-same : (span part : SpanValue) (below i from to : ℕ) (points here behind whole : List Point) → IsPartedAt span part below i points here behind → from ≤ i → i < to → points ≡ within (slot_start below span.start from) (slot_start below span.start to) whole → here ≡ points_of below (slot_start below span.start i) whole
part-same span part below i from to points here behind whole at low high same =
    let next = slot-next below span.start i in
    let a = slot-order below span.start from i low in
    let b = slot-order below span.start (i + 1) to (omega arith) in
    at.has
    ∙ ap (λ (u : SpanValue). within u.start (end_of u) points) at.is
    ∙ ap (λ x. points_of below (slot_start below span.start i) x) same
    ∙ within-nested (slot_start below span.start from) (slot_start below span.start to) (slot_start below span.start i) (slot_start below span.start i +ℤ pos (width below)) whole a (omega (arith, ints))

-- ---- how many nodes there are

own-one : (k : ℕ) (s : ℤ) (above : List Point → Bool) (h : Past) (v : ℕ) → above (bag h) ≡ true → 0 < length (points_of k s (bag h)) → v ≡ node_version above k s h → length (own_node k s above h v) ≡ 1
own-one k s above h v w some e = ap (length {A = NewNodeValue}) (own-here k s above h v w some e)

-- A leaf, and a crowded span.
pub count-one : (k : ℕ) (s : ℤ) (above : List Point → Bool) (h : Past) (v : ℕ) → above (bag h) ≡ true → 0 < length (points_of k s (bag h)) → v ≡ node_version above k s h → (length (points_of k s (bag h)) ≤ LEAF_POINTS) ⊎ (k ≡ 0) → 1 ≡ length (new_nodes k s above h v)
count-one zero s above h v w some e either = sym (own-one zero s above h v w some e)
count-one (suc k) s above h v w some e (inl few) =
    sym (ap (λ t. length (cond t (concat_first 64 (λ i. new_nodes k (slot_start k s i) (is_inner (suc k) s) h v)) [] ++ own_node (suc k) s above h v)) (few-inner (suc k) s (bag h) few)
    ∙ own-one (suc k) s above h v w some e)
count-one (suc k) s above h v w some e (inr none) = absurd (omega arith)

-- An inner node.
pub count-inner : (k below : ℕ) (s : ℤ) (above : List Point → Bool) (h : Past) (v n : ℕ) → k ≡ suc below → above (bag h) ≡ true → LEAF_POINTS < length (points_of k s (bag h)) → v ≡ node_version above k s h → n ≡ length (concat_first 64 (slot_nodes below s h v)) → 1 + n ≡ length (new_nodes k s above h v)
count-inner zero below s above h v n high w many e all = absurd (omega arith)
count-inner (suc k) below s above h v n high w many e all =
    let same : k ≡ below = omega arith in
    let reported = concat_first 64 (slot_nodes k s h v) in
    let long = length-append reported (own_node (suc k) s above h v) in
    let one = own-one (suc k) s above h v w (omega arith) e in
    let is : n ≡ length reported = all ∙ ap (λ j. length (concat_first 64 (slot_nodes j s h v))) (sym same) in
    let yes = ap (λ t. length (cond t (concat_first 64 (λ i. new_nodes k (slot_start k s i) (is_inner (suc k) s) h v)) [] ++ own_node (suc k) s above h v)) (many-inner (suc k) s (bag h) many) in
    omega arith

pub first-length : (n : ℕ) (f : ℕ → List NewNodeValue) → length (concat_first (n + 1) f) ≡ length (concat_first n f) + length (f n)
first-length n f = ap (length {A = NewNodeValue}) (first-next n f) ∙ length-append (concat_first n f) (f n)

-- As many nodes as a number for each point, for those of one more slot.
pub few-more : (count more k height rest here behind all : ℕ) → count + height * rest ≤ all → more ≤ (k + 1) * here → k + 1 ≡ height → here + behind ≡ rest → count + more + height * behind ≤ all
few-more count more k height rest here behind all le m e sum =
    let x : (k + 1) * here ≡ height * here = ap (λ z. z * here) e in
    let y : height * (here + behind) ≡ height * here + height * behind = mul-add height here behind in
    let z : height * (here + behind) ≡ height * rest = ap (λ n. height * n) sum in
    omega arith

-- ---- a history of these points alone

-- The commit that adds the points.
abbrev pub alone : ℕ → List Point → Commit
alone version points = record { version = version; cut = []; added = points }

pub alone-bag : (version : ℕ) (points : List Point) → IsInOrder points → bag (alone version points ▷ nothing) ≡ points
alone-bag version points order = sort-of_order points order

or-true : (t : Bool) → (t || true) ≡ true
or-true t = grind arith

pub alone-fresh : (k : ℕ) (s : ℤ) (version : ℕ) (points : List Point) → IsInOrder points → points_of k s points ≡ points → IsFresh k s above_root nothing (alone version points) version points
alone-fresh k s version points order inside =
    record {
      number = refl;
      same = sym (ap (points_of k s) (alone-bag version points order) ∙ inside);
      fresh = or-true (touches (alone version points) k s (bag nothing));
      small = λ _. omega arith;
    }

pub alone-part : (below : ℕ) (span : SpanValue) (from to version : ℕ) (points : List Point) → span.height ≡ suc below → to ≤ 64 → LEAF_POINTS < length points → IsInOrder points → within (slot_from span from) (slot_from span to) points ≡ points → IsSplitPart below span from to nothing (alone version points) version points
alone-part below span from to version points high place many order inside =
    let b = alone-bag version points order in
    record {
      height = high;
      number = refl;
      same = sym (ap (within (slot_start below span.start from) (slot_start below span.start to)) b ∙ ap (λ x. within x (slot_start below span.start to) points) (sym (slot_from-is span below from high)) ∙ ap (λ x. within (slot_from span from) x points) (sym (slot_from-is span below to high)) ∙ inside);
      few = omega arith;
      many = subst (λ x. LEAF_POINTS < length x) (sym (ap (points_of (suc below) span.start) b ∙ part-inside span below from to points high place inside)) many;
    }

-- ---- two parts put together

-- No slot of the second part yet.
pub joined-none : (mid : ℕ) (front back : Slots) → IsFilled mid front → AreJoined mid mid front back front
joined-none mid front back filled =
    record {
      filled = filled;
      base = refl;
      front_slots = λ i lt. refl;
      front_children = λ i lt. refl;
      back_slots = λ i low lt. absurd (omega arith);
      back_children = λ i low lt. absurd (omega arith);
    }

-- A slot more of the second part.
pub joined-more : (mid i : ℕ) (front back old new : Slots) → mid ≤ i → IsPut i (slot_in back i) (child_in back i) old new → AreJoined mid i front back old → AreJoined mid (i + 1) front back new
joined-more mid i front back old new low put h =
    record {
      filled = put.filled;
      base = put.base ∙ h.base;
      front_slots = λ j lt. put.slots j (omega arith) ∙ h.front_slots j lt;
      front_children = λ j lt. put.children j (omega arith) ∙ h.front_children j lt;
      back_slots = λ j from lt.
          let le : j ≤ i = omega arith in
          elim (eq-or-lt_of_le le) [
            | inl same ↦ subst (λ m. slot_in new m ≡ without_address (slot_in back m)) (sym same) put.is
            | inr less ↦ put.slots j less ∙ h.back_slots j from less
          ];
      back_children = λ j from lt.
          let le : j ≤ i = omega arith in
          elim (eq-or-lt_of_le le) [
            | inl same ↦ subst (λ m. child_in new m ≡ child_in back m) (sym same) put.has
            | inr less ↦ put.children j less ∙ h.back_children j from less
          ];
    }

-- ---- all slots of a span

pub whole-split : (below : ℕ) (span : SpanValue) (above : List Point → Bool) (h : Past) (c : Commit) (version : ℕ) (points : List Point) → span.height ≡ suc below → LEAF_POINTS < length points → IsFresh span.height span.start above h c version points → IsSplitPart below span 0 64 h c version points
whole-split below span above h c version points high many fresh =
    let s = span.start in
    let same : points ≡ points_of (suc below) s (bag (c ▷ h)) = fresh.same ∙ ap (λ k. points_of k s (bag (c ▷ h))) high in
    record {
      height = high;
      number = fresh.number;
      same = same ∙ ap (λ x. within x (s +ℤ pos (width (suc below))) (bag (c ▷ h))) (sym (start-first below s)) ∙ ap (λ x. within (slot_start below s 0) x (bag (c ▷ h))) (sym (slot-end below s));
      few = subst (λ k. length (points_of k s (bag h)) ≤ LEAF_POINTS) high (fresh.small many);
      many = subst (λ x. LEAF_POINTS < length x) same many;
    }

-- What is left is less than all.
pub fewer : (height count rest all : ℕ) → 1 ≤ height → count + height * rest ≤ height * all → rest ≤ all
fewer height count rest all some few =
    let le : height * rest ≤ height * all = omega arith in le_of_mul-le-mul_left le some
