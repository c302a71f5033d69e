-- Lemmas on how many nodes carry a version above another one, and on how many nodes there are.
use Rattle.std.specs.Prelude.{◌≡◌, ℕ, zero, suc, ◌+◌, ◌<◌, ◌≤◌, ℤ, Bool, true, ◌&&◌, nat_lt, List, [], ◌∷◌, length, Result, cond}
use Rattle.std.proofs.Math.Nat.{eq-or-lt_of_le}
use Rattle.std.proofs.Common.{inl, inr, refl, sym, ap, ◌∙◌, arith, add-one, add-zero, subst}
use Rattle.std.proofs.lemmas.Bool.Decides.{nat_tests}
use Rattle.btr_base.specs.declared.point.Point.{Point}
use Rattle.btr_base.specs.Span.{SpanValue}
use Rattle.btr_tree.specs.History.{Past, bag}
use Rattle.btr_tree.specs.Nodes.{points_of, has_points, is_inner, last_change, node_version}
use Rattle.btr_tree.specs.Newer.{sum_of, newer_here, newer_nodes}
use Rattle.btr_tree.specs.declared.node.Slot.{Slot}
use Rattle.btr_tree.specs.declared.walk_fault.WalkFault.{WalkFault}
use Rattle.btr_tree.specs.EachHistory.{points_in}
use Rattle.btr_tree.specs.Shape.{slot_start, IsLeaf}
use Rattle.btr_tree.specs.NodeSource.{AreSlotsAt}
use Rattle.btr_tree.proofs.VersionLemmas.{node-slot}
use Rattle.btr_base.specs.declared.limits.TheConstants.{LEAF_POINTS}
use Rattle.btr_diff.specs.declared.comparison.Task.{Task}
use Rattle.btr_diff.specs.Comparison.{IsPlace, AreSlotsOf, IsSlotOf, CountsSlot, CountsOlder, newer_below, nodes_in, refusals}

-- ---- One node, and those below it.

pub newer-is : (height : ℕ) (start : ℤ) (above : List Point → Bool) (h : Past) (since : ℕ) → newer_nodes height start above h since ≡ newer_here height start above h since + newer_below height start h since
unfolding newer_below
newer-is zero start above h since = sym (add-zero (newer_here zero start above h since))
newer-is (suc below) start above h since = refl

all-three : (a b c : Bool) → a ≡ true → b ≡ true → c ≡ true → ((a && b) && c) ≡ true
all-three a b c e f g = grind arith

newer-one : (height : ℕ) (start : ℤ) (above : List Point → Bool) (k : Past) (since : ℕ) → has_points (points_of height start (bag k)) ≡ true → above (bag k) ≡ true → since < last_change above height start k → newer_here height start above k since ≡ 1
newer-one height start above k since some up newer =
    let same = node-slot above height start k some in
    let later : nat_lt since (node_version above height start k) ≡ true = grind (arith, nat_tests) in
    let holds = all-three (above (bag k)) (has_points (points_of height start (bag k))) (nat_lt since (node_version above height start k)) up some later in
    ap {B = ℕ} (λ t. cond t 1 0) holds

has-some : (b : List Point) → 0 < length b → has_points b ≡ true
has-some [] h = absurd (omega arith)
has-some (q ∷ b) h = refl

-- A newer node is one more than those below it.
newer-node : (height : ℕ) (start : ℤ) (above : List Point → Bool) (k : Past) (since : ℕ) → has_points (points_of height start (bag k)) ≡ true → above (bag k) ≡ true → since < last_change above height start k → newer_nodes height start above k since ≡ 1 + newer_below height start k since
newer-node height start above k since some up newer =
    newer-is height start above k since
    ∙ ap (λ n. n + newer_below height start k since) (newer-one height start above k since some up newer)

-- The newer nodes in a slot that has a point and carries a newer version are its node and those below it.
pub newer-slot : {Site : Type 0} (IsAt : Site → ℕ → ℤ → (List Point → Bool) → Past → Type 0) (span : SpanValue) (since version count : ℕ) (site : Site) (k : Past) → 0 < count → since < version → (slot : IsSlotOf version count site IsAt span k) → newer_nodes span.height span.start (is_inner slot.above slot.begin) k since ≡ 1 + newer_below span.height span.start k since
newer-slot IsAt span since version count site k some newer slot =
    let many = slot.counted in
    newer-node span.height span.start (is_inner slot.above slot.begin) k since (has-some (points_of span.height span.start (bag k)) (omega arith)) slot.inner (omega (arith, slot.carried))

pub below-fewer : (height : ℕ) (start : ℤ) (above : List Point → Bool) (k : Past) (since : ℕ) → newer_below height start k since ≤ newer_nodes height start above k since
below-fewer height start above k since = omega (arith, newer-is height start above k since)

-- ---- Slot by slot.

sum-next : (i : ℕ) (f : ℕ → ℕ) → sum_of (i + 1) f ≡ sum_of i f + f i
sum-next i f = ap (λ n. sum_of n f) (add-one i)

sum-below : (below : ℕ) (start : ℤ) (k : Past) (since n : ℕ) → is_inner (suc below) start (bag k) ≡ true → n ≡ 64 → newer_below (suc below) start k since ≡ sum_of n (λ j. newer_nodes below (slot_start below start j) (is_inner (suc below) start) k since)
unfolding newer_below
sum-below below start k since n inner all =
    let f : ℕ → ℕ = λ j. newer_nodes below (slot_start below start j) (is_inner (suc below) start) k since in
    ap (λ t. cond t (sum_of 64 f) 0) inner ∙ ap (λ m. sum_of m f) (sym all)

-- The newer nodes below an inner node are those of all slots.
pub below-sum : (height below : ℕ) (start : ℤ) (k : Past) (since n : ℕ) → height ≡ suc below → is_inner height start (bag k) ≡ true → n ≡ 64 → newer_below height start k since ≡ sum_of n (λ j. newer_nodes below (slot_start below start j) (is_inner (suc below) start) k since)
below-sum height below start k since n e inner all =
    ap (λ g. newer_below g start k since) e
    ∙ sum-below below start k since n (ap (λ g. is_inner g start (bag k)) (sym e) ∙ inner) all

-- One slot more.
pub bounded-slot : (below : ℕ) (start : ℤ) (i : ℕ) (part : SpanValue) (k : Past) (since first mid last : ℕ) → part ≡ record { start = slot_start below start i; height = below } → mid ≤ first + sum_of i (λ j. newer_nodes below (slot_start below start j) (is_inner (suc below) start) k since) → last ≤ mid + newer_nodes part.height part.start (is_inner (suc below) start) k since → last ≤ first + sum_of (i + 1) (λ j. newer_nodes below (slot_start below start j) (is_inner (suc below) start) k since)
bounded-slot below start i part k since first mid last is before here =
    let f : ℕ → ℕ = λ j. newer_nodes below (slot_start below start j) (is_inner (suc below) start) k since in
    let same : newer_nodes part.height part.start (is_inner (suc below) start) k since ≡ f i = ap (λ (u : SpanValue). newer_nodes u.height u.start (is_inner (suc below) start) k since) is in
    let next : sum_of (i + 1) f ≡ sum_of i f + f i = sum-next i f in
    omega arith

sum-within : (i n : ℕ) (f : ℕ → ℕ) → i ≤ n → sum_of i f ≤ sum_of n f
sum-within i zero f low =
    let same : i ≡ 0 = omega arith in
    omega (arith, ap (λ m. sum_of m f) same)
sum-within i (suc n) f low =
    elim (eq-or-lt_of_le low) [
      | inl same ↦ omega (arith, ap (λ m. sum_of m f) same)
      | inr less ↦ let before = sum-within i n f (omega arith) in omega arith
    ]

-- The newer nodes of some slots are at most those below the inner node.
pub bounded-exit : (height below : ℕ) (start : ℤ) (i : ℕ) (k : Past) (since first last : ℕ) → height ≡ suc below → is_inner height start (bag k) ≡ true → i < 64 → last ≤ first + sum_of (i + 1) (λ j. newer_nodes below (slot_start below start j) (is_inner (suc below) start) k since) → last ≤ first + newer_below height start k since
bounded-exit height below start i k since first last e inner low few =
    let f : ℕ → ℕ = λ j. newer_nodes below (slot_start below start j) (is_inner (suc below) start) k since in
    let all = below-sum height below start k since 64 e inner refl in
    let more = sum-within (i + 1) 64 f (omega arith) in
    omega arith

-- ---- All nodes of a span.

one-or-more : (t : Bool) (n : ℕ) → t ≡ true → 1 ≤ cond t 1 0 + n
one-or-more t n e = subst (λ u. 1 ≤ cond u 1 0 + n) (sym e) (omega arith)

-- A span with a point has a node.
pub nodes-some : (height : ℕ) (start : ℤ) (b : List Point) → 0 < length (points_of height start b) → 1 ≤ nodes_in height start b
unfolding nodes_in
nodes-some zero start b some =
    omega (arith, one-or-more (has_points (points_of zero start b)) 0 (has-some (points_of zero start b) some))
nodes-some (suc below) start b some =
    one-or-more (has_points (points_of (suc below) start b)) _ (has-some (points_of (suc below) start b) some)

nodes-below : (below : ℕ) (start : ℤ) (b : List Point) (n : ℕ) → LEAF_POINTS < length (points_of (suc below) start b) → n ≡ 64 → nodes_in (suc below) start b ≡ 1 + sum_of n (λ j. nodes_in below (slot_start below start j) b)
unfolding nodes_in
nodes-below below start b n many all =
    let f : ℕ → ℕ = λ j. nodes_in below (slot_start below start j) b in
    let inner : is_inner (suc below) start b ≡ true = grind (arith, nat_tests) in
    let some : has_points (points_of (suc below) start b) ≡ true = has-some (points_of (suc below) start b) (omega arith) in
    ap {B = ℕ} (λ t. cond t 1 0 + cond (is_inner (suc below) start b) (sum_of 64 f) 0) some
    ∙ ap {B = ℕ} (λ t. 1 + cond t (sum_of 64 f) 0) inner
    ∙ ap (λ m. 1 + sum_of m f) (sym all)

-- The nodes of an inner node are its own and those of all slots.
pub nodes-sum : (height below : ℕ) (start : ℤ) (b : List Point) (n : ℕ) → height ≡ suc below → LEAF_POINTS < length (points_of height start b) → n ≡ 64 → nodes_in height start b ≡ 1 + sum_of n (λ j. nodes_in below (slot_start below start j) b)
nodes-sum height below start b n e many all =
    ap (λ g. nodes_in g start b) e
    ∙ nodes-below below start b n (subst (λ g. LEAF_POINTS < length (points_of g start b)) e many) all

-- One slot more.
pub nodes-slot : (below : ℕ) (start : ℤ) (i : ℕ) (part : SpanValue) (b : List Point) (first mid last more : ℕ) → part ≡ record { start = slot_start below start i; height = below } → mid ≤ first + sum_of i (λ j. nodes_in below (slot_start below start j) b) → last ≤ mid + nodes_in part.height part.start b + more → last ≤ first + sum_of (i + 1) (λ j. nodes_in below (slot_start below start j) b) + more
nodes-slot below start i part b first mid last more is before here =
    let f : ℕ → ℕ = λ j. nodes_in below (slot_start below start j) b in
    let same : nodes_in part.height part.start b ≡ f i = ap (λ (u : SpanValue). nodes_in u.height u.start b) is in
    let next : sum_of (i + 1) f ≡ sum_of i f + f i = sum-next i f in
    omega arith

-- The nodes of some slots, and that of the span above them, are at most those of the span.
pub nodes-exit : (height below : ℕ) (start : ℤ) (i : ℕ) (b : List Point) (first last more : ℕ) → height ≡ suc below → LEAF_POINTS < length (points_of height start b) → i ≤ 64 → last ≤ first + sum_of i (λ j. nodes_in below (slot_start below start j) b) + more → last + 1 ≤ first + nodes_in height start b + more
nodes-exit height below start i b first last more e many low few =
    let f : ℕ → ℕ = λ j. nodes_in below (slot_start below start j) b in
    let all = nodes-sum height below start b 64 e many refl in
    let most = sum-within i 64 f low in
    omega arith

-- Slots are left out.
pub nodes-more : (below : ℕ) (start : ℤ) (i n : ℕ) (b : List Point) (first last : ℕ) → i ≤ n → last ≤ first + sum_of i (λ j. nodes_in below (slot_start below start j) b) → last ≤ first + sum_of n (λ j. nodes_in below (slot_start below start j) b)
nodes-more below start i n b first last low few =
    let most = sum-within i n (λ j. nodes_in below (slot_start below start j) b) low in
    omega arith

-- ---- Visits of the newer tree.

-- A visit of a slot with a point and a newer version counts no more than its node.
pub slot-visited : {Site : Type 0} (IsAt : Site → ℕ → ℤ → (List Point → Bool) → Past → Type 0) (task : Task) (version count : ℕ) (site : Site) (old new : ℕ) → 0 < count → task.by.since < version → old ≤ new → new ≤ old + 1 → CountsSlot task IsAt version count site old new
slot-visited IsAt task version count site old new some newer up most =
    record {
      bounded = λ k slot.
          let one = newer-slot IsAt task.span task.by.since version count site k some newer slot in
          omega arith;
      never_falls = up;
    }

-- A visit of such a slot, and of nodes below it.
pub slot-walked : {Site : Type 0} (IsAt : Site → ℕ → ℤ → (List Point → Bool) → Past → Type 0) (task : Task) (version count : ℕ) (site : Site) (old mid new : ℕ) → 0 < count → task.by.since < version → old ≤ mid → mid ≤ old + 1 → mid ≤ new → ((k : Past) → (slot : IsSlotOf version count site IsAt task.span k) → new ≤ mid + newer_below task.span.height task.span.start k task.by.since) → CountsSlot task IsAt version count site old new
slot-walked IsAt task version count site old mid new some newer up most later few =
    record {
      bounded = λ k slot.
          let one = newer-slot IsAt task.span task.by.since version count site k some newer slot in
          let more = few k slot in
          omega arith;
      never_falls = omega arith;
    }

-- ---- Visits of the older tree.

-- A visit of a place that has a point counts no more than its node.
pub older-visited : {Site E : Type 0} (IsAt : Site → ℕ → ℤ → (List Point → Bool) → Past → Type 0) (span : SpanValue) (site : Site) (old new : ℕ) (r : Result (Unit {0}) (WalkFault E)) → ((above : List Point → Bool) (h : Past) → IsAt site span.height span.start above h → 0 < length (points_in span (bag h))) → old ≤ new → new ≤ old + 1 → CountsOlder 0 span IsAt (IsPlace site) old new r
older-visited IsAt span site old new r some up most =
    record {
      bounded = λ h is.
          let one = nodes-some span.height span.start (bag h) (some is.0 h is.1) in
          omega arith;
      never_falls = up;
    }

-- The points of a leaf are some.
pub leaf-some : (span : SpanValue) (above : List Point → Bool) (h : Past) (v : ℕ) (ps : List Point) → IsLeaf span.height span.start above h v ps → 0 < length (points_in span (bag h))
leaf-some span above h v ps leaf =
    let some = leaf.some in
    omega (arith, ap (length {A = Point}) leaf.same)

-- All slots, or some of them and then a refusal.
pub older-slots : {Site E : Type 0} (IsAt : Site → ℕ → ℤ → (List Point → Bool) → Past → Type 0) (place : ℕ → Site) (slots : ℕ → Slot) (span : SpanValue) (i old new : ℕ) (r : Result (Unit {0}) (WalkFault E)) → i ≤ 64 → ((h : Past) → (at : AreSlotsAt IsAt place slots span h) → new ≤ old + sum_of i (λ j. nodes_in at.below (slot_start at.below span.start j) (bag h)) + refusals r) → old ≤ new → CountsOlder 1 span IsAt (AreSlotsOf place slots) old new r
older-slots IsAt place slots span i old new r low few up =
    record {
      bounded = λ h at. nodes-exit span.height at.below span.start i (bag h) old new (refusals r) at.above at.many low (few h at);
      never_falls = up;
    }

-- A visit of an inner node, and then of nodes below it.
pub older-inner : {Site E : Type 0} (IsAt : Site → ℕ → ℤ → (List Point → Bool) → Past → Type 0) (place : ℕ → Site) (slots : ℕ → Slot) (span : SpanValue) (site : Site) (old mid new : ℕ) (r : Result (Unit {0}) (WalkFault E)) → ((above : List Point → Bool) (h : Past) → IsAt site span.height span.start above h → AreSlotsAt IsAt place slots span h) → old ≤ mid → mid ≤ old + 1 → CountsOlder 1 span IsAt (AreSlotsOf place slots) mid new r → CountsOlder 0 span IsAt (IsPlace site) old new r
older-inner IsAt place slots span site old mid new r inner up most below =
    record {
      bounded = λ h is.
          let few = below.bounded h (inner is.0 h is.1) in
          omega arith;
      never_falls = let more = below.never_falls in omega arith;
    }
