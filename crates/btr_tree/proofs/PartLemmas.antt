-- Lemmas on two parts of the slots of a span, and on both together.
use Rattle.std.specs.Prelude.{◌≡◌, ◌⊎◌, ℕ, ◌+◌, ◌-◌, ◌*◌, ◌<◌, ◌≤◌, ◌^◌, ℤ, int_le, int_lt, true, false, not, cond, nat_lt, List, [], ◌∷◌, ◌++◌, length, slice_get, Option, None, Bool, ◌||◌}
use Rattle.std.specs.List.{filter}
use Rattle.std.proofs.Common.{zero, suc, refl, sym, ap, ◌∙◌, arith, subst, inl, inr, mul-le-mul_right, mul-add, append_assoc}
use Rattle.std.proofs.lemmas.Bool.{cases_lt}
use Rattle.std.proofs.Math.Nat.{lt_of_not-le}
use Rattle.std.proofs.lemmas.Bool.Decides.{nat_tests}
use Rattle.std.proofs.lemmas.Int.{ints}
use Rattle.std.proofs.lemmas.List.{length-append, length-map, length_push, map-append}
use Rattle.btr_base.specs.declared.point.Point.{Point}
use Rattle.btr_base.specs.Agg.{agg, AggValue, no_points}
use Rattle.btr_base.specs.Point.{AreInDomain}
use Rattle.btr_base.proofs.AggLemmas.{agg-count}
use Rattle.btr_base.proofs.PointLemmas.{sort-of_order}
use Rattle.btr_base.specs.declared.limits.TheConstants.{FIRST, LEAF_POINTS, MAX_POINTS}
use Rattle.btr_base.specs.Bag.{within, outside, sort, IsInOrder}
use Rattle.btr_base.specs.Span.{width, time_at, SpanValue, IsSpan, slot_of}
use Rattle.btr_base.proofs.SpanLemmas.{width-times}
use Rattle.btr_base.proofs.ListLemmas.{filter-same}
use Rattle.btr_base.proofs.WithinLemmas.{within-nested, within-before, within-from, within-in_order}
use Rattle.btr_tree.specs.declared.fault.TreeFault.{TreeFault}
use Rattle.btr_tree.specs.declared.fault.TreeFault.TheVariants.{Crowded, TooManyPoints, Want}
use Rattle.btr_tree.specs.declared.node.NodeData.{NodeData}
use Rattle.btr_tree.specs.declared.node.Slot.{Slot}
use Rattle.btr_tree.specs.declared.slots.Slots.{Slots}
use Rattle.btr_tree.specs.Change.{IsFresh, IsInnerOf, IsCounted, AtEachFresh, end_of}
use Rattle.btr_tree.specs.History.{Commit, Past, ◌▷◌, bag, nothing}
use Rattle.btr_tree.specs.Crowd.{HasNoCrowdedSpan, IsFirstCrowd, IsCrowdedFault}
use Rattle.btr_tree.specs.NewNodes.{NewNodeValue, bare, bare_all, concat_first, new_nodes}
use Rattle.btr_tree.specs.Nodes.{points_of, has_points, touches, is_inner, is_node, above_root}
use Rattle.btr_tree.specs.Root.{root_part, TreeValue, IsTree}
use Rattle.btr_tree.specs.Packed.{without_address}
use Rattle.btr_tree.specs.Shape.{slot_start, slot_of_points, HasSlots, IsChild}
use Rattle.btr_tree.specs.Shared.{slot_from, slot_nodes, IsSplitPart, IsWork, IsPartWork, IsBuilt, IsBuiltPart, IsPartFault, AreJoined}
use Rattle.btr_tree.specs.Slots.{slot_in, child_in, block_of, base_of, first_slots, IsPut}
use Rattle.btr_tree.specs.Stored.{Store, laid, IsLaid}
use Rattle.btr_tree.proofs.CrowdLemmas.{Whole, room-none, room-join, room-part, crowd-part}
use Rattle.btr_tree.proofs.AppliedNodeLemmas.{change-after}
use Rattle.btr_tree.proofs.RootLemmas.{domain-after, root-change, root-points, tree-of, tree-none}
use Rattle.btr_tree.proofs.BuiltNodeLemmas.{slot-fresh, slot-new, slot-made, inner-child_at, version-fresh}
use Rattle.btr_tree.proofs.NodeLemmas.{slot-order, slot-part, slot-next}
use Rattle.btr_tree.proofs.NewNodeLemmas.{first-next, reported-more, bare-push, new_nodes-inner_at}
use Rattle.btr_tree.proofs.NewNodeCountLemmas.{new_nodes-points}
use Rattle.btr_tree.proofs.UntouchedNodeLemmas.{many-inner, child-counted}
use Rattle.btr_tree.proofs.SharedLemmas.{slot_from-is, slot_from-first, slot_from-last, whole-split, alone, alone-fresh}
use Rattle.btr_tree.proofs.SlotSplitLemmas.{parted-inside}
use Rattle.btr_tree.proofs.StoredLemmas.{stored-below, laid-inner}

-- ---- the points of two parts

late : (t m : ℤ) → not (int_lt t m) ≡ int_le m t
late t m = grind (arith, ints)

-- The points of the slots before one, and those from it on.
pub record IsHalved (span : SpanValue) (from mid to : ℕ) (points front back : List Point) : Type 0 where
  pub low : from < mid
  pub high : mid < to
  pub is_front : front ≡ within (slot_from span from) (slot_from span mid) points
  pub is_back : back ≡ within (slot_from span mid) (slot_from span to) points
  pub all : front ++ back ≡ points
  pub whole_mid : Whole (slot_from span mid)
  pub whole_to : Whole (slot_from span to)

-- Each bottom span that starts before a multiple of a width ends by it.
grid-whole : (n h : ℕ) → Whole (time_at (n * width h))
grid-whole n h j lt =
    let w = width 0 in
    let times = width-times h 0 in
    let z : h + 0 ≡ h = omega arith in
    let e : width h ≡ times.0 * w = sym (ap width z) ∙ times.1 in
    let begins : n * width h ≡ n * (times.0 * w) = ap (λ v. n * v) e in
    let before : j < n * times.0 = lt_of_not-le (λ le. let m : n * times.0 * w ≤ j * w = mul-le-mul_right w le in absurd (omega (arith, ints))) in
    let next : suc j * w ≤ n * times.0 * w = mul-le-mul_right w before in
    omega (arith, ints)

pub slot-whole : (span : SpanValue) (mid i : ℕ) → mid ≤ i → IsSpan (slot_of span mid) → Whole (slot_from span i)
slot-whole span mid i le aligned =
    let w = width (span.height - 1) in
    let n = aligned.0 in
    let d = i - mid in
    let place : mid + d ≡ i = omega arith in
    let sum : i * w ≡ mid * w + d * w = ap (λ x. x * w) (sym place) ∙ omega arith in
    let more : (n + d) * w ≡ n * w + d * w = omega arith in
    let begin = aligned.1.start in
    let is : time_at ((n + d) * w) ≡ slot_from span i = omega (arith, ints) in
    subst Whole is (grid-whole (n + d) (span.height - 1))

pub halved : (span : SpanValue) (from mid to : ℕ) (points front back : List Point) (time : ℤ) → from < mid → mid < to → IsSpan (slot_of span mid) → time ≡ slot_from span mid → within (slot_from span from) (slot_from span to) points ≡ points → front ≡ filter (λ p. int_lt p.time time) points → back ≡ filter (λ p. not (int_lt p.time time)) points → front ++ back ≡ points → IsHalved span from mid to points front back
halved span from mid to points front back time low high aligned e inside f b all =
    let a = slot_from span from in
    let m = slot_from span mid in
    let t = slot_from span to in
    let up = slot-order (span.height - 1) span.start from mid (omega arith) in
    let on = slot-order (span.height - 1) span.start mid to (omega arith) in
    record {
      low = low;
      high = high;
      is_front = f ∙ ap (λ t. filter (λ p. int_lt p.time t) points) e ∙ ap (filter (λ p. int_lt p.time m)) (sym inside) ∙ within-before a t m points on;
      is_back = b ∙ ap (λ t. filter (λ p. not (int_lt p.time t)) points) e ∙ ap (filter (λ p. not (int_lt p.time m))) (sym inside)
          ∙ filter-same (λ p. not (int_lt p.time m)) (λ p. int_le m p.time) (within a t points) (λ p. late p.time m)
          ∙ within-from a t m points up;
      all = all;
      whole_mid = slot-whole span mid mid (omega arith) aligned;
      whole_to = slot-whole span mid to (omega arith) aligned;
    }

points-sum : (front back points : List Point) → front ++ back ≡ points → length front + length back ≡ length points
points-sum front back points all = sym (length-append front back) ∙ ap (length {A = Point}) all

pub front-work : (span : SpanValue) (from mid to : ℕ) (points front back : List Point) (first : ℕ) → IsPartWork span from to points first → IsHalved span from mid to points front back → IsPartWork span from mid front first
front-work span from mid to points front back first w h =
    let sum = points-sum front back points h.all in
    let room = w.room in
    let place = w.place in
    let high = h.high in
    record {
      height = w.height;
      some_slot = h.low;
      place = omega arith;
      order = subst IsInOrder (sym h.is_front) (within-in_order (slot_from span from) (slot_from span mid) points w.order);
      inside = parted-inside (slot_from span from) (slot_from span mid) points front h.is_front;
      some = w.some;
      room = omega arith;
    }

pub back-work : (span : SpanValue) (from mid to : ℕ) (points front back : List Point) (first : ℕ) → IsPartWork span from to points first → IsHalved span from mid to points front back → IsPartWork span mid to back first
back-work span from mid to points front back first w h =
    let sum = points-sum front back points h.all in
    let room = w.room in
    record {
      height = w.height;
      some_slot = h.high;
      place = w.place;
      order = subst IsInOrder (sym h.is_back) (within-in_order (slot_from span mid) (slot_from span to) points w.order);
      inside = parted-inside (slot_from span mid) (slot_from span to) points back h.is_back;
      some = w.some;
      room = omega arith;
    }

pub both-room : (span : SpanValue) (from mid to : ℕ) (points front back : List Point) (first : ℕ) → IsPartWork span from to points first → IsHalved span from mid to points front back → first + 11 * (length front + length back) ≤ 2 ^ 62
both-room span from mid to points front back first w h =
    let sum = points-sum front back points h.all in
    let room = w.room in
    omega arith

-- Points of the second part, whose nodes follow those of the first.
pub later-work : (span : SpanValue) (from to : ℕ) (points : List Point) (first second : ℕ) → first ≤ second → second + 11 * length points ≤ 2 ^ 62 → IsPartWork span from to points first → IsPartWork span from to points second
later-work span from to points first second le room w =
    let some = w.some in
    record {
      height = w.height;
      some_slot = w.some_slot;
      place = w.place;
      order = w.order;
      inside = w.inside;
      some = omega arith;
      room = room;
    }

-- ---- what is crowded

pub halves-fault : (span : SpanValue) (from mid to : ℕ) (points front back : List Point) (e : TreeFault) → IsHalved span from mid to points front back → IsPartFault span from mid front e ⊎ (HasNoCrowdedSpan (slot_from span from) (slot_from span mid) front × IsPartFault span mid to back e) → IsPartFault span from to points e
halves-fault span from mid to points front back (Crowded start) h either =
    let a = slot_from span from in
    let m = slot_from span mid in
    let t = slot_from span to in
    let low = h.low in
    let high = h.high in
    let up = slot-order (span.height - 1) span.start from mid (omega arith) in
    let on = slot-order (span.height - 1) span.start mid to (omega arith) in
    elim either [
      | inl f ↦ (f.0, crowd-part a t a m points start f.0 h.whole_mid (omega (arith, ints)) on (room-none a points) (subst (λ x. IsFirstCrowd a m x start f.0) h.is_front f.1))
      | inr r ↦ (r.1.0, crowd-part a t m t points start r.1.0 h.whole_to up (omega (arith, ints)) (room-part a m points h.whole_mid (subst (HasNoCrowdedSpan a m) h.is_front r.0)) (subst (λ x. IsFirstCrowd m t x start r.1.0) h.is_back r.1.1))
    ]
halves-fault span from mid to points front back (TooManyPoints count) h either =
    elim either [ inl f ↦ absurd f | inr r ↦ absurd r.1 ]
halves-fault span from mid to points front back Want h either = tt

-- ---- nodes that are laid after others

get-before : (xs ys : List NewNodeValue) (n : ℕ) → n < length xs → slice_get (xs ++ ys) n ≡ slice_get xs n
get-before [] ys n lt = absurd (omega arith)
get-before (x ∷ xs) ys zero lt = refl
get-before (x ∷ xs) ys (suc n) lt = get-before xs ys n (omega arith)

get-after : (xs ys : List NewNodeValue) (n : ℕ) → slice_get (xs ++ ys) (length xs + n) ≡ slice_get ys n
get-after [] ys n = let e : 0 + n ≡ n = omega arith in ap (slice_get ys) e
get-after (x ∷ xs) ys n =
    let e : suc (length xs) + n ≡ suc (length xs + n) = omega arith in
    ap (slice_get (x ∷ (xs ++ ys))) e ∙ get-after xs ys n

laid-old : (store : Store) (first : ℕ) (nodes : List NewNodeValue) (b : ℕ) → b < first → laid store first nodes b ≡ store b
laid-old store first nodes b lt =
    let yes : nat_lt b first ≡ true = grind (arith, nat_tests) in
    ap (λ t. cond t (store b) (slice_get nodes (b - first))) yes

laid-new : (store : Store) (first : ℕ) (nodes : List NewNodeValue) (b : ℕ) → first ≤ b → laid store first nodes b ≡ slice_get nodes (b - first)
laid-new store first nodes b le =
    let no : nat_lt b first ≡ false = grind (arith, nat_tests) in
    ap (λ t. cond t (store b) (slice_get nodes (b - first))) no

-- The second list laid after the first is both laid as one.
laid-twice : (store : Store) (first : ℕ) (xs ys : List NewNodeValue) (b : ℕ) → laid store first (xs ++ ys) b ≡ laid (laid store first xs) (first + length xs) ys b
laid-twice store first xs ys b =
    elim (cases_lt b (first + length xs)) [
      | inl lt ↦ elim (cases_lt b first) [
        | inl less ↦ laid-old store first (xs ++ ys) b less ∙ sym (laid-old (laid store first xs) (first + length xs) ys b lt ∙ laid-old store first xs b less)
        | inr le ↦ laid-new store first (xs ++ ys) b le ∙ get-before xs ys (b - first) (omega arith) ∙ sym (laid-old (laid store first xs) (first + length xs) ys b lt ∙ laid-new store first xs b le)
      ]
      | inr le ↦
          let place : b - first ≡ length xs + (b - (first + length xs)) = omega arith in
          laid-new store first (xs ++ ys) b (omega arith) ∙ ap (slice_get (xs ++ ys)) place ∙ get-after xs ys (b - (first + length xs)) ∙ sym (laid-new (laid store first xs) (first + length xs) ys b le)
    ]

pub laid-front : (store : Store) (first : ℕ) (xs ys : List NewNodeValue) (k : ℕ) (s : ℤ) (child : Option NodeData) → IsLaid store first xs k s child → IsLaid store first (xs ++ ys) k s child
laid-front store first xs ys k s child h =
    let long = length-append xs ys in
    let low = h.below in
    record {
      stored = stored-below (laid store first xs) (laid store first (xs ++ ys)) (first + length xs) (λ b lt. laid-twice store first xs ys b ∙ laid-old (laid store first xs) (first + length xs) ys b lt) k s child low h.stored;
      below = omega arith;
    }

pub laid-back : (store : Store) (first : ℕ) (xs ys : List NewNodeValue) (k : ℕ) (s : ℤ) (child : Option NodeData) → IsLaid (laid store first xs) (first + length xs) ys k s child → IsLaid store first (xs ++ ys) k s child
laid-back store first xs ys k s child h =
    let long = length-append xs ys in
    let low = h.below in
    record {
      stored = stored-below (laid (laid store first xs) (first + length xs) ys) (laid store first (xs ++ ys)) (first + length xs + length ys) (λ b lt. laid-twice store first xs ys b) k s child low h.stored;
      below = omega arith;
    }

-- ---- two parts as one

front-split : (below : ℕ) (span : SpanValue) (from mid to : ℕ) (h : Past) (c : Commit) (version : ℕ) (points front back : List Point) → IsHalved span from mid to points front back → IsSplitPart below span from to h c version points → IsSplitPart below span from mid h c version front
front-split below span from mid to h c version points front back d split =
    let s = span.start in
    let high = d.high in
    let low = d.low in
    record {
      height = split.height;
      number = split.number;
      same = d.is_front
          ∙ ap (λ x. within x (slot_from span mid) points) (slot_from-is span below from split.height)
          ∙ ap (λ x. within (slot_start below s from) x points) (slot_from-is span below mid split.height)
          ∙ ap (within (slot_start below s from) (slot_start below s mid)) split.same
          ∙ within-nested (slot_start below s from) (slot_start below s to) (slot_start below s from) (slot_start below s mid) (bag (c ▷ h)) (omega (arith, ints)) (slot-order below s mid to (omega arith));
      few = split.few;
      many = split.many;
    }

back-split : (below : ℕ) (span : SpanValue) (from mid to : ℕ) (h : Past) (c : Commit) (version : ℕ) (points front back : List Point) → IsHalved span from mid to points front back → IsSplitPart below span from to h c version points → IsSplitPart below span mid to h c version back
back-split below span from mid to h c version points front back d split =
    let s = span.start in
    let low = d.low in
    record {
      height = split.height;
      number = split.number;
      same = d.is_back
          ∙ ap (λ x. within x (slot_from span to) points) (slot_from-is span below mid split.height)
          ∙ ap (λ x. within (slot_start below s mid) x points) (slot_from-is span below to split.height)
          ∙ ap (within (slot_start below s mid) (slot_start below s to)) split.same
          ∙ within-nested (slot_start below s from) (slot_start below s to) (slot_start below s mid) (slot_start below s to) (bag (c ▷ h)) (slot-order below s from mid (omega arith)) (omega (arith, ints));
      few = split.few;
      many = split.many;
    }

nodes-joined : (a m t x y z : List NewNodeValue) → m ≡ a ++ x → t ≡ m ++ y → z ≡ x ++ y → t ≡ a ++ z
nodes-joined a m t x y z e f g =
    f ∙ ap (λ u. u ++ y) e ∙ append_assoc a x y ∙ ap (λ u. a ++ u) (sym g)

few-joined : (height a b x y : ℕ) → x ≤ height * a → y ≤ height * b → x + y ≤ height * (a + b)
few-joined height a b x y h k = let e = mul-add height a b in omega arith

pub part-joined : (span : SpanValue) (from mid to version first : ℕ) (points front back : List Point) (x y z : Slots) (xs ys zs : List NewNodeValue) → IsHalved span from mid to points front back → IsBuiltPart span from mid version first front x xs → IsBuiltPart span mid to version (first + length xs) back y ys → AreJoined mid to x y z → zs ≡ xs ++ ys → IsBuiltPart span from to version first points z zs
part-joined span from mid to version first points front back x y z xs ys zs d f g j reported =
    let long = ap (length {A = NewNodeValue}) reported ∙ length-append xs ys in
    let sum = points-sum front back points d.all in
    let low = d.low in
    let high = d.high in
    record {
      filled = j.filled;
      base = j.base ∙ f.base;
      slots = λ below h c split i begin end. elim (cases_lt i mid) [
        | inl lt ↦ j.front_slots i lt ∙ f.slots below h c (front-split below span from mid to h c version points front back d split) i begin lt
        | inr le ↦ j.back_slots i le end ∙ ap without_address (g.slots below h c (back-split below span from mid to h c version points front back d split) i le end)
      ];
      children = λ below h c split i begin end. elim (cases_lt i mid) [
        | inl lt ↦ subst (IsChild below (slot_start below span.start i) (is_inner (suc below) span.start) (c ▷ h)) (sym (j.front_children i lt)) (f.children below h c (front-split below span from mid to h c version points front back d split) i begin lt)
        | inr le ↦ subst (IsChild below (slot_start below span.start i) (is_inner (suc below) span.start) (c ▷ h)) (sym (j.back_children i le end)) (g.children below h c (back-split below span from mid to h c version points front back d split) i le end)
      ];
      nodes = λ below h c split. nodes-joined (concat_first from (slot_nodes below span.start (c ▷ h) version)) (concat_first mid (slot_nodes below span.start (c ▷ h) version)) (concat_first to (slot_nodes below span.start (c ▷ h) version)) (bare_all xs) (bare_all ys) (bare_all zs) (f.nodes below h c (front-split below span from mid to h c version points front back d split)) (g.nodes below h c (back-split below span from mid to h c version points front back d split)) (ap bare_all reported ∙ map-append bare xs ys);
      stored = λ store below up i begin end. subst (λ (ns : List NewNodeValue). IsLaid store first ns below (slot_start below span.start i) (child_in z i)) (sym reported) (elim (cases_lt i mid) [
        | inl lt ↦ subst (IsLaid store first (xs ++ ys) below (slot_start below span.start i)) (sym (j.front_children i lt)) (laid-front store first xs ys below (slot_start below span.start i) (child_in x i) (f.stored store below up i begin lt))
        | inr le ↦ subst (IsLaid store first (xs ++ ys) below (slot_start below span.start i)) (sym (j.back_children i le end)) (laid-back store first xs ys below (slot_start below span.start i) (child_in y i) (g.stored (laid store first xs) below up i le end))
      ]);
      few = subst (λ u. u ≤ span.height * length points) (sym long) (subst (λ u. length xs + length ys ≤ span.height * u) sum (few-joined span.height (length front) (length back) (length xs) (length ys) f.few g.few));
      room = room-join (slot_from span from) (slot_from span mid) (slot_from span to) points (room-part (slot_from span from) (slot_from span mid) points d.whole_mid (subst (HasNoCrowdedSpan (slot_from span from) (slot_from span mid)) d.is_front f.room)) (room-part (slot_from span mid) (slot_from span to) points d.whole_to (subst (HasNoCrowdedSpan (slot_from span mid) (slot_from span to)) d.is_back g.room));
    }

-- As many nodes were built as were counted.
pub counted-reported : (a m reported : List NewNodeValue) (n : ℕ) → m ≡ a ++ bare_all reported → length m ≡ length a + n → n ≡ length reported
counted-reported a m reported n e f =
    let long = ap (length {A = NewNodeValue}) e ∙ length-append a (bare_all reported) in
    let same = length-map reported bare in
    omega arith

-- After the first part, the second has blocks enough from the next free block on.
pub later-room : (span : SpanValue) (first n front back : ℕ) → IsSpan span → n ≤ span.height * front → first + 11 * (front + back) ≤ 2 ^ 62 → first + n + 11 * back ≤ 2 ^ 62
later-room span first n front back aligned few room =
    let most : span.height * front ≤ 10 * front = mul-le-mul_right front aligned.1.height in
    omega arith

-- ---- one slot

sub-add_one : (n : ℕ) → 1 ≤ n → n - 1 + 1 ≡ n
sub-add_one n some = omega arith

one-is : (i j : ℕ) → i ≤ j → j < i + 1 → j ≡ i
one-is i j low high = omega arith

pub one-inside : (span : SpanValue) (i : ℕ) (points : List Point) → within (slot_from span i) (slot_from span (i + 1)) points ≡ points → within (slot_of span i).start (end_of (slot_of span i)) points ≡ points
one-inside span i points inside =
    ap (λ x. within (slot_from span i) x points) (sym (slot-next (span.height - 1) span.start i)) ∙ inside

pub one-part : (span : SpanValue) (i version first : ℕ) (points : List Point) (slot : Slot) (child : Option NodeData) (old new : Slots) (reported : List NewNodeValue) → 1 ≤ span.height → i < 64 → IsPut i slot child old new → base_of old ≡ version → slot ≡ record { agg = agg points; version = version; child = 0 } → IsBuilt (slot_of span i) version first points child reported → IsBuiltPart span i (i + 1) version first points new reported
one-part span i version first points slot child old new reported height place put base is b =
    let part = slot_of span i in
    let s = span.start in
    let fresh = λ (below : ℕ) (h : Past) (c : Commit) (split : IsSplitPart below span i (i + 1) h c version points).
    let same : points ≡ points_of below (slot_start below s i) (bag (c ▷ h)) = split.same ∙ ap (λ x. within (slot_start below s i) x (bag (c ▷ h))) (slot-next below s i) in
    slot-fresh below s i h c version points place split.number same split.few
    in
    let at = λ (below : ℕ) (h : Past) (c : Commit) (split : IsSplitPart below span i (i + 1) h c version points). subst (λ (u : SpanValue). IsFresh u.height u.start (is_inner (suc below) s) h c version points) (sym (slot-part span below i split.height)) (fresh below h c split) in
    record {
      filled = put.filled;
      base = put.base ∙ base;
      slots = λ below h c split j low high.
          let made = slot-made below s i h c version points slot split.number (fresh below h c split).same (slot-new below s i h c split.few) is in
          subst (λ m. slot_in new m ≡ slot_of_points (suc below) s below (slot_start below s m) (c ▷ h)) (sym (one-is i j low high)) (put.is ∙ ap without_address made);
      children = λ below h c split j low high.
          let child_is = subst (λ (u : SpanValue). IsChild u.height u.start (is_inner (suc below) s) (c ▷ h) child) (slot-part span below i split.height) (b.child (is_inner (suc below) s) h c (at below h c split)) in
          subst (λ m. IsChild below (slot_start below s m) (is_inner (suc below) s) (c ▷ h) (child_in new m)) (sym (one-is i j low high)) (subst (IsChild below (slot_start below s i) (is_inner (suc below) s) (c ▷ h)) (sym put.has) child_is);
      nodes = λ below h c split.
          let inner = many-inner (suc below) s (bag (c ▷ h)) split.many in
          let here = b.nodes (is_inner (suc below) s) h c (at below h c split) inner ∙ ap (λ (u : SpanValue). new_nodes u.height u.start (is_inner (suc below) s) (c ▷ h) version) (slot-part span below i split.height) in
          first-next i (slot_nodes below s (c ▷ h) version) ∙ ap (λ x. concat_first i (slot_nodes below s (c ▷ h) version) ++ x) (sym here);
      stored = λ store below high j low lt.
          let laid_here = subst (λ (u : SpanValue). IsLaid store first reported u.height u.start child) (slot-part span below i high) (b.stored store) in
          subst (λ m. IsLaid store first reported below (slot_start below s m) (child_in new m)) (sym (one-is i j low lt)) (subst (IsLaid store first reported below (slot_start below s i)) (sym put.has) laid_here);
      few = subst (λ k. length reported ≤ k * length points) (sub-add_one span.height height) b.few;
      room = subst (λ e. HasNoCrowdedSpan (slot_from span i) e points) (sym (slot-next (span.height - 1) s i)) b.room;
    }

-- ---- all slots

pub whole-work : (span : SpanValue) (below : ℕ) (points : List Point) (first : ℕ) → span.height ≡ suc below → IsWork span points first → IsPartWork span 0 64 points first
whole-work span below points first high w =
    record {
      height = omega arith;
      some_slot = omega arith;
      place = omega arith;
      order = w.order;
      inside = ap (λ x. within x (slot_from span 64) points) (slot_from-first span) ∙ ap (λ x. within span.start x points) (slot_from-last span below high) ∙ w.inside;
      some = w.some;
      room = w.room;
    }

pub whole-fault : (span : SpanValue) (below : ℕ) (points : List Point) (e : TreeFault) → span.height ≡ suc below → IsPartFault span 0 64 points e → IsCrowdedFault span.start (end_of span) points e
whole-fault span below points e high f =
    subst (λ x. IsCrowdedFault span.start x points e) (slot_from-last span below high) (subst (λ x. IsCrowdedFault x (slot_from span 64) points e) (slot_from-first span) f)

few-root : (n k p : ℕ) → 1 ≤ p → n ≤ k * p → n + 1 ≤ (k + 1) * p
few-root n k p some le = let e : (k + 1) * p ≡ k * p + p = omega arith in omega arith

-- The root over all slots.
pub whole-built : (span : SpanValue) (below version first : ℕ) (points : List Point) (x : Slots) (old new : List NewNodeValue) (root : Option NodeData) → span.height ≡ suc below → 1 ≤ first → LEAF_POINTS < length points → IsBuiltPart span 0 64 version first points x old → IsInnerOf version x root → block_of root ≡ first + length old → new ≡ old ++ record { span = span; version = version; points = []; slots = first_slots 64 x } ∷ [] → IsBuilt span version first points root new
whole-built span below version first points x old new root high some many p is at reported =
    let k = span.height in
    let s = span.start in
    let n : NewNodeValue = record { span = span; version = version; points = []; slots = first_slots 64 x } in
    let long : length new ≡ length old + 1 = ap (length {A = NewNodeValue}) reported ∙ length_push old n in
    let made : (above : List Point → Bool) (h : Past) (c : Commit) → IsFresh k s above h c version points → HasSlots below s (c ▷ h) x = λ above h c fresh. record { each = λ i lt. p.slots below h c (whole-split below span above h c version points high many fresh) i (omega arith) lt } in
    record {
      child = λ above h c fresh. inner-child_at k below s above h c version points x root high fresh many (made above h c fresh) (λ i lt. p.children below h c (whole-split below span above h c version points high many fresh) i (omega arith) lt) is;
      nodes = λ above h c fresh w.
          reported-more [] (bare_all old) (bare_all new) _ _ (new_nodes k s above (c ▷ h) version) (sym (p.nodes below h c (whole-split below span above h c version points high many fresh))) (bare-push old new n reported) (new_nodes-inner_at k below s above (c ▷ h) version x high w (version-fresh k s above h c version fresh.number fresh.fresh) (subst (λ x. LEAF_POINTS < length x) fresh.same many) (made above h c fresh));
      stored = λ store. laid-inner store first old new span below version x root some high is at reported (λ i lt. p.stored store below high i (omega arith) lt);
      few = subst (λ u. u ≤ (k + 1) * length points) (sym long) (few-root (length old) k (length points) (omega arith) p.few);
      room = subst (λ e. HasNoCrowdedSpan s e points) (slot_from-last span below high) (subst (λ e. HasNoCrowdedSpan e (slot_from span 64) points) (slot_from-first span) p.room);
    }

-- The nodes that one call of `build` makes.
pub alone-built : (span : SpanValue) (version first : ℕ) (points : List Point) (root : Option NodeData) (old new : List NewNodeValue) → IsWork span points first → old ≡ [] → AtEachFresh span version points (λ above h c. IsChild span.height span.start above (c ▷ h) root) → AtEachFresh span version points (λ above h c. above (bag (c ▷ h)) ≡ true → bare_all new ≡ bare_all old ++ new_nodes span.height span.start above (c ▷ h) version) → ((store : Store) → IsLaid store first new span.height span.start root) → HasNoCrowdedSpan span.start (end_of span) points → IsBuilt span version first points root new
alone-built span version first points root old new w none child nodes stored room =
    let k = span.height in
    let s = span.start in
    let empty = ap (length {A = NewNodeValue}) none in
    let each : AtEachFresh span version points (λ above h c. above (bag (c ▷ h)) ≡ true → bare_all new ≡ new_nodes k s above (c ▷ h) version) = λ above h c fresh w. nodes above h c fresh w ∙ ap (λ (x : List NewNodeValue). bare_all x ++ new_nodes k s above (c ▷ h) version) none in
    let fresh = alone-fresh k s version points w.order w.inside in
    let reported = ap (length {A = NewNodeValue}) (each above_root nothing (alone version points) fresh refl) in
    let same = length-map new bare in
    let most = new_nodes-points k s above_root (alone version points ▷ nothing) version in
    let all = ap (length {A = Point}) fresh.same in
    record {
      child = child;
      nodes = each;
      stored = stored;
      few = let x : suc k * length (points_of k s (bag (alone version points ▷ nothing))) ≡ (k + 1) * length points = ap (λ u. suc k * u) (sym all) ∙ ap (λ u. u * length points) (omega arith) in omega arith;
      room = room;
    }

-- ---- the tree of a first commit

-- What holds of the root's span after a commit to a tree without a point.
pub record IsFirstCommit (h : Past) (c : Commit) : Type 0 where
  pub fresh : IsFresh 10 FIRST above_root h c c.version c.added
  pub times : AreInDomain (bag (c ▷ h))
  pub all : bag (c ▷ h) ≡ c.added

or-right : (t : Bool) → (t || true) ≡ true
or-right t = grind arith

pub first-commit : (h : Past) (c : Commit) (t : TreeValue) → t.node ≡ None → IsTree h t → AreInDomain c.added → IsInOrder c.added → IsFirstCommit h c
first-commit h c t none tree times order =
    let empty : points_of 10 FIRST (bag h) ≡ [] = subst (IsChild 10 FIRST above_root h) none tree.node in
    let no : is_node above_root 10 FIRST (bag h) ≡ false = ap has_points empty in
    let long = ap (length {A = Point}) empty in
    let after = domain-after h c tree.times times in
    let same = change-after 10 FIRST h c c.cut c.added c.version (root-change c times) ∙ ap (λ x. sort (outside x c.cut ++ c.added)) empty ∙ sort-of_order c.added order in
    record {
      fresh = record {
        number = refl;
        same = sym same;
        fresh = ap (λ b. touches c 10 FIRST (bag h) || not b) no ∙ or-right (touches c 10 FIRST (bag h));
        small = λ _. omega arith;
      };
      times = after;
      all = sym (root-points (bag (c ▷ h)) after) ∙ same;
    }

-- The tree of the nodes that were built.
pub first-tree : (h : Past) (c : Commit) (first : ℕ) (p : Option NodeData) (total : AggValue) (reported : List NewNodeValue) → length c.added ≤ MAX_POINTS → IsFirstCommit h c → IsBuilt root_part c.version first c.added p reported → ((k : ℕ) (s : ℤ) (above : List Point → Bool) (g : Past) → IsChild k s above g p → total ≡ agg (points_of k s (bag g))) → IsTree (c ▷ h) (record { span = root_part; node = p; total = total })
first-tree h c first p total reported few f b counted =
    let holds = b.child above_root h c f.fresh in
    let sum = counted 10 FIRST above_root (c ▷ h) holds in
    let count : total.count ≡ length c.added = ap (λ (a : AggValue). a.count) (sum ∙ ap agg (root-points (bag (c ▷ h)) f.times ∙ f.all)) ∙ agg-count c.added in
    tree-of (c ▷ h) p total f.times holds sum (omega arith)

pub first-alone : (version : ℕ) (points : List Point) → AreInDomain points → IsInOrder points → IsFirstCommit nothing (alone version points)
first-alone version points times order =
    first-commit nothing (alone version points) (record { span = root_part; node = None; total = no_points }) refl (tree-none None no_points refl refl) times order

pub first-counted : (version first : ℕ) (points : List Point) (p : Option NodeData) (reported : List NewNodeValue) → AreInDomain points → IsInOrder points → length points ≤ MAX_POINTS → IsBuilt root_part version first points p reported → IsCounted p
first-counted version first points p reported times order few b =
    let f = first-alone version points times order in
    let most : length (points_of 10 FIRST (bag (alone version points ▷ nothing))) < 2 ^ 64 = subst (λ (x : List Point). length x < 2 ^ 64) f.fresh.same (omega arith) in
    child-counted 10 FIRST above_root (alone version points ▷ nothing) p most (b.child above_root nothing (alone version points) f.fresh)

pub first-work : (span : SpanValue) (points : List Point) (first : ℕ) → span ≡ root_part → IsInOrder points → AreInDomain points → length points ≤ MAX_POINTS → (1 ≤ first) × (first ≤ 2 ^ 33) → IsWork span points first
first-work span points first e order times few block =
    subst (λ u. IsWork u points first) (sym e) (record {
      order = order;
      inside = root-points points times;
      some = block.0;
      room = let most = block.1 in omega arith;
    })
