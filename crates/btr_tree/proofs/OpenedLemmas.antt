-- Lemmas on trees that are made of nodes that were read: their base is glued of the bases of their parts.
use Rattle.std.specs.Prelude.{◌≡◌, ◌⊎◌, ℕ, ◌+◌, ◌-◌, ◌<◌, ◌≤◌, ℤ, pos, ◌+ℤ◌, ◌≤ℤ◌, ◌<ℤ◌, int_le, Bool, true, false, cond, nat_lt, List, [], ◌++◌, length, get_or, Option, Some, None, IfSome, if◌then◌else◌}
use Rattle.std.specs.Prelude.{◌^◌, Vec}
use Rattle.std.specs.declared.alloc.Global.{Global}
use Rattle.std.proofs.Common.{zero, suc, refl, sym, ap, ◌∙◌, arith, subst, inl, inr, append-nil}
use Rattle.std.proofs.lemmas.Int.{ints}
use Rattle.std.proofs.lemmas.Bool.Decides.{nat_tests}
use Rattle.std.proofs.Math.Nat.{eq-or-lt_of_le}
use Rattle.btr_base.specs.Agg.{AggValue, agg, no_points, joined}
use Rattle.btr_base.specs.Bag.{IsInOrder, within, sort, is_within}
use Rattle.btr_base.specs.Span.{width, SpanValue, IsSpan}
use Rattle.btr_base.specs.declared.limits.TheConstants.{LEAF_POINTS, MAX_POINTS}
use Rattle.btr_base.specs.declared.point.Point.{Point}
use Rattle.btr_base.proofs.AggLemmas.{agg-count}
use Rattle.btr_base.proofs.ListLemmas.{filter-swap}
use Rattle.btr_base.proofs.PointLemmas.{sort-of_order, sort-sort}
use Rattle.btr_base.proofs.SpanLemmas.{width-positive}
use Rattle.btr_base.proofs.WithinLemmas.{within-sort, within-append}
use Rattle.btr_tree.specs.declared.node.Link.{Link}
use Rattle.btr_tree.specs.declared.node.NodeData.{NodeData, out-NodeData}
use Rattle.btr_tree.specs.declared.node.NodeData.TheOpen.{NodeData-F}
use Rattle.btr_tree.specs.declared.node.NodeData.TheVariants.{Leaf}
use Rattle.btr_tree.specs.declared.node.Slot.{Slot}
use Rattle.btr_tree.specs.declared.slots.Kept.{Kept}
use Rattle.btr_tree.specs.declared.slots.Slots.{Slots}
use Rattle.btr_tree.specs.Change.{IsLeafOf, IsInnerOf, joined_first}
use Rattle.btr_tree.specs.History.{Past, Opened}
use Rattle.btr_tree.specs.NewNodes.{concat_first}
use Rattle.btr_tree.specs.Nodes.{points_of, is_inner, above_root}
use Rattle.btr_tree.specs.Opened.{part_at, part_slot, part_node, part_total, joined_parts, HasParts, IsPart, AreParts, IsLeafTree, IsInnerTree}
use Rattle.btr_tree.specs.Root.{TreeValue, version_of, version_of_kind, WasOpened}
use Rattle.btr_tree.specs.Shape.{ByKind, slot_start, IsLeaf, IsInner, HasSlots, HasChildren, IsChild}
use Rattle.btr_tree.specs.Slots.{slot_in, child_in, block_of, block_of_kind, AreSameSlots, IsPut}
use Rattle.btr_tree.specs.Packed.{without_address}
use Rattle.btr_tree.proofs.BuiltNodeLemmas.{by_kind-weaker, slots-same, children-same}
use Rattle.btr_tree.proofs.NewNodeLemmas.{first-none}
use Rattle.btr_tree.proofs.NodeLemmas.{out-leaf, slot-next, slot-order, slot-from, slot-inside, slot-part, points-slot, joined-suc, joined-none, total-of}
use Rattle.btr_tree.proofs.RangeSlotLemmas.{within-apart}
use Rattle.btr_tree.proofs.UntouchedNodeLemmas.{slot-same}

-- ---- nodes of one base are nodes of another that is alike in the span

-- Two bases have the same points in a span, and the same dates for the spans in it.
pub record AreAlike (b c : List Point) (d e : ℕ → ℤ → ℕ) (k : ℕ) (s : ℤ) : Type 0 where
  pub points : points_of k s (sort b) ≡ points_of k s (sort c)
  pub dates : (j : ℕ) (t : ℤ) → j ≤ k → s ≤ℤ t → t <ℤ (s +ℤ pos (width k)) → d j t ≡ e j t

alike-below : (b c : List Point) (d e : ℕ → ℤ → ℕ) (k : ℕ) (s : ℤ) → AreAlike b c d e (suc k) s → (i : ℕ) → i < 64 → AreAlike b c d e k (slot_start k s i)
alike-below b c d e k s a i lt =
    record {
      points = sym (points-slot k s i (sort b) lt) ∙ ap (points_of k (slot_start k s i)) a.points ∙ points-slot k s i (sort c) lt;
      dates = λ j t le low high.
          let from = slot-from k s i in
          let to = slot-inside k s i lt in
          a.dates j t (omega arith) (omega (arith, ints)) (omega (arith, ints));
    }

date-here : (b c : List Point) (d e : ℕ → ℤ → ℕ) (k : ℕ) (s : ℤ) → AreAlike b c d e k s → d k s ≡ e k s
date-here b c d e k s a =
    let some = width-positive k in a.dates k s (omega arith) (omega (arith, ints)) (omega (arith, ints))

leaf-alike : (b c : List Point) (d e : ℕ → ℤ → ℕ) (k : ℕ) (s : ℤ) (above over : List Point → Bool) → AreAlike b c d e k s → (v : ℕ) (ps : List Point) → IsLeaf k s above (Opened b d) v ps → IsLeaf k s over (Opened c e) v ps
leaf-alike b c d e k s above over a v ps l =
    record { same = l.same ∙ a.points; some = l.some; few = l.few; version = l.version ∙ date-here b c d e k s a }

inner-alike : (b c : List Point) (d e : ℕ → ℤ → ℕ) (k : ℕ) (s : ℤ) (above over : List Point → Bool) → AreAlike b c d e (suc k) s → (v : ℕ) (x : Slots) → IsInner k s above (Opened b d) v x → IsInner k s over (Opened c e) v x
inner-alike b c d e k s above over a v x n =
    record {
      many = subst (λ y. LEAF_POINTS < length y) a.points n.many;
      version = n.version ∙ date-here b c d e (suc k) s a;
      all = record {
        each = λ i lt.
            let below = alike-below b c d e k s a i lt in
            n.all.each i lt ∙ slot-same _ _ _ _ (ap agg below.points) (date-here b c d e k (slot_start k s i) below);
      };
    }

pub opened-same : (b c : List Point) (d e : ℕ → ℤ → ℕ) (k : ℕ) (s : ℤ) (above over : List Point → Bool) → AreAlike b c d e k s → (child : Option NodeData) → IsChild k s above (Opened b d) child → IsChild k s over (Opened c e) child
opened-same b c d e k s above over a None holds = sym a.points ∙ holds
opened-same b c d e zero s above over a (Some n) holds =
    by_kind-weaker _ _ _ _ (out-NodeData n) (leaf-alike b c d e zero s above over a) (λ v x y. y) holds
opened-same b c d e (suc k) s above over a (Some n) holds =
    by_kind-weaker _ _ _ _ (out-NodeData n) (leaf-alike b c d e (suc k) s above over a) (λ v x y. (
      inner-alike b c d e k s above over a v x y.0,
      λ i lt. opened-same b c d e k (slot_start k s i) (is_inner (suc k) s) (is_inner (suc k) s) (alike-below b c d e k s a i lt) (child_in x i) (y.1 i lt),
    )) holds

-- ---- the version of a node is its date

zero-date : (s : ℤ) (above : List Point → Bool) (b : List Point) (d : ℕ → ℤ → ℕ) (n : NodeData-F NodeData Link Kept Slots) → ByKind (λ v ps. IsLeaf zero s above (Opened b d) v ps) (λ v x. ⊥) n → version_of_kind n ≡ d zero s
zero-date s above b d (NodeData-F.Leaf block v ps) l = l.version
zero-date s above b d (NodeData-F.Inner block v x) l = absurd l

kind-date : (k : ℕ) (s : ℤ) (above : List Point → Bool) (b : List Point) (d : ℕ → ℤ → ℕ) (n : NodeData-F NodeData Link Kept Slots) → ByKind (λ v ps. IsLeaf (suc k) s above (Opened b d) v ps) (λ v x. IsInner k s above (Opened b d) v x × HasChildren k s (Opened b d) x) n → version_of_kind n ≡ d (suc k) s
kind-date k s above b d (NodeData-F.Leaf block v ps) l = l.version
kind-date k s above b d (NodeData-F.Inner block v x) n = n.0.version

child-date : (k : ℕ) (s : ℤ) (above : List Point → Bool) (b : List Point) (d : ℕ → ℤ → ℕ) (child : Option NodeData) → IsChild k s above (Opened b d) child → 0 < length (points_of k s (sort b)) → version_of child ≡ d k s
child-date k s above b d None holds some = let none = ap (length {A = Point}) holds in absurd (omega arith)
child-date zero s above b d (Some n) holds some = zero-date s above b d (out-NodeData n) holds
child-date (suc k) s above b d (Some n) holds some = kind-date k s above b d (out-NodeData n) holds

-- ---- what is known of each part

-- A part, or none, has these points and dates in its slot, and its version is that of the slot.
pub record IsGlued (below : ℕ) (s : ℤ) (i v : ℕ) (o : Option TreeValue) (b : List Point) (d : ℕ → ℤ → ℕ) : Type 0 where
  pub holds : IsChild below (slot_start below s i) above_root (Opened b d) (part_node o)
  pub total : part_total o ≡ agg (sort b)
  pub inside : points_of below (slot_start below s i) (sort b) ≡ sort b
  pub date : d below (slot_start below s i) ≡ v
  pub older : (k : ℕ) (t : ℤ) → d k t ≤ v

pub part_base : (o : Option TreeValue) (span : SpanValue) (v i : ℕ) → IfSome o (IsPart span v i) → List Point
part_base None span v i p = []
part_base (Some t) span v i p = p.opened.0

pub part_dates : (o : Option TreeValue) (span : SpanValue) (v i : ℕ) → IfSome o (IsPart span v i) → ℕ → ℤ → ℕ
part_dates None span v i p = λ k t. v
part_dates (Some t) span v i p = p.opened.1

pub part-glued : (o : Option TreeValue) (span : SpanValue) (below v i : ℕ) (p : IfSome o (IsPart span v i)) → span.height ≡ suc below → IsGlued below span.start i v o (part_base o span v i p) (part_dates o span v i p)
unfolding part_base part_dates
part-glued None span below v i p high =
    record { holds = refl; total = refl; inside = refl; date = refl; older = λ k t. omega arith }
part-glued (Some t) span below v i p high =
    let b = p.opened.0 in
    let d = p.opened.1 in
    let o = p.opened.2 in
    let place : t.span ≡ record { start = slot_start below span.start i; height = below } = p.its_span ∙ slot-part span below i high in
    let holds = subst (λ (u : SpanValue). IsChild u.height u.start above_root (Opened b d) t.node) place o.node in
    let inside = subst (λ (u : SpanValue). points_of u.height u.start (sort b) ≡ sort b) place o.inside in
    let count : t.total.count ≡ length (sort b) = ap (λ a. a.count) o.total ∙ agg-count (sort b) in
    let some = p.some in
    let long = ap (length {A = Point}) inside in
    record {
      holds = holds;
      total = o.total;
      inside = inside;
      date = sym (child-date below (slot_start below span.start i) above_root b d t.node holds (omega arith)) ∙ p.its_version;
      older = λ k u. subst (λ w. d k u ≤ w) p.its_version (o.dated k u);
    }

-- ---- points of parts

within-swap : (a b c d : ℤ) (xs : List Point) → within c d (within a b xs) ≡ within a b (within c d xs)
within-swap a b c d xs = filter-swap (is_within c d) (is_within a b) xs

order : (i j : ℕ) → (i ≤ j) ⊎ (j < i)
order i j =
    elim (nat_lt j i) as (λ t. nat_lt j i ≡ t → (i ≤ j) ⊎ (j < i)) [
      | true ↦ λ e. inr (grind (arith, nat_tests))
      | false ↦ λ e. inl (grind (arith, nat_tests))
    ] refl

-- The points of one slot are in no other.
other-slot : (below : ℕ) (s : ℤ) (i j : ℕ) (xs : List Point) → (j ≡ i → ⊥) → points_of below (slot_start below s j) xs ≡ xs → points_of below (slot_start below s i) xs ≡ []
other-slot below s i j xs ne inside =
    let w = width below in
    let ni = slot-next below s i in
    let nj = slot-next below s j in
    elim (order i j) [
      | inl le ↦ elim (eq-or-lt_of_le le) [
        | inl e ↦ absurd (ne (sym e))
        | inr lt ↦ ap (points_of below (slot_start below s i)) (sym inside)
            ∙ within-swap (slot_start below s j) (slot_start below s j +ℤ pos w) (slot_start below s i) (slot_start below s i +ℤ pos w) xs
            ∙ (let up = slot-order below s (i + 1) j (omega arith) in within-apart (slot_start below s i) (slot_start below s i +ℤ pos w) (slot_start below s j) (slot_start below s j +ℤ pos w) xs (omega (arith, ints)))
      ]
      | inr lt ↦ ap (points_of below (slot_start below s i)) (sym inside)
          ∙ (let up = slot-order below s (j + 1) i (omega arith) in within-apart (slot_start below s j) (slot_start below s j +ℤ pos w) (slot_start below s i) (slot_start below s i +ℤ pos w) xs (omega (arith, ints)))
    ]

within-concat : (a b : ℤ) (n : ℕ) (f : ℕ → List Point) → within a b (concat_first n f) ≡ concat_first n (λ i. within a b (f i))
within-concat a b zero f = refl
within-concat a b (suc n) f =
    within-append a b (concat_first n f) (f n) ∙ ap (λ x. x ++ within a b (f n)) (within-concat a b n f)

concat-same : (n : ℕ) (f g : ℕ → List Point) → ((i : ℕ) → i < n → f i ≡ g i) → concat_first n f ≡ concat_first n g
concat-same zero f g h = refl
concat-same (suc n) f g h =
    ap (λ x. x ++ f n) (concat-same n f g (λ i lt. h i (omega arith))) ∙ ap (λ x. concat_first n g ++ x) (h n (omega arith))

-- Of lists that are empty but for one, the one is left.
one-left : (n i : ℕ) (f : ℕ → List Point) → i < n → ((j : ℕ) → (j ≡ i → ⊥) → f j ≡ []) → concat_first n f ≡ f i
one-left zero i f lt none = absurd (omega arith)
one-left (suc n) i f lt none =
    let le : i ≤ n = omega arith in
    elim (eq-or-lt_of_le le) [
      | inl e ↦ ap (λ x. x ++ f n) (first-none n f (λ j less. none j (λ same. absurd (omega arith)))) ∙ sym (ap f e)
      | inr less ↦ ap (λ x. concat_first n f ++ x) (none n (λ same. absurd (omega arith)))
          ∙ append-nil (concat_first n f)
          ∙ one-left n i f less none
    ]

-- ---- the glued base

-- The points of all parts.
pub all_points : (ℕ → List Point) → List Point
all_points b = concat_first 64 (λ i. sort (b i))

-- Of the first slots, the date of the last that begins no later than a time.
pick : ℕ → ℤ → (ℕ → ℕ → ℤ → ℕ) → ℕ → ℕ → ℤ → ℕ
pick below s d zero k t = d 0 k t
pick below s d (suc n) k t = if int_le (slot_start below s (suc n)) t then d (suc n) k t else pick below s d n k t

-- The dates of all parts, and above them the node's version.
pub all_dates : ℕ → ℤ → ℕ → (ℕ → ℕ → ℤ → ℕ) → ℕ → ℤ → ℕ
all_dates below s version d k t = if nat_lt below k then version else pick below s d 63 k t

points-glued : (below : ℕ) (s : ℤ) (b : ℕ → List Point) → ((i : ℕ) → points_of below (slot_start below s i) (sort (b i)) ≡ sort (b i)) → (i : ℕ) → i < 64 → points_of below (slot_start below s i) (sort (all_points b)) ≡ sort (b i)
unfolding all_points
points-glued below s b inside i lt =
    within-sort (slot_start below s i) (slot_start below s i +ℤ pos (width below)) (concat_first 64 (λ j. sort (b j)))
    ∙ ap sort (within-concat (slot_start below s i) (slot_start below s i +ℤ pos (width below)) 64 (λ j. sort (b j)) ∙ one-left 64 i (λ j. points_of below (slot_start below s i) (sort (b j))) lt (λ j ne. other-slot below s i j (sort (b j)) ne (inside j)))
    ∙ ap sort (inside i)
    ∙ sort-sort (b i)

in-whole : (below : ℕ) (s : ℤ) (i : ℕ) (xs : List Point) → i < 64 → points_of below (slot_start below s i) xs ≡ xs → points_of (suc below) s xs ≡ xs
in-whole below s i xs lt inside =
    ap (points_of (suc below) s) (sym inside)
    ∙ within-swap (slot_start below s i) (slot_start below s i +ℤ pos (width below)) s (s +ℤ pos (width (suc below))) xs
    ∙ points-slot below s i xs lt
    ∙ inside

whole-glued : (below : ℕ) (s : ℤ) (b : ℕ → List Point) → ((i : ℕ) → points_of below (slot_start below s i) (sort (b i)) ≡ sort (b i)) → points_of (suc below) s (sort (all_points b)) ≡ sort (all_points b)
unfolding all_points
whole-glued below s b inside =
    within-sort s (s +ℤ pos (width (suc below))) (concat_first 64 (λ j. sort (b j)))
    ∙ ap sort (within-concat s (s +ℤ pos (width (suc below))) 64 (λ j. sort (b j)) ∙ concat-same 64 (λ j. points_of (suc below) s (sort (b j))) (λ j. sort (b j)) (λ j lt. in-whole below s j (sort (b j)) lt (inside j)))

is-from : (a t : ℤ) → a ≤ℤ t → int_le a t ≡ true
is-from a t h = grind (arith, ints)

not-from : (a t : ℤ) → t <ℤ a → int_le a t ≡ false
not-from a t h = grind (arith, ints)

pick-at : (below : ℕ) (s : ℤ) (d : ℕ → ℕ → ℤ → ℕ) (n i k : ℕ) (t : ℤ) → i ≤ n → slot_start below s i ≤ℤ t → t <ℤ (slot_start below s i +ℤ pos (width below)) → pick below s d n k t ≡ d i k t
unfolding pick
pick-at below s d zero i k t le low high = let e : 0 ≡ i = omega arith in ap (λ j. d j k t) e
pick-at below s d (suc n) i k t le low high =
    elim (eq-or-lt_of_le le) [
      | inl e ↦ (let yes : int_le (slot_start below s (suc n)) t ≡ true = is-from (slot_start below s (suc n)) t (subst (λ j. slot_start below s j ≤ℤ t) e low) in ap (λ u. cond u (d (suc n) k t) (pick below s d n k t)) yes ∙ sym (ap (λ j. d j k t) e))
      | inr less ↦ (let up = slot-order below s (i + 1) (suc n) (omega arith) in let next = slot-next below s i in let no : int_le (slot_start below s (suc n)) t ≡ false = not-from (slot_start below s (suc n)) t (omega (arith, ints)) in ap (λ u. cond u (d (suc n) k t) (pick below s d n k t)) no ∙ pick-at below s d n i k t (omega arith) low high)
    ]

pick-older : (below : ℕ) (s : ℤ) (d : ℕ → ℕ → ℤ → ℕ) (v : ℕ) → ((i k : ℕ) (t : ℤ) → d i k t ≤ v) → (n k : ℕ) (t : ℤ) → pick below s d n k t ≤ v
unfolding pick
pick-older below s d v older zero k t = older 0 k t
pick-older below s d v older (suc n) k t =
    elim (int_le (slot_start below s (suc n)) t) as (λ u. cond u (d (suc n) k t) (pick below s d n k t) ≤ v) [
      | true ↦ older (suc n) k t
      | false ↦ pick-older below s d v older n k t
    ]

dates-older : (below : ℕ) (s : ℤ) (v : ℕ) (d : ℕ → ℕ → ℤ → ℕ) → ((i k : ℕ) (t : ℤ) → d i k t ≤ v) → (k : ℕ) (t : ℤ) → all_dates below s v d k t ≤ v
unfolding all_dates
dates-older below s v d older k t =
    elim (nat_lt below k) as (λ u. cond u v (pick below s d 63 k t) ≤ v) [ true ↦ omega arith | false ↦ pick-older below s d v older 63 k t ]

dates-top : (below : ℕ) (s : ℤ) (v : ℕ) (d : ℕ → ℕ → ℤ → ℕ) (t : ℤ) → all_dates below s v d (suc below) t ≡ v
unfolding all_dates
dates-top below s v d t =
    let yes : nat_lt below (suc below) ≡ true = grind (arith, nat_tests) in
    ap (λ u. cond u v (pick below s d 63 (suc below) t)) yes

dates-at : (below : ℕ) (s : ℤ) (v : ℕ) (d : ℕ → ℕ → ℤ → ℕ) (i k : ℕ) (t : ℤ) → i < 64 → k ≤ below → slot_start below s i ≤ℤ t → t <ℤ (slot_start below s i +ℤ pos (width below)) → all_dates below s v d k t ≡ d i k t
unfolding all_dates
dates-at below s v d i k t lt le low high =
    let no : nat_lt below k ≡ false = grind (arith, nat_tests) in
    ap (λ u. cond u v (pick below s d 63 k t)) no ∙ pick-at below s d 63 i k t (omega arith) low high

-- ---- an inner node over its parts

-- What is known of each part, and of the slots of the node over them.
pub record HasGlued (below : ℕ) (s : ℤ) (version : ℕ) (parts : List (ℕ × TreeValue)) (versions : List ℕ) (b : ℕ → List Point) (d : ℕ → ℕ → ℤ → ℕ) (x : Slots) : Type 0 where
  pub each : (i : ℕ) → IsGlued below s i (get_or versions i 0) (part_at parts i) (b i) (d i)
  pub older : (i : ℕ) → get_or versions i 0 ≤ version
  pub many : LEAF_POINTS < (joined_parts 64 parts).count
  pub few : (joined_parts 64 parts).count ≤ MAX_POINTS
  pub slots : HasParts 64 parts versions x

pub part-slot_agg : (o : Option TreeValue) (v : ℕ) → (part_slot o v).agg ≡ part_total o
part-slot_agg None v = refl
part-slot_agg (Some t) v = refl

pub part-slot_is : (o : Option TreeValue) (v : ℕ) → part_slot o v ≡ record { agg = part_total o; version = v; child = 0 }
part-slot_is None v = refl
part-slot_is (Some t) v = refl

parts-none : (parts : List (ℕ × TreeValue)) → joined_parts 0 parts ≡ no_points
unfolding joined_parts
parts-none parts = refl

parts-suc : (n : ℕ) (parts : List (ℕ × TreeValue)) → joined_parts (suc n) parts ≡ joined (joined_parts n parts) (part_total (part_at parts n))
unfolding joined_parts
parts-suc n parts = refl

pub parts-next : (n : ℕ) (parts : List (ℕ × TreeValue)) → joined_parts (n + 1) parts ≡ joined (joined_parts n parts) (part_total (part_at parts n))
parts-next n parts = ap (λ m. joined_parts m parts) (let e : n + 1 ≡ suc n = omega arith in e) ∙ parts-suc n parts

pub parts-first : (a : AggValue) (parts : List (ℕ × TreeValue)) → a ≡ no_points → a ≡ joined_parts 0 parts
parts-first a parts e = e ∙ sym (parts-none parts)

pub parts-rise : (n m : ℕ) (parts : List (ℕ × TreeValue)) → n ≤ m → (joined_parts n parts).count ≤ (joined_parts m parts).count
parts-rise n zero parts le = subst (λ k. (joined_parts n parts).count ≤ (joined_parts k parts).count) (let e : n ≡ 0 = omega arith in e) (omega arith)
parts-rise n (suc m) parts le =
    elim (eq-or-lt_of_le le) [
      | inl e ↦ subst (λ k. (joined_parts n parts).count ≤ (joined_parts k parts).count) e (omega arith)
      | inr less ↦ let before = parts-rise n m parts (omega arith) in let next = ap (λ a. a.count) (parts-suc m parts) in omega arith
    ]

-- The parts so far, with the next one, have at most as many points as all.
pub parts-fit : (n : ℕ) (parts : List (ℕ × TreeValue)) (a b : AggValue) → n < 64 → (joined_parts 64 parts).count < 2 ^ 64 → a ≡ joined_parts n parts → b ≡ part_total (part_at parts n) → a.count + b.count < 2 ^ 64
parts-fit n parts a b lt few e f =
    let rise = parts-rise (n + 1) 64 parts (omega arith) in
    let next = ap (λ x. x.count) (parts-next n parts) in
    let one = ap (λ x. x.count) e in
    let two = ap (λ x. x.count) f in
    omega arith

pub parts-joined : (n : ℕ) (parts : List (ℕ × TreeValue)) (a b c : AggValue) → c ≡ joined a b → a ≡ joined_parts n parts → b ≡ part_total (part_at parts n) → c ≡ joined_parts (n + 1) parts
parts-joined n parts a b c e f g =
    e ∙ ap (λ x. joined x b) f ∙ ap (joined (joined_parts n parts)) g ∙ sym (parts-next n parts)

bare-part : (o : Option TreeValue) (v : ℕ) → without_address (part_slot o v) ≡ part_slot o v
bare-part None v = refl
bare-part (Some t) v = refl

-- A slot more, which was put.
pub parts-put : (n : ℕ) (parts : List (ℕ × TreeValue)) (versions : List ℕ) (slot : Slot) (child : Option NodeData) (old new : Slots) → IsPut n slot child old new → slot ≡ part_slot (part_at parts n) (get_or versions n 0) → child ≡ part_node (part_at parts n) → HasParts n parts versions old → HasParts (n + 1) parts versions new
parts-put n parts versions slot child old new put e f has i lt =
    let le : i ≤ n = omega arith in
    elim (eq-or-lt_of_le le) [
      | inl same ↦ (
        ap (slot_in new) same ∙ put.is ∙ ap without_address e ∙ bare-part (part_at parts n) (get_or versions n 0) ∙ sym (ap (λ j. part_slot (part_at parts j) (get_or versions j 0)) same),
        ap (child_in new) same ∙ put.has ∙ f ∙ sym (ap (λ j. part_node (part_at parts j)) same),
      )
      | inr less ↦ (put.slots i less ∙ (has i less).0, put.children i less ∙ (has i less).1)
    ]

joined-slots : (parts : List (ℕ × TreeValue)) (versions : List ℕ) (x : Slots) → HasParts 64 parts versions x → (n : ℕ) → n ≤ 64 → joined_first n (slot_in x) ≡ joined_parts n parts
joined-slots parts versions x has zero le = joined-none (slot_in x) ∙ sym (parts-none parts)
joined-slots parts versions x has (suc n) le =
    joined-suc n (slot_in x)
    ∙ ap (λ a. joined a (slot_in x n).agg) (joined-slots parts versions x has n (omega arith))
    ∙ ap (joined (joined_parts n parts)) (ap (λ y. y.agg) (has n (omega arith)).0 ∙ part-slot_agg (part_at parts n) (get_or versions n 0))
    ∙ sym (parts-suc n parts)

module _ (below : ℕ) (s : ℤ) (version : ℕ) (parts : List (ℕ × TreeValue)) (versions : List ℕ) (b : ℕ → List Point) (d : ℕ → ℕ → ℤ → ℕ) (x : Slots) (g : HasGlued below s version parts versions b d x) where
  inside : (i : ℕ) → points_of below (slot_start below s i) (sort (b i)) ≡ sort (b i)
  inside i = (g.each i).inside

  pub glued-slots : HasSlots below s (Opened (all_points b) (all_dates below s version d)) x
  glued-slots =
      record {
        each = λ i lt.
            let part = g.each i in
            let some = width-positive below in
            (g.slots i lt).0
            ∙ part-slot_is (part_at parts i) (get_or versions i 0)
            ∙ slot-same _ _ _ _ (part.total ∙ ap agg (sym (points-glued below s b inside i lt))) (sym (dates-at below s version d i below (slot_start below s i) lt (omega arith) (omega (arith, ints)) (omega (arith, ints)) ∙ part.date));
      }

  pub glued-children : HasChildren below s (Opened (all_points b) (all_dates below s version d)) x
  glued-children i lt =
      let part = g.each i in
      subst (IsChild below (slot_start below s i) (is_inner (suc below) s) (Opened (all_points b) (all_dates below s version d))) (sym (g.slots i lt).1) (opened-same (b i) (all_points b) (d i) (all_dates below s version d) below (slot_start below s i) above_root (is_inner (suc below) s) (record {
        points = part.inside ∙ sym (points-glued below s b inside i lt);
        dates = λ j t le low high. sym (dates-at below s version d i j t lt le low high);
      }) (part_node (part_at parts i)) part.holds)

  pub glued-total : joined_parts 64 parts ≡ agg (sort (all_points b))
  glued-total =
      sym (joined-slots parts versions x g.slots 64 (omega arith))
      ∙ total-of below s (Opened (all_points b) (all_dates below s version d)) x glued-slots
      ∙ ap agg (whole-glued below s b inside)

  pub glued-count : (joined_parts 64 parts).count ≡ length (sort (all_points b))
  glued-count = ap (λ a. a.count) glued-total ∙ agg-count (sort (all_points b))

  pub older-all : (i k : ℕ) (t : ℤ) → d i k t ≤ version
  older-all i k t = let low = (g.each i).older k t in let high = g.older i in omega arith

  pub glued-inner : IsInner below s above_root (Opened (all_points b) (all_dates below s version d)) version x
  glued-inner =
      let many = g.many in
      let long = glued-count in
      let all = ap (length {A = Point}) (whole-glued below s b inside) in
      record { many = omega arith; version = sym (dates-top below s version d s); all = glued-slots }

inner-node : (below : ℕ) (s : ℤ) (h : Past) (v : ℕ) (x : Slots) (o : Option NodeData) → IsInner below s above_root h v x → HasChildren below s h x → IsInnerOf v x o → IsChild (suc below) s above_root h o
inner-node below s h v x None inner each is = absurd is
inner-node below s h v x (Some n) inner each is =
    by_kind-weaker _ _ _ _ (out-NodeData n) (λ _ _ y. absurd y) (λ w y e. (
      record { many = inner.many; version = e.0 ∙ inner.version; all = slots-same below s h x y e.1 inner.all },
      children-same below s h x y e.1 each,
    )) is

kind-version : (v : ℕ) (x : Slots) (n : NodeData-F NodeData Link Kept Slots) → ByKind (λ w ps. ⊥) (λ w y. (w ≡ v) × AreSameSlots x y) n → version_of_kind n ≡ v
kind-version v x (NodeData-F.Leaf block w ps) is = absurd is
kind-version v x (NodeData-F.Inner block w y) is = is.0

inner-version : (v : ℕ) (x : Slots) (o : Option NodeData) → IsInnerOf v x o → version_of o ≡ v
inner-version v x None is = absurd is
inner-version v x (Some n) is = kind-version v x (out-NodeData n) is

-- A tree of parts was opened.
pub inner-opened : (span : SpanValue) (version block : ℕ) (parts : List (ℕ × TreeValue)) (versions : List ℕ) (t : TreeValue) → IsSpan span → 1 ≤ span.height → AreParts span version parts versions → IsInnerTree span version block parts versions t → WasOpened t
inner-opened span version block parts versions t aligned tall are is =
    let below = span.height - 1 in
    let high : span.height ≡ suc below = omega arith in
    let b = λ (i : ℕ). part_base (part_at parts i) span (get_or versions i 0) i (are.each i) in
    let d = λ (i : ℕ). part_dates (part_at parts i) span (get_or versions i 0) i (are.each i) in
    let g : HasGlued below span.start version parts versions b d is.slots = record {
      each = λ i. part-glued (part_at parts i) span below (get_or versions i 0) i (are.each i) high;
      older = are.older;
      many = are.many;
      few = are.few;
      slots = is.its_slots;
    }
    in
    let s = span.start in
    let h = Opened (all_points b) (all_dates below s version d) in
    let inner = glued-inner below s version parts versions b d is.slots g in
    let each = glued-children below s version parts versions b d is.slots g in
    let count = glued-count below s version parts versions b d is.slots g in
    let few = are.few in
    let place : t.span ≡ record { start = s; height = suc below } = is.its_span ∙ ap (λ k. let u : SpanValue = record { start = s; height = k } in u) high in (
      all_points b,
      all_dates below s version d,
      record {
        aligned = subst IsSpan (sym is.its_span) aligned;
        node = subst (λ (u : SpanValue). IsChild u.height u.start above_root h t.node) (sym place) (inner-node below s h version is.slots t.node inner each is.node);
        total = is.total ∙ glued-total below s version parts versions b d is.slots g;
        inside = subst (λ (u : SpanValue). points_of u.height u.start (sort (all_points b)) ≡ sort (all_points b)) (sym place) (whole-glued below s b (λ i. (g.each i).inside));
        few = omega arith;
        dated = λ k u. subst (λ w. all_dates below s version d k u ≤ w) (sym (inner-version version is.slots t.node is.node)) (dates-older below s version d (λ i j v. older-all below s version parts versions b d is.slots g i j v) k u);
      },
    )

-- ---- a leaf

leaf-version : (v : ℕ) (ps : List Point) (n : NodeData-F NodeData Link Kept Slots) → ByKind (λ w qs. (w ≡ v) × (qs ≡ ps)) (λ w x. ⊥) n → version_of_kind n ≡ v
leaf-version v ps (NodeData-F.Leaf block w qs) is = is.0
leaf-version v ps (NodeData-F.Inner block w x) is = absurd is

leaf-at : (k : ℕ) (s : ℤ) (v : ℕ) (ps : List Point) → points_of k s (sort ps) ≡ ps → 0 < length ps → length ps ≤ LEAF_POINTS → (w : ℕ) (qs : List Point) → (w ≡ v) × (qs ≡ ps) → IsLeaf k s above_root (Opened ps (λ j t. v)) w qs
leaf-at k s v ps same some few w qs e =
    record {
      same = e.1 ∙ sym same;
      some = subst (λ x. 0 < length x) (sym e.1) some;
      few = subst (λ x. length x ≤ LEAF_POINTS) (sym e.1) few;
      version = e.0;
    }

leaf-node : (k : ℕ) (s : ℤ) (v : ℕ) (ps : List Point) (o : Option NodeData) → points_of k s (sort ps) ≡ ps → 0 < length ps → length ps ≤ LEAF_POINTS → IsLeafOf v ps o → IsChild k s above_root (Opened ps (λ j t. v)) o × (version_of o ≡ v)
leaf-node k s v ps None same some few is = absurd is
leaf-node zero s v ps (Some n) same some few is = (
  by_kind-weaker _ _ _ _ (out-NodeData n) (leaf-at zero s v ps same some few) (λ _ _ y. y) is,
  leaf-version v ps (out-NodeData n) is,
)
leaf-node (suc k) s v ps (Some n) same some few is = (
  by_kind-weaker _ _ _ _ (out-NodeData n) (leaf-at (suc k) s v ps same some few) (λ _ _ y. absurd y) is,
  leaf-version v ps (out-NodeData n) is,
)

-- A leaf that was made.
pub leaf-made : (o : Option NodeData) (b v : ℕ) (ps : Vec Point Global) (points : List Point) → o ≡ Some (Leaf b v ps) → ps.items ≡ points → IsLeafOf v points o × (block_of o ≡ b)
leaf-made o b v ps points e same =
    let out : out-NodeData (Leaf b v ps) ≡ NodeData-F.Leaf b v ps = out-leaf v ps in (
      subst (IsLeafOf v points) (sym e) (subst (ByKind (λ w qs. (w ≡ v) × (qs ≡ points)) (λ w x. ⊥)) (sym out) (refl, same)),
      ap block_of e ∙ ap block_of_kind out,
    )

-- A tree of one leaf was opened.
pub leaf-opened : (span : SpanValue) (version block : ℕ) (ps : List Point) (t : TreeValue) → IsSpan span → IsInOrder ps → 0 < length ps → length ps ≤ LEAF_POINTS → points_of span.height span.start ps ≡ ps → IsLeafTree span version block ps t → WasOpened t
leaf-opened span version block ps t aligned ordered some few inside is =
    let sorted = sort-of_order ps ordered in
    let same : points_of span.height span.start (sort ps) ≡ ps = ap (points_of span.height span.start) sorted ∙ inside in
    let node = leaf-node span.height span.start version ps t.node same some few is.node in
    let long = ap (length {A = Point}) sorted in (
      ps,
      λ j u. version,
      record {
        aligned = subst IsSpan (sym is.its_span) aligned;
        node = subst (λ (u : SpanValue). IsChild u.height u.start above_root (Opened ps (λ j y. version)) t.node) (sym is.its_span) node.0;
        total = is.total ∙ ap agg (sym sorted);
        inside = subst (λ (u : SpanValue). points_of u.height u.start (sort ps) ≡ sort ps) (sym is.its_span) (same ∙ sym sorted);
        few = omega arith;
        dated = λ k u. omega (arith, node.1);
      },
    )
