-- Lemmas on the walk that applies a commit.
use Rattle.std.specs.Prelude.{◌≡◌, ℕ, ◌+◌, ◌<◌, ◌≤◌, ℤ, pos, ◌+ℤ◌, ◌≤ℤ◌, ◌<ℤ◌, Bool, true, false, not, ◌||◌, cond, eqb, int_lt, List, [], ◌∷◌, ◌++◌, length, Option}
use Rattle.std.specs.List.{filter, list_any}
use Rattle.std.proofs.Common.{suc, refl, sym, ap, ◌∙◌, arith, subst, length-append}
use Rattle.std.proofs.lemmas.Int.{ints}
use Rattle.std.proofs.lemmas.Bool.Decides.{nat_tests}
use Rattle.btr_base.specs.declared.point.Point.{Point}
use Rattle.btr_base.specs.Range.{RangeValue, covered}
use Rattle.btr_base.specs.Bag.{IsInOrder, within, outside, sort}
use Rattle.btr_base.proofs.PointLemmas.{length-sort, sort-of_order}
use Rattle.btr_base.specs.Span.{width, SpanValue, IsSpan, slot_of}
use Rattle.btr_base.proofs.ListLemmas.{length-filter}
use Rattle.btr_base.specs.declared.limits.TheConstants.{LEAF_POINTS}
use Rattle.btr_tree.specs.declared.node.Slot.{Slot}
use Rattle.btr_tree.specs.History.{Commit, bag, nothing, Past, ◌▷◌}
use Rattle.btr_tree.specs.Nodes.{points_of, has_points, touches, is_inner, is_node, above_root, last_change}
use Rattle.btr_tree.proofs.VersionLemmas.{points-after}
use Rattle.btr_tree.specs.declared.node.NodeData.{NodeData}
use Rattle.btr_tree.specs.declared.slots.Slots.{Slots}
use Rattle.btr_tree.specs.Slots.{slot_in, child_in}
use Rattle.btr_tree.specs.Shape.{slot_start, HasSlots, HasChildren, IsChild}
use Rattle.btr_tree.proofs.NodeLemmas.{slot-at, points-slot}
use Rattle.btr_tree.proofs.CutLemmas.{outside-alike, outside-nothing}
use Rattle.btr_tree.proofs.UntouchedNodeLemmas.{many-inner}
use Rattle.btr_tree.proofs.BuiltNodeLemmas.{inner-child}
use Rattle.btr_tree.proofs.SlotSplitLemmas.{IsPartedAt, parted-at}
use Rattle.btr_tree.specs.Change.{IsFresh, IsChange, IsApplied, IsInnerOf, slot_at, end_of}

-- ---- the points of a span after a commit

pub change-after : (k : ℕ) (s : ℤ) (h : Past) (c : Commit) (cut : List RangeValue) (added : List Point) (v : ℕ) → IsChange k s c cut added v → points_of k s (bag (c ▷ h)) ≡ sort (outside (points_of k s (bag h)) cut ++ added)
change-after k s h c cut added v ch =
    points-after k s c (bag h)
    ∙ ap (λ x. sort (x ++ points_of k s c.added)) (outside-alike s (s +ℤ pos (width k)) (bag h) c.cut cut (λ t low high. sym (ch.times t low high)))
    ∙ ap (λ x. sort (outside (points_of k s (bag h)) cut ++ x)) (sym ch.points)

-- A commit of its own for what a span is given.
abbrev pub own : ℕ → List RangeValue → List Point → Commit
own version cut added = record { version = version; cut = cut; added = added }

pub own-change : (k : ℕ) (s : ℤ) (v : ℕ) (cut : List RangeValue) (added : List Point) → within s (s +ℤ pos (width k)) added ≡ added → IsChange k s (own v cut added) cut added v
own-change k s v cut added inside = record { number = refl; points = sym inside; times = λ t low high. refl }

pub change-here : (k : ℕ) (s : ℤ) (c : Commit) (cut here : List RangeValue) (added : List Point) (v : ℕ) → IsChange k s c cut added v → ((t : ℤ) → s ≤ℤ t → t <ℤ (s +ℤ pos (width k)) → covered here t ≡ covered cut t) → IsChange k s c here added v
change-here k s c cut here added v ch alike =
    record { number = ch.number; points = ch.points; times = λ t low high. alike t low high ∙ ch.times t low high }

pub change-count : (k : ℕ) (s : ℤ) (h : Past) (c : Commit) (cut : List RangeValue) (added : List Point) (v left : ℕ) → IsChange k s c cut added v → left ≡ length (outside (points_of k s (bag h)) cut) → length (points_of k s (bag (c ▷ h))) ≡ left + length added
change-count k s h c cut added v left ch e =
    omega (arith, ap length (change-after k s h c cut added v ch), length-sort (outside (points_of k s (bag h)) cut ++ added), length-append (outside (points_of k s (bag h)) cut) added, e)

pub touched-fresh : (k : ℕ) (s : ℤ) (above : List Point → Bool) (h : Past) (c : Commit) (v : ℕ) (points : List Point) → v ≡ c.version → points ≡ points_of k s (bag (c ▷ h)) → touches c k s (bag h) ≡ true → (LEAF_POINTS < length points → length (points_of k s (bag h)) ≤ LEAF_POINTS) → IsFresh k s above h c v points
touched-fresh k s above h c v points number same touched small =
    record {
      number = number;
      same = same;
      fresh = ap (λ t. t || not (is_node above k s (bag h))) touched;
      small = small;
    }

or-true : (a : Bool) → (a || true) ≡ true
or-true a = grind arith

-- The points of a span are those of a commit of its own on a past without a point.
pub fresh-alone : (k : ℕ) (s : ℤ) (v : ℕ) (points : List Point) → IsInOrder points → within s (s +ℤ pos (width k)) points ≡ points → IsFresh k s above_root nothing (own v [] points) v points
fresh-alone k s v points order inside =
    record {
      number = refl;
      same = sym (change-after k s nothing (own v [] points) [] points v (own-change k s v [] points inside) ∙ sort-of_order points order);
      fresh = or-true (touches (own v [] points) k s (bag nothing));
      small = λ _. omega arith;
    }

pub last_change-touched : (was : List Point → Bool) (k : ℕ) (s : ℤ) (h : Past) (c : Commit) (v : ℕ) → v ≡ c.version → touches c k s (bag h) ≡ true → v ≡ last_change was k s (c ▷ h)
last_change-touched was k s h c v number touched =
    number ∙ sym (ap (λ t. cond (t || not (was (bag h))) c.version (last_change was k s h)) touched)

pub inner-child_on : (k below : ℕ) (s : ℤ) (above : List Point → Bool) (h : Past) (c : Commit) (v : ℕ) (x : Slots) (p : Option NodeData) → k ≡ suc below → v ≡ c.version → touches c k s (bag h) ≡ true → LEAF_POINTS < length (points_of k s (bag (c ▷ h))) → HasSlots below s (c ▷ h) x → HasChildren below s (c ▷ h) x → IsInnerOf v x p → IsChild k s above (c ▷ h) p
inner-child_on k below s above h c v x p e number touched many slots each is =
    subst (λ j. IsChild j s above (c ▷ h) p) (sym e) (inner-child below s above h c v x p number (ap (λ t. t || not (is_node above (suc below) s (bag h))) (subst (λ j. touches c j s (bag h) ≡ true) e touched)) (subst (λ j. LEAF_POINTS < length (points_of j s (bag (c ▷ h)))) e many) slots each is)

-- ---- whether a commit touches a span

shorter : (m n : ℕ) → m ≤ n → eqb m (suc n) ≡ false
shorter m n le = grind (arith, nat_tests)

both : (m n : ℕ) → eqb (suc m) (suc n) ≡ eqb m n
both m n = grind (arith, nat_tests)

kept-all : (f : Point → Bool) (b : List Point) → eqb (length (filter (λ p. not (f p)) b)) (length b) ≡ not (list_any f b)
kept-all f [] = refl
kept-all f (p ∷ b) =
    let less = length-filter (λ q. not (f q)) b in
    let rest = kept-all f b in
    elim (f p) as (λ t. eqb (length (cond (not t) (p ∷ filter (λ q. not (f q)) b) (filter (λ q. not (f q)) b))) (length (p ∷ b)) ≡ not (t || list_any f b)) [
      | true ↦ shorter (length (filter (λ q. not (f q)) b)) (length b) less
      | false ↦ both (length (filter (λ q. not (f q)) b)) (length b) ∙ rest
    ]

pub untouched-kept : (k : ℕ) (s : ℤ) (h : Past) (c : Commit) (cut : List RangeValue) (added : List Point) (v left count : ℕ) → IsChange k s c cut added v → added ≡ [] → left ≡ length (outside (points_of k s (bag h)) cut) → count ≡ length (points_of k s (bag h)) → eqb left count ≡ not (touches c k s (bag h))
untouched-kept k s h c cut added v left count ch none e f =
    let has : has_points (points_of k s c.added) ≡ false = ap has_points (sym ch.points ∙ none) in
    let alike = outside-alike s (s +ℤ pos (width k)) (bag h) cut c.cut ch.times in
    ap (λ n. eqb n count) (e ∙ ap length alike)
    ∙ ap (eqb (length (outside (points_of k s (bag h)) c.cut))) f
    ∙ kept-all (λ p. covered c.cut p.time) (points_of k s (bag h))
    ∙ sym (ap (λ t. not (t || list_any (λ p. covered c.cut p.time) (points_of k s (bag h)))) has)

pub is-touched : (b t : Bool) → b ≡ false → b ≡ not t → t ≡ true
is-touched b t e f = grind arith

pub is-untouched : (b t : Bool) → b ≡ true → b ≡ not t → t ≡ false
is-untouched b t e f = grind arith

eqb-same : (n : ℕ) → eqb n n ≡ true
eqb-same n = grind (arith, nat_tests)

pub untouched-nothing : (k : ℕ) (s : ℤ) (h : Past) (c : Commit) (cut : List RangeValue) (added : List Point) (v : ℕ) → IsChange k s c cut added v → cut ≡ [] → added ≡ [] → touches c k s (bag h) ≡ false
untouched-nothing k s h c cut added v ch no_cut none =
    let here = points_of k s (bag h) in
    let all = ap length (ap (outside here) no_cut ∙ outside-nothing here) in
    is-untouched (eqb (length here) (length here)) (touches c k s (bag h)) (eqb-same (length here)) (untouched-kept k s h c cut added v (length here) (length here) ch none (sym all) refl)

-- ---- one slot of the walk

points-part : (below : ℕ) (s : ℤ) (i : ℕ) (b : List Point) (part : SpanValue) → i < 64 → part ≡ record { start = slot_start below s i; height = below } → points_of part.height part.start (points_of (suc below) s b) ≡ points_of part.height part.start b
points-part below s i b part place is =
    subst (λ (u : SpanValue). points_of u.height u.start (points_of (suc below) s b) ≡ points_of u.height u.start b) (sym is) (points-slot below s i b place)

pub parted-of : (span part : SpanValue) (below i : ℕ) (b : List Point) → span.height ≡ suc below → i < 64 → part ≡ slot_of span i → IsSpan part → IsPartedAt span part below i (points_of (suc below) span.start b) (points_of part.height part.start b) (filter (λ p. not (int_lt p.time (end_of part))) (within (slot_start below span.start i) (end_of span) (points_of (suc below) span.start b)))
parted-of span part below i b e place p aligned =
    let pts = points_of (suc below) span.start b in
    let rest = within (slot_start below span.start i) (end_of span) pts in
    let behind = filter (λ q. not (int_lt q.time (end_of part))) rest in
    let at = parted-at span part below i pts rest (filter (λ q. int_lt q.time (end_of part)) rest) behind (end_of part) e place p aligned refl refl refl refl in
    subst (λ x. IsPartedAt span part below i pts x behind) (at.has ∙ points-part below span.start i b part place at.is) at

-- What the walk knows of a slot.
pub record IsStep (span part : SpanValue) (below i : ℕ) (h : Past) (c : Commit) (slot : Slot) (child : Option NodeData) (cut : List RangeValue) (here : List Point) (v : ℕ) : Type 0 where
  pub was : is_inner (suc below) span.start (bag h) ≡ true
  pub holds : IsChild part.height part.start (is_inner (suc below) span.start) h child
  pub slot_is : slot ≡ slot_at (is_inner (suc below) span.start) part.height part.start h
  pub change : IsChange part.height part.start c cut here v

pub step-at : (span part : SpanValue) (below i : ℕ) (h : Past) (c : Commit) (slot : Slot) (child : Option NodeData) (cut : List RangeValue) (added here behind : List Point) (v : ℕ) (x : Slots) → IsApplied below span h c cut added v x → IsPartedAt span part below i added here behind → i < 64 → part ≡ slot_of span i → slot ≡ slot_in x i → child ≡ child_in x i → IsStep span part below i h c slot child cut here v
step-at span part below i h c slot child cut added here behind v x applied at place p q r =
    let known = slot-at span below h i part slot child x applied.height applied.all applied.each place p q r in
    let slot_is : slot ≡ slot_at (is_inner (suc below) span.start) below (slot_start below span.start i) h = q ∙ applied.all.each i place in
    let low = at.low in
    let high = at.high in
    let end : end_of span ≡ span.start +ℤ pos (width (suc below)) = ap (λ k. span.start +ℤ pos (width k)) applied.height in
    record {
      was = many-inner (suc below) span.start (bag h) applied.many;
      holds = known.holds;
      slot_is = subst (λ (u : SpanValue). slot ≡ slot_at (is_inner (suc below) span.start) u.height u.start h) (sym at.is) slot_is;
      change = record {
        number = applied.change.number;
        points = at.has ∙ ap (points_of part.height part.start) applied.change.points ∙ points-part below span.start i c.added part place at.is;
        times = λ t from to. applied.change.times t (omega (arith, ints)) (omega (arith, ints));
      };
    }
