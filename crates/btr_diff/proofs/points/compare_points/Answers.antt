use Rattle.std.specs.Prelude.{ℤ, pos, ◌+ℤ◌, ◌≤ℤ◌, ◌<ℤ◌, ◌||◌, ◌&&◌, Bool, List, [], ◌∷◌, ◌++◌, length, ◌≡◌, ◌+◌, ◌<◌, ℕ, true, false, not, int_lt}
use Rattle.std.specs.List.{filter}
use Rattle.std.specs.Cmp.Lexicographic.{pointwise}
use Rattle.std.proofs.Common.{refl, sym, ap, subst, ◌∙◌, arith, to_z, of_z, w64, SFits, rules}
use Rattle.std.proofs.lemmas.Int.{ints, to_z-of_z}
use Rattle.std.proofs.lemmas.Bool.{not-true}
use Rattle.btr_base.specs.declared.point.Point.{Point}
use Rattle.btr_base.specs.Point.{same_point, InDomain, AreInDomain}
use Rattle.btr_base.specs.Range.{RangeValue, contains, covered}
use Rattle.btr_base.specs.Bag.{IsInOrder}
use Rattle.btr_base.specs.Cut.{lengthened}
use Rattle.btr_base.specs.Changes.{same_points, slot_around}
use Rattle.btr_base.proofs.ListLemmas.{each-weaker, each-both, each-filter, filter-passes}
use Rattle.btr_base.proofs.PointLemmas.{filter-in_order}
use Rattle.btr_diff.specs.declared.comparison.Comparison.{Comparison}
use Rattle.btr_diff.specs.Comparison.{reach, AddsChangedSlots, IsFirstTime, rest_from}
use Rattle.btr_diff.proofs.ChangedSlots.{AllAt, AreParts, Before, From, all-in, is_changed_at-time, adds-none, adds-covered, adds-parts, same_points-true}
use Rattle.btr_diff.proofs.points.compare_points.Goals as goal

-- ---- Equal points.

pointwise-is : (a b : List Point) → pointwise same_point a b ≡ same_points a b
pointwise-is [] [] = refl
pointwise-is [] (r ∷ b) = refl
pointwise-is (q ∷ a) [] = refl
pointwise-is (q ∷ a) (r ∷ b) = ap (λ t. same_point q r && t) (pointwise-is a b)

differ-true : (r : Bool) (a b : List Point) → r ≡ not (pointwise same_point a b) → r ≡ true → same_points a b ≡ false
differ-true r a b e h =
    sym (pointwise-is a b) ∙ not-true (pointwise same_point a b) (sym e ∙ h)

differ-false : (r : Bool) (a b : List Point) → r ≡ not (pointwise same_point a b) → r ≡ false → a ≡ b
differ-false r a b e h =
    let same : pointwise same_point a b ≡ true = grind arith in
    same_points-true a b (sym (pointwise-is a b) ∙ same)

-- ---- The points of the first time, and the others.

time-is : (t u v : ℤ) → u ≡ t +ℤ pos 1 → t ≤ℤ v → v <ℤ u → v ≡ t
time-is t u v e low early = grind (arith, ints)

-- A list is the points from one time up to another, and the later ones.
record IsParted (t u : ℤ) (b here rest : List Point) : Type 0 where
  all : here ++ rest ≡ b
  low : From t here
  before : Before u here
  from : From u rest
  order : IsInOrder rest
  domain : AreInDomain rest
  short : length rest ≡ length (rest_from u b)

parted-is : (t u : ℤ) (b here rest : List Point) → From t b → IsInOrder b → AreInDomain b → here ≡ filter (λ q. int_lt q.time u) b → rest ≡ rest_from u b → here ++ rest ≡ b → IsParted t u b here rest
parted-is t u b here rest low order domain is is_rest all =
    let f : Point → Bool = λ q. int_lt q.time u in
    let g : Point → Bool = λ q. not (int_lt q.time u) in
    record {
      all = all;
      low = subst (From t) (sym is) (each-filter (λ q. t ≤ℤ q.time) f b low);
      before = subst (Before u) (sym is) (each-weaker (λ q. f q ≡ true) (λ q. q.time <ℤ u) (λ q k. grind (arith, ints)) (filter f b) (filter-passes f b));
      from = subst (From u) (sym is_rest) (each-weaker (λ q. g q ≡ true) (λ q. u ≤ℤ q.time) (λ q k. grind (arith, ints)) (filter g b) (filter-passes g b));
      order = subst IsInOrder (sym is_rest) (filter-in_order g b order);
      domain = subst AreInDomain (sym is_rest) (each-filter (λ q. InDomain q.time) g b domain);
      short = ap length is_rest;
    }

-- The points up to the next time are those of the time.
at-time : (t u : ℤ) (b : List Point) → u ≡ t +ℤ pos 1 → From t b → Before u b → AllAt t b
at-time t u b e h k =
    each-weaker (λ q. (t ≤ℤ q.time) × (q.time <ℤ u)) (λ q. q.time ≡ t) (λ q both. time-is t u q.time e both.0 both.1) b (each-both (λ q. t ≤ℤ q.time) (λ q. q.time <ℤ u) b h k)

-- Both lists are the points of the first time, and the later ones.
record AreParted (t u : ℤ) (a b a_here a_rest b_here b_rest : List Point) : Type 0 where
  next : u ≡ t +ℤ pos 1
  left : IsParted t u a a_here a_rest
  right : IsParted t u b b_here b_rest

both-parted : (t u : ℤ) (a b a_here a_rest b_here b_rest : List Point) → IsFirstTime t a b → IsInOrder a → IsInOrder b → AreInDomain a → AreInDomain b → u ≡ t +ℤ pos 1 → a_here ≡ filter (λ q. int_lt q.time u) a → a_rest ≡ rest_from u a → a_here ++ a_rest ≡ a → b_here ≡ filter (λ q. int_lt q.time u) b → b_rest ≡ rest_from u b → b_here ++ b_rest ≡ b → AreParted t u a b a_here a_rest b_here b_rest
both-parted t u a b a_here a_rest b_here b_rest first p q m n e v w x y z all =
    record {
      next = e;
      left = parted-is t u a a_here a_rest first.a_from p m v w x;
      right = parted-is t u b b_here b_rest first.b_from q n y z all;
    }

-- What is left is less.
fewer-left : (t u : ℤ) (a b a_here a_rest b_here b_rest : List Point) → IsFirstTime t a b → AreParted t u a b a_here a_rest b_here b_rest → length a_rest + length b_rest < length a + length b
fewer-left t u a b a_here a_rest b_here b_rest first h =
    let short_a : length a_rest ≡ length (rest_from (t +ℤ pos 1) a) = h.left.short ∙ ap (λ v. length (rest_from v a)) h.next in
    let short_b : length b_rest ≡ length (rest_from (t +ℤ pos 1) b) = h.right.short ∙ ap (λ v. length (rest_from v b)) h.next in
    let fewer = first.fewer in
    omega arith

-- ---- One time more.

or-swap : (a b : Bool) → (a || b) ≡ (b || a)
or-swap a b = grind arith

-- What the points of one time add.
adds-time : (by : Comparison) (t : ℤ) (was now : List RangeValue) (a b : List Point) (s : RangeValue) → AllAt t a → AllAt t b → same_points a b ≡ false → InDomain t → s ≡ reach by t → ((v : ℤ) → covered now v ≡ (contains s v || covered was v)) → AddsChangedSlots by was now a b
adds-time by t was now a b s h k differ inside is more =
    record {
      times = λ v.
          more v
          ∙ ap (λ r. contains r v || covered was v) is
          ∙ or-swap (contains (reach by t) v) (covered was v)
          ∙ ap (λ x. covered was v || x) (sym (is_changed_at-time by a b v t h k differ inside));
    }

slot-same : (p : ℕ) (t u : ℤ) (s : RangeValue) → s ≡ slot_around p t → t ≡ u → s ≡ slot_around p u
slot-same p t u s is e = is ∙ ap (slot_around p) e

from-later : (t u : ℤ) (b : List Point) → t ≤ℤ u → From u b → From t b
from-later t u b low h = each-weaker (λ q. u ≤ℤ q.time) (λ q. t ≤ℤ q.time) (λ q k. omega (arith, ints)) b h

-- What the points up to a time and the later ones add.
adds-step : (by : Comparison) (t u : ℤ) (was mid now : List RangeValue) (a here rest b here_b rest_b : List Point) → IsParted t u a here rest → IsParted t u b here_b rest_b → AddsChangedSlots by was mid here here_b → AddsChangedSlots by mid now rest rest_b → AddsChangedSlots by was now a b
adds-step by t u was mid now a here rest b here_b rest_b h k first others =
    let parts : AreParts u here here_b rest rest_b = record { a_before = h.before; b_before = k.before; c_from = h.from; d_from = k.from } in
    subst (λ x. AddsChangedSlots by was now x b) h.all (subst (AddsChangedSlots by was now (here ++ rest)) k.all (adds-parts by was mid now u here here_b rest rest_b parts first others))

-- ---- A slot more.

-- What the points of a slot and the later ones add, if two lists differ at the first time.
adds-slot : (by : Comparison) (t u m : ℤ) (was mid now : List RangeValue) (s r : RangeValue) (a here rest more later b here_b rest_b more_b later_b : List Point) → AreParted t u a b here rest here_b rest_b → IsParted u m rest more later → IsParted u m rest_b more_b later_b → same_points here here_b ≡ false → InDomain t → s ≡ slot_around by.p t → m ≡ s.to → r ≡ lengthened by.lead s → ((v : ℤ) → covered mid v ≡ (contains r v || covered was v)) → AddsChangedSlots by mid now later later_b → AddsChangedSlots by was now a b
adds-slot by t u m was mid now s r a here rest more later b here_b rest_b more_b later_b both h k differ inside is to longer adds others =
    let at = at-time t u here both.next both.left.low both.left.before in
    let at_b = at-time t u here_b both.next both.right.low both.right.before in
    let reaches : r ≡ reach by t = longer ∙ ap (lengthened by.lead) is in
    let first = adds-time by t was mid here here_b r at at_b differ inside reaches adds in
    let next = both.next in
    let late : t ≤ℤ u = omega (arith, ints) in
    let end : m ≡ (slot_around by.p t).to = to ∙ ap (λ (r : RangeValue). r.to) is in
    let slot = λ (v : ℤ) (e : contains (reach by t) v ≡ true). adds v ∙ ap (λ (x : RangeValue). contains x v || covered was v) reaches ∙ ap (λ x. x || covered was v) e in
    let same = adds-covered by mid (reach by t) more more_b slot (all-in by t m more inside.0 end (from-later t u more late h.low) h.before) (all-in by t m more_b inside.0 end (from-later t u more_b late k.low) k.before) in
    adds-step by t u was mid now a here rest b here_b rest_b both.left both.right first (adds-step by u m mid mid now rest more later rest_b more_b later_b h k same others)

-- ---- The goals.

pub parted_near-requires-then-ne : goal.parted_near-requires-then-ne
parted_near-requires-then-ne c =
    let i = c.loop-time.invariant in
    subst IsInOrder (sym c.parted_near.ensures.from) (filter-in_order (λ q. not (int_lt q.time _)) c.loop-time.old_left.now i.old_order)

pub parted_near-requires-then-ne-2 : goal.parted_near-requires-then-ne-2
parted_near-requires-then-ne-2 c =
    let i = c.loop-time.invariant in
    subst IsInOrder (sym c.parted_near-in-Some.ensures.from) (filter-in_order (λ q. not (int_lt q.time _)) c.loop-time.new_left.now i.new_order)

pub loop-time-preserved-then-ne : goal.loop-time-preserved-then-ne
loop-time-preserved-then-ne c =
    let i = c.loop-time.invariant in
    let t = c.in-Some.time in
    let first = c.in-Some.ensures in
    let inside = first.inside i.old_domain i.new_domain in
    let low = inside.0 in
    let high = inside.1 in
    let both = both-parted t _ c.loop-time.old_left.now c.loop-time.new_left.now _ _ _ _ first i.old_order i.new_order i.old_domain i.new_domain (omega (arith, ints)) c.parted_near.ensures.before c.parted_near.ensures.from c.parted_near.ensures.all c.parted_near-in-Some.ensures.before c.parted_near-in-Some.ensures.from c.parted_near-in-Some.ensures.all in
    let old_later = parted-is _ _ c.parted_near.result.1.now _ _ both.left.from both.left.order both.left.domain c.parted_near-then-ne.ensures.before c.parted_near-then-ne.ensures.from c.parted_near-then-ne.ensures.all in
    let new_later = parted-is _ _ c.parted_near-in-Some.result.1.now _ _ both.right.from both.right.order both.right.domain c.parted_near-then-ne-2.ensures.before c.parted_near-then-ne-2.ensures.from c.parted_near-then-ne-2.ensures.all in
    let slot = slot-same c.args.comparison.p (to_z w64 (of_z w64 t)) t c.slot_around-slot.result c.slot_around-slot.ensures (omega (arith, ints)) in
    let fits : SFits w64 c.slot.inside.to = search rules in
    let end : to_z w64 (of_z w64 c.slot.inside.to) ≡ c.slot_around-slot.result.to = to_z-of_z w64 c.slot.inside.to fits ∙ ap (λ r. r.to) c.slot.view_is in
    record {
      old_order = old_later.order;
      new_order = new_later.order;
      old_domain = old_later.domain;
      new_domain = new_later.domain;
      times = λ now more.
          i.times now (adds-slot c.args.comparison t _ _ c.loop-time.out c.add.new.self now c.slot_around-slot.result c.lengthened.result c.loop-time.old_left.now c.parted_near.result.0.now c.parted_near.result.1.now c.parted_near-then-ne.result.0.now c.parted_near-then-ne.result.1.now c.loop-time.new_left.now c.parted_near-in-Some.result.0.now c.parted_near-in-Some.result.1.now c.parted_near-then-ne-2.result.0.now c.parted_near-then-ne-2.result.1.now both old_later new_later (differ-true c.ne.result c.parted_near.result.0.now c.parted_near-in-Some.result.0.now c.ne.ensures c.if-ne.true) inside slot end c.lengthened.ensures c.in_ok-add.ensures.times more);
    }

pub loop-time-preserved : goal.loop-time-preserved
loop-time-preserved c =
    let i = c.loop-time.invariant in
    let t = c.in-Some.time in
    let first = c.in-Some.ensures in
    let inside = first.inside i.old_domain i.new_domain in
    let low = inside.0 in
    let high = inside.1 in
    let both = both-parted t _ c.loop-time.old_left.now c.loop-time.new_left.now _ _ _ _ first i.old_order i.new_order i.old_domain i.new_domain (omega (arith, ints)) c.parted_near.ensures.before c.parted_near.ensures.from c.parted_near.ensures.all c.parted_near-in-Some.ensures.before c.parted_near-in-Some.ensures.from c.parted_near-in-Some.ensures.all in
    let same = differ-false c.ne.result c.parted_near.result.0.now c.parted_near-in-Some.result.0.now c.ne.ensures c.if-ne.false in
    record {
      old_order = both.left.order;
      new_order = both.right.order;
      old_domain = both.left.domain;
      new_domain = both.right.domain;
      times = λ now more.
          i.times now (adds-step c.args.comparison t _ c.loop-time.out c.loop-time.out now c.loop-time.old_left.now c.parted_near.result.0.now c.parted_near.result.1.now c.loop-time.new_left.now c.parted_near-in-Some.result.0.now c.parted_near-in-Some.result.1.now both.left both.right (subst (AddsChangedSlots c.args.comparison c.loop-time.out c.loop-time.out c.parted_near.result.0.now) same (adds-none c.args.comparison c.loop-time.out c.parted_near.result.0.now)) more);
    }

pub loop-time-smaller : goal.loop-time-smaller
loop-time-smaller c =
    let i = c.loop-time.invariant in
    let t = c.in-Some.time in
    let first = c.in-Some.ensures in
    let inside = first.inside i.old_domain i.new_domain in
    let low = inside.0 in
    let high = inside.1 in
    let both = both-parted t _ c.loop-time.old_left.now c.loop-time.new_left.now _ _ _ _ first i.old_order i.new_order i.old_domain i.new_domain (omega (arith, ints)) c.parted_near.ensures.before c.parted_near.ensures.from c.parted_near.ensures.all c.parted_near-in-Some.ensures.before c.parted_near-in-Some.ensures.from c.parted_near-in-Some.ensures.all in
    fewer-left t _ c.loop-time.old_left.now c.loop-time.new_left.now _ _ _ _ first both

pub returns : goal.returns
returns c =
    let empty = c.in_default.ensures in
    let none : AddsChangedSlots c.args.comparison c.loop-time.out c.loop-time.out [] [] = adds-none c.args.comparison c.loop-time.out [] in
    c.loop-time.invariant.times c.loop-time.out (subst (λ x. AddsChangedSlots c.args.comparison c.loop-time.out c.loop-time.out x c.loop-time.new_left.now) (sym empty.0) (subst (AddsChangedSlots c.args.comparison c.loop-time.out c.loop-time.out []) (sym empty.1) none))
